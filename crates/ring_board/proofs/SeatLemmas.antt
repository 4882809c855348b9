-- What stays for the other seats, when one of them steps.
use Rattle.std.proofs.Common.{◌≡◌, ℕ, suc, ◌%◌, ◌≤◌, List, [], ◌∷◌, ◌++◌, length, set, refl, sym, ap, ◌∙◌, subst, inl, inr, ⊎_elim, arith}
use Rattle.std.proofs.Math.{Option.some, Option.some-injective, ListN.get_elem?}
use Rattle.atomic_table.specs.Table.{State}
use Rattle.atomic_table.proofs.Lists.{set_here, at_longer, at_last, at_snoc}
use Rattle.ring_layout.specs.Places.{room}
use Rattle.ring_board.specs.declared.shared.view.{Record.Record, Taken.Taken, View.View, Load.Load, Stage.Stage}
use Rattle.ring_board.specs.declared.shared.view.Load.TheVariants.{Word, Intent, Tail, Latest}
use Rattle.ring_board.specs.declared.shared.view.Stage.TheVariants.{Spent, Idle, Begun, Storing, Written, Shown, Resting, Sure, Headed, Padded, Again, Reading, Behind}
use Rattle.ring_layout.proofs.{Sums.total-set, ListLemmas.at_below, ListLemmas.each_set}
use Rattle.ring_board.specs.{Records.end, Records.Follows, Records.end_of, Records.stores, TransmitterSteps.sent_on}
use Rattle.ring_board.specs.{Runs.Neighbours, Runs.AreAllRuns, Runs.AreRuns, Views.at_stage, Views.view_shares}
use Rattle.ring_board.specs.Rule.{intent, latest, with_latest, Receives, IsSeat, Knows, LoadOk, Logged, IsMemory, IsBoard, Holds}
use Rattle.ring_board.proofs.PlaceLemmas.{end_snoc, last_snoc, lies_after, lies_cases, lies_whole}
use Rattle.ring_board.proofs.StoreLemmas.{stores_where}

-- Longer lists -------------------------------------------------------------

copies_more : (sent : List Record) (r : Record) (a b : Taken) → Neighbours sent a b → Neighbours (sent ++ r ∷ []) a b
copies_more sent r a b h = record {
  rises = h.rises;
  counts = h.counts;
  joined = λ e. let j =
      h.joined e in (
        j.0,
        j.1,
        j.2,
        at_longer sent (r ∷ []) j.0 j.1 j.3,
        at_longer sent (r ∷ [])
            (suc j.0) j.2 j.4,
        j.5,
        j.6,
      );
}

-- runs of a list are runs of a longer one
pub runs_more : (sent : List Record) (r : Record) (from : ℕ) (copies : List Taken) → AreRuns sent from copies
    → AreRuns (sent ++ r ∷ []) from copies
runs_more sent r from copies h = record {
  entries = λ i c e. let x = h.entries i c e in (x.0, x.1, at_longer sent (r ∷ []) x.0 x.1 x.2, x.3);
  follow = λ i a b e f. copies_more sent r a b (h.follow i a b e f);
  first = h.first;
}

-- the first record of a broadcast buffer is at its start
pub starts_there : (C e : ℕ) (r : Record) → 256 ≤ C → C % 64 ≡ 0 → e % C ≡ 0 → Follows C e r → r.place ≡ e
starts_there C e r roomy whole al f = let b : r.before ≡ e = f.fits.begins in let sh = f.fits.short in
    ⊎_elim (λ t. t.0 ∙ b) (λ t. let d = t.1 in let same : room C r.before ≡ C = ap (room C) b
    ∙ (let z : room C e ≡ C = omega arith in z) in
    absurd (omega arith)) (lies_cases C e r.before r.place (end r) f.fits roomy whole)

module _ (C e : ℕ) (sent : List Record) (r : Record) (roomy : 256 ≤ C) (whole : C % 64 ≡ 0) (al : e % C ≡ 0)
    (f : Follows C (end_of e sent) r) where
  pub receives_more : (v : View) → Receives e sent sent v → Receives e sent (sent ++ r ∷ []) v
  receives_more v h = record {
    before = ⊎_elim (λ t. inl (t.0, at_longer sent (r ∷ []) v.next t.0 t.1, t.2))
        (λ t. inl (r, at_last sent r v.next (sym t.0), inr (t.1 ∙ sym f.fits.begins))) h.before;
    climbs = h.climbs;
    past = λ i c at la. let p = h.past i c at la in (p.0, p.1, λ same. let q = p.2 same in (q.0, q.1, q.2, q.3, q.4));
    fresh = λ none zero. let q = h.fresh none zero in (
      q.0,
      ⊎_elim (λ t. inl (t.0, at_longer sent (r ∷ []) v.next t.0 t.1, t.2))
          (λ t. inl (
            r,
            at_last sent r v.next (ap length t.0 ∙ sym t.1),
            t.2
                ∙ sym (starts_there C e r roomy whole al (subst (λ (x : ℕ). Follows C x r) (ap (end_of e) t.0) f)),
          )) q.1,
    );
  }

pub sent_more : (e : ℕ) (sent all : List Record) (r : Record) (v : View) → Receives e sent all v
    → Receives e (sent ++ r ∷ []) all v
sent_more e sent all r v h = record {
  before = h.before;
  climbs = h.climbs;
  past = λ i c at la. let p = h.past i c at
      la in (p.0, p.1, λ same. let q = p.2 same in (q.0, q.1, q.2, at_longer sent (r ∷ []) q.0 q.1 q.3, q.4));
  fresh = h.fresh;
}

-- Other seats --------------------------------------------------------------

module _ (C e by : ℕ) (mine mine' : View)
    (grow : (v : View) → Receives e mine.sent (with_latest mine.sent mine.stage) v
    → Receives e mine'.sent (with_latest mine'.sent mine'.stage) v)
    (more : (k : ℕ) (r : Record) → get_elem? mine.sent k ≡ some r → get_elem? mine'.sent k ≡ some r)
    (later : intent e mine.sent mine.stage ≤ intent e mine'.sent mine'.stage) where
  pub knows_moves : (j : ℕ) (v : View) (st : Stage) → Knows C e by mine j v st → Knows C e by mine' j v st
  knows_moves j v Spent h = tt
  knows_moves j v Idle h = h
  knows_moves j v (Begun d) h = h
  knows_moves j v (Storing d) h = h
  knows_moves j v (Written r) h = h
  knows_moves j v (Shown r) h = h
  knows_moves j v Resting h = (h.0, grow v h.1, tt)
  knows_moves j v Sure h = let k = h.2 in (h.0, grow v h.1, (k.0, more v.next k.0 k.1, k.2))
  knows_moves j v (Headed w) h =
      let k = h.2 in (h.0, grow v h.1, (k.0, more v.next k.0 k.1, (k.2.0, λ lt. k.2.1 (omega arith))))
  knows_moves j v (Padded w) h = let k = h.2 in (h.0, grow v h.1, (k.0, more v.next k.0 k.1, k.2))
  knows_moves j v (Again w) h =
      let k = h.2 in (h.0, grow v h.1, (k.0, more v.next k.0 k.1, (k.2.0, λ lt. k.2.1 (omega arith))))
  knows_moves j v (Reading w ws) h =
      let k = h.2 in (h.0, grow v h.1, (k.0, more v.next k.0 k.1, (k.2.0, k.2.1, λ lt. k.2.2 (omega arith))))
  knows_moves j v Behind h = let k = h.2 in (h.0, grow v h.1, (k.0, more v.next k.0 k.1, (let f = k.2 in omega arith)))

-- what was loaded stays right if the counters rise
pub loads_rise : (C e : ℕ) (sent : List Record) (st st' : Stage) → intent e sent st ≤ intent e sent st'
    → latest e sent st ≤ latest e sent st'
    → (l : Load) → LoadOk C e sent st l → LoadOk C e sent st' l
loads_rise C e sent st st' a b (Intent x) h = omega arith
loads_rise C e sent st st' a b (Tail x) h = h
loads_rise C e sent st st' a b (Latest x) h = omega arith
loads_rise C e sent st st' a b (Word i t w) h =
    (h.0, λ k r on j y at is below now. h.1 k r on j y at is below (omega arith))

-- and if the tail takes in a record
pub loads_sent : (C e : ℕ) (sent : List Record) (r : Record) → 256 ≤ C → C % 64 ≡ 0 → Follows C (end_of e sent) r
    → (l : Load)
    → LoadOk C e sent (Shown r) l → LoadOk C e (sent ++ r ∷ []) Idle l
loads_sent C e sent r roomy whole f (Intent x) h = let s = end_snoc e sent r in omega arith
loads_sent C e sent r roomy whole f (Tail x) h =
    let s = end_snoc e sent r in let l = f.fits in let a =
    lies_after C (end_of e sent) r.before r.place (end r) l roomy whole in let b = l.begins in
    let so = l.some_room in omega arith
loads_sent C e sent r roomy whole f (Latest x) h = let s = last_snoc e sent r in omega arith
loads_sent C e sent r roomy whole f (Word i t w) h =
    let s = end_snoc e sent r in let l = f.fits in let a =
    lies_after C (end_of e sent) r.before r.place (end r) l roomy whole in let b = l.begins in
    let so = l.some_room in let le = h.0 in (
      omega arith,
      λ k q on j y at is below now. ⊎_elim (λ old. h.1 k q old j y at is below (omega arith))
          (λ (new : r ≡ q). let w = stores_where r j y l.begins_whole
          (lies_whole C (end_of e sent) r.before r.place (end r) l roomy whole) a
          (subst (λ (u : Record). get_elem? (stores u) j ≡ some y) (sym new) at) in
          let w0 = w.0 in absurd (omega arith)) (at_snoc sent r q k on),
    )

-- The transmitter's seat ---------------------------------------------------

abbrev pub St : Type 0
St = State (Unit {0}) View

-- views of one seat that differ in stage, place and list alone
pub record AreAlike (v w : View) : Type 0 where
  pub capacity : w.capacity ≡ v.capacity
  pub start : w.start ≡ v.start
  pub from : w.from ≡ v.from
  pub copies : w.copies ≡ v.copies
  pub shares : w.shares ≡ v.shares
  pub log : w.log ≡ v.log
  pub heard : w.heard ≡ v.heard

pub staged_alike : (v : View) (st : Stage) → AreAlike v (at_stage v st)
staged_alike v st =
    record { capacity = refl; start = refl; from = refl; copies = refl; shares = refl; log = refl; heard = refl }

pub sent_alike : (v : View) (r : Record) → AreAlike v (sent_on v r)
sent_alike v r =
    record { capacity = refl; start = refl; from = refl; copies = refl; shares = refl; log = refl; heard = refl }

module _ (C e : ℕ) where
  -- the seat whose stage is one of the transmitter's is the transmitter's
  pub owner : (s : St) → Holds C e s → (id : ℕ) (me : View) (st : Stage)
      → ((by : ℕ) (mine : View) → Knows C e by mine id me st → id ≡ by)
      → get_elem? s.views id ≡ some me → me.stage ≡ st → IsBoard C e id me s
  owner s b id me st is at eq =
      let r = b.2 in let k = is b.0 b.1 (subst (Knows C e b.0 b.1 id me) eq (r.seated.each id me at).knows) in
      let same : b.1 ≡ me = some-injective b.1 me (sym r.seated.here ∙ (ap (get_elem? s.views) (sym k) ∙ at)) in
      subst (λ (t : ℕ × View). IsBoard C e t.0 t.1 s) (λ i. (sym k i, same i)) r

  module _ (s : St) (id : ℕ) (me w : View) (h : IsBoard C e id me s) (ws : List ℕ) where
    -- the rule after a step of the transmitter
    pub rebuilt : IsMemory C e w.sent w.stage ws → w.at ≡ end_of e w.sent
        → Knows C e id w id w w.stage → ((j : ℕ) (v : View) → Knows C e id me j v v.stage → Knows C e id w j v v.stage)
        → ((v : View) → AreRuns me.sent v.from v.copies → AreRuns w.sent v.from v.copies)
        → ((l : Load) → LoadOk C e me.sent me.stage l → LoadOk C e w.sent w.stage l) → AreAlike me w
        → IsBoard C e id w record { words = ws; homes = s.homes; views = set s.views id w }
    rebuilt memory behind mine others runs loads alike = let seats = h.seated in let here = seats.here in record {
      lawful = h.lawful;
      memory = memory;
      seated = record {
        here = set_here s.views id w (at_below s.views id me here);
        capacity = alike.capacity ∙ seats.capacity;
        started = alike.start ∙ seats.started;
        behind = behind;
        each = each_set (IsSeat C e id w) s.views id w
            (let a = seats.each id me here in record {
              knows = mine;
              copies = subst (λ (x : ℕ × List Taken). AreRuns w.sent x.0 x.1)
                  (λ k. (sym alike.from k, sym alike.copies k)) (runs me a.copies);
              log = subst (Logged C e w.sent w.stage) (sym alike.log) (λ i l on. loads l (a.log i l on));
            })
            (λ j v _ at. let a = seats.each j v at in
            record { knows = others j v a.knows; copies = runs v a.copies; log = λ i l on. loads l (a.log i l on) });
        joined = subst (AreAllRuns w.sent) (sym alike.heard)
            (λ i j on. runs record me { from = j.from; copies = j.copies } (seats.joined i j on));
        shares =
            (let a = total-set view_shares s.views id me w here in
            let b = seats.shares in
            let c = alike.shares in
            omega arith);
      };
    }
