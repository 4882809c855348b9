-- What a receiver loads is right, or the intent has passed its place.
use Rattle.std.proofs.Common.{◌≡◌, ◌≢◌, ℕ, zero, suc, ◌+◌, ◌-◌, ◌*◌, ◌<◌, ◌≤◌, ◌⊎◌, cond, ltb, Bool, List, [], ◌∷◌, ◌++◌, take, length, get_or, set, refl, sym, ap, ◌∙◌, subst, inl, inr, ⊎_elim, arith, length-append, ltb-true, lt-ltb}
use Rattle.std.proofs.lemmas.Bool.{cases_lt, cond_both}
use Rattle.std.proofs.Math.{Option.some, Option.some-injective, Option.some-ne-none, ListN.get_elem?, Seq.set-get_or}
use Rattle.atomic_table.specs.Table.{keeps, stepped}
use Rattle.atomic_table.proofs.Lists.{at_longer, at_last, at_snoc, set_else}
use Rattle.ring_layout.specs.{Places.index, Headers.padding_header}
use Rattle.ring_board.specs.declared.shared.view.{Record.Record, Taken.Taken, View.View, Load.Load, Stage.Stage}
use Rattle.ring_board.specs.declared.shared.view.Load.TheVariants.{Intent, Tail, Latest, Word}
use Rattle.ring_board.specs.declared.shared.view.Stage.TheVariants.{Resting, Sure, Padded, Reading}
use Rattle.ring_board.specs.Records.{end, Follows, end_of, words_of_body, word_count, placed_words, header_of, announced, body_len, gap, filled, stores}
use Rattle.ring_board.specs.{Runs.AreRuns, Views.logged, Views.word_load, Views.last_tail, Views.view_shares}
use Rattle.ring_board.specs.Rule.{LoadOk, IsSeat, Logged, intent, with_latest, Running, Before, IsHeader, Next, Knows, IsBoard, Holds}
use Rattle.ring_board.specs.ReceiverSteps.{tail_loaded, header_loaded}
use Rattle.ring_board.proofs.{PlaceLemmas.lies_after, PlaceLemmas.lies_needed, PlaceLemmas.chain_at, SeatLemmas.St}
use Rattle.ring_board.proofs.StoreLemmas.{at_behind, placed_at, words_long}
use Rattle.ring_board.proofs.ByteLemmas.{announced_header, announced_padding}
use Rattle.ring_layout.proofs.{Sums.total-set, ListLemmas.each_set}
use Rattle.ring_board.proofs.ShownLemmas.{shown_at, shown_has, shown_end}

take_next : (l : List ℕ) (k : ℕ) → k < length l → take (suc k) l ≡ take k l ++ get_or l k 0 ∷ []
take_next [] k h = absurd (omega arith)
take_next (x ∷ xs) zero h = refl
take_next (x ∷ xs) (suc k) h = ap (λ m. x ∷ m) (take_next xs k (omega arith))

-- Where the stores of a record are ---------------------------------------

abbrev body_of : Record → List ℕ
body_of r = words_of_body r.message.body

pub gap_at : (r : Record) → r.before < r.place
    → get_elem? (stores r) 0 ≡ some (r.before, padding_header (r.place - r.before))
gap_at r lt = ap (λ (b : Bool). get_elem?
    ((cond b ((r.before, padding_header (r.place - r.before)) ∷ []) [] ++ placed_words (r.place + 8) (body_of r)) ++
    (r.place, header_of r.message) ∷ []) 0) (lt-ltb r.before r.place lt)

pub header_at : (r : Record) → get_elem? (stores r) (length (filled r.before r.place (body_of r)))
    ≡ some (r.place, header_of r.message)
header_at r = at_last (filled r.before r.place (body_of r)) (r.place, header_of r.message)
    (length (filled r.before r.place (body_of r))) refl

pub word_at : (r : Record) (j : ℕ) → j < length (body_of r)
    → get_elem? (stores r) (length (gap r.before r.place) + j) ≡ some
    (r.place + 8 + 8 * j, get_or (body_of r) j 0)
word_at r j lt = at_longer (filled r.before r.place (body_of r)) ((r.place, header_of r.message) ∷ [])
    (length (gap r.before r.place) + j)
    (r.place + 8 + 8 * j, get_or (body_of r) j 0)
    (at_behind (gap r.before r.place) (placed_words (r.place + 8) (body_of r)) j
    (r.place + 8 + 8 * j, get_or (body_of r) j 0)
    (placed_at (r.place + 8) (body_of r) j lt))

-- a tail that was loaded is not beyond the present one
tail_known : (C e : ℕ) (sent : List Record) (st : Stage) (log : List Load) (t : ℕ) → t ≤ end_of e sent
    → Logged C e sent st log
    → last_tail log t ≤ end_of e sent
tail_known C e sent st [] t le h = le
tail_known C e sent st (Tail x ∷ ls) t le h = tail_known C e sent st ls x (h 0 (Tail x) refl) (λ i l on. h (suc i) l on)
tail_known C e sent st (Word i u w ∷ ls) t le h = tail_known C e sent st ls t le (λ i l on. h (suc i) l on)
tail_known C e sent st (Intent x ∷ ls) t le h = tail_known C e sent st ls t le (λ i l on. h (suc i) l on)
tail_known C e sent st (Latest x ∷ ls) t le h = tail_known C e sent st ls t le (λ i l on. h (suc i) l on)

module _ (C e : ℕ) (s : St) (by : ℕ) (mine : View) (h : IsBoard C e by mine s) (id : ℕ) (v : View)
    (at : get_elem? s.views id ≡ some v) where
  -- a seat whose stage is no transmitter's is another
  pub other_seat : (st : Stage) → v.stage ≡ st → (Running C (end_of e mine.sent) s.words st → ⊥) → id ≢ by
  other_seat st eq never is = never (subst (Running C (end_of e mine.sent) s.words)
      (ap (λ (x : View). x.stage) (some-injective mine v (sym h.seated.here ∙ (ap (get_elem? s.views) (sym is) ∙ at)))
      ∙ eq) h.memory.running)

  -- the rule after a load by a receiver
  pub looked : (w : View) → id ≢ by → Knows C e by mine id w w.stage → AreRuns mine.sent w.from w.copies
      → w.shares ≡ v.shares
      → Logged C e mine.sent mine.stage w.log → (i : ℕ) (cs : List (ℕ × (Unit {0})))
      → Holds C e (stepped s i (get_or s.words i 0) id cs w keeps)
  looked w ne mine_knows runs shares logs i cs =
      subst (λ (ws : List ℕ). Holds C e record { words = ws; homes = s.homes; views = set s.views id w })
      (sym (set-get_or s.words i 0)) (
        by,
        mine,
        record {
          lawful = h.lawful;
          memory = h.memory;
          seated = let seats = h.seated in record {
            here = set_else s.views id by w (λ e. ne (sym e)) ∙ seats.here;
            capacity = seats.capacity;
            started = seats.started;
            behind = seats.behind;
            each =
                each_set (IsSeat C e by mine) s.views id w (record { knows = mine_knows; copies = runs; log = logs })
                (λ j u _ on. seats.each j u on);
            joined = seats.joined;
            shares = let a = total-set view_shares s.views id v w at in let b = seats.shares in omega arith;
          };
        },
      )

  pub log_more : (l : Load) → LoadOk C e mine.sent mine.stage l → Logged C e mine.sent mine.stage (v.log ++ l ∷ [])
  log_more l k j x on = ⊎_elim (λ t. (h.seated.each id v at).log j x t)
      (λ (is : l ≡ x). subst (LoadOk C e mine.sent mine.stage) is k) (at_snoc v.log l x j on)

  -- the load of a word of the buffer
  pub word_ok : (i t x : ℕ) → t ≤ end_of e mine.sent → x ≡ get_or s.words i 0
      → LoadOk C e mine.sent mine.stage (Word i t x)
  word_ok i t x le is = (
    le,
    λ c r on j y on_y there below now. is
        ∙ (ap (λ (q : ℕ). get_or s.words q 0) (sym there) ∙ h.memory.valid c r on j y on_y now),
  )

  pub tail_seen : last_tail v.log 0 ≤ end_of e mine.sent
  tail_seen = tail_known C e mine.sent mine.stage v.log 0 (omega arith) (h.seated.each id v at).log

  pub word_logged : (i x : ℕ) → x ≡ get_or s.words i 0 → Logged C e mine.sent mine.stage (v.log ++ word_load v i x ∷ [])
  word_logged i x is = log_more (word_load v i x) (word_ok i (last_tail v.log 0) x tail_seen is)

  pub knows : (st : Stage) → v.stage ≡ st → Knows C e by mine id v st
  knows st eq = subst (Knows C e by mine id v) eq (h.seated.each id v at).knows

  abbrev pub all : List Record
  all = with_latest mine.sent mine.stage

  abbrev pub now : ℕ
  now = intent e mine.sent mine.stage

  pub same_runs : (w : View) → w.from ≡ v.from → w.copies ≡ v.copies → AreRuns mine.sent w.from w.copies
  same_runs w from copies = subst (λ (x : ℕ × List Taken). AreRuns mine.sent x.0 x.1) (λ k. (sym from k, sym copies k))
      (h.seated.each id v at).copies

  -- a load between two calls, which changes nothing but the log
  pub load_keeps : v.stage ≡ Resting → (l : Load) → LoadOk C e mine.sent mine.stage l
      → (i : ℕ) (cs : List (ℕ × (Unit {0})))
      → Holds C e (stepped s i (get_or s.words i 0) id cs (logged v l) keeps)
  load_keeps eq l ok i cs = let k = knows Resting eq in let u : View = logged v l in
      looked u (other_seat Resting eq (λ b. b)) (subst (Knows C e by mine id u) (sym eq)
      (k.0, record { before = k.1.before; climbs = k.1.climbs; past = k.1.past; fresh = k.1.fresh }, tt))
      (same_runs u refl refl) refl (log_more l ok) i cs

  -- The tail
  pub tail_keeps : v.stage ≡ Resting → (x i : ℕ) (cs : List (ℕ × (Unit {0}))) → x ≡ end_of e mine.sent
      → Holds C e (stepped s i (get_or s.words i 0) id cs (tail_loaded v x) keeps)
  tail_keeps eq x i cs is = let k = knows Resting eq in looked (tail_loaded v x) (other_seat Resting eq (λ b. b))
      (cond_both (ltb v.at x) Sure Resting (λ st. Knows C e by mine id (record (tail_loaded v x) { stage = st }) st)
      (λ t. (
        k.0,
        record { before = k.1.before; climbs = k.1.climbs; past = k.1.past; fresh = k.1.fresh },
        (let lt : v.at < end_of e mine.sent = (let f = ltb-true v.at x t in
            omega arith) in sure k.1.before lt),
      ))
      (λ f. (k.0, record { before = k.1.before; climbs = k.1.climbs; past = k.1.past; fresh = k.1.fresh }, tt)))
      (same_runs (tail_loaded v x) refl refl) refl (log_more (Tail x) (omega arith)) i cs
    where
      sure : Before e all v.at v.next → v.at < end_of e mine.sent
          → Next C now mine.sent v.at v.next (λ r. (v.at ≡ r.place) ⊎ ((v.at ≡ r.before) × (r.before < r.place)))
      sure b lt = ⊎_elim (λ t. let q : Record = t.0 in ⊎_elim
          (λ old. let c = chain_at C h.lawful.roomy h.lawful.whole e mine.sent h.memory.chain v.next q old in
          let a = lies_after C q.before q.before q.place (end q) c.0.fits h.lawful.roomy h.lawful.whole in (
            q,
            old,
            ⊎_elim (λ p. inl p) (λ p. ⊎_elim (λ l. inr (p, l)) (λ l. inl (let g : v.at ≡ q.place = omega arith in
                g)) (cases_lt q.before q.place)) t.2,
          ))
          (λ f. let l = f.fits in let a = lies_after C (end_of e mine.sent) q.before q.place
          (end q) l h.lawful.roomy h.lawful.whole in let b = l.begins in
          absurd (⊎_elim (λ (p : v.at ≡ q.place). let g : ⊥ = omega arith in g)
          (λ (p : v.at ≡ q.before). let g : ⊥ = omega arith in g) t.2))
          (shown_at C e h.lawful.roomy h.lawful.whole s.words mine.sent mine.stage h.memory.running v.next q t.1))
          (λ t. let g = shown_end C e h.lawful.roomy h.lawful.whole s.words mine.sent mine.stage
          h.memory.running in let f = t.1 in absurd (omega arith)) b

  -- The header at the place of an entry, or of a padding before it
  heard_right : (r : Record) (k : ℕ) → get_elem? mine.sent k ≡ some r → (p x : ℕ)
      → ((p ≡ r.place) ⊎ ((p ≡ r.before) × (r.before < r.place)))
      → x ≡ get_or s.words (index C p) 0 → now < p + C → IsHeader r p x
  heard_right r k on p x where_at is lt = ⊎_elim
      (λ e. inl (
        e,
        is ∙ (ap (λ (q : ℕ). get_or s.words (index C q) 0) e
            ∙ h.memory.valid k r on (length (filled r.before r.place (body_of r))) (r.place, header_of r.message)
            (header_at r)
            (subst (λ (q : ℕ). now < q + C) e lt)),
      ))
      (λ t. inr (
        t.0,
        t.1,
        is ∙ (ap (λ (q : ℕ). get_or s.words (index C q) 0) t.0
            ∙ h.memory.valid k r on 0 (r.before, padding_header (r.place - r.before)) (gap_at r t.1)
            (subst (λ (q : ℕ). now < q + C) t.0 lt)),
      )) where_at

  pub header_keeps : v.stage ≡ Sure → (x i : ℕ) (cs : List (ℕ × (Unit {0}))) → i ≡ index C v.at → x ≡ get_or s.words i 0
      → Holds C e (stepped s i (get_or s.words i 0) id cs (header_loaded v i Sure x) keeps)
  header_keeps eq x i cs there is = let k = knows Sure eq in let t = k.2 in
      let is' : x ≡ get_or s.words (index C v.at) 0 = is ∙ ap (λ (j : ℕ). get_or s.words j 0) there in
      looked (header_loaded v i Sure x) (other_seat Sure eq (λ b. b)) (
        k.0,
        record { before = k.1.before; climbs = k.1.climbs; past = k.1.past; fresh = k.1.fresh },
        (t.0, t.1, (t.2, λ lt. heard_right t.0 v.next t.1 v.at x t.2 is' lt)),
      )
      (same_runs (header_loaded v i Sure x) refl refl) refl (word_logged i x is) i cs

  -- The numbers in a header
  module _ (r : Record) (k : ℕ) (on : get_elem? mine.sent k ≡ some r) where
    pub entry : Follows C r.before r × (e ≤ r.before) × (end r ≤ end_of e mine.sent)
    entry = chain_at C h.lawful.roomy h.lawful.whole e mine.sent h.memory.chain k r on

    pub body_announced : body_len (header_of r.message) ≡ length r.message.body
    body_announced = let a = announced_header C r.message h.lawful.narrow entry.0.lawful in omega arith

    pub padding_announced : r.before < r.place → announced (padding_header (r.place - r.before)) ≡ r.place - r.before
    padding_announced lt = let f = entry.0.fits in let n =
        lies_needed C r.before r.before r.place (end r) f h.lawful.roomy h.lawful.whole lt in let g = h.lawful.narrow in
        let sh = f.short in announced_padding (r.place - r.before) (omega arith)

  -- After a padding is its record
  pub header_behind_keeps : (w : ℕ) → v.stage ≡ Padded w → (x i : ℕ) (cs : List (ℕ × (Unit {0})))
      → i ≡ index C (v.at + announced w)
      → x ≡ get_or s.words i 0
      → Holds C e (stepped s i (get_or s.words i 0) id cs (header_loaded v i (Padded w) x) keeps)
  header_behind_keeps w eq x i cs at_i is =
      let k = knows (Padded w) eq in let t = k.2 in let r : Record = t.0 in let c = t.2 in
      let w' : View = header_loaded v i (Padded w) x in let a = c.0 in let b = c.1 in
      let there : v.at + announced w ≡ r.place =
      (let g = ap announced c.2 ∙ padding_announced r v.next t.1 c.1 in omega arith) in
      let climbs = k.1.climbs in let on' = shown_has C e h.lawful.roomy h.lawful.whole s.words mine.sent mine.stage
      v.next r t.1 in
      let is' : x ≡ get_or s.words (index C r.place) 0 =
      is ∙ ap (λ (j : ℕ). get_or s.words j 0) (at_i ∙ ap (index C) there) in
      looked w' (other_seat (Padded w) eq (λ b. b)) (
        k.0,
        record {
          before = inl (r, on', inl there);
          climbs = omega arith;
          past = λ j q on la. let p = k.1.past j q on la in let y = p.1 in (p.0, omega arith, p.2);
          fresh = λ none zero. let f = k.1.fresh none zero in absurd (⊎_elim
              (λ (d : (q : Record) × (get_elem? all v.next ≡ some q) × (v.at ≡ q.place)). let same : d.0 ≡ r =
              some-injective d.0 r (sym d.1 ∙ on') in
              let g : v.at ≡ r.place = d.2 ∙ ap (λ (q : Record). q.place) same in let z : ⊥ = omega arith in z)
              (λ (d : (all ≡ []) × (v.next ≡ 0) × (v.at ≡ e)). some-ne-none r
              (sym on' ∙ ap (λ (l : List Record). get_elem? l v.next) d.0)) f.1);
        },
        (
          r,
          t.1,
          (
            there,
            λ lt. is' ∙ h.memory.valid v.next r t.1 (length (filled r.before r.place (body_of r)))
                (r.place, header_of r.message) (header_at r)
                (subst (λ (q : ℕ). now < q + C) there lt),
          ),
        ),
      )
      (same_runs w' refl refl) refl (word_logged i x is) i cs

  -- A word of a body
  word_right : (r : Record) (k : ℕ) → get_elem? mine.sent k ≡ some r → v.at ≡ r.place → (ws : List ℕ) (x : ℕ)
      → length ws < length (body_of r)
      → x ≡ get_or s.words (index C (v.at + 8 + 8 * length ws)) 0
      → (now < v.at + C) × (ws ≡ take (length ws) (body_of r))
      → ws ++ x ∷ [] ≡ take (length (ws ++ x ∷ [])) (body_of r)
  word_right r k on there ws x room is sofar = let lt = sofar.0 in let j : ℕ = length ws in let p : ℕ = r.place + 8 +
      8 * j in
      let right : x ≡ get_or (body_of r) j 0 = is ∙ (ap (λ (q : ℕ). get_or s.words (index C (q + 8 + 8 * j)) 0) there
      ∙ h.memory.valid k r on (length (gap r.before r.place) + j) (p, get_or (body_of r) j 0) (word_at r j room)
      (let g : now < p + C = omega arith in
      g)) in
      let longer : length (ws ++ x ∷ []) ≡ suc j =
      length-append ws (x ∷ []) ∙ (let g : j + 1 ≡ suc j = omega arith in g) in
      ap (λ (l : List ℕ). l ++ x ∷ []) sofar.1 ∙ (ap (λ (y : ℕ). take j (body_of r) ++ y ∷ []) right
      ∙ (sym (take_next (body_of r) j room) ∙ ap (λ (m : ℕ). take m (body_of r)) (sym longer)))

  -- what a receiver is when it has loaded a word more
  pub word_keeps : (w : ℕ) (ws : List ℕ) → v.stage ≡ Reading w ws → length ws < word_count (body_len w)
      → (x i : ℕ) (cs : List (ℕ × (Unit {0})))
      → i ≡ index C (v.at + 8 + 8 * length ws) → x ≡ get_or s.words i 0
      → Holds C e (stepped s i (get_or s.words i 0) id cs
      (record v { stage = Reading w (ws ++ x ∷ []); log = v.log ++ word_load v i x ∷ [] }) keeps)
  word_keeps w ws eq more x i cs at_i is = let k = knows (Reading w ws) eq in let m = k.2 in let r : Record = m.0 in
      let u : View = record v { stage = Reading w (ws ++ x ∷ []); log = v.log ++ word_load v i x ∷ [] } in
      let len : body_len w ≡ length r.message.body = ap body_len m.2.1 ∙ body_announced r v.next m.1 in
      let long = words_long (word_count (length r.message.body)) r.message.body in
      let room : length ws < length (body_of r) = (let c = ap word_count len in omega arith) in
      looked u (other_seat (Reading w ws) eq (λ b. b)) (
        k.0,
        record { before = k.1.before; climbs = k.1.climbs; past = k.1.past; fresh = k.1.fresh },
        (
          r,
          m.1,
          (
            m.2.0,
            m.2.1,
            λ lt. word_right r v.next m.1 m.2.0 ws x room
                (is ∙ ap (λ (j : ℕ). get_or s.words j 0) at_i) (lt, m.2.2 lt),
          ),
        ),
      )
      (same_runs u refl refl) refl (word_logged i x is) i cs
