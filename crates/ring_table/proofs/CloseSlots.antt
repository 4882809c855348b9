-- A closed ring whose bodies lie in slots: its parts, and the words that are made of them.
use Rattle.std.proofs.Common.{◌≡◌, ℕ, zero, suc, ◌+◌, ◌-◌, ◌*◌, ◌≤◌, ◌<◌, ◌⊎◌, List, [], ◌∷◌, cond, length, slice_index, refl, sym, ap, ◌∙◌, subst, ⊎_elim, le-ltb, arith}
use Rattle.std.proofs.Math.{Option.Option, Option.some, Option.some-injective, Option.some-ne-none, Decide.ℕ_discrete}
use Rattle.std.proofs.{Math.Logic.dite, Math.ListN.get_elem?, lemmas.Bool.cases_lt}
use Rattle.ring_layout.specs.Layout.{ring_words, tail_index, head_index, correlation_index, heartbeat_index}
use Rattle.ring_layout.specs.{Places.IsCapacity, Places.index, Headers.committed_header}
use Rattle.ring_table.specs.Staged.{in_words, elsewhere, StagedClaim, PlacedMessage, staged_end, staged_word_at}
use Rattle.ring_table.specs.{Owners.OwnedHistory, Owners.all_of, Passing.IsSettled, Passing.AreSettled}
use Rattle.ring_table.specs.{Views.ConsumerView, Views.View, Rule.IsMemory, Rule.Kept, Closed.IsClosed, Closed.IsLast}
use Rattle.ring_table.{specs.ProducerSteps.HasClaim, specs.Walk.Parts, specs.Walk.Walked, proofs.StepLemmas.one_view}
use Rattle.ring_table.specs.Shelf.{IsClaimOf, IsOut, IsOwnOut, IsGotOut, IsShelf}
use Rattle.ring_table.proofs.CloseLemmas.{Closes, all_own, closes, idle}
use Rattle.ring_table.proofs.{LawLemmas.none_open, PictureWords.read_at, ReachLemmas.stored_of, OutLemmas.has_owned}
use Rattle.ring_table.proofs.{MemoryLemmas.index_inside, ShelfLemmas.nothing_out, ListLemmas.there_or_past}
use Rattle.ring_table.proofs.{SlotBytes.first_word_of, SlotBytes.slot_later, MarkWords.committed_small}
use Rattle.ring_table.proofs.StagedPlaces.{capacity_aligned, lies_in, nothing_behind}

claim_there : (h : OwnedHistory) (k : ℕ) (x : ℕ × StagedClaim) → get_elem? h k ≡ some x
    → get_elem? (all_of h) k ≡ some x.1
claim_there [] k x e = absurd (some-ne-none x (sym e))
claim_there (y ∷ ys) zero x e = ap (λ (z : ℕ × StagedClaim). some z.1) (some-injective y x e)
claim_there (y ∷ ys) (suc k) x e = claim_there ys k x e

settled_there : (h : OwnedHistory) (k : ℕ) (x : ℕ × StagedClaim) → AreSettled (all_of h) → get_elem? h k ≡ some x
    → IsSettled x.1.stage
settled_there [] k x all e = absurd (some-ne-none x (sym e))
settled_there (y ∷ ys) zero x all e =
    subst (λ (z : ℕ × StagedClaim). IsSettled z.1.stage) (some-injective y x e) all.0
settled_there (y ∷ ys) (suc k) x all e = settled_there ys k x all.1 e

-- the seat that closes a ring: it has all shares and consumes, and has no claim open, no read running and no body out
-- the capacity of a ring of n words
pub capacity_of : (C n : ℕ) → IsCapacity C → n ≡ ring_words C → C ≡ (n - 96) * 8
capacity_of C n cap is = let c8 = capacity_aligned C cap in omega arith

module _ (C start : ℕ) (words : List ℕ) (homes : List (Option ℕ)) (views : List View)
    (r : Kept elsewhere C start words views) (s : IsShelf C homes views) (id : ℕ) (v : View)
    (at : get_elem? views id ≡ some v) (last : IsLast v) where
  nobody_out : (i j : ℕ) (u : View) → get_elem? views j ≡ some u → IsOut C i u → ⊥
  nobody_out i j u there out = dite (ℕ_discrete j id)
      (λ same. nothing_out C i u (ap (λ (z : View). z.out) (one_view views j id u v there at same) ∙ last.home) out)
      (λ other. ⊎_elim (λ (none : u.out ≡ []). nothing_out C i u none out)
      (λ (t : (m : PlacedMessage) × (u.out ≡ m ∷ []) × (IsOwnOut u m ⊎ IsGotOut u m)). ⊎_elim
      (λ (o : IsOwnOut u t.0).
      let bare = (idle elsewhere C start words views r id v at last.all j u other there).claims in
      some-ne-none o.claim (sym o.there ∙ ap (λ (l : List StagedClaim). get_elem? l o.nth) bare))
      (λ (g : IsGotOut u t.0).
      other (((r.seated.each j u there).consumes g.consumes).0
      ∙ sym ((r.seated.each id v at).consumes last.consumes).0)) t.2) (s.outs j u there))

  known : Closes elsewhere C start words v
  known = closes elsewhere C start words views r id v at last.all last.consumes

  pub hist_settled : AreSettled (all_of r.hist)
  hist_settled = subst AreSettled (all_own elsewhere C start words views r id v at last.all)
      (none_open v.producer.claims last.none_open).0

  settled : AreSettled (all_of known.hist)
  settled = subst AreSettled known.claims_are (none_open v.producer.claims last.none_open).0

  -- the first slot of a record has its header
  pub heads : (xs : List ℕ) → ((i y : ℕ) → get_elem? homes i ≡ some (some y) → get_elem? xs i ≡ some y)
      → (k : ℕ) (x : ℕ × StagedClaim) → get_elem? r.hist k ≡ some x → r.consumer.head ≤ x.1.place
      → slice_index xs (index C x.1.place) ≡ committed_header x.1.message.type_id (length x.1.message.body)
  heads xs values k x there above =
      let done = settled_there r.hist k x hist_settled there in
      let i : ℕ = index C x.1.place in
      let y = s.home i (index_inside elsewhere C start r.lawful x.1.place) (nobody_out i) in
      let mine = ((r.seated.each id v at).consumes last.consumes).1 in
      let head_is : v.consumer.head ≡ r.consumer.head = ap (λ (z : ConsumerView). z.head) mine in
      let whole : x.1.place + 0 ≡ x.1.place = omega arith in
      let lies = lies_in C start r.hist k x r.memory.placed there in
      let owner = has_owned r.hist k x.0 x.1 there in
      let of : IsClaimOf views x.1 = ⊎_elim
      (λ (t : (u : View) × (get_elem? views x.0 ≡ some u)). record {
        seat = x.0;
        view = t.0;
        nth = owner.0;
        there = t.1;
        has = subst (λ h. get_elem? h owner.0 ≡ some x.1) (sym (r.seated.each x.0 t.0 t.1).claims) owner.1;
        stored = stored_of x.1.stage done;
      })
      (λ (past : length views ≤ x.0). absurd (some-ne-none x.1
      (sym owner.1 ∙ ap (λ h. get_elem? h owner.0) (r.seated.nobody x.0 past))))
      (there_or_past views x.0) in
      read_at xs i y.0 (values i y.0 y.1)
      ∙ s.exact x.1 of (record { seat = id; view = v; there = at; consumes = last.consumes; head = omega arith }) 0 y.0
      refl (omega arith) (ap (λ z. get_elem? homes (index C z)) whole ∙ y.1)
      ∙ first_word_of (committed_header x.1.message.type_id (length x.1.message.body)) x.1.message.body
      (committed_small C x.1.message r.lawful.capacity.most lies.message)

  -- the parts, if the slots that were at home have these values
  pub parts : (xs : List ℕ) → ((i y : ℕ) → get_elem? homes i ≡ some (some y) → get_elem? xs i ≡ some y)
      → Parts C words xs
  parts xs values = record {
    start = start;
    hist = known.hist;
    consumer = v.consumer;
    lawful = r.lawful;
    memory = known.memory;
    settled = settled;
    none_cleared = last.none_cleared;
    bodies = λ k x there above off a8 less.
        let i : ℕ = index C (x.1.place + 8 + off) in
        let whole : x.1.place + (8 + off) ≡ x.1.place + 8 + off = omega arith in
        let y = s.home i (index_inside elsewhere C start r.lawful (x.1.place + 8 + off)) (nobody_out i) in
        let has : HasClaim v k x.1 =
        subst (λ (l : List StagedClaim). get_elem? l k ≡ some x.1) (sym known.claims_are) (claim_there known.hist k x there) in
        read_at xs i y.0 (values i y.0 y.1)
        ∙ s.exact x.1
        (record {
          seat = id;
          view = v;
          nth = k;
          there = at;
          has = has;
          stored = stored_of x.1.stage (settled_there known.hist k x settled there);
        })
        (record { seat = id; view = v; there = at; consumes = last.consumes; head = above }) (8 + off) y.0 (omega arith)
        (omega arith) (ap (λ z. get_elem? homes (index C z)) whole ∙ y.1)
        ∙ slot_later x.1.message off;
  }

  pub closed_slots : (xs : List ℕ) (values : (i y : ℕ) → get_elem? homes i ≡ some (some y) → get_elem? xs i ≡ some y)
      (made : List ℕ)
      → Walked C (parts xs values) (staged_end (parts xs values).start (all_of (parts xs values).hist)) made
      → IsClosed C start made v
  unfolding parts
  closed_slots xs values made w =
      let k = known in
      let m = k.memory in
      let cs : List StagedClaim = all_of k.hist in
      record {
        lawful = r.lawful;
        drawn = k.drawn;
        memory = subst (λ (z : List StagedClaim). IsMemory in_words C start made z v.consumer) (sym k.claims_are) (record {
          wide = w.wide ∙ m.wide;
          placed = m.placed;
          tail_is = w.trailer (tail_index C) (omega arith) ∙ m.tail_is;
          limit = m.limit;
          room = m.room;
          head_is = w.trailer (head_index C) (omega arith) ∙ m.head_is;
          took = m.took;
          passed = m.passed;
          clears_from = m.clears_from;
          clears_to = m.clears_to;
          clears_words = m.clears_words;
          shows = λ p p8 p0 p1. ⊎_elim
              (λ (before : p < staged_end start cs). w.done p p8 p0 before)
              (λ (behind : staged_end start cs ≤ p). w.ahead p p8 behind p1
              ∙ nothing_behind elsewhere C start cs p m.placed behind
              ∙ sym (nothing_behind in_words C start cs p m.placed behind)) (cases_lt p (staged_end start cs))
              ∙ sym (ap (λ b. cond b 0 (staged_word_at in_words cs p)) (le-ltb p v.consumer.cleared (omega arith)));
        });
        service =
            (record {
              cache = omega arith;
              correlation = w.trailer (correlation_index C) (omega arith) ∙ k.service.correlation;
              heartbeat = k.service.heartbeat ∙ ap some (sym (w.trailer (heartbeat_index C) (omega arith)));
              unnamed = λ i un. w.trailer i un.behind ∙ k.service.unnamed i un;
            });
        once = k.once;
        served = k.served;
        sees_tail = k.sees_tail ∙ ap (staged_end start) (sym k.claims_are);
      }
