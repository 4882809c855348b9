-- The consumer stores the head in one step, which clears the headers that it has passed: their marks stay.
use Rattle.std.proofs.Common.{◌≡◌, ℕ, zero, suc, ◌+◌, ◌-◌, ◌*◌, ◌/◌, ◌%◌, ◌≤◌, ◌<◌, List, [], ◌∷◌, ◌++◌, cond, true, set, slice_index, ⊎_elim, lt-ltb, sym, refl, ap, ◌∙◌, subst, length, length-set, get_or-set_other, arith}
use Rattle.std.proofs.Math.{Option.some, ListN.get_elem?}
use Rattle.atomic_table.specs.Table.{State, keeps, Allows}
use Rattle.atomic_table.proofs.Lists.{set_here, set_again}
use Rattle.ring_layout.{specs.Places.index, specs.Layout.head_index, proofs.ListLemmas.at_below}
use Rattle.ring_table.specs.{Staged.PlacedMessage, Staged.elsewhere, Staged.staged_word_at, ProducerSteps.Mine}
use Rattle.ring_table.specs.{Owners.OwnedHistory, Owners.all_of, Marks.mark_of, Marks.KeepsMarks, Marks.MayStop}
use Rattle.ring_table.specs.{Passing.Reaches, Rule.Kept, ConsumerSteps.StoresHead, ConsumerSteps.StoresHeadBefore}
use Rattle.ring_table.specs.Views.{ConsumerView, View, cleared_to, no_run, stands_at, with_consumer}
use Rattle.ring_table.proofs.{StagedPlaces.capacity_aligned, StagedPlaces.start_aligned, CarryLemmas.carries_on}
use Rattle.ring_table.proofs.ReachLemmas.{reach_bounds, reach_aligned, back_before_last}
use Rattle.ring_table.proofs.{MemoryLemmas.not_inside, MemoryLemmas.one_position, OutLemmas.set_twice}
use Rattle.ring_table.proofs.ClearLemmas.{clears_at, one_end, stores_head_at}
use Rattle.ring_table.proofs.{ShelfLemmas.stepped_shelf, MarkSteps.Marked, MarkSteps.header_near, MarkSteps.remarked_by}
use Rattle.ring_table.proofs.EncodeLemmas.{encodes_risen, encodes_trailer, reads_risen, reads_trailer}
use Rattle.ring_table.proofs.RunLemmas.{begins_at, bound_at}

module _ (C start : ℕ) (s : State ℕ View) (m : KeepsMarks C start s.words s.homes s.views) (id : ℕ) (v : View)
    (at : get_elem? s.views id ≡ some v) (consumes : v.consumes ≡ true) where
  mine : v.consumer ≡ m.kept.consumer
  mine = ((m.kept.seated.each id v at).consumes consumes).1

  abbrev now : ℕ → View
  now to = with_consumer (cleared_to to v.consumer) v

  -- the headers once k of them are cleared
  record Cleared (k : ℕ) : Type 0 where
    pub headers : List ℕ
    pub kept : Kept elsewhere C start headers (set s.views id (now (v.consumer.cleared + 8 * k)))
    pub wide : length headers ≡ length m.headers
    pub trailer : (i : ℕ) → C / 8 ≤ i → slice_index headers i ≡ slice_index m.headers i
    pub later : (p : ℕ) → p % 8 ≡ 0 → v.consumer.cleared + 8 * k ≤ p → p < m.kept.consumer.head + C
        → slice_index headers (index C p) ≡ slice_index m.headers (index C p)

  clear_words : (k : ℕ) → v.consumer.cleared + 8 * k ≤ v.consumer.scan → Cleared k
  clear_words zero le =
      let same : v.consumer.cleared ≡ v.consumer.cleared + 8 * 0 = omega arith in
      record {
        headers = m.headers;
        kept = subst (λ to. Kept elsewhere C start m.headers (set s.views id (now to))) same
            (subst (Kept elsewhere C start m.headers) (sym (set_again s.views id v at)) m.kept);
        wide = refl;
        trailer = λ i far. refl;
        later = λ p p8 lo hi. refl;
      }
  clear_words (suc k) le =
      let q : ℕ = v.consumer.cleared + 8 * k in
      let t = clear_words k (omega arith) in
      let r = m.kept in
      let law = r.lawful in
      let mem = r.memory in
      let from = mem.clears_from in
      let whole = mem.clears_words in
      let room = mem.room in
      let cleared : v.consumer.cleared ≡ r.consumer.cleared = ap (λ (z : ConsumerView). z.cleared) mine in
      let scan : v.consumer.scan ≡ r.consumer.scan = ap (λ (z : ConsumerView). z.scan) mine in
      let bounds = reach_bounds C r.consumer.scan start (all_of r.hist) r.consumer.got mem.placed mem.passed in
      let top = bounds.1 in
      let here = set_here s.views id (now q) (at_below s.views id v at) in
      let next : q + 8 ≡ v.consumer.cleared + 8 * suc k = omega arith in
      let kept' = clears_at elsewhere C start
      (record { words = t.headers; homes = s.homes; views = set s.views id (now q) }) t.kept id (now q) here consumes
      (omega arith) in
      let away = λ (p : ℕ) (p8 : p % 8 ≡ 0) (lo : q + 8 ≤ p) (hi : p < r.consumer.head + C) (same : index C p ≡ index C q).
      let one : p ≡ q = one_position elsewhere C start law r.consumer.head p q
      (record { whole = p8; from = omega arith; below = hi })
      (record { whole = omega arith; from = omega arith; below = omega arith }) same in
      let no : ⊥ = omega arith in no in
      record {
        headers = set t.headers (index C q) 0;
        kept = subst (λ (z : List View). Kept elsewhere C start (set t.headers (index C q) 0) z)
            (set_twice s.views id (now q) (now (q + 8)) ∙ ap (λ z. set s.views id (now z)) next) kept';
        wide = length-set t.headers (index C q) 0 ∙ t.wide;
        trailer = λ i far. get_or-set_other t.headers (index C q) i 0 0
            (λ same. not_inside elsewhere C start law q i far same) ∙ t.trailer i far;
        later = λ p p8 lo hi.
            let q_le : q + 8 ≤ p = omega arith in
            get_or-set_other t.headers (index C q) (index C p) 0 0 (away p p8 q_le hi)
            ∙ t.later p p8 (omega arith) hi;
      }

  -- the head goes to q, which was reached with the messages got, as the headers before q are cleared
  pub raises_to : (q : ℕ) (got : List PlacedMessage) → v.out ≡ [] → v.consumer.head ≤ q → q ≤ v.consumer.scan
      → ((h : OwnedHistory) → Reaches v.consumer.scan start (all_of h) v.consumer.got → Reaches q start (all_of h) got)
      → begins_at C start s m q → KeepsMarks C start (set s.words (head_index C) q) s.homes
      (set s.views id (with_consumer (stands_at q got v.consumer) v))
  raises_to q got bare on le reaches begins =
      let r = m.kept in
      let law = r.lawful in
      let mem = r.memory in
      let least = law.capacity.least in
      let c8 = capacity_aligned C law.capacity in
      let whole = mem.clears_words in
      let room = mem.room in
      let none = m.none_cleared in
      let cleared : v.consumer.cleared ≡ r.consumer.cleared = ap (λ (z : ConsumerView). z.cleared) mine in
      let scan : v.consumer.scan ≡ r.consumer.scan = ap (λ (z : ConsumerView). z.scan) mine in
      let heads : v.consumer.head ≡ r.consumer.head = ap (λ (z : ConsumerView). z.head) mine in
      let top = (reach_bounds C r.consumer.scan start (all_of r.hist) r.consumer.got mem.placed mem.passed).1 in
      let comes = reaches r.hist
      (subst (λ (z : ConsumerView). Reaches z.scan start (all_of r.hist) z.got) (sym mine) mem.passed) in
      let q8 : q % 8 ≡ 0 = reach_aligned C q start (all_of r.hist) got (omega arith) c8 (start_aligned C start law)
      mem.placed comes in
      let k : ℕ = (q - v.consumer.cleared) / 8 in
      let is : v.consumer.cleared + 8 * k ≡ q = omega arith in
      let t = clear_words k (omega arith) in
      let kept : Kept elsewhere C start t.headers (set s.views id (now q)) =
      subst (λ z. Kept elsewhere C start t.headers (set s.views id (now z))) is t.kept in
      let km = kept.memory in
      let here = set_here s.views id (now q) (at_below s.views id v at) in
      let its = ((kept.seated.each id (now q) here).consumes consumes).1 in
      let head' : v.consumer.head ≡ kept.consumer.head = ap (λ (z : ConsumerView). z.head) its in
      let cleared' : q ≡ kept.consumer.cleared = ap (λ (z : ConsumerView). z.cleared) its in
      let w : View = with_consumer (stands_at q got v.consumer) v in
      let stored : Kept elsewhere C start (set t.headers (head_index C) q) (set s.views id w) =
      subst (Kept elsewhere C start (set t.headers (head_index C) q)) (set_twice s.views id (now q) w)
      (stores_head_at elsewhere C start q got
      (record { words = t.headers; homes = s.homes; views = set s.views id (now q) }) kept id (now q) here consumes
      (reaches kept.hist
      (subst (λ (z : ConsumerView). Reaches z.scan start (all_of kept.hist) z.got) (sym its) km.passed))
      (sym cleared')) in
      let wide = t.wide in
      let long = mem.wide in
      let from : r.consumer.head ≤ q = omega arith in
      let limit : q ≤ r.consumer.head + C = omega arith in
      let zeros = λ (p : ℕ) (p8 : p % 8 ≡ 0) (lo : r.consumer.head ≤ p) (hi : p < q).
      let z : slice_index t.headers (index C p) ≡ 0 = km.shows p p8 (omega arith) (omega arith)
      ∙ ap (λ b. cond b 0 (staged_word_at elsewhere (all_of kept.hist) p))
      (lt-ltb p kept.consumer.cleared (omega arith)) in z in
      let near = λ (p : ℕ) (p8 : p % 8 ≡ 0) (lo : r.consumer.head ≤ p) (hi : p < q).
      let below = (header_near C start m.headers s.views r p p8 lo (omega arith)).below in
      let le : mark_of p (slice_index m.headers (index C p)) ≤ p + C = omega arith in le in
      let later = λ (p : ℕ) (p8 : p % 8 ≡ 0) (lo : q ≤ p) (hi : p < r.consumer.head + C).
      t.later p p8 (omega arith) hi in
      let bound = bound_at C start s m q got comes from in
      let encodes = encodes_risen C start law r.consumer.head m.headers m.ends s.words m.encodes q t.headers from
      limit q8 t.wide t.trailer later zeros near c8 begins bound in
      let reads = reads_risen C start law r.consumer.head m.headers m.ends s.words m.encodes q t.headers from
      limit q8 t.wide t.trailer later zeros near c8 begins bound (omega arith) in
      remarked_by C start (set s.words (head_index C) q) (set t.headers (head_index C) q) m.ends s.homes
      (set s.views id w) id w q stored
      (stepped_shelf C s.homes s.views m.shelf id v at bare w bare (carries_on refl refl (omega arith)))
      (set_here s.views id w (at_below s.views id v at)) consumes (refl, refl)
      (encodes_trailer C start law q t.headers m.ends s.words encodes (head_index C) q (omega arith) (omega arith))
      (reads_trailer C start law q t.headers m.ends s.words encodes (head_index C) q q (omega arith) q (no_run q) reads)

module _ (C start : ℕ) where
  -- the head is stored after all that was passed
  pub raises_head : (slots id : ℕ) (me : Mine) (head : ℕ) → me.0.consumes ≡ true → me.0.out ≡ []
      → me.0.consumer.scan ≡ head → MayStop me.0
      → Allows (Marked C start) slots id me (head_index C) (λ _. head) (λ _ me'. (me'.1 ≡ me.1) × StoresHead me.0 me'.0)
  raises_head slots id me head consumes bare scan stop s m wide at small =
      let v : View = me.0 in
      let mem = m.kept.memory in
      let mine' = ((m.kept.seated.each id v at).consumes consumes).1 in
      let scan' : v.consumer.scan ≡ m.kept.consumer.scan = ap (λ (z : ConsumerView). z.scan) mine' in
      let head' : v.consumer.head ≡ m.kept.consumer.head = ap (λ (z : ConsumerView). z.head) mine' in
      let from = mem.clears_from in
      let to = mem.clears_to in
      let upto = m.reads.to in
      let ends : v.consumer.run.to ≡ m.kept.consumer.run.to = ap (λ (z : ConsumerView). z.run.to) mine' in
      let begins : begins_at C start s m v.consumer.scan = ⊎_elim
      (λ (done : v.consumer.run.to ≤ v.consumer.scan).
      subst (begins_at C start s m) (sym scan') (m.reads.stops (omega arith)))
      (λ (here : v.consumer.run.from ≡ v.consumer.scan).
      subst (begins_at C start s m) (ap (λ (z : ConsumerView). z.run.from) (sym mine') ∙ here) m.reads.begins) stop in
      let w : View = with_consumer (stands_at v.consumer.scan v.consumer.got v.consumer) v in (
        w,
        keeps,
        tt,
        subst (λ q. KeepsMarks C start (set s.words (head_index C) q) s.homes (set s.views id w)) scan
            (raises_to C start s m id v at consumes v.consumer.scan v.consumer.got bare (omega arith) (omega arith)
            (λ h p. p) begins),
        (refl, refl),
      )

  -- the head is stored before the last message that was got
  pub raises_head_before : (slots id : ℕ) (me : Mine) (head : ℕ) (front : List PlacedMessage) (last : PlacedMessage)
      → me.0.consumes ≡ true → me.0.out ≡ [] → me.0.consumer.got ≡ front ++ last ∷ [] → last.place ≡ head
      → me.0.consumer.head ≤ head → head ≤ me.0.consumer.scan → me.0.consumer.run.from ≡ head
      → Allows (Marked C start) slots id me (head_index C) (λ _. head)
      (λ _ me'. (me'.1 ≡ me.1) × StoresHeadBefore me.0 me'.0)
  raises_head_before slots id me head front last consumes bare got place on le here s m wide at small =
      let v : View = me.0 in
      let w : View = with_consumer (stands_at last.place front v.consumer) v in (
        w,
        keeps,
        tt,
        subst (λ q. KeepsMarks C start (set s.words (head_index C) q) s.homes (set s.views id w)) place
            (raises_to C start s m id v at consumes last.place front bare (omega arith) (omega arith)
            (λ h p. back_before_last v.consumer.scan start (all_of h) front last
            (subst (Reaches v.consumer.scan start (all_of h)) got p))
            (subst (begins_at C start s m)
            (ap (λ (z : ConsumerView). z.run.from) (sym ((m.kept.seated.each id v at).consumes consumes).1) ∙ here
            ∙ sym place) m.reads.begins)),
        (
          refl,
          λ front' last' got'. let same = one_end front front' last last' (sym got ∙ got') in λ i. with_consumer
              (stands_at (same.1 i).place (same.0 i) v.consumer) v,
        ),
      )
