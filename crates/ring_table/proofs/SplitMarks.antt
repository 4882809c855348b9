-- A read that stops inside a run stores a mark for the rest of it.
use Rattle.std.proofs.Common.{◌≡◌, ◌≢◌, ◌⊎◌, ℕ, ◌+◌, ◌%◌, ◌≤◌, ◌<◌, List, [], ◌∷◌, ◌++◌, true, set, sym, refl, ap, ◌∙◌, subst, inl, length, length-set, get_or-set_other, get_or-set_same, arith}
use Rattle.std.proofs.Math.{Option.some, Logic.dite, Decide.ℕ_discrete, ListN.get_elem?}
use Rattle.atomic_table.specs.Table.{State, Allows, keeps}
use Rattle.atomic_table.proofs.Lists.{at_last, set_here}
use Rattle.ring_layout.{specs.Places.index, proofs.ListLemmas.at_below}
use Rattle.ring_table.specs.{Staged.PlacedMessage, Staged.elsewhere, Owners.all_of, Passing.Reaches}
use Rattle.ring_table.specs.{Views.ConsumerView, Views.Run, Views.View, Views.with_run, ProducerSteps.Mine}
use Rattle.ring_table.specs.Marks.{at_position, Begins, Encodes, IsCommitted, KeepsMarks, Precedes, ReadsRun, SplitsAtLast, SplitsAtScan}
use Rattle.ring_table.proofs.{StagedPlaces.start_aligned, ShelfLemmas.stepped_shelf, RunPlaces.got_committed}
use Rattle.ring_table.proofs.MemoryLemmas.{index_inside, not_inside, one_position}
use Rattle.ring_table.proofs.{CarryLemmas.carries_same, MarkSteps.Marked, MarkSteps.remarked_by, MarkSteps.with_headers}
use Rattle.ring_table.proofs.{ClearLemmas.one_end, ConsumeLemmas.reruns}
use Rattle.ring_table.proofs.RunLemmas.{begins_at, head_now, header_at, mark_at, shown_at}

module _ (C start : ℕ) (s : State ℕ View) (m : KeepsMarks C start s.words s.homes s.views) (p : ℕ) (p8 : p % 8 ≡ 0)
    (p0 : m.kept.consumer.head ≤ p) (p1 : p < m.kept.consumer.head + C) (is : IsCommitted (header_at C start s m p)) where
  abbrev words_now : List ℕ
  words_now = set s.words (index C p) (m.ends p)

  word_now : at_position C words_now p ≡ m.ends p
  word_now =
      let inside = index_inside elsewhere C start m.kept.lawful p in
      let long = m.kept.memory.wide in
      let wide = m.encodes.wide in
      get_or-set_same s.words (index C p) (m.ends p) 0 (omega arith)

  word_else : (q : ℕ) → q % 8 ≡ 0 → head_now C start s m ≤ q → q < head_now C start s m + C → q ≢ p
      → at_position C words_now q ≡ mark_at C start s m q
  word_else q q8 q0 q1 ne = get_or-set_other s.words (index C p) (index C q) (m.ends p) 0
      (λ same. ne (one_position elsewhere C start m.kept.lawful (head_now C start s m) q p
      (record { whole = q8; from = q0; below = q1 }) (record { whole = p8; from = p0; below = p1 }) same))

  encodes_marked : Encodes C (head_now C start s m) m.headers m.ends words_now
  encodes_marked =
      let e = m.encodes in
      record {
        wide = length-set s.words (index C p) (m.ends p) ∙ e.wide;
        trailer = λ i far. get_or-set_other s.words (index C p) i (m.ends p) 0
            (λ same. not_inside elsewhere C start m.kept.lawful p i far same) ∙ e.trailer i far;
        marks = λ q q8 q0 q1 some kind. word_else q q8 q0 q1
            (λ same. kind (subst (λ z. IsCommitted (header_at C start s m z)) (sym same) is).1)
            ∙ e.marks q q8 q0 q1 some kind;
        runs = λ q q8 q0 q1 is_q.
            let o = e.runs q q8 q0 q1 is_q in
            record {
              whole = o.whole;
              near = o.near;
              goes_on = o.goes_on;
              mark = dite (ℕ_discrete q p)
                  (λ same. inl (subst (λ z. at_position C words_now z ≡ m.ends z) (sym same) word_now))
                  (λ ne. subst (λ z. (z ≡ m.ends q)
                  ⊎ ((z ≤ q) × Precedes (head_now C start s m) (header_at C start s m) m.ends q))
                  (sym (word_else q q8 q0 q1 ne)) o.mark);
            };
        none = λ q q8 q0 q1 zero.
            let same = word_else q q8 q0 q1
            (λ here. (subst (λ z. IsCommitted (header_at C start s m z)) (sym here) is).0 zero) in
            let none = e.none q q8 q0 q1 zero in omega arith;
      }

  begins_marked : (q : ℕ) → q % 8 ≡ 0 → head_now C start s m ≤ q → begins_at C start s m q
      → Begins C (head_now C start s m) (header_at C start s m) m.ends (at_position C words_now) q
  begins_marked q q8 q0 was below is_q = dite (ℕ_discrete q p)
      (λ same. subst (λ z. at_position C words_now z ≡ m.ends z) (sym same) word_now)
      (λ ne. word_else q q8 q0 below ne ∙ was below is_q)

  -- the rest of the run from p on is a run
  split_here : (id : ℕ) (v : View) → get_elem? s.views id ≡ some v → v.consumes ≡ true → v.out ≡ []
      → m.ends p ≡ v.consumer.run.to → (v.consumer.run.from ≤ p) × (p ≤ v.consumer.scan)
      → KeepsMarks C start words_now s.homes
      (set s.views id (with_run (record { from = p; to = v.consumer.run.to }) v))
  split_here id v at consumes bare end inside =
      let r = m.kept in
      let run : Run = record { from = p; to = v.consumer.run.to } in
      let w : View = with_run run v in
      let mine = ((r.seated.each id v at).consumes consumes).1 in
      let heads : v.consumer.head ≡ r.consumer.head = ap (λ (z : ConsumerView). z.head) mine in
      let cleared : v.consumer.cleared ≡ r.consumer.cleared = ap (λ (z : ConsumerView). z.cleared) mine in
      let d : ReadsRun C (head_now C start s m) v.consumer.scan v.consumer.run (header_at C start s m) m.ends
      (mark_at C start s m) =
      subst (λ (z : ConsumerView). ReadsRun C (head_now C start s m) z.scan z.run (header_at C start s m) m.ends
      (mark_at C start s m)) (sym mine) m.reads in
      let from = d.from in
      let passed = d.passed in
      let inside0 = inside.0 in
      let inside1 = inside.1 in
      remarked_by C start words_now m.headers m.ends s.homes (set s.views id w) id w (head_now C start s m)
      (reruns elsewhere C start (with_headers C start s m.headers) r id v at consumes run)
      (stepped_shelf C s.homes s.views m.shelf id v at bare w bare (carries_same refl refl refl))
      (set_here s.views id w (at_below s.views id v at)) consumes (heads, cleared ∙ m.none_cleared)
      encodes_marked
      (record {
        from = p0;
        passed = inside.1;
        to = d.to;
        near = d.near;
        whole = (p8, d.whole.1);
        one = λ q q8 q0 q1 is_q. d.one q q8 (omega arith) q1 is_q;
        ahead = d.ahead;
        begins = λ below is_p. word_now;
        stops = λ done. begins_marked v.consumer.scan d.whole.1 (omega arith) (d.stops done);
      })

module _ (C start : ℕ) where
  pub splits_at_scan : (slots id : ℕ) (me : Mine) (q end : ℕ) → me.0.consumes ≡ true → me.0.out ≡ []
      → me.0.consumer.scan ≡ q → me.0.consumer.run.to ≡ end → q < end
      → Allows (Marked C start) slots id me (index C q) (λ _. end) (λ _ me'. (me'.1 ≡ me.1) × SplitsAtScan me.0 me'.0)
  splits_at_scan slots id me q end consumes bare scan to more s m wide at small =
      let v : View = me.0 in
      let r = m.kept in
      let mine = ((r.seated.each id v at).consumes consumes).1 in
      let w : View = with_run (record { from = v.consumer.scan; to = v.consumer.run.to }) v in
      let d = subst (λ (z : ConsumerView). ReadsRun C (head_now C start s m) z.scan z.run (header_at C start s m) m.ends
      (mark_at C start s m)) (sym mine) m.reads in
      let from = d.from in
      let passed = d.passed in
      let near = d.near in
      let a = d.ahead (omega arith) in (
        w,
        keeps,
        tt,
        subst (λ (z : ℕ × ℕ). KeepsMarks C start (set s.words (index C z.0) z.1) s.homes (set s.views id w))
            (λ k. (scan k, (a.1 ∙ to) k))
            (split_here C start s m v.consumer.scan d.whole.1 (omega arith) (omega arith) a.0 id v at consumes bare a.1
            (d.passed, omega arith)),
        (refl, refl),
      )

  pub splits_at_last : (slots id : ℕ) (me : Mine) (q end : ℕ) (front : List PlacedMessage) (last : PlacedMessage)
      → me.0.consumes ≡ true → me.0.out ≡ [] → me.0.consumer.got ≡ front ++ last ∷ [] → last.place ≡ q
      → me.0.consumer.cleared ≤ last.place → me.0.consumer.run.to ≡ end → me.0.consumer.run.from ≤ q
      → Allows (Marked C start) slots id me (index C q) (λ _. end) (λ _ me'. (me'.1 ≡ me.1) × SplitsAtLast me.0 me'.0)
  splits_at_last slots id me q end front last consumes bare got place ahead to inside s m wide at small =
      let v : View = me.0 in
      let r = m.kept in
      let mine = ((r.seated.each id v at).consumes consumes).1 in
      let heads : v.consumer.head ≡ r.consumer.head = ap (λ (z : ConsumerView). z.head) mine in
      let cleared : v.consumer.cleared ≡ r.consumer.cleared = ap (λ (z : ConsumerView). z.cleared) mine in
      let none = m.none_cleared in
      let p : ℕ = last.place in
      let w : View = with_run (record { from = p; to = v.consumer.run.to }) v in
      let d = subst (λ (z : ConsumerView). ReadsRun C (head_now C start s m) z.scan z.run (header_at C start s m) m.ends
      (mark_at C start s m)) (sym mine) m.reads in
      let near = d.near in
      let upto = d.to in
      let reaches = subst (λ (z : ConsumerView). Reaches z.scan start (all_of r.hist) z.got) (sym mine) r.memory.passed in
      let c = got_committed C v.consumer.scan start (all_of r.hist) v.consumer.got (length front) last r.lawful.capacity
      (start_aligned C start r.lawful) r.memory.placed reaches
      (ap (λ l. get_elem? l (length front)) got ∙ at_last front last (length front) refl) in
      let less = c.2 in
      let is : IsCommitted (header_at C start s m p) =
      subst IsCommitted (sym (shown_at C start s m p c.3 (omega arith) (omega arith))) c.0 in
      let one : m.ends p ≡ v.consumer.run.to = d.one p c.3 (omega arith) c.2 is in (
        w,
        keeps,
        tt,
        subst (λ (z : ℕ × ℕ). KeepsMarks C start (set s.words (index C z.0) z.1) s.homes (set s.views id w))
            (λ k. (place k, (one ∙ to) k))
            (split_here C start s m p c.3 (omega arith) (omega arith) is id v at consumes bare one
            (omega arith, omega arith)),
        (
          refl,
          λ front' last' got'.
              let same = one_end front front' last last' (sym got ∙ got') in
              λ k. with_run (record { from = (same.1 k).place; to = v.consumer.run.to }) v,
        ),
      )
