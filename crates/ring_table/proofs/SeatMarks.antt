-- Seats that are cut in two or put together leave the marks, and a fresh ring has none.
use Rattle.std.proofs.Common.{◌≡◌, ◌≢◌, ℕ, ◌≤◌, List, [], ◌∷◌, ◌++◌, true, false, ◌⊎◌, set, sym, refl, ap, ◌∙◌, inl, inr, ⊎_elim, length, arith}
use Rattle.std.proofs.{Math.Option.Option, Math.Option.some, Math.ListN.get_elem?, lemmas.Bool.false≢true}
use Rattle.atomic_table.{specs.Table.State, specs.Table.Splits, specs.Table.Joins, proofs.Lists.at_set}
use Rattle.ring_layout.specs.Places.{index, max_position}
use Rattle.ring_table.specs.{Staged.Bodies, Staged.in_words, Staged.elsewhere, Rule.IsLawful, Rule.Kept, Shelf.IsShelf}
use Rattle.ring_table.specs.Views.{View, first_view, no_run, spent, without_consumer, consumer_alone, with_consumer_of, without_share, producer_alone, with_producer_of}
use Rattle.ring_table.specs.{Closed.IsFresh, Marks.at_position, Marks.Encodes, Marks.KeepsMarks, Marks.ReadsRun}
use Rattle.ring_table.proofs.{StagedPlaces.start_aligned, MemoryLemmas.index_inside, OpenLemmas.fresh_keeps}
use Rattle.ring_table.proofs.ListLemmas.{at_more}
use Rattle.ring_table.proofs.CarryLemmas.{Holds, lift_consumer_split, lift_producer_split, lift_consumer_join, lift_producer_join}
use Rattle.ring_table.proofs.MarkSteps.{Marked, Obeys, remarked, same_reader, with_headers}

-- what u has of the consumer's part is what v has
abbrev pub IsReaderOf : View → View → Type 0
IsReaderOf v u = u.consumes ≡ true → (v.consumes ≡ true) × (u.consumer ≡ v.consumer)

module _ (C start : ℕ) where
  -- the same headers with other views, of which none consumes but as one did before
  reseated_marks : (s : State ℕ View) (m : KeepsMarks C start s.words s.homes s.views) (homes : List (Option ℕ))
      (views : List View) (kept : Kept elsewhere C start m.headers views) → IsShelf C homes views
      → ((j : ℕ) (u : View) → get_elem? views j ≡ some u → u.consumes ≡ true
      → (k : ℕ) × (v : View) × (get_elem? s.views k ≡ some v) × (v.consumes ≡ true) × (u.consumer ≡ v.consumer))
      → KeepsMarks C start s.words homes views
  reseated_marks s m homes views kept shelf reads =
      let d = shelf.reader in
      let was = reads d.seat d.view d.there d.consumes in
      let one : m.kept.consumer ≡ kept.consumer = sym ((m.kept.seated.each was.0 was.1 was.2).consumes was.3).1
      ∙ sym was.4 ∙ ((kept.seated.each d.seat d.view d.there).consumes d.consumes).1 in
      remarked C start s.words m.headers m.ends homes views m.kept.consumer kept shelf m.none_cleared (same_reader (sym one))
      m.encodes m.reads

  pub split_marks : (id : ℕ) (v left right : View) → IsReaderOf v left → IsReaderOf v right
      → Splits (Holds elsewhere C start) id v left right → Splits (Marked C start) id v left right
  split_marks id v left right of_left of_right splits s m at =
      let t = splits (with_headers C start s m.headers) (m.kept, m.shelf) at in
      reseated_marks s m s.homes (set s.views id left ++ right ∷ []) t.0 t.1 (λ j u there consumes. ⊎_elim
      (λ old. ⊎_elim
      (λ (z : (j ≡ id) × (left ≡ u)).
      let is = of_left (ap (λ (x : View). x.consumes) z.1 ∙ consumes) in
      (id, v, at, is.0, ap (λ (x : View). x.consumer) (sym z.1) ∙ is.1))
      (λ (z : (j ≢ id) × (get_elem? s.views j ≡ some u)). (j, u, z.1, consumes, refl))
      (at_set s.views id j left u old))
      (λ (z : (j ≡ length (set s.views id left)) × (right ≡ u)).
      let is = of_right (ap (λ (x : View). x.consumes) z.1 ∙ consumes) in
      (id, v, at, is.0, ap (λ (x : View). x.consumer) (sym z.1) ∙ is.1))
      (at_more (set s.views id left) right u j there))

  pub join_marks : (id : ℕ) (v : View) (other : ℕ) (w both : View)
      → (both.consumes ≡ true → ((v.consumes ≡ true) × (both.consumer ≡ v.consumer))
      ⊎ ((w.consumes ≡ true) × (both.consumer ≡ w.consumer)))
      → Joins (Holds elsewhere C start) id v other w both spent → Joins (Marked C start) id v other w both spent
  join_marks id v other w both of joins s m at ne there =
      let t = joins (with_headers C start s m.headers) (m.kept, m.shelf) at ne there in
      let was : get_elem? s.views other ≡ some w = ⊎_elim
      (λ (z : (other ≡ id) × (both ≡ w)). absurd (ne z.0))
      (λ (z : (other ≢ id) × (get_elem? s.views other ≡ some w)). z.1) (at_set s.views id other both w there) in
      reseated_marks s m s.homes (set (set s.views id both) other spent) t.0 t.1 (λ j u there' consumes. ⊎_elim
      (λ (z : (j ≡ other) × (spent ≡ u)). absurd (false≢true (ap (λ (x : View). x.consumes) z.1 ∙ consumes)))
      (λ (z : (j ≢ other) × (get_elem? (set s.views id both) j ≡ some u)). ⊎_elim
      (λ (y : (j ≡ id) × (both ≡ u)). ⊎_elim
      (λ (f : (v.consumes ≡ true) × (both.consumer ≡ v.consumer)).
      (id, v, at, f.0, ap (λ (x : View). x.consumer) (sym y.1) ∙ f.1))
      (λ (f : (w.consumes ≡ true) × (both.consumer ≡ w.consumer)).
      (other, w, was, f.0, ap (λ (x : View). x.consumer) (sym y.1) ∙ f.1))
      (of (ap (λ (x : View). x.consumes) y.1 ∙ consumes)))
      (λ (y : (j ≢ id) × (get_elem? s.views j ≡ some u)). (j, u, y.1, consumes, refl))
      (at_set s.views id j both u z.1))
      (at_set (set s.views id both) other j spent u there'))

  pub fresh_marks : (words : List ℕ) (homes : List (Option ℕ)) → IsLawful C start → start ≤ max_position
      → IsFresh C start words → IsShelf C homes (first_view (record { capacity = C; start = start }) ∷ [])
      → KeepsMarks C start words homes (first_view (record { capacity = C; start = start }) ∷ [])
  fresh_marks words homes law limit is shelf =
      let v : View = first_view (record { capacity = C; start = start }) in
      let kept = fresh_keeps elsewhere C start words law limit is in
      let mine = ((kept.seated.each 0 v refl).consumes refl).1 in
      remarked C start words words (λ p. p) homes (v ∷ []) v.consumer kept shelf refl (same_reader (sym mine)) no_marks
      no_reads
    where
      nothing : (p : ℕ) → at_position C words p ≡ 0
      nothing p = is.records (index C p) (index_inside elsewhere C start law p)

      no_marks : Encodes C start words (λ p. p) words
      no_marks = record {
        wide = refl;
        trailer = λ i far. refl;
        marks = λ p p8 p0 p1 full. absurd (full (nothing p));
        runs = λ p p8 p0 p1 committed. absurd (committed.0 (nothing p));
        none = λ p p8 p0 p1 zero. omega arith;
      }

      no_reads : ReadsRun C start start (no_run start) (at_position C words) (λ p. p) (at_position C words)
      no_reads =
          let start8 = start_aligned C start law in
          record {
            from = omega arith;
            passed = omega arith;
            to = omega arith;
            near = omega arith;
            whole = (start8, start8);
            one = λ p p8 p0 p1 committed. absurd (committed.0 (nothing p));
            ahead = λ more. absurd (omega arith);
            begins = λ below committed. absurd (committed.0 (nothing start));
            stops = λ _ below committed. absurd (committed.0 (nothing start));
          }

-- ---- both rules

module _ (B : Bodies) (C start id : ℕ) (v : View) (none : v.out ≡ []) where
  pub obeys_consumer_split : Splits (λ (s : State ℕ View). Kept B C start s.words s.views) id v
      (without_consumer v) (consumer_alone v) → Splits (Obeys B C start) id v (without_consumer v) (consumer_alone v)
  obeys_consumer_split splits = by_bodies B splits
    where
      by_bodies : (B : Bodies) → Splits (λ (s : State ℕ View). Kept B C start s.words s.views) id v
          (without_consumer v) (consumer_alone v) → Splits (Obeys B C start) id v (without_consumer v) (consumer_alone v)
      by_bodies in_words splits = lift_consumer_split in_words C start id v none splits
      by_bodies elsewhere splits = split_marks C start id v (without_consumer v) (consumer_alone v)
          (λ e. absurd (false≢true e)) (λ e. (e, refl)) (lift_consumer_split elsewhere C start id v none splits)

  pub obeys_producer_split : Splits (λ (s : State ℕ View). Kept B C start s.words s.views) id v
      (without_share v) (producer_alone v) → Splits (Obeys B C start) id v (without_share v) (producer_alone v)
  obeys_producer_split splits = by_bodies B splits
    where
      by_bodies : (B : Bodies) → Splits (λ (s : State ℕ View). Kept B C start s.words s.views) id v
          (without_share v) (producer_alone v) → Splits (Obeys B C start) id v (without_share v) (producer_alone v)
      by_bodies in_words splits = lift_producer_split in_words C start id v none splits
      by_bodies elsewhere splits = split_marks C start id v (without_share v) (producer_alone v)
          (λ e. (e, refl)) (λ e. absurd (false≢true e)) (lift_producer_split elsewhere C start id v none splits)

  pub obeys_consumer_join : (other : ℕ) (w : View) → w.out ≡ [] → w.consumes ≡ true
      → Joins (λ (s : State ℕ View). Kept B C start s.words s.views) id v other w (with_consumer_of v w) spent
      → Joins (Obeys B C start) id v other w (with_consumer_of v w) spent
  obeys_consumer_join other w none_w is joins = by_bodies B joins
    where
      by_bodies : (B : Bodies)
          → Joins (λ (s : State ℕ View). Kept B C start s.words s.views) id v other w (with_consumer_of v w) spent
          → Joins (Obeys B C start) id v other w (with_consumer_of v w) spent
      by_bodies in_words joins = lift_consumer_join in_words C start id v none other w none_w is joins
      by_bodies elsewhere joins = join_marks C start id v other w (with_consumer_of v w) (λ e. inr (e, refl))
          (lift_consumer_join elsewhere C start id v none other w none_w is joins)

  pub obeys_producer_join : (other : ℕ) (w : View) → w.out ≡ [] → w.consumes ≡ false
      → Joins (λ (s : State ℕ View). Kept B C start s.words s.views) id v other w (with_producer_of v w) spent
      → Joins (Obeys B C start) id v other w (with_producer_of v w) spent
  obeys_producer_join other w none_w is_not joins = by_bodies B joins
    where
      by_bodies : (B : Bodies)
          → Joins (λ (s : State ℕ View). Kept B C start s.words s.views) id v other w (with_producer_of v w) spent
          → Joins (Obeys B C start) id v other w (with_producer_of v w) spent
      by_bodies in_words joins = lift_producer_join in_words C start id v none other w none_w is_not joins
      by_bodies elsewhere joins = join_marks C start id v other w (with_producer_of v w) (λ e. inl (e, refl))
          (lift_producer_join elsewhere C start id v none other w none_w is_not joins)
