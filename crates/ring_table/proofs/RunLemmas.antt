-- Where a read stands in the runs of the rule with marks.
use Rattle.std.proofs.Common.{◌≡◌, ◌≢◌, ℕ, ◌+◌, ◌%◌, ◌≤◌, ◌<◌, List, cond, sym, ap, ◌∙◌, subst, ⊎_elim, le-ltb, arith}
use Rattle.std.proofs.{Math.Logic.dite, Math.Decide.ℕ_discrete, lemmas.Bool.cases_lt}
use Rattle.atomic_table.specs.Table.{State}
use Rattle.ring_table.specs.{Staged.PlacedMessage, Staged.elsewhere, Staged.staged_word_at, Views.View, Views.no_run}
use Rattle.ring_table.specs.{Owners.all_of, Passing.Reaches}
use Rattle.ring_table.specs.Marks.{at_position, bytes_of, Begins, IsCommitted, IsOfRun, KeepsMarks, Precedes, ReadsRun}
use Rattle.ring_table.proofs.{StagedPlaces.capacity_aligned, StagedPlaces.start_aligned, MemoryLemmas.head_bounds}
use Rattle.ring_table.proofs.{MarkWords.long_bytes, MarkWords.whole_bytes, RunPlaces.ends_before, RunPlaces.none_inside}
use Rattle.ring_table.proofs.{MarkSteps.header_near, ReachLemmas.reach_aligned, ReachLemmas.reach_bounds}

module _ (C start : ℕ) (s : State ℕ View) (m : KeepsMarks C start s.words s.homes s.views) where
  abbrev pub header_at : ℕ → ℕ
  header_at = at_position C m.headers

  abbrev pub mark_at : ℕ → ℕ
  mark_at = at_position C s.words

  abbrev pub head_now : ℕ
  head_now = m.kept.consumer.head

  abbrev pub in_run : ℕ → Type 0
  in_run = IsOfRun C head_now header_at m.ends mark_at

  abbrev pub begins_at : ℕ → Type 0
  begins_at = Begins C head_now header_at m.ends mark_at

  pub shown_at : (p : ℕ) → p % 8 ≡ 0 → head_now ≤ p → p < head_now + C
      → header_at p ≡ staged_word_at elsewhere (all_of m.kept.hist) p
  shown_at p p8 p0 p1 =
      let none = m.none_cleared in
      m.kept.memory.shows p p8 p0 p1 ∙ ap (λ b. cond b 0 (staged_word_at elsewhere (all_of m.kept.hist) p))
      (le-ltb p m.kept.consumer.cleared (omega arith))

  pub full_at : (p : ℕ) → p % 8 ≡ 0 → head_now ≤ p → p < head_now + C → header_at p ≢ 0 → 8 ≤ bytes_of (header_at p)
  full_at p p8 p0 p1 some =
      long_bytes (header_at p) some (header_near C start m.headers s.views m.kept p p8 p0 p1).length_is

  -- a run ends above the records of it
  pub above_at : (p : ℕ) → p % 8 ≡ 0 → head_now ≤ p → p < head_now + C → IsCommitted (header_at p)
      → p + bytes_of (header_at p) ≤ m.ends p
  above_at p p8 p0 p1 is =
      let h : ℕ = header_at p in
      ⊎_elim (λ (last : m.ends p ≡ p + bytes_of h). omega arith)
      (λ (more : (p + bytes_of h < m.ends p) × IsCommitted (header_at (p + bytes_of h))
      × (m.ends (p + bytes_of h) ≡ m.ends p)). let less = more.0 in omega arith)
      (m.encodes.runs p p8 p0 p1 is).goes_on

  -- the record at the head is marked
  pub begins_head : begins_at head_now
  begins_head below is =
      let bounds = head_bounds elsewhere C start m.kept.lawful m.headers m.kept.consumer (all_of m.kept.hist) m.kept.memory in
      ⊎_elim (λ (marked : mark_at head_now ≡ m.ends head_now). marked)
      (λ (inside : (mark_at head_now ≤ head_now) × Precedes head_now header_at m.ends head_now).
      let from = inside.1.from in
      let under = inside.1.below in
      absurd (omega arith)) (m.encodes.runs head_now bounds.2 (omega arith) below is).mark

  module _ (q : ℕ) (got : List PlacedMessage) (reaches : Reaches q start (all_of m.kept.hist) got) (on : head_now ≤ q) where
    pub whole_at : q % 8 ≡ 0
    whole_at =
        let cap = m.kept.lawful.capacity in
        let least = cap.least in
        reach_aligned C q start (all_of m.kept.hist) got (omega arith) (capacity_aligned C cap)
        (start_aligned C start m.kept.lawful) m.kept.memory.placed reaches

    pub limit_at : q ≤ head_now + C
    limit_at =
        let top = (reach_bounds C q start (all_of m.kept.hist) got m.kept.memory.placed reaches).1 in
        let room = m.kept.memory.room in omega arith

    -- what begins before q ends there or before
    pub bound_at : (p : ℕ) → p % 8 ≡ 0 → head_now ≤ p → p < q → header_at p ≢ 0 → p + bytes_of (header_at p) ≤ q
    bound_at p p8 p0 less some =
        let r = m.kept in
        let limit = limit_at in
        let bounds = head_bounds elsewhere C start r.lawful m.headers r.consumer (all_of r.hist) r.memory in
        let low = bounds.0 in
        let is = shown_at p p8 p0 (omega arith) in
        let bytes = ap bytes_of is in
        let rest = ends_before C q start (all_of r.hist) got p r.lawful.capacity (start_aligned C start r.lawful)
        r.memory.placed reaches (omega arith) less (λ none. some (is ∙ none)) in
        omega arith

    -- and nothing begins inside of what begins at q
    pub inside_at : (p : ℕ) → p % 8 ≡ 0 → q < p → p < q + bytes_of (header_at q) → p < head_now + C → header_at q ≢ 0
        → header_at p ≡ 0
    inside_at p p8 low less near some =
        let r = m.kept in
        let is = shown_at q whole_at on (omega arith) in
        let bytes = ap bytes_of is in
        shown_at p p8 (omega arith) near
        ∙ none_inside C start (all_of r.hist) q p r.lawful.capacity (start_aligned C start r.lawful) r.memory.placed
        (λ none. some (is ∙ none)) low (omega arith)

    -- after what begins at q, no record is inside of a run, if the run of q ends there
    pub begins_after : q < head_now + C → header_at q ≢ 0
        → (IsCommitted (header_at q) → m.ends q ≡ q + bytes_of (header_at q)) → begins_at (q + bytes_of (header_at q))
    begins_after near some last below is =
        let h : ℕ = header_at q in
        let far : ℕ = q + bytes_of h in
        let eight = whole_bytes h in
        let q8 = whole_at in
        let full = full_at q q8 on near some in
        let far8 : far % 8 ≡ 0 = omega arith in
        let o = m.encodes.runs far far8 (omega arith) below is in
        ⊎_elim (λ (marked : mark_at far ≡ m.ends far). marked)
        (λ (inner : (mark_at far ≤ far) × Precedes head_now header_at m.ends far).
        let pre = inner.1 in
        let meets = pre.meets in
        let under = pre.below in
        let same = pre.same in
        let is_pre = pre.committed in
        ⊎_elim
        (λ (early : pre.at < q). let ended = bound_at pre.at pre.whole pre.from early is_pre.0 in absurd (omega arith))
        (λ (late : q ≤ pre.at). dite (ℕ_discrete pre.at q)
        (λ here.
        let stop = last (subst (λ z. IsCommitted (header_at z)) here is_pre) in
        let same_end : m.ends q ≡ m.ends far = ap m.ends (sym here) ∙ same in
        let above = above_at far far8 (omega arith) below is in
        let full_far = full_at far far8 (omega arith) below is.0 in
        absurd (omega arith))
        (λ other. absurd (is_pre.0 (inside_at pre.at pre.whole (omega arith) (omega arith) (omega arith) some))))
        (cases_lt pre.at q)) o.mark

    -- nothing is settled at q, and the read goes no further
    pub reads_nothing : begins_at q → ReadsRun C head_now q (no_run q) header_at m.ends mark_at
    reads_nothing marked = record {
      from = on;
      passed = omega arith;
      to = omega arith;
      near = limit_at;
      whole = (whole_at, whole_at);
      one = λ p p8 p0 p1 is. absurd (omega arith);
      ahead = λ more. absurd (omega arith);
      begins = marked;
      stops = λ _. marked;
    }

    -- what is at q is passed, and is no committed record
    pub reads_past : q < head_now + C → header_at q ≢ 0 → (IsCommitted (header_at q) → ⊥)
        → q + bytes_of (header_at q) ≤ head_now + C
        → ReadsRun C head_now (q + bytes_of (header_at q)) (record { from = q; to = q + bytes_of (header_at q) }) header_at
        m.ends mark_at
    reads_past near some none room =
        let h : ℕ = header_at q in
        let eight = whole_bytes h in
        let q8 = whole_at in
        record {
          from = on;
          passed = omega arith;
          to = omega arith;
          near = room;
          whole = (q8, omega arith);
          one = λ p p8 p0 p1 is. dite (ℕ_discrete p q)
              (λ here. absurd (none (subst (λ z. IsCommitted (header_at z)) here is)))
              (λ other. absurd (is.0 (inside_at p p8 (omega arith) p1 (omega arith) some)));
          ahead = λ more. absurd (omega arith);
          begins = λ below is. absurd (none is);
          stops = λ _. begins_after near some (λ is. absurd (none is));
        }

    -- a committed record of a run is passed
    pub reads_on : (from : ℕ) → q < head_now + C → IsCommitted (header_at q) → (head_now ≤ from) × (from ≤ q) × (from % 8 ≡ 0)
        → ((p : ℕ) → p % 8 ≡ 0 → from ≤ p → p < q → IsCommitted (header_at p) → m.ends p ≡ m.ends q)
        → begins_at from
        → ReadsRun C head_now (q + bytes_of (header_at q)) (record { from = from; to = m.ends q }) header_at m.ends mark_at
    reads_on from near is low before marked =
        let h : ℕ = header_at q in
        let eight = whole_bytes h in
        let q8 = whole_at in
        let o = m.encodes.runs q q8 on near is in
        let top = o.near in
        let above = above_at q q8 on near is in
        let low0 = low.0 in
        let low1 = low.1 in
        record {
          from = low.0;
          passed = omega arith;
          to = above;
          near = top;
          whole = (low.2, omega arith);
          one = λ p p8 p0 p1 is_p. ⊎_elim (λ (early : p < q). before p p8 p0 early is_p)
              (λ (late : q ≤ p). dite (ℕ_discrete p q) (λ here. ap m.ends here)
              (λ other. absurd (is_p.0 (inside_at p p8 (omega arith) p1 (omega arith) is.0)))) (cases_lt p q);
          ahead = λ more. ⊎_elim (λ (last : m.ends q ≡ q + bytes_of h). absurd (omega arith))
              (λ (on : (q + bytes_of h < m.ends q) × IsCommitted (header_at (q + bytes_of h))
              × (m.ends (q + bytes_of h) ≡ m.ends q)). (on.1, on.2)) o.goes_on;
          begins = marked;
          stops = λ done. begins_after near is.0 (λ _. sym done);
        }
