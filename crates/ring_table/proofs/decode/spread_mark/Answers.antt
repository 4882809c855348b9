use Rattle.std.proofs.Common.{◌≡◌, ◌≢◌, ◌⊎◌, ℕ, ◌+◌, ◌/◌, ◌%◌, ◌^◌, ◌≤◌, ◌<◌, List, set, slice_index, get_or, get_or-set_other, sym, ap, ◌∙◌, subst, inl, inr, ⊎_elim, length, arith}
use Rattle.std.proofs.{Math.Logic.dite, Math.Decide.ℕ_discrete, lemmas.Bool.cases_lt}
use Rattle.std.specs.Slots.{slots_items, slots_len}
use Rattle.ring_layout.specs.{Marks.committed_kind, Places.IsCapacity, Places.index, Places.rounded}
use Rattle.ring_table.specs.Marks.{at_position, IsCommitted, ShowsRuns, Spreads}
use Rattle.ring_table.proofs.{PictureWords.value_at, StagedPlaces.inside_buffer}
use Rattle.ring_table.proofs.SpreadLemmas.{committed_bytes, mark_committed, mark_other, spreads_in, spreads_over, spreads_past}
use Rattle.ring_table.proofs.decode.spread_mark.Goals as goal

pub returns-then-at-walk-clause-walks : goal.returns-then-at-walk-clause-walks
returns-then-at-walk-clause-walks c head old headers r s near =
    spreads_over c.args.capacity head c.requires.capacity _ old headers r _ _ _ _ s near c.if-at-walk.true

-- the word there, and that the walk stands there
module _ (C head : ℕ) (cap : IsCapacity C) (slots old headers now : List ℕ) (r : ShowsRuns C head slots old headers)
    (at next end i mark : ℕ) (s : Spreads C head headers r.ends old now at next end) (near : at < head + C) (is : i ≡ index C at)
    (wide : C / 8 ≤ length now) (read : mark ≡ get_or now i mark) (over : next ≤ at) where
  here : next ≡ at
  here = let order = s.order.1 in omega arith

  mark_is : at_position C old at ≡ mark
  mark_is =
      let low = inside_buffer C at cap in
      sym (s.ahead at s.whole.0 (omega arith) near) ∙ ap (slice_index now) (sym is) ∙ value_at now i mark (omega arith) read

  -- no committed record is there, if its run ends there
  none_here : (stop : ℕ) → stop ≤ at → (at < end → stop ≡ end)
      → (end ≤ at → at < mark → mark % 8 ≡ committed_kind → stop ≡ mark) → IsCommitted (at_position C headers at) → ⊥
  none_here stop le inside marked =
      let order = s.order.2 in
      let at_here = here in
      let m = mark_is in
      mark_other C head cap slots old headers r now at next end s near here (⊎_elim
      (λ (more : at < end). let same = inside more in absurd (omega arith))
      (λ (done : end ≤ at). ⊎_elim
      (λ (above : at < mark). inr (λ kind. let same = marked done above (ap (λ z. z % 8) (sym m) ∙ kind) in omega arith))
      (λ (low : mark ≤ at). inl (omega arith)) (cases_lt at mark)) (cases_lt at end))
      (⊎_elim (λ (more : at < end). let same = inside more in absurd (omega arith)) (λ (done : end ≤ at). omega arith)
      (cases_lt at end))

  -- a committed record is there, whose run ends above
  some_here : (stop : ℕ) → at < stop → (at < end → stop ≡ end)
      → (end ≤ at → at < mark → mark % 8 ≡ committed_kind → stop ≡ mark)
      → (end ≤ at → (mark ≤ at) ⊎ (mark % 8 ≢ committed_kind) → stop ≡ at)
      → IsCommitted (at_position C headers at) × (r.ends at ≡ stop)
  some_here stop above inside marked none = ⊎_elim
      (λ (more : at < end).
      let order = s.order.2 in
      let at_here = here in
      let go = s.goes_on (omega arith) in
      subst (λ z. IsCommitted (at_position C headers z) × (r.ends z ≡ stop)) here (go.0, go.1 ∙ sym (inside more)))
      (λ (done : end ≤ at).
      let order = s.order.2 in
      let at_here = here in
      let m = mark_is in
      ⊎_elim
      (λ (up : at < mark). dite (ℕ_discrete (mark % 8) committed_kind)
      (λ kind.
      let it = mark_committed C head cap slots old headers r now at next end s near here (omega arith)
      (ap (λ z. z % 8) m ∙ kind) (omega arith) in
      (it.0, it.1 ∙ m ∙ sym (marked done up kind)))
      (λ other. let same = none done (inr other) in absurd (omega arith)))
      (λ (low : mark ≤ at). let same = none done (inl low) in absurd (omega arith)) (cases_lt at mark))
      (cases_lt at end)

pub returns-then-end-at-clause-walks : goal.returns-then-end-at-clause-walks
returns-then-end-at-clause-walks c head old headers r s near =
    let C : ℕ = c.args.capacity in
    let wide = c.requires.words in
    let e = c.run_end-end.ensures in
    let over = c.if-at-walk.false in
    spreads_past C head c.requires.capacity _ old headers r _ _ _ _ s near
    (here C head c.requires.capacity _ old headers _ r _ _ _ _ _ s near c.word_index-index.ensures (omega arith)
    c.index-mark.ensures over)
    (none_here C head c.requires.capacity _ old headers _ r _ _ _ _ _ s near c.word_index-index.ensures (omega arith)
    c.index-mark.ensures over _ c.if-end-at.true e.inside e.marked)

pub get-header-requires : goal.get-header-requires
get-header-requires c =
    let full = c.requires.slots in
    let low = inside_buffer c.args.capacity c.args.at c.requires.capacity in
    let at = c.word_index-index.ensures in
    let long = full.1 in
    let lt : c.word_index-index.result < slots_len c.args.closed.now.slots = omega arith in
    (lt, full.0 c.word_index-index.result (omega arith) lt)

pub returns-clause-trailer : goal.returns-clause-trailer
returns-clause-trailer c i far =
    let low = inside_buffer c.args.capacity c.args.at c.requires.capacity in
    let at = c.word_index-index.ensures in
    get_or-set_other c.args.words.now.items c.word_index-index.result i (c.args.at + c.align8.result) 0 (λ same. omega arith)

pub returns-clause-walks : goal.returns-clause-walks
returns-clause-walks c head old headers r s near =
    let C : ℕ = c.args.capacity in
    let cap = c.requires.capacity in
    let wide = c.requires.words in
    let now : List ℕ = c.args.words.now.items in
    let at : ℕ = c.args.at in
    let i : ℕ = c.word_index-index.result in
    let is : i ≡ index C at = c.word_index-index.ensures in
    let low = inside_buffer C at cap in
    let next : ℕ = at + c.align8.result in
    let e = c.run_end-end.ensures in
    let over = c.if-at-walk.false in
    let long = c.requires.slots.1 in
    let xs : List ℕ = slots_items c.args.closed.now.slots in
    let there = some_here C head cap _ old headers _ r _ _ _ _ _ s near is (omega arith) c.index-mark.ensures over
    c.run_end-end.result c.if-end-at.false e.inside e.marked e.none in
    let slot : slice_index xs i ≡ c.get-header.result.now = value_at xs i _ (omega arith) c.get-header.ensures in
    let header : c.get-header.result.now ≡ at_position C headers at =
    sym slot ∙ ap (slice_index xs) is ∙ r.heads at s.whole.0 s.order.0 near there.0 in
    let bytes = committed_bytes (at_position C headers at) there.0.1 in
    subst (λ z. Spreads C head headers r.ends old (set now z next) (at + 8) next c.run_end-end.result) (sym is)
    (spreads_in C head cap xs old headers r now at _ _ s near
    (here C head cap _ old headers _ r _ _ _ _ _ s near is (omega arith) c.index-mark.ensures over)
    there.0 (omega arith) c.run_end-end.result next there.1
    (ap (λ z. at + z) (c.align8.ensures ∙ ap (λ z. rounded (z % 2 ^ 32)) header ∙ sym bytes)))
