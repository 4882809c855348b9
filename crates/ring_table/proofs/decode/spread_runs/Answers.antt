use Rattle.std.proofs.Common.{◌≡◌, ℕ, ◌+◌, ◌/◌, List, length, slice_index, get_or, refl, sym, ◌∙◌, subst, arith}
use Rattle.std.specs.Slots.{slots_items}
use Rattle.ring_layout.specs.Layout.{head_index, ring_words}
use Rattle.ring_table.{specs.Marks.AreMarked, specs.Marks.ShowsRuns, specs.Marks.Spreads, proofs.PictureWords.value_at}
use Rattle.ring_table.proofs.{StagedPlaces.capacity_aligned, SpreadLemmas.spreads_all, SpreadLemmas.spreads_first}
use Rattle.ring_table.proofs.decode.spread_runs.Goals as goal

-- the head, as the code reads it
head_value : (C : ℕ) (old : List ℕ) (n head : ℕ) → n ≡ ring_words C → length old ≡ n → head ≡ get_or old (C / 8 + 48) head
    → slice_index old (head_index C) ≡ head
head_value C old n head wide long read = value_at old (head_index C) head (omega arith) read

pub loop-k-init : goal.loop-k-init
loop-k-init c =
    let head : ℕ = c.index-head.result.now in
    let old : List ℕ = c.args.words.now.items in
    let is = head_value c.args.capacity old _ head c.requires.words (sym c.args.words.now.ok.0) c.index-head.ensures in
    let whole = c.requires.head.0 in
    record {
      len = refl;
      trailer = λ i far. refl;
      spreads = λ headers r. subst (λ z. Spreads c.args.capacity head headers r.ends old old z head head) (omega arith)
          (spreads_first c.args.capacity head c.requires.capacity _ old headers r (omega arith));
    }

pub spread_mark-walk-requires-clause-near : goal.spread_mark-walk-requires-clause-near
spread_mark-walk-requires-clause-near c =
    let old : List ℕ = c.args.words.now.items in
    let is = head_value c.args.capacity old _ c.index-head.result.now c.requires.words (sym c.args.words.now.ok.0) c.index-head.ensures
    in
    let limit = c.requires.head.1 in
    let most = c.requires.capacity.most in
    let more = c.loop-k-test.true in
    omega arith

pub spread_mark-walk-requires-clause-walk : goal.spread_mark-walk-requires-clause-walk
spread_mark-walk-requires-clause-walk c =
    let C : ℕ = c.args.capacity in
    let head : ℕ = c.index-head.result.now in
    let old : List ℕ = c.args.words.now.items in
    let is = head_value C old _ head c.requires.words (sym c.args.words.now.ok.0) c.index-head.ensures in
    let r : ShowsRuns C head (slots_items c.args.closed.now.slots) old c.requires.runs.0 =
    subst (λ z. ShowsRuns C z (slots_items c.args.closed.now.slots) old c.requires.runs.0) is c.requires.runs.1 in
    let c8 = capacity_aligned C c.requires.capacity in
    let more = c.loop-k-test.true in
    (head, old, c.requires.runs.0, r, c.loop-k.invariant.spreads c.requires.runs.0 r, omega arith)

pub loop-k-preserved : goal.loop-k-preserved
loop-k-preserved c =
    let C : ℕ = c.args.capacity in
    let head : ℕ = c.index-head.result.now in
    let old : List ℕ = c.args.words.now.items in
    let inv = c.loop-k.invariant in
    let e = c.spread_mark-walk.ensures in
    let c8 = capacity_aligned C c.requires.capacity in
    let more = c.loop-k-test.true in
    record {
      len = e.long ∙ inv.len;
      trailer = λ i far. e.trailer i far ∙ inv.trailer i far;
      spreads = λ headers r. subst (λ z. Spreads C head headers r.ends old c.spread_mark-walk.new.words.items z
          c.spread_mark-walk.result.next c.spread_mark-walk.result.end) (omega arith)
          (e.walks head old headers r (inv.spreads headers r) (omega arith));
    }

pub returns-clause-marks : goal.returns-clause-marks
returns-clause-marks c headers r =
    let C : ℕ = c.args.capacity in
    let head : ℕ = c.index-head.result.now in
    let old : List ℕ = c.args.words.now.items in
    let is = head_value C old _ head c.requires.words (sym c.args.words.now.ok.0) c.index-head.ensures in
    let r' = subst (λ z. ShowsRuns C z (slots_items c.args.closed.now.slots) old headers) is r in
    let c8 = capacity_aligned C c.requires.capacity in
    let done = c.loop-k-test.false in
    subst (λ z. AreMarked C z c.loop-k.words.items headers) (sym is)
    (spreads_all C head c.requires.capacity (slots_items c.args.closed.now.slots) old headers r' c.loop-k.words.items _ _ _
    (c.loop-k.invariant.spreads headers r') (omega arith))
