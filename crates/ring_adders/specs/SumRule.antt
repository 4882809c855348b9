-- The rule of a shared counter. Its word is the sum of what all adders added.
use Rattle.std.specs.Prelude.{◌≡◌, ℕ, ℤ, List, [], length, slice_index}
use mathlib.Core.Option.{some}
use lib.ListN.{get_elem?}
use Rattle.ring_adders.specs.{declared.view.AdderView.AdderView, Sums.patterns, Sums.sum_word}
use Rattle.ring_layout.specs.{Lists.Begins, Lists.total, Refusals.all_shares}

-- An adder has seen a first part of what all adders added. An adder without shares added nothing.
pub record KnowsAdds (all : List ℤ) (v : AdderView) : Type 0 where
  pub seen : Begins v.seen all
  pub none : v.shares ≡ 0 → v.added ≡ []

-- There is one list of all that was added. The word is its sum, and what each adder added sums up to the same.
pub record SumRule (words : List ℕ) (views : List AdderView) : Type 0 where
  pub all : List ℤ
  pub wide : length words ≡ 1
  pub word : slice_index words 0 ≡ sum_word all
  pub sums : total (λ (v : AdderView). patterns v.added) views ≡ patterns all
  pub shares : total (λ (v : AdderView). v.shares) views ≡ all_shares
  pub each : (by : ℕ) (v : AdderView) → get_elem? views by ≡ some v → KnowsAdds all v
