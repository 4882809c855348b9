-- The views that each step on the sum shows its adder.
use Rattle.std.specs.Prelude.{◌≡◌, ℕ, ◌≤◌, ℤ, List, [], ◌∷◌, ◌++◌}
use Rattle.std.specs.Int.{cast_signed, w64}
use Rattle.ring_adders.specs.{declared.view.AdderView.AdderView, Sums.sum_word, Views.adder_view}
use Rattle.ring_layout.specs.{Lists.Begins, Refusals.all_shares}

-- One more amount is added, after all that the adder has seen and perhaps more amounts. The word that was found is the
-- sum of these.
pub record Adds (word : ℕ) (v : AdderView) (found : ℕ) (w : AdderView) : Type 0 where
  pub before : List ℤ
  pub later : Begins v.seen before
  pub sum : found ≡ sum_word before
  pub view : w ≡ adder_view v.shares (v.added ++ cast_signed w64 word ∷ []) (before ++ cast_signed w64 word ∷ [])

-- The sum of all that was added is found. If the adder has all shares, it is the sum of what the adder added.
pub record Loads (v : AdderView) (found : ℕ) (w : AdderView) : Type 0 where
  pub all : List ℤ
  pub later : Begins v.seen all
  pub sum : found ≡ sum_word all
  pub total : v.shares ≡ all_shares → found ≡ sum_word v.added
  pub shares : v.shares ≤ all_shares
  pub view : w ≡ adder_view v.shares v.added all
