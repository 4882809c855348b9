-- The adders of a shared counter.
use Rattle.std.specs.Prelude.{◌≡◌, ℕ, ℤ, List, [], ◌∷◌, ◌++◌}
use Rattle.ring_adders.specs.{declared.seats.Adder.Adder, declared.seats.SharedCounter.SharedCounter, Sums.sum_of}
use Rattle.ring_layout.specs.Lists.{Begins}

-- the adder is one of this counter
abbrev pub IsAdderOf : SharedCounter → Adder → Type 0
IsAdderOf counter adder = adder.seat.table_id ≡ counter.table.shared.table_id

abbrev pub shares_of : Adder → ℕ
shares_of adder = adder.shares

-- what was added with the adder, and with the adders that it took back
abbrev pub added_by : Adder → List ℤ
added_by adder = adder.seat.me.0.added

-- what all adders had added, in order, when the adder looked last
abbrev pub seen_by : Adder → List ℤ
seen_by adder = adder.seat.me.0.seen

-- the adder is one of this counter, nothing was added with it, and it has seen these amounts
pub record IsNewAdderOf (counter : SharedCounter) (seen : List ℤ) (adder : Adder) : Type 0 where
  pub of_this : IsAdderOf counter adder
  pub added : added_by adder ≡ []
  pub seen_is : seen_by adder ≡ seen

-- The amount was added after all that had been added before. These amounts include all that the adder had seen, and the
-- value before is their sum.
pub record AddsAmount (amount value : ℤ) (old new : Adder) : Type 0 where
  pub before : List ℤ
  pub later : Begins (seen_by old) before
  pub value_is : value ≡ sum_of before
  pub seen : seen_by new ≡ before ++ amount ∷ []
  pub added : added_by new ≡ added_by old ++ amount ∷ []

-- The value is the sum of all that was added until then. These amounts include all that the adder had seen.
pub record SeesSum (value : ℤ) (old new : Adder) : Type 0 where
  pub later : Begins (seen_by old) (seen_by new)
  pub value_is : value ≡ sum_of (seen_by new)
  pub added : added_by new ≡ added_by old
