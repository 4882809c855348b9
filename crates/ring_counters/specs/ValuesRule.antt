-- The rule of the values, which have one writer and many readers.
use Rattle.std.specs.Prelude.{◌≡◌, ℕ, ◌<◌, true, List, length, slice_index, FitsSigned}
use Rattle.std.specs.Int.{cast_unsigned, w64}
use mathlib.Core.Option.{some}
use lib.ListN.{get_elem?}
use Rattle.ring_counters.specs.declared.values.view.{ValueWrite.ValueWrite, ValuesView.ValuesView}
use Rattle.ring_layout.specs.{Lists.Begins, Lists.total, Refusals.all_shares}
use Rattle.ring_counters.specs.ValueWrites.{value_after, AreLoads}

-- The writer has all writes. A reader has seen a first part of them, and its loads are loads of these.
pub record KnowsWrites (writer : ℕ) (all : List ValueWrite) (by : ℕ) (v : ValuesView) : Type 0 where
  pub writes : v.writes ≡ true → (by ≡ writer) × (v.seen ≡ all)
  pub seen : Begins v.seen all
  pub loads : AreLoads v.made v.loads all

-- There is one list of writes. Each word is its id's value after them. The shares add up.
pub record ValuesRule (count : ℕ) (words : List ℕ) (views : List ValuesView) : Type 0 where
  pub writer : ℕ
  pub all : List ValueWrite
  pub wide : length words ≡ count
  pub shares : total (λ (v : ValuesView). v.shares) views ≡ all_shares
  pub fits : (id : ℕ) → FitsSigned w64 (value_after id all)
  pub shows : (id : ℕ) → id < count → slice_index words id ≡ cast_unsigned w64 (value_after id all)
  pub each : (by : ℕ) (v : ValuesView) → get_elem? views by ≡ some v → KnowsWrites writer all by v
