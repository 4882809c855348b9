-- The views that each step on the values shows its seat.
use Rattle.std.specs.Prelude.{◌≡◌, ℕ, ◌≤◌, List, [], ◌∷◌, ◌++◌}
use Rattle.std.specs.Int.{cast_signed, w64}
use Rattle.ring_counters.specs.declared.values.view.{ValueWrite.ValueWrite, ValuesView.ValuesView}
use Rattle.ring_counters.specs.Views.{value_write, value_load, values_view}
use Rattle.ring_layout.specs.{Lists.Begins, Refusals.all_shares}
use Rattle.ring_counters.specs.ValueWrites.{value_after, AreLoads}

-- a load returns the value after some writes, which begin with those that the reader has seen
pub record Loads (id : ℕ) (v : ValuesView) (found : ℕ) (w : ValuesView) : Type 0 where
  pub after : List ValueWrite
  pub view : w ≡ values_view v.writes v.shares after v.made (v.loads ++ value_load id (value_after id after) after ∷ [])
  pub value : cast_signed w64 found ≡ value_after id after
  pub later : Begins v.seen after

-- the writer learns that the loads of a reader are those of its writes
pub record LearnsLoads (v w : ValuesView) : Type 0 where
  pub view : w ≡ v
  pub loads : AreLoads v.made v.loads v.seen
  pub shares : v.shares ≤ all_shares

abbrev pub WritesValue : ℕ → ℕ → ValuesView → ValuesView → Type 0
WritesValue id word v w =
    w ≡ values_view v.writes v.shares (v.seen ++ value_write id (cast_signed w64 word) ∷ []) v.made v.loads
