-- The rows of a list of records.
use Rattle.std.specs.Prelude.{◌≡◌, ℕ, ℤ, List, [], ◌∷◌, ◌++◌, slice_get, Some}
use Rattle.ring_report.specs.declared.report.Cell.{Cell, TheVariants.Signed, TheVariants.Unsigned}

-- The cells have the numbers of a record, in the order of the columns. The third cell is the state.
pub record IsRowOf (place index : ℕ) (type_id : ℤ) (length : ℕ) (row : List Cell) : Type 0 where
  pub place_cell : slice_get row 0 ≡ Some (Unsigned place)
  pub index_cell : slice_get row 1 ≡ Some (Unsigned index)
  pub type_cell : slice_get row 3 ≡ Some (Signed type_id)
  pub length_cell : slice_get row 4 ≡ Some (Unsigned length)

-- one more element came at the end, and it has this property
abbrev pub IsAppended : {A : Type 0} → List A → List A → (A → Type 0) → Type 0
IsAppended {A} old new Holds = (x : A) × (new ≡ old ++ x ∷ []) × Holds x
