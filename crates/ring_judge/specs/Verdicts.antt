-- The right verdict on a recorded run. `Explained run lines` says that something explains these first lines of the run.
use Rattle.std.specs.Prelude.{ℕ, ◌+◌, ◌<◌, List, length, take}
use Rattle.ring_judge.specs.declared.verdict.Verdict.{Verdict, TheVariants.Yes, TheVariants.No}

-- Nothing explains the run. Something explains the lines before the k-th one, and nothing the lines up to that one
pub record IsFirstUnexplained {L : Type 0} (Explained : List L → List L → Type 0) (run : List L) (k : ℕ) : Type 0 where
  pub within : k < length run
  pub before : Explained run (take k run)
  pub at_line : Explained run (take (k + 1) run) → ⊥
  pub whole : Explained run run → ⊥

abbrev pub IsRightVerdict : {L : Type 0} → (List L → List L → Type 0) → List L → Verdict → Type 0
IsRightVerdict Explained run Yes = Explained run run
IsRightVerdict Explained run (No k) = IsFirstUnexplained Explained run k
