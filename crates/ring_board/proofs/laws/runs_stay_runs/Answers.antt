use Rattle.std.proofs.Common.{ℕ, List, [], ◌∷◌, ◌++◌, sym, subst, append_assoc}
use Rattle.ring_board.specs.{declared.shared.view.Record.Record, declared.shared.view.Taken.Taken, Runs.AreRuns}
use Rattle.ring_board.proofs.{StoreLemmas.append_nil, SeatLemmas.runs_more}
use Rattle.ring_board.proofs.laws.runs_stay_runs.Goals as goal

runs_longer : (sent more : List Record) (from : ℕ) (copies : List Taken) → AreRuns sent from copies
    → AreRuns (sent ++ more) from copies
runs_longer sent [] from copies h = subst (λ (l : List Record). AreRuns l from copies) (sym (append_nil sent)) h
runs_longer sent (r ∷ rs) from copies h =
    subst (λ (l : List Record). AreRuns l from copies) (append_assoc sent (r ∷ []) rs)
    (runs_longer (sent ++ r ∷ []) rs from copies (runs_more sent r from copies h))

pub returns : goal.returns
returns c = runs_longer
