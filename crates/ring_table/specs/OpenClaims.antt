-- The number of open claims, and what follows from it.
use Rattle.std.specs.Prelude.{ℕ, ◌<◌, List, [], ◌∷◌, ⊤}
use Rattle.ring_layout.specs.{declared.message.ClaimState.ClaimState, Lists.total}
use Rattle.ring_layout.specs.declared.message.ClaimState.TheVariants.{Open, Committed, Aborted}
use Rattle.ring_table.specs.Staged.{StagedClaim, stage_state}

-- 1 for an open claim
abbrev pub one_if_open : ClaimState → ℕ
one_if_open Open = 1
one_if_open Committed = 0
one_if_open Aborted = 0

abbrev pub open_count : List StagedClaim → ℕ
open_count cs = total (λ (c : StagedClaim). one_if_open (stage_state c.stage)) cs

-- the places of the claims are below p
abbrev pub AreBelow : ℕ → List StagedClaim → Type 0
AreBelow p [] = ⊤
AreBelow p (c ∷ cs) = (c.place < p) × AreBelow p cs
