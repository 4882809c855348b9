-- What draining a ring does.
use Rattle.std.specs.Prelude.{◌≡◌, ◌≢◌, ℕ, List, ◌++◌, length, All}
use Rattle.ring_layout.specs.declared.message.{Claim.Claim, ClaimState.TheVariants.Open}
use Rattle.ring_layout.specs.History.{committed_of}
use Rattle.ring_words.specs.{Ring.Ring, Ring.Has, Reading.IsBlocked}

-- every claim is settled
abbrev pub AllSettled : List Claim → Type 0
AllSettled h = All (λ c. c.state ≢ Open) h

-- of the history h the settled front was passed, which shows this many messages: what is left is empty, or begins with
-- an open claim
pub record Drains (h : List Claim) (count : ℕ) (new : Ring) : Type 0 where
  pub passed : List Claim
  pub rest : List Claim
  pub whole : h ≡ passed ++ rest
  pub settled : AllSettled passed
  pub counted : count ≡ length (committed_of passed)
  pub left : Has new rest
  pub blocked : IsBlocked new rest
