-- The open claims of a producer, the oldest first. The number of a claim is its place.
use Rattle.std.specs.Prelude.{◌≡◌, ◌==◌, ℕ, ◌<◌, List, [], ◌∷◌, Option, Some, None, Bool, true, false, if◌then◌else◌, length, slice_index_or, slice_set}
use Rattle.ring_layout.specs.declared.message.ClaimState.TheVariants.{Aborted}
use Rattle.ring_words.specs.Open.{ClaimAt}
use Rattle.ring_table.specs.declared.claim.{StagedClaim.StagedClaim, Stage.TheVariants.Stored}
use Rattle.ring_table.specs.Changes.{changed, staged}
use Rattle.ring_rings.specs.Holding.{in_slots}
use Rattle.ring_ends.specs.Slots.{ClaimSlots}

-- Claims by number ---------------------------------------------------------------

-- the claim of this number
abbrev pub claim_numbered : ℕ → List ClaimAt → Option ClaimAt
claim_numbered number [] = None
claim_numbered number (t ∷ ts) = if t.place == number then Some t else claim_numbered number ts

-- the claims without that one
abbrev pub without : ℕ → List ClaimAt → List ClaimAt
without number [] = []
without number (t ∷ ts) = if t.place == number then ts else t ∷ without number ts

-- no claim has this number
pub record IsNoNumber (number : ℕ) (claims : List ClaimAt) : Type 0 where
  pub claim : claim_numbered number claims ≡ None
  pub rest : without number claims ≡ claims

-- the claim of this number was taken out
pub record Takes (number : ℕ) (t : ClaimAt) (old new : List ClaimAt) : Type 0 where
  pub claim : claim_numbered number old ≡ Some t
  pub rest : new ≡ without number old

-- Slots --------------------------------------------------------------------------

-- the claims that a producer keeps, the oldest first
abbrev pub claims_in : ClaimSlots → List ClaimAt
claims_in kept = in_slots kept.slots

-- there is room to keep one more
abbrev pub HasRoomToKeep : ClaimSlots → Type 0
HasRoomToKeep kept = length kept.slots < kept.room

-- the slot has the claim of this number
abbrev pub has_numbered : ℕ → Option ClaimAt → Bool
has_numbered number None = false
has_numbered number (Some t) = t.place == number

-- the slot at this index does not have it
abbrev pub LacksAt : ℕ → List (Option ClaimAt) → ℕ → Type 0
LacksAt number slots i = has_numbered number (slice_index_or slots i None) ≡ false

-- the slot at this index has it
pub record IsSlotOf (number : ℕ) (slots : List (Option ClaimAt)) (index : ℕ) : Type 0 where
  pub inside : index < length slots
  pub has : has_numbered number (slice_index_or slots index None) ≡ true

-- the claim of this number was taken out of the slot at this index
pub record TakesFrom (number index : ℕ) (t : ClaimAt) (old new : List (Option ClaimAt)) : Type 0 where
  pub inside : index < length new
  pub takes : Takes number t (in_slots old) (in_slots new)
  pub back : slice_set new index (Some t) ≡ old

-- a producer's claims after these were aborted, the youngest first
abbrev pub aborted : List ClaimAt → List StagedClaim → List StagedClaim
aborted [] cs = cs
aborted (t ∷ ts) cs = changed t.place (staged (Stored Aborted)) (aborted ts cs)
