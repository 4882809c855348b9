-- The slots of a producer's claims, and the map by which a claim is found.
use Rattle.std.specs.Prelude.{◌≡◌, ℕ, ◌<◌, ◌≤◌, List, Option, Some, None, length, nat_eq, slice_index_or}
use Rattle.std.specs.HashMap.{HashMap, get}
use Rattle.ring_words.specs.Open.{ClaimAt}

-- the slots, of which some are empty, and how many there may be before more room is needed
pub record ClaimSlots : Type 0 where
  pub slots : List (Option ClaimAt)
  pub room : ℕ

-- at the place of each claim in the first slots the map has its slot
pub record AreNoted {S : Type 0} (slots : List (Option ClaimAt)) (map : HashMap ℕ ℕ S) (noted : ℕ) : Type 0 where
  pub within : noted ≤ length slots
  pub finds : (i : ℕ) (t : ClaimAt) → i < noted → slice_index_or slots i None ≡ Some t
      → get nat_eq map t.place ≡ Some i
