-- Why a claim is refused.
use Rattle.std.specs.Prelude.{ℕ, ◌+◌, ℤ, pos, Option, Some, None, if◌then◌else◌, nat_lt}
use Rattle.ring_words.specs.{declared.fault.ClaimFault.ClaimFault, Ring.Ring, Ring.head_of, Ring.tail_of}
use Rattle.ring_words.specs.declared.fault.ClaimFault.TheVariants.{BadType, TooLong, PositionLimit, InsufficientCapacity}
use Rattle.ring_layout.specs.{History.span, Places.end_after, Refusals.place_refusal_or}
pub use Rattle.ring_layout.specs.Refusals.{IsRefusedBy}

-- the refusal of a claim of this type id and length, in the order of the tests; none if it fits
abbrev pub refusal_of : Ring → ℤ → ℕ → Option ClaimFault
refusal_of r type_id len = place_refusal_or BadType TooLong PositionLimit r.capacity (tail_of r) type_id len
    (if nat_lt (head_of r + r.capacity) (end_after r.capacity (tail_of r) (span len))
    then Some (InsufficientCapacity (tail_of r) (head_of r)) else None)

-- the number of a refused claim
abbrev pub claim_code : ClaimFault → ℤ
claim_code (BadType _) = pos 4
claim_code (TooLong _ _) = pos 5
claim_code (PositionLimit _) = pos 6
claim_code (InsufficientCapacity _ _) = pos 7
