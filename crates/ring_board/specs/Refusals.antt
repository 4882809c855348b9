-- The refusals, and the cases in which they are returned.
use Rattle.std.specs.Prelude.{ℕ, ℤ, pos, Option, Some, None, Result, if◌then◌else◌, nat_lt}
use Rattle.ring_layout.specs.Refusals.{place_refusal_or, IsRefusedOr}
pub use Rattle.ring_layout.specs.Refusals.{IsRefusedAs, IsRefusedBy}
use Rattle.ring_board.specs.declared.fault.{TransmitFault.TransmitFault, SubscribeFault.SubscribeFault}
use Rattle.ring_board.specs.declared.fault.TransmitFault.TheVariants.{BadType, TooLong, PositionLimit}
use Rattle.ring_board.specs.declared.fault.SubscribeFault.TheVariants as subscribe_fault

-- the reason why a message of this type id and length is not transmitted at this tail, in the order of the tests
abbrev pub transmit_refusal_of : ℕ → ℕ → ℤ → ℕ → Option TransmitFault
transmit_refusal_of C tail type_id len = place_refusal_or BadType TooLong PositionLimit C tail type_id len None

-- the reason why a transmitter with this many shares makes no copying receiver
abbrev pub subscribe_refusal_of : ℕ → Option SubscribeFault
subscribe_refusal_of shares = if nat_lt 1 shares then None else Some subscribe_fault.NoShares

-- The result is the refusal if there is one. Otherwise it is Ok, unless memory runs out.
abbrev pub IsSubscribedUnless : {T : Type 0} → Option SubscribeFault → Result T SubscribeFault → Type 0
IsSubscribedUnless refusal result = IsRefusedOr subscribe_fault.OutOfMemory refusal result

-- the number of the refusal of a message
abbrev pub transmit_code : TransmitFault → ℤ
transmit_code (BadType _) = pos 4
transmit_code (TooLong _ _) = pos 5
transmit_code (PositionLimit _) = pos 6

-- the number of the refusal of a copying receiver
abbrev pub subscribe_code : SubscribeFault → ℤ
subscribe_code subscribe_fault.NoShares = pos 12
subscribe_code subscribe_fault.OutOfMemory = pos 3
