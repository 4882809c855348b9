-- The reasons why a command is refused, and the numbers of these reasons in replies.
use Rattle.std.specs.Prelude.{◌≡◌, ℕ, ℤ, pos, Result, Ok, IfOk, IfErr}
use Rattle.ring_protocol.specs.declared.codes.{RefusalCode.RefusalCode, UnknownCode.UnknownCode}
use Rattle.ring_protocol.specs.declared.codes.RefusalCode.TheVariants as of
use Rattle.ring_protocol.specs.declared.fault.Bad.{Bad, TheVariants.Malformed, TheVariants.UnknownType}
use Rattle.ring_counters.specs.{declared.fault.AllocateRefused.AllocateRefused, Codes.allocate_code, Codes.id_code}
use Rattle.ring_counters.specs.declared.fault.AllocateRefused.TheVariants.{KeyTooLong, LabelTooLong, LabelNotAscii, NoFreeCounter}
use Rattle.ring_counters.specs.declared.fault.IdFault.{IdFault, TheVariants.BadId, TheVariants.NotAllocated}

-- the number of each refusal
abbrev pub number_of : RefusalCode → ℤ
number_of of.KeyTooLong = allocate_code KeyTooLong
number_of of.LabelTooLong = allocate_code LabelTooLong
number_of of.LabelNotAscii = allocate_code LabelNotAscii
number_of of.NoFreeCounter = allocate_code NoFreeCounter
number_of of.BadId = id_code BadId
number_of of.NotAllocated = id_code NotAllocated
number_of of.Malformed = pos 22
number_of of.UnknownType = pos 23
number_of of.BadOwner = pos 28

-- the refusal with this number, or the number if no refusal has it
pub record IsNamed (number : ℤ) (result : Result RefusalCode UnknownCode) : Type 0 where
  pub found : IfOk result (λ code. number_of code ≡ number)
  pub only : (code : RefusalCode) → number_of code ≡ number → result ≡ Ok code
  pub none : IfErr result (λ unknown. unknown.number ≡ number)

-- What is refused --------------------------------------------------------------

abbrev pub of_allocate : AllocateRefused → RefusalCode
of_allocate KeyTooLong = of.KeyTooLong
of_allocate LabelTooLong = of.LabelTooLong
of_allocate LabelNotAscii = of.LabelNotAscii
of_allocate NoFreeCounter = of.NoFreeCounter

abbrev pub of_id : IdFault → RefusalCode
of_id BadId = of.BadId
of_id NotAllocated = of.NotAllocated

abbrev pub of_bad_owner : RefusalCode
of_bad_owner = of.BadOwner

abbrev pub of_bad : Bad → RefusalCode
of_bad (Malformed correlation) = of.Malformed
of_bad (UnknownType correlation) = of.UnknownType

-- and the numbers of what the protocol itself refuses ---------------------------

abbrev pub bad_code : Bad → ℤ
bad_code bad = number_of (of_bad bad)

abbrev pub bad_correlation : Bad → ℕ
bad_correlation (Malformed correlation) = correlation
bad_correlation (UnknownType correlation) = correlation

abbrev pub bad_owner_code : ℤ
bad_owner_code = number_of of_bad_owner
