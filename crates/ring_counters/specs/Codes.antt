-- The numbers of refusals.
use Rattle.std.specs.Prelude.{ℤ, pos}
use Rattle.ring_counters.specs.declared.fault.AllocateRefused.{AllocateRefused}
use Rattle.ring_counters.specs.declared.fault.AllocateRefused.TheVariants.{KeyTooLong, LabelTooLong, LabelNotAscii, NoFreeCounter}
use Rattle.ring_counters.specs.declared.fault.IdFault.{IdFault, TheVariants.BadId, TheVariants.NotAllocated}
use Rattle.ring_counters.specs.declared.fault.MakeFault.{MakeFault, TheVariants.BadCount, TheVariants.OutOfMemory}

-- the number of the refusal to make counters
abbrev pub make_code : MakeFault → ℤ
make_code BadCount = pos 15
make_code OutOfMemory = pos 3

-- the number of the refusal to allocate a counter
abbrev pub allocate_code : AllocateRefused → ℤ
allocate_code KeyTooLong = pos 16
allocate_code LabelTooLong = pos 17
allocate_code LabelNotAscii = pos 18
allocate_code NoFreeCounter = pos 19

-- the number of the refusal of an id
abbrev pub id_code : IdFault → ℤ
id_code BadId = pos 20
id_code NotAllocated = pos 21
