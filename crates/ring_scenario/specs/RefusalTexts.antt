-- The text that lines print for refusals, which is the number, the name, and what the fault says.
use Rattle.std.specs.Prelude.{ℕ, ℤ, pos, List, ◌++◌, codes, decimal}
use Rattle.std.specs.Fmt.{signed_decimal}
use Rattle.ring_layout.specs.declared.share.NoShares.{NoShares}
use Rattle.ring_words.specs.declared.fault.{ClaimFault.ClaimFault, PutRange.PutRange}
use Rattle.ring_words.specs.declared.fault.ClaimFault.TheVariants as claim
use Rattle.ring_board.specs.declared.fault.{SubscribeFault.SubscribeFault, TransmitFault.TransmitFault}
use Rattle.ring_board.specs.declared.fault.SubscribeFault.TheVariants as subscribe
use Rattle.ring_board.specs.declared.fault.TransmitFault.TheVariants as transmit
use Rattle.ring_counters.specs.declared.fault.{BadId.BadId, IdFault.IdFault, OutOfMemory.OutOfMemory}
use Rattle.ring_counters.specs.declared.fault.IdFault.TheVariants as id
use Rattle.ring_storm.specs.declared.plan.StormFault.{StormFault}
use Rattle.ring_storm.specs.declared.plan.StormFault.TheVariants as storm

-- The line of a refusal with this number. The rest begins with a space.
abbrev pub refused_text : ℤ → List ℕ → List ℕ
refused_text code rest = codes "refused " ++ (signed_decimal code ++ rest)

-- a type id below 1
abbrev pub bad_type_text : ℤ → List ℕ
bad_type_text type_id = codes " BadType " ++ (signed_decimal type_id ++ codes "\n")

-- a message of this many bytes, and the largest number that one may have
abbrev pub too_long_text : ℕ → ℕ → List ℕ
too_long_text len max = codes " TooLong " ++ (decimal len ++ (codes " max " ++ (decimal max ++ codes "\n")))

-- a record that would end above the last position
abbrev pub limit_text : ℕ → List ℕ
limit_text tail = codes " PositionLimit tail " ++ (decimal tail ++ codes "\n")

-- a record that does not fit at this tail and head
abbrev pub full_text : ℕ → ℕ → List ℕ
full_text tail head =
    codes " InsufficientCapacity tail " ++ (decimal tail ++ (codes " head " ++ (decimal head ++ codes "\n")))

abbrev pub claim_refused : ClaimFault → List ℕ
claim_refused (claim.BadType type_id) = refused_text (pos 4) (bad_type_text type_id)
claim_refused (claim.TooLong len max) = refused_text (pos 5) (too_long_text len max)
claim_refused (claim.PositionLimit tail) = refused_text (pos 6) (limit_text tail)
claim_refused (claim.InsufficientCapacity tail head) = refused_text (pos 7) (full_text tail head)

abbrev pub put_refused : PutRange → List ℕ
put_refused fault = refused_text (pos 9) (codes " PutRange\n")

abbrev pub transmit_refused : TransmitFault → List ℕ
transmit_refused (transmit.BadType type_id) = refused_text (pos 4) (bad_type_text type_id)
transmit_refused (transmit.TooLong len max) = refused_text (pos 5) (too_long_text len max)
transmit_refused (transmit.PositionLimit tail) = refused_text (pos 6) (limit_text tail)

abbrev pub shares_refused : NoShares → List ℕ
shares_refused fault = refused_text (pos 12) (codes " NoShares\n")

abbrev pub memory_refused : OutOfMemory → List ℕ
memory_refused fault = refused_text (pos 3) (codes " OutOfMemory\n")

abbrev pub subscribe_refused : SubscribeFault → List ℕ
subscribe_refused subscribe.NoShares = refused_text (pos 12) (codes " NoShares\n")
subscribe_refused subscribe.OutOfMemory = refused_text (pos 3) (codes " OutOfMemory\n")

abbrev pub id_refused : IdFault → List ℕ
id_refused id.BadId = refused_text (pos 20) (codes " BadId\n")
id_refused id.NotAllocated = refused_text (pos 21) (codes " NotAllocated\n")

abbrev pub load_refused : BadId → List ℕ
load_refused fault = refused_text (pos 20) (codes " BadId\n")

abbrev pub storm_refused : StormFault → List ℕ
storm_refused storm.BadPlan = refused_text (pos 26) (codes " BadPlan\n")
storm_refused storm.OutOfMemory = refused_text (pos 3) (codes " OutOfMemory\n")
storm_refused storm.TurnsSpent = refused_text (pos 27) (codes " TurnsSpent\n")
