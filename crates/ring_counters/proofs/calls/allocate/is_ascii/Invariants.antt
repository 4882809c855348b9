use Rattle.std.proofs.Common.{◌≡◌, nat_lt, take}
use Rattle.std.specs.List.{list_all}
use Rattle.ring_counters.proofs.calls.allocate.is_ascii.Given as goal

abbrev pub invariant-loop-byte : goal.invariant-loop-byte
invariant-loop-byte l = nat_lt l.union 128 ≡ list_all (λ b. nat_lt b 128) (take l.byte-index l.label)
