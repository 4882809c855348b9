use Rattle.std.proofs.Common.{◌≡◌, ℕ, ◌<◌, false}
use Rattle.ring_counters.specs.Registry.{counter_at, is_registered}
use Rattle.ring_counters.proofs.records.Records.find.Given as goal

-- no id that was looked at has them
abbrev pub invariant-loop-id : goal.invariant-loop-id
invariant-loop-id l = (k : ℕ) → k < l.id → is_registered l.type_id l.registration (counter_at l.self k) ≡ false
