use Rattle.std.proofs.Common.{◌≡◌, ℕ, ◌<◌, false, get_or}
use Rattle.ring_counters.specs.Registry.{status_at, is_due}
use Rattle.ring_counters.proofs.records.Records.first_due.Given as goal

abbrev pub invariant-loop-at : goal.invariant-loop-at
invariant-loop-at l = (k : ℕ) → k < l.at → is_due l.now (status_at l.self (get_or l.self.freed k 0)) ≡ false
