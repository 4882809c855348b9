use Rattle.std.proofs.Common.{◌≡◌, ◌≤◌, count_by, take}
use Rattle.ring_counters.specs.Registry.{is_due, status_at}
use Rattle.ring_counters.proofs.records.Records.due_count.Given as goal

abbrev pub invariant-loop-at : goal.invariant-loop-at
invariant-loop-at l =
    (l.due ≡ count_by (λ id. is_due l.now (status_at l.self id)) (take l.at l.self.freed)) × (l.due ≤ l.at)
