use Rattle.std.proofs.Common.{◌≡◌, ◌+◌, ◌-◌, ◌*◌, ◌≤◌}
use Rattle.ring_recovery.specs.Headers.{found_at, headers_finding, headers_in, new_walk, open_of}
use Rattle.ring_recovery.proofs.memory.check_headers.Given as goal

-- the first finding is among the headers that are left, and the open claims so far are counted
abbrev pub invariant-loop-k : goal.invariant-loop-k
invariant-loop-k l = record {
  rest : headers_finding l.capacity l.tail l.end
      (headers_in (found_at l.capacity l.words l.slots) (l.k-end - l.k) l.walk (l.head + 8 * l.k))
      ≡ headers_finding l.capacity l.tail l.head
      (headers_in (found_at l.capacity l.words l.slots) l.k-end new_walk l.head);
  claims : l.claims
      + open_of (headers_in (found_at l.capacity l.words l.slots) (l.k-end - l.k) l.walk (l.head + 8 * l.k))
      ≡ open_of (headers_in (found_at l.capacity l.words l.slots) l.k-end new_walk l.head);
  few : l.claims ≤ l.k;
}
