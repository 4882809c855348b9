use Rattle.std.proofs.Common.{◌≡◌}
use Rattle.ring_snapshot.specs.{Listing.left_of, Search.all_ok}
use Rattle.ring_snapshot.proofs.listing.Listing.are_records.Given as goal

-- no entry so far was a finding
abbrev pub invariant-loop-entry : goal.invariant-loop-entry
invariant-loop-entry g l =
    all_ok (left_of g.B.Buffer.size g.B.Buffer.entry l.entry-iterator)
    ≡ all_ok (left_of g.B.Buffer.size g.B.Buffer.entry l.fn.self)
