use Rattle.std.proofs.Common.{◌≡◌, ◌≤◌, replicate, vec_len, vec_capacity}
use Rattle.ring_counters.specs.Counter.{unused_metadata}
use Rattle.ring_counters.proofs.records.unused_metadata_records.Given as goal

abbrev pub invariant-loop-id : goal.invariant-loop-id
invariant-loop-id l = record {
  items : l.records.items ≡ replicate l.id unused_metadata;
  len : vec_len l.records ≡ l.id;
  room : l.count ≤ vec_capacity l.records;
}
