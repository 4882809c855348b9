use Rattle.std.proofs.Common.{◌≡◌, ℕ, ◌+◌, ◌<◌, slice_index}
use Rattle.ring_counters.specs.Records.{byte_at}
use Rattle.ring_counters.proofs.records.bytes.load_bytes.Given as goal

abbrev pub invariant-loop-k : goal.invariant-loop-k
invariant-loop-k l = (j : ℕ) → j < l.k → slice_index l.bytes j ≡ byte_at l.words (l.from + j)
