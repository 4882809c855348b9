use Rattle.std.proofs.Common.{◌≡◌, ℕ, ◌+◌, ◌*◌, ◌/◌, ◌≤◌, List, slice_index, vec_len}
use Rattle.std.specs.Slots.{slots_items}
use Rattle.ring_table.specs.Marks.{ShowsRuns, Spreads}
use Rattle.ring_table.proofs.decode.spread_runs.Given as goal

abbrev pub invariant-loop-k : goal.invariant-loop-k
invariant-loop-k l = record {
  len : vec_len l.words ≡ vec_len l.initial.words;
  trailer : (i : ℕ) → l.capacity / 8 ≤ i → slice_index l.words.items i ≡ slice_index l.initial.words.items i;
  spreads : (headers : List ℕ) (r : ShowsRuns l.capacity l.head (slots_items l.closed.slots) l.initial.words.items headers)
      → Spreads l.capacity l.head headers r.ends l.initial.words.items l.words.items (l.head + 8 * l.k) l.walk.next l.walk.end;
}
