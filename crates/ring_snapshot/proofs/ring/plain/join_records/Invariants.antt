use Rattle.std.proofs.Common.{◌≡◌, ℕ, ◌-◌, ◌/◌, ◌≤◌, length, slice_index}
use Rattle.ring_snapshot.specs.PlainWords.{joined_from}
use Rattle.ring_snapshot.proofs.ring.plain.join_records.Given as goal

-- what is still to be done makes of the words what all of it makes of the first ones
abbrev pub invariant-loop-k : goal.invariant-loop-k
invariant-loop-k l = record {
  rest : joined_from l.capacity l.slots l.tail (l._k-end - l._k) l.run l.at l.words
      ≡ joined_from l.capacity l.slots l.tail l._k-end 0 l.head l.initial.words;
  order : l.at ≤ l.tail;
  length : length l.words ≡ length l.initial.words;
  trailer : (i : ℕ) → l.capacity / 8 ≤ i → slice_index l.words i ≡ slice_index l.initial.words i;
}
