use Rattle.std.proofs.Common.{◌≡◌, ◌-◌, vec_len}
use Rattle.std.specs.Slots.{slots_items}
use Rattle.ring_layout.specs.Layout.{ring_words}
use Rattle.ring_table.specs.{Owners.all_of, Staged.staged_end, Walk.Parts, Walk.Walked}
use Rattle.ring_table.proofs.picture.show_bodies.Given as goal

abbrev pub invariant-loop-at : goal.invariant-loop-at
invariant-loop-at l = record {
  wide : vec_len l.words ≡ ring_words l.capacity;
  walks : (t : Parts l.capacity l.initial.words.items (slots_items l.closed.slots))
      → (l.tail ≡ staged_end t.start (all_of t.hist)) × Walked l.capacity t l.at l.words.items;
}

abbrev pub decreases-loop-at : goal.decreases-loop-at
decreases-loop-at l = l.tail - l.at
