use Rattle.std.proofs.Common.{◌<◌, ◌≤◌, ◌≡◌, ◌/◌, ℕ, length, arith}
use Rattle.std.proofs.lemmas.Nat.{mod_below}
use Rattle.ring_layout.{specs.Places.IsCapacity, specs.Places.index, proofs.CapacityLemmas.capacity_blocks}
use Rattle.ring_words.proofs.write.append.store_headers.Goals as goal

inside : (C i p n : ℕ) → IsCapacity C → i ≡ index C p → C / 8 ≤ n → i < n
inside C i p n cap same le = omega (arith, same, mod_below p C (omega (arith, cap.least)), capacity_blocks C cap)

pub bounds-words-word_index : goal.bounds-words-word_index
bounds-words-word_index c =
    inside c.args.capacity c.word_index.result c.args.admission.tail
    (length c.args.words.now) c.requires.capacity c.word_index.ensures c.requires.room

pub bounds-words-word_index-2 : goal.bounds-words-word_index-2
bounds-words-word_index-2 c =
    inside c.args.capacity c.word_index-2.result c.args.admission.place
    (length c.if-place-tail.words) c.requires.capacity c.word_index-2.ensures
    (omega (arith, c.requires.room, c.if-place-tail.auto.words))
