-- The memory that a ring leaves if all its threads die at once, each at any step. Its words have marks, and its records
-- lie in slots, one slot for each word of the buffer.
use Rattle.std.specs.Prelude.{◌≡◌, ℕ, ◌+◌, ◌/◌, ◌%◌, ◌<◌, List, [], ◌∷◌, length, slice_index}
use mathlib.Core.Option.{Option, some}
use lib.ListN.{get_elem?}
use Rattle.ring_layout.specs.{Places.index, declared.message.Message.Message}
use Rattle.ring_table.specs.{Marks.KeepsMarks, declared.claim.PlacedMessage.PlacedMessage, declared.view.View.View}
use Rattle.ring_table.specs.{Shelf.IsGotOut, Staged.body_word, Staged.slot_bytes}

-- the slots have the header and the body of this message at this place
abbrev pub HaveRecord : ℕ → List ℕ → ℕ → Message → Type 0
HaveRecord C slots place m = (at : ℕ) → at % 8 ≡ 0 → at < 8 + length m.body
    → slice_index slots (index C (place + at)) ≡ body_word (slot_bytes m) at

-- The slots are those of a ring. A slot at home has its word. A slot that the reader has out to read a message still
-- has the word of this message's record, since a reader stores nothing there. Nothing is said of the slots that
-- producers have out to fill them.
pub record IsImage (C : ℕ) (homes : List (Option ℕ)) (views : List View) (slots : List ℕ) : Type 0 where
  pub wide : length slots ≡ C / 8
  pub home : (i y : ℕ) → get_elem? homes i ≡ some (some y) → get_elem? slots i ≡ some y
  pub read : (id : ℕ) (v : View) (m : PlacedMessage) → get_elem? views id ≡ some v → v.out ≡ m ∷ [] → IsGotOut v m
      → HaveRecord C slots m.place m.message

-- The words and the slots are what a ring of this capacity and this start left. The rule of the ring holds between any
-- two steps of any threads, so it holds of what is left, whatever step each thread died at
pub record Remains (C start : ℕ) (words slots : List ℕ) : Type 0 where
  pub homes : List (Option ℕ)
  pub views : List View
  pub rule : KeepsMarks C start words homes views
  pub image : IsImage C homes views slots
