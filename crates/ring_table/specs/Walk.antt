-- How the words of a closed ring are built if its bodies lie in slots: by a walk over the headers from the head on.
use Rattle.std.specs.Prelude.{◌≡◌, ◌⊎◌, ℕ, ◌+◌, ◌/◌, ◌%◌, ◌≤◌, ◌<◌, List, [], ◌∷◌, length, slice_index}
use lib.ListN.{get_elem?}
use mathlib.Core.Option.{some}
use Rattle.ring_layout.specs.Places.{index}
use Rattle.ring_table.specs.Staged.{in_words, elsewhere, StagedClaim, body_word, claim_end, staged_word_at}
use Rattle.ring_table.specs.{Owners.OwnedHistory, Owners.all_of, Passing.AreSettled, Rule.IsLawful, Rule.IsMemory}
use Rattle.ring_table.specs.Views.{ConsumerView}

-- `new` has what `from` has in the n places from `first` on, and elsewhere what `old` has
pub record IsCopied (first n : ℕ) (from old new : List ℕ) : Type 0 where
  pub long : length new ≡ length old
  pub inside : (j : ℕ) → first ≤ j → j < first + n → slice_index new j ≡ slice_index from j
  pub outside : (j : ℕ) → (j < first) ⊎ (first + n ≤ j) → slice_index new j ≡ slice_index old j

-- the words show the headers of settled claims, and the slots have their bodies, from the head on
pub record Parts (C : ℕ) (words slots : List ℕ) : Type 0 where
  pub start : ℕ
  pub hist : OwnedHistory
  pub consumer : ConsumerView
  pub lawful : IsLawful C start
  pub memory : IsMemory elsewhere C start words (all_of hist) consumer
  pub settled : AreSettled (all_of hist)
  pub none_cleared : consumer.cleared ≡ consumer.head
  pub bodies : (k : ℕ) (x : ℕ × StagedClaim) → get_elem? hist k ≡ some x → consumer.head ≤ x.1.place
      → (at : ℕ) → at % 8 ≡ 0 → at < length x.1.message.body
      → slice_index slots (index C (x.1.place + 8 + at)) ≡ body_word x.1.message.body at

-- from e on a walk over the claims has come to s: to the end of a claim, or to the place of one
abbrev pub Stands : ℕ → ℕ → List StagedClaim → Type 0
Stands s e [] = s ≡ e
Stands s e (c ∷ cs) = (s ≡ e) ⊎ ((s ≡ c.place) ⊎ Stands s (claim_end c) cs)

-- the walk has come to s: before it the words that are made show headers and bodies, from it on headers alone
pub record Walked (C : ℕ) {words slots : List ℕ} (t : Parts C words slots) (s : ℕ) (made : List ℕ) : Type 0 where
  pub wide : length made ≡ length words
  pub whole : s % 8 ≡ 0
  pub from : t.consumer.head ≤ s
  pub stands : Stands s t.start (all_of t.hist)
  pub done : (p : ℕ) → p % 8 ≡ 0 → t.consumer.head ≤ p → p < s
      → slice_index made (index C p) ≡ staged_word_at in_words (all_of t.hist) p
  pub ahead : (p : ℕ) → p % 8 ≡ 0 → s ≤ p → p < t.consumer.head + C
      → slice_index made (index C p) ≡ staged_word_at elsewhere (all_of t.hist) p
  pub trailer : (i : ℕ) → C / 8 ≤ i → slice_index made i ≡ slice_index words i
