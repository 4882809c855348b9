-- Storing a record after the tail.
use Rattle.std.specs.Prelude.{◌≡◌, ℕ, ◌+◌, ◌-◌, ◌%◌, ◌/◌, ◌<◌, ◌≤◌, List, [], ◌∷◌, length, slice_index, slice_set, if◌then◌else◌, nat_lt}
use Rattle.ring_layout.specs.{declared.message.Claim.Claim, History.span, History.span_of, Headers.padding_header}
use Rattle.ring_layout.specs.{Places.index, Places.next_place, Places.end_after, Places.max_position, Picture.word_at}
use Rattle.ring_words.specs.Ring.{Ring, head_of, tail_of}

-- a claim of this length is admitted: it has a valid length, fits, and ends at a valid position
pub record IsAdmitted (r : Ring) (len place end : ℕ) : Type 0 where
  pub short : len ≤ r.capacity / 8
  pub is_place : place ≡ next_place r.capacity (tail_of r) (span len)
  pub is_end : end ≡ place + span len
  pub fits : end ≤ head_of r + r.capacity
  pub limit : end ≤ max_position

-- the words with the header of the padding from the tail to the place, if there is any
abbrev pub padded : ℕ → ℕ → ℕ → List ℕ → List ℕ
padded C tail place words =
    if nat_lt tail place then slice_set words (index C tail) (padding_header (place - tail)) else words

-- an index of a position from `from` on and before `to`
abbrev pub IsBetween : ℕ → ℕ → ℕ → ℕ → Type 0
IsBetween C from to i = (p : ℕ) × (p % 8 ≡ 0) × (from ≤ p) × (p < to) × (index C p ≡ i)

-- new has the words of a claim that comes after the tail, and the other words of old
pub record Stores (C tail : ℕ) (c : Claim) (old new : List ℕ) : Type 0 where
  pub length : length new ≡ length old
  pub inside : (p : ℕ) → p % 8 ≡ 0 → tail ≤ p → p < end_after C tail (span_of c)
      → slice_index new (index C p) ≡ word_at C tail (c ∷ []) p
  pub outside : (i : ℕ) → (IsBetween C tail (end_after C tail (span_of c)) i → ⊥)
      → slice_index new i ≡ slice_index old i
