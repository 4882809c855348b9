-- One record after another, of a ring or of a broadcast buffer. R is the type of a record, and F is the type of a
-- finding about the words.
use Rattle.std.specs.Prelude.{ℕ, zero, suc, ◌+◌, ◌/◌, Bool, ◌&&◌, nat_le, nat_lt, if◌then◌else◌, List, [], ◌∷◌, ◌++◌, Result, Ok, Err}
use Rattle.ring_layout.specs.Places.{room, rounded}
use Rattle.ring_snapshot.specs.declared.listing.Listing.{Listing}

-- A record of this length may be at the position in a buffer of C bytes. No message is longer, and the record does not
-- cross the end of the buffer.
abbrev pub lies_inside : ℕ → ℕ → ℕ → Bool
lies_inside C at n = nat_le 8 n && nat_le n (8 + C / 8) && nat_le (rounded n) (room C at)

-- an entry and the rest from its end on, which is empty after a finding
abbrev pub followed : {R F : Type 0} → (R → ℕ) → (ℕ → List (Result R F)) → ℕ → Result R F → List (Result R F)
followed length_of rest at (Err finding) = Err finding ∷ []
followed length_of rest at (Ok r) = Ok r ∷ rest (at + rounded (length_of r))

-- the first n entries from a position on, one after another, up to the tail or a finding
abbrev pub listed_by : {R F : Type 0} → (R → ℕ) → (ℕ → Result R F) → ℕ → ℕ → ℕ → List (Result R F)
listed_by length_of entry tail zero at = []
listed_by length_of entry tail (suc n) at =
    if nat_le tail at then [] else followed length_of (listed_by length_of entry tail n) at (entry at)

-- the entries that are still to come, if the function gives the entry of a buffer at a position before a tail
abbrev pub left_of : {B R F : Type 0} → (R → ℕ) → (B → ℕ → ℕ → Result R F) → Listing B → List (Result R F)
left_of length_of entry l = listed_by length_of (entry l.buffer l.tail) l.tail l.most l.at

-- a record and the rest, with the padding before the record, if there is padding
abbrev pub after_padding : {R : Type 0} → ℕ → ℕ → R → R → List R → List R
after_padding before place pad r rest = (if nat_lt before place then pad ∷ [] else []) ++ r ∷ rest

abbrev pub ok_records : {R F : Type 0} → List R → List (Result R F)
ok_records [] = []
ok_records (r ∷ rs) = Ok r ∷ ok_records rs
