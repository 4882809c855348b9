-- Records of a broadcast buffer, their places, and the words that their transmission stores. Positions are running byte
-- counts, and C is the capacity of the buffer.
use Rattle.std.specs.Prelude.{◌≡◌, ◌≢◌, ℕ, Bool, zero, suc, ◌+◌, ◌-◌, ◌/◌, ◌%◌, ◌^◌, ◌≤◌, ◌==◌, if◌then◌else◌, pos, List, [], ◌∷◌, ◌++◌, length, take, drop, nat_lt, ◌⊎◌}
use Rattle.std.specs.Int.{from_le_bytes, to_le_bytes, cast_signed, w32, w64}
use mathlib.Core.Option.{some}
use lib.ListN.{get_elem?}
use Rattle.ring_layout.specs.{declared.message.Message.Message, Headers.header, Headers.padding_header}
use Rattle.ring_layout.specs.{History.IsMessage, History.span, Places.index, Places.next_place}
use Rattle.ring_board.specs.declared.shared.view.Record.{Record}

-- the end of a record
abbrev pub end : Record → ℕ
end r = r.place + span (length r.message.body)

-- Where they are -----------------------------------------------------------

-- the bytes from p to z come next after e, and their transmission began at b
pub record Lies (C e b p z : ℕ) : Type 0 where
  pub begins : b ≡ e
  pub lies : p ≡ next_place C b (z - p)
  pub short : z - p ≤ C / 8 + 15
  pub some_room : p + 8 ≤ z
  pub begins_whole : b % 8 ≡ 0
  pub ends_whole : z % 8 ≡ 0

-- a record of a valid message that comes next after e
pub record Follows (C e : ℕ) (r : Record) : Type 0 where
  pub fits : Lies C e r.before r.place (end r)
  pub lawful : IsMessage C r.message

-- the records come one after another from e on
abbrev pub Chain : ℕ → ℕ → List Record → Type 0
Chain C e [] = Unit {0}
Chain C e (r ∷ rs) = Follows C e r × Chain C (end r) rs

-- the end of the last record, or e
abbrev pub end_of : ℕ → List Record → ℕ
end_of e [] = e
end_of e (r ∷ rs) = end_of (end r) rs

-- the place of the last record, or e
abbrev pub last_of : ℕ → List Record → ℕ
last_of e [] = e
last_of e (r ∷ rs) = last_of r.place rs

-- Words and bytes ----------------------------------------------------------

-- the first k little-endian words of these bytes, with zeros after the last byte
abbrev pub first_words : ℕ → List ℕ → List ℕ
first_words zero bytes = []
first_words (suc k) bytes = from_le_bytes w64 bytes ∷ first_words k (drop 8 bytes)

abbrev pub word_count : ℕ → ℕ
word_count n = (n + 7) / 8

-- the words of a body
abbrev pub words_of_body : List ℕ → List ℕ
words_of_body body = first_words (word_count (length body)) body

-- the bytes of these words
abbrev pub bytes_of : List ℕ → List ℕ
bytes_of [] = []
bytes_of (w ∷ ws) = to_le_bytes w64 w ++ bytes_of ws

-- the number of bytes of padding, or of header and message, that a header word announces
abbrev pub announced : ℕ → ℕ
announced w = w % 2 ^ 32

-- the length of the body that a header word announces
abbrev pub body_len : ℕ → ℕ
body_len w = announced w - 8

abbrev pub is_padding : ℕ → Bool
is_padding w = w / 2 ^ 32 == 0xffff_ffff

-- the message in a header word and the words after it
abbrev pub message_in : ℕ → List ℕ → Message
message_in w ws = record { type_id = cast_signed w32 (w / 2 ^ 32); body = take (body_len w) (bytes_of ws) }

-- the message that a header word announces, with this body
abbrev pub message_of : ℕ → List ℕ → Message
message_of w body = record { type_id = cast_signed w32 (w / 2 ^ 32); body = body }

-- What a transmission stores -----------------------------------------------

abbrev pub header_of : Message → ℕ
header_of m = header (pos (8 + length m.body)) m.type_id

-- each word with its position, from p on
abbrev pub placed_words : ℕ → List ℕ → List (ℕ × ℕ)
placed_words p [] = []
placed_words p (w ∷ ws) = (p, w) ∷ placed_words (p + 8) ws

-- the padding header of the bytes that begin at b and are at p, if there is padding
abbrev pub gap : ℕ → ℕ → List (ℕ × ℕ)
gap b p = if nat_lt b p then (b, padding_header (p - b)) ∷ [] else []

-- the padding header and these words of the body
abbrev pub filled : ℕ → ℕ → List ℕ → List (ℕ × ℕ)
filled b p ws = gap b p ++ placed_words (p + 8) ws

-- the words that a record's transmission stores in the buffer, with their positions, in the order of the stores
abbrev pub stores : Record → List (ℕ × ℕ)
stores r = filled r.before r.place (words_of_body r.message.body) ++ (r.place, header_of r.message) ∷ []

abbrev pub stores_of : List Record → List (ℕ × ℕ)
stores_of [] = []
stores_of (r ∷ rs) = stores r ++ stores_of rs

-- the word at the index i after these stores, if it was w before
abbrev pub last_at : ℕ → List (ℕ × ℕ) → ℕ → ℕ → ℕ
last_at C [] i w = w
last_at C (x ∷ xs) i w = last_at C xs i (if index C x.0 == i then x.1 else w)

-- w is the word of the greatest position with the index i among these stores, which is the position of x
pub record IsNewestAt (C : ℕ) (xs : List (ℕ × ℕ)) (i w : ℕ) (x : ℕ × ℕ) : Type 0 where
  pub stored : (j : ℕ) × (get_elem? xs j ≡ some x)
  pub at_index : index C x.0 ≡ i
  pub word : w ≡ x.1
  pub greatest : (j : ℕ) (y : ℕ × ℕ) → get_elem? xs j ≡ some y → index C y.0 ≡ i → y.0 ≤ x.0

-- the word at the index i is the one of the greatest position that was stored there, or 0 if nothing was stored there
abbrev pub IsBoardWord : ℕ → List (ℕ × ℕ) → ℕ → ℕ → Type 0
IsBoardWord C xs i w =
    ((x : ℕ × ℕ) × IsNewestAt C xs i w x) ⊎ (((j : ℕ) (y : ℕ × ℕ) → get_elem? xs j ≡ some y
    → index C y.0 ≢ i) × (w ≡ 0))
