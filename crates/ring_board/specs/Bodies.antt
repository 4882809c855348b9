-- Bodies that a raw receiver loads, and validates.
use Rattle.std.specs.Prelude.{◌≡◌, ℕ, Bool, ◌+◌, ◌*◌, ◌<◌, nat_lt, List, ◌++◌, length, take, slice_index}
use mathlib.Core.Option.{some}
use lib.ListN.{get_elem?}
use Rattle.ring_layout.specs.Places.{index}
use Rattle.ring_board.specs.declared.{shared.view.Taken.Taken, board.RawRecord.RawRecord}
use Rattle.ring_board.specs.declared.shared.view.{View.View, Load.Load, Load.TheVariants.Word, Load.TheVariants.Intent}
use Rattle.ring_board.specs.{Records.word_count, Records.bytes_of, Views.Sat, Views.logged}

-- the word w was loaded at the position p, when the tail was beyond it
abbrev pub WasLoaded : ℕ → List Load → ℕ → ℕ → Type 0
WasLoaded C log p w = (l : ℕ) × (t : ℕ) × (get_elem? log l ≡ some (Word (index C p) t w)) × (p < t)

-- each of these words was loaded at its position after the header at a place
abbrev pub WereLoaded : ℕ → List Load → ℕ → List ℕ → Type 0
WereLoaded C log place ws = (j : ℕ) → j < length ws → WasLoaded C log (place + 8 + 8 * j) (slice_index ws j)

-- the bytes are those of words that were loaded after the header at a place
abbrev pub IsLoaded : ℕ → List Load → ℕ → List ℕ → Type 0
IsLoaded C log place body = (ws : List ℕ) × WereLoaded C log place ws × (length ws ≡ word_count (length body))
    × (body ≡ take (length body) (bytes_of ws))

-- a body was loaded, and all other parts are as before
abbrev pub GaveBody : ℕ → List ℕ → Sat → Sat → Type 0
GaveBody place body m m' =
    (loads : List Load) × (m' ≡ (record m.0 { log = m.0.log ++ loads }, m.1)) × IsLoaded m.0.capacity loads place body

-- these bytes were loaded as the body of this record
abbrev pub HasLoaded : View → RawRecord → List ℕ → Type 0
HasLoaded v r body = IsLoaded v.capacity v.log r.place body

-- If the intent x has not reached the place plus the capacity, what was loaded as a record's body is right. It is the
-- body that the transmitter gave the record.
abbrev pub AreRight : View → ℕ → Type 0
AreRight v x = (n : ℕ) (c : Taken) (body : List ℕ) → get_elem? v.copies n ≡ some c → x < c.place + v.capacity
    → IsLoaded v.capacity v.log c.place body
    → length body ≡ length c.message.body → body ≡ c.message.body

-- the body of this record, at each place in the log at which it was loaded, is the one that the transmitter gave the
-- record
abbrev pub IsRight : View → RawRecord → Type 0
IsRight v r = (n : ℕ) (c : Taken) (body : List ℕ) → get_elem? v.copies n ≡ some c → c.place ≡ r.place
    → HasLoaded v r body → length body ≡ length c.message.body → body ≡ c.message.body

-- An intent was loaded, and all other parts are as before. The result says whether the intent is below the place plus
-- the capacity.
abbrev pub Validated : RawRecord → Bool → Sat → Sat → Type 0
Validated r valid m m' = (x : ℕ) × (m' ≡ (logged m.0 (Intent x), m.1)) × (valid ≡ nat_lt x (r.place + m.0.capacity))
