-- The two records of a counter, and their words.
use Rattle.std.specs.Prelude.{ℕ, ◌+◌, ◌-◌, ◌*◌, ◌^◌, ◌==◌, nat_lt, if◌then◌else◌, ℤ, pos, negsuc, List, [], ◌++◌, length, replicate}
use Rattle.std.specs.Int.{cast_unsigned, to_le_bytes, w32, w64}
use Rattle.ring_layout.specs.Bytes.{word_of_bytes}

-- the status of a counter, with the moment from which the id of a freed counter may be allocated again
pub data Status : Type 0 where
  Unused : Status
  Allocated : Status
  Reclaimed : ℕ → Status

-- the key has 112 bytes
pub record Metadata : Type 0 where
  pub status : Status
  pub type_id : ℤ
  pub key : List ℕ
  pub label : List ℕ

pub record Values : Type 0 where
  pub value : ℤ
  pub registration : ℕ
  pub owner : ℕ

pub record Counter : Type 0 where
  pub metadata : Metadata
  pub values : Values

-- n bytes, which are these bytes and zeros after them
abbrev pub zero_padded : ℕ → List ℕ → List ℕ
zero_padded n bytes = bytes ++ replicate (n - length bytes) 0

abbrev pub unused_metadata : Metadata
unused_metadata = record { status = Unused; type_id = pos 0; key = replicate 112 0; label = [] }

abbrev pub unused_values : Values
unused_values = record { value = pos 0; registration = 0; owner = 0 }

abbrev pub unused_counter : Counter
unused_counter = record { metadata = unused_metadata; values = unused_values }

abbrev pub state_of : Status → ℤ
state_of Unused = pos 0
state_of Allocated = pos 1
state_of (Reclaimed deadline) = negsuc 0

abbrev pub deadline_of : Status → ℕ
deadline_of Unused = 0
deadline_of Allocated = 2 ^ 63 - 1
deadline_of (Reclaimed deadline) = deadline

-- the word that has the state in the low half and the type id in the high half, both as patterns of 32 bits
abbrev pub state_word : ℤ → ℤ → ℕ
state_word state type_id = cast_unsigned w32 type_id * 2 ^ 32 + cast_unsigned w32 state

-- a label's length in 4 bytes, and then its bytes
abbrev pub label_text : List ℕ → List ℕ
label_text label = to_le_bytes w32 (length label) ++ label

-- the k-th of the 64 words of a metadata record
unfoldable pub metadata_word : Metadata → ℕ → ℕ
metadata_word m k =
    if k == 0 then state_word (state_of m.status) m.type_id
    else (if k == 1 then deadline_of m.status
    else (if nat_lt k 16 then word_of_bytes m.key (k - 2)
    else word_of_bytes (label_text m.label) (k - 16)))

-- the k-th of the 16 words of a value record
unfoldable pub value_word : Values → ℕ → ℕ
value_word v k =
    if k == 0 then cast_unsigned w64 v.value
    else (if k == 1 then v.registration
    else (if k == 2 then v.owner
    else 0))
