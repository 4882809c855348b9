-- The places of claims. Positions are running byte counts, and C is the capacity of the buffer.
use Rattle.std.specs.Prelude.{ℕ, ◌+◌, ◌-◌, ◌*◌, ◌/◌, ◌%◌, ◌^◌, ◌≤◌, List, [], ◌∷◌, if◌then◌else◌, nat_le, Bool, ◌&&◌, IsTrue}
use Rattle.std.specs.Int.{is_power_of_two}
use Rattle.ring_layout.specs.History.{Claim, span_of}

-- a valid capacity of a ring, which is a power of two from 128 to 2^24
abbrev pub is_capacity : ℕ → Bool
is_capacity C = is_power_of_two C && nat_le 128 C && nat_le C (2 ^ 24)

pub record IsCapacity (C : ℕ) : Type 0 where
  pub power : IsTrue (is_power_of_two C)
  pub least : 128 ≤ C
  pub most : C ≤ 2 ^ 24

-- a valid capacity of a broadcast buffer, which is a power of two from 256 to 2^24
abbrev pub is_board_capacity : ℕ → Bool
is_board_capacity C = is_power_of_two C && nat_le 256 C && nat_le C (2 ^ 24)

pub record IsBoardCapacity (C : ℕ) : Type 0 where
  pub power : IsTrue (is_power_of_two C)
  pub least : 256 ≤ C
  pub most : C ≤ 2 ^ 24

abbrev pub max_position : ℕ
max_position = 2 ^ 62

-- a number of bytes rounded up to a multiple of 8
abbrev pub rounded : ℕ → ℕ
rounded n = (n + 7) / 8 * 8

-- the index of the word at a position
abbrev pub index : ℕ → ℕ → ℕ
index C p = p % C / 8

-- the bytes from the position e to the end of the buffer
abbrev pub room : ℕ → ℕ → ℕ
room C e = C - e % C

-- The place of a span a that comes after e. It is e, or the next multiple of C if the span would cross that multiple.
abbrev pub next_place : ℕ → ℕ → ℕ → ℕ
next_place C e a = if nat_le a (room C e) then e else e + room C e

-- the end of a span a that comes after e
abbrev pub end_after : ℕ → ℕ → ℕ → ℕ
end_after C e a = next_place C e a + a

-- the end of claims that come after e
abbrev pub end_of : ℕ → ℕ → List Claim → ℕ
end_of C e [] = e
end_of C e (c ∷ h) = end_of C (end_after C e (span_of c)) h

-- the place of a claim that follows other claims, which come after e
abbrev pub place_behind : ℕ → ℕ → List Claim → Claim → ℕ
place_behind C e h c = next_place C (end_of C e h) (span_of c)

-- a span a fits at this tail and head
abbrev pub Fits : ℕ → ℕ → ℕ → ℕ → Type 0
Fits C tail head a = end_after C tail a ≤ head + C
