-- Numbers as messages.
use Rattle.std.specs.Prelude.{◌≡◌, ℕ, zero, suc, ◌+◌, ◌%◌, ◌^◌, ◌≤◌, ℤ, List, [], ◌∷◌, ◌++◌, length, take, if◌then◌else◌, nat_lt, sum_by}
use Rattle.std.specs.Int.{from_le_bytes, to_le_bytes, w64}
use Rattle.ring_layout.specs.declared.message.Message.{Message}
use Rattle.ring_words.specs.declared.read.action.Action.{Action}
use Rattle.ring_rings.specs.Ring.{message}
use Rattle.ring_uses.specs.declared.numbers.Sum.{Sum}

-- the message of a number
abbrev pub numbered : ℤ → ℕ → Message
numbered type_id n = message type_id (to_le_bytes w64 n)

-- the messages of the numbers from 1 to n with this type id, in order
abbrev pub numbers : ℤ → ℕ → List Message
numbers type_id zero = []
numbers type_id (suc n) = numbers type_id n ++ numbered type_id (suc n) ∷ []

-- the numbers from 1 on with this type id, at most up to `last`
abbrev pub AreUpTo : ℤ → ℕ → List Message → Type 0
AreUpTo type_id last ms = (n : ℕ) × (n ≤ last) × (ms ≡ numbers type_id n)

-- the number in a body, which is its first eight bytes, the lowest first, or 0 if it has fewer bytes
abbrev pub number_of : List ℕ → ℕ
number_of body = if nat_lt (length body) 8 then 0 else from_le_bytes w64 (take 8 body)

abbrev pub number_in : Message → ℕ
number_in m = number_of m.body

-- the sum of the numbers in some messages, within 64 bits
abbrev pub sum_of : List Message → ℕ
sum_of ms = sum_by number_in ms % 2 ^ 64

-- the effect of a message on the handler
abbrev pub Adds : Sum → Message → Sum → Action → Type 0
Adds s m t action = t.sum ≡ (s.sum + number_in m) % 2 ^ 64
