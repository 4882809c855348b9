-- The fields of a body. Each is encoded here, and is read from the front of bytes.
use Rattle.std.specs.Prelude.{ℕ, ℤ, ◌<◌, ◌^◌, List, ◌++◌, length, take, drop, All, Option, Some, None, nat_lt, ◌==◌, if◌then◌else◌}
use Rattle.std.specs.Int.{w32, w64, to_le_bytes, from_le_bytes, cast_signed, cast_unsigned}

abbrev pub AreBytes : List ℕ → Type 0
AreBytes bytes = All (λ b. b < 256) bytes

-- the bytes of a number, the lowest byte first
unfoldable pub u32_field : ℕ → List ℕ
u32_field n = to_le_bytes w32 n

unfoldable pub u64_field : ℕ → List ℕ
u64_field n = to_le_bytes w64 n

unfoldable pub i32_field : ℤ → List ℕ
i32_field z = u32_field (cast_unsigned w32 z)

unfoldable pub i64_field : ℤ → List ℕ
i64_field z = u64_field (cast_unsigned w64 z)

-- a length field can hold the number of these bytes
abbrev pub IsSized : List ℕ → Type 0
IsSized bytes = AreBytes bytes × (length bytes < 2 ^ 32)

-- a length, and then this many bytes
unfoldable pub sized_field : List ℕ → List ℕ
sized_field bytes = u32_field (length bytes) ++ bytes

-- a function that reads a value from the front of bytes, and returns the bytes after it
abbrev pub Reader : Type 0 → Type 0
Reader V = List ℕ → Option (V × List ℕ)

infixl 10 ◌>>=◌
abbrev pub ◌>>=◌ : {A B : Type 0} → Option A → (A → Option B) → Option B
None >>= f = None
(Some x) >>= f = f x

unfoldable pub u32_at : Reader ℕ
u32_at bytes = if nat_lt (length bytes) 4 then None else Some (from_le_bytes w32 (take 4 bytes), drop 4 bytes)

unfoldable pub u64_at : Reader ℕ
u64_at bytes = if nat_lt (length bytes) 8 then None else Some (from_le_bytes w64 (take 8 bytes), drop 8 bytes)

unfoldable pub i32_at : Reader ℤ
i32_at bytes = u32_at bytes >>= λ n. Some (cast_signed w32 n.0, n.1)

unfoldable pub i64_at : Reader ℤ
i64_at bytes = u64_at bytes >>= λ n. Some (cast_signed w64 n.0, n.1)

unfoldable pub sized_at : Reader (List ℕ)
sized_at bytes = u32_at bytes >>= λ n. if nat_lt (length n.1) n.0 then None else Some (take n.0 n.1, drop n.0 n.1)

-- reads one field, and then another
infixl 20 ◌⊗◌
abbrev pub ◌⊗◌ : {A B : Type 0} → Reader A → Reader B → Reader (A × B)
(first ⊗ second) bytes = first bytes >>= λ a. second a.1 >>= λ b. Some ((a.0, b.0), b.1)

-- the value that is made of the fields, if no bytes are left
abbrev pub whole : {V X : Type 0} → (V → X) → Reader V → List ℕ → Option X
whole made fields body = fields body >>= λ v. if length v.1 == 0 then Some (made v.0) else None
