-- The words that claims make, by position.
use Rattle.std.specs.Prelude.{◌≡◌, ℕ, ◌+◌, ◌-◌, ◌%◌, ◌<◌, ◌≤◌, List, [], ◌∷◌, drop, ◌++◌, if◌then◌else◌, nat_lt, ◌==◌}
use Rattle.std.specs.Int.{from_le_bytes, w64}
use Rattle.ring_layout.specs.{History.Claim, History.span_of, Headers.header_of, Headers.padding_header}
use Rattle.ring_layout.specs.Places.{index, next_place, place_behind, end_of}

-- The word of a claim k bytes from its place. It is the header, and after that the body's bytes, little-endian, with
-- zeros after them.
abbrev pub claim_word : Claim → ℕ → ℕ
claim_word c k = if k == 0 then header_of c else from_le_bytes w64 (drop (k - 8) c.message.body)

-- The word at position p, for claims that come after e. It is the word of the one claim or padding there, or 0 after
-- all claims.
unfoldable pub word_at : ℕ → ℕ → List Claim → ℕ → ℕ
word_at C e [] p = 0
word_at C e (c ∷ h) p =
    let place = next_place C e (span_of c) in
    if nat_lt p place then (if p == e then padding_header (place - e) else 0)
    else (if nat_lt p (place + span_of c) then claim_word c (p - place)
    else word_at C (place + span_of c) h p)

-- the words of the buffer show the claims from the head on, and 0 at all other places
abbrev pub IsPicture : (ℕ → ℕ) → ℕ → ℕ → List Claim → Type 0
IsPicture word C head h = (p : ℕ) → p % 8 ≡ 0 → head ≤ p → p < head + C → word (index C p) ≡ word_at C head h p

-- the words of one claim c, and of the padding before it, with any claims before and after it
pub record ShowsClaim (C e : ℕ) (front : List Claim) (c : Claim) (back : List Claim) : Type 0 where
  pub padding_header :
      end_of C e front < place_behind C e front c
      → word_at C e (front ++ c ∷ back) (end_of C e front)
      ≡ padding_header (place_behind C e front c - end_of C e front)
  pub padding : (p : ℕ) → end_of C e front < p → p < place_behind C e front c → word_at C e (front ++ c ∷ back) p ≡ 0
  pub record_words : (p : ℕ) → place_behind C e front c ≤ p → p < place_behind C e front c + span_of c
      → word_at C e (front ++ c ∷ back) p ≡ claim_word c (p - place_behind C e front c)

-- outside of claims there is 0
pub record ShowsNothingElse (C e : ℕ) (h : List Claim) : Type 0 where
  pub before : (p : ℕ) → p < e → word_at C e h p ≡ 0
  pub behind : (p : ℕ) → end_of C e h ≤ p → word_at C e h p ≡ 0
