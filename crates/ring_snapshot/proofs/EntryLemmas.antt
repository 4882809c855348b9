-- What the words of a record say: a length and a type id, and a body.
use Rattle.std.proofs.Common.{◌≡◌, ℕ, ◌+◌, ◌*◌, ◌/◌, ◌%◌, ◌^◌, ◌<◌, List, length, drop, slice_index, refl, ap, ◌∙◌, arith, inl, inr, ℤ, pos, negsuc, ◌≤ℤ◌, FitsSigned, false, All, int_lt, w32, w64, ext_get_or, get_or-drop}
use Rattle.std.specs.Int.{from_le_bytes}
use Rattle.std.proofs.lemmas.{Int.ints, Bool.cases_lt, List.Elements.All-get_or}
use Rattle.std.proofs.lemmas.List.{get_or_past, FromFn.length-map-range_with_len, FromFn.get_or-map-range_with_len}
use Rattle.ring_layout.specs.Headers.{header}
use Rattle.ring_layout.proofs.{HeaderLemmas.len_of-header, HeaderLemmas.type_of-header, WordBytes.byte_of_word}
use Rattle.ring_counters.specs.Records.{byte_at, bytes_at}
use Rattle.ring_snapshot.specs.RingRecords.{length_in, type_in, is_padding_type}

pub not_padding : (z : ℤ) → pos 1 ≤ℤ z → is_padding_type z ≡ false
not_padding (pos n) h = refl
not_padding (negsuc n) h = absurd (omega (arith, ints))

pub not_below_one : (z : ℤ) → pos 1 ≤ℤ z → int_lt z (pos 1) ≡ false
not_below_one z h = grind (arith, ints)

-- a header word gives its length and its type id
pub decoded : {E : Type 0} (entry_for : ℤ → ℤ → E) (w : ℕ) (len type_id : ℤ) → w ≡ header len type_id
    → FitsSigned w32 len → FitsSigned w32 type_id
    → entry_for (length_in w) (type_in w) ≡ entry_for len type_id
decoded entry_for w len type_id is f g =
    ap (λ x. entry_for (length_in x) (type_in x)) is
    ∙ (λ i. entry_for (len_of-header len type_id f i) (type_of-header len type_id f g i))

-- the words after the header at the byte `base` are those of this body
module _ (words body : List ℕ) (base : ℕ) (small : All (λ b. b < 256) body) (aligned : base % 8 ≡ 0)
    (told : (j : ℕ) → 8 * j < length body
    → slice_index words (base / 8 + 1 + j) ≡ from_le_bytes w64 (drop (8 * j) body)) where
  byte_small : (j : ℕ) → slice_index body j < 256
  byte_small j =
      elim (cases_lt j (length body)) as (λ _. slice_index body j < 256) [
        | inl lt ↦ All-get_or (λ (b : ℕ). b < 256) body j 0 lt small
        | inr le ↦ omega (arith, get_or_past body j 0 le)
      ]

  body_byte : (k : ℕ) → k < length body → byte_at words (base + 8 + k) ≡ slice_index body k
  body_byte k lt =
      let quotient : (base + 8 + k) / 8 ≡ base / 8 + 1 + k / 8 = omega (arith, aligned) in
      let remainder : (base + 8 + k) % 8 ≡ k % 8 = omega (arith, aligned) in
      ap (λ i. slice_index words i / 2 ^ (8 * ((base + 8 + k) % 8)) % 256) quotient
      ∙ ap (λ i. slice_index words (base / 8 + 1 + k / 8) / 2 ^ (8 * i) % 256) remainder
      ∙ ap (λ w. w / 2 ^ (8 * (k % 8)) % 256) (told (k / 8) (omega arith))
      ∙ byte_of_word (drop (8 * (k / 8)) body)
      (λ j. let e = get_or-drop (8 * (k / 8)) body j 0 in omega (arith, e, byte_small (8 * (k / 8) + j)))
      (k % 8) (omega arith)
      ∙ get_or-drop (8 * (k / 8)) body (k % 8) 0
      ∙ ap (slice_index body) (omega arith)

  pub body_told : bytes_at words (base + 8) (length body) ≡ body
  body_told =
      ext_get_or 0 (bytes_at words (base + 8) (length body)) body
      (length-map-range_with_len (byte_at words) (base + 8) (length body))
      (λ k lt. let lt' : k < length body =
      omega (arith, length-map-range_with_len (byte_at words) (base + 8) (length body)) in
      get_or-map-range_with_len (byte_at words) (base + 8) (length body) k (base + 8 + k) 0 lt' refl
      ∙ body_byte k lt')
