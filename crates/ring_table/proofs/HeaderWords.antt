-- A claimed or committed header gives its type id and length back.
use Rattle.std.proofs.Common.{◌≡◌, ℕ, zero, suc, ◌+◌, ◌/◌, ◌%◌, ◌^◌, ◌<◌, ℤ, pos, neg_ℤ, FitsSigned, sym, refl, ap, ◌∙◌, arith, w32}
use Rattle.std.{specs.Int.cast_signed, proofs.lemmas.Int.ints}
use Rattle.ring_layout.specs.Headers.{committed_header, header, open_header}
use Rattle.ring_layout.proofs.HeaderLemmas.{len_of-header, type_of-header, fits_neg, fits_pos}

one_negated : (m n : ℕ) → neg_ℤ (pos m) ≡ neg_ℤ (pos n) → m ≡ n
one_negated zero zero e = refl
one_negated zero (suc n) e = absurd (omega (arith, ints))
one_negated (suc m) zero e = absurd (omega (arith, ints))
one_negated (suc m) (suc n) e = omega (arith, ints)

-- one header is of one length and one type id
one_len : (a b type_id type_id' : ℤ) → FitsSigned w32 a → FitsSigned w32 b → header a type_id ≡ header b type_id'
    → a ≡ b
one_len a b type_id type_id' fits fits' same =
    sym (len_of-header a type_id fits) ∙ ap (λ w. cast_signed w32 (w % 2 ^ 32)) same ∙ len_of-header b type_id' fits'

one_kind : (a b type_id type_id' : ℤ) → FitsSigned w32 a → FitsSigned w32 b → FitsSigned w32 type_id
    → FitsSigned w32 type_id' → header a type_id ≡ header b type_id' → type_id ≡ type_id'
one_kind a b type_id type_id' small small' fits fits' same =
    sym (type_of-header a type_id small fits) ∙ ap (λ w. cast_signed w32 (w / 2 ^ 32)) same
    ∙ type_of-header b type_id' small' fits'

pub one_length : (type_id : ℤ) (n : ℕ) (type_id' : ℤ) (n' : ℕ) → 8 + n < 2 ^ 31 → 8 + n' < 2 ^ 31
    → open_header type_id n ≡ open_header type_id' n' → n ≡ n'
one_length type_id n type_id' n' small small' same =
    let e = one_negated (8 + n) (8 + n') (one_len (neg_ℤ (pos (8 + n))) (neg_ℤ (pos (8 + n'))) type_id type_id'
    (fits_neg (8 + n) small) (fits_neg (8 + n') small') same) in
    omega arith

pub one_type : (type_id : ℤ) (n : ℕ) (type_id' : ℤ) (n' : ℕ) → FitsSigned w32 type_id → 8 + n < 2 ^ 31
    → FitsSigned w32 type_id' → 8 + n' < 2 ^ 31 → open_header type_id n ≡ open_header type_id' n' → type_id ≡ type_id'
one_type type_id n type_id' n' fits small fits' small' same =
    one_kind (neg_ℤ (pos (8 + n))) (neg_ℤ (pos (8 + n'))) type_id type_id' (fits_neg (8 + n) small)
    (fits_neg (8 + n') small') fits fits' same

pub one_committed : (type_id : ℤ) (n : ℕ) (type_id' : ℤ) (n' : ℕ) → FitsSigned w32 type_id → 8 + n < 2 ^ 31
    → FitsSigned w32 type_id' → 8 + n' < 2 ^ 31 → committed_header type_id n ≡ committed_header type_id' n'
    → (type_id ≡ type_id') × (n ≡ n')
one_committed type_id n type_id' n' fits small fits' small' same =
    let fit = fits_pos (8 + n) small in
    let fit' = fits_pos (8 + n') small' in (
      one_kind (pos (8 + n)) (pos (8 + n')) type_id type_id' fit fit' fits fits' same,
      omega (arith, ints),
    )
