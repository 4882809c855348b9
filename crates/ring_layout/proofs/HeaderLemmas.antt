-- Headers give their length and type id back.
use Rattle.std.proofs.Common.{◌≡◌, ℕ, ◌/◌, ◌%◌, ◌^◌, ◌<◌, ap, ◌∙◌, arith, ℤ, pos, negsuc, neg_ℤ, ◌-ℤ◌, to_z, of_z, FitsSigned, zero, suc, ◌<ℤ◌, ◌≤ℤ◌, w32}
use Rattle.std.specs.Int.{cast_signed, cast_unsigned}
use Rattle.std.proofs.lemmas.{Int.to_z-of_z, Int.to_z_pos, Int.ints, Nat.mod_low, Nat.shr_high}
use Rattle.ring_layout.specs.Headers.{header}

pub pattern_below : (z : ℤ) → FitsSigned w32 z → cast_unsigned w32 z < 2 ^ 32
pattern_below (pos n) f = omega (arith, f.sfits)
pattern_below (negsuc n) f = omega (arith, f.sfits)

pub len_of-header : (len type_id : ℤ) → FitsSigned w32 len → cast_signed w32 (header len type_id % 2 ^ 32) ≡ len
len_of-header len type_id f = ap (cast_signed w32)
    (mod_low (cast_unsigned w32 type_id) 32 (cast_unsigned w32 len) (pattern_below len f)) ∙ to_z-of_z w32 len f

pub type_of-header : (len type_id : ℤ) → FitsSigned w32 len → FitsSigned w32 type_id
    → cast_signed w32 (header len type_id / 2 ^ 32) ≡ type_id
type_of-header len type_id f g = ap (cast_signed w32)
    (shr_high (cast_unsigned w32 type_id) 32 (cast_unsigned w32 len) (pattern_below len f)) ∙ to_z-of_z w32 type_id g

pub fits_pos : (n : ℕ) → n < 2 ^ 31 → FitsSigned w32 (pos n)
fits_pos n h = record { sfits = omega arith }

pub fits_neg : (n : ℕ) → n < 2 ^ 31 → FitsSigned w32 (neg_ℤ (pos n))
fits_neg zero h = record { sfits = omega arith }
fits_neg (suc n) h = record { sfits = omega arith }

-- the bit pattern of a length that the code negates
pub negated_length : (n : ℕ) → n < 2 ^ 31 → to_z w32 (of_z w32 (pos 0 -ℤ to_z w32 n)) ≡ neg_ℤ (pos n)
negated_length n small =
    let negated : pos 0 -ℤ pos n ≡ neg_ℤ (pos n) = omega (arith, ints) in
    ap (λ z. to_z w32 (of_z w32 z)) (ap (λ z. pos 0 -ℤ z) (to_z_pos w32 n small) ∙ negated)
    ∙ to_z-of_z w32 (neg_ℤ (pos n)) (fits_neg n small)

pub neg_not_above : (n : ℕ) → pos 0 <ℤ neg_ℤ (pos n) → ⊥
neg_not_above zero h = omega (arith, ints)
neg_not_above (suc n) h = omega (arith, ints)

pub pos_not_below : (n : ℕ) → 0 < n → pos n ≤ℤ pos 0 → ⊥
pos_not_below n h k = omega (arith, ints)
