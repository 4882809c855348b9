-- What a branch of a read knows by its test.
use Rattle.std.proofs.Common.{◌≡◌, ◌≢◌, ℕ, ◌-◌, ◌%◌, ◌<◌, ap, sym, ◌∙◌, arith, inl, inr, ℤ, FitsSigned, to_z, of_z, nat_lt, ◌&&◌, ◌==◌, false, w32, ltb-false}
use Rattle.std.proofs.lemmas.{Int.to_z-of_z, Bool.and_cases, Bool.eqb-false}
use Rattle.ring_layout.specs.Headers.{padding_type}

-- what the test for the end of the buffer says
pub inside_from : (C start head : ℕ) → (nat_lt start head && (head % C == 0)) ≡ false → start < head → head % C ≢ 0
inside_from C start head test lt e =
    elim (and_cases (nat_lt start head) (head % C == 0) test) as (λ _. ⊥) [
      | inl h ↦ let bad = ltb-false start head h in omega arith
      | inr h ↦ eqb-false (head % C) 0 h e
    ]

-- what the test for padding says
pub padding_from : (t : ℤ) → FitsSigned w32 t → of_z w32 t ≡ 4294967295 → t ≡ padding_type
padding_from t f e = sym (to_z-of_z w32 t f) ∙ ap (to_z w32) e
