-- Entries of lists.
use Rattle.std.proofs.Common.{◌≡◌, ◌≢◌, ℕ, zero, suc, ◌<◌, List, [], ◌∷◌, set, sym, subst, length, arith}
use Rattle.std.proofs.Math.{Option.some, Option.some-injective, Option.some-ne-none, ListN.get_elem?}

module _ {A : Type 0} where
  pub at_below : (l : List A) (i : ℕ) (a : A) → get_elem? l i ≡ some a → i < length l
  at_below [] i a e = absurd (some-ne-none a (sym e))
  at_below (x ∷ xs) zero a e = omega arith
  at_below (x ∷ xs) (suc i) a e = let t = at_below xs i a e in omega arith

  -- what holds of each entry after one was set
  pub each_set : (P : ℕ → A → Type 0) (l : List A) (id : ℕ) (w : A) → P id w
      → ((j : ℕ) (a : A) → j ≢ id → get_elem? l j ≡ some a → P j a)
      → (j : ℕ) (a : A) → get_elem? (set l id w) j ≡ some a → P j a
  each_set P [] id w own others j a e = absurd (some-ne-none a (sym e))
  each_set P (x ∷ xs) zero w own others zero a e = subst (P zero) (some-injective w a e) own
  each_set P (x ∷ xs) zero w own others (suc j) a e = others (suc j) a (λ z. omega arith) e
  each_set P (x ∷ xs) (suc id) w own others zero a e = others zero a (λ z. omega arith) e
  each_set P (x ∷ xs) (suc id) w own others (suc j) a e = each_set (λ k. P (suc k)) xs id w own
      (λ k b ne. others (suc k) b (λ z. ne (omega arith))) j a e
