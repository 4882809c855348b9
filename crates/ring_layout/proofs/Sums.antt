-- Sums over lists.
use Rattle.std.proofs.Common.{◌≡◌, ◌≢◌, ℕ, zero, suc, ◌+◌, ◌≤◌, List, [], ◌∷◌, ◌++◌, set, sym, refl, ap, ◌∙◌, arith}
use Rattle.std.proofs.Math.{Option.some, Option.some-injective, Option.some-ne-none, ListN.get_elem?}
use Rattle.ring_layout.specs.Lists.{total}

module _ {A : Type 0} (f : A → ℕ) where
  pub total-set : (l : List A) (id : ℕ) (v w : A) → get_elem? l id ≡ some v
      → total f (set l id w) + f v ≡ total f l + f w
  total-set [] id v w at = absurd (some-ne-none v (sym at))
  total-set (x ∷ xs) zero v w at =
      let same : f x ≡ f v = ap f (some-injective x v at) in
      let rest : ℕ = total f xs in
      let done : f w + rest + f v ≡ f x + rest + f w = omega arith in
      done
  total-set (x ∷ xs) (suc id) v w at =
      let after : ℕ = total f (set xs id w) in
      let rest : ℕ = total f xs in
      let deeper : after + f v ≡ rest + f w = total-set xs id v w at in
      let done : f x + after + f v ≡ f x + rest + f w = omega arith in
      done

  pub total-append : (l m : List A) → total f (l ++ m) ≡ total f l + total f m
  total-append [] m = let rest : ℕ = total f m in let done : rest ≡ 0 + rest = omega arith in done
  total-append (x ∷ xs) m =
      let all : ℕ = total f (xs ++ m) in
      let front : ℕ = total f xs in
      let back : ℕ = total f m in
      let deeper : all ≡ front + back = total-append xs m in
      let done : f x + all ≡ f x + front + back = omega arith in
      done

  -- one entry's value is in the sum
  pub total-least : (l : List A) (id : ℕ) (v : A) → get_elem? l id ≡ some v → f v ≤ total f l
  total-least [] id v at = absurd (some-ne-none v (sym at))
  total-least (x ∷ xs) zero v at =
      let same : f x ≡ f v = ap f (some-injective x v at) in
      let rest : ℕ = total f xs in
      omega arith
  total-least (x ∷ xs) (suc id) v at =
      let deeper : f v ≤ total f xs = total-least xs id v at in
      omega arith

  pub total-zero : (l : List A) (j : ℕ) (a : A) → total f l ≡ 0 → get_elem? l j ≡ some a → f a ≡ 0
  total-zero [] j a none at = absurd (some-ne-none a (sym at))
  total-zero (x ∷ xs) zero a none at =
      let rest : ℕ = total f xs in
      let zero_here : f x ≡ 0 = omega arith in
      sym (ap f (some-injective x a at)) ∙ zero_here
  total-zero (x ∷ xs) (suc j) a none at =
      let rest : ℕ = total f xs in
      let sum : f x + rest ≡ 0 = none in
      let zero_there : rest ≡ 0 = omega arith in
      total-zero xs j a zero_there at

  -- if no other entry counts, the sum is that of one
  pub total-sole : (l : List A) (id : ℕ) (v : A) → get_elem? l id ≡ some v
      → ((j : ℕ) (a : A) → j ≢ id → get_elem? l j ≡ some a → f a ≡ 0) → total f l ≡ f v
  total-sole [] id v at none = absurd (some-ne-none v (sym at))
  total-sole (x ∷ xs) zero v at none =
      let rest : ℕ = total f xs in
      let nothing : rest ≡ 0 = all_zero xs (λ j a there. none (suc j) a (λ e. omega arith) there) in
      let same : f x ≡ f v = ap f (some-injective x v at) in
      let done : f x + rest ≡ f v = omega arith in
      done
    where
      all_zero : (l : List A) → ((j : ℕ) (a : A) → get_elem? l j ≡ some a → f a ≡ 0) → total f l ≡ 0
      all_zero [] none = refl
      all_zero (y ∷ ys) none =
          let rest : ℕ = total f ys in
          let nothing : rest ≡ 0 = all_zero ys (λ j. none (suc j)) in
          let nothing_here : f y ≡ 0 = none 0 y refl in
          let done : f y + rest ≡ 0 = omega arith in
          done
  total-sole (x ∷ xs) (suc id) v at none =
      let rest : ℕ = total f xs in
      let deeper : rest ≡ f v =
      total-sole xs id v at (λ j a ne there. none (suc j) a (λ e. ne (omega arith)) there) in
      let nothing_here : f x ≡ 0 = none 0 x (λ e. omega arith) refl in
      let done : f x + rest ≡ f v = omega arith in
      done
