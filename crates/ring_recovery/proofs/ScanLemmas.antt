-- The headers at positions, in parts.
use Rattle.std.proofs.Common.{◌≡◌, ℕ, zero, suc, ◌+◌, ◌*◌, ◌<◌, List, [], ◌∷◌, ◌++◌, refl, sym, ap, ◌∙◌, arith, eq-eqb, ne_eqb, eqb}
use Rattle.std.proofs.{Math.Logic.dite, Math.Decide.ℕ_discrete, lemmas.Bool.cond-true, lemmas.Bool.cond-false}
use Rattle.ring_recovery.specs.Headers.{headers_in, new_walk}

-- the headers of a function that gives the header at a position
abbrev pub listed : (ℕ → ℕ) → ℕ → ℕ → List (ℕ × ℕ)
listed shown n p = headers_in (λ r q. record { header = shown q; walk = r }) n new_walk p

module _ (shown : ℕ → ℕ) where
  pub zeros : (n p : ℕ) → ((j : ℕ) → j < n → shown (p + 8 * j) ≡ 0) → listed shown n p ≡ []
  zeros zero p none = refl
  zeros (suc n) p none =
      let here : p ≡ p + 8 * 0 = omega arith in
      cond-true _ _ _ (eq-eqb (shown p) 0 (ap shown here ∙ none 0 (omega arith)))
      ∙ zeros n (p + 8) (λ j lt. let there : p + 8 + 8 * j ≡ p + 8 * suc j = omega arith in
      ap shown there ∙ none (suc j) (omega arith))

  -- a header, and zeros after it
  pub one : (n p w : ℕ) → shown p ≡ w → (w ≡ 0 → ⊥) → ((j : ℕ) → j < n → shown (p + 8 + 8 * j) ≡ 0)
      → listed shown (suc n) p ≡ (p, w) ∷ []
  one n p w is some none =
      cond-false _ _ _ (ne_eqb (shown p) 0 (λ z. some (sym is ∙ z)))
      ∙ (λ i. (p, is i) ∷ zeros n (p + 8) none i)

  pub split : (a b p : ℕ) → listed shown (a + b) p ≡ listed shown a p ++ listed shown b (p + 8 * a)
  split zero b p =
      let same : zero + b ≡ b = omega arith in
      let here : p ≡ p + 8 * zero = omega arith in
      λ i. listed shown (same i) (here i)
  split (suc a) b p =
      let more : suc a + b ≡ suc (a + b) = omega arith in
      let far : p + 8 + 8 * a ≡ p + 8 * suc a = omega arith in
      let rest = split a b (p + 8) ∙ ap (λ q. listed shown a (p + 8) ++ listed shown b q) far in
      ap (λ n. listed shown n p) more
      ∙ dite (ℕ_discrete (shown p) 0)
      (λ none. cond-true _ _ _ (eq-eqb (shown p) 0 none) ∙ rest
      ∙ ap (λ hs. hs ++ listed shown b (p + 8 * suc a))
      (sym (cond-true (eqb (shown p) 0) (listed shown a (p + 8)) ((p, shown p) ∷ listed shown a (p + 8))
      (eq-eqb (shown p) 0 none))))
      (λ some. cond-false _ _ _ (ne_eqb (shown p) 0 some) ∙ ap (λ hs. (p, shown p) ∷ hs) rest
      ∙ ap (λ hs. hs ++ listed shown b (p + 8 * suc a))
      (sym (cond-false (eqb (shown p) 0) (listed shown a (p + 8)) ((p, shown p) ∷ listed shown a (p + 8))
      (ne_eqb (shown p) 0 some))))
