-- Words that `parse` refuses spell no number.
use Rattle.std.proofs.Common.{◌≡◌, ◌∙◌, ℕ, suc, zero, ℤ, pos, ◌<◌, ◌==◌, ◌++◌, ◌^◌, Bool, true, false, cond, List, [], ◌∷◌, drop, slice_index, FitsSigned, inl, inr, refl, sym, ap, subst, arith, IsAscii, IsUtf8}
use Rattle.std.specs.{Int.Width, Char.digit_value, declared.num.ParseIntError.ParseIntError}
use Rattle.std.specs.Str.Parse.{ExplainsSignedError, ExplainsUnsignedError, HasSignedDigitsIfOk, HasUnsignedDigitsIfOk, IsNumeral, ParsesSigned, ParsesUnsigned, digits_value, signed_digits_value, starts_with_minus, without_leading_plus, without_leading_sign}
use Rattle.std.proofs.lemmas.{Fmt.IsAscii-from_digits, Str.IsUtf8-append, Str.IsUtf8-from_ascii}
use Rattle.ring_scenario.specs.Words.{RefusedBy, SpellsSigned, SpellsUnsigned}

-- digits do not begin with `+`
no_plus : (word : List ℕ) → IsNumeral 10 word → slice_index word 0 ≡ 43 → ⊥
no_plus [] digits plus = omega (arith, digits.0)
no_plus (byte ∷ more) digits plus =
    let first = subst (λ b. digit_value b < 10) plus digits.1.0 in omega (arith, first)

-- so no `+` is dropped from them
without_plus : (word : List ℕ) → IsNumeral 10 word → without_leading_plus word ≡ word
without_plus word digits = by_first (slice_index word 0 == 43) refl
  where
    by_first : (is : Bool) → (slice_index word 0 == 43) ≡ is → without_leading_plus word ≡ word
    by_first true is = absurd (no_plus word digits (grind (arith, is)))
    by_first false is = ap (λ b. drop (cond b 1 0) word) is

digits_utf8 : (word : List ℕ) → IsNumeral 10 word → IsUtf8 word
digits_utf8 word digits = IsUtf8-from_ascii word (IsAscii-from_digits word digits.1)

pub not_unsigned : (bits : ℕ) (word : List ℕ) → RefusedBy {N = ℕ} {E = ParseIntError}
    (λ bs r. ParsesUnsigned bits 10 bs r × ExplainsUnsignedError 10 bs r × HasUnsignedDigitsIfOk bs r) word → (n : ℕ)
    → SpellsUnsigned bits word n → ⊥
not_unsigned bits word (inl plus) n spells = no_plus word spells.digits plus
not_unsigned bits word (inr (inl no_text)) n spells = no_text (digits_utf8 word spells.digits)
not_unsigned bits word (inr (inr refused)) n spells =
    let same = sym (without_plus word spells.digits) in
    refused.1.0 (
      subst (IsNumeral 10) same spells.digits,
      subst (λ ds. digits_value 10 ds < 2 ^ bits) same (subst (λ k. k < 2 ^ bits) spells.value spells.fits),
    )

minus_ascii : IsAscii (45 ∷ [])
minus_ascii zero = omega arith
minus_ascii (suc i) = omega arith

-- a word that begins with `-` is that and the rest
minus_first : (word : List ℕ) → starts_with_minus word ≡ true → word ≡ (45 ∷ []) ++ drop 1 word
minus_first [] is = grind (arith, is)
minus_first (byte ∷ more) is = let first : byte ≡ 45 = grind (arith, is) in ap (λ b. b ∷ more) first

pub not_signed : (w : Width) (word : List ℕ) → RefusedBy {N = ℤ} {E = ParseIntError}
    (λ bs r. ParsesSigned w 10 bs r × ExplainsSignedError 10 bs r × HasSignedDigitsIfOk bs r) word → (n : ℤ)
    → SpellsSigned w word n → ⊥
not_signed w word refused n spells = by_minus (starts_with_minus word) refl refused
  where
    by_minus : (is : Bool) → starts_with_minus word ≡ is → RefusedBy {N = ℤ} {E = ParseIntError}
        (λ bs r. ParsesSigned w 10 bs r × ExplainsSignedError 10 bs r × HasSignedDigitsIfOk bs r) word → ⊥
    by_minus true is (inl plus) = grind (arith, is, plus)
    by_minus true is (inr (inl no_text)) =
        let digits = subst (λ b. IsNumeral 10 (cond b (drop 1 word) word)) is spells.digits in
        no_text (subst IsUtf8 (sym (minus_first word is))
        (IsUtf8-append (45 ∷ []) (drop 1 word) (IsUtf8-from_ascii (45 ∷ []) minus_ascii) (digits_utf8 (drop 1 word) digits)))
    by_minus true is (inr (inr it)) =
        let digits = subst (λ b. IsNumeral 10 (cond b (drop 1 word) word)) is spells.digits in
        let rest : without_leading_sign word ≡ drop 1 word = rw is refl in
        let value : n ≡ signed_digits_value 10 word = spells.value ∙ rw is refl in
        it.1.0 (subst (IsNumeral 10) (sym rest) digits, subst (FitsSigned w) value spells.fits)
    by_minus false is (inl plus) =
        no_plus word (subst (λ b. IsNumeral 10 (cond b (drop 1 word) word)) is spells.digits) plus
    by_minus false is (inr (inl no_text)) =
        no_text (digits_utf8 word (subst (λ b. IsNumeral 10 (cond b (drop 1 word) word)) is spells.digits))
    by_minus false is (inr (inr it)) =
        let digits = subst (λ b. IsNumeral 10 (cond b (drop 1 word) word)) is spells.digits in
        let plain = without_plus word digits in
        let rest : without_leading_sign word ≡ word = rw is plain in
        let value : n ≡ signed_digits_value 10 word = spells.value ∙ rw is (ap (λ ds. pos (digits_value 10 ds)) (sym plain)) in
        it.1.0 (subst (IsNumeral 10) (sym rest) digits, subst (FitsSigned w) value spells.fits)
