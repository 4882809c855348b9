use Rattle.std.proofs.Common.{◌≡◌, ◌∙◌, ℕ, ◌+◌, ◌/◌, ◌%◌, ◌<◌, ◌≤◌, [], ◌∷◌, ◌++◌, sym, ap, arith, decimal}
use Rattle.std.proofs.lemmas.Fmt.{decimal_digit, decimal_step}
use Rattle.ring_storm.proofs.client.label_of.Goals as goal

one_digit : (n : ℕ) → n < 10 → (48 + n % 10) ∷ [] ≡ decimal n
one_digit n low = let same : 48 + n % 10 ≡ 48 + n = omega arith in ap (λ d. d ∷ []) same ∙ sym (decimal_digit n low)

two_digits : (n : ℕ) → 10 ≤ n → n < 100 → (48 + n / 10) ∷ (48 + n % 10) ∷ [] ≡ decimal n
two_digits n high low =
    let tens : decimal (n / 10) ≡ (48 + n / 10) ∷ [] = decimal_digit (n / 10) (omega arith) in
    let all : decimal n ≡ decimal (n / 10) ++ (48 + n % 10) ∷ [] = decimal_step n high (omega arith) in
    sym (all ∙ ap (λ l. l ++ (48 + n % 10) ∷ []) tens)

pub returns-then-client-lt10-clause-label : goal.returns-then-client-lt10-clause-label
returns-then-client-lt10-clause-label c = ap (λ l. 99 ∷ l) (one_digit c.args.client c.if-client-lt10.true)

pub returns-else-client-lt10-clause-label : goal.returns-else-client-lt10-clause-label
returns-else-client-lt10-clause-label c = ap (λ l. 99 ∷ l) (two_digits c.args.client c.if-client-lt10.false c.requires)
