use Rattle.std.proofs.Common.{◌∙◌, ◌++◌, ℕ, ℤ, FitsSigned, List, ap, codes, decimal, rules, string_bytes, w32}
use Rattle.std.{specs.Fmt.signed_decimal, proofs.lemmas.Int.to_z-of_z, proofs.lemmas.Result.IfOk-weaker}
use Rattle.ring_scenario.specs.Texts.{hex_text}
use Rattle.ring_scenario.proofs.runner.Runner.received.Goals as goal

abbrev copied : ℕ → ℤ → List ℕ → List ℕ
copied place type_id digits = codes "copy " ++ (signed_decimal type_id ++ (codes " "
    ++ (digits ++ (codes " place " ++ (decimal place ++ codes "\n")))))

pub returns-in_ok-digits-in-Copy : goal.returns-in_ok-digits-in-Copy
returns-in_ok-digits-in-Copy c =
    let copy = c.in-Copy in
    let digits = c.in_ok-digits-in-Copy in
    let fits : FitsSigned w32 copy.type_id = search rules in
    rw c.in-Copy.is (IfOk-weaker c.format.result _ _
    (λ text shown. shown
    ∙ (ap (λ (z : ℤ). copied copy.place z (string_bytes digits.digits)) (to_z-of_z w32 copy.type_id fits)
    ∙ ap (copied copy.place copy.type_id) (digits.ensures ∙ ap hex_text c.as_slice.ensures.value))) c.format.ensures.ok)
