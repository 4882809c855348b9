use Rattle.std.proofs.Common.{◌∙◌, ◌++◌, ℕ, List, ap, codes, decimal}
use Rattle.std.{specs.Fmt.signed_decimal, proofs.lemmas.Result.IfOk-weaker}
use Rattle.ring_scenario.specs.Texts.{hex_text}
use Rattle.ring_scenario.proofs.runner.serving.counter_text.Goals as goal

pub returns : goal.returns
returns c =
    let info = c.args.info.now in
    let label = c.in_ok-label.ensures ∙ ap hex_text c.as_slice.ensures.value in
    IfOk-weaker c.format.result _ _
    (λ text shown. shown ∙ ap (λ (d : List ℕ). codes "counter " ++ (decimal info.id ++ (codes " type "
    ++ (signed_decimal info.type_id ++ (codes " value " ++ (signed_decimal info.value ++ (codes " registration "
    ++ (decimal info.registration ++ (codes " label " ++ (d ++ codes "\n")))))))))) label) c.format.ensures.ok
