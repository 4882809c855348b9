use Rattle.std.proofs.Common.{◌∙◌, ap, codes}
use Rattle.std.proofs.lemmas.Result.{IfOk-weaker}
use Rattle.ring_scenario.specs.{RefusalTexts.id_refused, Texts.answer_text, Texts.number_text}
use Rattle.ring_scenario.proofs.runner.Runner.owner.Goals as goal

pub returns : goal.returns
returns c =
    IfOk-weaker c.identified.result _ _
    (λ text shown. shown ∙ ap (answer_text (number_text (codes "owner")) id_refused) c.owner.ensures)
    c.identified.ensures
