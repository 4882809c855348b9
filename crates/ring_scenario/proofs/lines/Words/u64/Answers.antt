use Rattle.std.proofs.lemmas.Result.{on_err_weaker}
use Rattle.ring_scenario.proofs.NumberLemmas.{not_unsigned}
use Rattle.ring_scenario.proofs.lines.Words.u64.Goals as goal

pub returns-clause-bad : goal.returns-clause-bad
returns-clause-bad c =
    on_err_weaker c.number.result (λ refused word more is spells. not_unsigned 64 word (refused word more is) spells.0 spells.1)
    c.number.ensures.bad
