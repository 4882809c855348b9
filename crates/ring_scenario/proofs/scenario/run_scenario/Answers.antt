use Rattle.std.proofs.Common.{◌∙◌, subst}
use Rattle.std.proofs.lemmas.Result.{IfErr-weaker, on_ok_weaker}
use Rattle.ring_scenario.specs.Running.{FailsAt, RunsText}
use Rattle.ring_scenario.proofs.{FaultLemmas.of_line_weaker, RunLemmas.of_known}
use Rattle.ring_scenario.proofs.scenario.run_scenario.Goals as goal

pub returns-clause-ran : goal.returns-clause-ran
returns-clause-ran g c =
    on_ok_weaker c.run_text.result
    (λ ran. of_known (g.I.Read.remaining c.args.reader.now) _ _
    (λ text is. (
      c.in_ok-runner.runner,
      c.in_ok-runner.ensures.options,
      subst (λ t. RunsText t c.in_ok-runner.runner (g.O.Write.contents c.args.writer.now)
          (g.O.Write.contents c.run_text.new.writer)) (c.as_slice.ensures.value ∙ is) ran,
    )) c.in_ok-input.ensures.whole)
    c.run_text.ensures.ran

pub returns-clause-bad : goal.returns-clause-bad
returns-clause-bad g c =
    IfErr-weaker c.run_text.result _ _
    (λ fault. of_line_weaker _ _
    (λ number fails. of_known (g.I.Read.remaining c.args.reader.now) _ _
    (λ text is. (
      c.in_ok-runner.runner,
      c.in_ok-runner.ensures.options,
      subst (λ t. FailsAt t c.in_ok-runner.runner (g.O.Write.contents c.args.writer.now)
          (g.O.Write.contents c.run_text.new.writer) number) (c.as_slice.ensures.value ∙ is) fails,
    )) c.in_ok-input.ensures.whole) fault)
    c.run_text.ensures.bad
