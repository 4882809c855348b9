use Rattle.std.proofs.Common.{◌∙◌, Some, ap, sym}
use Rattle.std.proofs.{KnownBytes.Appends-nil, lemmas.Result.on_ok_weaker}
use Rattle.ring_scenario.{specs.Running.finished_text, proofs.RunLemmas.end_written}
use Rattle.ring_scenario.proofs.scenario.write_end.Goals as goal

pub returns-in-Some-clause-written : goal.returns-in-Some-clause-written
returns-in-Some-clause-written g c =
    let same = ap (λ s. finished_text (Some s)) c.in-Some.served-is ∙ ap finished_text (sym c.in-Some.is) in
    on_ok_weaker c.write_finished.result
    (end_written c.args.ended _ _ _ _ _ (c.as_str.ensures.value ∙ c.in_ok-text.ensures.ok) same
    c.in_ok-write_text.ensures.written) c.write_finished.ensures.written

pub returns-clause-written : goal.returns-clause-written
returns-clause-written g c =
    end_written c.args.ended _ _ _ _ _ (c.as_str.ensures.value ∙ c.in_ok-text.ensures.ok)
    (ap finished_text (sym c.in-None.is)) c.in_ok-write_text.ensures.written (Appends-nil _)
