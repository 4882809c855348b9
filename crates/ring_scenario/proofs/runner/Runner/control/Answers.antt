use Rattle.std.proofs.Common.{refl, subst}
use Rattle.std.proofs.lemmas.Result.{IfOk-weaker}
use Rattle.ring_rings.specs.Reading.{Controls}
use Rattle.ring_scenario.specs.Printing.{Printed, Prints, printed_by}
use Rattle.ring_scenario.proofs.PrinterLemmas.{printed_controls}
use Rattle.ring_scenario.proofs.runner.Runner.control.Goals as goal

pub returns-clause-line : goal.returns-clause-line
returns-clause-line c =
    let call = c.controlled_read-end in
    IfOk-weaker c.read_text.result _ _
    (λ text shown. record {
      end = call.result;
      printed = printed_by call.new.handler;
      controls = (
        call.ensures.does.0,
        subst (λ (s : Printed). Controls Prints c.args.limit c.args.self.now.ring.consumer.view
            call.new.self.view s (printed_by call.new.handler) call.result) c.new-printer.ensures
            (printed_controls _ _ _ _ _ _ call.ensures.does.1 shown.0),
      );
      ends = call.ensures.ends;
      rest = (refl, refl);
      prints = shown.1;
    }) c.read_text.ensures
