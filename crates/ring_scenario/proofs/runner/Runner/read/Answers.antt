use Rattle.std.proofs.Common.{refl, subst}
use Rattle.std.proofs.lemmas.Result.{IfOk-weaker}
use Rattle.ring_rings.specs.Reading.{Reads}
use Rattle.ring_scenario.specs.Printing.{Printed, Prints, printed_by}
use Rattle.ring_scenario.proofs.PrinterLemmas.{printed_reads}
use Rattle.ring_scenario.proofs.runner.Runner.read.Goals as goal

pub returns-clause-line : goal.returns-clause-line
returns-clause-line c =
    let call = c.read-end in
    let does = call.ensures.does in
    IfOk-weaker c.read_text.result _ _
    (λ text shown. record {
      end = call.result;
      printed = printed_by call.new.handler;
      reads = (
        does.0,
        record {
          reads = subst (λ (s : Printed). Reads Prints c.args.limit c.args.self.now.ring.consumer.view
              call.new.self.view s (printed_by call.new.handler) call.result.messages) c.new-printer.ensures
              (printed_reads _ _ _ _ _ _ does.1.reads shown.0);
          heads = does.1.heads;
          bytes = does.1.bytes;
          stopped = does.1.stopped;
        },
      );
      ends = call.ensures.ends;
      rest = (refl, refl);
      prints = shown.1;
    }) c.read_text.ensures
