use Rattle.std.proofs.Common.{sym, ap, ◌∙◌}
use Rattle.ring_board.specs.{declared.shared.view.Record.Record, Records.end_of, Views.Sat, TransmitterSteps.record_at}
use Rattle.ring_board.proofs.PlaceLemmas.{end_snoc}
use Rattle.ring_board.proofs.board.Board.publish.Goals as goal

pub invariant_of-result : goal.invariant_of-result
invariant_of-result c = let f = c.args.filled in let v = f.seat.me.0 in let r : Record = record_at v.stage in let new =
    c.show_record.ensures.sent r f.written.0 in record {
      idle = (ap (λ (m : Sat). m.0.stage) new, ap (λ (m : Sat). m.1) new ∙ f.written.1);
      ends = (
        ap (λ (m : Sat). m.0.at) new ∙ sym f.lies.1,
        f.lies.1
            ∙ (sym (end_snoc v.start v.sent r) ∙ sym (ap (λ (m : Sat). end_of m.0.start m.0.sent) new)),
      );
      whole = f.whole;
      held = (ap (λ (m : Sat). m.0.shares) new ∙ f.held.0, f.held.1, f.held.2);
    }
