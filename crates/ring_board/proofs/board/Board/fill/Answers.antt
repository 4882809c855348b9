use Rattle.std.proofs.Common.{◌≡◌, ℕ, ◌+◌, ◌%◌, sym, ap, ◌∙◌, arith, w32}
use Rattle.std.specs.Int.{cast_signed, cast_unsigned}
use Rattle.ring_layout.specs.{History.span, Places.next_place}
use Rattle.ring_layout.proofs.PlaceLemmas.{next_aligned, span_bounds}
use Rattle.ring_board.specs.declared.shared.view.{Record.Record, Stage.TheVariants.Written}
use Rattle.ring_board.specs.{Records.end, Seats.next_record, Views.Sat, TransmitterSteps.record_at}
use Rattle.ring_board.proofs.board.Board.fill.Goals as goal

pub invariant_of-result : goal.invariant_of-result
invariant_of-result c = let b = c.args.begun in let new = c.store_record.ensures.written in let k : ℕ =
    c.args.self.now.capacity in let n : ℕ = b.seat.me.0.capacity in let a : ℕ = span b.len in let lawful =
    c.args.self.now.lawful in
    let same : n ≡ k = c.requires.board.1.0 in let long = c.requires.len in
    let r : Record = next_record k b.tail (cast_signed w32 (cast_unsigned w32 b.type_id)) c.args.body.now in
    let at : record_at c.store_record.new.seat.me.0.stage ≡ r = ap (λ (m : Sat). record_at m.0.stage) new in
    let place : b.place ≡ r.place = b.lies.0 ∙ (λ i. next_place (same i) b.tail (span (sym long i))) in
    let over : b.end ≡ end r = b.lies.1 ∙ (λ i. place i + span (sym long i)) in
    let s8 = (span_bounds b.len).0 in let p8 : next_place n b.tail a % 8 ≡ 0 =
    next_aligned n b.tail a (omega arith) (omega arith) b.whole.0 in let lies = b.lies.0 in let ends =
    b.lies.1 in record {
      written = (
        ap (λ (m : Sat). m.0.stage) new ∙ ap (λ (r : Record). Written r) (sym at),
        ap (λ (m : Sat). m.1) new
            ∙ b.begun.1,
      );
      lies = (place ∙ ap (λ (q : Record). q.place) (sym at), over ∙ ap end (sym at));
      whole = ((let g : b.end % 8 ≡ 0 = omega arith in g), b.whole.1);
      held = (ap (λ (m : Sat). m.0.shares) new ∙ b.held.0, b.held.1, b.held.2);
    }
