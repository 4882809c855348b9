use Rattle.std.proofs.Common.{◌≡◌, ℕ, ℤ, ◌+◌, ◌%◌, length, sym, ap, ◌∙◌, arith, w32}
use Rattle.std.{specs.Int.cast_signed, specs.Int.cast_unsigned, proofs.lemmas.Int.to_z-of_z}
use Rattle.ring_layout.specs.{History.span, Places.next_place}
use Rattle.ring_layout.proofs.PlaceLemmas.{next_aligned, span_bounds}
use Rattle.ring_board.specs.declared.shared.view.{Record.Record, View.View, Stage.TheVariants.Written}
use Rattle.ring_board.specs.{Records.end, Records.end_of, Views.Sat, TransmitterSteps.sent_on, Seats.next_record}
use Rattle.ring_board.proofs.{PlaceLemmas.end_snoc, CallLemmas.lies_begun, CallLemmas.sent_through}
use Rattle.ring_board.proofs.board.Board.transmit.Goals as goal
use Rattle.ring_board.proofs.board.Board.transmit.Goals.{After-show_record}

pub store_intent-requires-clause-fits : goal.store_intent-requires-clause-fits
store_intent-requires-clause-fits c =
    let lawful = c.args.self.now.lawful in let spot = c.in_ok-place.ensures.spot in let t = c.args.transmitter.now in
    lies_begun c.args.self.now.capacity t.tail
    (length c.args.body.now) lawful.0 lawful.2 t.whole.0 c.in_ok-place.ensures.lawful.1 t.seat.me.0.at
    c.in_ok-place.field-0.place c.in_ok-place.field-0.end t.ends.0 spot.0 spot.1

pub show_record-requires-clause-stage : goal.show_record-requires-clause-stage
show_record-requires-clause-stage c = let spot = c.in_ok-place.ensures.spot in (
  next_record c.args.self.now.capacity c.args.transmitter.now.tail c.args.type_id c.args.body.now,
  ap (λ (m : Sat). m.0.stage) c.store_record.ensures.written
      ∙ ap (λ (t : ℤ). Written (next_record c.args.self.now.capacity c.args.transmitter.now.tail t c.args.body.now))
      (to_z-of_z w32 c.args.type_id c.ranges.type_id),
  spot.0,
  spot.1 ∙ ap (λ (p : ℕ). p + span (length c.args.body.now)) spot.0,
)

module _ (c : After-show_record) where
  -- the record that was sent
  abbrev record_sent : Record
  record_sent = next_record c.args.self.now.capacity c.args.transmitter.now.tail
      (cast_signed w32 (cast_unsigned w32 c.args.type_id)) c.args.body.now

  me_after : c.show_record.new.seat.me
      ≡ (sent_on c.args.transmitter.now.seat.me.0 record_sent, c.args.transmitter.now.seat.me.1)
  me_after = sent_through c.args.transmitter.now.seat.me _ _ _ _ record_sent c.store_intent.ensures.begun
      c.store_record.ensures.written c.show_record.ensures.sent

pub invariant_of-transmitter : goal.invariant_of-transmitter
invariant_of-transmitter c = let t = c.args.transmitter.now in let v : View = t.seat.me.0 in let r : Record =
    record_sent c in let new = me_after c in let spot = c.in_ok-place.ensures.spot in let n : ℕ =
    c.args.self.now.capacity in
    let lawful = c.args.self.now.lawful in let a : ℕ = span (length c.args.body.now) in let s8 =
    (span_bounds (length c.args.body.now)).0 in
    let p8 : next_place n t.tail a % 8 ≡ 0 =
    next_aligned n t.tail a (omega arith) (omega arith) t.whole.0 in let at = spot.0 in let over = spot.1 in
    let ends : c.in_ok-place.field-0.end ≡ end r = over ∙ ap (λ (p : ℕ). p + a) at in record {
      idle = (ap (λ (m : Sat). m.0.stage) new, ap (λ (m : Sat). m.1) new ∙ t.idle.1);
      ends = (
        ap (λ (m : Sat). m.0.at) new ∙ sym ends,
        ends
            ∙ (sym (end_snoc v.start v.sent r) ∙ sym (ap (λ (m : Sat). end_of m.0.start m.0.sent) new)),
      );
      whole = ((let g : c.in_ok-place.field-0.end % 8 ≡ 0 = omega arith in g), spot.2);
      held = (ap (λ (m : Sat). m.0.shares) new ∙ t.held.0, t.held.1, t.held.2);
    }

pub returns-clause-board : goal.returns-clause-board
returns-clause-board c = let r : Record =
    next_record c.args.self.now.capacity c.args.transmitter.now.tail
    (cast_signed w32 (cast_unsigned w32 c.args.type_id)) c.args.body.now in
    let new = sent_through c.args.transmitter.now.seat.me _ _ _ _ r c.store_intent.ensures.begun
    c.store_record.ensures.written c.show_record.ensures.sent in (
      c.show_record.ensures.same.0 ∙ (c.store_record.ensures.same.0 ∙ (c.store_intent.ensures.same.0 ∙ c.requires.0)),
      (ap (λ (m : Sat). m.0.capacity) new ∙ c.requires.1.0, ap (λ (m : Sat). m.0.start) new ∙ c.requires.1.1),
    )
