use Rattle.std.proofs.Common.{◌≡◌, [], ◌∷◌, ℕ, ◌≤◌, sym, ap, ◌∙◌, subst, length, arith}
use Rattle.ring_layout.specs.{Headers.committed_header, Places.index}
use Rattle.ring_table.specs.{ProducerSteps.Mine, SlotSteps.with_out, SlotSteps.HasBody, SlotSteps.IsLent, Views.View}
use Rattle.ring_table.{specs.Staged.slot_bytes, proofs.ReadMarks.lent_front}
use Rattle.ring_table.proofs.steps.marks.take_header.Goals as goal

pub peek_slot-header-requires-clause-front : goal.peek_slot-header-requires-clause-front
peek_slot-header-requires-clause-front c =
    let t = c.requires.taken.1 in
    let is = t.1 in
    let fits = t.2 in
    let m = t.0.last.message.message in
    let f = lent_front c.args.capacity c.args.scan c.args.consumer.now.me t.0 (omega arith) in (
      committed_header m.type_id (length m.body),
      f.0,
      f.1 ∙ ap (λ i. (i, committed_header m.type_id (length m.body)) ∷ f.0) (sym c.word_index.ensures),
    )

-- the seat after the look has the same lent out
still : {C scan : ℕ} {me me' : Mine} → me'.0 ≡ me.0 → me'.1 ≡ me.1 → IsLent C scan me → IsLent C scan me'
still {C} {scan} {me} {me'} views slots l = record {
  last = record {
    front = l.last.front;
    message = l.last.message;
    got = ap (λ (v : View). v.consumer.got) views ∙ l.last.got;
    place_is = l.last.place_is;
    ahead = subst (λ n. n ≤ l.last.message.place) (sym (ap (λ (v : View). v.consumer.cleared) views)) l.last.ahead;
  };
  out_is = ap (λ (v : View). v.out) views ∙ l.out_is;
  slots = subst (HasBody (index C scan) (slot_bytes l.last.message.message)) (sym slots) l.slots;
}

pub return_slots-requires-clause-last : goal.return_slots-requires-clause-last
return_slots-requires-clause-last c =
    still c.peek_slot-header.ensures.seat.view c.peek_slot-header.ensures.same c.requires.taken.1.0

pub returns-clause-view : goal.returns-clause-view
returns-clause-view c =
    let t = c.requires.taken.1.0 in
    let views = c.peek_slot-header.ensures.seat.view in
    c.return_slots.ensures.returns.1 t.last.message (ap (λ (v : View). v.out) views ∙ t.out_is)
    ∙ ap (with_out []) views

pub returns-clause-header : goal.returns-clause-header
returns-clause-header c header t =
    let is = t.1 in
    let fits = t.2 in
    let m = t.0.last.message.message in
    let f = lent_front c.args.capacity c.args.scan c.args.consumer.now.me t.0 (omega arith) in
    c.peek_slot-header.ensures.value _ f.0
    (f.1 ∙ ap (λ i. (i, committed_header m.type_id (length m.body)) ∷ f.0) (sym c.word_index.ensures)) ∙ sym is
