use Rattle.std.proofs.Common.{◌≡◌, ◌≤◌, length, sym, ap, ◌∙◌, subst, arith}
use Rattle.ring_table.specs.{Ranges.numbered, SlotSteps.HasBody, Staged.slot_bytes, Views.View}
use Rattle.ring_table.proofs.SlotBytes.{length_slot}
use Rattle.ring_layout.specs.Places.{index}
use Rattle.ring_table.proofs.bodies.read_slots.Goals as goal

pub copy_slots-requires-clause-has : goal.copy_slots-requires-clause-has
copy_slots-requires-clause-has c =
    let l = c.requires.last.0 in
    let long : length l.message.message.body ≡ c.args.len = c.requires.last.1 in
    let t = c.lend_body.ensures.lends l.front l.message l.got in
    let whole = length_slot l.message.message in
    let count = t.1.count in
    record {
      values = t.1.values;
      held_is = t.1.held_is ∙ ap (λ i. numbered i t.1.values) (sym c.word_index-first.ensures);
      count = omega arith;
    }

pub return_body-requires-clause-last : goal.return_body-requires-clause-last
return_body-requires-clause-last c =
    let l = c.requires.last.0 in
    let t = c.lend_body.ensures.lends l.front l.message l.got in
    let same = c.copy_slots.ensures.seat.view ∙ t.0 in
    record {
      last = record {
        front = l.front;
        message = l.message;
        got = ap (λ (v : View). v.consumer.got) same ∙ l.got;
        place_is = l.place_is;
        ahead = subst (λ n. n ≤ l.message.place) (sym (ap (λ (v : View). v.consumer.cleared) same)) l.ahead;
      };
      out_is = ap (λ (v : View). v.out) same;
      slots = subst (HasBody (index c.args.capacity c.args.place) (slot_bytes l.message.message))
          (sym c.copy_slots.ensures.same) t.1;
    }
