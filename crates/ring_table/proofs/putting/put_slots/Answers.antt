use Rattle.std.proofs.Common.{◌≡◌, ℕ, ◌+◌, ◌≤◌, List, [], length, sym, refl, ap, ◌∙◌, subst, arith}
use Rattle.ring_layout.specs.{declared.message.Message.Message, Headers.committed_header, History.overwritten}
use Rattle.ring_layout.{specs.Places.index, proofs.WordBytes.length-overwritten}
use Rattle.ring_table.specs.{Staged.StagedClaim, Staged.headed, Staged.slot_bytes, Passing.placed_message, Views.View}
use Rattle.ring_table.proofs.{SlotBytes.headed_put, SlotBytes.length_slot, SlotBytes.small_slot, CarryLemmas.one_claim}
use Rattle.ring_table.specs.{Changes.with_body, Filling.Takes}
use Rattle.ring_table.specs.{ProducerSteps.HasClaim, ProducerSteps.with_changed, SlotSteps.HasBody, SlotSteps.with_out}
use Rattle.ring_table.proofs.{PuttingLemmas.small_put, SlotBodies.body_given}
use Rattle.ring_table.proofs.putting.put_slots.Goals.{After-word_index-first}
use Rattle.ring_table.proofs.putting.put_slots.Goals as goal

-- bytes put over those of the body leave the header, since the length stays
put_over : (m : Message) (offset : ℕ) (bytes : List ℕ) → offset + length bytes ≤ length m.body
    → overwritten (8 + offset) bytes (slot_bytes m)
    ≡ slot_bytes (record { type_id = m.type_id; body = overwritten offset bytes m.body })
put_over m offset bytes room =
    headed_put (committed_header m.type_id (length m.body)) offset bytes m.body
    ∙ ap (λ n. headed (committed_header m.type_id n) (overwritten offset bytes m.body))
    (sym (length-overwritten offset bytes m.body room))

-- the slots that were taken have the claim's record
taken : (c : After-word_index-first) → Takes c.word_index-first.result (8 + c.args.len)
    (slot_bytes c.requires.claim.claim.message) c.take_body.new.producer.me.1
taken c =
    let s = c.requires.seat in
    let h = c.requires.claim in
    let t = c.take_body.ensures.takes h.nth h.claim h.there h.holds.stage
    (λ i. index (s.view_is i) (h.at_place i)) in
    record {
      has = subst (λ i. HasBody i (slot_bytes h.claim.message) c.take_body.new.producer.me.1)
          (sym c.word_index-first.ensures) t.1;
      bytes = small_slot h.claim.message t.2;
      long = length_slot h.claim.message ∙ ap (λ n. 8 + n) h.holds.len_is;
    }

pub merge_slots-requires-clause-takes : goal.merge_slots-requires-clause-takes
merge_slots-requires-clause-takes c = (
  slot_bytes c.requires.claim.claim.message,
  taken (goal.at.merge_slots-requires-clause-takes c).After-word_index-first,
)

pub give_body-requires-clause-body : goal.give_body-requires-clause-body
give_body-requires-clause-body c =
    let s = c.requires.seat in
    let h = c.requires.claim in
    let old : List ℕ = h.claim.message.body in
    let bytes : List ℕ = c.args.bytes.now in
    let takes = taken (goal.at.give_body-requires-clause-body c).After-word_index-first in
    let t = c.take_body.ensures.takes h.nth h.claim h.there h.holds.stage
    (λ i. index (s.view_is i) (h.at_place i)) in
    let same = c.merge_slots.ensures.seat.view ∙ t.0 in (
      overwritten c.args.offset bytes old,
      record {
        message = placed_message h.claim;
        out_is = ap (λ (v : View). v.out) same;
        at = h.at_place;
        nth = h.nth;
        claim = h.claim;
        there = subst (λ (v : View). HasClaim v h.nth h.claim) (sym same) h.there;
        stage = h.holds.stage;
        at_place = h.at_place;
        type_is = refl;
        long = refl;
        same_length = length-overwritten c.args.offset bytes old (omega arith);
        bytes = small_put c.args.offset bytes old (omega arith) (λ j. omega (arith, c.type_inv.bytes j)) t.2;
        slots = subst (λ (z : ℕ × List ℕ). HasBody z.0 z.1 c.merge_slots.new.seat.me.1)
            (λ i. (c.word_index-first.ensures i, put_over h.claim.message c.args.offset bytes (omega arith) i))
            (c.merge_slots.ensures.has (slot_bytes h.claim.message) takes);
      },
    )

pub returns-clause-view : goal.returns-clause-view
returns-clause-view c k d has at =
    let s = c.requires.seat in
    let h = c.requires.claim in
    let old : List ℕ = h.claim.message.body in
    let bytes : List ℕ = c.args.bytes.now in
    let new : List ℕ = overwritten c.args.offset bytes old in
    let v : View = c.args.producer.now.me.0 in
    let takes = taken (goal.at.returns-clause-view c).After-word_index-first in
    let t = c.take_body.ensures.takes h.nth h.claim h.there h.holds.stage
    (λ i. index (s.view_is i) (h.at_place i)) in
    let same = c.merge_slots.ensures.seat.view ∙ t.0 in
    let given = c.give_body.ensures.gives.1 (placed_message h.claim) _ new (ap (λ (z : View). z.out) same)
    (length-overwritten c.args.offset bytes old (omega arith))
    (small_put c.args.offset bytes old (omega arith) (λ j. omega (arith, c.type_inv.bytes j)) t.2)
    (subst (λ z. HasBody c.word_index-first.result z c.merge_slots.new.seat.me.1)
    (put_over h.claim.message c.args.offset bytes (omega arith)) (c.merge_slots.ensures.has (slot_bytes h.claim.message) takes)) in
    let told = body_given v c.give_body.new.producer.me.0 (placed_message h.claim) c.args.place (with_body new)
    s.home h.at_place (given ∙ ap (λ (z : View). with_out [] (with_changed h.claim.place (with_body new) z)) same) in
    let one : h.claim ≡ d = one_claim v.producer.claims h.nth k h.claim d c.take_body.ensures.rising h.there has
    (h.at_place ∙ sym at) in
    subst (λ (z : StagedClaim). c.give_body.new.producer.me.0
    ≡ with_changed c.args.place (with_body (overwritten c.args.offset bytes z.message.body)) v) one told

pub returns-clause-seat : goal.returns-clause-seat
returns-clause-seat c =
    let h = c.requires.claim in
    let g = c.give_body.ensures in
    let f = c.merge_slots.ensures.seat in
    let t = c.take_body.ensures.seat in
    record {
      table = g.seat.table ∙ f.table ∙ t.table;
      id = g.seat.id ∙ f.id ∙ t.id;
      slots = g.gives.0 ∙ sym c.requires.seat.none;
      capacity = g.seat.capacity ∙ ap (λ (v : View). v.capacity) f.view ∙ t.capacity;
      out = ap (λ (v : View). v.out) (returns-clause-view c h.nth h.claim h.there h.at_place);
    }
