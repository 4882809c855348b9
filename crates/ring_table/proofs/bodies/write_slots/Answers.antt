use Rattle.std.proofs.Common.{◌≡◌, ℕ, ◌+◌, ◌^◌, ◌<◌, List, [], All, length, sym, refl, ap, ◌∙◌, subst, arith}
use Rattle.std.proofs.{Math.ListN.get_elem?, lemmas.List.length-replicate, lemmas.List.Elements.All-from_get_or}
use Rattle.atomic_table.proofs.Lists.{at_last}
use Rattle.ring_layout.specs.{Headers.committed_header, Places.index}
use Rattle.ring_table.specs.{Changes.recorded, ProducerSteps.with_changed, ProducerSteps.HasClaim, Ranges.numbered}
use Rattle.ring_table.specs.{Passing.placed_message, SlotSteps.HasBody, SlotSteps.with_out, SlotSteps.words_of}
use Rattle.ring_table.specs.{Staged.headed, Views.View}
use Rattle.ring_table.proofs.{HeaderCalls.packs_recorded, SlotBodies.body_given}
use Rattle.ring_table.proofs.bodies.write_slots.Goals as goal

pub reserve_body-requires-clause-newest : goal.reserve_body-requires-clause-newest
reserve_body-requires-clause-newest c = let h = c.requires.newest in (
  c.args.place,
  record {
    others = h.others;
    claim = h.claim;
    claims_are = h.claims_are;
    at_place = h.at_place;
    holds = h.holds.stage;
  },
)

pub fill_slots-requires-clause-has : goal.fill_slots-requires-clause-has
fill_slots-requires-clause-has c =
    let h = c.requires.newest in
    let t = (c.reserve_body.ensures.reserves h.others h.claim h.claims_are h.holds.stage).1 in
    let here : index c.args.producer.now.me.0.capacity h.claim.place ≡ index c.args.capacity c.args.place =
    λ i. index (c.requires.seat.view_is i) (h.at_place i) in
    let many : words_of (8 + length h.claim.message.body) ≡ words_of (8 + length c.args.body.now) = omega arith in
    record {
      values = t.values;
      held_is = t.held_is ∙ ap (λ i. numbered i t.values) (here ∙ sym c.word_index.ensures);
      count = t.count ∙ many;
    }

pub commit_record-requires-clause-body : goal.commit_record-requires-clause-body
commit_record-requires-clause-body c =
    let h = c.requires.newest in
    let body : List ℕ = c.args.body.now in
    let len = c.requires.len in
    let same_span = h.holds.same_span in
    let header_is : c.committed_header-header.result ≡ committed_header c.args.wanted.type_id (length body) =
    packs_recorded c.committed_header-header.result c.args.wanted.len c.args.wanted.type_id c.requires.message.type_fits
    c.committed_header-header.ensures ∙ ap (committed_header c.args.wanted.type_id) (sym len) in
    let same = c.fill_slots.ensures.seat.view
    ∙ (c.reserve_body.ensures.reserves h.others h.claim h.claims_are h.holds.stage).0 in (
      body,
      len,
      record {
        nth = length h.others;
        claim = h.claim;
        there = subst (λ (v : View). HasClaim v (length h.others) h.claim) (sym same)
            (ap (λ l. get_elem? l (length h.others)) h.claims_are ∙ at_last h.others h.claim (length h.others) refl);
        stage = h.holds.stage;
        at_place = h.at_place;
        out_is = ap (λ (v : View). v.out) same;
        same_span = omega arith;
        bytes = All-from_get_or (λ b. b < 256) body 0 (λ i _. omega (arith, c.type_inv.body i));
        slots = subst (λ (z : ℕ × ℕ). HasBody z.0 (headed z.1 body) c.fill_slots.new.seat.me.1)
            (λ i. (c.word_index.ensures i, header_is i)) c.fill_slots.ensures.has;
      },
    )

pub returns-clause-view : goal.returns-clause-view
returns-clause-view c =
    let h = c.requires.newest in
    let body : List ℕ = c.args.body.now in
    let v : View = c.args.producer.now.me.0 in
    let len : length body ≡ c.args.wanted.len = c.requires.len in
    let zeros = length-replicate {A = ℕ} c.args.wanted.len 0 in
    let small : 8 + length body < 2 ^ 31 = omega arith in
    let bytes : All (λ b. b < 256) body =
    All-from_get_or (λ b. b < 256) body 0 (λ i _. omega (arith, c.type_inv.body i)) in
    let same = c.fill_slots.ensures.seat.view
    ∙ (c.reserve_body.ensures.reserves h.others h.claim h.claims_are h.holds.stage).0 in
    let f = recorded c.args.wanted.type_id body in
    let header_is : c.committed_header-header.result ≡ committed_header c.args.wanted.type_id (length body) =
    packs_recorded c.committed_header-header.result c.args.wanted.len c.args.wanted.type_id c.requires.message.type_fits
    c.committed_header-header.ensures ∙ ap (committed_header c.args.wanted.type_id) (sym len) in
    let given = c.commit_record.ensures.stores.1 (placed_message h.claim) _ c.args.wanted.type_id body
    (ap (λ (v : View). v.out) same) c.requires.message.type_fits small bytes
    (subst (λ z. HasBody c.word_index.result (headed z body) c.fill_slots.new.seat.me.1) header_is
    c.fill_slots.ensures.has) in
    body_given v c.commit_record.new.producer.me.0 (placed_message h.claim) c.args.place f c.requires.seat.home h.at_place
    (given ∙ ap (λ (z : View). with_out [] (with_changed h.claim.place f z)) same)

pub returns-clause-seat : goal.returns-clause-seat
returns-clause-seat c =
    let g = c.commit_record.ensures in
    let f = c.fill_slots.ensures.seat in
    let t = c.reserve_body.ensures.seat in
    record {
      table = g.seat.table ∙ f.table ∙ t.table;
      id = g.seat.id ∙ f.id ∙ t.id;
      slots = g.stores.0 ∙ sym c.requires.seat.none;
      capacity = g.seat.capacity ∙ ap (λ (v : View). v.capacity) f.view ∙ t.capacity;
      out = ap (λ (v : View). v.out) (returns-clause-view c);
    }
