use Rattle.std.proofs.Common.{◌≡◌, ℕ, ℤ, FitsSigned, ◌+◌, ◌^◌, ◌<◌, [], length, replicate, sym, ap, ◌∙◌, subst, arith}
use Rattle.std.{specs.Int.cast_signed, specs.Int.cast_unsigned, specs.Int.w32, proofs.lemmas.List.length-replicate}
use Rattle.ring_layout.specs.{Headers.committed_header, Places.index}
use Rattle.ring_table.specs.{Staged.headed, Views.View}
use Rattle.ring_table.specs.{Changes.with_header, ProducerSteps.HasClaim, ProducerSteps.with_changed, Ranges.numbered}
use Rattle.ring_table.specs.{Passing.placed_message, SlotSteps.HasBody, SlotSteps.with_out, SlotSteps.words_of}
use Rattle.ring_table.proofs.{HeaderCalls.packs_recorded, SlotBodies.body_given}
use Rattle.ring_table.proofs.bodies.store_claimed_slots.Goals as goal

-- the header that the code packs is that of zeros
packed : (value n : ℕ) (type_id : ℤ) → FitsSigned w32 type_id
    → value ≡ committed_header (cast_signed w32 (cast_unsigned w32 type_id)) n
    → value ≡ committed_header type_id (length (replicate {A = ℕ} n 0))
packed value n type_id fits is =
    packs_recorded value n type_id fits is ∙ ap (committed_header type_id) (sym (length-replicate n 0))

pub reserve_at-requires-clause-claim : goal.reserve_at-requires-clause-claim
reserve_at-requires-clause-claim c = let h = c.requires.claim in
    record { nth = h.nth; claim = h.claim; there = h.there; at_place = h.at_place; holds = h.holds.stage }

pub fill_zeros-requires-clause-has : goal.fill_zeros-requires-clause-has
fill_zeros-requires-clause-has c =
    let h = c.requires.claim in
    let here : index c.args.producer.now.me.0.capacity h.claim.place ≡ index c.args.capacity c.args.place =
    λ i. index (c.requires.seat.view_is i) (h.at_place i) in
    let t = (c.reserve_at.ensures.reserves h.nth h.claim h.there h.holds.stage here).1 in
    let same_span = h.holds.same_span in
    let many : words_of (8 + length h.claim.message.body) ≡ words_of (8 + c.args.wanted.len) = omega arith in
    record {
      values = t.values;
      held_is = t.held_is ∙ ap (λ i. numbered i t.values) (sym c.word_index.ensures);
      count = t.count ∙ many;
    }

pub open_record-requires-clause-body : goal.open_record-requires-clause-body
open_record-requires-clause-body c =
    let h = c.requires.claim in
    let n : ℕ = c.args.wanted.len in
    let here : index c.args.producer.now.me.0.capacity h.claim.place ≡ index c.args.capacity c.args.place =
    λ i. index (c.requires.seat.view_is i) (h.at_place i) in
    let header_is = packed c.committed_header-header.result n c.args.wanted.type_id c.requires.message.type_fits
    c.committed_header-header.ensures in
    let long = length-replicate {A = ℕ} n 0 in
    let same_span = h.holds.same_span in
    let same = c.fill_zeros.ensures.seat.view
    ∙ (c.reserve_at.ensures.reserves h.nth h.claim h.there h.holds.stage here).0 in (
      replicate n 0,
      long,
      record {
        nth = h.nth;
        claim = h.claim;
        there = subst (λ (v : View). HasClaim v h.nth h.claim) (sym same) h.there;
        stage = h.holds.stage;
        at_place = h.at_place;
        out_is = ap (λ (v : View). v.out) same;
        same_span = omega arith;
        bytes = c.requires.message.bytes;
        slots = subst (λ (z : ℕ × ℕ). HasBody z.0 (headed z.1 (replicate n 0)) c.fill_zeros.new.seat.me.1)
            (λ i. (c.word_index.ensures i, header_is i)) c.fill_zeros.ensures.has;
      },
    )

pub returns-clause-view : goal.returns-clause-view
returns-clause-view c =
    let h = c.requires.claim in
    let n : ℕ = c.args.wanted.len in
    let v : View = c.args.producer.now.me.0 in
    let here : index c.args.producer.now.me.0.capacity h.claim.place ≡ index c.args.capacity c.args.place =
    λ i. index (c.requires.seat.view_is i) (h.at_place i) in
    let header_is = packed c.committed_header-header.result n c.args.wanted.type_id c.requires.message.type_fits
    c.committed_header-header.ensures in
    let long : length (replicate {A = ℕ} n 0) ≡ n = length-replicate n 0 in
    let short = c.requires.message.short in
    let most = c.requires.seat.lawful.most in
    let small : 8 + length (replicate {A = ℕ} n 0) < 2 ^ 31 = omega arith in
    let same = c.fill_zeros.ensures.seat.view
    ∙ (c.reserve_at.ensures.reserves h.nth h.claim h.there h.holds.stage here).0 in
    let f = with_header c.args.wanted.type_id n in
    let given = c.open_record.ensures.stores.1 (placed_message h.claim) _ c.args.wanted.type_id (replicate n 0)
    (ap (λ (v : View). v.out) same) c.requires.message.type_fits small c.requires.message.bytes
    (subst (λ z. HasBody c.word_index.result (headed z (replicate n 0)) c.fill_zeros.new.seat.me.1) header_is
    c.fill_zeros.ensures.has) in
    body_given v c.open_record.new.producer.me.0 (placed_message h.claim) c.args.place f c.requires.seat.home h.at_place
    (given ∙ ap (λ (z : View). with_out [] (with_changed h.claim.place f z)) same)

pub returns-clause-seat : goal.returns-clause-seat
returns-clause-seat c =
    let g = c.open_record.ensures in
    let f = c.fill_zeros.ensures.seat in
    let t = c.reserve_at.ensures.seat in
    record {
      table = g.seat.table ∙ f.table ∙ t.table;
      id = g.seat.id ∙ f.id ∙ t.id;
      slots = g.stores.0 ∙ sym c.requires.seat.none;
      capacity = g.seat.capacity ∙ ap (λ (v : View). v.capacity) f.view ∙ t.capacity;
      out = ap (λ (v : View). v.out) (returns-clause-view c);
    }
