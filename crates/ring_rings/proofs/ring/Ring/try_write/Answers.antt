use Rattle.std.proofs.Common.{◌≡◌, ℕ, ◌%◌, length, refl, ap, ◌∙◌, arith, rules}
use Rattle.ring_layout.specs.{History.span, Places.next_place}
use Rattle.ring_layout.proofs.{CapacityLemmas.capacity_blocks, PlaceLemmas.next_within, PlaceLemmas.span_bounds}
use Rattle.std.proofs.lemmas.List.{length-replicate}
use Rattle.ring_rings.proofs.MadeLemmas.{keeps_claims, moved_made, moved_newest, moved_padded, moved_written, written_claims, written_leaves, written_seat, written_view}
use Rattle.ring_rings.proofs.SentLemmas.{write_sends}
use Rattle.ring_rings.proofs.ring.Ring.try_write.Goals as goal

pub store_record-requires-clause-inside : goal.store_record-requires-clause-inside
store_record-requires-clause-inside g c =
    let C : ℕ = c.args.self.now.capacity in
    let len : ℕ = length c.args.body.now in
    let admitted = c.in_ok-admission.ensures.told.0.admitted in
    let tail : ℕ = c.in_ok-admission.admission.tail in
    let lawful = c.args.self.now.lawful in
    let bounds = span_bounds len in
    let short = admitted.message.short in
    let zeros = length-replicate {A = ℕ} len 0 in
    let within = next_within C tail (span len) (omega (arith, lawful.least))
    (omega (arith, lawful.least, capacity_blocks C lawful, short, zeros, bounds.2)) in
    let same : c.in_ok-admission.admission.place % C ≡ next_place C tail (span len) % C =
    ap (λ (n : ℕ). n % C) admitted.place in
    omega (arith, within, same, bounds.1)

pub store_record-requires-clause-last : goal.store_record-requires-clause-last
store_record-requires-clause-last g c =
    let moved = c.in_ok-admission.ensures.told.0 in
    moved_padded moved c.store_padding.new.seat.me.0 (c.store_padding.ensures.padded _ _ _ (moved_newest moved))

pub invariant_of-producer-2 : goal.invariant_of-producer-2
invariant_of-producer-2 g c =
    let moved = c.in_ok-admission.ensures.told.0 in
    let known = c.args.producer.now.known in
    let seat = written_seat (moved_made moved known.rising) c.args.body.now refl
    c.store_record.new.seat.me.0 (moved_written moved c.store_padding.new.seat.me.0
    (c.store_padding.ensures.padded _ _ _ (moved_newest moved)) c.args.body.now refl c.store_record.new.seat.me.0
    c.store_record.ensures.stored) known
    c.args.producer.now.produces
    (c.store_record.ensures.seat.slots ∙ c.store_padding.ensures.seat.slots ∙ c.in_ok-admission.ensures.seat.slots) in
    record {
      known = seat.0;
      produces = seat.1;
      home = c.store_record.ensures.seat.out ∙ c.store_padding.ensures.seat.out ∙ c.in_ok-admission.ensures.seat.out
          ∙ c.args.producer.now.home;
    }

pub returns : goal.returns
returns g c =
    let moved = c.in_ok-admission.ensures.told.0 in
    let made = moved_made moved c.args.producer.now.known.rising in
    let stored = moved_written moved c.store_padding.new.seat.me.0
    (c.store_padding.ensures.padded _ _ _ (moved_newest moved)) c.args.body.now refl c.store_record.new.seat.me.0
    c.store_record.ensures.stored in
    let claims = written_claims made c.args.body.now refl c.store_record.new.seat.me.0 stored in
    let left = written_leaves made c.args.body.now refl c.store_record.new.seat.me.0 stored in
    record {
      producer = search rules;
      sent = (let sends = write_sends _ _ _ _ _ _ claims in search rules);
      written = (let view = written_view made c.args.body.now refl c.store_record.new.seat.me.0 stored in search rules);
      refused = search rules;
      keeps = record {
        holdings = record { claims = keeps_claims _ claims; shares = left.shares };
        open_claims = left.open_claims;
      };
    }
