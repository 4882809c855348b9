use Rattle.std.proofs.Common.{◌≡◌, arith, refl}
use Rattle.ring_table.{specs.ProducerSteps.MovesOwnTail, proofs.ClaimLemmas.moves_own_tail}
use Rattle.ring_table.proofs.Calls.{same_seat, trailer_step, leaves_claim, of_as}
use Rattle.ring_table.proofs.steps.producer.store_tail.Goals as goal

pub store-requires : goal.store-requires
store-requires g c = trailer_step g.M.Mode.bodies c.requires.seat _ 16 (omega arith) c.trailer_word.ensures (λ _. c.args.new)
    (λ _ me _ me'. (me'.1 ≡ me.1) × MovesOwnTail me.0.capacity c.args.new me.0 me'.0)
    (λ _ _ t _ _ _. (t.0, leaves_claim g.M.Mode.bodies _ _ _ _ _ t.1.view))
    (moves_own_tail g.M.Mode.bodies c.args.capacity c.args.ring.now.key.start _ _ c.args.producer.now.me c.requires.seat.view_is
    c.args.new c.args.wanted.type_id c.args.wanted.len c.requires.sole c.requires.room)

pub returns-clause-seat : goal.returns-clause-seat
returns-clause-seat g c = let h = c.store.ensures in same_seat h.0 h.1 h.2.0 (of_as h.2.1.view refl refl)
