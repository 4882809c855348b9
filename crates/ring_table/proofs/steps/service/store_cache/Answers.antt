use Rattle.std.proofs.Common.{◌≡◌, arith, refl}
use Rattle.ring_table.proofs.{MarkSteps.same_reader, ServeLemmas.stores_cache}
use Rattle.ring_table.proofs.Calls.{same_seat, trailer_step, leaves_same, of_as}
use Rattle.ring_table.proofs.steps.service.store_cache.Goals as goal

pub store-requires : goal.store-requires
store-requires g c = trailer_step g.M.Mode.bodies c.requires.seat _ 32 (omega arith) c.trailer_word.ensures (λ _. c.args.head)
    (λ _ me _ me'. (me'.1 ≡ me.1) × (me'.0 ≡ me.0))
    (λ _ _ t _ _ _. (t.0, leaves_same g.M.Mode.bodies t.1 refl refl refl (same_reader refl)))
    (stores_cache g.M.Mode.bodies c.args.capacity c.args.ring.now.key.start _ _ c.args.head c.args.producer.now.me c.requires.seen)

pub returns-clause-seat : goal.returns-clause-seat
returns-clause-seat g c = let h = c.store.ensures in same_seat h.0 h.1 h.2.0 (of_as h.2.1 refl refl)
