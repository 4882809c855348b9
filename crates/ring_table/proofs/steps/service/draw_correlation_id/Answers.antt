use Rattle.std.proofs.Common.{◌≡◌, ◌+◌, ◌%◌, ◌^◌, arith, refl}
use Rattle.ring_table.{specs.ServiceSteps.DrawsId, proofs.MarkSteps.same_reader}
use Rattle.ring_table.proofs.{Calls.same_seat, Calls.trailer_step, Calls.leaves_same, Calls.of_as, ServeLemmas.draws_id}
use Rattle.ring_table.proofs.steps.service.draw_correlation_id.Goals as goal

pub fetch_add-requires : goal.fetch_add-requires
fetch_add-requires g c = trailer_step g.M.Mode.bodies c.requires.seat _ 64 (omega arith) c.trailer_word.ensures (λ n. (n + 1) % 2 ^ 64)
    (λ _ me n me'. (me'.1 ≡ me.1) × DrawsId me.0 n me'.0)
    (λ _ _ t _ _ _. (t.0, leaves_same g.M.Mode.bodies t.1.view refl refl refl (same_reader refl)))
    (draws_id g.M.Mode.bodies c.args.capacity c.args.ring.now.key.start _ _ c.args.producer.now.me c.requires.share)

pub returns-clause-seat : goal.returns-clause-seat
returns-clause-seat g c =
    let h = c.fetch_add.ensures in
    same_seat h.0 h.1 h.2.0 (of_as h.2.1.view refl refl)
