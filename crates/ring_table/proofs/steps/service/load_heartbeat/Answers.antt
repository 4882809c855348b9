use Rattle.std.proofs.Common.{◌≡◌, arith, refl}
use Rattle.ring_table.specs.{Views.Logs, ServiceSteps.LoadsHeartbeat}
use Rattle.ring_table.proofs.{MarkSteps.same_reader, ServeLemmas.loads_heartbeat}
use Rattle.ring_table.proofs.Calls.{same_seat, trailer_step, leaves_same, of_as}
use Rattle.ring_table.proofs.steps.service.load_heartbeat.Goals as goal

pub load-requires : goal.load-requires
load-requires g c = trailer_step g.M.Mode.bodies c.requires.seat _ 80 (omega arith) c.trailer_word.ensures (λ n. n)
    (λ k me n me'. (me'.1 ≡ me.1) × LoadsHeartbeat me.0.capacity me.0 n me'.0 × Logs k n me.0 me'.0)
    (λ _ _ t _ _ _. (t.0, leaves_same g.M.Mode.bodies t.1.view refl refl refl (same_reader refl)))
    (loads_heartbeat g.M.Mode.bodies c.args.capacity c.args.ring.now.key.start _ _ c.args.producer.now.me c.requires.seat.view_is
    c.requires.share)

pub returns-clause-seat : goal.returns-clause-seat
returns-clause-seat g c = let h = c.load.ensures in same_seat h.0 h.1 h.2.0 (of_as h.2.1.view refl refl)
