use Rattle.std.proofs.Common.{◌≡◌, arith, refl}
use Rattle.ring_table.specs.{Views.Logs, ProducerSteps.LoadsHead}
use Rattle.ring_table.proofs.{MarkSteps.same_reader, LoadLemmas.loads_head}
use Rattle.ring_table.proofs.Calls.{same_seat, trailer_step, leaves_same, of_as}
use Rattle.ring_table.proofs.steps.producer.load_head.Goals as goal

pub load-requires : goal.load-requires
load-requires g c = trailer_step g.M.Mode.bodies c.requires _ 48 (omega arith) c.trailer_word.ensures (λ n. n)
    (λ k me n me'. (me'.1 ≡ me.1) × LoadsHead me.0.capacity me.0 n me'.0 × Logs k n me.0 me'.0)
    (λ _ _ t _ _ _. (t.0, leaves_same g.M.Mode.bodies t.1.view refl refl refl (same_reader refl)))
    (loads_head g.M.Mode.bodies c.args.capacity c.args.ring.now.key.start _ _ c.args.producer.now.me c.requires.view_is)

pub returns-clause-seat : goal.returns-clause-seat
returns-clause-seat g c = let h = c.load.ensures in same_seat h.0 h.1 h.2.0 (of_as h.2.1.view refl refl)
