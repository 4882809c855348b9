use Rattle.std.proofs.Common.{refl, ap, ◌∙◌, arith}
use Rattle.ring_table.{specs.declared.view.View.View, specs.ProducerSteps.Mine, proofs.StagedPlaces.start_aligned}
use Rattle.ring_rings.proofs.ring.Ring.make.Goals as goal

pub invariant_of-producer : goal.invariant_of-producer
invariant_of-producer g c =
    let e = c.split_consumer.ensures in
    let view = c.in_ok-table.ensures.view in
    let start = c.requires.start in
    record {
      known = rw e.left (rw view record {
        shares_are = refl;
        some = omega arith;
        most = omega arith;
        counted = refl;
        rising = tt;
        stored = tt;
        own = λ all. refl;
        whole =
            start_aligned c.args.capacity c.args.start (record { capacity = c.requires.capacity; start_is = start.0 });
        limit = start.1;
      });
      produces = (ap (λ (v : View). v.consumes) e.left, e.seat.slots ∙ ap (λ (m : Mine). m.1) view);
      home = e.seat.out ∙ ap (λ (m : Mine). m.0.out) view;
    }
