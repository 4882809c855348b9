use Rattle.std.proofs.Common.{◌∙◌, sym, refl, ap, w64}
use Rattle.std.specs.Int.{cast_signed, cast_unsigned}
use Rattle.atomic_table.specs.Seated.{TableId}
use Rattle.ring_counters.specs.{Counter.Counter, Registry.Registry, Registry.counter_at}
use Rattle.ring_counters.proofs.AgreeLemmas.{agree_stored, count_stored, accepted_inside}
use Rattle.ring_counters.proofs.manager.CountersManager.set.Goals as goal

pub invariant_of-self : goal.invariant_of-self
invariant_of-self c =
    let old = c.args.self.now in
    let was = counter_at old.records c.args.id in
    let is : Counter =
    record was { values = record was.values { value = cast_signed w64 (cast_unsigned w64 c.args.value) } } in
    let stored = ap (λ (r : Registry). r.counters) c.set.ensures in
    record {
      agree = agree_stored old.records c.set.new.self c.args.id is stored old.writer.seat.me.0.seen
          c.store.new.writer.seat.me.0.seen _ old.agree
          (accepted_inside old.records c.args.id c.in_ok-check_allocated.ensures) refl c.store.ensures.writes;
      counts = ap (λ (t : TableId). t.words) (c.store.ensures.writer ∙ sym c.requires) ∙ old.counts
          ∙ sym (count_stored old.records c.set.new.self c.args.id is stored);
    }
