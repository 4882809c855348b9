use Rattle.std.proofs.Common.{◌∙◌, refl, sym, ap, w32}
use Rattle.std.specs.Int.{cast_signed, cast_unsigned}
use Rattle.atomic_table.specs.Seated.{TableId}
use Rattle.ring_counters.specs.{Counter.Counter, Registry.Registry, Registry.new_counter}
use Rattle.ring_counters.proofs.AgreeLemmas.{agree_stored, count_stored}
use Rattle.ring_counters.proofs.manager.CountersManager.allocate_owned.Goals as goal

pub invariant_of-self : goal.invariant_of-self
invariant_of-self c =
    let old = c.args.self.now in
    let is : Counter = new_counter (cast_signed w32 (cast_unsigned w32 c.args.type_id)) c.args.key.now c.args.label.now
    c.args.registration c.args.owner in
    let some = c.in-Some.ensures.some in
    let stored = ap (λ (r : Registry). r.counters) some.1 in
    record {
      agree = agree_stored old.records c.allocate.new.self c.in-Some.id is stored old.writer.seat.me.0.seen
          c.store.new.writer.seat.me.0.seen _ old.agree
          some.0 refl c.store.ensures.writes;
      counts = ap (λ (t : TableId). t.words) (c.store.ensures.writer ∙ sym c.requires) ∙ old.counts
          ∙ sym (count_stored old.records c.allocate.new.self c.in-Some.id is stored);
    }
