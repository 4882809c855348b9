use Rattle.std.proofs.Common.{◌∙◌, sym, subst, ap}
use Rattle.ring_counters.specs.{Registry.Registry, Registry.count_of, Agree.Agree}
use Rattle.ring_counters.proofs.AgreeLemmas.{agree_closed, count_closed}
use Rattle.ring_counters.proofs.manager.CountersManager.close_owner.Goals as goal

pub invariant_of-self : goal.invariant_of-self
invariant_of-self c =
    let old = c.args.self.now in
    record {
      agree = subst (λ (r : Registry). Agree r old.writer.seat.me.0.seen) (sym c.close.ensures.changes)
          (agree_closed old.records c.args.now c.args.owner old.writer.seat.me.0.seen old.agree);
      counts = old.counts ∙ sym (ap (λ (r : Registry). count_of r) c.close.ensures.changes
          ∙ count_closed old.records c.args.now c.args.owner);
    }
