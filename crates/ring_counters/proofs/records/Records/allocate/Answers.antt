use Rattle.std.proofs.Common.{◌≡◌, ◌∙◌, sym, ap, Some}
use Rattle.ring_counters.specs.Registry.{without}
use Rattle.ring_counters.proofs.ShownLemmas.{next_due, without_due, next_unused}
use Rattle.ring_counters.proofs.records.Records.allocate.Goals as goal

pub returns-in-Some-clause-id : goal.returns-in-Some-clause-id
returns-in-Some-clause-id c =
    let id : Some c.reuse.result ≡ Some _ = ap (λ k. Some k) c.reuse.ensures.id in
    id ∙ sym (next_due c.args.self.now c.args.now c.in-Some.at (sym c.in-Some.ensures))

pub returns-in-Some-clause-some : goal.returns-in-Some-clause-some
returns-in-Some-clause-some c =
    let queue = c.reuse.ensures.queue ∙ without_due c.args.self.now c.args.now c.in-Some.at (sym c.in-Some.ensures)
    ∙ ap (λ k. without k c.args.self.now.freed) (sym c.reuse.ensures.id) in (
      c.reuse.ensures.inside,
      λ i. record {
        counters = c.reuse.ensures.changes i;
        freed = queue i;
        reuse_ms =
            c.reuse.ensures.timeout i;
      },
    )

pub returns-in-Some-first_unused-clause-id : goal.returns-in-Some-first_unused-clause-id
returns-in-Some-first_unused-clause-id c =
    c.in-Some-first_unused.ensures.id ∙ sym (next_unused c.args.self.now c.args.now (sym c.in-None.ensures))

pub returns-in-None-first_unused-clause-id : goal.returns-in-None-first_unused-clause-id
returns-in-None-first_unused-clause-id c =
    c.in-None-first_unused.ensures.id ∙ sym (next_unused c.args.self.now c.args.now (sym c.in-None.ensures))
