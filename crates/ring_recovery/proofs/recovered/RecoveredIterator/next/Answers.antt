use Rattle.std.proofs.Common.{rules, length, sym, ap, ◌∙◌}
use Rattle.ring_recovery.proofs.StepLemmas.{finds_message, finds_none}
use Rattle.ring_recovery.proofs.recovered.RecoveredIterator.next.Goals as goal

pub returns-in-Some-clause-steps : goal.returns-in-Some-clause-steps
returns-in-Some-clause-steps c =
    let r = c.loop-self.self in
    sym c.loop-self.invariant
    ∙ finds_message r.capacity r.tail r.at r.words.now r.slots.now r.walk r.aligned c.loop-self-test.true
    c.message_at.result c.found_at-found.result c.found_at-found.ensures (search rules) c.in-Some.message c.in-Some.is

pub returns-in-Some-clause-goes : goal.returns-in-Some-clause-goes
returns-in-Some-clause-goes c = search (rules, ap length (returns-in-Some-clause-steps c))

pub loop-self-preserved : goal.loop-self-preserved
loop-self-preserved c =
    let r = c.loop-self.self in
    sym (finds_none r.capacity r.tail r.at r.words.now r.slots.now r.walk r.aligned c.loop-self-test.true
    c.message_at.result c.found_at-found.result c.found_at-found.ensures (search rules) (search rules))
    ∙ c.loop-self.invariant
