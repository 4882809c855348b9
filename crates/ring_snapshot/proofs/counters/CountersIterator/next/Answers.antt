use Rattle.std.proofs.Common.{◌+◌, ◌-◌, length, ap, sym, ◌∙◌, arith}
use Rattle.ring_snapshot.{specs.CounterRecords.or_none, specs.CounterRecords.entries, proofs.CounterLemmas.entries_here}
use Rattle.ring_snapshot.proofs.counters.CountersIterator.next.Goals as goal

pub returns-in-Some-clause-steps : goal.returns-in-Some-clause-steps
returns-in-Some-clause-steps c =
    let it = c.loop-self.self in
    let words = it.counters.metadata.now in
    let values = it.counters.values.now in
    let rest = entries words values (it.counters.ids - (it.next + 1)) (it.next + 1) in
    sym c.loop-self.invariant
    ∙ entries_here words values it.counters.ids it.next (omega (arith, c.loop-self-test.true))
    ∙ ap (λ e. or_none e rest) (sym c.entry.ensures ∙ c.in-Some.is)

pub returns-in-Some-clause-goes : goal.returns-in-Some-clause-goes
returns-in-Some-clause-goes c =
    let shorter = ap length (returns-in-Some-clause-steps c) in
    record { on = λ _. (tt, tt, omega (arith, shorter)); keeps = tt; rests = λ _. tt }

pub loop-self-preserved : goal.loop-self-preserved
loop-self-preserved c =
    let it = c.loop-self.self in
    let words = it.counters.metadata.now in
    let values = it.counters.values.now in
    let rest = entries words values (it.counters.ids - (it.next + 1)) (it.next + 1) in
    sym (entries_here words values it.counters.ids it.next (omega (arith, c.loop-self-test.true))
    ∙ ap (λ e. or_none e rest) (sym c.entry.ensures ∙ c.in_default.is))
    ∙ c.loop-self.invariant
