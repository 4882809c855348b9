use Rattle.std.proofs.Common.{◌∷◌, ◌+◌, ◌∙◌, ap, arith, length, sym}
use Rattle.ring_counters.specs.Registry.{live_from}
use Rattle.ring_counters.proofs.ListingLemmas.{live_here, live_behind, none_left}
use Rattle.ring_counters.proofs.calls.list.LiveCountersIterator.next.Goals as goal

pub returns-then-is_live-clause-steps : goal.returns-then-is_live-clause-steps
returns-then-is_live-clause-steps c =
    let r = c.loop-self.self-inside.records.now in
    let id = c.loop-self.self-inside.next in
    sym c.loop-self.invariant ∙ live_here r id (omega (arith, c.used.ensures.most, c.loop-self-test.true))
    (sym c.is_live.ensures ∙ c.if-is_live.true)
    ∙ (λ i. (id, record { metadata = sym c.metadata.ensures i; values = sym c.values.ensures i })
    ∷ live_from r (id + 1))

pub returns-then-is_live-clause-goes : goal.returns-then-is_live-clause-goes
returns-then-is_live-clause-goes c =
    let shorter = ap length (returns-then-is_live-clause-steps c) in
    record { on = λ _. (tt, tt, omega (arith, shorter)); keeps = tt; rests = λ _. tt }

pub loop-self-preserved : goal.loop-self-preserved
loop-self-preserved c =
    sym (live_behind c.loop-self.self-inside.records.now c.loop-self.self-inside.next
    (omega (arith, c.used.ensures.most, c.loop-self-test.true)) (sym c.is_live.ensures ∙ c.if-is_live.false))
    ∙ c.loop-self.invariant

pub returns-clause-steps : goal.returns-clause-steps
returns-clause-steps c =
    let none = none_left c.loop-self.self-inside.records.now c.loop-self.self-inside.next
    (λ k le. c.used.ensures.unused k (omega (arith, c.loop-self-test.false))) in
    (sym c.loop-self.invariant ∙ none, none)
