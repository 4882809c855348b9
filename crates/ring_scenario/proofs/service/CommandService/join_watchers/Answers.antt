use Rattle.std.proofs.Common.{◌∙◌, ◌+◌, ◌<◌, ℕ, length, arith}
use Rattle.ring_scenario.specs.Watchers.{Unwatches}
use Rattle.ring_ends.{specs.Held.held_in, proofs.HeldLemmas.all_back, proofs.HeldLemmas.given_up}
use Rattle.ring_scenario.proofs.service.CommandService.join_watchers.Goals as goal

pub loop-index-preserved : goal.loop-index-preserved
loop-index-preserved c =
    let was = c.loop-index.invariant in
    let xs = held_in c.loop-index.self.watchers in
    let ys = held_in c.unwatch.new.self.watchers in
    let i : ℕ = c.loop-index.index in
    let keeps = c.unwatch.ensures.keeps in
    let inside : i < length xs = omega (arith, was.0, c.loop-index-test.true) in
    let step =
    given_up c.unwatch.result xs ys i (Unwatches c.loop-index.self.watchers (i + 1) c.unwatch.new.self.watchers)
    c.unwatch.ensures.same c.unwatch.ensures.left (λ left. left.goes.given_up) c.unwatch.ensures.free (inside, was.1)
    in (
      step.0 ∙ was.0,
      step.1,
      record {
        counters = record {
          manager = keeps.counters.manager;
          registry = keeps.counters.registry ∙ was.2.counters.registry;
          writes = keeps.counters.writes ∙ was.2.counters.writes;
        };
        seats = record {
          consumer = keeps.seats.consumer ∙ was.2.seats.consumer;
          transmitter = keeps.seats.transmitter ∙ was.2.seats.transmitter;
        };
      },
      (c.unwatch.ensures.rest.0.0 ∙ was.3.0, c.unwatch.ensures.rest.1 ∙ was.3.1),
    )

pub returns-clause-shares : goal.returns-clause-shares
returns-clause-shares c =
    let left = c.loop-index.invariant in
    all_back _ _ _ _ _ left.0 c.loop-index-test.false left.1 c.loop-index.self.value_shares
