use Rattle.std.proofs.Common.{◌∙◌, ◌+◌, ◌<◌, ℕ, length, arith}
use Rattle.ring_service.specs.Conducting.{transmitter_of}
use Rattle.ring_ends.specs.{Receivers.LeavesAt, Receivers.by_number, Held.held_in}
use Rattle.ring_ends.proofs.HeldLemmas.{all_back, given_up}
use Rattle.ring_scenario.proofs.service.CommandService.join_listeners.Goals as goal

pub loop-index-preserved : goal.loop-index-preserved
loop-index-preserved c =
    let was = c.loop-index.invariant in
    let xs = held_in c.loop-index.self.listeners in
    let ys = held_in c.dismiss.new.self.listeners in
    let i : ℕ = c.loop-index.index in
    let inside : i < length xs = omega (arith, was.0, c.loop-index-test.true) in
    let step = given_up c.dismiss.result xs ys i
    (LeavesAt (by_number (transmitter_of c.loop-index.self.conductor) c.loop-index.self.listeners) (i + 1)
    (by_number (transmitter_of c.dismiss.new.self.conductor) c.dismiss.new.self.listeners))
    c.dismiss.ensures.same c.dismiss.ensures.left (λ left. left.goes.given_up) c.dismiss.ensures.free (inside, was.1)
    in (
      step.0 ∙ was.0,
      step.1,
      record {
        consumer = c.dismiss.ensures.others.consumer
            ∙ was.2.consumer;
        counters = c.dismiss.ensures.others.counters ∙ was.2.counters;
      },
      (c.dismiss.ensures.rest.0.0 ∙ was.3.0, c.dismiss.ensures.rest.1 ∙ was.3.1),
    )

pub returns-clause-shares : goal.returns-clause-shares
returns-clause-shares c =
    let left = c.loop-index.invariant in
    all_back _ _ _ _ _ left.0 c.loop-index-test.false left.1 c.loop-index.self.shares
