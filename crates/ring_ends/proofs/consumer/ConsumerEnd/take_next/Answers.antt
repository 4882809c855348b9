use Rattle.std.proofs.Common.{rules}
use Rattle.ring_ends.proofs.{EndLemmas.one_ring, TakeLemmas.received_any, TakeLemmas.taken_twice}
use Rattle.ring_ends.proofs.consumer.ConsumerEnd.take_next.Goals as goal

pub returns-then-eq-clause-does : goal.returns-then-eq-clause-does
returns-then-eq-clause-does g c =
    let one = c.take_one-stopped in
    let two = c.take_one in (
      one_ring c.args.self.now one.new.self two.new.self one.ensures.does.0 two.ensures.does.0,
      taken_twice _ _ _ _ _ (search rules) _ _ (search rules) one.ensures.does.1 two.ensures.does.1,
    )

pub returns-then-eq-clause-received : goal.returns-then-eq-clause-received
returns-then-eq-clause-received g c =
    received_any c.args.self.now c.take_one.new.self _ _ (returns-then-eq-clause-does g c).1.1

pub returns-else-not-taking-clause-received : goal.returns-else-not-taking-clause-received
returns-else-not-taking-clause-received g c =
    received_any c.args.self.now c.take_one-stopped.new.self _ _ c.take_one-stopped.ensures.does.1.1
