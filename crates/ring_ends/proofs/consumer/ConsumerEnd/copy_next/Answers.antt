use Rattle.std.proofs.Common.{rules}
use Rattle.ring_ends.proofs.{CopyLemmas.copied_twice, EndLemmas.one_ring}
use Rattle.ring_ends.proofs.consumer.ConsumerEnd.copy_next.Goals as goal

pub returns-then-eq-2 : goal.returns-then-eq-2
returns-then-eq-2 g c =
    let one = c.try_copy-found in
    let two = c.try_copy in
    record {
      does = (
        one_ring c.args.self.now one.new.self two.new.self one.ensures.does.0 two.ensures.does.0,
        copied_twice c.args.takes _ _ _ _ _ _ _ _ (search rules) _ _ (search rules) one.ensures.does.1 two.ensures.does.1,
      );
    }
