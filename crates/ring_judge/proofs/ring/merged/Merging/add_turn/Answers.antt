use Rattle.std.proofs.Common.{arith, heap_items}
use Rattle.std.proofs.lemmas.List.{length-map}
use Rattle.ring_judge.{specs.Lists.lists_of, proofs.TurnLemmas.adds_turn}
use Rattle.ring_judge.proofs.ring.merged.Merging.add_turn.Goals as goal

pub returns-in_ok-push-clause-turn : goal.returns-in_ok-push-clause-turn
returns-in_ok-push-clause-turn c = let lists = lists_of c.args.lists.now in
    adds_turn lists c.args.self.now.taken.items c.args.thread c.in-Some.field-0-0 c.in-Some.place
    (heap_items c.args.self.now.turns) (heap_items c.push.new.self)
    (omega (arith, c.requires.within, length-map c.args.lists.now (λ v. v.items)))
    c.in-Some.ensures c.in_ok-push.ensures.permutation c.in_ok-push.ensures.heap_order
