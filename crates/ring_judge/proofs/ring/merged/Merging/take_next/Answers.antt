use Rattle.std.proofs.Common.{◌≡◌, ◌<◌, ◌++◌, set, sym, ap, ◌∙◌, subst, arith, heap_items, heap_len}
use Rattle.ring_judge.{specs.Lists.lists_of, proofs.MergeLemmas.fewer_left}
use Rattle.ring_judge.specs.Merged.{AddsTurn, AreMerged, HaveTurns, block_of, left_in}
use Rattle.ring_judge.proofs.TurnLemmas.{IsPopped, turn_dropped, turn_taken, turn_within}
use Rattle.ring_judge.proofs.ring.merged.Merging.take_next.Goals as goal

pub returns-in_ok-add_turn-clause-merging : goal.returns-in_ok-add_turn-clause-merging
returns-in_ok-add_turn-clause-merging c = let its = c.requires.merging in let x = c.in-Some.field-0 in
    let lists = lists_of c.args.lists.now in let old = c.args.self.now in let end = c.in-Some-end_of_turn.end in
    let popped : IsPopped (heap_items old.turns) x (heap_items c.pop.new.self) = record {
      same = c.in-Some.ensures.permutation;
      greatest = c.in-Some.ensures.below_top its.turns.ordered;
    } in
    let heap = (c.in-Some.ensures.heap_order its.turns.ordered).0 in
    let to = c.in_ok-take_to.ensures in let add = c.in_ok-add_turn.ensures in
    let adds : AddsTurn lists (set old.taken.items x.0.1 end) x.0.1 (heap_items c.pop.new.self)
    (heap_items c.add_turn.new.self.turns) =
    subst (λ taken. AddsTurn lists taken x.0.1 (heap_items c.pop.new.self) (heap_items c.add_turn.new.self.turns))
    to.taken
    (subst (λ heap. AddsTurn lists c.take_to.new.self.taken.items x.0.1 (heap_items heap)
    (heap_items c.add_turn.new.self.turns)) to.turns add.turn) in
    let taken = turn_taken lists old.taken.items old.lines.items (heap_items old.turns) (heap_items c.pop.new.self)
    (heap_items c.add_turn.new.self.turns) x c.in-Some-end_of_turn.end c.requires.lists
    its.merged its.turns popped heap c.in-Some-end_of_turn.ensures adds in
    let same : set old.taken.items x.0.1 end ≡ c.add_turn.new.self.taken.items =
    sym (ap (λ v. v.items) add.taken ∙ to.taken) in
    let lines : old.lines.items ++ block_of lists old.taken.items x.0.1 end ≡ c.add_turn.new.self.lines.items =
    sym (ap (λ v. v.items) add.lines ∙ to.lines) in
    record {
      merged = subst (λ ls. AreMerged lists c.add_turn.new.self.taken.items ls) lines
          (subst (λ ns. AreMerged lists ns (old.lines.items ++ block_of lists old.taken.items x.0.1 end)) same
          taken.0);
      turns = subst (λ ns. HaveTurns lists ns (heap_items c.add_turn.new.self.turns)) same taken.1;
    }

pub returns-in_ok-add_turn-clause-more : goal.returns-in_ok-add_turn-clause-more
returns-in_ok-add_turn-clause-more c = let its = c.requires.merging in let x = c.in-Some.field-0 in
    let lists = lists_of c.args.lists.now in let old = c.args.self.now in let next = c.in-Some-end_of_turn.ensures in
    let popped : IsPopped (heap_items old.turns) x (heap_items c.pop.new.self) = record {
      same = c.in-Some.ensures.permutation;
      greatest = c.in-Some.ensures.below_top its.turns.ordered;
    } in
    let to = c.in_ok-take_to.ensures in let add = c.in_ok-add_turn.ensures in
    let within = turn_within lists old.taken.items (heap_items old.turns) (heap_items c.pop.new.self) x its.turns popped
    in
    let fewer = fewer_left lists old.taken.items x.0.1 c.in-Some-end_of_turn.end its.merged.same within
    (omega (arith, next.after)) (omega (arith, next.within)) in
    let same : set old.taken.items x.0.1 c.in-Some-end_of_turn.end ≡ c.add_turn.new.self.taken.items =
    sym (ap (λ v. v.items) add.taken ∙ to.taken) in
    let popped_len = c.in-Some.ensures.len in let len = ap (λ h. heap_len h) to.turns in
    omega (arith, subst (λ ns. left_in lists ns < left_in lists old.taken.items) same fewer, add.len, len, popped_len)

pub returns-in_default-end_of_turn-clause-merging : goal.returns-in_default-end_of_turn-clause-merging
returns-in_default-end_of_turn-clause-merging c = let its = c.requires.merging in let x = c.in-Some.field-0 in
    let lists = lists_of c.args.lists.now in let old = c.args.self.now in
    let popped : IsPopped (heap_items old.turns) x (heap_items c.pop.new.self) = record {
      same = c.in-Some.ensures.permutation;
      greatest = c.in-Some.ensures.below_top its.turns.ordered;
    } in
    let heap = (c.in-Some.ensures.heap_order its.turns.ordered).0 in
    record {
      merged = its.merged;
      turns = turn_dropped lists old.taken.items (heap_items old.turns) (heap_items c.pop.new.self) x its.turns popped
          heap c.in_default-end_of_turn.ensures;
    }
