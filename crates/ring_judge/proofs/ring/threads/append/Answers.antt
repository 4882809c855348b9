use Rattle.std.proofs.Common.{◌<◌, ◌++◌, ◌∷◌, [], length, ap, ◌∙◌, sym, arith}
use Rattle.ring_judge.proofs.ListLemmas.{lists_of-set, lists_of-at}
use Rattle.ring_judge.proofs.ring.threads.append.Goals as goal

pub returns-clause-lists : goal.returns-clause-lists
returns-clause-lists c =
    let lt : c.args.at < length c.args.lists.now.items = omega (arith, c.args.lists.now.ok.0) in
    let at = lists_of-at c.args.lists.now.items c.args.at c.index_mut.result.now lt c.index_mut.ensures.value in
    lists_of-set c.args.lists.now.items c.args.at c.push.new.self _
    (c.in_ok-push.ensures.items ∙ ap (λ l. l ++ c.args.line ∷ []) (sym at))
