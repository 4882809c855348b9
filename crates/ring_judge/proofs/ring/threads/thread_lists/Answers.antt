use Rattle.std.proofs.Common.{◌<◌, ◌∙◌, ◌∷◌, ◌++◌, [], List, Vec, Global, ap, get_or, set, length, arith}
use Rattle.std.proofs.lemmas.List.{length-map}
use Rattle.ring_judge.specs.{declared.ring.order.NumberedLine.NumberedLine, Lists.lists_of, Threads.thread_of}
use Rattle.ring_judge.proofs.{StepLemmas.past, ThreadLemmas.list_more}
use Rattle.ring_judge.proofs.ring.threads.thread_lists.Goals as goal

pub loop-at-preserved : goal.loop-at-preserved
loop-at-preserved c = let run = c.args.run.now in let k = c.loop-at.at in let lt = c.loop-at-test.true in
    let lists = lists_of c.loop-at.lists.items in let line = get_or run k past in
    let l : NumberedLine = record { at = k; line = line } in
    let below : thread_of line < c.args.count = c.requires k past lt in
    let within : thread_of line < length lists =
    omega (
      arith,
      below,
      c.loop-at.invariant.same,
      c.loop-at.lists.ok.0,
      length-map c.loop-at.lists.items (λ (v : Vec NumberedLine Global). v.items),
    ) in
    record {
      same = c.in_ok-append.ensures.length ∙ c.loop-at.invariant.same;
      lists = λ t. ap (λ (ls : List (List NumberedLine)). get_or ls t []) (c.in_ok-append.ensures.lists
          ∙ ap (λ s. set lists s (get_or lists s [] ++ l ∷ [])) c.thread_of.ensures.number)
          ∙ list_more lists run k past lt within c.loop-at.invariant.lists t;
    }
