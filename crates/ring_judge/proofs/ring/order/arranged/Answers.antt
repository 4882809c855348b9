use Rattle.std.proofs.Common.{◌≡◌, ℕ, List, [], Vec, Global, get_or, sym, subst, ◌∙◌, ap, All}
use Rattle.std.proofs.lemmas.Result.{IfOk-weaker}
use Rattle.ring_judge.specs.{declared.ring.order.NumberedLine.NumberedLine, Histories.EndsLate, Histories.IsBest}
use Rattle.ring_judge.specs.{Lists.lists_of, Merged.IsArranged}
use Rattle.ring_judge.specs.Threads.{KeepsThreads, lines_of, numbered, thread_of}
use Rattle.ring_judge.proofs.{OrderLemmas.arranged_ends, OrderLemmas.arranged_is_best, ThreadLemmas.are_of_thread}
use Rattle.ring_judge.proofs.ring.order.arranged.Goals as goal

pub merged-requires-clause-lists : goal.merged-requires-clause-lists
merged-requires-clause-lists c = λ t. subst
    (λ (xs : List (Vec NumberedLine Global)). All (λ l. thread_of l.line ≡ t) (get_or (lists_of xs) t []))
    (sym c.as_slice.ensures.value) (subst (All (λ l. thread_of l.line ≡ t)) (sym (c.in_ok-lists.ensures.lists t))
    (are_of_thread t (numbered 0 c.args.run.now)))

pub returns-clause-threads : goal.returns-clause-threads
returns-clause-threads c = IfOk-weaker c.merged.result
    (λ lines. (t : ℕ) → lines_of t lines.items ≡ get_or (lists_of c.as_slice.result.now) t [])
    (λ lines. KeepsThreads c.args.run.now lines.items)
    (λ lines are t. are t
    ∙ (ap (λ (xs : List (Vec NumberedLine Global)). get_or (lists_of xs) t []) c.as_slice.ensures.value
    ∙ c.in_ok-lists.ensures.lists t)) c.merged.ensures.threads

pub returns-clause-ends : goal.returns-clause-ends
returns-clause-ends c = IfOk-weaker c.merged.result (λ lines. IsArranged lines.items) (λ lines. EndsLate lines.items)
    (λ lines. arranged_ends lines.items) c.merged.ensures.arranged

pub returns-clause-best : goal.returns-clause-best
returns-clause-best c = IfOk-weaker c.merged.result (λ lines. IsArranged lines.items) (λ lines. IsBest lines.items)
    (λ lines. arranged_is_best lines.items) c.merged.ensures.arranged
