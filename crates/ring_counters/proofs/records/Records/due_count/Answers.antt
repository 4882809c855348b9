use Rattle.std.proofs.Common.{ℕ, ◌+◌, ◌<◌, ◌≤◌, ◌∙◌, sym, ap, arith, length, take_all, count_by}
use Rattle.std.proofs.lemmas.List.Sums.{count_by_more_yes, count_by_more_no}
use Rattle.ring_counters.{specs.Registry.status_at, specs.Registry.is_due, proofs.AvailableLemmas.queue_few}
use Rattle.ring_counters.proofs.ShownLemmas.{shows, shown_queue, queued_inside, queued_due, queued_not_due}
use Rattle.ring_counters.proofs.records.Records.due_count.Goals as goal
use Rattle.ring_counters.proofs.records.Records.due_count.Goals.{then-deadline-now, else-deadline-now}

pub index-requires-in-loop-at : goal.index-requires-in-loop-at
index-requires-in-loop-at c =
    let s = shows c.self.view_is c.self.invariant in
    let less : c.loop-at.at < length c.args.self.now.freed =
    omega (arith, ap length (shown_queue s), c.len-at-end.ensures, c.loop-at-test.true) in
    omega (arith, queued_inside s _ _ less c.index.ensures, c.self.inside.metadata.ok.0)

pub overflow_add-due : goal.overflow_add-due
overflow_add-due c =
    let s = shows c.self.view_is c.self.invariant in
    record {
      fits = omega (
        arith,
        queue_few s,
        ap length (shown_queue s),
        c.len-at-end.ensures,
        c.loop-at-test.true,
        c.loop-at.invariant.1,
      );
    }

pub loop-at-preserved : goal.loop-at-preserved
loop-at-preserved c =
    let s = shows c.self.view_is c.self.invariant in
    let freed = c.args.self.now.freed in
    let due = λ (id : ℕ). is_due c.args.now (status_at c.args.self.now id) in
    let less : c.loop-at.at < length freed =
    omega (arith, ap length (shown_queue s), c.len-at-end.ensures, c.loop-at-test.true) in
    elim c.if-deadline-now.branch [
      | then-deadline-now w ↦
          let is = queued_due s _ _ less c.index.ensures c.args.now _ c.index-in-loop-at.ensures
          (omega (arith, c.deadline.ensures, w.if-deadline-now.true)) in
          let more = count_by_more_yes due freed c.loop-at.at 0 less is in
          (w.due-is ∙ ap (λ n. n + 1) c.loop-at.invariant.0 ∙ sym more, omega (arith, w.due-is, c.loop-at.invariant.1))
      | else-deadline-now w ↦
          let is = queued_not_due s _ _ less c.index.ensures c.args.now _ c.index-in-loop-at.ensures
          (omega (arith, c.deadline.ensures, w.if-deadline-now.false)) in
          let more = count_by_more_no due freed c.loop-at.at 0 less is in
          (w.due-is ∙ c.loop-at.invariant.0 ∙ sym more, omega (arith, w.due-is, c.loop-at.invariant.1))
    ]

pub returns-clause-count : goal.returns-clause-count
returns-clause-count c =
    let s = shows c.self.view_is c.self.invariant in
    let freed = c.args.self.now.freed in
    let due = λ (id : ℕ). is_due c.args.now (status_at c.args.self.now id) in
    let past : length freed ≤ c.loop-at.at =
    omega (arith, ap length (shown_queue s), c.len-at-end.ensures, c.loop-at-test.false) in
    c.loop-at.invariant.0 ∙ ap (count_by due) (take_all c.loop-at.at freed past)

pub returns-clause-most : goal.returns-clause-most
returns-clause-most c =
    let s = shows c.self.view_is c.self.invariant in
    omega (
      arith,
      queue_few s,
      ap length (shown_queue s),
      c.len-at-end.ensures,
      c.loop-at.auto.at-end,
      c.loop-at.invariant.1,
    )
