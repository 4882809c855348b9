use Rattle.std.proofs.Common.{ℕ, ◌<◌, ◌≤◌, sym, ap, arith, length, below_more}
use Rattle.ring_counters.specs.{Counter.deadline_of, Registry.status_at, Registry.is_due}
use Rattle.ring_counters.proofs.ShownLemmas.{shows, shown_queue, queued_inside, queued_due, queued_not_due, rest_not_due, position_some, position_none}
use Rattle.ring_counters.proofs.records.Records.first_due.Goals as goal

pub index-requires-in-loop-at : goal.index-requires-in-loop-at
index-requires-in-loop-at c =
    let s = shows c.self.view_is c.self.invariant in
    let less : c.loop-at.at < length c.args.self.now.freed =
    omega (arith, c.reach-at-end.ensures.most, c.loop-at-test.true) in
    omega (arith, queued_inside s _ _ less c.index.ensures, c.self.inside.metadata.ok.0)

pub returns-then-deadline-now : goal.returns-then-deadline-now
returns-then-deadline-now c =
    let s = shows c.self.view_is c.self.invariant in
    let less : c.loop-at.at < length c.args.self.now.freed =
    omega (arith, c.reach-at-end.ensures.most, c.loop-at-test.true) in
    let due : deadline_of c.index-in-loop-at.result.now.status ≤ c.args.now =
    omega (arith, c.deadline.ensures, c.if-deadline-now.true) in
    sym (position_some (λ id. is_due c.args.now (status_at c.args.self.now id)) c.args.self.now.freed 0 c.loop-at.at
    less c.loop-at.invariant
    (queued_due s _ _ less c.index.ensures c.args.now _ c.index-in-loop-at.ensures due))

pub loop-at-preserved : goal.loop-at-preserved
loop-at-preserved c =
    let s = shows c.self.view_is c.self.invariant in
    let less : c.loop-at.at < length c.args.self.now.freed =
    omega (arith, c.reach-at-end.ensures.most, c.loop-at-test.true) in
    let later : c.args.now < deadline_of c.index-in-loop-at.result.now.status =
    omega (arith, c.deadline.ensures, c.if-deadline-now.false) in
    below_more _ _ c.loop-at.invariant
    (queued_not_due s _ _ less c.index.ensures c.args.now _ c.index-in-loop-at.ensures later)

pub returns : goal.returns
returns c =
    let s = shows c.self.view_is c.self.invariant in
    let size = ap length (shown_queue s) in
    sym (position_none (λ id. is_due c.args.now (status_at c.args.self.now id)) c.args.self.now.freed 0
    (rest_not_due s c.args.now c.reach-at-end.result
    (λ some. c.reach-at-end.ensures.some (omega arith)) c.reach-at-end.ensures.later
    (λ (k : ℕ) (less : k < c.reach-at-end.result). c.loop-at.invariant k (omega (arith, c.loop-at-test.false)))))
