use Rattle.std.proofs.Common.{◌<◌, ◌≤◌, ⊎_elim, inl, inr, arith}
use Rattle.std.proofs.lemmas.{Bool.cases_eq, List.length-map}
use Rattle.ring_judge.{specs.Lists.lists_of, proofs.MergeLemmas.last_taken, proofs.MergeLemmas.takes_rest}
use Rattle.ring_judge.proofs.ring.merged.merged.Goals as goal

pub loop-thread-preserved : goal.loop-thread-preserved
loop-thread-preserved c = let its = c.loop-thread.invariant in let lists = lists_of c.args.lists.now in
    let t = c.loop-thread.thread in
    let rest = takes_rest lists c.loop-thread.merging c.take_rest.new.self (λ u. (1 ≤ u) × (u < t)) t
    c.requires.lists its
    (omega (arith, c.loop-thread-test.true, length-map c.args.lists.now (λ v. v.items)))
    (λ zero. absurd (omega (arith, zero, c.loop-thread.auto.thread))) c.in_ok-take_rest.ensures in
    record {
      merged = rest.merged;
      none = rest.none;
      done = λ u is. rest.done u (⊎_elim (λ e. inr e) (λ ne. inl (is.0, omega (arith, is.1, ne))) (cases_eq u t));
    }

pub returns-clause-threads : goal.returns-clause-threads
returns-clause-threads c = (last_taken (lists_of c.args.lists.now) c.loop-thread.merging c.take_rest-2.new.self
    c.loop-thread.thread c.requires.lists c.loop-thread.invariant
    (omega (arith, c.loop-thread-test.false, length-map c.args.lists.now (λ v. v.items)))
    (omega (arith, c.requires.some, length-map c.args.lists.now (λ v. v.items))) c.in_ok-take_rest-2.ensures).threads

pub returns-clause-arranged : goal.returns-clause-arranged
returns-clause-arranged c = (last_taken (lists_of c.args.lists.now) c.loop-thread.merging c.take_rest-2.new.self
    c.loop-thread.thread c.requires.lists c.loop-thread.invariant
    (omega (arith, c.loop-thread-test.false, length-map c.args.lists.now (λ v. v.items)))
    (omega (arith, c.requires.some, length-map c.args.lists.now (λ v. v.items))) c.in_ok-take_rest-2.ensures).arranged
