use Rattle.std.proofs.Common.{◌≡◌, ◌∙◌, sym, length, arith, subst, false, ltb-false}
use Rattle.ring_judge.specs.{Ring.is_open, Judged.IsBehind, Judged.IsLeastHead}
use Rattle.ring_judge.proofs.HeadLemmas.{first_kept, not_behind, least_at_start, least_at_place, least_at_end, none_at_end, none_at_open}
use Rattle.ring_judge.proofs.ring.heads.least_head.Goals as goal

pub returns-then-tail-start : goal.returns-then-tail-start
returns-then-tail-start c = least_at_start c.args.capacity c.args.start c.args.tail c.args.claims.now c.requires.order
    (omega (arith, c.if-tail-start.true, c.from.ensures))

pub returns-in_default : goal.returns-in_default
returns-in_default c = λ at can room.
    none_at_end c.args.capacity c.args.start c.args.tail c.args.low at c.args.claims.now
    record {
      order = c.requires.order;
      start_behind = omega (arith, c.if-tail-start.false, c.from.ensures);
      behind = c.requires.behind;
    }
    (ltb-false c.args.low (length c.args.claims.now) (sym c.in_default.ensures.lookup.0)) can room

pub returns-then-tail-claim : goal.returns-then-tail-claim
returns-then-tail-claim c = let claim = c.in-Some.claim.now in let found = c.in-Some.ensures.lookup in
    least_at_place c.args.capacity c.args.start c.args.tail c.args.low c.args.claims.now claim
    record {
      order = c.requires.order;
      start_behind = omega (arith, c.if-tail-start.false, c.from.ensures);
      behind = c.requires.behind;
    }
    (first_kept c.args.claims.now c.args.low claim found.3.0 (found.3.1 claim))
    (omega (arith, c.if-tail-claim.true, c.from-2.ensures))

pub returns-then-is_open : goal.returns-then-is_open
returns-then-is_open c = let claim = c.in-Some.claim.now in let found = c.in-Some.ensures.lookup in λ at can room.
    none_at_open c.args.capacity c.args.start c.args.tail c.args.low at c.args.claims.now claim
    record {
      order = c.requires.order;
      start_behind = omega (arith, c.if-tail-start.false, c.from.ensures);
      behind = c.requires.behind;
    }
    (first_kept c.args.claims.now c.args.low claim found.3.0 (found.3.1 claim))
    (sym c.is_open.ensures ∙ c.if-is_open.true) (omega (arith, c.if-tail-claim.false, c.from-2.ensures)) can room

pub returns-else-is_open : goal.returns-else-is_open
returns-else-is_open c = let claim = c.in-Some.claim.now in let found = c.in-Some.ensures.lookup in
    let settled : is_open claim.fate ≡ false = sym c.is_open.ensures ∙ c.if-is_open.false in
    subst (IsLeastHead c.args.capacity c.args.start c.args.tail c.args.claims.now) (sym c.end_of_claim.ensures)
    (least_at_end c.args.capacity c.args.start c.args.tail c.args.low c.args.claims.now claim
    record {
      order = c.requires.order;
      start_behind = omega (arith, c.if-tail-start.false, c.from.ensures);
      behind = c.requires.behind;
    }
    (first_kept c.args.claims.now c.args.low claim found.3.0 (found.3.1 claim)) settled
    (omega (arith, c.if-tail-claim.false, c.from-2.ensures))
    (not_behind c.args.capacity c.args.tail claim settled (λ is. c.requires.stops claim found.3.0
    (subst (IsBehind c.args.capacity c.args.tail) (found.3.1 claim) is))))
