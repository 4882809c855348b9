use Rattle.std.proofs.Common.{◌+◌, ◌/◌, ◌≤◌, sym, get_or, arith, subst}
use Rattle.std.proofs.lemmas.{Bool.iff_false, List.drop_more, List.Elements.All-get_or}
use Rattle.ring_judge.proofs.RefusalLemmas.{nowhere}
use Rattle.ring_judge.proofs.WordLemmas.{ArePassed, all_passed, none_passed, not_clear, one_passed, stopped}
use Rattle.ring_judge.proofs.ring.words.clear_to.Goals as goal

pub loop-at-init : goal.loop-at-init
loop-at-init c = none_passed c.args.capacity c.args.read c.args.to c.args.claims.now c.args.from c.requires.within
    c.requires.order c.requires.behind c.requires.forward

pub returns-then-has_header : goal.returns-then-has_header
returns-then-has_header c = let claims = c.args.claims.now in let at = c.loop-at.at in
    let claim = get_or claims at nowhere in let lt = c.loop-at-test.true in
    not_clear c.args.capacity c.args.read c.args.to claims c.args.from at c.loop-at.end claim c.requires.most
    (All-get_or (λ x. x.length ≤ c.args.capacity / 8) claims at nowhere lt c.requires.short) c.loop-at.invariant
    record { lt = lt; is = drop_more claims at nowhere lt } (c.has_header.ensures.0 c.if-has_header.true)

pub returns-then-to-next : goal.returns-then-to-next
returns-then-to-next c = let claims = c.args.claims.now in let at = c.loop-at.at in
    let claim = get_or claims at nowhere in let lt = c.loop-at-test.true in
    stopped c.args.capacity c.args.read c.args.to claims c.args.from at c.loop-at.end claim c.loop-at.invariant
    record { lt = lt; is = drop_more claims at nowhere lt } (iff_false c.has_header.ensures c.if-has_header.false)
    (omega (arith, c.if-to-next.true, c.end_of_claim-next.ensures))

pub loop-at-preserved : goal.loop-at-preserved
loop-at-preserved c = let claims = c.args.claims.now in let at = c.loop-at.at in
    let claim = get_or claims at nowhere in let lt = c.loop-at-test.true in
    let next = one_passed c.args.capacity c.args.read c.args.to claims c.args.from at c.loop-at.end claim
    c.loop-at.invariant record { lt = lt; is = drop_more claims at nowhere lt }
    (iff_false c.has_header.ensures c.if-has_header.false)
    (omega (arith, c.if-to-next.false, c.end_of_claim-next.ensures)) in
    subst (ArePassed c.args.capacity c.args.read c.args.to claims c.args.from (at + 1))
    (sym c.end_of_claim-next.ensures)
    next

pub returns : goal.returns
returns c = all_passed c.args.capacity c.args.read c.args.to c.args.claims.now c.args.from c.loop-at.at c.loop-at.end
    c.loop-at.invariant c.loop-at-test.false
