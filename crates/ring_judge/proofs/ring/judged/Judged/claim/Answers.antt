use Rattle.std.proofs.Common.{◌/◌, ◌≡◌, ◌≤◌, ◌∙◌, ◌∷◌, ◌++◌, [], List, ℕ, Option, ap, refl, sym, arith, take, drop, length, subst, length-append, All, MatchOption}
use Rattle.std.proofs.lemmas.List.{drop-append-le, Elements.All-push}
use Rattle.ring_judge.specs.{declared.ring.RingClaim.RingClaim, Ring.first_open, Ring.end_of_claim, Ring.end_of_claims}
use Rattle.ring_judge.specs.Judged.{AreInOrder, AreLeastHeads, AreWithin, FindsHead, IsBehind}
use Rattle.ring_layout.specs.{Lists.or_else, History.span, Places.max_position, Places.next_place}
use Rattle.ring_judge.proofs.{HeadLemmas.end_append, HeadLemmas.next_in_order, RefusalLemmas.heads_more}
use Rattle.ring_judge.proofs.ClaimLemmas.{cursor_at_head, first_open-append, first_within}
use Rattle.ring_judge.proofs.ring.judged.Judged.claim.Goals as goal

pub returns : goal.returns
returns c = let its = c.args.self.now in let claim = c.args.claim.now in let items = its.claims.items in
    let can = c.can_claim.ensures.0 c.if-not-can_claim.false in
    let left : drop its.passed c.push.new.self.items ≡ drop its.passed items ++ claim ∷ [] =
    ap (drop its.passed) c.in_ok-push.ensures.items ∙ drop-append-le its.passed items (claim ∷ []) c.requires.passed in
    let more = c.in_ok-push.ensures.items in let end = c.end_of_claim-self.ensures in
    let tail = c.end_of_claim-self.result in
    let same : c.deref.result.now ≡ c.push.new.self.items = c.deref.ensures.value in
    let same' : c.deref-2.result.now ≡ items ++ claim ∷ [] = c.deref-2.ensures.value ∙ more in
    let left_end : end_of_claims its.head (drop its.passed items) ≡ end_of_claims its.start items =
    c.requires.left_tail ∙ sym c.requires.tail in
    let left_order : AreInOrder its.capacity its.head (drop its.passed c.push.new.self.items) =
    subst (AreInOrder its.capacity its.head) (sym left)
    (next_in_order its.capacity its.head (drop its.passed items) claim c.requires.left_order
    (can.place ∙ ap (λ t. next_place its.capacity t (span claim.length)) (sym left_end))) in
    record {
      allowed = can;
      judged = record {
        power = c.requires.power;
        most = c.requires.most;
        passed = omega (
          arith,
          c.requires.passed,
          length-append items (claim ∷ []),
          ap length c.in_ok-push.ensures.items,
        );
        start = c.requires.start;
        head = c.requires.head;
        tail = ap (end_of_claims its.start) more ∙ (end_append its.start items claim ∙ sym end);
        tail_within = omega (arith, can.within, c.end_of_claim-self.ensures);
        ends = subst AreWithin (sym c.in_ok-push.ensures.items)
            (All-push (λ x. end_of_claim x ≤ max_position) items claim c.requires.ends can.within);
        order = subst (AreInOrder its.capacity its.start) (sym more)
            (next_in_order its.capacity its.start items claim c.requires.order can.place);
        short = subst (All (λ x. x.length ≤ its.capacity / 8)) (sym more)
            (All-push (λ x. x.length ≤ its.capacity / 8) items claim c.requires.short can.short);
        left_order = left_order;
        left_tail = ap (end_of_claims its.head) left ∙ (end_append its.head (drop its.passed items) claim ∙ sym end);
        cursor = cursor_at_head its.capacity its.head its.passed c.push.new.self.items
            (omega (arith, c.requires.passed, length-append items (claim ∷ []), ap length more)) left_order;
        blocked = ap first_open left ∙ (first_open-append (drop its.passed items) (claim ∷ [])
            ∙ (ap (λ o. or_else o (first_open (claim ∷ []))) c.requires.blocked ∙ sym c.first_open-self.ensures));
        blocked_within = subst (λ (o : Option ℕ). MatchOption o (Unit {0}) (λ place. place ≤ max_position))
            (sym c.first_open-self.ensures)
            (first_within max_position its.blocked_at claim c.requires.blocked_within (omega (arith, can.within)));
        low = subst (λ (xs : List RingClaim). c.skip_behind-self.result ≤ length xs) same
            c.skip_behind-self.ensures.within;
        behind = subst
            (λ (xs : List RingClaim). All (IsBehind its.capacity tail) (take c.skip_behind-self.result xs)) same
            c.skip_behind-self.ensures.behind;
        heads = subst (λ (hs : List (Option ℕ)). AreLeastHeads its.capacity its.start c.push.new.self.items hs)
            (sym c.in_ok-push-2.ensures.items)
            (subst
            (λ (xs : List RingClaim). AreLeastHeads its.capacity its.start xs (its.heads.items ++ c.least_head.result ∷ []))
            (sym more)
            (heads_more its.capacity its.start items its.heads.items claim c.least_head.result c.requires.heads
            (subst (λ (t : ℕ). FindsHead its.capacity its.start t (items ++ claim ∷ []) c.least_head.result)
            (end ∙ sym (end_append its.start items claim))
            (subst (λ (xs : List RingClaim). FindsHead its.capacity its.start tail xs c.least_head.result) same'
            c.least_head.ensures))));
      };
      capacity = refl;
      state = ap (λ xs. record {
        start = its.start;
        claims = xs;
        head = its.head;
        left = drop its.passed c.push.new.self.items;
        read = its.head;
      }) more
          ∙ ap (λ l. record {
            start = its.start;
            claims = items ++ claim ∷ [];
            head = its.head;
            left = l;
            read = its.head;
          }) left;
    }

pub least_head-requires-clause-order : goal.least_head-requires-clause-order
least_head-requires-clause-order c = let its = c.args.self.now in
    let can = c.can_claim.ensures.0 c.if-not-can_claim.false in
    subst (AreInOrder its.capacity its.start) (sym (c.deref-2.ensures.value ∙ c.in_ok-push.ensures.items))
    (next_in_order its.capacity its.start its.claims.items c.args.claim.now c.requires.order can.place)
