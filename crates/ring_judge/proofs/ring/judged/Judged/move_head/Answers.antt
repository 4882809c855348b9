use Rattle.std.proofs.Common.{◌≤◌, ◌∙◌, List, ap, refl, sym, drop, subst}
use Rattle.std.proofs.lemmas.List.Elements.{All-drop}
use Rattle.ring_layout.specs.Places.{max_position}
use Rattle.ring_judge.specs.{declared.ring.RingClaim.RingClaim, Ring.end_of_claims, Ring.end_of_claim, Ring.first_open}
use Rattle.ring_judge.specs.Judged.{AreInOrder, IsMove}
use Rattle.ring_judge.proofs.ClaimLemmas.{cursor_at_head, end-claims_from, order-claims_from, first_open-claims_from, head_within}
use Rattle.ring_judge.proofs.ring.judged.Judged.move_head.Goals as goal

pub returns-in-Some : goal.returns-in-Some
returns-in-Some c = let its = c.args.self.now in let items = its.claims.items in let at = c.args.head in
    let move : IsMove items its.passed its.head at c.in-Some.next =
    subst (λ (xs : List RingClaim). IsMove xs its.passed its.head at c.in-Some.next) c.deref.ensures.value
    c.in-Some.ensures in
    let order : AreInOrder its.capacity at (drop c.in-Some.next items) = subst (AreInOrder its.capacity at) move.left
    (order-claims_from its.capacity at its.head (drop its.passed items) move.is_head c.requires.left_order) in
    record {
      allowed = move.is_head;
      judged = record {
        power = c.requires.power;
        most = c.requires.most;
        passed = move.within;
        head = head_within max_position at its.head (drop its.passed items) move.is_head c.requires.head
            (All-drop (λ x. end_of_claim x ≤ max_position) its.passed items c.requires.ends);
        start = c.requires.start;
        tail = c.requires.tail;
        tail_within = c.requires.tail_within;
        ends = c.requires.ends;
        short = c.requires.short;
        order = c.requires.order;
        left_order = order;
        left_tail = ap (end_of_claims at) (sym move.left)
            ∙ (end-claims_from at its.head (drop its.passed items) move.is_head ∙ c.requires.left_tail);
        low = c.requires.low;
        behind = c.requires.behind;
        heads = c.requires.heads;
        cursor = cursor_at_head its.capacity at c.in-Some.next items move.within order;
        blocked = ap first_open (sym move.left)
            ∙ (first_open-claims_from at its.head (drop its.passed items) move.is_head ∙ c.requires.blocked);
        blocked_within = c.requires.blocked_within;
      };
      capacity = refl;
      state = ap (λ l. record { start = its.start; claims = items; head = at; left = l; read = at }) (sym move.left);
    }
