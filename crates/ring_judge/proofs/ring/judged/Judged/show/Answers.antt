use Rattle.std.proofs.Common.{ℕ, ◌≡◌, ◌≤◌, ◌+◌, ◌∙◌, List, ap, refl, sym, arith, drop, length, subst, get_or, ◌<◌}
use Rattle.ring_judge.specs.{declared.ring.RingClaim.RingClaim, Judged.AreInOrder, Judged.state_of}
use Rattle.std.proofs.lemmas.List.Elements.{All-get_or}
use Rattle.ring_layout.specs.Places.{max_position}
use Rattle.ring_judge.specs.Ring.{end_of_claims, Shows, end_of_claim, first_open, passed, unaborted}
use Rattle.ring_judge.proofs.ClaimLemmas.{cursor_at_head, end-unaborted, order-unaborted, first_left, first_open-shown, first_open-unaborted}
use Rattle.ring_judge.proofs.ring.judged.Judged.show.Goals as goal

pub returns : goal.returns
returns c = let its = c.args.self.now in let items = its.claims.items in
    let claim = c.in-Some.claim.now in let next = c.skip_aborted-next.result in
    let copy = c.is_copy_of.ensures.0 c.if-not-is_copy_of.false in
    let found = c.in-Some.ensures.lookup.3 in
    let lt : next < length items = omega (arith, found.0, ap length c.deref-2.ensures.value) in
    let there : claim ≡ get_or items next claim =
    subst (λ (xs : List RingClaim). claim ≡ get_or xs next claim) c.deref-2.ensures.value (found.1 claim) in
    let rest : unaborted (drop its.passed items) ≡ drop next items =
    subst (λ (xs : List RingClaim). unaborted (drop its.passed xs) ≡ drop next xs) c.deref.ensures.value
    c.skip_aborted-next.ensures.rest in
    let first = first_left items its.passed next claim rest lt there in
    let within : end_of_claim claim ≤ max_position =
    subst (λ (x : RingClaim). end_of_claim x ≤ max_position) (sym there)
    (All-get_or (λ x. end_of_claim x ≤ max_position) items next claim lt c.requires.ends) in
    let rest' = drop (next + 1) items in let end = c.end_of_claim-self.ensures in
    let order : AreInOrder its.capacity c.end_of_claim-self.result rest' =
    subst (λ (h : ℕ). AreInOrder its.capacity h rest') (sym end)
    (order-unaborted its.capacity its.head (drop its.passed items) claim rest' first c.requires.left_order) in
    record {
      allowed = subst (λ (l : List RingClaim). Shows l c.args.copy.now) (sym first) copy;
      judged = record {
        power = c.requires.power;
        most = c.requires.most;
        passed = omega (arith, lt);
        head = omega (arith, within, c.end_of_claim-self.ensures);
        start = c.requires.start;
        tail = c.requires.tail;
        tail_within = c.requires.tail_within;
        ends = c.requires.ends;
        short = c.requires.short;
        order = c.requires.order;
        left_order = order;
        left_tail = ap (λ h. end_of_claims h rest') end
            ∙ (end-unaborted its.head (drop its.passed items) claim rest' first
            ∙ c.requires.left_tail);
        low = c.requires.low;
        behind = c.requires.behind;
        heads = c.requires.heads;
        cursor = cursor_at_head its.capacity c.end_of_claim-self.result (next + 1) items (omega (arith, lt)) order;
        blocked = sym (first_open-shown claim c.args.copy.now (drop (next + 1) items) copy)
            ∙ (ap first_open (sym first) ∙ (first_open-unaborted (drop its.passed items) ∙ c.requires.blocked));
        blocked_within = c.requires.blocked_within;
      };
      capacity = refl;
      state = ap (λ h. record { start = its.start; claims = items; head = h; left = drop (next + 1) items; read = h })
          c.end_of_claim-self.ensures
          ∙ sym (ap (passed (state_of its)) first);
    }
