-- The positions at which the head can be while a ring has its claims.
use Rattle.std.proofs.Common.{◌≡◌, ℕ, ◌+◌, ◌<◌, ◌≤◌, ◌⊎◌, List, [], ◌∷◌, ◌++◌, length, take, drop, get_or, true, false, zero, suc, inl, inr, sym, refl, ap, ◌∙◌, ⊎_elim, subst, arith, All}
use Rattle.std.proofs.lemmas.Bool.{cases_lt}
use Rattle.std.proofs.lemmas.List.{drop_more, drop_all, Elements.All-head, Elements.All-tail}
use Rattle.ring_layout.specs.{History.span, Places.next_place}
use Rattle.ring_layout.proofs.PlaceLemmas.{next_cases, next_le}
use Rattle.ring_judge.specs.{declared.ring.RingClaim.RingClaim, Judged.AreInOrder, Judged.IsBehind, Judged.IsLeastHead}
use Rattle.ring_judge.specs.Ring.{CanReach, is_open, end_of_claim, end_of_claims}

-- the head can be beyond the place at which these claims begin
abbrev pub IsBeyond : ℕ → List RingClaim → Type 0
IsBeyond at [] = ⊥
IsBeyond at (c ∷ left) = (at ≡ c.place) ⊎ ((is_open c.fate ≡ false) × CanReach at (end_of_claim c) left)

reach_cases : (at head : ℕ) (left : List RingClaim) → CanReach at head left → (at ≡ head) ⊎ IsBeyond at left
reach_cases at head [] can = inl can
reach_cases at head (c ∷ left) can = can

reach_beyond : (at head : ℕ) (left : List RingClaim) → IsBeyond at left → CanReach at head left
reach_beyond at head [] beyond = absurd beyond
reach_beyond at head (c ∷ left) beyond = inr beyond

pub reach_here : (head : ℕ) (left : List RingClaim) → CanReach head head left
reach_here head [] = refl
reach_here head (c ∷ left) = inl refl

pub reach_within : (most at head : ℕ) (left : List RingClaim) → CanReach at head left → head ≤ most
    → All (λ c. end_of_claim c ≤ most) left → at ≤ most
reach_within most at head [] can le within = omega (arith, can)
reach_within most at head (c ∷ left) can le within =
    let ends = All-head (λ x. end_of_claim x ≤ most) c left within in
    ⊎_elim (λ same. omega (arith, same)) (λ beyond. ⊎_elim (λ same. omega (arith, same, ends))
    (λ past. reach_within most at (end_of_claim c) left past.1 ends
    (All-tail (λ x. end_of_claim x ≤ most) c left within)) beyond) can

-- the head never goes back
pub reach_above : (C at head : ℕ) (left : List RingClaim) → AreInOrder C head left → CanReach at head left → head ≤ at
reach_above C at head [] order can = omega (arith, can)
reach_above C at head (c ∷ left) order can = ⊎_elim (λ same. omega (arith, same))
    (λ beyond. ⊎_elim (λ same. omega (arith, same, order.0))
    (λ past. let above = reach_above C at (end_of_claim c) left order.2 past.1 in omega (arith, above, order.0)) beyond)
    can

order_from : (C n head : ℕ) (left : List RingClaim) → AreInOrder C head left → (e : ℕ) × AreInOrder C e (drop n left)
order_from C zero head left order = (head, order)
order_from C (suc n) head [] order = (head, order)
order_from C (suc n) head (c ∷ left) order = order_from C n (end_of_claim c) left order.2

pub order_append : (C head : ℕ) (left : List RingClaim) (c : RingClaim) → AreInOrder C head left
    → end_of_claims head left ≤ c.place → c.place ≤ end_of_claims head left + C → AreInOrder C head (left ++ c ∷ [])
order_append C head [] c order le most = (le, most, tt)
order_append C head (d ∷ left) c order le most =
    (order.0, order.1, order_append C (end_of_claim d) left c order.2 le most)

pub end_append : (head : ℕ) (left : List RingClaim) (c : RingClaim)
    → end_of_claims head (left ++ c ∷ []) ≡ end_of_claim c
end_append head [] c = refl
end_append head (d ∷ left) c = end_append (end_of_claim d) left c

-- beyond claims that the consumer can pass, and at whose ends there is no room yet
skipped : (C tail at n : ℕ) (left : List RingClaim) → All (IsBehind C tail) (take n left) → tail ≤ at + C
    → IsBeyond at left → IsBeyond at (drop n left)
skipped C tail at zero left behind room beyond = beyond
skipped C tail at (suc n) [] behind room beyond = beyond
skipped C tail at (suc n) (c ∷ left) behind room beyond =
    let its = All-head (IsBehind C tail) c (take n left) behind in
    let far : end_of_claim c + C < tail = its.no_room in
    ⊎_elim (λ same. absurd (omega (arith, same, far, room)))
    (λ past. ⊎_elim (λ same. absurd (omega (arith, same, far, room)))
    (λ more. skipped C tail at n left (All-tail (IsBehind C tail) c (take n left) behind) room more)
    (reach_cases at (end_of_claim c) left past.1)) beyond

added : (C tail at n : ℕ) (left : List RingClaim) → All (IsBehind C tail) (take n left) → IsBeyond at (drop n left)
    → IsBeyond at left
added C tail at zero left behind beyond = beyond
added C tail at (suc n) [] behind beyond = beyond
added C tail at (suc n) (c ∷ left) behind beyond = inr (
  (All-head (IsBehind C tail) c (take n left) behind).settled,
  reach_beyond at (end_of_claim c) left
      (added C tail at n left (All-tail (IsBehind C tail) c (take n left) behind) beyond),
)

-- the start and the ends of the claims before the index `low` are heads that are too far back
pub record AreBehind (C start tail low : ℕ) (claims : List RingClaim) : Type 0 where
  pub order : AreInOrder C start claims
  pub start_behind : start + C < tail
  pub behind : All (IsBehind C tail) (take low claims)

from_low : (C start tail low at : ℕ) (claims : List RingClaim) → AreBehind C start tail low claims
    → CanReach at start claims → tail ≤ at + C → IsBeyond at (drop low claims)
from_low C start tail low at claims are can room = let far = are.start_behind in
    ⊎_elim (λ same. absurd (omega (arith, same, far, room)))
    (λ beyond. skipped C tail at low claims are.behind room beyond) (reach_cases at start claims can)

pub none_at_end : (C start tail low at : ℕ) (claims : List RingClaim) → AreBehind C start tail low claims
    → length claims ≤ low → CanReach at start claims → tail ≤ at + C → ⊥
none_at_end C start tail low at claims are le can room =
    subst (IsBeyond at) (drop_all low claims le) (from_low C start tail low at claims are can room)

-- the claim with the index `low` is c
from_claim : (C start tail low at : ℕ) (claims : List RingClaim) (c : RingClaim) → AreBehind C start tail low claims
    → drop low claims ≡ c ∷ drop (low + 1) claims → CanReach at start claims → tail ≤ at + C
    → (at ≡ c.place) ⊎ ((is_open c.fate ≡ false) × CanReach at (end_of_claim c) (drop (low + 1) claims))
from_claim C start tail low at claims c are is can room =
    subst (IsBeyond at) is (from_low C start tail low at claims are can room)

to_claim : (C start tail low at : ℕ) (claims : List RingClaim) (c : RingClaim) → AreBehind C start tail low claims
    → drop low claims ≡ c ∷ drop (low + 1) claims
    → (at ≡ c.place) ⊎ ((is_open c.fate ≡ false) × CanReach at (end_of_claim c) (drop (low + 1) claims))
    → CanReach at start claims
to_claim C start tail low at claims c are is beyond = reach_beyond at start claims
    (added C tail at low claims are.behind (subst (IsBeyond at) (sym is) beyond))

above_claim : (C start tail low at : ℕ) (claims : List RingClaim) (c : RingClaim) → AreBehind C start tail low claims
    → drop low claims ≡ c ∷ drop (low + 1) claims → CanReach at (end_of_claim c) (drop (low + 1) claims)
    → end_of_claim c ≤ at
above_claim C start tail low at claims c are is can = let o = order_from C low start claims are.order in
    let order : AreInOrder C o.0 (c ∷ drop (low + 1) claims) = subst (AreInOrder C o.0) is o.1 in
    reach_above C at (end_of_claim c) (drop (low + 1) claims) order.2 can

pub none_at_open : (C start tail low at : ℕ) (claims : List RingClaim) (c : RingClaim)
    → AreBehind C start tail low claims → drop low claims ≡ c ∷ drop (low + 1) claims → is_open c.fate ≡ true
    → c.place + C < tail → CanReach at start claims → tail ≤ at + C → ⊥
none_at_open C start tail low at claims c are is opened far can room = ⊎_elim
    (λ same. omega (arith, same, far, room)) (λ past. let settled = past.0 in absurd (cc (settled, opened)))
    (from_claim C start tail low at claims c are is can room)

pub least_at_start : (C start tail : ℕ) (claims : List RingClaim) → AreInOrder C start claims → tail ≤ start + C
    → IsLeastHead C start tail claims start
least_at_start C start tail claims order room = record {
  reached = reach_here start claims;
  had_room = room;
  least = λ at can _. reach_above C at start claims order can;
}

pub least_at_place : (C start tail low : ℕ) (claims : List RingClaim) (c : RingClaim)
    → AreBehind C start tail low claims → drop low claims ≡ c ∷ drop (low + 1) claims → tail ≤ c.place + C
    → IsLeastHead C start tail claims c.place
least_at_place C start tail low claims c are is room = record {
  reached = to_claim C start tail low c.place claims c are is (inl refl);
  had_room = room;
  least = λ at can had. ⊎_elim (λ same. omega (arith, same))
      (λ past. let above = above_claim C start tail low at claims c are is past.1 in omega (arith, above))
      (from_claim C start tail low at claims c are is can had);
}

pub least_at_end : (C start tail low : ℕ) (claims : List RingClaim) (c : RingClaim)
    → AreBehind C start tail low claims → drop low claims ≡ c ∷ drop (low + 1) claims → is_open c.fate ≡ false
    → c.place + C < tail → tail ≤ end_of_claim c + C → IsLeastHead C start tail claims (end_of_claim c)
least_at_end C start tail low claims c are is settled far room = record {
  reached = to_claim C start tail low (end_of_claim c) claims c are is
      (inr (settled, reach_here (end_of_claim c) (drop (low + 1) claims)));
  had_room = room;
  least = λ at can had. ⊎_elim (λ same. absurd (omega (arith, same, far, had)))
      (λ past. above_claim C start tail low at claims c are is past.1)
      (from_claim C start tail low at claims c are is can had);
}

pub first_kept : (claims : List RingClaim) (low : ℕ) (c : RingClaim) → low < length claims → c ≡ get_or claims low c
    → drop low claims ≡ c ∷ drop (low + 1) claims
first_kept claims low c lt is = drop_more claims low c lt ∙ ap (λ x. x ∷ drop (low + 1) claims) (sym is)

pub not_behind : (C tail : ℕ) (c : RingClaim) → is_open c.fate ≡ false → (IsBehind C tail c → ⊥)
    → tail ≤ end_of_claim c + C
not_behind C tail c settled kept = ⊎_elim (λ lt. absurd (kept record { settled = settled; no_room = lt }))
    (λ le. le) (cases_lt (end_of_claim c + C) tail)

next_most : (C e a : ℕ) → next_place C e a ≤ e + C
next_most C e a = ⊎_elim (λ here. omega (arith, here.1)) (λ there. omega (arith, there.1)) (next_cases C e a)

-- the next claim comes after those before it
pub next_in_order : (C start : ℕ) (claims : List RingClaim) (c : RingClaim) → AreInOrder C start claims
    → c.place ≡ next_place C (end_of_claims start claims) (span c.length) → AreInOrder C start (claims ++ c ∷ [])
next_in_order C start claims c order place = let tail = end_of_claims start claims in
    order_append C start claims c order (omega (arith, place, next_le C tail (span c.length)))
    (omega (arith, place, next_most C tail (span c.length)))
