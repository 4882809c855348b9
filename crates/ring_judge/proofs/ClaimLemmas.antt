-- The claims that the consumer passes.
use Rattle.std.proofs.Common.{◌≡◌, ℕ, ◌+◌, ◌<◌, ◌≤◌, List, [], ◌∷◌, ◌++◌, length, drop, get_or, true, false, sym, refl, ap, ◌∙◌, ⊎_elim, subst, arith, nat_le, Some, None, Option, All, MatchOption}
use Rattle.std.proofs.lemmas.List.{drop_more, Elements.All-head, Elements.All-tail}
use Rattle.std.proofs.lemmas.Bool.{cond-true, cond-false, cond_both, cases_Bool, MatchBool-at_true, MatchBool-at_false}
use Rattle.ring_layout.specs.Lists.{or_else}
use Rattle.ring_judge.specs.declared.ring.Fate.{Fate, TheVariants.Open, TheVariants.Committed, TheVariants.Aborted}
use Rattle.ring_judge.specs.declared.ring.{RingClaim.RingClaim, RingCopy.RingCopy}
use Rattle.ring_judge.specs.Ring.{IsCopyOf, unaborted, is_aborted, is_open, first_open, IsHead, claims_from, end_of_claim, end_of_claims}
use Rattle.ring_judge.specs.Judged.{AreInOrder, IsCursor}

aborted_is_settled : (f : Fate) → is_aborted f ≡ true → is_open f ≡ false
aborted_is_settled Open e = cc
aborted_is_settled (Committed body) e = refl
aborted_is_settled Aborted e = refl

pub first_open-own : (c : RingClaim) (left : List RingClaim) → is_open c.fate ≡ true
    → first_open (c ∷ left) ≡ Some c.place
first_open-own c left e = cond-true (is_open c.fate) (Some c.place) (first_open left) e

pub first_open-other : (c : RingClaim) (left : List RingClaim) → is_open c.fate ≡ false
    → first_open (c ∷ left) ≡ first_open left
first_open-other c left e = cond-false (is_open c.fate) (Some c.place) (first_open left) e

pub first_open-append : (xs ys : List RingClaim) → first_open (xs ++ ys) ≡ or_else (first_open xs) (first_open ys)
first_open-append [] ys = refl
first_open-append (c ∷ xs) ys = ⊎_elim
    (λ e. first_open-own c (xs ++ ys) e ∙ ap (λ o. or_else o (first_open ys)) (sym (first_open-own c xs e)))
    (λ e. first_open-other c (xs ++ ys) e ∙ (first_open-append xs ys
    ∙ ap (λ o. or_else o (first_open ys)) (sym (first_open-other c xs e))))
    (cases_Bool (is_open c.fate))

pub first_open-unaborted : (left : List RingClaim) → first_open (unaborted left) ≡ first_open left
first_open-unaborted [] = refl
first_open-unaborted (c ∷ left) = ⊎_elim
    (λ e. ap first_open (cond-true (is_aborted c.fate) (unaborted left) (c ∷ left) e)
    ∙ (first_open-unaborted left ∙ sym (first_open-other c left (aborted_is_settled c.fate e))))
    (λ e. ap first_open (cond-false (is_aborted c.fate) (unaborted left) (c ∷ left) e))
    (cases_Bool (is_aborted c.fate))

pub first_open-claims_from : (at head : ℕ) (left : List RingClaim) → IsHead at head left
    → first_open (claims_from at left) ≡ first_open left
first_open-claims_from at head [] is = refl
first_open-claims_from at head (c ∷ left) is = ⊎_elim
    (λ e. ap first_open (cond-true (nat_le at c.place) (c ∷ left) (claims_from at left) e))
    (λ e. let past = MatchBool-at_false _ _ e is in
    ap first_open (cond-false (nat_le at c.place) (c ∷ left) (claims_from at left) e)
    ∙ (first_open-claims_from at (end_of_claim c) left past.1
    ∙ sym (first_open-other c left (aborted_is_settled c.fate past.0))))
    (cases_Bool (nat_le at c.place))

-- the head is within the positions, if the records are
pub head_within : (most at head : ℕ) (left : List RingClaim) → IsHead at head left → head ≤ most
    → All (λ c. end_of_claim c ≤ most) left → at ≤ most
head_within most at head [] is le within = omega (arith, is)
head_within most at head (c ∷ left) is le within = ⊎_elim
    (λ e. ⊎_elim (λ same. omega (arith, same))
    (λ same. let ends = All-head (λ x. end_of_claim x ≤ most) c left within in omega (arith, same, ends))
    (MatchBool-at_true _ _ e is))
    (λ e. let past = MatchBool-at_false _ _ e is in
    head_within most at (end_of_claim c) left past.1 (All-head (λ x. end_of_claim x ≤ most) c left within)
    (All-tail (λ x. end_of_claim x ≤ most) c left within))
    (cases_Bool (nat_le at c.place))

-- the first claim that was not aborted
pub first_left : (xs : List RingClaim) (from at : ℕ) (c : RingClaim) → unaborted (drop from xs) ≡ drop at xs
    → at < length xs → c ≡ get_or xs at c → unaborted (drop from xs) ≡ c ∷ drop (at + 1) xs
first_left xs from at c rest lt is = rest ∙ (drop_more xs at c lt ∙ ap (λ x. x ∷ drop (at + 1) xs) (sym is))

-- a claim of which the consumer was shown a copy is not open
pub first_open-shown : (c : RingClaim) (m : RingCopy) (left : List RingClaim) → IsCopyOf c m
    → first_open (c ∷ left) ≡ first_open left
first_open-shown c m left is = first_open-other c left (ap is_open is.committed)

-- the place of the first open claim is within the positions, if the record of one claim more is
pub first_within : (most : ℕ) (blocked : Option ℕ) (c : RingClaim)
    → MatchOption blocked (Unit {0}) (λ place. place ≤ most) → c.place ≤ most
    → MatchOption (or_else blocked (first_open (c ∷ []))) (Unit {0}) (λ place. place ≤ most)
first_within most (Some place) c within le = within
first_within most None c within le = cond_both (is_open c.fate) (Some c.place) None
    (λ (o : Option ℕ). MatchOption o (Unit {0}) (λ place. place ≤ most)) (λ _. le) (λ _. tt)

-- ---- order and ends, after claims were passed

pub order-unaborted : (C head : ℕ) (left : List RingClaim) (c : RingClaim) (rest : List RingClaim)
    → unaborted left ≡ c ∷ rest → AreInOrder C head left → AreInOrder C (end_of_claim c) rest
order-unaborted C head [] c rest e order = absurd (cc)
order-unaborted C head (d ∷ left) c rest e order = ⊎_elim
    (λ is. order-unaborted C (end_of_claim d) left c rest
    (sym (cond-true (is_aborted d.fate) (unaborted left) (d ∷ left) is) ∙ e) order.2)
    (λ is. let same : d ∷ left ≡ c ∷ rest = sym (cond-false (is_aborted d.fate) (unaborted left) (d ∷ left) is) ∙ e in
    let its : AreInOrder C head (c ∷ rest) = subst (AreInOrder C head) same order in its.2)
    (cases_Bool (is_aborted d.fate))

pub end-unaborted : (head : ℕ) (left : List RingClaim) (c : RingClaim) (rest : List RingClaim)
    → unaborted left ≡ c ∷ rest → end_of_claims (end_of_claim c) rest ≡ end_of_claims head left
end-unaborted head [] c rest e = absurd (cc)
end-unaborted head (d ∷ left) c rest e = ⊎_elim
    (λ is. end-unaborted (end_of_claim d) left c rest
    (sym (cond-true (is_aborted d.fate) (unaborted left) (d ∷ left) is) ∙ e))
    (λ is. let same : d ∷ left ≡ c ∷ rest = sym (cond-false (is_aborted d.fate) (unaborted left) (d ∷ left) is) ∙ e in
    sym (ap (end_of_claims head) same))
    (cases_Bool (is_aborted d.fate))

pub order-claims_from : (C at head : ℕ) (left : List RingClaim) → IsHead at head left → AreInOrder C head left
    → AreInOrder C at (claims_from at left)
order-claims_from C at head [] is order = tt
order-claims_from C at head (c ∷ left) is order = ⊎_elim
    (λ e. let kept : c ∷ left ≡ claims_from at (c ∷ left) =
    sym (cond-true (nat_le at c.place) (c ∷ left) (claims_from at left) e) in
    subst (AreInOrder C at) kept (⊎_elim
    (λ same. subst (λ (n : ℕ). AreInOrder C n (c ∷ left)) (sym same) order)
    (λ same. (omega (arith, same), omega (arith, same), order.2)) (MatchBool-at_true _ _ e is)))
    (λ e. let past = MatchBool-at_false _ _ e is in
    let gone : claims_from at left ≡ claims_from at (c ∷ left) =
    sym (cond-false (nat_le at c.place) (c ∷ left) (claims_from at left) e) in
    subst (AreInOrder C at) gone (order-claims_from C at (end_of_claim c) left past.1 order.2))
    (cases_Bool (nat_le at c.place))

pub end-claims_from : (at head : ℕ) (left : List RingClaim) → IsHead at head left
    → end_of_claims at (claims_from at left) ≡ end_of_claims head left
end-claims_from at head [] is = is
end-claims_from at head (c ∷ left) is = ⊎_elim
    (λ e. ap (end_of_claims at) (cond-true (nat_le at c.place) (c ∷ left) (claims_from at left) e))
    (λ e. let past = MatchBool-at_false _ _ e is in
    ap (end_of_claims at) (cond-false (nat_le at c.place) (c ∷ left) (claims_from at left) e)
    ∙ end-claims_from at (end_of_claim c) left past.1) (cases_Bool (nat_le at c.place))

-- ---- the cursor at the head

pub cursor_at_head : (C head passed : ℕ) (claims : List RingClaim) → passed ≤ length claims
    → AreInOrder C head (drop passed claims)
    → IsCursor C head head (drop passed claims) claims record { claim = passed; end = head }
cursor_at_head C head passed claims within order = record {
  within = within;
  order = order;
  behind = omega arith;
  same = λ p v le. (λ is. is, λ is. is);
}
