-- The words that claims make.
use Rattle.std.proofs.Common.{◌≡◌, ℕ, ◌+◌, ◌-◌, ◌/◌, ◌%◌, ◌^◌, ◌<◌, ◌≤◌, ◌↔◌, ℤ, pos, neg_ℤ, FitsSigned, List, ◌∷◌, length, drop, get_or, Bool, true, false, inl, inr, sym, refl, ap, ◌∙◌, ⊎_elim, subst, arith, nat_lt, eqb, ◌==◌, if◌then◌else◌, MatchBool, w32, eq-eqb, ne_eqb, lt-ltb, le-ltb}
use Rattle.std.specs.Int.{cast_signed}
use Rattle.std.proofs.lemmas.{Int.ints, List.drop_more, List.drop_all}
use Rattle.std.proofs.lemmas.Bool.{cases_eq, cases_lt, cond-true, cond-false, MatchBool-at_true, MatchBool-at_false}
use Rattle.ring_layout.specs.Headers.{header, padding_header, padding_type}
use Rattle.ring_layout.proofs.HeaderLemmas.{len_of-header, fits_pos, fits_neg}
use Rattle.ring_judge.specs.declared.ring.Fate.{Fate, TheVariants.Open, TheVariants.Committed, TheVariants.Aborted}
use Rattle.ring_judge.specs.declared.ring.{RingClaim.RingClaim, words.Cursor.Cursor}
use Rattle.ring_judge.specs.Ring.{CanBeWord, end_of_claim, header_of_claim}
use Rattle.ring_judge.specs.Judged.{AreInOrder, HasHeader, IsClearTo}

-- ---- headers

zero_length : (len type_id : ℤ) → FitsSigned w32 len → 0 ≡ header len type_id → len ≡ pos 0
zero_length len type_id fits e = sym (len_of-header len type_id fits) ∙ ap (λ h. cast_signed w32 (h % 2 ^ 32)) (sym e)

pub padding_not_zero : (n : ℕ) → 0 < n → n < 2 ^ 31 → 0 ≡ padding_header n → ⊥
padding_not_zero n some small e = let z = zero_length (pos n) padding_type (fits_pos n small) e in
    omega (arith, ints, z, some)

abbrev with_fate : RingClaim → Fate → RingClaim
with_fate c f = record { producer = c.producer; place = c.place; type_id = c.type_id; length = c.length; fate = f }

with_fate_not_zero : (c : RingClaim) (f : Fate) → 8 + c.length < 2 ^ 31 → 0 ≡ header_of_claim (with_fate c f) → ⊥
with_fate_not_zero c Open small e =
    let z = zero_length (neg_ℤ (pos (8 + c.length))) c.type_id (fits_neg (8 + c.length) small) e in
    omega (arith, ints, z)
with_fate_not_zero c (Committed body) small e =
    let z = zero_length (pos (8 + c.length)) c.type_id (fits_pos (8 + c.length) small) e in omega (arith, ints, z)
with_fate_not_zero c Aborted small e =
    let z = zero_length (pos (8 + c.length)) padding_type (fits_pos (8 + c.length) small) e in omega (arith, ints, z)

pub header_not_zero : (c : RingClaim) → 8 + c.length < 2 ^ 31 → 0 ≡ header_of_claim c → ⊥
header_not_zero c small e = with_fate_not_zero c c.fate small e

-- ---- words

match_true : (b : Bool) (P Q : Type 0) → b ≡ true → P → MatchBool b P Q
match_true true P Q e p = p
match_true false P Q e p = absurd (cc)

match_false : (b : Bool) (P Q : Type 0) → b ≡ false → Q → MatchBool b P Q
match_false true P Q e q = absurd (cc)
match_false false P Q e q = q

-- the word before a claim
abbrev BeforeClaim : ℕ → ℕ → ℕ → RingClaim → Type 0
BeforeClaim p v e c = v ≡ (if p == e then padding_header (c.place - e) else 0)

-- the word of a claim or after it
abbrev FromClaim : ℕ → ℕ → RingClaim → List RingClaim → Type 0
FromClaim p v c left =
    MatchBool (nat_lt p (end_of_claim c)) (p ≡ c.place → v ≡ header_of_claim c) (CanBeWord p v (end_of_claim c) left)

pub before_claim : (p v e : ℕ) (c : RingClaim) (left : List RingClaim) → p < c.place
    → CanBeWord p v e (c ∷ left) ↔ BeforeClaim p v e c
before_claim p v e c left lt = let test = lt-ltb p c.place lt in (
  λ can. MatchBool-at_true (BeforeClaim p v e c) (FromClaim p v c left) test can,
  λ is. match_true (nat_lt p c.place) (BeforeClaim p v e c) (FromClaim p v c left) test is,
)

pub in_claim : (p v e : ℕ) (c : RingClaim) (left : List RingClaim) → c.place ≤ p → p < end_of_claim c
    → CanBeWord p v e (c ∷ left) ↔ (p ≡ c.place → v ≡ header_of_claim c)
in_claim p v e c left le lt = let first = le-ltb p c.place le in let second = lt-ltb p (end_of_claim c) lt in
    let Header = p ≡ c.place → v ≡ header_of_claim c in let Later = CanBeWord p v (end_of_claim c) left in (
      λ can. MatchBool-at_true Header Later second
          (MatchBool-at_false (BeforeClaim p v e c) (FromClaim p v c left) first can),
      λ is. match_false (nat_lt p c.place) (BeforeClaim p v e c) (FromClaim p v c left) first
          (match_true (nat_lt p (end_of_claim c)) Header Later second is),
    )

pub after_claim : (p v e : ℕ) (c : RingClaim) (left : List RingClaim) → end_of_claim c ≤ p
    → CanBeWord p v e (c ∷ left) ↔ CanBeWord p v (end_of_claim c) left
after_claim p v e c left le = let first = le-ltb p c.place (omega (arith, le)) in
    let second = le-ltb p (end_of_claim c) le in
    let Header = p ≡ c.place → v ≡ header_of_claim c in let Later = CanBeWord p v (end_of_claim c) left in (
      λ can. MatchBool-at_false Header Later second
          (MatchBool-at_false (BeforeClaim p v e c) (FromClaim p v c left) first can),
      λ is. match_false (nat_lt p c.place) (BeforeClaim p v e c) (FromClaim p v c left) first
          (match_false (nat_lt p (end_of_claim c)) Header Later second is),
    )

-- ---- words that can be 0

clear_here : (read to e p : ℕ) (c : RingClaim) (left : List RingClaim) → (HasHeader read to e c → ⊥) → read ≤ p → p < to
    → p < end_of_claim c → CanBeWord p 0 e (c ∷ left)
clear_here read to e p c left none from until lt = ⊎_elim
    (λ before. (before_claim p 0 e c left before).1 (⊎_elim
    (λ same. absurd (none (inl (omega (arith, same, before), omega (arith, same, from), omega (arith, same, until)))))
    (λ ne. sym (cond-false (eqb p e) (padding_header (c.place - e)) 0 (ne_eqb p e ne))) (cases_eq p e)))
    (λ after. (in_claim p 0 e c left after lt).1
    (λ same. absurd (none (inr (omega (arith, same, from), omega (arith, same, until))))))
    (cases_lt p c.place)

-- the words from `read` to `to` that are before `end` can be 0, and the others are those of the claims from `at` on
pub record ArePassed (C read to : ℕ) (claims : List RingClaim) (from : Cursor) (at end : ℕ) : Type 0 where
  pub within : at ≤ length claims
  pub order : AreInOrder C end (drop at claims)
  pub behind : end ≤ to
  pub clear : (p : ℕ) → read ≤ p → p < to → p < end → CanBeWord p 0 from.end (drop from.claim claims)
  pub same : (p v : ℕ) → end ≤ p
      → CanBeWord p v from.end (drop from.claim claims) ↔ CanBeWord p v end (drop at claims)

pub none_passed : (C read to : ℕ) (claims : List RingClaim) (from : Cursor) → from.claim ≤ length claims
    → AreInOrder C from.end (drop from.claim claims) → from.end ≤ read → read ≤ to
    → ArePassed C read to claims from from.claim from.end
none_passed C read to claims from within order behind forward = record {
  within = within;
  order = order;
  behind = omega (arith, behind, forward);
  clear = λ p le until before. absurd (omega (arith, le, before, behind));
  same = λ p v le. (λ is. is, λ is. is);
}

-- the claims from `at` on begin with c
pub record IsAt (claims : List RingClaim) (at : ℕ) (c : RingClaim) : Type 0 where
  pub lt : at < length claims
  pub is : drop at claims ≡ c ∷ drop (at + 1) claims

pub one_passed : (C read to : ℕ) (claims : List RingClaim) (from : Cursor) (at end : ℕ) (c : RingClaim)
    → ArePassed C read to claims from at end → IsAt claims at c → (HasHeader read to end c → ⊥) → end_of_claim c ≤ to
    → ArePassed C read to claims from (at + 1) (end_of_claim c)
one_passed C read to claims from at end c are here none le = let rest = drop (at + 1) claims in
    let order : AreInOrder C end (c ∷ rest) = subst (AreInOrder C end) here.is are.order in
    record {
      within = omega (arith, here.lt);
      order = order.2;
      behind = le;
      clear = λ p first until before. ⊎_elim (λ earlier. are.clear p first until earlier)
          (λ later. (are.same p 0 later).1 (subst (CanBeWord p 0 end) (sym here.is)
          (clear_here read to end p c rest none first until before))) (cases_lt p end);
      same = λ p v past. let later : end ≤ p = omega (arith, past, order.0) in
          let its = are.same p v later in let next = after_claim p v end c rest past in (
            λ can. next.0 (subst (CanBeWord p v end) here.is (its.0 can)),
            λ can. its.1 (subst (CanBeWord p v end) (sym here.is) (next.1 can)),
          );
    }

same_head : (c d : RingClaim) (rest : List RingClaim) → c ∷ rest ≡ d ∷ rest → c ≡ d
same_head c d rest e = cc

pub stopped : (C read to : ℕ) (claims : List RingClaim) (from : Cursor) (at end : ℕ) (c : RingClaim)
    → ArePassed C read to claims from at end → IsAt claims at c → (HasHeader read to end c → ⊥) → to < end_of_claim c
    → IsClearTo C read to claims from record { claim = at; end = end }
stopped C read to claims from at end c are here none lt = let rest = drop (at + 1) claims in record {
  within = are.within;
  order = are.order;
  behind = are.behind;
  clear = λ p first until. ⊎_elim (λ earlier. are.clear p first until earlier)
      (λ later. (are.same p 0 later).1 (subst (CanBeWord p 0 end) (sym here.is)
      (clear_here read to end p c rest none first until (omega (arith, until, lt))))) (cases_lt p end);
  same = λ p v past. are.same p v (omega (arith, past, are.behind));
  before_end = λ d less. let e : c ≡ get_or claims at d =
      same_head c (get_or claims at d) rest (sym here.is ∙ drop_more claims at d less) in
      subst (λ (x : RingClaim). to < end_of_claim x) e lt;
}

pub all_passed : (C read to : ℕ) (claims : List RingClaim) (from : Cursor) (at end : ℕ)
    → ArePassed C read to claims from at end → length claims ≤ at
    → IsClearTo C read to claims from record { claim = at; end = end }
all_passed C read to claims from at end are le = record {
  within = are.within;
  order = are.order;
  behind = are.behind;
  clear = λ p first until. ⊎_elim (λ earlier. are.clear p first until earlier)
      (λ later. (are.same p 0 later).1 (subst (CanBeWord p 0 end) (sym (drop_all at claims le)) refl)) (cases_lt p end);
  same = λ p v past. are.same p v (omega (arith, past, are.behind));
  before_end = λ d less. absurd (omega (arith, less, le));
}

padding_found : (C read to : ℕ) (claims : List RingClaim) (from : Cursor) (at end : ℕ) (c : RingClaim)
    → C ≤ 2 ^ 30 → ArePassed C read to claims from at end → IsAt claims at c → end < c.place → read ≤ end → end < to
    → ((p : ℕ) → read ≤ p → p < to → CanBeWord p 0 from.end (drop from.claim claims)) → ⊥
padding_found C read to claims from at end c most are here lt first until all = let rest = drop (at + 1) claims in
    let order : AreInOrder C end (c ∷ rest) = subst (AreInOrder C end) here.is are.order in
    let can = subst (CanBeWord end 0 end) here.is ((are.same end 0 (omega arith)).0 (all end first until)) in
    let word = (before_claim end 0 end c rest lt).0 can in
    padding_not_zero (c.place - end) (omega (arith, lt)) (omega (arith, order.1, most))
    (word ∙ cond-true (eqb end end) (padding_header (c.place - end)) 0 (eq-eqb end end refl))

past_place : (c : RingClaim) → c.place < end_of_claim c
past_place c = omega arith

header_found : (C read to : ℕ) (claims : List RingClaim) (from : Cursor) (at end : ℕ) (c : RingClaim)
    → 8 + c.length < 2 ^ 31 → ArePassed C read to claims from at end → IsAt claims at c → read ≤ c.place → c.place < to
    → ((p : ℕ) → read ≤ p → p < to → CanBeWord p 0 from.end (drop from.claim claims)) → ⊥
header_found C read to claims from at end c small are here first until all = let rest = drop (at + 1) claims in
    let order : AreInOrder C end (c ∷ rest) = subst (AreInOrder C end) here.is are.order in
    let p = c.place in
    let can = subst (CanBeWord p 0 end) here.is ((are.same p 0 order.0).0 (all p first until)) in
    header_not_zero c small ((in_claim p 0 end c rest (omega arith) (past_place c)).0 can refl)

pub not_clear : (C read to : ℕ) (claims : List RingClaim) (from : Cursor) (at end : ℕ) (c : RingClaim)
    → C ≤ 2 ^ 30 → c.length ≤ C / 8 → ArePassed C read to claims from at end → IsAt claims at c
    → HasHeader read to end c
    → ((p : ℕ) → read ≤ p → p < to → CanBeWord p 0 from.end (drop from.claim claims)) → ⊥
not_clear C read to claims from at end c most short are here has all = ⊎_elim
    (λ its. padding_found C read to claims from at end c most are here its.0 its.1 its.2 all)
    (λ its. header_found C read to claims from at end c (omega (arith, most, short)) are here its.0 its.1 all) has
