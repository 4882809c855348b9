-- A line of a producer before the lines of other threads.
use Rattle.std.proofs.Common.{◌≡◌, ℕ, ◌+◌, ◌≤◌, List, [], ◌∷◌, ◌++◌, length, take, drop, true, false, inl, ◌⊎◌, sym, refl, ap, ◌∙◌, ⊎_elim, subst, arith, nat_le, Option, Some, None, Bool, All, MatchBool, MatchOption, le-leb, length-append}
use Rattle.std.proofs.lemmas.{Option.MatchOption-from_none, List.drop-append-le, List.take-append-le}
use Rattle.std.proofs.lemmas.Bool.{cases_Bool, cond-true, cond-false, MatchBool-at_true, MatchBool-at_false}
use Rattle.std.proofs.lemmas.List.Elements.{All-cons, All-head, All-nil, All-push, All-tail, All-weaker}
use Rattle.ring_layout.{specs.History.span, specs.Places.next_place, proofs.PlaceLemmas.next_le}
use Rattle.ring_judge.specs.declared.ring.{RingClaim.RingClaim, RingCopy.RingCopy, RingLine.RingLine}
use Rattle.ring_judge.specs.declared.ring.RingLine.TheVariants.{Claimed, Full, Got, Head, Positions, Word, Rest, Empty, Blank}
use Rattle.ring_judge.specs.Ring.{Allows, CanClaim, CanRefuse, IsFull, IsHead, Records, RingState, Shows, after, claimed, claims_from, end_of_claim, end_of_claims, first_open, is_aborted, moved, passed, tail_of, unaborted}
use Rattle.ring_judge.specs.{Judged.AreInOrder, Histories.is_late, Merged.claim_of, Threads.thread_of}
use Rattle.ring_judge.proofs.HeadLemmas.{end_append, next_in_order}
use Rattle.ring_judge.proofs.ClaimLemmas.{end-claims_from, end-unaborted, first_open-claims_from, first_open-shown, first_open-unaborted, order-claims_from, order-unaborted}

-- ---- a ring between two lines

-- the claims that are left are in order, and the last one ends at the tail
pub record IsOrdered (C : ℕ) (s : RingState) : Type 0 where
  pub order : AreInOrder C s.head s.left
  pub tail : end_of_claims s.head s.left ≡ tail_of s

ordered-claimed : (C : ℕ) (s : RingState) (c : RingClaim) → CanClaim C s c → IsOrdered C s → IsOrdered C (claimed s c)
ordered-claimed C s c can its = record {
  order = next_in_order C s.head s.left c its.order
      (can.place ∙ ap (λ t. next_place C t (span c.length)) (sym its.tail));
  tail = end_append s.head s.left c ∙ sym (end_append s.start s.claims c);
}

ordered-passed : (C : ℕ) (s : RingState) (m : RingCopy) (left : List RingClaim) → unaborted s.left ≡ left
    → Shows left m → IsOrdered C s → IsOrdered C (passed s left)
ordered-passed C s m [] e shows its = absurd shows
ordered-passed C s m (c ∷ left) e shows its = record {
  order = order-unaborted C s.head s.left c left e its.order;
  tail = end-unaborted s.head s.left c left e ∙ its.tail;
}

ordered-moved : (C at : ℕ) (s : RingState) → IsHead at s.head s.left → IsOrdered C s → IsOrdered C (moved at s)
ordered-moved C at s is its = record {
  order = order-claims_from C at s.head s.left is its.order;
  tail = end-claims_from at s.head s.left is ∙ its.tail;
}

pub ordered-after : (C : ℕ) (s : RingState) (line : RingLine) → Allows C s line → IsOrdered C s
    → IsOrdered C (after C s line)
ordered-after C s (Claimed c) can its = ordered-claimed C s c can its
ordered-after C s (Full producer len) can its = its
ordered-after C s (Got m) can its = ordered-passed C s m (unaborted s.left) refl can its
ordered-after C s (Head at) can its = ordered-moved C at s can its
ordered-after C s (Positions head tail) can its = ordered-moved C head s can.is_head its
ordered-after C s (Word at v) can its = record { order = its.order; tail = its.tail }
ordered-after C s Rest can its = record { order = its.order; tail = its.tail }
ordered-after C s Empty can its = its
ordered-after C s Blank can its = its

-- two states have the same claims
record HaveSameClaims (s t : RingState) : Type 0 where
  start : t.start ≡ s.start
  claims : t.claims ≡ s.claims

same-passed : (s : RingState) (left : List RingClaim) → HaveSameClaims s (passed s left)
same-passed s [] = record { start = refl; claims = refl }
same-passed s (c ∷ left) = record { start = refl; claims = refl }

same-after : (C : ℕ) (s : RingState) (line : RingLine) → claim_of line ≡ None → HaveSameClaims s (after C s line)
same-after C s (Claimed c) none = absurd (cc)
same-after C s (Full producer len) none = record { start = refl; claims = refl }
same-after C s (Got m) none = same-passed s (unaborted s.left)
same-after C s (Head at) none = record { start = refl; claims = refl }
same-after C s (Positions head tail) none = record { start = refl; claims = refl }
same-after C s (Word at v) none = record { start = refl; claims = refl }
same-after C s Rest none = record { start = refl; claims = refl }
same-after C s Empty none = record { start = refl; claims = refl }
same-after C s Blank none = record { start = refl; claims = refl }

same_tail : (s t : RingState) → HaveSameClaims s t → tail_of t ≡ tail_of s
same_tail s t same = ap (λ n. end_of_claims n t.claims) same.start ∙ ap (end_of_claims s.start) same.claims

pub tail-claimed : (s : RingState) (c : RingClaim) → tail_of (claimed s c) ≡ end_of_claim c
tail-claimed s c = end_append s.start s.claims c

pub tail-after : (C : ℕ) (s : RingState) (line : RingLine) → claim_of line ≡ None → tail_of (after C s line) ≡ tail_of s
tail-after C s line none = same_tail s (after C s line) (same-after C s line none)

-- ---- a claim before a line

can_claim-before : (C : ℕ) (s t : RingState) (c : RingClaim) → HaveSameClaims s t
    → first_open t.left ≡ first_open s.left → CanClaim C t c → CanClaim C s c
can_claim-before C s t c same blocked can = record {
  type_id = can.type_id;
  short = can.short;
  place = can.place ∙ ap (λ n. next_place C n (span c.length)) (same_tail s t same);
  within = can.within;
  room = subst (λ (o : Option ℕ). MatchOption o (Unit {0}) (λ place. end_of_claim c ≤ place + C)) blocked can.room;
}

can_refuse-after : (C : ℕ) (s : RingState) (c : RingClaim) (p len : ℕ) → (c.producer ≡ p → ⊥) → CanRefuse C s p len
    → CanRefuse C (claimed s c) p len
can_refuse-after C s c p len other can = record {
  short = can.short;
  count = can.count;
  within = omega (arith, can.within, length-append s.claims (c ∷ []));
  since = subst (All (λ d. d.producer ≡ p → ⊥)) (sym (drop-append-le can.count s.claims (c ∷ []) can.within))
      (All-push (λ d. d.producer ≡ p → ⊥) (drop can.count s.claims) c can.since other);
  full = subst (λ (claims : List RingClaim). IsFull C s.start claims len)
      (sym (take-append-le can.count s.claims (c ∷ []) can.within)) can.full;
}

unaborted-more : (left : List RingClaim) (c d : RingClaim) (rest : List RingClaim) → unaborted left ≡ d ∷ rest
    → unaborted (left ++ c ∷ []) ≡ d ∷ (rest ++ c ∷ [])
unaborted-more [] c d rest e = absurd (cc)
unaborted-more (b ∷ left) c d rest e = ⊎_elim
    (λ is. cond-true (is_aborted b.fate) (unaborted (left ++ c ∷ [])) (b ∷ (left ++ c ∷ [])) is
    ∙ unaborted-more left c d rest (sym (cond-true (is_aborted b.fate) (unaborted left) (b ∷ left) is) ∙ e))
    (λ is. cond-false (is_aborted b.fate) (unaborted (left ++ c ∷ [])) (b ∷ (left ++ c ∷ [])) is
    ∙ ap (λ l. l ++ c ∷ []) (sym (cond-false (is_aborted b.fate) (unaborted left) (b ∷ left) is) ∙ e))
    (cases_Bool (is_aborted b.fate))

is_head-more : (at head : ℕ) (left : List RingClaim) (c : RingClaim) → end_of_claims head left ≤ c.place
    → IsHead at head left → IsHead at head (left ++ c ∷ [])
is_head-more at head [] c le is = subst
    (λ (b : Bool). MatchBool b ((at ≡ head) ⊎ (at ≡ c.place))
    ((is_aborted c.fate ≡ true) × IsHead at (end_of_claim c) []))
    (sym (le-leb at c.place (omega (arith, is, le)))) (inl is)
is_head-more at head (d ∷ left) c le is = ⊎_elim
    (λ e. subst (λ (b : Bool). MatchBool b ((at ≡ head) ⊎ (at ≡ d.place))
    ((is_aborted d.fate ≡ true) × IsHead at (end_of_claim d) (left ++ c ∷ []))) (sym e) (MatchBool-at_true _ _ e is))
    (λ e. let past = MatchBool-at_false _ _ e is in
    subst (λ (b : Bool). MatchBool b ((at ≡ head) ⊎ (at ≡ d.place))
    ((is_aborted d.fate ≡ true) × IsHead at (end_of_claim d) (left ++ c ∷ []))) (sym e)
    (past.0, is_head-more at (end_of_claim d) left c le past.1))
    (cases_Bool (nat_le at d.place))

claims_from-more : (at head : ℕ) (left : List RingClaim) (c : RingClaim) → end_of_claims head left ≤ c.place
    → IsHead at head left → claims_from at (left ++ c ∷ []) ≡ claims_from at left ++ c ∷ []
claims_from-more at head [] c le is =
    cond-true (nat_le at c.place) (c ∷ []) [] (le-leb at c.place (omega (arith, is, le)))
claims_from-more at head (d ∷ left) c le is = ⊎_elim
    (λ e. cond-true (nat_le at d.place) (d ∷ (left ++ c ∷ [])) (claims_from at (left ++ c ∷ [])) e
    ∙ ap (λ l. l ++ c ∷ []) (sym (cond-true (nat_le at d.place) (d ∷ left) (claims_from at left) e)))
    (λ e. let past = MatchBool-at_false _ _ e is in
    cond-false (nat_le at d.place) (d ∷ (left ++ c ∷ [])) (claims_from at (left ++ c ∷ [])) e
    ∙ (claims_from-more at (end_of_claim d) left c le past.1
    ∙ ap (λ l. l ++ c ∷ []) (sym (cond-false (nat_le at d.place) (d ∷ left) (claims_from at left) e))))
    (cases_Bool (nat_le at d.place))

-- the claim can be made before the line, and the ring is then in the same state
record Passes (C : ℕ) (s : RingState) (line : RingLine) (c : RingClaim) : Type 0 where
  claim : CanClaim C s c
  later : Allows C (claimed s c) line
  same : after C (claimed s c) line ≡ claimed (after C s line) c

passes-got : (C : ℕ) (s : RingState) (m : RingCopy) (c : RingClaim) (left : List RingClaim) → unaborted s.left ≡ left
    → Shows left m → CanClaim C (passed s left) c → Passes C s (Got m) c
passes-got C s m c [] e shows can = absurd shows
passes-got C s m c (d ∷ left) e shows can =
    let more = unaborted-more s.left c d left e in
    record {
      claim = can_claim-before C s (passed s (d ∷ left)) c (same-passed s (d ∷ left))
          (sym (first_open-shown d m left shows) ∙ (ap first_open (sym e) ∙ first_open-unaborted s.left)) can;
      later = subst (λ (ls : List RingClaim). Shows ls m) (sym more) shows;
      same = ap (passed (claimed s c)) more ∙ ap (λ ls. claimed (passed s ls) c) (sym e);
    }

passes-head : (C at : ℕ) (s : RingState) (c : RingClaim) → IsOrdered C s → IsHead at s.head s.left
    → CanClaim C (moved at s) c → Passes C s (Head at) c
passes-head C at s c its is can =
    let first = can_claim-before C s (moved at s) c record { start = refl; claims = refl }
    (first_open-claims_from at s.head s.left is) can in
    let after : end_of_claims s.head s.left ≤ c.place =
    omega (arith, first.place, its.tail, next_le C (tail_of s) (span c.length)) in
    record {
      claim = first;
      later = is_head-more at s.head s.left c after is;
      same = ap (λ ls. record {
        start = s.start;
        claims = s.claims ++ c ∷ [];
        head = at;
        left = ls;
        read = at;
      }) (claims_from-more at s.head s.left c after is);
    }

-- The line can wait for the claim: it is of another thread, is no claim, and was noted before all producers had
-- returned.
pub record CanWait (c : RingClaim) (line : RingLine) : Type 0 where
  pub early : is_late line ≡ false
  pub no_claim : claim_of line ≡ None
  pub other : thread_of line ≡ c.producer + 1 → ⊥

passes : (C : ℕ) (s : RingState) (line : RingLine) (c : RingClaim) → IsOrdered C s → CanWait c line → Allows C s line
    → CanClaim C (after C s line) c → Passes C s line c
passes C s (Claimed d) c its wait allowed can = let none = wait.no_claim in absurd (cc)
passes C s (Full p len) c its wait allowed can = record {
  claim = can;
  later = can_refuse-after C s c p len (λ e. wait.other (ap (λ n. n + 1) (sym e))) allowed;
  same = refl;
}
passes C s (Got m) c its wait allowed can = passes-got C s m c (unaborted s.left) refl allowed can
passes C s (Head at) c its wait allowed can = passes-head C at s c its allowed can
passes C s (Positions head tail) c its wait allowed can = let early = wait.early in absurd (cc)
passes C s (Word at v) c its wait allowed can = let early = wait.early in absurd (cc)
passes C s Rest c its wait allowed can = let early = wait.early in absurd (cc)
passes C s Empty c its wait allowed can = let early = wait.early in absurd (cc)
passes C s Blank c its wait allowed can = record { claim = can; later = tt; same = refl }

-- ---- a line before several lines

pub claim_first : (C : ℕ) (s : RingState) (xs : List RingLine) (c : RingClaim) (ys : List RingLine) → IsOrdered C s
    → All (CanWait c) xs → Records C s (xs ++ Claimed c ∷ ys)
    → CanClaim C s c × Records C (claimed s c) (xs ++ ys)
claim_first C s [] c ys its wait all = all
claim_first C s (x ∷ xs) c ys its wait all =
    let rest = claim_first C (after C s x) xs c ys (ordered-after C s x all.0 its) (All-tail (CanWait c) x xs wait)
    all.1 in
    let one = passes C s x c its (All-head (CanWait c) x xs wait) all.0 rest.0 in
    (one.claim, (one.later, subst (λ (t : RingState). Records C t (xs ++ ys)) (sym one.same) rest.1))

pub refusal_first : (C : ℕ) (s : RingState) (xs : List RingLine) (p len : ℕ) (ys : List RingLine)
    → All (λ x. claim_of x ≡ None) xs → Records C s (xs ++ Full p len ∷ ys)
    → CanRefuse C s p len × Records C s (xs ++ ys)
refusal_first C s [] p len ys none all = all
refusal_first C s (x ∷ xs) p len ys none all =
    let rest = refusal_first C (after C s x) xs p len ys (All-tail (λ x. claim_of x ≡ None) x xs none) all.1 in
    let same = same-after C s x (All-head (λ x. claim_of x ≡ None) x xs none) in
    let can = rest.0 in (
      record {
        short = can.short;
        count = can.count;
        within = subst (λ (claims : List RingClaim). can.count ≤ length claims) same.claims can.within;
        since = subst (λ (claims : List RingClaim). All (λ d. d.producer ≡ p → ⊥) (drop can.count claims)) same.claims
            can.since;
        full = subst (λ (n : ℕ). IsFull C n (take can.count s.claims) len) same.start
            (subst (λ (claims : List RingClaim). IsFull C (after C s x).start (take can.count claims) len) same.claims
            can.full);
      },
      (all.0, rest.1),
    )

-- ---- the places of claims rise

-- no claim comes before this place
abbrev pub IsFrom : ℕ → RingLine → Type 0
IsFrom place line = MatchOption (claim_of line) (Unit {0}) (λ c. place ≤ c.place)

from_no_claim : (place : ℕ) (line : RingLine) → claim_of line ≡ None → IsFrom place line
from_no_claim place line none = MatchOption-from_none (claim_of line) (λ c. place ≤ c.place) none

is_from-lower : (low high : ℕ) (line : RingLine) → low ≤ high → IsFrom high line → IsFrom low line
is_from-lower low high line le from = by_claim (claim_of line) from
  where
    by_claim : (o : Option RingClaim) → MatchOption o (Unit {0}) (λ c. high ≤ c.place)
        → MatchOption o (Unit {0}) (λ c. low ≤ c.place)
    by_claim None from = tt
    by_claim (Some c) from = omega (arith, from, le)

from-line : (C : ℕ) (s : RingState) (line : RingLine) (lines : List RingLine) (o : Option RingClaim)
    → claim_of line ≡ o → Records C s (line ∷ lines)
    → ((t : RingState) → Records C t lines → All (IsFrom (tail_of t)) lines)
    → All (IsFrom (tail_of s)) (line ∷ lines)
from-line C s line lines None none all rest =
    All-cons (IsFrom (tail_of s)) line lines (from_no_claim (tail_of s) line none)
    (subst (λ (n : ℕ). All (IsFrom n) lines) (tail-after C s line none) (rest (after C s line) all.1))
from-line C s (Claimed d) lines (Some c) its all rest =
    let above : tail_of s ≤ d.place = omega (arith, all.0.place, next_le C (tail_of s) (span d.length)) in
    All-cons (IsFrom (tail_of s)) (Claimed d) lines above
    (All-weaker (IsFrom (tail_of (claimed s d))) (IsFrom (tail_of s))
    (λ l from. is_from-lower (tail_of s) (tail_of (claimed s d)) l (omega (arith, above, tail-claimed s d)) from)
    lines (rest (claimed s d) all.1))
from-line C s (Full p len) lines (Some c) its all rest = absurd (cc)
from-line C s (Got m) lines (Some c) its all rest = absurd (cc)
from-line C s (Head at) lines (Some c) its all rest = absurd (cc)
from-line C s (Positions head tail) lines (Some c) its all rest = absurd (cc)
from-line C s (Word at v) lines (Some c) its all rest = absurd (cc)
from-line C s Rest lines (Some c) its all rest = absurd (cc)
from-line C s Empty lines (Some c) its all rest = absurd (cc)
from-line C s Blank lines (Some c) its all rest = absurd (cc)

-- claims are at or after the tail
pub from_tail : (C : ℕ) (s : RingState) (lines : List RingLine) → Records C s lines → All (IsFrom (tail_of s)) lines
from_tail C s [] all = All-nil (IsFrom (tail_of s))
from_tail C s (line ∷ lines) all =
    from-line C s line lines (claim_of line) refl all (λ t records. from_tail C t lines records)
