-- The first claims of lists of lines.
use Rattle.std.proofs.Common.{◌≡◌, ℕ, ◌+◌, ◌≤◌, List, [], ◌∷◌, ◌++◌, sym, refl, ap, ◌∙◌, ⊎_elim, subst, Option, Some, None, All, MatchOption}
use Rattle.std.proofs.lemmas.Bool.{cases_eq}
use Rattle.std.proofs.lemmas.List.Elements.{All-cons, All-head, All-nil, All-tail}
use Rattle.ring_layout.specs.Lists.{or_else}
use Rattle.ring_judge.specs.declared.ring.{RingClaim.RingClaim, RingLine.RingLine, order.NumberedLine.NumberedLine}
use Rattle.ring_judge.specs.declared.ring.RingLine.TheVariants.{Claimed, Full, Got, Head, Positions, Word, Rest, Empty, Blank}
use Rattle.ring_judge.specs.{Threads.lines_of, Threads.thread_of, Merged.claim_of, Merged.first_claim}
use Rattle.ring_judge.proofs.{HistoryLemmas.IsFrom, ThreadLemmas.other, ThreadLemmas.own}

or_else-assoc : (a b c : Option RingClaim) → or_else a (or_else b c) ≡ or_else (or_else a b) c
or_else-assoc (Some x) b c = refl
or_else-assoc None b c = refl

pub or_else-none : (a b : Option RingClaim) → or_else a b ≡ None → (a ≡ None) × (b ≡ None)
or_else-none (Some x) b e = absurd (cc)
or_else-none None b e = (refl, e)

pub first_claim-append : (xs ys : List NumberedLine)
    → first_claim (xs ++ ys) ≡ or_else (first_claim xs) (first_claim ys)
first_claim-append [] ys = refl
first_claim-append (x ∷ xs) ys = ap (or_else (claim_of x.line)) (first_claim-append xs ys)
    ∙ or_else-assoc (claim_of x.line) (first_claim xs) (first_claim ys)

pub first_claim-begins : (xs ys : List NumberedLine) (c : RingClaim) → first_claim xs ≡ Some c
    → first_claim (xs ++ ys) ≡ Some c
first_claim-begins xs ys c e = first_claim-append xs ys ∙ ap (λ o. or_else o (first_claim ys)) e

pub first_claim-after : (xs ys : List NumberedLine) → first_claim xs ≡ None → first_claim (xs ++ ys) ≡ first_claim ys
first_claim-after xs ys e = first_claim-append xs ys ∙ ap (λ o. or_else o (first_claim ys)) e

pub thread_of-claim : (line : RingLine) (c : RingClaim) → claim_of line ≡ Some c → c.producer + 1 ≡ thread_of line
thread_of-claim (Claimed d) c e = let same : c ≡ d = cc in ap (λ x. x.producer + 1) same
thread_of-claim (Full p len) c e = absurd (cc)
thread_of-claim (Got m) c e = absurd (cc)
thread_of-claim (Head at) c e = absurd (cc)
thread_of-claim (Positions head tail) c e = absurd (cc)
thread_of-claim (Word at v) c e = absurd (cc)
thread_of-claim Rest c e = absurd (cc)
thread_of-claim Empty c e = absurd (cc)
thread_of-claim Blank c e = absurd (cc)

-- the first claim is also the first one of its thread
pub first_of_thread : (lines : List NumberedLine) (c : RingClaim) → first_claim lines ≡ Some c
    → first_claim (lines_of (c.producer + 1) lines) ≡ Some c
first_of_thread [] c e = absurd (cc)
first_of_thread (l ∷ lines) c e = of_line l lines c (claim_of l.line) refl e (first_of_thread lines c)
  where
    of_line : (l : NumberedLine) (lines : List NumberedLine) (c : RingClaim) (o : Option RingClaim)
        → claim_of l.line ≡ o → or_else (claim_of l.line) (first_claim lines) ≡ Some c
        → (first_claim lines ≡ Some c → first_claim (lines_of (c.producer + 1) lines) ≡ Some c)
        → first_claim (lines_of (c.producer + 1) (l ∷ lines)) ≡ Some c
    of_line l lines c (Some d) is e rest =
        let same : d ≡ c = let f = ap (λ o. or_else o (first_claim lines)) is in cc in
        let thread = sym (thread_of-claim l.line c (is ∙ ap Some same)) in
        ap first_claim (own (c.producer + 1) l lines thread)
        ∙ (ap (λ o. or_else o (first_claim (lines_of (c.producer + 1) lines))) is ∙ ap Some same)
    of_line l lines c None is e rest =
        let later = rest (sym (ap (λ o. or_else o (first_claim lines)) is) ∙ e) in ⊎_elim
        (λ same. ap first_claim (own (c.producer + 1) l lines same)
        ∙ (ap (λ o. or_else o (first_claim (lines_of (c.producer + 1) lines))) is ∙ later))
        (λ ne. ap first_claim (other (c.producer + 1) l lines ne) ∙ later)
        (cases_eq (thread_of l.line) (c.producer + 1))

pub none_of_thread : (t : ℕ) (lines : List NumberedLine) → first_claim lines ≡ None
    → first_claim (lines_of t lines) ≡ None
none_of_thread t [] e = refl
none_of_thread t (l ∷ lines) e = let both = or_else-none (claim_of l.line) (first_claim lines) e in ⊎_elim
    (λ same. ap first_claim (own t l lines same) ∙ (ap (λ o. or_else o (first_claim (lines_of t lines))) both.0
    ∙ none_of_thread t lines both.1))
    (λ ne. ap first_claim (other t l lines ne) ∙ none_of_thread t lines both.1)
    (cases_eq (thread_of l.line) t)

pub no_claims : (lines : List NumberedLine) → first_claim lines ≡ None → All (λ l. claim_of l.line ≡ None) lines
no_claims [] e = All-nil (λ l. claim_of l.line ≡ None)
no_claims (l ∷ lines) e = let both = or_else-none (claim_of l.line) (first_claim lines) e in
    All-cons (λ m. claim_of m.line ≡ None) l lines both.0 (no_claims lines both.1)

-- the place of the first claim, if each claim is at or after some place
pub first_from : (place : ℕ) (lines : List NumberedLine) (c : RingClaim) → All (λ l. IsFrom place l.line) lines
    → first_claim lines ≡ Some c → place ≤ c.place
first_from place [] c from e = absurd (cc)
first_from place (l ∷ lines) c from e = of_line (claim_of l.line) refl
    (All-head (λ m. IsFrom place m.line) l lines from)
    (first_from place lines c (All-tail (λ m. IsFrom place m.line) l lines from)) e
  where
    of_line : (o : Option RingClaim) → claim_of l.line ≡ o → IsFrom place l.line
        → (first_claim lines ≡ Some c → place ≤ c.place)
        → or_else (claim_of l.line) (first_claim lines) ≡ Some c → place ≤ c.place
    of_line (Some d) is from rest e =
        let same : d ≡ c = let f = ap (λ o. or_else o (first_claim lines)) is in cc in
        let le : place ≤ d.place = subst (λ o. MatchOption o (Unit {0}) (λ x. place ≤ x.place)) is from in
        subst (λ (x : RingClaim). place ≤ x.place) same le
    of_line None is from rest e = rest (sym (ap (λ o. or_else o (first_claim lines)) is) ∙ e)

pub not_claim : (line : RingLine) → ((c : RingClaim) → line ≡ Claimed c → ⊥) → claim_of line ≡ None
not_claim (Claimed c) not = absurd (not c refl)
not_claim (Full p len) not = refl
not_claim (Got m) not = refl
not_claim (Head at) not = refl
not_claim (Positions head tail) not = refl
not_claim (Word at v) not = refl
not_claim Rest not = refl
not_claim Empty not = refl
not_claim Blank not = refl

pub no_claim_in_threads : (lines : List NumberedLine) → ((t : ℕ) → first_claim (lines_of t lines) ≡ None)
    → first_claim lines ≡ None
no_claim_in_threads lines none = by_claim (first_claim lines) refl
  where
    by_claim : (o : Option RingClaim) → first_claim lines ≡ o → first_claim lines ≡ None
    by_claim None is = is
    by_claim (Some c) is = let its = first_of_thread lines c is in let no = none (c.producer + 1) in absurd (cc)
