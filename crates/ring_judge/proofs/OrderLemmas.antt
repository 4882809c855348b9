-- If the threads can have made their calls in some order, they can have made the calls in an arranged order.
use Rattle.std.proofs.Common.{◌≡◌, ℕ, ◌+◌, ◌<◌, ◌≤◌, List, [], ◌∷◌, ◌++◌, length, take, drop, true, false, sym, refl, ap, ◌∙◌, ⊎_elim, subst, arith, Option, Some, None, ◌==◌, All, MatchOption, take-append-drop, take_all}
use Rattle.std.proofs.lemmas.{Bool.cases_Bool, Bool.cases_eq, List.length-map, List.map-append, List.take-map}
use Rattle.std.proofs.lemmas.List.Elements.{All-cons, All-filter, All-head, All-map, All-nil, All-tail, All-weaker}
use Rattle.ring_layout.specs.Lists.{or_else}
use Rattle.ring_judge.specs.declared.ring.{RingClaim.RingClaim, RingLine.RingLine, order.NumberedLine.NumberedLine}
use Rattle.ring_judge.specs.declared.ring.RingLine.TheVariants.{Claimed, Full, Got, Head, Positions, Word, Rest, Empty, Blank}
use Rattle.ring_judge.specs.declared.verdict.Verdict.{Verdict, TheVariants.Yes, TheVariants.No}
use Rattle.ring_judge.specs.{Verdicts.IsRightVerdict, Threads.SameThreads, Threads.lines_of, Threads.thread_of}
use Rattle.ring_judge.specs.Ring.{Allows, JudgesRing, Records, RingState, after, claimed, end_of_claim, fresh}
use Rattle.ring_judge.specs.Histories.{EndsLate, HasHistory, IsBest, IsHistory, calls, is_late}
use Rattle.ring_judge.specs.Merged.{IsArranged, IsTurn, NoneBefore, claim_of, first_claim}
use Rattle.ring_judge.proofs.HistoryLemmas.{IsFrom, IsOrdered, claim_first, from_tail, ordered-after, refusal_first, tail-claimed}
use Rattle.ring_judge.proofs.ListLemmas.{all_front, all_later, all_without}
use Rattle.ring_judge.proofs.FirstLemmas.{first_claim-begins, first_from, first_of_thread, no_claims, none_of_thread}
use Rattle.ring_judge.proofs.ThreadLemmas.{AreOthers, lines_of-append, no_others, other, own, split_first}

-- ---- the claims of a history

all_of_calls : (P : RingLine → Type 0) (lines : List NumberedLine) → All P (calls lines) → All (λ l. P l.line) lines
all_of_calls P [] all = All-nil (λ l. P l.line)
all_of_calls P (l ∷ lines) all = All-cons (λ m. P m.line) l lines (All-head P l.line (calls lines) all)
    (all_of_calls P lines (All-tail P l.line (calls lines) all))

after_claim : (C : ℕ) (s : RingState) (line : RingLine) (c : RingClaim) (lines : List RingLine)
    → claim_of line ≡ Some c → Records C s (line ∷ lines) → All (IsFrom (end_of_claim c)) lines
after_claim C s (Claimed d) c lines e all = let same : d ≡ c = cc in
    subst (λ (x : RingClaim). All (IsFrom (end_of_claim x)) lines) same
    (subst (λ (n : ℕ). All (IsFrom n) lines) (tail-claimed s d) (from_tail C (claimed s d) lines all.1))
after_claim C s (Full p len) c lines e all = absurd (cc)
after_claim C s (Got m) c lines e all = absurd (cc)
after_claim C s (Head at) c lines e all = absurd (cc)
after_claim C s (Positions head tail) c lines e all = absurd (cc)
after_claim C s (Word at v) c lines e all = absurd (cc)
after_claim C s Rest c lines e all = absurd (cc)
after_claim C s Empty c lines e all = absurd (cc)
after_claim C s Blank c lines e all = absurd (cc)

-- later claims of a history have later places
rises : (C : ℕ) (s : RingState) (xs ys : List NumberedLine) (d : RingClaim) → first_claim xs ≡ Some d
    → Records C s (calls (xs ++ ys)) → All (λ l. IsFrom (end_of_claim d) l.line) ys
rises C s [] ys d e all = absurd (cc)
rises C s (x ∷ xs) ys d e all = of_line (claim_of x.line) refl e (λ f. rises C (after C s x.line) xs ys d f all.1)
  where
    of_line : (o : Option RingClaim) → claim_of x.line ≡ o → or_else (claim_of x.line) (first_claim xs) ≡ Some d
        → (first_claim xs ≡ Some d → All (λ l. IsFrom (end_of_claim d) l.line) ys)
        → All (λ l. IsFrom (end_of_claim d) l.line) ys
    of_line (Some c) is e rest =
        let same : c ≡ d = let f = ap (λ o. or_else o (first_claim xs)) is in cc in
        all_later (λ l. IsFrom (end_of_claim d) l.line) xs ys
        (all_of_calls (IsFrom (end_of_claim d)) (xs ++ ys)
        (after_claim C s x.line d (calls (xs ++ ys)) (is ∙ ap Some same) all))
    of_line None is e rest = rest (sym (ap (λ o. or_else o (first_claim xs)) is) ∙ e)

-- A line whose turn it is, among other threads' lines: no claim comes before it in a history.
no_claim_before : (C : ℕ) (s : RingState) (lines order xs ys : List NumberedLine) (l : NumberedLine)
    → IsTurn (thread_of l.line) lines → SameThreads order lines → order ≡ xs ++ l ∷ ys
    → AreOthers (thread_of l.line) xs → Records C s (calls order) → first_claim xs ≡ None
no_claim_before C s lines order xs ys l turn same is others all = by_claim (first_claim xs) refl
  where
    u : ℕ
    u = thread_of l.line

    contradiction : (d c : RingClaim) → first_claim xs ≡ Some d → first_claim lines ≡ Some c → ⊥
    contradiction d c first next =
        let its : (c.producer + 1 ≡ u) × NoneBefore c.place lines =
        subst (λ o. MatchOption o (Unit {0}) (λ x. (x.producer + 1 ≡ u) × NoneBefore x.place lines)) next turn in
        let of_d : first_claim (lines_of (d.producer + 1) lines) ≡ Some d =
        ap first_claim (sym (same (d.producer + 1))) ∙ first_of_thread order d
        (ap first_claim is ∙ first_claim-begins xs (l ∷ ys) d first) in
        let le : c.place ≤ d.place =
        subst (λ o. MatchOption o (Unit {0}) (λ x. c.place ≤ x.place)) of_d (its.1 (d.producer + 1)) in
        let own_lines : lines_of u (l ∷ ys) ≡ lines_of u lines =
        sym (ap (λ ls. ls ++ lines_of u (l ∷ ys)) (no_others u xs others))
        ∙ (sym (lines_of-append u xs (l ∷ ys)) ∙ (sym (ap (lines_of u) is) ∙ same u)) in
        let of_c : first_claim (lines_of u (l ∷ ys)) ≡ Some c = ap first_claim own_lines
        ∙ subst (λ (t : ℕ). first_claim (lines_of t lines) ≡ Some c) its.0 (first_of_thread lines c next) in
        let above : end_of_claim d ≤ c.place = first_from (end_of_claim d) (lines_of u (l ∷ ys)) c
        (All-filter (λ m. thread_of m.line == u) (λ m. IsFrom (end_of_claim d) m.line) (l ∷ ys)
        (rises C s xs (l ∷ ys) d first (subst (λ ls. Records C s (calls ls)) is all))) of_c in
        omega (arith, le, above)

    by_next : (d : RingClaim) (o : Option RingClaim) → first_claim xs ≡ Some d → first_claim lines ≡ o → ⊥
    by_next d None first none =
        let of_d : first_claim (lines_of (d.producer + 1) lines) ≡ Some d =
        ap first_claim (sym (same (d.producer + 1))) ∙ first_of_thread order d
        (ap first_claim is ∙ first_claim-begins xs (l ∷ ys) d first) in
        let no = none_of_thread (d.producer + 1) lines none in cc
    by_next d (Some c) first next = contradiction d c first next

    by_claim : (o : Option RingClaim) → first_claim xs ≡ o → first_claim xs ≡ None
    by_claim None none = none
    by_claim (Some d) first = absurd (by_next d (first_claim lines) first refl)

-- ---- one line after another

-- no line before a line of a producer was noted after all producers had returned
early : (xs : List NumberedLine) (l : NumberedLine) (ys : List NumberedLine) → (thread_of l.line ≡ 0 → ⊥)
    → EndsLate (xs ++ l ∷ ys) → All (λ m. is_late m.line ≡ false) xs
early [] l ys ne ends = All-nil (λ m. is_late m.line ≡ false)
early (x ∷ xs) l ys ne ends = All-cons (λ m. is_late m.line ≡ false) x xs
    (⊎_elim
    (λ late. absurd (ne (All-head (λ m. thread_of m.line ≡ 0) l ys
    (all_later (λ m. thread_of m.line ≡ 0) xs (l ∷ ys) (ends.0 late)))))
    (λ is. is) (cases_Bool (is_late x.line)))
    (early xs l ys ne ends.1)

ends_without : (xs : List NumberedLine) (l : NumberedLine) (ys : List NumberedLine) → EndsLate (xs ++ l ∷ ys)
    → EndsLate (xs ++ ys)
ends_without [] l ys ends = ends.1
ends_without (x ∷ xs) l ys ends =
    (λ late. all_without (λ m. thread_of m.line ≡ 0) xs l ys (ends.0 late), ends_without xs l ys ends.1)

same_without : (order xs ys lines : List NumberedLine) (l : NumberedLine) → order ≡ xs ++ l ∷ ys
    → SameThreads order (l ∷ lines) → AreOthers (thread_of l.line) xs
    → lines_of (thread_of l.line) ys ≡ lines_of (thread_of l.line) lines → SameThreads (xs ++ ys) lines
same_without order xs ys lines l is same others rest t = ⊎_elim
    (λ e. subst (λ (u : ℕ). lines_of u (xs ++ ys) ≡ lines_of u lines) (sym e)
    (lines_of-append (thread_of l.line) xs ys
    ∙ (ap (λ ls. ls ++ lines_of (thread_of l.line) ys) (no_others (thread_of l.line) xs others) ∙ rest)))
    (λ ne. let gone : (ls : List NumberedLine) → lines_of t (l ∷ ls) ≡ lines_of t ls =
    λ ls. other t l ls (λ e. ne (sym e)) in
    lines_of-append t xs ys ∙ (ap (λ ls. lines_of t xs ++ ls) (sym (gone ys))
    ∙ (sym (lines_of-append t xs (l ∷ ys)) ∙ (sym (ap (lines_of t) is) ∙ (same t ∙ gone lines)))))
    (cases_eq t (thread_of l.line))

-- all lines are of the consumer, if those of each producer are none
only_consumers : (lines : List NumberedLine) → ((t : ℕ) → (t ≡ 0 → ⊥) → lines_of t lines ≡ [])
    → lines_of 0 lines ≡ lines
only_consumers [] none = refl
only_consumers (l ∷ lines) none = ⊎_elim
    (λ e. own 0 l lines e ∙ ap (λ ls. l ∷ ls) (only_consumers lines
    (λ t ne. sym (other t l lines (λ is. ne (sym is ∙ e))) ∙ none t ne)))
    (λ ne. let its = own (thread_of l.line) l lines refl in let no = none (thread_of l.line) ne in absurd (cc))
    (cases_eq (thread_of l.line) 0)

consumers_lines : (t : ℕ) (lines : List NumberedLine) → All (λ m. thread_of m.line ≡ 0) lines → (t ≡ 0 → ⊥)
    → lines_of t lines ≡ []
consumers_lines t lines all ne = no_others t lines
    (All-weaker (λ m. thread_of m.line ≡ 0) (λ m. thread_of m.line ≡ t → ⊥) (λ m is e. ne (sym e ∙ is)) lines all)

same_consumers : (order lines : List NumberedLine) → SameThreads order lines
    → All (λ m. thread_of m.line ≡ 0) lines → order ≡ lines
same_consumers order lines same all =
    sym (only_consumers order (λ t ne. same t ∙ consumers_lines t lines all ne))
    ∙ (same 0 ∙ only_consumers lines (λ t ne. consumers_lines t lines all ne))

-- the line of a producer can come first
line_first : (C : ℕ) (s : RingState) (line : RingLine) (xs ys : List RingLine) → IsOrdered C s
    → (thread_of line ≡ 0 → ⊥) → All (λ x. thread_of x ≡ thread_of line → ⊥) xs
    → All (λ x. is_late x ≡ false) xs → All (λ x. claim_of x ≡ None) xs → Records C s (xs ++ line ∷ ys)
    → Records C s (line ∷ (xs ++ ys))
line_first C s (Claimed c) xs ys its ne others early none all = claim_first C s xs c ys its
    (λ k d lt. record { early = early k d lt; no_claim = none k d lt; other = others k d lt }) all
line_first C s (Full p len) xs ys its ne others early none all = refusal_first C s xs p len ys none all
line_first C s (Got m) xs ys its ne others early none all = absurd (ne refl)
line_first C s (Head at) xs ys its ne others early none all = absurd (ne refl)
line_first C s (Positions head tail) xs ys its ne others early none all = absurd (ne refl)
line_first C s (Word at v) xs ys its ne others early none all = absurd (ne refl)
line_first C s Rest xs ys its ne others early none all = absurd (ne refl)
line_first C s Empty xs ys its ne others early none all = absurd (ne refl)
line_first C s Blank xs ys its ne others early none all = absurd (ne refl)

calls-append : (xs ys : List NumberedLine) → calls (xs ++ ys) ≡ calls xs ++ calls ys
calls-append xs ys = map-append (λ l. l.line) xs ys

-- what is left to say of the lines after the first one
record Leads (C : ℕ) (s : RingState) (l : NumberedLine) (lines : List NumberedLine) : Type 0 where
  allowed : Allows C s l.line
  order : List NumberedLine
  same : SameThreads order lines
  ends : EndsLate order
  recorded : Records C (after C s l.line) (calls order)

leads : (C : ℕ) (s : RingState) (l : NumberedLine) (lines order : List NumberedLine) → IsOrdered C s
    → (thread_of l.line ≡ 0 → ⊥) → IsTurn (thread_of l.line) (l ∷ lines) → SameThreads order (l ∷ lines)
    → EndsLate order → Records C s (calls order) → Leads C s l lines
leads C s l lines order its ne turn same ends all = let u = thread_of l.line in
    let split = split_first u order l (lines_of u lines) (same u ∙ own u l lines refl) in
    let xs = split.before in let ys = split.later in
    let none = no_claim_before C s (l ∷ lines) order xs ys l turn same split.is split.others all in
    let ends' : EndsLate (xs ++ l ∷ ys) = subst EndsLate split.is ends in
    let first = line_first C s l.line (calls xs) (calls ys) its ne
    (All-map (λ x. thread_of x ≡ u → ⊥) (λ m. m.line) xs split.others)
    (All-map (λ x. is_late x ≡ false) (λ m. m.line) xs (early xs l ys ne ends'))
    (All-map (λ x. claim_of x ≡ None) (λ m. m.line) xs (no_claims xs none))
    (subst (Records C s) (ap calls split.is ∙ calls-append xs (l ∷ ys)) all) in
    record {
      allowed = first.0;
      order = xs ++ ys;
      same = same_without order xs ys lines l split.is same split.others split.left;
      ends = ends_without xs l ys ends';
      recorded = subst (Records C (after C s l.line)) (sym (calls-append xs ys)) first.1;
    }

-- a ring can record the lines in an arranged order, if it can record them in any order
pub arranged_recorded : (C : ℕ) (s : RingState) (lines order : List NumberedLine) → IsOrdered C s → IsArranged lines
    → SameThreads order lines → EndsLate order → Records C s (calls order) → Records C s (calls lines)
arranged_recorded C s [] order its arranged same ends all = tt
arranged_recorded C s (l ∷ lines) order its arranged same ends all = ⊎_elim
    (λ e. subst (λ ls. Records C s (calls ls)) (same_consumers order (l ∷ lines) same
    (All-cons (λ m. thread_of m.line ≡ 0) l lines e (arranged.1 e))) all)
    (λ ne. let led = leads C s l lines order its ne arranged.0 same ends all in (
      led.allowed,
      arranged_recorded C (after C s l.line) lines led.order
          (ordered-after C s l.line led.allowed its) arranged.2 led.same led.ends led.recorded,
    ))
    (cases_eq (thread_of l.line) 0)

-- ---- what is true of an arranged order

late_is_consumers : (line : RingLine) → is_late line ≡ true → thread_of line ≡ 0
late_is_consumers (Claimed c) late = absurd (cc)
late_is_consumers (Full p len) late = absurd (cc)
late_is_consumers (Got m) late = refl
late_is_consumers (Head at) late = refl
late_is_consumers (Positions head tail) late = refl
late_is_consumers (Word at v) late = refl
late_is_consumers Rest late = refl
late_is_consumers Empty late = refl
late_is_consumers Blank late = refl

pub arranged_ends : (lines : List NumberedLine) → IsArranged lines → EndsLate lines
arranged_ends [] arranged = tt
arranged_ends (l ∷ lines) arranged =
    (λ late. arranged.1 (late_is_consumers l.line late), arranged_ends lines arranged.2)

none_before-front : (place : ℕ) (xs ys : List NumberedLine) → NoneBefore place (xs ++ ys) → NoneBefore place xs
none_before-front place xs ys none t = by_claim (first_claim (lines_of t xs)) refl
  where
    by_claim : (o : Option RingClaim) → first_claim (lines_of t xs) ≡ o
        → MatchOption (first_claim (lines_of t xs)) (Unit {0}) (λ d. place ≤ d.place)
    by_claim None is = subst (λ o. MatchOption o (Unit {0}) (λ d. place ≤ d.place)) (sym is) tt
    by_claim (Some d) is = subst (λ o. MatchOption o (Unit {0}) (λ d. place ≤ d.place))
        (ap first_claim (lines_of-append t xs ys)
        ∙ (first_claim-begins (lines_of t xs) (lines_of t ys) d is ∙ sym is)) (none t)

turn-front : (t : ℕ) (xs ys : List NumberedLine) → IsTurn t (xs ++ ys) → IsTurn t xs
turn-front t xs ys turn = by_claim (first_claim xs) refl
  where
    by_claim : (o : Option RingClaim) → first_claim xs ≡ o → IsTurn t xs
    by_claim None is = subst
        (λ o. MatchOption o (Unit {0}) (λ c. (c.producer + 1 ≡ t) × NoneBefore c.place xs)) (sym is) tt
    by_claim (Some c) is =
        let its : (c.producer + 1 ≡ t) × NoneBefore c.place (xs ++ ys) =
        subst (λ o. MatchOption o (Unit {0}) (λ c. (c.producer + 1 ≡ t) × NoneBefore c.place (xs ++ ys)))
        (first_claim-begins xs ys c is) turn in
        subst (λ o. MatchOption o (Unit {0}) (λ c. (c.producer + 1 ≡ t) × NoneBefore c.place xs)) (sym is)
        (its.0, none_before-front c.place xs ys its.1)

arranged-front : (xs ys : List NumberedLine) → IsArranged (xs ++ ys) → IsArranged xs
arranged-front [] ys arranged = tt
arranged-front (x ∷ xs) ys arranged = (
  turn-front (thread_of x.line) (x ∷ xs) ys arranged.0,
  λ e. all_front (λ m. thread_of m.line ≡ 0) xs ys (arranged.1 e),
  arranged-front xs ys arranged.2,
)

pub arranged-take : (k : ℕ) (lines : List NumberedLine) → IsArranged lines → IsArranged (take k lines)
arranged-take k lines arranged = arranged-front (take k lines) (drop k lines)
    (subst IsArranged (sym (take-append-drop k lines)) arranged)

pub is_history : (C start : ℕ) (lines : List NumberedLine) → EndsLate lines → Records C (fresh start) (calls lines)
    → IsHistory C start lines lines
is_history C start lines ends recorded = record { threads = λ t. refl; ends = ends; recorded = recorded }

pub arranged_is_best : (lines : List NumberedLine) → IsArranged lines → IsBest lines
arranged_is_best lines arranged C start k history = let first = arranged-take k lines arranged in
    let its = history.1 in
    is_history C start (take k lines) (arranged_ends (take k lines) first)
    (arranged_recorded C (fresh start) (take k lines) history.0 record { order = tt; tail = refl } first its.threads
    its.ends its.recorded)

-- ---- the verdict

ends-front : (xs ys : List NumberedLine) → EndsLate (xs ++ ys) → EndsLate xs
ends-front [] ys ends = tt
ends-front (x ∷ xs) ys ends = (
  λ late. all_front (λ m. thread_of m.line ≡ 0) xs ys (ends.0 late),
  ends-front xs ys ends.1,
)

ends-take : (k : ℕ) (lines : List NumberedLine) → EndsLate lines → EndsLate (take k lines)
ends-take k lines ends = ends-front (take k lines) (drop k lines)
    (subst EndsLate (sym (take-append-drop k lines)) ends)

best_recorded : (C start k : ℕ) (lines : List NumberedLine) → IsBest lines → HasHistory C start (take k lines)
    → Records C (fresh start) (take k (calls lines))
best_recorded C start k lines best history = let its = best C start k history in
    subst (Records C (fresh start)) (sym (take-map (λ l. l.line) k lines)) its.recorded

-- the verdict on the lines in the best order is the verdict on all orders
pub judges_threads : (C start : ℕ) (lines : List NumberedLine) (verdict : Verdict) → EndsLate lines → IsBest lines
    → JudgesRing C start (calls lines) verdict → IsRightVerdict (λ all some. HasHistory C start some) lines verdict
judges_threads C start lines Yes ends best right = (lines, is_history C start lines ends right)
judges_threads C start lines (No k) ends best right = record {
  within = subst (λ (n : ℕ). k < n) (length-map lines (λ l. l.line)) right.within;
  before = (
    take k lines,
    is_history C start (take k lines) (ends-take k lines ends)
        (subst (Records C (fresh start)) (take-map (λ l. l.line) k lines) right.before),
  );
  at_line = λ history. right.at_line (best_recorded C start (k + 1) lines best history);
  whole = λ history. right.whole (subst (Records C (fresh start))
      (take_all (length lines) (calls lines) (omega (arith, length-map lines (λ l. l.line))))
      (best_recorded C start (length lines) lines best
      (subst (HasHistory C start) (sym (take_all (length lines) lines (omega arith))) history)));
}
