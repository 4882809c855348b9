-- Lines that are taken from several lists, in the order of their claims.
use Rattle.std.proofs.Common.{◌≡◌, ℕ, ◌+◌, ◌-◌, ◌<◌, ◌≤◌, ◌⊎◌, List, [], ◌∷◌, ◌++◌, length, take, drop, get_or, set, zero, suc, inl, inr, sym, refl, ap, ◌∙◌, ⊎_elim, subst, arith, append_assoc, get_or-set_other, get_or-set_same, Some, None, All, MatchOption, append-nil, drop-drop, get_or-drop, length-drop, length-set, take-append-drop}
use Rattle.std.proofs.lemmas.{Bool.cases_eq, Bool.cases_lt, List.drop_all, List.get_or_past, List.take_more}
use Rattle.std.proofs.lemmas.List.Elements.{All-append, All-drop, All-head, All-nil, All-tail, All-take}
use Rattle.ring_layout.specs.Lists.{or_else}
use Rattle.ring_judge.specs.declared.ring.{RingClaim.RingClaim, merged.Merging.Merging}
use Rattle.ring_judge.specs.declared.ring.{RingLine.TheVariants.Claimed, order.NumberedLine.NumberedLine}
use Rattle.ring_judge.specs.Threads.{lines_of, thread_of}
use Rattle.ring_judge.specs.Merged.{AreLeft, AreLists, AreMerged, IsArranged, IsNextClaim, IsTurn, NoClaims, NoneBefore, TakesTo, block_of, claim_of, first_claim, left_in, left_of}
use Rattle.ring_judge.proofs.ThreadLemmas.{lines_of-append, no_lines_in_threads, other, other_lines, own, own_lines}
use Rattle.ring_judge.proofs.FirstLemmas.{first_claim-after, first_claim-begins, no_claim_in_threads, or_else-none, thread_of-claim}

-- ---- the next claim of a list

-- one line more of those from the index `from` on
front_more : (list : List NumberedLine) (from at : ℕ) (d : NumberedLine) → from ≤ at → at < length list
    → take (at + 1 - from) (drop from list) ≡ take (at - from) (drop from list) ++ get_or list at d ∷ []
front_more list from at d ahead lt =
    let within : at - from < length (drop from list) = omega (arith, length-drop from list, ahead, lt) in
    ap (λ n. take n (drop from list)) (omega (arith, ahead))
    ∙ (take_more (drop from list) (at - from) d within
    ∙ ap (λ l. take (at - from) (drop from list) ++ l ∷ [])
    (get_or-drop from list (at - from) d ∙ ap (λ n. get_or list n d) (omega (arith, ahead))))

pub none_more : (list : List NumberedLine) (from at : ℕ) (d : NumberedLine) → from ≤ at → at < length list
    → first_claim (take (at - from) (drop from list)) ≡ None → claim_of (get_or list at d).line ≡ None
    → first_claim (take (at + 1 - from) (drop from list)) ≡ None
none_more list from at d ahead lt none its = ap first_claim (front_more list from at d ahead lt)
    ∙ (first_claim-after (take (at - from) (drop from list)) (get_or list at d ∷ []) none
    ∙ ap (λ o. or_else o None) its)

pub one_found : (list : List NumberedLine) (from at : ℕ) (d : NumberedLine) (c : RingClaim) → from ≤ at
    → at < length list → first_claim (take (at - from) (drop from list)) ≡ None → (get_or list at d).line ≡ Claimed c
    → IsNextClaim list from (at + 1) c.place
one_found list from at d c ahead lt none is = record {
  after = omega (arith, ahead);
  within = omega (arith, lt);
  front = take (at - from) (drop from list);
  line = get_or list at d;
  claim = c;
  block = front_more list from at d ahead lt;
  none = none;
  is_claim = is;
  its_place = refl;
}

pub next_is_first : (list : List NumberedLine) (from end place : ℕ) (next : IsNextClaim list from end place)
    → first_claim (drop from list) ≡ Some next.claim
next_is_first list from end place next =
    ap first_claim (sym (take-append-drop (end - from) (drop from list)))
    ∙ first_claim-begins (take (end - from) (drop from list)) (drop (end - from) (drop from list)) next.claim
    (ap first_claim next.block ∙ (first_claim-after next.front (next.line ∷ []) next.none
    ∙ ap (λ o. or_else o None) (ap claim_of next.is_claim)))

-- the next claim has another place
pub other_place : (list : List NumberedLine) (from end its_place place : ℕ) → IsNextClaim list from end its_place
    → (its_place ≡ place → ⊥) → (c : RingClaim) → first_claim (drop from list) ≡ Some c → c.place ≡ place → ⊥
other_place list from end its_place place next ne c first same =
    let its = next_is_first list from end its_place next in
    let e : next.claim ≡ c = cc in ne (sym next.its_place ∙ (ap (λ x. x.place) e ∙ same))

-- ---- lines before an arranged order

skip_line : (t : ℕ) (l : NumberedLine) (lines : List NumberedLine) → claim_of l.line ≡ None
    → first_claim (lines_of t (l ∷ lines)) ≡ first_claim (lines_of t lines)
skip_line t l lines none = ⊎_elim
    (λ same. ap first_claim (own t l lines same) ∙ ap (λ o. or_else o (first_claim (lines_of t lines))) none)
    (λ ne. ap first_claim (other t l lines ne)) (cases_eq (thread_of l.line) t)

none_before-skip : (place : ℕ) (l : NumberedLine) (lines : List NumberedLine) → claim_of l.line ≡ None
    → NoneBefore place (l ∷ lines) → NoneBefore place lines
none_before-skip place l lines none before t =
    subst (λ o. MatchOption o (Unit {0}) (λ c. place ≤ c.place)) (skip_line t l lines none) (before t)

turn-of : (u : ℕ) (c : RingClaim) (lines : List NumberedLine) → first_claim lines ≡ Some c → c.producer + 1 ≡ u
    → NoneBefore c.place lines → IsTurn u lines
turn-of u c lines first its none = subst
    (λ o. MatchOption o (Unit {0}) (λ c. (c.producer + 1 ≡ u) × NoneBefore c.place lines)) (sym first) (its, none)

turn-none : (u : ℕ) (lines : List NumberedLine) → first_claim lines ≡ None → IsTurn u lines
turn-none u lines none = subst
    (λ o. MatchOption o (Unit {0}) (λ c. (c.producer + 1 ≡ u) × NoneBefore c.place lines)) (sym none) tt

-- the lines of a producer up to its next claim, if no thread has a claim before it
pub block_arranged : (front : List NumberedLine) (l : NumberedLine) (c : RingClaim) (left : List NumberedLine)
    → first_claim front ≡ None → claim_of l.line ≡ Some c → All (λ m. thread_of m.line ≡ c.producer + 1) front
    → NoneBefore c.place (front ++ l ∷ left) → IsArranged left → IsArranged (front ++ l ∷ left)
block_arranged [] l c left none its all before arranged = let thread = thread_of-claim l.line c its in (
  turn-of (thread_of l.line) c (l ∷ left) (ap (λ o. or_else o (first_claim left)) its) thread before,
  λ e. absurd (omega (arith, e, thread)),
  arranged,
)
block_arranged (f ∷ front) l c left none its all before arranged =
    let both = or_else-none (claim_of f.line) (first_claim front) none in
    let thread = All-head (λ m. thread_of m.line ≡ c.producer + 1) f front all in
    let first : first_claim (f ∷ (front ++ l ∷ left)) ≡ Some c =
    ap (λ o. or_else o (first_claim (front ++ l ∷ left))) both.0
    ∙ (first_claim-after front (l ∷ left) both.1 ∙ ap (λ o. or_else o (first_claim left)) its) in (
      turn-of (thread_of f.line) c (f ∷ (front ++ l ∷ left)) first (sym thread) before,
      λ e. absurd (omega (arith, e, thread)),
      block_arranged front l c left both.1 its (All-tail (λ m. thread_of m.line ≡ c.producer + 1) f front all)
          (none_before-skip c.place f (front ++ l ∷ left) both.0 before) arranged,
    )

-- the lines of a thread that has no claim left, if no other thread has one
pub rest_arranged : (t : ℕ) (front left : List NumberedLine) → first_claim (front ++ left) ≡ None
    → All (λ m. thread_of m.line ≡ t) front → (t ≡ 0 → All (λ m. thread_of m.line ≡ 0) left) → IsArranged left
    → IsArranged (front ++ left)
rest_arranged t [] left none all consumers arranged = arranged
rest_arranged t (f ∷ front) left none all consumers arranged =
    let both = or_else-none (claim_of f.line) (first_claim (front ++ left)) none in
    let its = All-head (λ m. thread_of m.line ≡ t) f front all in
    let rest = All-tail (λ m. thread_of m.line ≡ t) f front all in (
      turn-none (thread_of f.line) (f ∷ (front ++ left)) none,
      λ e. let zero : t ≡ 0 = sym its ∙ e in
          All-append (λ m. thread_of m.line ≡ 0) front left
          (subst (λ (u : ℕ). All (λ m. thread_of m.line ≡ u) front) zero rest) (consumers zero),
      rest_arranged t front left both.1 rest consumers arranged,
    )

-- ---- what was taken

pub block_of_thread : (lists : List (List NumberedLine)) (taken : List ℕ) (t end : ℕ) → AreLists lists
    → All (λ m. thread_of m.line ≡ t) (block_of lists taken t end)
block_of_thread lists taken t end are = All-take (λ m. thread_of m.line ≡ t) (end - get_or taken t 0)
    (left_of lists taken t)
    (All-drop (λ m. thread_of m.line ≡ t) (get_or taken t 0) (get_or lists t []) (are t))

left_of-own : (lists : List (List NumberedLine)) (taken : List ℕ) (t end : ℕ) → t < length taken
    → left_of lists (set taken t end) t ≡ drop end (get_or lists t [])
left_of-own lists taken t end within =
    ap (λ n. drop n (get_or lists t [])) (get_or-set_same taken t end 0 within)

pub left_of-other : (lists : List (List NumberedLine)) (taken : List ℕ) (t end u : ℕ) → (u ≡ t → ⊥)
    → left_of lists (set taken t end) u ≡ left_of lists taken u
left_of-other lists taken t end u ne =
    ap (λ n. drop n (get_or lists u [])) (get_or-set_other taken t u end 0 ne)

-- the lines up to `end`, and those after them
block_and_rest : (lists : List (List NumberedLine)) (taken : List ℕ) (t end : ℕ) → get_or taken t 0 ≤ end
    → block_of lists taken t end ++ drop end (get_or lists t []) ≡ left_of lists taken t
block_and_rest lists taken t end le =
    ap (λ ls. block_of lists taken t end ++ ls)
    (ap (λ n. drop n (get_or lists t [])) (omega (arith, le))
    ∙ sym (drop-drop (end - get_or taken t 0) (get_or taken t 0) (get_or lists t [])))
    ∙ take-append-drop (end - get_or taken t 0) (left_of lists taken t)

pub left_before : (lists : List (List NumberedLine)) (taken : List ℕ) (t end : ℕ) (left : List NumberedLine)
    → AreLists lists → t < length taken → get_or taken t 0 ≤ end → AreLeft lists (set taken t end) left
    → AreLeft lists taken (block_of lists taken t end ++ left)
left_before lists taken t end left are within le is u =
    let block = block_of lists taken t end in let all = block_of_thread lists taken t end are in
    lines_of-append u block left ∙ ⊎_elim
    (λ e. subst (λ (v : ℕ). lines_of v block ++ lines_of v left ≡ left_of lists taken v) (sym e)
    (ap (λ ls. ls ++ lines_of t left) (own_lines t block all)
    ∙ (ap (λ ls. block ++ ls) (is t ∙ left_of-own lists taken t end within) ∙ block_and_rest lists taken t end le)))
    (λ ne. ap (λ ls. ls ++ lines_of u left) (other_lines t u block all ne)
    ∙ (is u ∙ left_of-other lists taken t end u ne))
    (cases_eq u t)

-- more lines of one thread are merged
pub more_merged : (lists : List (List NumberedLine)) (taken : List ℕ) (lines : List NumberedLine) (t end : ℕ)
    → AreLists lists → AreMerged lists taken lines → t < length lists → get_or taken t 0 ≤ end
    → end ≤ length (get_or lists t [])
    → ((left : List NumberedLine) → AreLeft lists (set taken t end) left → IsArranged left
    → IsArranged (block_of lists taken t end ++ left))
    → AreMerged lists (set taken t end) (lines ++ block_of lists taken t end)
more_merged lists taken lines t end are merged within le most arranged =
    let block = block_of lists taken t end in let all = block_of_thread lists taken t end are in
    let within' : t < length taken = omega (arith, within, merged.same) in
    record {
      same = length-set taken t end ∙ merged.same;
      within = λ u. ⊎_elim
          (λ e. subst (λ (v : ℕ). get_or (set taken t end) v 0 ≤ length (get_or lists v [])) (sym e)
          (omega (arith, get_or-set_same taken t end 0 within', most)))
          (λ ne. let w = merged.within u in omega (arith, get_or-set_other taken t u end 0 ne, w))
          (cases_eq u t);
      parts = λ u. ap (λ ls. ls ++ left_of lists (set taken t end) u) (lines_of-append u lines block) ∙ ⊎_elim
          (λ e. subst (λ (v : ℕ). (lines_of v lines ++ lines_of v block) ++ left_of lists (set taken t end) v
          ≡ get_or lists v []) (sym e)
          (append_assoc (lines_of t lines) (lines_of t block) (left_of lists (set taken t end) t)
          ∙ (ap (λ ls. lines_of t lines ++ ls)
          (ap (λ ls. ls ++ left_of lists (set taken t end) t) (own_lines t block all)
          ∙ (ap (λ ls. block ++ ls) (left_of-own lists taken t end within') ∙ block_and_rest lists taken t end le))
          ∙ merged.parts t)))
          (λ ne. ap (λ ls. (lines_of u lines ++ ls) ++ left_of lists (set taken t end) u)
          (other_lines t u block all ne)
          ∙ (ap (λ ls. ls ++ left_of lists (set taken t end) u) (append-nil (lines_of u lines))
          ∙ (ap (λ ls. lines_of u lines ++ ls) (left_of-other lists taken t end u ne) ∙ merged.parts u)))
          (cases_eq u t);
      arranged = λ left is its. subst IsArranged (sym (append_assoc lines block left))
          (merged.arranged (block ++ left) (left_before lists taken t end left are within' le is)
          (arranged left is its));
    }

-- fewer lines are left
pub fewer_left : (lists : List (List NumberedLine)) (taken : List ℕ) (t end : ℕ) → length taken ≡ length lists
    → t < length lists → get_or taken t 0 < end → end ≤ length (get_or lists t [])
    → left_in lists (set taken t end) < left_in lists taken
fewer_left [] taken t end same within lt le = absurd (omega (arith, within))
fewer_left (l ∷ lists) [] t end same within lt le = absurd (omega (arith, same))
fewer_left (l ∷ lists) (n ∷ taken) zero end same within lt le = omega (arith, lt, le)
fewer_left (l ∷ lists) (n ∷ taken) (suc t) end same within lt le =
    let rest = fewer_left lists taken t end (omega (arith, same)) (omega (arith, within)) lt le in omega (arith, rest)

-- ---- the lines after the last claim

-- All lines of some lists were taken, and no claims are left.
pub record IsRestTaken (lists : List (List NumberedLine)) (taken : List ℕ) (lines : List NumberedLine)
    (Done : ℕ → Type 0) : Type 0 where
  pub merged : AreMerged lists taken lines
  pub none : NoClaims lists taken
  pub done : (t : ℕ) → Done t → left_of lists taken t ≡ []

-- The lines of one list more were taken. The first list is the last one.
pub rest_taken : (lists : List (List NumberedLine)) (taken : List ℕ) (lines : List NumberedLine) (Done : ℕ → Type 0)
    (t : ℕ) → AreLists lists → IsRestTaken lists taken lines Done → t < length lists
    → (t ≡ 0 → (u : ℕ) → (u ≡ t → ⊥) → left_of lists taken u ≡ [])
    → let end = length (get_or lists t []) in
    IsRestTaken lists (set taken t end) (lines ++ block_of lists taken t end) (λ u. Done u ⊎ (u ≡ t))
rest_taken lists taken lines Done t are its within last = let end = length (get_or lists t []) in
    let block = block_of lists taken t end in let le = its.merged.within t in
    let within' : t < length taken = omega (arith, within, its.merged.same) in
    let now = set taken t end in
    let own_left : left_of lists now t ≡ [] =
    left_of-own lists taken t end within' ∙ drop_all end (get_or lists t []) (omega arith) in
    let its_left : (u : ℕ) → u ≡ t → left_of lists now u ≡ [] =
    λ u e. subst (λ (v : ℕ). left_of lists now v ≡ []) (sym e) own_left in
    record {
      merged = more_merged lists taken lines t end are its.merged within le (omega arith)
          (λ left is arranged. let all_left = left_before lists taken t end left are within' le is in
          rest_arranged t block left
          (no_claim_in_threads (block ++ left) (λ u. ap first_claim (all_left u) ∙ its.none u))
          (block_of_thread lists taken t end are)
          (λ zero. let gone = no_lines_in_threads left (λ u. is u ∙ ⊎_elim (its_left u)
          (λ ne. left_of-other lists taken t end u ne ∙ last zero u ne) (cases_eq u t)) in
          subst (All (λ m. thread_of m.line ≡ 0)) (sym gone) (All-nil (λ m. thread_of m.line ≡ 0))) arranged);
      none = λ u. ⊎_elim (λ e. ap first_claim (its_left u e))
          (λ ne. ap first_claim (left_of-other lists taken t end u ne) ∙ its.none u) (cases_eq u t);
      done = λ u is. ⊎_elim (its_left u)
          (λ ne. left_of-other lists taken t end u ne
          ∙ ⊎_elim (its.done u) (λ e. absurd (ne e)) is) (cases_eq u t);
    }

pub takes_rest : (lists : List (List NumberedLine)) (old new : Merging) (Done : ℕ → Type 0) (t : ℕ) → AreLists lists
    → IsRestTaken lists old.taken.items old.lines.items Done → t < length lists
    → (t ≡ 0 → (u : ℕ) → (u ≡ t → ⊥) → left_of lists old.taken.items u ≡ [])
    → TakesTo lists t (length (get_or lists t [])) old new
    → IsRestTaken lists new.taken.items new.lines.items (λ u. Done u ⊎ (u ≡ t))
takes_rest lists old new Done t are its within last takes =
    subst (λ ns. IsRestTaken lists ns new.lines.items (λ u. Done u ⊎ (u ≡ t))) (sym takes.taken)
    (subst (λ ls. IsRestTaken lists (set old.taken.items t (length (get_or lists t []))) ls (λ u. Done u ⊎ (u ≡ t)))
    (sym takes.lines) (rest_taken lists old.taken.items old.lines.items Done t are its within last))

-- all lines were taken
pub record AreAllTaken (lists : List (List NumberedLine)) (lines : List NumberedLine) : Type 0 where
  pub threads : (t : ℕ) → lines_of t lines ≡ get_or lists t []
  pub arranged : IsArranged lines

all_taken : (lists : List (List NumberedLine)) (taken : List ℕ) (lines : List NumberedLine)
    → AreMerged lists taken lines → ((t : ℕ) → left_of lists taken t ≡ []) → AreAllTaken lists lines
all_taken lists taken lines merged done = record {
  threads = λ t. sym (append-nil (lines_of t lines)) ∙ (ap (λ ls. lines_of t lines ++ ls) (sym (done t))
      ∙ merged.parts t);
  arranged = subst IsArranged (append-nil lines) (merged.arranged [] (λ t. sym (done t)) tt);
}

-- the lines of the first list were taken, after those of all others
pub last_taken : (lists : List (List NumberedLine)) (old new : Merging) (thread : ℕ) → AreLists lists
    → IsRestTaken lists old.taken.items old.lines.items (λ t. (1 ≤ t) × (t < thread)) → length lists ≤ thread
    → 0 < length lists → TakesTo lists 0 (length (get_or lists 0 [])) old new → AreAllTaken lists new.lines.items
last_taken lists old new thread are its le some takes =
    let others : (u : ℕ) → (u ≡ 0 → ⊥) → left_of lists old.taken.items u ≡ [] = λ u ne. ⊎_elim
    (λ lt. its.done u (omega (arith, ne), lt))
    (λ past. ap (drop (get_or old.taken.items u 0)) (get_or_past lists u [] (omega (arith, le, past)))
    ∙ drop_all (get_or old.taken.items u 0) [] (omega arith)) (cases_lt u thread) in
    let rest = takes_rest lists old new (λ u. u ≡ 0 → ⊥) 0 are
    record { merged = its.merged; none = its.none; done = others } some (λ zero. others) takes in
    all_taken lists new.taken.items new.lines.items rest.merged
    (λ u. rest.done u (⊎_elim (λ e. inr e) (λ ne. inl ne) (cases_eq u 0)))
