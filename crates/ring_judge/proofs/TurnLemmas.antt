-- The turns of lists, in a heap.
use Rattle.std.proofs.Common.{◌≡◌, ℕ, ◌+◌, ◌<◌, ◌≤◌, List, [], ◌∷◌, ◌++◌, length, get_or, set, false, sym, refl, ap, ◌∙◌, ⊎_elim, subst, arith, append_assoc, Option, Some, None, All, Contains, IsPermutation, MatchOption, is_lt, nat_cmp}
use Rattle.std.specs.{Ordering.ordering_then, BinaryHeap.IsHeap, BinaryHeap.IsUpperBound}
use Rattle.std.specs.declared.cmp.Ordering.{Ordering, TheVariants.Less, TheVariants.Equal, TheVariants.Greater}
use Rattle.std.proofs.lemmas.Bool.{cases_eq}
use Rattle.std.proofs.lemmas.List.Elements.{All-cons, All-contains, All-from_recursion, All-head, All-nil, All-tail, All-weaker, Contains-append_cases, Contains-append_right}
use Rattle.std.proofs.lemmas.List.Sorted.{All-permutation, Contains-permutation, le_from_greatest}
use Rattle.ring_judge.specs.declared.ring.{RingClaim.RingClaim, order.NumberedLine.NumberedLine}
use Rattle.ring_judge.specs.Threads.{thread_of}
use Rattle.ring_judge.specs.Merged.{AddsTurn, AreLeft, AreLists, AreMerged, HasTurn, HaveTurns, Turn, IsArranged, IsNextClaim, NoneBefore, block_of, claim_of, compare_turns, first_claim, left_of}
use Rattle.ring_judge.proofs.{FirstLemmas.thread_of-claim, ListLemmas.all_front, ListLemmas.all_later}
use Rattle.ring_judge.proofs.MergeLemmas.{block_arranged, block_of_thread, left_before, left_of-other, more_merged, next_is_first}

first_not_lt : (a b : Ordering) → is_lt (ordering_then a b) ≡ false → is_lt a ≡ false
first_not_lt Less b e = e
first_not_lt Equal b e = refl
first_not_lt Greater b e = e

before_or_equal : (x y : Turn) → is_lt (compare_turns x y) ≡ false → x.0.0 ≤ y.0.0
before_or_equal x y not = All-head (λ n. n ≤ y.0.0) x.0.0 []
    (le_from_greatest y.0.0 (x.0.0 ∷ []) (first_not_lt (nat_cmp y.0.0 x.0.0) (nat_cmp y.0.1 x.0.1) not, tt))

-- a heap gave up its greatest turn
pub record IsPopped (turns : List Turn) (x : Turn) (turns' : List Turn) : Type 0 where
  pub same : IsPermutation turns (x ∷ turns')
  pub greatest : IsUpperBound compare_turns x turns'

match_map : {A : Type 0} (o : Option A) (P Q : A → Type 0) → ((a : A) → P a → Q a) → MatchOption o (Unit {0}) P
    → MatchOption o (Unit {0}) Q
match_map None P Q f its = tt
match_map (Some a) P Q f its = f a its

first_turn : (turns turns' : List Turn) (x y : Turn) → IsPopped turns x turns'
    → Contains turns y → x.0.0 ≤ y.0.0
first_turn turns turns' x y popped has = let P : Turn → Type 0 = λ z. x.0.0 ≤ z.0.0 in
    All-contains P (x ∷ turns') y
    (All-cons P x turns' (omega arith)
    (All-weaker (λ z. is_lt (compare_turns x z) ≡ false) P (λ z not. before_or_equal x z not) turns'
    (All-from_recursion (λ z. is_lt (compare_turns x z) ≡ false) turns' popped.greatest)))
    (Contains-permutation turns (x ∷ turns') y popped.same has)

other_turn : (turns turns' : List Turn) (x y : Turn) → IsPopped turns x turns'
    → Contains turns y → (y ≡ x → ⊥) → Contains turns' y
other_turn turns turns' x y popped has ne = ⊎_elim
    (λ its. absurd (ne (All-contains (λ z. z ≡ x) (x ∷ []) y
    (All-cons (λ z. z ≡ x) x [] refl (All-nil (λ z. z ≡ x))) its)))
    (λ its. its)
    (Contains-append_cases (x ∷ []) turns' y (Contains-permutation turns (x ∷ turns') y popped.same has))

-- no claim that is left comes before the first turn
pub none_before_turn : (lists : List (List NumberedLine)) (taken : List ℕ) (turns turns' : List Turn)
    (x : Turn) (lines : List NumberedLine) → HaveTurns lists taken turns → IsPopped turns x turns'
    → AreLeft lists taken lines → NoneBefore x.0.0 lines
none_before_turn lists taken turns turns' x lines have popped left t =
    subst (λ ls. MatchOption (first_claim ls) (Unit {0}) (λ c. x.0.0 ≤ c.place)) (sym (left t))
    (match_map (first_claim (left_of lists taken t)) _ (λ c. x.0.0 ≤ c.place)
    (λ c its. let le = first_turn turns turns' x its.0 popped its.1 in
    subst (λ (n : ℕ). x.0.0 ≤ n) (ap (λ p. p.0) its.2) le)
    (have.each t))

-- a list keeps its turn, if that is not the one that was popped
pub turn_kept : (lists : List (List NumberedLine)) (taken : List ℕ) (turns turns' : List Turn)
    (x : Turn) (u : ℕ) → HaveTurns lists taken turns → IsPopped turns x turns'
    → ((c : RingClaim) → first_claim (left_of lists taken u) ≡ Some c → x.0 ≡ (c.place, u) → ⊥)
    → HasTurn lists taken turns' u
turn_kept lists taken turns turns' x u have popped ne =
    by_claim (first_claim (left_of lists taken u)) refl (have.each u)
  where
    by_claim : (o : Option RingClaim) → first_claim (left_of lists taken u) ≡ o
        → HasTurn lists taken turns u → HasTurn lists taken turns' u
    by_claim None is its = subst (λ o. MatchOption o (Unit {0})
        (λ c. (turn : Turn) × Contains turns' turn × (turn.0 ≡ (c.place, u)))) (sym is) tt
    by_claim (Some c) is its =
        let old : (turn : Turn) × Contains turns turn × (turn.0 ≡ (c.place, u)) =
        subst (λ o. MatchOption o (Unit {0})
        (λ c. (turn : Turn) × Contains turns turn × (turn.0 ≡ (c.place, u)))) is its in
        subst (λ o. MatchOption o (Unit {0})
        (λ c. (turn : Turn) × Contains turns' turn × (turn.0 ≡ (c.place, u)))) (sym is) (
          old.0,
          other_turn turns turns' x old.0 popped old.1
              (λ same. ne c is (ap (λ r. r.0) (sym same) ∙ old.2)),
          old.2,
        )

-- the popped turn is that of a list
popped_within : (lists : List (List NumberedLine)) (taken : List ℕ) (turns turns' : List Turn)
    (x : Turn) → HaveTurns lists taken turns → IsPopped turns x turns'
    → All (λ turn. turn.0.1 < length lists) (x ∷ turns')
popped_within lists taken turns turns' x have popped =
    All-permutation (λ turn. turn.0.1 < length lists) turns (x ∷ turns') popped.same have.within

pub turn_within : (lists : List (List NumberedLine)) (taken : List ℕ) (turns turns' : List Turn)
    (x : Turn) → HaveTurns lists taken turns → IsPopped turns x turns' → x.0.1 < length lists
turn_within lists taken turns turns' x have popped = All-head (λ turn. turn.0.1 < length lists) x turns'
    (popped_within lists taken turns turns' x have popped)

-- the lines of a list up to the claim of its turn are taken
pub turn_taken : (lists : List (List NumberedLine)) (taken : List ℕ) (lines : List NumberedLine)
    (turns turns' turns'' : List Turn) (x : Turn) (end : ℕ)
    → AreLists lists → AreMerged lists taken lines → HaveTurns lists taken turns → IsPopped turns x turns'
    → IsHeap compare_turns turns'
    → IsNextClaim (get_or lists x.0.1 []) (get_or taken x.0.1 0) end x.0.0
    → AddsTurn lists (set taken x.0.1 end) x.0.1 turns' turns''
    → AreMerged lists (set taken x.0.1 end) (lines ++ block_of lists taken x.0.1 end)
    × HaveTurns lists (set taken x.0.1 end) turns''
turn_taken lists taken lines turns turns' turns'' x end are merged have popped heap next adds =
    let t = x.0.1 in let block = block_of lists taken t end in
    let within = turn_within lists taken turns turns' x have popped in
    let within' : t < length taken = omega (arith, within, merged.same) in
    let le : get_or taken t 0 ≤ end = omega (arith, next.after) in
    let front = next.front in let l = next.line in
    let is_claim : claim_of l.line ≡ Some next.claim = ap claim_of next.is_claim in
    let all : All (λ m. thread_of m.line ≡ t) (front ++ l ∷ []) =
    subst (All (λ m. thread_of m.line ≡ t)) next.block (block_of_thread lists taken t end are) in
    let thread : next.claim.producer + 1 ≡ t = thread_of-claim l.line next.claim is_claim
    ∙ All-head (λ m. thread_of m.line ≡ t) l [] (all_later (λ m. thread_of m.line ≡ t) front (l ∷ []) all) in (
      more_merged lists taken lines t end are merged within le (omega (arith, next.within))
          (λ left is arranged.
          let joined : block ++ left ≡ front ++ l ∷ left =
          ap (λ ls. ls ++ left) next.block ∙ append_assoc front (l ∷ []) left in
          let before : NoneBefore next.claim.place (front ++ l ∷ left) =
          subst (λ (n : ℕ). NoneBefore n (front ++ l ∷ left)) (sym next.its_place)
          (subst (NoneBefore x.0.0) joined (none_before_turn lists taken turns turns' x (block ++ left) have popped
          (left_before lists taken t end left are within' le is))) in
          subst IsArranged (sym joined) (block_arranged front l next.claim left next.none is_claim
          (subst (λ (n : ℕ). All (λ m. thread_of m.line ≡ n) front) (sym thread)
          (all_front (λ m. thread_of m.line ≡ t) front (l ∷ []) all)) before arranged)),
      record {
        ordered = adds.ordered heap;
        within = adds.within (All-tail (λ turn. turn.0.1 < length lists) x turns'
            (popped_within lists taken turns turns' x have popped));
        each = λ u. ⊎_elim
            (λ e. subst (HasTurn lists (set taken t end) turns'') (sym e) adds.its)
            (λ ne. let same = left_of-other lists taken t end u ne in
            subst (λ ls. MatchOption (first_claim ls) (Unit {0})
            (λ c. (turn : Turn) × Contains turns'' turn × (turn.0 ≡ (c.place, u)))) (sym same)
            (match_map (first_claim (left_of lists taken u)) _
            (λ c. (turn : Turn) × Contains turns'' turn × (turn.0 ≡ (c.place, u)))
            (λ c old. (old.0, adds.keeps old.0 old.1, old.2))
            (turn_kept lists taken turns turns' x u have popped
            (λ c first same. ne (sym (ap (λ p. p.1) same))))))
            (cases_eq u t);
      },
    )

-- A turn was dropped, since it is not at the next claim of its list.
pub turn_dropped : (lists : List (List NumberedLine)) (taken : List ℕ) (turns turns' : List Turn)
    (x : Turn) → HaveTurns lists taken turns → IsPopped turns x turns' → IsHeap compare_turns turns'
    → ((c : RingClaim) → first_claim (left_of lists taken x.0.1) ≡ Some c → c.place ≡ x.0.0 → ⊥)
    → HaveTurns lists taken turns'
turn_dropped lists taken turns turns' x have popped heap not = record {
  ordered = heap;
  within = All-tail (λ turn. turn.0.1 < length lists) x turns'
      (popped_within lists taken turns turns' x have popped);
  each = λ u. turn_kept lists taken turns turns' x u have popped
      (λ c first same. not c (subst (λ (v : ℕ). first_claim (left_of lists taken v) ≡ Some c)
      (sym (ap (λ p. p.1) same)) first) (sym (ap (λ p. p.0) same)));
}

-- the turn of a list was pushed
pub adds_turn : (lists : List (List NumberedLine)) (taken : List ℕ) (t end place : ℕ)
    (turns turns' : List Turn) → t < length lists
    → IsNextClaim (get_or lists t []) (get_or taken t 0) end place
    → IsPermutation (record { 0 = (place, t) } ∷ turns) turns'
    → (IsHeap compare_turns turns → IsHeap compare_turns turns') → AddsTurn lists taken t turns turns'
adds_turn lists taken t end place turns turns' within next same heap =
    let x : Turn = record { 0 = (place, t) } in
    let first = next_is_first (get_or lists t []) (get_or taken t 0) end place next in
    record {
      ordered = heap;
      within = λ all. All-permutation (λ turn. turn.0.1 < length lists) (x ∷ turns) turns' same
          (All-cons (λ turn. turn.0.1 < length lists) x turns within all);
      its = subst (λ o. MatchOption o (Unit {0})
          (λ c. (turn : Turn) × Contains turns' turn × (turn.0 ≡ (c.place, t)))) (sym first) (
            x,
            Contains-permutation (x ∷ turns) turns' x same (0, omega arith, refl),
            ap (λ n. (n, t)) (sym next.its_place),
          );
      keeps = λ turn has. Contains-permutation (x ∷ turns) turns' turn same
          (Contains-append_right (x ∷ []) turns turn has);
    }
