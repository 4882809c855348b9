-- Lists of lines that are merged into one list, which has the claims in the order of their places.
use Rattle.std.specs.Prelude.{◌≡◌, ℕ, ◌+◌, ◌-◌, ◌<◌, ◌≤◌, List, [], ◌∷◌, ◌++◌, Option, Some, None, MatchOption, length, take, drop, All, Contains, slice_index, slice_index_or, slice_set}
use Rattle.std.specs.declared.cmp.{Ordering.Ordering, Reverse.Reverse}
use Rattle.std.specs.{Ordering.nat_cmp, Ordering.ordering_then, BinaryHeap.IsHeap, BinaryHeap.heap_items}
use Rattle.ring_layout.specs.Lists.{or_else}
use Rattle.ring_judge.specs.declared.ring.{RingClaim.RingClaim, order.NumberedLine.NumberedLine, merged.Merging.Merging}
use Rattle.ring_judge.specs.{declared.ring.RingLine.RingLine, Threads.lines_of, Threads.thread_of}
use Rattle.ring_judge.specs.declared.ring.RingLine.TheVariants.{Claimed, Full, Got, Head, Positions, Word, Rest, Empty, Blank}

abbrev pub claim_of : RingLine → Option RingClaim
claim_of (Claimed c) = Some c
claim_of (Full producer length) = None
claim_of (Got m) = None
claim_of (Head at) = None
claim_of (Positions head tail) = None
claim_of (Word at v) = None
claim_of Rest = None
claim_of Empty = None
claim_of Blank = None

abbrev pub first_claim : List NumberedLine → Option RingClaim
first_claim [] = None
first_claim (l ∷ lines) = or_else (claim_of l.line) (first_claim lines)

-- no thread has a first claim before this place
abbrev pub NoneBefore : ℕ → List NumberedLine → Type 0
NoneBefore place lines = (t : ℕ) → MatchOption (first_claim (lines_of t lines)) (Unit {0}) (λ d. place ≤ d.place)

-- The first claim, if there is one, is of the thread t, and no thread has a first claim before it.
abbrev pub IsTurn : ℕ → List NumberedLine → Type 0
IsTurn t lines = MatchOption (first_claim lines) (Unit {0}) (λ c. (c.producer + 1 ≡ t) × NoneBefore c.place lines)

-- At each line it is the turn of the line's thread. The lines of the consumer come last.
abbrev pub IsArranged : List NumberedLine → Type 0
IsArranged [] = Unit {0}
IsArranged (l ∷ lines) = IsTurn (thread_of l.line) (l ∷ lines)
    × (thread_of l.line ≡ 0 → All (λ m. thread_of m.line ≡ 0) lines) × IsArranged lines

-- the lines of each list are those of the thread with its index
abbrev pub AreLists : List (List NumberedLine) → Type 0
AreLists lists = (t : ℕ) → All (λ l. thread_of l.line ≡ t) (slice_index_or lists t [])

-- the lines of a list that were not taken
abbrev pub left_of : List (List NumberedLine) → List ℕ → ℕ → List NumberedLine
left_of lists taken t = drop (slice_index taken t) (slice_index_or lists t [])

-- those of them that come before the index `end`
abbrev pub block_of : List (List NumberedLine) → List ℕ → ℕ → ℕ → List NumberedLine
block_of lists taken t end = take (end - slice_index taken t) (left_of lists taken t)

-- these are the lines that were not taken
abbrev pub AreLeft : List (List NumberedLine) → List ℕ → List NumberedLine → Type 0
AreLeft lists taken lines = (t : ℕ) → lines_of t lines ≡ left_of lists taken t

-- `lines` are those that were taken, and are arranged if those that were not taken come after them in such an order.
pub record AreMerged (lists : List (List NumberedLine)) (taken : List ℕ) (lines : List NumberedLine) : Type 0 where
  pub same : length taken ≡ length lists
  pub within : (t : ℕ) → slice_index taken t ≤ length (slice_index_or lists t [])
  pub parts : (t : ℕ) → lines_of t lines ++ left_of lists taken t ≡ slice_index_or lists t []
  pub arranged : (left : List NumberedLine) → AreLeft lists taken left → IsArranged left → IsArranged (lines ++ left)

-- how many lines were not taken
abbrev pub left_in : List (List NumberedLine) → List ℕ → ℕ
left_in [] taken = 0
left_in (l ∷ lists) [] = length l + left_in lists []
left_in (l ∷ lists) (n ∷ taken) = (length l - n) + left_in lists taken

-- the lines of the list t before the index `end` were taken
pub record TakesTo (lists : List (List NumberedLine)) (t end : ℕ) (old new : Merging) : Type 0 where
  pub taken : new.taken.items ≡ slice_set old.taken.items t end
  pub lines : new.lines.items ≡ old.lines.items ++ block_of lists old.taken.items t end
  pub turns : new.turns ≡ old.turns

-- the place of the next claim of a list, and the index of the list
abbrev pub Turn : Type 0
Turn = Reverse (ℕ × ℕ)

-- Of two turns, the one with the lesser place is the greater.
abbrev pub compare_turns : Turn → Turn → Ordering
compare_turns a b = ordering_then (nat_cmp b.0.0 a.0.0) (nat_cmp b.0.1 a.0.1)

-- the list t has a turn at the place of its next claim, if it has one
abbrev pub HasTurn : List (List NumberedLine) → List ℕ → List Turn → ℕ → Type 0
HasTurn lists taken turns t = MatchOption (first_claim (left_of lists taken t)) (Unit {0})
    (λ c. (turn : Turn) × Contains turns turn × (turn.0 ≡ (c.place, t)))

-- each list has one
pub record HaveTurns (lists : List (List NumberedLine)) (taken : List ℕ) (turns : List Turn) : Type 0 where
  pub ordered : IsHeap compare_turns turns
  pub within : All (λ turn. turn.0.1 < length lists) turns
  pub each : (t : ℕ) → HasTurn lists taken turns t

-- the list t has its turn now, and no turn is gone
pub record AddsTurn (lists : List (List NumberedLine)) (taken : List ℕ) (t : ℕ) (turns turns' : List Turn)
    : Type 0 where
  pub ordered : IsHeap compare_turns turns → IsHeap compare_turns turns'
  pub within : All (λ turn. turn.0.1 < length lists) turns → All (λ turn. turn.0.1 < length lists) turns'
  pub its : HasTurn lists taken turns' t
  pub keeps : (turn : Turn) → Contains turns turn → Contains turns' turn

-- The lines were taken, and all claims that were not taken have a turn.
pub record IsMerging (lists : List (List NumberedLine)) (m : Merging) : Type 0 where
  pub merged : AreMerged lists m.taken.items m.lines.items
  pub turns : HaveTurns lists m.taken.items (heap_items m.turns)

-- no claim is left
abbrev pub NoClaims : List (List NumberedLine) → List ℕ → Type 0
NoClaims lists taken = (t : ℕ) → first_claim (left_of lists taken t) ≡ None

-- The lines of a list from one index up to another are lines that are no claims, and then a claim at this place.
pub record IsNextClaim (list : List NumberedLine) (from end place : ℕ) : Type 0 where
  pub after : from < end
  pub within : end ≤ length list
  pub front : List NumberedLine
  pub line : NumberedLine
  pub claim : RingClaim
  pub block : take (end - from) (drop from list) ≡ front ++ line ∷ []
  pub none : first_claim front ≡ None
  pub is_claim : line.line ≡ Claimed claim
  pub its_place : claim.place ≡ place

-- they are, or no claim is left
abbrev pub FindsClaim : List NumberedLine → ℕ → Option (ℕ × ℕ) → Type 0
FindsClaim list from found =
    MatchOption found (first_claim (drop from list) ≡ None) (λ it. IsNextClaim list from it.0 it.1)

-- they are, or the next claim of the list t, if there is one, has another place
abbrev pub FindsClaimAt : List (List NumberedLine) → List ℕ → ℕ → ℕ → Option ℕ → Type 0
FindsClaimAt lists taken t place found = MatchOption found
    ((c : RingClaim) → first_claim (left_of lists taken t) ≡ Some c → c.place ≡ place → ⊥)
    (λ end. IsNextClaim (slice_index_or lists t []) (slice_index taken t) end place)
