-- What a recorded run of a ring says, and which runs a ring can have. C is the capacity.
use Rattle.std.specs.Prelude.{◌≡◌, ℕ, ◌+◌, ◌-◌, ◌/◌, ◌%◌, ◌<◌, ◌≤◌, ◌==◌, ◌⊎◌, ◌≤ℤ◌, pos, List, [], ◌∷◌, ◌++◌, Option, Some, None, MatchOption, Bool, true, false, nat_le, nat_lt, if◌then◌else◌, MatchBool, All, take, drop, length}
use Rattle.ring_layout.specs.{History.span, Places.next_place, Places.end_after, Places.max_position}
use Rattle.ring_layout.specs.Headers.{aborted_header, committed_header, open_header, padding_header}
use Rattle.ring_judge.specs.declared.ring.Fate.{Fate, TheVariants.Open, TheVariants.Committed, TheVariants.Aborted}
use Rattle.ring_judge.specs.declared.ring.{RingClaim.RingClaim, RingCopy.RingCopy, RingLine.RingLine}
use Rattle.ring_judge.specs.declared.ring.RingLine.TheVariants.{Claimed, Full, Got, Head, Positions, Word, Rest, Empty, Blank}
use Rattle.ring_judge.specs.{declared.verdict.Verdict.Verdict, Verdicts.IsRightVerdict}

-- A ring between two lines: the position at which it began, all claims so far, the oldest first, the head, the claims
-- that the consumer has not passed, and the position up to which the words of the buffer were read.
pub record RingState : Type 0 where
  pub start : ℕ
  pub claims : List RingClaim
  pub head : ℕ
  pub left : List RingClaim
  pub read : ℕ

-- a ring in which nothing was claimed yet
abbrev pub fresh : ℕ → RingState
fresh start = record { start = start; claims = []; head = start; left = []; read = start }

-- the end of the record of a claim
abbrev pub end_of_claim : RingClaim → ℕ
end_of_claim c = c.place + span c.length

-- the end of the last claim, or the start if there is none
abbrev pub end_of_claims : ℕ → List RingClaim → ℕ
end_of_claims start [] = start
end_of_claims start (c ∷ claims) = end_of_claims (end_of_claim c) claims

abbrev pub tail_of : RingState → ℕ
tail_of s = end_of_claims s.start s.claims

abbrev pub is_open : Fate → Bool
is_open Open = true
is_open (Committed body) = false
is_open Aborted = false

abbrev pub is_aborted : Fate → Bool
is_aborted Open = false
is_aborted (Committed body) = false
is_aborted Aborted = true

-- ---- the lines of producers

-- the place of the first claim that is never settled
abbrev pub first_open : List RingClaim → Option ℕ
first_open [] = None
first_open (c ∷ left) = if is_open c.fate then Some c.place else first_open left

-- A claim can end at this position: the head never passes an open claim, so the end is at most a capacity after the
-- place of the first one.
abbrev pub CanEnd : ℕ → RingState → ℕ → Type 0
CanEnd C s end = MatchOption (first_open s.left) (Unit {0}) (λ place. end ≤ place + C)

-- the claim can be the next one
pub record CanClaim (C : ℕ) (s : RingState) (c : RingClaim) : Type 0 where
  pub type_id : pos 1 ≤ℤ c.type_id
  pub short : c.length ≤ C / 8
  pub place : c.place ≡ next_place C (tail_of s) (span c.length)
  pub within : end_of_claim c ≤ max_position
  pub room : CanEnd C s (end_of_claim c)

-- the ring after this claim
abbrev pub claimed : RingState → RingClaim → RingState
claimed s c = record {
  start = s.start;
  claims = s.claims ++ c ∷ [];
  head = s.head;
  left = s.left ++ c ∷ [];
  read = s.head;
}

-- The head can be at `at` at some time: it is at `head`, and the consumer passes settled claims and padding.
abbrev pub CanReach : ℕ → ℕ → List RingClaim → Type 0
CanReach at head [] = at ≡ head
CanReach at head (c ∷ left) =
    (at ≡ head) ⊎ ((at ≡ c.place) ⊎ ((is_open c.fate ≡ false) × CanReach at (end_of_claim c) left))

-- With these claims the ring can be full for a message of this length: the head can be at a position at which the
-- claims had room, and at which the message has none.
pub record IsFull (C start : ℕ) (claims : List RingClaim) (len : ℕ) : Type 0 where
  pub head : ℕ
  pub reached : CanReach head start claims
  pub had_room : end_of_claims start claims ≤ head + C
  pub no_room : head + C < end_after C (end_of_claims start claims) (span len)

-- The producer p can be refused a message of this length: at some time after its claims so far the ring can have been
-- full. `count` claims were made by that time, and none of the later ones is of this producer.
pub record CanRefuse (C : ℕ) (s : RingState) (p len : ℕ) : Type 0 where
  pub short : len ≤ C / 8
  pub count : ℕ
  pub within : count ≤ length s.claims
  pub since : All (λ c. c.producer ≡ p → ⊥) (drop count s.claims)
  pub full : IsFull C s.start (take count s.claims) len

-- ---- the lines of the consumer

-- the claims without the aborted ones that come first
abbrev pub unaborted : List RingClaim → List RingClaim
unaborted [] = []
unaborted (c ∷ left) = if is_aborted c.fate then unaborted left else c ∷ left

-- the message is that of a committed claim, and the consumer noted its place or no place
pub record IsCopyOf (c : RingClaim) (m : RingCopy) : Type 0 where
  pub place : MatchOption m.place (Unit {0}) (λ place. place ≡ c.place)
  pub type_id : m.type_id ≡ c.type_id
  pub length : m.length ≡ c.length
  pub committed : c.fate ≡ Committed m.body

-- the consumer can be shown this message next: it is the first of these claims
abbrev pub Shows : List RingClaim → RingCopy → Type 0
Shows [] m = ⊥
Shows (c ∷ left) m = IsCopyOf c m

-- the consumer finds no message: nothing is left, or the first claim is open
abbrev pub ShowsNothing : List RingClaim → Type 0
ShowsNothing [] = Unit {0}
ShowsNothing (c ∷ left) = is_open c.fate ≡ true

-- the ring after the first of these claims was passed
abbrev pub passed : RingState → List RingClaim → RingState
passed s [] = s
passed s (c ∷ left) = record {
  start = s.start;
  claims = s.claims;
  head = end_of_claim c;
  left = left;
  read = end_of_claim c;
}

-- the claims that begin at this position or after it
abbrev pub claims_from : ℕ → List RingClaim → List RingClaim
claims_from at [] = []
claims_from at (c ∷ left) = if nat_le at c.place then c ∷ left else claims_from at left

-- The head is at `at` now: it was at `head`, and the consumer passed aborted claims and padding.
abbrev pub IsHead : ℕ → ℕ → List RingClaim → Type 0
IsHead at head [] = at ≡ head
IsHead at head (c ∷ left) = MatchBool (nat_le at c.place) ((at ≡ head) ⊎ (at ≡ c.place))
    ((is_aborted c.fate ≡ true) × IsHead at (end_of_claim c) left)

-- the ring with its head at this position
abbrev pub moved : ℕ → RingState → RingState
moved at s = record { start = s.start; claims = s.claims; head = at; left = claims_from at s.left; read = at }

-- all threads have ended, with the head and the tail at these positions
pub record AreEnds (C : ℕ) (s : RingState) (head tail : ℕ) : Type 0 where
  pub is_head : IsHead head s.head s.left
  pub is_tail : tail ≡ tail_of s
  pub room : tail ≤ head + C

-- ---- the words of the buffer

-- the header of the record of a claim
abbrev pub header_of_claim : RingClaim → ℕ
header_of_claim c = by_fate c.fate
  where
    by_fate : Fate → ℕ
    by_fate Open = open_header c.type_id c.length
    by_fate (Committed body) = committed_header c.type_id c.length
    by_fate Aborted = aborted_header c.length

-- The word at the position p can be v, if these claims come after e: it is the header of padding or of a claim, any
-- word of a body, or 0.
abbrev pub CanBeWord : ℕ → ℕ → ℕ → List RingClaim → Type 0
CanBeWord p v e [] = v ≡ 0
CanBeWord p v e (c ∷ left) = MatchBool (nat_lt p c.place) (v ≡ (if p == e then padding_header (c.place - e) else 0))
    (MatchBool (nat_lt p (end_of_claim c)) (p ≡ c.place → v ≡ header_of_claim c) (CanBeWord p v (end_of_claim c) left))

-- the words up to this position, beginning with the one after the last that was read, can be 0
pub record AreClear (C : ℕ) (s : RingState) (to : ℕ) : Type 0 where
  pub from : s.read ≤ to
  pub within : to ≤ s.head + C
  pub room : tail_of s ≤ s.head + C
  pub clear : (p : ℕ) → s.read ≤ p → p < to → CanBeWord p 0 s.head s.left

-- the word at this position can have this value, and the words before it can be 0
pub record CanHaveWord (C : ℕ) (s : RingState) (at v : ℕ) : Type 0 where
  pub aligned : at % 8 ≡ 0
  pub before_end : at < s.head + C
  pub clear : AreClear C s at
  pub word : CanBeWord at v s.head s.left

-- the ring whose words were read up to this position
abbrev pub read_to : RingState → ℕ → RingState
read_to s to = record { start = s.start; claims = s.claims; head = s.head; left = s.left; read = to }

-- ---- the run

-- a ring in this state can record this line
abbrev pub Allows : ℕ → RingState → RingLine → Type 0
Allows C s (Claimed c) = CanClaim C s c
Allows C s (Full producer length) = CanRefuse C s producer length
Allows C s (Got m) = Shows (unaborted s.left) m
Allows C s (Head at) = IsHead at s.head s.left
Allows C s (Positions head tail) = AreEnds C s head tail
Allows C s (Word at v) = CanHaveWord C s at v
Allows C s Rest = AreClear C s (s.head + C)
Allows C s Empty = ShowsNothing (unaborted s.left)
Allows C s Blank = Unit {0}

-- the state after this line
abbrev pub after : ℕ → RingState → RingLine → RingState
after C s (Claimed c) = claimed s c
after C s (Full producer length) = s
after C s (Got m) = passed s (unaborted s.left)
after C s (Head at) = moved at s
after C s (Positions head tail) = moved head s
after C s (Word at v) = read_to s (at + 8)
after C s Rest = read_to s (s.head + C)
after C s Empty = s
after C s Blank = s

-- the state after these lines
abbrev pub after_all : ℕ → RingState → List RingLine → RingState
after_all C s [] = s
after_all C s (line ∷ lines) = after_all C (after C s line) lines

-- a ring in this state can record these lines, one after another
abbrev pub Records : ℕ → RingState → List RingLine → Type 0
Records C s [] = Unit {0}
Records C s (line ∷ lines) = Allows C s line × Records C (after C s line) lines

-- a ring of this capacity that begins at this position can record these lines of a run
abbrev pub IsExplained : ℕ → ℕ → List RingLine → List RingLine → Type 0
IsExplained C start run lines = Records C (fresh start) lines

-- the verdict is right
abbrev pub JudgesRing : ℕ → ℕ → List RingLine → Verdict → Type 0
JudgesRing C start = IsRightVerdict (IsExplained C start)
