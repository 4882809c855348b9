-- The orders in which threads can have made the calls of a recorded run.
use Rattle.std.specs.Prelude.{◌≡◌, ℕ, List, [], ◌∷◌, All, Bool, true, false, map, take}
use Rattle.ring_judge.specs.{declared.ring.RingLine.RingLine, Verdicts.IsRightVerdict}
use Rattle.ring_judge.specs.declared.ring.RingLine.TheVariants.{Claimed, Full, Got, Head, Positions, Word, Rest, Empty, Blank}
use Rattle.ring_judge.specs.declared.ring.{order.NumberedLine.NumberedLine, judgement.Judgement.Judgement}
use Rattle.ring_judge.specs.{Ring.Records, Ring.fresh, Threads.KeepsThreads, Threads.SameThreads, Threads.thread_of}

-- the consumer noted the line after all producers had returned
abbrev pub is_late : RingLine → Bool
is_late (Claimed c) = false
is_late (Full producer length) = false
is_late (Got m) = false
is_late (Head at) = false
is_late (Positions head tail) = true
is_late (Word at v) = true
is_late Rest = true
is_late Empty = true
is_late Blank = false

-- no line of a producer comes after such a line
abbrev pub EndsLate : List NumberedLine → Type 0
EndsLate [] = Unit {0}
EndsLate (l ∷ lines) = (is_late l.line ≡ true → All (λ m. thread_of m.line ≡ 0) lines) × EndsLate lines

-- the lines alone
abbrev pub calls : List NumberedLine → List RingLine
calls lines = map (λ l. l.line) lines

-- The threads can have made the calls of these lines in this order, on a ring of this capacity that began at `start`.
pub record IsHistory (C start : ℕ) (lines order : List NumberedLine) : Type 0 where
  pub threads : SameThreads order lines
  pub ends : EndsLate order
  pub recorded : Records C (fresh start) (calls order)

-- there is such an order
abbrev pub HasHistory : ℕ → ℕ → List NumberedLine → Type 0
HasHistory C start lines = (order : List NumberedLine) × IsHistory C start lines order

-- The order of these lines is best: if the first k of them have any history, they are one in this order.
abbrev pub IsBest : List NumberedLine → Type 0
IsBest lines = (C start k : ℕ) → HasHistory C start (take k lines) → IsHistory C start (take k lines) (take k lines)

-- These are the lines of the run, and the verdict about them is right.
pub record JudgesThreads (C start : ℕ) (run : List RingLine) (judgement : Judgement) : Type 0 where
  pub lines : KeepsThreads run judgement.lines.items
  pub verdict : IsRightVerdict (λ all lines. HasHistory C start lines) judgement.lines.items judgement.verdict
