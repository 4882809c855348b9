-- The lines of each thread of a ring's run.
use Rattle.std.specs.Prelude.{◌≡◌, ◌==◌, ℕ, ◌+◌, List, [], ◌∷◌, filter}
use Rattle.ring_judge.specs.declared.ring.{RingLine.RingLine, order.NumberedLine.NumberedLine}
use Rattle.ring_judge.specs.declared.ring.RingLine.TheVariants.{Claimed, Full, Got, Head, Positions, Word, Rest, Empty, Blank}

-- the thread that noted a line: p + 1 for the producer p, and 0 for the consumer
abbrev pub thread_of : RingLine → ℕ
thread_of (Claimed c) = c.producer + 1
thread_of (Full producer length) = producer + 1
thread_of (Got m) = 0
thread_of (Head at) = 0
thread_of (Positions head tail) = 0
thread_of (Word at v) = 0
thread_of Rest = 0
thread_of Empty = 0
thread_of Blank = 0

-- the lines of a thread, in order
abbrev pub lines_of : ℕ → List NumberedLine → List NumberedLine
lines_of t lines = filter (λ l. thread_of l.line == t) lines

-- each thread has the same lines in both lists, in the same order
abbrev pub SameThreads : List NumberedLine → List NumberedLine → Type 0
SameThreads lines others = (t : ℕ) → lines_of t lines ≡ lines_of t others

-- the lines with their indices, of which the first is n
abbrev pub numbered : ℕ → List RingLine → List NumberedLine
numbered n [] = []
numbered n (line ∷ lines) = record { at = n; line = line } ∷ numbered (n + 1) lines

-- these are the lines of the run, with their indices there, and the lines of each thread are in their order
abbrev pub KeepsThreads : List RingLine → List NumberedLine → Type 0
KeepsThreads run lines = SameThreads lines (numbered 0 run)
