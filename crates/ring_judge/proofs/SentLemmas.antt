-- What the lines of producers say, one line more.
use Rattle.std.proofs.Common.{◌≡◌, ℕ, ◌+◌, ◌<◌, ◌≤◌, List, [], ◌∷◌, ◌++◌, length, take, get_or, refl, ap, ◌∙◌, arith}
use Rattle.std.proofs.lemmas.List.{take_more, length-append}
use Rattle.ring_judge.specs.{declared.queue.QueueLine.QueueLine, Queue.IsBelow, Queue.part_of, Queue.sent_in}
use Rattle.ring_judge.specs.declared.queue.QueueLine.TheVariants.{Sent, Refused, Got, Empty, Blank}
use Rattle.ring_judge.proofs.PartLemmas.{part_of-append}

pub IsBelow-larger : (count larger : ℕ) (line : QueueLine) → count ≤ larger → IsBelow count line → IsBelow larger line
IsBelow-larger count larger (Sent m) le below = omega arith
IsBelow-larger count larger (Refused m) le below = omega arith
IsBelow-larger count larger (Got m) le below = omega arith
IsBelow-larger count larger Empty le below = tt
IsBelow-larger count larger Blank le below = tt

pub sent_in-append : (xs ys : List QueueLine) → sent_in (xs ++ ys) ≡ sent_in xs ++ sent_in ys
sent_in-append [] ys = refl
sent_in-append (Sent m ∷ xs) ys = ap (λ l. m ∷ l) (sent_in-append xs ys)
sent_in-append (Refused m ∷ xs) ys = sent_in-append xs ys
sent_in-append (Got m ∷ xs) ys = sent_in-append xs ys
sent_in-append (Empty ∷ xs) ys = sent_in-append xs ys
sent_in-append (Blank ∷ xs) ys = sent_in-append xs ys

-- what was sent in one line more
sent_more : (run : List QueueLine) (k : ℕ) (d : QueueLine) → k < length run
    → sent_in (take (k + 1) run) ≡ sent_in (take k run) ++ sent_in (get_or run k d ∷ [])
sent_more run k d lt = ap sent_in (take_more run k d lt) ∙ sent_in-append (take k run) (get_or run k d ∷ [])

-- the parts of what was sent in one line more
pub part_more : (p : ℕ) (run : List QueueLine) (k : ℕ) (d : QueueLine) → k < length run
    → part_of p (sent_in (take (k + 1) run)) ≡ part_of p (sent_in (take k run)) ++ part_of p (sent_in (get_or run k d ∷ []))
part_more p run k d lt = ap (part_of p) (sent_more run k d lt)
    ∙ part_of-append p (sent_in (take k run)) (sent_in (get_or run k d ∷ []))

pub count_more : (run : List QueueLine) (k : ℕ) (d : QueueLine) → k < length run
    → length (sent_in (take (k + 1) run)) ≡ length (sent_in (take k run)) + length (sent_in (get_or run k d ∷ []))
count_more run k d lt = ap length (sent_more run k d lt)
    ∙ length-append (sent_in (take k run)) (sent_in (get_or run k d ∷ []))

-- the line in place of what is past the end of a run
abbrev pub past : QueueLine
past = Sent record { producer = 0; number = 0; body = 0 }
