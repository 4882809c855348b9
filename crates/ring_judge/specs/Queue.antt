-- What a recorded run of a queue says, and what explains it.
use Rattle.std.specs.Prelude.{◌≡◌, ℕ, ◌<◌, ◌==◌, List, [], ◌∷◌, length, drop, slice_index, slice_index_or, Bool, if◌then◌else◌, MatchBool}
use Rattle.ring_judge.specs.declared.{message.Message.Message, queue.QueueLine.QueueLine, verdict.Verdict.Verdict}
use Rattle.ring_judge.specs.declared.queue.QueueLine.TheVariants.{Sent, Refused, Got, Empty, Blank}
use Rattle.ring_judge.specs.Verdicts.{IsRightVerdict}

-- the messages that one producer sent, of these
abbrev pub part_of : ℕ → List Message → List Message
part_of p [] = []
part_of p (m ∷ ms) = if m.producer == p then m ∷ part_of p ms else part_of p ms

-- the messages that were accepted
abbrev pub sent_in : List QueueLine → List Message
sent_in [] = []
sent_in (Sent m ∷ run) = m ∷ sent_in run
sent_in (Refused m ∷ run) = sent_in run
sent_in (Got m ∷ run) = sent_in run
sent_in (Empty ∷ run) = sent_in run
sent_in (Blank ∷ run) = sent_in run

-- of these messages, in order, the consumer was shown what the lines say
abbrev pub Shows : List Message → List QueueLine → Type 0
Shows h [] = Unit {0}
Shows h (Got m ∷ lines) = (rest : List Message) × (h ≡ m ∷ rest) × Shows rest lines
Shows h (Empty ∷ lines) = (h ≡ []) × Shows h lines
Shows h (Sent m ∷ lines) = Shows h lines
Shows h (Refused m ∷ lines) = Shows h lines
Shows h (Blank ∷ lines) = Shows h lines

-- each producer's part of one list is its part of the other
abbrev pub SameParts : List Message → List Message → Type 0
SameParts h sent = (p : ℕ) → part_of p h ≡ part_of p sent

-- some messages in an order with these parts are those that the lines say
abbrev pub CanShow : List Message → List QueueLine → Type 0
CanShow w lines = (h : List Message) × SameParts h w × Shows h lines

-- a line of the consumer, before any others, takes from the messages w what leaves v
pub record Follows (w : List Message) (line : QueueLine) (v : List Message) : Type 0 where
  pub forward : (lines : List QueueLine) → CanShow w (line ∷ lines) → CanShow v lines
  pub backward : (lines : List QueueLine) → CanShow v lines → CanShow w (line ∷ lines)

-- a line cannot be
abbrev pub Refuses : List Message → QueueLine → Type 0
Refuses w line = (lines : List QueueLine) → CanShow w (line ∷ lines) → ⊥

-- the history h explains what the producers recorded in a run, and what the consumer recorded in these lines of it
pub record Explains (run lines : List QueueLine) (h : List Message) : Type 0 where
  pub parts : SameParts h (sent_in run)
  pub shows : Shows h lines

-- some history does
abbrev pub IsExplained : List QueueLine → List QueueLine → Type 0
IsExplained run lines = (h : List Message) × Explains run lines h

-- the verdict is right
abbrev pub Judges : List QueueLine → Verdict → Type 0
Judges = IsRightVerdict IsExplained

-- what is left are the messages w: of each producer's those that were not taken yet
pub record AreWaiting (lists : List (List Message)) (taken : List ℕ) (left : ℕ) (w : List Message) : Type 0 where
  pub same : length taken ≡ length lists
  pub parts : (p : ℕ) → p < length taken
      → part_of p w ≡ drop (slice_index taken p) (slice_index_or lists p [])
  pub counted : left ≡ length w

-- the line follows, or cannot be, whatever messages wait, and what is left waits
abbrev pub AnswersLine : List (List Message) → List ℕ → ℕ → List ℕ → ℕ → QueueLine → Bool → Type 0
AnswersLine lists taken left taken' left' line answer = (w : List Message) → AreWaiting lists taken left w
    → MatchBool answer ((v : List Message) × AreWaiting lists taken' left' v × Follows w line v) (Refuses w line)

-- the producer of the line is below this number
abbrev pub IsBelow : ℕ → QueueLine → Type 0
IsBelow count (Sent m) = m.producer < count
IsBelow count (Refused m) = m.producer < count
IsBelow count (Got m) = m.producer < count
IsBelow count Empty = Unit {0}
IsBelow count Blank = Unit {0}
