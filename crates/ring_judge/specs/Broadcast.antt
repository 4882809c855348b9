-- What a recorded run of a broadcast buffer says, and what explains it.
use Rattle.std.specs.Prelude.{◌≡◌, ℕ, ◌+◌, ◌<◌, ◌≤◌, ◌==◌, List, [], ◌∷◌, ◌++◌, length, Some, slice_get, slice_index_or, Bool, true, if◌then◌else◌, MatchBool}
use Rattle.ring_judge.specs.declared.broadcast.{ReceiverEvent.ReceiverEvent, BroadcastLine.BroadcastLine}
use Rattle.ring_judge.specs.declared.broadcast.ReceiverEvent.TheVariants.{Copied, Lapped, Empty}
use Rattle.ring_judge.specs.declared.broadcast.BroadcastLine.TheVariants.{Transmitted, Receiver, Blank}
use Rattle.ring_judge.specs.declared.{broadcast.place.Place.Place, verdict.Verdict.Verdict}
use Rattle.ring_judge.specs.Verdicts.{IsRightVerdict}

-- the bodies of the messages that were transmitted, of which the first is message 0
abbrev pub transmitted_in : List BroadcastLine → List ℕ
transmitted_in [] = []
transmitted_in (Transmitted body ∷ run) = body ∷ transmitted_in run
transmitted_in (Receiver r event ∷ run) = transmitted_in run
transmitted_in (Blank ∷ run) = transmitted_in run

-- what one receiver noted
abbrev pub events_of : ℕ → List BroadcastLine → List ReceiverEvent
events_of r [] = []
events_of r (Transmitted body ∷ run) = events_of r run
events_of r (Receiver s event ∷ run) = if s == r then event ∷ events_of r run else events_of r run
events_of r (Blank ∷ run) = events_of r run

-- while its lapped count rises from `laps` to `count`, a receiver goes from the message `next` to the message `later`:
-- it misses at least as many messages as its count rises by
pub record IsLap (next laps count later total : ℕ) : Type 0 where
  pub rises : laps < count
  pub misses : next + count ≤ later + laps
  pub within : later ≤ total

-- a receiver that was lapped `laps` times, and whose next message is message `next` of these, can note these events
abbrev pub Receives : List ℕ → ℕ → ℕ → List ReceiverEvent → Type 0
Receives bodies next laps [] = Unit {0}
Receives bodies next laps (Copied m ∷ events) =
    (m.number ≡ next) × (slice_get bodies next ≡ Some m.body) × Receives bodies (next + 1) laps events
Receives bodies next laps (Lapped count ∷ events) =
    (later : ℕ) × IsLap next laps count later (length bodies) × Receives bodies later count events
Receives bodies next laps (Empty ∷ events) = (next ≡ length bodies) × Receives bodies next laps events

-- each receiver began before some message, or after all, and noted what these lines of a run say
abbrev pub IsExplained : List BroadcastLine → List BroadcastLine → Type 0
IsExplained run lines = let bodies = transmitted_in run in
    (r : ℕ) → (first : ℕ) × (first ≤ length bodies) × Receives bodies first 0 (events_of r lines)

-- the verdict is right
abbrev pub JudgesBroadcast : List BroadcastLine → Verdict → Type 0
JudgesBroadcast = IsRightVerdict IsExplained

-- ---- what the judge knows of a receiver

-- a receiver at this place can have this message next
pub record IsNext (total : ℕ) (place : Place) (next : ℕ) : Type 0 where
  pub within : next ≤ total
  pub is_there : MatchBool place.is_open (place.next ≤ next) (place.next ≡ next)

-- a receiver at this place can note these events
abbrev pub CanNote : List ℕ → Place → List ReceiverEvent → Type 0
CanNote bodies place events =
    (next : ℕ) × IsNext (length bodies) place next × Receives bodies next place.laps events

-- the place of a receiver of which nothing was read yet
abbrev pub anywhere : Place
anywhere = record { next = 0; is_open = true; laps = 0 }

-- these events lead from one place to another
pub record LeadsTo (bodies : List ℕ) (place : Place) (events : List ReceiverEvent) (after : Place) : Type 0 where
  pub forward : (later : List ReceiverEvent) → CanNote bodies place (events ++ later) → CanNote bodies after later
  pub backward : (later : List ReceiverEvent) → CanNote bodies after later → CanNote bodies place (events ++ later)

-- these events cannot be noted at this place, whatever comes later
abbrev pub EndsAt : List ℕ → Place → List ReceiverEvent → Type 0
EndsAt bodies place events = (later : List ReceiverEvent) → CanNote bodies place (events ++ later) → ⊥

-- the event leads to the new place, or cannot be
abbrev pub AnswersEvent : List ℕ → Place → ReceiverEvent → Place → Bool → Type 0
AnswersEvent bodies place event after answer =
    MatchBool answer (LeadsTo bodies place (event ∷ []) after) (EndsAt bodies place (event ∷ []))

abbrev pub place_of : List Place → ℕ → Place
place_of places r = slice_index_or places r anywhere

-- the line leads each receiver to its new place, or cannot be
abbrev pub AnswersLine : List ℕ → List Place → BroadcastLine → List Place → Bool → Type 0
AnswersLine bodies places line after answer = MatchBool answer
    ((r : ℕ) → LeadsTo bodies (place_of places r) (events_of r (line ∷ [])) (place_of after r))
    ((r : ℕ) × EndsAt bodies (place_of places r) (events_of r (line ∷ [])))

-- no receiver is past the end
abbrev pub AreWithin : ℕ → List Place → Type 0
AreWithin total places = (r : ℕ) → (place_of places r).next ≤ total

-- the receiver of the line is below this number
abbrev pub IsOfReceiverBelow : ℕ → BroadcastLine → Type 0
IsOfReceiverBelow count (Transmitted body) = Unit {0}
IsOfReceiverBelow count (Receiver r event) = r < count
IsOfReceiverBelow count Blank = Unit {0}
