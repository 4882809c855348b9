-- How a read ends that its handler controls, whatever it takes. `Takes t n`: n messages were taken, after which the
-- handler is t. `answers` are the actions that it returned for them.
use Rattle.std.specs.Prelude.{◌≡◌, ◌<◌, ℕ, Bool, true, false, List, [], ◌∷◌, ◌++◌, All}
use Rattle.ring_words.specs.declared.read.{action.Action.Action, end.ReadEnd.ReadEnd, end.Stop.Stop}
use Rattle.ring_words.specs.declared.read.action.Action.TheVariants.{Abort, Break, Commit, Continue}
use Rattle.ring_layout.specs.declared.message.Message.{Message}

-- the action that a read goes by: the handler's, if the read heeds it
abbrev pub heard : Bool → Action → Action
heard true a = a
heard false a = Continue

-- a handler's step, with the action that the read goes by
abbrev pub heeded : {S : Type 0} → Bool → (S → Message → S → Action → Type 0) → S → Message → S → Action → Type 0
heeded heeds step s m t a = (b : Action) × step s m t b × (a ≡ heard heeds b)

-- an action after which a controlled read goes on
abbrev pub GoesOn : Action → Type 0
GoesOn Abort = ⊥
GoesOn Break = ⊥
GoesOn Commit = Unit {0}
GoesOn Continue = Unit {0}

-- the handler let the read go on after each message, and it stopped for this reason
pub record LetOn {S : Type 0} (Takes : S → ℕ → Type 0) (answers : (t : S) (n : ℕ) → Takes t n → List Action)
    (stop : Stop) (t : S) (end : ReadEnd) : Type 0 where
  pub reads : Takes t end.messages
  pub went_on : All GoesOn (answers t end.messages reads)
  pub stopped : end.stopped ≡ stop

-- it stopped the read by Break at the last message, which was taken, and nothing was passed after it (`Tight`)
pub record BrokenOff {S : Type 0} (Takes : S → ℕ → Type 0) (answers : (t : S) (n : ℕ) → Takes t n → List Action)
    (Tight : (t : S) (n : ℕ) → Takes t n → Type 0) (t : S) (end : ReadEnd) : Type 0 where
  pub reads : Takes t end.messages
  pub before : List Action
  pub went_on : All GoesOn before
  pub broke : answers t end.messages reads ≡ before ++ Break ∷ []
  pub tight : Tight t end.messages reads
  pub stopped : end.stopped ≡ Stop.Action

-- it stopped the read by Abort at one more message, which was left: it is the next one (`Next`), and the read had
-- reached neither its limit nor the end of the buffer (`Inside`)
pub record CutShort {S : Type 0} (step : S → Message → S → Action → Type 0) (limit : ℕ) (Takes : S → ℕ → Type 0)
    (answers : (t : S) (n : ℕ) → Takes t n → List Action) (Next : Message → Type 0) (Inside : Type 0) (t : S)
    (end : ReadEnd) : Type 0 where
  pub before : S
  pub reads : Takes before end.messages
  pub went_on : All GoesOn (answers before end.messages reads)
  pub message : Message
  pub aborted : step before message t Abort
  pub next : Next message
  pub before_limit : end.messages < limit
  pub before_end : Inside
  pub stopped : end.stopped ≡ Stop.Action
