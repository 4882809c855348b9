-- What a read does.
use Rattle.std.specs.Prelude.{◌≡◌, ◌≢◌, ◌⊎◌, ℕ, ◌+◌, ◌<◌, ◌%◌, ◌==◌, ◌&&◌, nat_lt, List, [], ◌∷◌, ◌++◌, length, All, if◌then◌else◌}
use Rattle.ring_words.specs.declared.read.{action.Action.Action, end.ReadEnd.ReadEnd}
use Rattle.ring_words.specs.declared.read.end.Stop.{Stop, TheVariants.Limit, TheVariants.Block, TheVariants.Unpublished}
use Rattle.ring_layout.specs.{declared.message.Claim.Claim, declared.message.Message.Message, Handles.Handles}
use Rattle.ring_layout.specs.declared.message.ClaimState.TheVariants.{Open, Committed}
use Rattle.ring_layout.specs.{History.committed_of, History.span_of, Places.next_place, Places.end_of}
use Rattle.ring_words.specs.{Ring.Ring, Ring.Has, Ring.head_of, Reading.IsAtHead, Reading.MovesHead}
use Rattle.ring_words.specs.Controlled.{BrokenOff, CutShort, LetOn}

-- the head is the end of the claims passed or, if padding follows, the place of the next claim
abbrev pub IsHeadAfter : ℕ → ℕ → List Claim → List Claim → ℕ → Type 0
IsHeadAfter C e passed rest head = (head ≡ end_of C e passed)
    ⊎ ((c : Claim) × (others : List Claim) × (rest ≡ c ∷ others)
    × (head ≡ next_place C (end_of C e passed) (span_of c)))

-- nothing was passed after the last message
abbrev pub IsTight : ℕ → ℕ → List Claim → ℕ → Type 0
IsTight C e passed head = ((passed ≡ []) × (head ≡ e))
    ⊎ ((front : List Claim) × (c : Claim) × (passed ≡ front ++ c ∷ []) × (c.state ≡ Committed)
    × (head ≡ end_of C e passed))

-- from the history h settled claims were passed whose committed ones are these messages, and the others are left
pub record Passes (limit : ℕ) (old : Ring) (h : List Claim) (new : Ring) (messages : List Message) : Type 0 where
  pub passed : List Claim
  pub rest : List Claim
  pub whole : h ≡ passed ++ rest
  pub settled : All (λ c. c.state ≢ Open) passed
  pub shown : committed_of passed ≡ messages
  pub left : Has new rest
  pub head : IsHeadAfter old.capacity (head_of old) passed rest (head_of new)
  pub tight : length messages ≡ limit → IsTight old.capacity (head_of old) passed (head_of new)

-- messages were read: the handler was shown them, and of each history that the ring had they were passed
pub record Reads {S : Type 0} (step : S → Message → S → Action → Type 0) (limit : ℕ) (old new : Ring) (s t : S)
    (count : ℕ) : Type 0 where
  pub messages : List Message
  pub actions : List Action
  pub handled : Handles step s messages actions t
  pub counted : count ≡ length messages
  pub moves : MovesHead old new
  pub passes : (h : List Claim) → Has old h → Passes limit old h new messages

-- why a read stops, after this many messages, at this head, with this many bytes passed
abbrev pub stop_of : ℕ → ℕ → ℕ → ℕ → ℕ → Stop
stop_of C limit messages head bytes =
    if messages == limit then Limit
    else (if (head % C == 0) && nat_lt 0 bytes then Block
    else Unpublished)

-- messages were read, and why the read stopped
pub record ReadsTo {S : Type 0} (step : S → Message → S → Action → Type 0) (limit : ℕ) (old new : Ring) (s t : S)
    (end : ReadEnd) : Type 0 where
  pub reads : Reads step limit old new s t end.messages
  pub bytes : head_of old + end.bytes ≡ head_of new
  pub stopped : end.stopped ≡ stop_of new.capacity limit end.messages (head_of new) end.bytes

-- the message m is at the head of each history that the ring has
abbrev pub IsNext : Ring → Message → Type 0
IsNext r m = (h : List Claim) → Has r h → (c : Claim) × (rest : List Claim) × (h ≡ c ∷ rest) × (c.state ≡ Committed)
    × (c.message ≡ m) × IsAtHead r c

-- the handler let the read go on after each message
abbrev pub WentOn : {S : Type 0} → (S → Message → S → Action → Type 0) → ℕ → Ring → Ring → S → S → ReadEnd → Type 0
WentOn step limit old new s t end = LetOn (Reads step limit old new s) (λ t n r. r.actions)
    (stop_of new.capacity limit end.messages (head_of new) end.bytes) t end

-- it stopped the read by Break
abbrev pub Broke : {S : Type 0} → (S → Message → S → Action → Type 0) → ℕ → Ring → Ring → S → S → ReadEnd → Type 0
Broke step limit old new s t end = BrokenOff (Reads step limit old new s) (λ t n r. r.actions)
    (λ t n r. (h : List Claim) (has : Has old h)
    → IsTight old.capacity (head_of old) (r.passes h has).passed (head_of new)) t end

-- it stopped the read by Abort
abbrev pub Aborts : {S : Type 0} → (S → Message → S → Action → Type 0) → ℕ → Ring → Ring → S → S → ReadEnd → Type 0
Aborts step limit old new s t end = CutShort step limit (Reads step limit old new s) (λ t n r. r.actions) (IsNext new)
    (head_of old < head_of new → head_of new % new.capacity ≢ 0) t end

-- a read that the handler controls
abbrev pub Controls : {S : Type 0} → (S → Message → S → Action → Type 0) → ℕ → Ring → Ring → S → S → ReadEnd → Type 0
Controls step limit old new s t end =
    WentOn step limit old new s t end ⊎ (Broke step limit old new s t end ⊎ Aborts step limit old new s t end)
