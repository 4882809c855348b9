-- A read that goes on past the end of the buffer, of a ring of any kind: X is what is said of the ring, S the
-- handler's states, and Reads what one read says.
use Rattle.std.specs.Prelude.{◌≡◌, ◌≢◌, ◌⊎◌, ℕ, ◌+◌, ◌-◌}
use Rattle.ring_words.specs.declared.read.end.{ReadEnd.ReadEnd, Stop.Stop}

-- one read, which was stopped by something other than the end of the buffer
pub record ReadsOnce {X S : Type 0} (Reads : ℕ → X → X → S → S → ReadEnd → Type 0) (limit : ℕ) (old new : X) (s t : S)
    (end : ReadEnd) : Type 0 where
  pub reads : Reads limit old new s t end
  pub stopped : end.stopped ≢ Stop.Block

-- a read up to the end of the buffer, and another from there on with the rest of the limit; messages and bytes are
-- those of both
pub record ReadsTwice {X S : Type 0} (Reads : ℕ → X → X → S → S → ReadEnd → Type 0) (limit : ℕ) (old new : X) (s t : S)
    (end : ReadEnd) : Type 0 where
  pub between : X
  pub middle : S
  pub first : ReadEnd
  pub second : ReadEnd
  pub to_end : Reads limit old between s middle first
  pub at_end : first.stopped ≡ Stop.Block
  pub behind : Reads (limit - first.messages) between new middle t second
  pub messages : end.messages ≡ first.messages + second.messages
  pub bytes : end.bytes ≡ first.bytes + second.bytes
  pub stopped : end.stopped ≡ second.stopped

abbrev pub ReadsAcross : {X S : Type 0} → (ℕ → X → X → S → S → ReadEnd → Type 0) → ℕ → X → X → S → S → ReadEnd → Type 0
ReadsAcross Reads limit old new s t end = ReadsOnce Reads limit old new s t end ⊎ ReadsTwice Reads limit old new s t end
