-- Why a batch of messages is refused, and why a write of it stops before its end.
use Rattle.std.specs.Prelude.{◌≡◌, ◌⊎◌, ℕ, pos, List, [], ◌∷◌, length, Bool, Option, Some, None}
use Rattle.ring_layout.specs.{declared.message.Message.Message, Refusals.message_refusal_or}
use Rattle.ring_words.specs.declared.fault.ClaimFault.{ClaimFault, TheVariants.BadType, TheVariants.TooLong}
use Rattle.ring_table.specs.declared.view.View.{View}
use Rattle.ring_rings.specs.Claiming.{RefusesTry}
use Rattle.ring_rings.specs.declared.fault.TryFault.{TryFault, TheVariants.Refused, TheVariants.Contended}

-- the reason why a ring of this capacity can have no such batch: that of the first message that has one
abbrev pub batch_refusal_of : ℕ → List Message → Option ClaimFault
batch_refusal_of C [] = None
batch_refusal_of C (m ∷ ms) = message_refusal_or BadType TooLong C m.type_id (length m.body) (batch_refusal_of C ms)

-- a try to write several messages as one run found that another producer was faster
pub record LosesRun (many : Bool) (C : ℕ) (v : View) (fault : TryFault) (w : View) : Type 0 where
  pub tail : ℕ
  pub seen : ℕ
  pub fault_is : fault ≡ Contended tail seen
  pub len : ℕ
  pub refused : RefusesTry many C (pos 1) len v fault w

-- The last try before this view was refused. The try was to write the first of these messages, or several as one run.
pub record StopsAt (many : Bool) (C : ℕ) (m : Message) (fault : TryFault) (w : View) : Type 0 where
  pub before : View
  pub refused : RefusesTry many C m.type_id (length m.body) before fault w ⊎ LosesRun many C before fault w

-- there is a first message of these, and a write stops at it
abbrev pub StopsAtFirst : Bool → ℕ → List Message → TryFault → View → Type 0
StopsAtFirst many C [] fault w = ⊥
StopsAtFirst many C (m ∷ ms) fault w = StopsAt many C m fault w

-- the ring can have no such batch, and nothing was tried
pub record RefusesAll (C : ℕ) (ms : List Message) (v : View) (fault : TryFault) (w : View) : Type 0 where
  pub reason : ClaimFault
  pub refused : batch_refusal_of C ms ≡ Some reason
  pub fault_is : fault ≡ Refused reason
  pub same : w ≡ v

-- the ring can have the batch, and the write stopped at its first message
pub record StopsAtOnce (many : Bool) (C : ℕ) (ms : List Message) (fault : TryFault) (w : View) : Type 0 where
  pub no_other : batch_refusal_of C ms ≡ None
  pub stops : StopsAtFirst many C ms fault w

-- no message of the batch was written
abbrev pub RefusesBatch : Bool → ℕ → List Message → View → TryFault → View → Type 0
RefusesBatch many C ms v fault w = RefusesAll C ms v fault w ⊎ StopsAtOnce many C ms fault w
