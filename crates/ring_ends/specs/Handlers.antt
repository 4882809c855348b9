-- The handlers of the calls that ask for the next message.
use Rattle.std.specs.Prelude.{◌≡◌, ◌⊎◌, ◌<◌, ◌≤◌, length, Bool, true, false}
use Rattle.ring_layout.specs.{declared.message.Message.Message, History.overwritten}
use Rattle.ring_words.specs.declared.read.action.Action.{Action, TheVariants.Abort, TheVariants.Break}
use Rattle.ring_ends.specs.declared.{copying.Copying.Copying, taking.Taking.Taking}
use Rattle.ring_ends.specs.declared.copying.NextMessage.TheVariants.{Copied, TooLong}

-- what becomes of a message that was copied: it is taken, or stays
abbrev pub after_copy : Bool → Action
after_copy true = Break
after_copy false = Abort

-- there was room, and the body is at the front of the buffer
pub record CopiesIn (s : Copying) (m : Message) (t : Copying) (a : Action) : Type 0 where
  pub room : length m.body ≤ length s.buffer.now
  pub action : a ≡ after_copy s.takes
  pub found : t.found ≡ Copied m.type_id (length m.body)
  pub buffer : t.buffer.now ≡ overwritten 0 m.body s.buffer.now
  -- it is the same buffer
  pub borrow : t.buffer.ghost_name ≡ s.buffer.ghost_name

-- there was not, and the message stays
pub record Exceeds (s : Copying) (m : Message) (t : Copying) (a : Action) : Type 0 where
  pub short : length s.buffer.now < length m.body
  pub action : a ≡ Abort
  pub found : t.found ≡ TooLong m.type_id (length m.body)
  pub buffer : t.buffer.now ≡ s.buffer.now
  -- it is the same buffer
  pub borrow : t.buffer.ghost_name ≡ s.buffer.ghost_name

abbrev pub Copies : Copying → Message → Copying → Action → Type 0
Copies s m t a = CopiesIn s m t a ⊎ Exceeds s m t a

-- one message is taken
pub record Takes (s : Taking) (m : Message) (t : Taking) (a : Action) : Type 0 where
  pub took : t.took ≡ true
  pub action : a ≡ Break
