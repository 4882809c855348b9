-- The effect of a list of messages on fresh counters, over plain lists.
use Rattle.std.specs.Prelude.{◌≡◌, ℕ, ◌≤◌, ◌^◌, List, [], ◌∷◌, ◌++◌, All}
use Rattle.ring_layout.specs.declared.message.Message.{Message}
use Rattle.ring_rings.specs.{declared.ring.Consumer.Consumer, Reading.messages_of, Seats.taken_of}
use Rattle.ring_board.specs.declared.{shared.view.Record.Record, board.Transmitter.Transmitter}
use Rattle.ring_board.specs.Board.{transmitted}
use Rattle.ring_counters.specs.declared.{values.view.ValueWrite.ValueWrite, manager.CountersManager.CountersManager}
use Rattle.ring_counters.specs.Registry.{Registry, count_of, fresh_registry}
use Rattle.ring_counters.specs.Manager.{registry_of, writes_of}
use Rattle.ring_protocol.specs.{declared.reply.Reply.Reply, Reply.type_id_of, Reply.spelling_of}
use Rattle.ring_service.specs.Applied.{applied}

-- the counters, all value writes, and the replies as messages
pub record Account : Type 0 where
  pub registry : Registry
  pub writes : List ValueWrite
  pub replies : List Message

-- nothing was written, and no reply was given
abbrev pub fresh_account : ℕ → ℕ → Account
fresh_account count reuse_ms = record { registry = fresh_registry count reuse_ms; writes = []; replies = [] }

-- the message that encodes a reply
abbrev pub reply_message : Reply → Message
reply_message reply = record { type_id = type_id_of reply; body = spelling_of reply }

-- a message is applied at a moment, and gets its one reply
abbrev pub entered : Account → ℕ → Message → Account
entered a now m =
    let o = applied now a.registry m in
    record { registry = o.registry; writes = a.writes ++ o.writes; replies = a.replies ++ reply_message o.reply ∷ [] }

-- messages are applied in order, each at its moment
abbrev pub account_of : Account → List (ℕ × Message) → Account
account_of a [] = a
account_of a (p ∷ ps) = account_of (entered a p.0 p.1) ps

-- the messages without their moments
abbrev pub untimed : List (ℕ × Message) → List Message
untimed [] = []
untimed (p ∷ ps) = p.1 ∷ untimed ps

-- the messages of a transmitted list
abbrev pub messages_in : List Record → List Message
messages_in [] = []
messages_in (r ∷ rs) = r.message ∷ messages_in rs

-- There are moments, one for each message. At these moments the messages make this registry, these writes and these
-- replies from as many fresh counters, with this reuse timeout.
pub record IsFoldOf (messages : List Message) (registry : Registry) (writes : List ValueWrite)
    (replies : List Message) : Type 0 where
  pub timed : List (ℕ × Message)
  pub each : untimed timed ≡ messages
  pub moments : All (λ p. p.0 ≤ 2 ^ 62) timed
  pub folded : account_of (fresh_account (count_of registry) registry.reuse_ms) timed
      ≡ record { registry = registry; writes = writes; replies = replies }

-- the messages that were taken make these counters and the transmitted list from fresh counters
abbrev pub HasFold : Consumer → CountersManager → Transmitter → Type 0
HasFold consumer counters transmitter = IsFoldOf (messages_of (taken_of consumer)) (registry_of counters)
    (writes_of counters) (messages_in (transmitted transmitter))
