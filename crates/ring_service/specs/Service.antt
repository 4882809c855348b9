-- The service in a caller's words. These are the commands that a client sent, their effect on the conductor, and the
-- replies that the client received.
use Rattle.std.specs.Prelude.{◌≡◌, ◌≢◌, ℕ, List, [], ◌∷◌, ◌++◌, length}
use Rattle.ring_layout.specs.declared.message.Message.{Message}
use Rattle.ring_rings.specs.Ring.{message, received, sent}
use Rattle.ring_board.specs.declared.board.CopyReceiver.{CopyReceiver}
use Rattle.ring_board.specs.Board.{copied, lapped_count_of, new_copy, LapsOnce}
use Rattle.ring_protocol.specs.{declared.reply.Reply.Reply, Reply.correlation_id_of, Reply.Spells}
use Rattle.ring_protocol.specs.Command.{Instruction, LentRequest as Request, asked, spelling_of, type_id_of}
use Rattle.ring_service.specs.declared.{client.Client.Client, client.Polled.Polled, conductor.Conductor.Conductor}
use Rattle.ring_service.specs.declared.client.Polled.TheVariants.{Answered, Another, NoReply, Nothing, Lapped}
use Rattle.ring_service.specs.Account.{Account, account_of, messages_in, reply_message}
use Rattle.ring_service.specs.{Asking.producer_of, Asking.receiver_of, Conducting.consumer_of, Conducting.ledger_of}
use Rattle.ring_service.specs.Fold.{Ledger, at_moment}

-- the message that encodes a command
abbrev pub command_message : Instruction → Message
command_message command = message (type_id_of command) (spelling_of command)

-- the messages that a client sent
abbrev pub sent_by : Client → List Message
sent_by c = sent (producer_of c)

-- the client sent only the request with this correlation id
abbrev pub SendsRequest : Request → ℕ → Client → Client → Type 0
SendsRequest request correlation old new =
    sent_by new ≡ sent_by old ++ command_message (asked request correlation) ∷ []

-- the messages that a conductor received
abbrev pub received_by : Conductor → List Message
received_by c = received (consumer_of c)

-- the counters, all value writes, and the replies as messages
abbrev pub account_in : Ledger → Account
account_in l = record { registry = l.registry; writes = l.writes; replies = messages_in l.board.sent }

abbrev pub account_by : Conductor → Account
account_by c = account_in (ledger_of c)

-- this many messages were received, and each was applied at this moment and got its reply
pub record Serves (now : ℕ) (old new : Conductor) (count : ℕ) : Type 0 where
  pub messages : List Message
  pub counted : count ≡ length messages
  pub more : received_by new ≡ received_by old ++ messages
  pub folded : account_by new ≡ account_of (account_by old) (at_moment now messages)

-- the receiver copied this message, and was not lapped
abbrev pub CopiesMessage : CopyReceiver → CopyReceiver → Message → Type 0
CopiesMessage old new m = (lapped_count_of new ≡ lapped_count_of old) × (place : ℕ)
    × (copied new ≡ copied old ++ new_copy place m.type_id m.body (lapped_count_of old) ∷ [])

-- A poll was made for the reply to the command with this correlation id. It copied the message of the reply that it
-- returned, or a message that is no reply, or nothing, or the receiver was lapped.
abbrev pub Polls : ℕ → Client → Client → Polled → Type 0
Polls correlation old new (Answered r) =
    CopiesMessage (receiver_of old) (receiver_of new) (reply_message r) × (correlation_id_of r ≡ correlation)
Polls correlation old new (Another r) =
    CopiesMessage (receiver_of old) (receiver_of new) (reply_message r) × (correlation_id_of r ≢ correlation)
Polls correlation old new NoReply = (m : Message) × CopiesMessage (receiver_of old) (receiver_of new) m
    × ((r : Reply) → Spells m.type_id m.body r → ⊥)
Polls correlation old new Nothing = (lapped_count_of (receiver_of new) ≡ lapped_count_of (receiver_of old))
    × (copied (receiver_of new) ≡ copied (receiver_of old))
Polls correlation old new (Lapped l) = LapsOnce l (receiver_of old).receiver (receiver_of new).receiver
