-- A request, and its reply.
use Rattle.std.specs.Prelude.{◌≡◌, ℕ, pos, List, [], ◌∷◌, codes}
use Rattle.ring_layout.specs.declared.message.Message.{Message}
use Rattle.ring_board.specs.Board.{copied}
use Rattle.ring_rings.specs.{Reading.messages_of, Ring.IsWhole, Ring.sent}
use Rattle.ring_protocol.specs.{declared.command.Request.TheVariants.Allocate, Command.with_id, Reply.correlation_id_of}
use Rattle.ring_service.specs.Account.{account_of, fresh_account, messages_in, reply_message}
use Rattle.ring_service.specs.{Asking.receiver_of, Conducting.received_of, Finishing.replies_of, Fold.at_moment}
use Rattle.ring_service.specs.Service.{command_message}
use Rattle.ring_uses.specs.{declared.reply.Answer.Answer, Laps.messages_of as copied_messages}

-- the command that asks for a counter of type 1, with an empty key and the label `requests`
abbrev pub request_with : ℕ → Message
request_with correlation = command_message (with_id correlation (Allocate (pos 1) [] (codes "requests")))

-- the replies to these messages, each of which is taken at the moment 0, if four counters are fresh
abbrev pub replies_to : List Message → List Message
replies_to ms = (account_of (fresh_account 4 50) (at_moment 0 ms)).replies

-- Exactly the request was sent, and it was received. The one reply that was transmitted is the reply to this request.
-- The client's receiver copied this reply.
pub record IsAnswered (a : Answer) : Type 0 where
  pub sends : sent a.producer.value ≡ request_with a.correlation ∷ []
  pub receives : messages_of (received_of a.conductor.value) ≡ request_with a.correlation ∷ []
  pub whole : IsWhole (sent a.producer.value) (messages_of (received_of a.conductor.value)) a.rest
  pub replies : messages_in (replies_of a.conductor.value) ≡ replies_to (messages_of (received_of a.conductor.value))
  pub transmits : messages_in (replies_of a.conductor.value) ≡ reply_message a.reply ∷ []
  pub copies : copied_messages (copied (receiver_of a.client.value.client)) ≡ reply_message a.reply ∷ []
  pub correlated : correlation_id_of a.reply ≡ a.correlation
