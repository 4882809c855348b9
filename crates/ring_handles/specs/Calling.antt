-- What calls of clients do: k is the client before, l after, and the code is what is returned.
use Rattle.std.specs.Prelude.{◌≡◌, ℕ, ℤ, pos, Result}
use Rattle.ring_table.specs.ServiceSteps.{LoadsHeartbeat}
use Rattle.ring_rings.specs.Claiming.{try_code}
use Rattle.ring_protocol.specs.{declared.reply.Reply.Reply, Command.LentRequest as Request, Reply.type_id_of}
use Rattle.ring_protocol.specs.declared.reply.Reply.TheVariants.{Allocated, Done, Refused, Closed}
use Rattle.ring_service.specs.declared.client.{Polled.Polled, SendFault.SendFault}
use Rattle.ring_service.specs.declared.client.Polled.TheVariants as told
use Rattle.ring_service.specs.declared.client.SendFault.TheVariants as fault
use Rattle.ring_service.specs.Asking.{client_seat, client_view, IsHeard}
use Rattle.ring_ends.specs.Conducting.{ring_bytes, KeepsReceiver, KeepsSender, SeatedClient, TriesSend}
use Rattle.ring_handles.specs.{Counting.Tells, declared.client.ClientSide.ClientSide}
use Rattle.ring_layout.specs.declared.refusal_codes.TheConstants.{LAPPED, TOO_LONG}
use Rattle.ring_handles.specs.declared.code.TheConstants.{DONE, NO_MESSAGE, OTHER_REPLY}

-- the call did this to the end, and the number stays
abbrev pub ByClient : (SeatedClient → SeatedClient → Type 0) → ClientSide → ClientSide → Type 0
ByClient Call k l = (l.identity ≡ k.identity) × Call k.end l.end

-- Sending ------------------------------------------------------------------------

-- the number of a command that was not sent
abbrev pub send_code : SendFault → ℤ
send_code fault.TooLong = TOO_LONG
send_code (fault.Refused id reason) = try_code reason

-- a command was sent with an id that was drawn for it, and the id is put out; or it was refused
abbrev pub WasSent : Request → ℕ → ℕ → ClientSide → ClientSide → ℤ → Type 0
WasSent request before id k l code = (x : Result ℕ SendFault) × Tells send_code x before id code
    × ByClient (λ p q. KeepsReceiver p q × TriesSend request p x q) k l

-- Hearing ------------------------------------------------------------------------

-- what a poll puts out: of a reply its kind and its number, or how often the client was lapped
pub record PollOut : Type 0 where
  pub kind : ℤ
  pub number : ℤ
  pub lapped : ℕ

abbrev pub poll_out : ℤ → ℤ → ℕ → PollOut
poll_out kind number lapped = record { kind = kind; number = number; lapped = lapped }

-- what a reply says in addition to its kind
abbrev pub number_in : Reply → ℤ
number_in (Allocated correlation id) = pos id
number_in (Done correlation) = pos 0
number_in (Refused correlation code) = code
number_in (Closed correlation freed) = pos freed

-- the code of a poll: DONE if the reply came that was asked for
abbrev pub poll_code : Polled → ℤ
poll_code (told.Answered reply) = DONE
poll_code (told.Another reply) = OTHER_REPLY
poll_code told.NoReply = OTHER_REPLY
poll_code told.Nothing = NO_MESSAGE
poll_code (told.Lapped lapped) = LAPPED

-- what is out after it: that reply, or how often the client was lapped, or what was out before
abbrev pub polled_or : PollOut → Polled → PollOut
polled_or before (told.Answered reply) = poll_out (type_id_of reply) (number_in reply) before.lapped
polled_or before (told.Another reply) = before
polled_or before told.NoReply = before
polled_or before told.Nothing = before
polled_or before (told.Lapped lapped) = record before { lapped = lapped.count }

-- the next message was received, and what was found is put out
abbrev pub WasPolled : ℕ → PollOut → PollOut → ClientSide → ClientSide → ℤ → Type 0
WasPolled correlation before after k l code = (x : Polled) × (code ≡ poll_code x) × (after ≡ polled_or before x)
    × ByClient (λ p q. KeepsSender p q × IsHeard correlation (client_seat p.client) (client_seat q.client) x) k l

-- The heartbeat ------------------------------------------------------------------

-- the heartbeat was loaded
abbrev pub ClientBeat : ℕ → ClientSide → ClientSide → ℤ → Type 0
ClientBeat value k l code = (code ≡ DONE) × ByClient (λ p q. KeepsReceiver p q
    × LoadsHeartbeat (ring_bytes p) (client_view p.client) value (client_view q.client)) k l
