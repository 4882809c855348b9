-- The requests of a client, and the replies that it receives.
use Rattle.std.specs.Prelude.{◌≡◌, ◌≢◌, ℕ, ◌≤◌, ℤ, List, length, Bool}
use Rattle.ring_layout.specs.Lists.{total}
use Rattle.ring_table.specs.{declared.view.Service.Service, declared.view.View.View, ServiceSteps.DrawsId}
use Rattle.ring_table.specs.Services.{times}
use Rattle.ring_rings.specs.declared.{fault.TryFault.TryFault, ring.Producer.Producer, ring.Ring.Ring}
use Rattle.ring_rings.specs.{Claiming.Refusing, Claiming.Writing, Seats.view_of, Seats.IsProducerOf, Seats.MayClaim}
use Rattle.ring_rings.specs.declared.bodies.Bodies.{Ghosts}
use Rattle.ring_board.specs.{declared.board.Board.Board, declared.board.CopyReceiver.CopyReceiver, Views.Sat}
use Rattle.ring_board.specs.Receiving.{GotCopy, GotLapped, GotNothing}
use Rattle.ring_board.specs.Seats.{receiver_seat, IsReceiverOf}
use Rattle.ring_protocol.specs.declared.reply.Reply.{Reply}
use Rattle.ring_service.specs.declared.client.{Client.Client, Polled.Polled}
use Rattle.ring_service.specs.declared.client.Polled.TheVariants.{Answered, Another, NoReply, Nothing, Lapped}
use Rattle.ring_service.specs.declared.client.SendFault.{SendFault, TheVariants.TooLong, TheVariants.Refused}
use Rattle.ring_protocol.specs.Command.{LentRequest as Request, HasTextLengths, asked, content_of_request, spelling_of, type_id_of}
use Rattle.ring_protocol.specs.Reply as reply

abbrev pub producer_of : Client → Producer
producer_of c = c.producer

abbrev pub receiver_of : Client → CopyReceiver
receiver_of c = c.receiver

-- the numbers that a producer drew, what it read, and the services of the producers that were joined to it
abbrev pub service_of : Producer → Service
service_of p = (view_of p).producer.service

abbrev pub draws_of : Producer → List ℕ
draws_of p = (service_of p).draws

abbrev pub services_of : Producer → List Service
services_of p = (view_of p).producer.joined

-- the number of times that these services drew a number
abbrev pub drawn_in : ℕ → List Service → ℕ
drawn_in x services = total (λ (s : Service). times x s.draws) services

-- the view of a client's producer of the ring
abbrev pub client_view : Client → View
client_view c = view_of c.producer

-- the view of a client's receiver of the broadcast buffer
abbrev pub client_seat : Client → Sat
client_seat c = receiver_seat c.receiver

-- The client's producer may claim in this ring, whose kind is for many producers or for one. Its receiver is one of
-- this broadcast buffer.
abbrev pub IsSeatedAt : {K B : Type 0} {G : Ghosts B} → Bool → Ring K B G → Board → Client → Type 0
IsSeatedAt many ring board c =
    IsProducerOf ring (producer_of c) × MayClaim many (producer_of c) × IsReceiverOf board (receiver_of c)

-- the command takes at most 520 bytes, with any correlation id
pub record IsSendable (r : Request) : Type 0 where
  pub texts : HasTextLengths (content_of_request r)
  pub room : length (spelling_of (asked r 0)) ≤ 520

-- Sending ----------------------------------------------------------------------

-- W is the effect of a write on a producer's view, and R is the effect of a refused try. Both depend on the ring's
-- kind.

-- the view has one more committed claim, which is the command with this correlation id
abbrev pub SendsAs : Writing → ℕ → ℕ → Request → View → View → Type 0
SendsAs W C correlation request v w =
    let command = asked request correlation in W C (type_id_of command) (spelling_of command) v w

-- nothing was written, because the command is too long or the ring refused it
abbrev pub RefusesAs : Refusing → ℕ → ℕ → Request → View → SendFault → View → Type 0
RefusesAs R C correlation request v TooLong w = (IsSendable request → ⊥) × (w ≡ v)
RefusesAs R C correlation request v (Refused id reason) w =
    let command = asked request correlation in IsSendable request × (id ≡ correlation)
    × R C (type_id_of command) (length (spelling_of command)) v reason w

-- an id was drawn, and the view has one more committed claim, which is the command with this id
pub record Sends (W : Writing) (C : ℕ) (request : Request) (v : View) (correlation : ℕ) (w : View) : Type 0 where
  pub between : View
  pub draws : DrawsId v correlation between
  pub sent : SendsAs W C correlation request between w

-- an id was drawn, and the ring refused the command with that correlation id
pub record RefusesDrawn (R : Refusing) (C : ℕ) (request : Request) (v : View) (correlation : ℕ) (reason : TryFault)
    (w : View) : Type 0 where
  pub between : View
  pub draws : DrawsId v correlation between
  pub refused : RefusesAs R C correlation request between (Refused correlation reason) w

-- no id was drawn for a command that is too long
abbrev pub RefusesSend : Refusing → ℕ → Request → View → SendFault → View → Type 0
RefusesSend R C request v TooLong w = (IsSendable request → ⊥) × (w ≡ v)
RefusesSend R C request v (Refused correlation reason) w = RefusesDrawn R C request v correlation reason w

-- Hearing ----------------------------------------------------------------------

-- one more copy came, which encodes this reply
pub record Hears (r : Reply) (old new : Sat) : Type 0 where
  pub place : ℕ
  pub type_id : ℤ
  pub body : List ℕ
  pub copied : GotCopy place type_id body old new
  pub spells : reply.Spells type_id body r

-- one more copy came, which encodes no reply
pub record HearsNoReply (old new : Sat) : Type 0 where
  pub place : ℕ
  pub type_id : ℤ
  pub body : List ℕ
  pub copied : GotCopy place type_id body old new
  pub spells : (r : Reply) → reply.Spells type_id body r → ⊥

-- the result of a poll for the reply to the command with this correlation id
abbrev pub IsHeard : ℕ → Sat → Sat → Polled → Type 0
IsHeard correlation old new (Answered r) = Hears r old new × (reply.correlation_id_of r ≡ correlation)
IsHeard correlation old new (Another r) = Hears r old new × (reply.correlation_id_of r ≢ correlation)
IsHeard correlation old new NoReply = HearsNoReply old new
IsHeard correlation old new Nothing = GotNothing old new
IsHeard correlation old new (Lapped l) = GotLapped l old new
