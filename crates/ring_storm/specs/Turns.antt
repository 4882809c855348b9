-- The turns of a client of a storm. It sends one command after another, and each has its reply.
use Rattle.std.specs.Prelude.{◌≡◌, ℕ, zero, suc, ◌==◌, ◌%◌, ◌^◌, pos, if◌then◌else◌, List, [], ◌∷◌, ◌++◌, codes}
use Rattle.std.specs.Fmt.{decimal}
use Rattle.ring_layout.specs.declared.message.ClaimState.TheVariants.{Committed}
use Rattle.ring_table.specs.declared.claim.{StagedClaim.StagedClaim, Stage.TheVariants.Stored}
use Rattle.ring_table.specs.{Owners.interleaved, Staged.AreRising, declared.view.Service.Service}
use Rattle.ring_rings.specs.Seats.{claims_of}
use Rattle.ring_board.specs.{declared.shared.view.Joined.Joined, declared.shared.view.Taken.Taken, Board.copied}
use Rattle.ring_protocol.specs.declared.reply.Reply.{Reply}
use Rattle.ring_protocol.specs.declared.reply.Reply.TheVariants.{Allocated, Done, Refused, Closed}
use Rattle.ring_service.specs.{declared.client.Client.Client, Asking.draws_of, Asking.producer_of, Asking.receiver_of}
use Rattle.ring_protocol.specs.declared.command.Request.{Request, TheVariants.Allocate, TheVariants.Set}
use Rattle.ring_protocol.specs.Command.{Instruction, spelling_of, type_id_of, with_id}
use Rattle.ring_protocol.specs.Reply as reply

-- the label of a client's counter, which is `c` and the client's number in decimal digits, without a leading zero
abbrev pub label_of : ℕ → List ℕ
label_of client = codes "c" ++ decimal client

-- the request with this number, which asks for a counter with this label or sets the counter with this id to the number
abbrev pub numbered : List ℕ → ℕ → ℕ → Request (List ℕ)
numbered label counter number = if number == 1 then Allocate (pos 1) [] label else Set counter (pos number)

-- A client's command. The first command allocates a counter with the client's label. Each later one sets a counter to
-- the command's number.
abbrev pub turn_of : ℕ → ℕ → ℕ → ℕ → Instruction
turn_of client counter number correlation = with_id correlation (numbered (label_of client) counter number)

-- The last number that a client sets by this many commands. The first command alone sets none, and the counter has 0.
abbrev pub last_set : ℕ → ℕ
last_set commands = if commands == 1 then 0 else commands

-- the claims that a client made, the numbers that it drew, and the copies that it has
abbrev pub claims_by : Client → List StagedClaim
claims_by c = claims_of (producer_of c)

abbrev pub draws_by : Client → List ℕ
draws_by c = draws_of (producer_of c)

abbrev pub copies_by : Client → List Taken
copies_by c = copied (receiver_of c)

-- the second list begins with the first list
abbrev pub Lengthens : {A : Type 0} → List A → List A → Type 0
Lengthens {A} old new = (more : List A) × (new ≡ old ++ more)

-- the claims have one more claim, which is the committed command
pub record Adds (c : Instruction) (old new : List StagedClaim) : Type 0 where
  pub claim : StagedClaim
  pub added : new ≡ old ++ claim ∷ []
  pub message : claim.message ≡ record { type_id = type_id_of c; body = spelling_of c }
  pub committed : claim.stage ≡ Stored Committed

-- the copies have some more, of which the last one encodes this reply, with this correlation id
pub record IsAnswered (correlation : ℕ) (r : Reply) (old new : List Taken) : Type 0 where
  pub passed : List Taken
  pub copy : Taken
  pub added : new ≡ old ++ (passed ++ copy ∷ [])
  pub spells : reply.Spells copy.message.type_id copy.message.body r
  pub answers : reply.correlation_id_of r ≡ correlation

-- the history of a client, which is its claims, the numbers that it drew, its copies, and the id of its counter, as the
-- client knows it
pub record ClientHistory : Type 0 where
  pub claims : List StagedClaim
  pub draws : List ℕ
  pub copies : List Taken
  pub counter : ℕ

-- each list begins with the old one
pub record Extends (old new : ClientHistory) : Type 0 where
  pub claims : Lengthens old.claims new.claims
  pub draws : Lengthens old.draws new.draws
  pub copies : Lengthens old.copies new.copies

-- the id of a client's counter after a reply, which is the one that was allocated, or the one before
abbrev pub counter_told : Reply → ℕ → ℕ
counter_told (Allocated correlation id) counter = id
counter_told (Done correlation) counter = counter
counter_told (Refused correlation code) counter = counter
counter_told (Closed correlation freed) counter = counter

-- A client drew one number, and its command was sent with this correlation id. If the command sets a counter, it is the
-- counter that the client knew. Then a reply with this id came. It may have the id of the client's counter.
pub record Turns (client number : ℕ) (old new : ClientHistory) : Type 0 where
  pub draw : ℕ
  pub drawn : new.draws ≡ old.draws ++ draw ∷ []
  pub sent : Adds (turn_of client old.counter number (draw % 2 ^ 64)) old.claims new.claims
  pub told : Reply
  pub heard : IsAnswered (draw % 2 ^ 64) told old.copies new.copies
  pub counter : new.counter ≡ counter_told told old.counter

-- The history is the first n commands of a client, and no others. Each has its reply among the copies, in order.
abbrev pub AreTurns : ℕ → ℕ → ClientHistory → Type 0
AreTurns client zero d = (d.claims ≡ []) × (d.draws ≡ []) × (d.counter ≡ 0)
AreTurns client (suc n) d = (before : ClientHistory) × AreTurns client n before × Turns client (suc n) before d

-- the history begins with the first n commands of a client, each with its reply
pub record AreAnswered (client n : ℕ) (d : ClientHistory) : Type 0 where
  pub before : ClientHistory
  pub turns : AreTurns client n before
  pub more : Extends before d

-- The claims, receivers and services of some clients, and then those of one more client. The claims of this client,
-- whose places rise, are all its commands and no others. Each has its reply among the copies of its receiver. Its
-- service has the numbers that it drew.
pub record AddsClient (commands client : ℕ) (claims more_claims : List StagedClaim)
    (receivers more_receivers : List Joined) (services more_services : List Service) : Type 0 where
  pub own : ClientHistory
  pub turns : AreTurns client commands own
  pub rising : AreRising own.claims
  pub together : more_claims ≡ interleaved claims own.claims
  pub receiver : Joined
  pub joined : more_receivers ≡ receivers ++ receiver ∷ []
  pub copies : Lengthens own.copies receiver.copies
  pub service : Service
  pub served : more_services ≡ services ++ service ∷ []
  pub draws : service.draws ≡ own.draws

-- These claims, merged by place, are all commands of the clients below a number. These are the clients' receivers and
-- services, those of the first client first.
abbrev pub AreAllTurns : ℕ → ℕ → List StagedClaim → List Joined → List Service → Type 0
AreAllTurns commands zero claims receivers services = (claims ≡ []) × (receivers ≡ []) × (services ≡ [])
AreAllTurns commands (suc client) more_claims more_receivers more_services =
    (claims : List StagedClaim) × (receivers : List Joined) × (services : List Service)
    × AreAllTurns commands client claims receivers services
    × AddsClient commands client claims more_claims receivers more_receivers services more_services
