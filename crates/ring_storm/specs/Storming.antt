-- The words of clauses for a storm.
use Rattle.std.specs.Prelude.{◌≡◌, ◌⊎◌, ℕ, ◌+◌, ◌*◌, ◌/◌, ◌<◌, ◌≤◌, ◌^◌, ℤ, pos, ◌+ℤ◌, IsTrue, List, [], ◌∷◌, ◌++◌, fold, length, nat_lt, if◌then◌else◌, Option, None, Some, unwrap_or}
use Rattle.std.specs.Int.{is_power_of_two, IsPowerOfTwo, saturate_signed, w64}
use Rattle.ring_layout.specs.{declared.message.Message.Message, Refusals.all_shares}
use Rattle.ring_table.specs.{declared.claim.StagedClaim.StagedClaim, declared.view.Service.Service, Services.once_below}
use Rattle.ring_table.specs.{Owners.interleaved, Passing.placed_committed_of, ProducerSteps.EndBelow, Staged.AreRising}
use Rattle.ring_rings.specs.declared.{ring.Ring.Ring, bodies.Bodies.Ghosts, ring.Producer.Producer}
use Rattle.ring_rings.specs.{Closing.AreOrdered, Reading.messages_of}
use Rattle.ring_rings.specs.Seats.{capacity_of, claims_of, open_claims_of, seen_tail_of, shares_of, start_of, IsConsumerOf, IsProducerOf}
use Rattle.ring_board.specs.declared.{board.Board.Board, shared.view.Joined.Joined, shared.view.Record.Record}
use Rattle.ring_board.specs.{Closing.closed_capacity, Views.as_joined}
use Rattle.ring_board.specs.{Runs.AreAllRuns, Seats.IsReceiverOf, Seats.receiver_view, Seats.shares_of as board_shares}
use Rattle.ring_counters.specs.declared.values.{view.ValueWrite.ValueWrite, seats.CounterValues.CounterValues}
use Rattle.ring_counters.specs.{Counter.Counter, Manager.registry_of, Manager.writes_of}
use Rattle.ring_counters.specs.Registry.{Registry, counter_at, fresh_registry, is_allocated, live_of, status_at, value_at}
use Rattle.ring_service.specs.declared.{conductor.Conductor.Conductor, finishing.Finished.Finished}
use Rattle.ring_storm.specs.declared.{seats.Failure.Failure, seats.StormEnd.StormEnd, shared.Shared.Shared}
use Rattle.ring_storm.specs.declared.seats.Failure.TheVariants as fails
use Rattle.ring_storm.specs.declared.conductor.ConductorEnd.{ConductorEnd}
use Rattle.ring_storm.specs.declared.plan.{StormFault.StormFault, StormPlan.StormPlan, StormReport.StormReport}
use Rattle.ring_storm.specs.declared.plan.StormFault.TheVariants.{BadPlan, OutOfMemory, TurnsSpent}
use Rattle.ring_storm.specs.declared.seats.{StormClient.StormClient, Endpoints.Endpoints, LevelEnd.LevelEnd}
use Rattle.ring_service.specs.{Applied.applied, Account.IsFoldOf, Account.messages_in}
use Rattle.ring_service.specs.Asking.{draws_of, producer_of, receiver_of, service_of, services_of, drawn_in}
use Rattle.ring_service.specs.Conducting.{IsConductorOf, manager_in, received_of, transmitter_of, value_shares_of}
use Rattle.ring_service.specs.Finishing.{HandsOn, Headline, claims_in, joined_by, joined_in, received_in, replies_in, services_in}
use Rattle.ring_storm.specs.Turns.{AreAllTurns, AreAnswered, ClientHistory, claims_by, copies_by, draws_by, label_of, last_set}

-- The plan ---------------------------------------------------------------------

-- each number of the plan is allowed
pub record IsPlan (p : StormPlan) : Type 0 where
  pub clients : (1 ≤ p.clients) × (p.clients ≤ 64)
  pub commands : (1 ≤ p.commands) × (p.commands ≤ 10000)
  pub ring : (256 ≤ p.ring) × (p.ring ≤ 2 ^ 24) × IsTrue (is_power_of_two p.ring)
  pub turns : 1 ≤ p.turns

-- the number of the reason why a storm gives no report
abbrev pub storm_code : StormFault → ℤ
storm_code BadPlan = pos 26
storm_code OutOfMemory = pos 3
storm_code TurnsSpent = pos 27

-- the reason why a storm that did not go on gives no report
abbrev pub fault_of : Failure → StormFault
fault_of fails.OutOfMemory = OutOfMemory
fault_of fails.TurnsSpent = TurnsSpent

-- a client that does not have all its replies has spent its turns, unless something failed before
abbrev pub failure_after : ℕ → ℕ → Option Failure → Option Failure
failure_after replies commands failure =
    if nat_lt replies commands then Some (unwrap_or failure fails.TurnsSpent) else failure

-- the number of commands of all clients
abbrev pub all_commands : StormPlan → ℕ
all_commands p = p.clients * p.commands

-- C is the least power of two from 256 on that is greater than 24 bytes for each command, so half of it would not be
-- enough
pub record IsBoardFor (p : StormPlan) (C : ℕ) : Type 0 where
  pub power : IsPowerOfTwo C
  pub least : 256 ≤ C
  pub room : 24 * all_commands p < C
  pub tight : C ≡ 256 ⊎ C / 2 ≤ 24 * all_commands p

-- The counters -----------------------------------------------------------------

-- the counters after these messages, all at the moment 0
abbrev pub counters_after : Registry → List Message → Registry
counters_after r [] = r
counters_after r (m ∷ ms) = counters_after (applied 0 r m).registry ms

-- the counters that these messages make from fresh counters, one for each client
abbrev pub storm_counters : StormPlan → List Message → Registry
storm_counters p ms = counters_after (fresh_registry p.clients 0) ms

-- a sum to which the value of one more counter is added, within 64 bits
abbrev pub with_value_of : ℤ → ℕ × Counter → ℤ
with_value_of sum c = saturate_signed w64 (sum +ℤ c.1.values.value)

-- the sum of the values of these counters
abbrev pub sum_of : List (ℕ × Counter) → ℤ
sum_of counters = fold with_value_of (pos 0) counters

-- a counter in use has the label of this client, and this value
pub record HasOwnCounter (client last : ℕ) (r : Registry) : Type 0 where
  pub id : ℕ
  pub in_use : IsTrue (is_allocated (status_at r id))
  pub label : (counter_at r id).metadata.label ≡ label_of client
  pub value : value_at r id ≡ pos last

-- The seats --------------------------------------------------------------------

abbrev pub board_shares_of : Conductor → ℕ
board_shares_of c = board_shares (transmitter_of c)

-- the receivers that have shares, and those that were joined, are as before
abbrev pub KeepsReceivers : Conductor → Conductor → Type 0
KeepsReceivers old new = (board_shares_of new ≡ board_shares_of old) × (joined_by new ≡ joined_by old)

-- the places of a producer's claims rise, and the claims end at or below the greatest end that it has seen
abbrev pub HasRisen : Producer → Type 0
HasRisen p = AreRising (claims_of p) × EndBelow (seen_tail_of p) (claims_of p)

-- The producer of a client. It has one share of this ring, no open claim, and claims whose places rise. No other
-- producer was joined to it.
abbrev pub IsClientSeat : {K B : Type 0} {G : Ghosts B} → Ring K B G → Producer → Type 0
IsClientSeat ring p =
    IsProducerOf ring p × (shares_of p ≡ 1) × (open_claims_of p ≡ 0) × HasRisen p × (services_of p ≡ [])

-- the number of claims that a producer has made
abbrev pub sent_by : Producer → ℕ
sent_by p = length (claims_of p)

-- the client has its seats at this ring and this broadcast buffer
abbrev pub IsClientOf : {K B : Type 0} {G : Ghosts B} → Ring K B G → Board → StormClient → Type 0
IsClientOf ring board c =
    IsClientSeat ring (producer_of c.client) × IsReceiverOf board (receiver_of c.client) × (c.index < 64)

-- the history of a client
abbrev pub history_of : StormClient → ClientHistory
history_of c = record {
  claims = claims_by c.client;
  draws = draws_by c.client;
  copies = copies_by c.client;
  counter = c.counter;
}

-- the client has sent no command, has no reply, drew no number and knows no counter
abbrev pub IsNew : StormClient → Type 0
IsNew c = (sent_by (producer_of c.client) ≡ 0) × (c.seen ≡ 0) × (draws_by c.client ≡ []) × (c.counter ≡ 0)

-- the client has sent at most n commands, and drew at most n numbers
abbrev pub SentAtMost : ℕ → StormClient → Type 0
SentAtMost n c = (sent_by (producer_of c.client) ≤ n) × (length (draws_by c.client) ≤ n)

-- the client with this number has sent at most this many commands, and each command that it counts had its reply
pub record HasWorked (commands client : ℕ) (c : StormClient) : Type 0 where
  pub sent : SentAtMost commands c
  pub seen : c.seen ≤ commands
  pub index : c.index ≡ client
  pub answered : AreAnswered c.index c.seen (history_of c)

-- the number of commands that the conductor took
abbrev pub taken_by : Conductor → ℕ
taken_by c = length (received_of c)

-- The counters are those that the messages taken by the conductor make from fresh ones. No other thread reads their
-- values.
abbrev pub HasCounters : StormPlan → Conductor → Type 0
HasCounters p c = (registry_of (manager_in c) ≡ storm_counters p (messages_of (received_of c)))
    × (value_shares_of c ≡ all_shares)

-- The producer and the conductor belong to this ring, this board and these values. The counters are those of the
-- messages taken. No other thread reads their values, and the producer drew no number.
abbrev pub AreEndpointsOf : {K B : Type 0} {G : Ghosts B} → StormPlan → Ring K B G → Board → CounterValues → Endpoints
    → Type 0
AreEndpointsOf p ring board values endpoints = IsProducerOf ring endpoints.producer
    × IsConductorOf IsConsumerOf ring board values endpoints.conductor × HasCounters p endpoints.conductor
    × (draws_of endpoints.producer ≡ [])

-- the client has its seats at what all threads share
abbrev pub IsClientAt : {G B : Type 0} {H : Ghosts B} → Shared G B H → StormClient → Type 0
IsClientAt s c = IsClientOf s.ring.now s.board.now c

abbrev pub IsConductorAt : {G B : Type 0} {H : Ghosts B} → Shared G B H → Conductor → Type 0
IsConductorAt s c = IsConductorOf IsConsumerOf s.ring.now s.board.now s.values.now c

abbrev pub AreEndpointsAt : {G B : Type 0} {H : Ghosts B} → Shared G B H → Endpoints → Type 0
AreEndpointsAt s endpoints = AreEndpointsOf s.plan s.ring.now s.board.now s.values.now endpoints

-- All commands were taken, and this many clients had all their replies. The claims, the receivers and the services are
-- those of all turns of these clients.
abbrev pub IsDone : StormPlan → ℕ → LevelEnd → Type 0
IsDone p clients end = (all_commands p ≤ taken_by end.endpoints.conductor) × (end.seen ≡ clients * p.commands)
    × AreAllTurns p.commands clients (claims_of end.endpoints.producer) (joined_by end.endpoints.conductor)
    (services_of end.endpoints.producer)

-- The result of the conductor's thread. It is the conductor with the counters of the messages taken. It has joined no
-- receiver. If it is done, it took all commands.
pub record HasConducted {K B : Type 0} {G : Ghosts B} (p : StormPlan) (ring : Ring K B G) (board : Board) (values : CounterValues)
    (end : ConductorEnd) : Type 0 where
  pub conductor : IsConductorOf IsConsumerOf ring board values end.conductor
  pub counters : HasCounters p end.conductor
  pub none_joined : joined_by end.conductor ≡ []
  pub done : IsTrue end.is_done → all_commands p ≤ taken_by end.conductor

-- no command was sent, and neither a receiver nor a producer was joined
abbrev pub IsUnused : Endpoints → Type 0
IsUnused endpoints = (claims_of endpoints.producer ≡ []) × (joined_by endpoints.conductor ≡ [])
    × (services_of endpoints.producer ≡ [])

-- the endpoints before the first client, which are of this ring, this board and these values, and are unused
pub record IsFreshOf {K B : Type 0} {G : Ghosts B} (p : StormPlan) (ring : Ring K B G) (board : Board) (values : CounterValues)
    (endpoints : Endpoints) : Type 0 where
  pub of : AreEndpointsOf p ring board values endpoints
  pub unused : IsUnused endpoints

abbrev pub IsFreshAt : {G B : Type 0} {H : Ghosts B} → Shared G B H → Endpoints → Type 0
IsFreshAt s endpoints = IsFreshOf s.plan s.ring.now s.board.now s.values.now endpoints

-- no share of the ring or the board is away, and no claim is open
pub record HasAll (endpoints : Endpoints) : Type 0 where
  pub producers : shares_of endpoints.producer ≡ all_shares
  pub receivers : board_shares_of endpoints.conductor ≡ all_shares
  pub settled : open_claims_of endpoints.producer ≡ 0

-- the ring and the board have as many shares as before, and there are as many open claims
pub record HasSeatsBack (old new : Endpoints) : Type 0 where
  pub producers : shares_of new.producer ≡ shares_of old.producer
  pub receivers : board_shares_of new.conductor ≡ board_shares_of old.conductor
  pub open_claims : open_claims_of new.producer ≡ open_claims_of old.producer

-- one share of the ring and one of the board are lent, and no other count has changed
pub record LendsSeats (old new : Endpoints) : Type 0 where
  pub producers : shares_of new.producer + 1 ≡ shares_of old.producer
  pub receivers : board_shares_of new.conductor + 1 ≡ board_shares_of old.conductor
  pub open_claims : open_claims_of new.producer ≡ open_claims_of old.producer
  pub claims : claims_of new.producer ≡ claims_of old.producer
  pub joined : joined_by new.conductor ≡ joined_by old.conductor
  pub services : services_of new.producer ≡ services_of old.producer
  pub taken : taken_by new.conductor ≡ taken_by old.conductor

-- A client's seats are joined. There is one more share of the ring and one more of the board. The client's claims are
-- merged with the others, and its receiver and its service come after the others.
pub record TakesSeats (c : StormClient) (old new : Endpoints) : Type 0 where
  pub producers : shares_of new.producer ≡ shares_of old.producer + 1
  pub receivers : board_shares_of new.conductor ≡ board_shares_of old.conductor + 1
  pub open_claims : open_claims_of new.producer ≡ open_claims_of old.producer
  pub sent : sent_by new.producer ≡ sent_by old.producer + sent_by (producer_of c.client)
  pub claims : claims_of new.producer ≡ interleaved (claims_of old.producer) (claims_by c.client)
  pub joined : joined_by new.conductor
      ≡ joined_by old.conductor ++ as_joined (receiver_view (receiver_of c.client)) ∷ []
  pub services : services_of new.producer ≡ services_of old.producer ++ service_of (producer_of c.client) ∷ []
  pub taken : taken_by new.conductor ≡ taken_by old.conductor

-- The end of a level. The endpoints have the seats of this many clients. These clients sent no more commands and saw no
-- more replies than the plan has for them. If nothing failed, they sent and saw all of these, each client in its turn.
pub record IsEndOf {K B : Type 0} {G : Ghosts B} (p : StormPlan) (ring : Ring K B G) (board : Board) (values : CounterValues)
    (clients : ℕ) (end : LevelEnd) : Type 0 where
  pub endpoints : AreEndpointsOf p ring board values end.endpoints
  pub sent : sent_by end.endpoints.producer ≤ clients * p.commands
  pub seen : end.seen ≤ clients * p.commands
  pub done : (end.failure ≡ None) → IsDone p clients end

abbrev pub IsEndAt : {G B : Type 0} {H : Ghosts B} → Shared G B H → ℕ → LevelEnd → Type 0
IsEndAt s clients end = IsEndOf s.plan s.ring.now s.board.now s.values.now clients end

-- The end ----------------------------------------------------------------------

-- The end of a storm, whether all is done or some threads gave up. The endpoints have all seats of this ring, this
-- board and these values, with no more claims than all commands. The conductor finished with them. The headline is true
-- of these, and the result has all parts that a conductor hands on.
pub record HasFinished {K B : Type 0} {G : Ghosts B} (p : StormPlan) (ring : Ring K B G) (board : Board) (values : CounterValues)
    (e : StormEnd) : Type 0 where
  pub endpoints : Endpoints
  pub end : IsEndOf p ring board values p.clients (record { endpoints = endpoints; seen = e.seen; failure = e.failure })
  pub all : HasAll endpoints
  pub headline : Headline (capacity_of ring) (start_of ring) endpoints.producer endpoints.conductor e.finished
  pub hands_on : HandsOn (capacity_of ring) board values endpoints.producer endpoints.conductor e.finished

-- The report -------------------------------------------------------------------

-- All commands were taken, no command is left, and each client had all its replies. The claims of the ring, in the
-- order of the exchanges, are the clients' commands. The messages that were taken are the messages of these claims.
-- Each command has its reply among the copies of its client's receiver, which are runs of all replies. These replies
-- are the ones that the messages have. The commands' correlation ids are the numbers below the number of all commands,
-- each once. The live counters, and the sum of their values, are those that the messages make from fresh counters.
-- There is one for each client, with the client's label and the last number that the client set. The plan determines
-- this number.
pub record IsReportBy (p : StormPlan) (r : StormReport) (claims : List StagedClaim) (messages : List Message)
    (replies : List Record) (receivers : List Joined) (services : List Service) (registry : Registry)
    (writes : List ValueWrite) : Type 0 where
  pub received : r.received ≡ all_commands p
  pub left : r.left ≡ 0
  pub seen : r.seen ≡ all_commands p
  pub ordered : AreOrdered p.ring 0 claims
  pub turns : AreAllTurns p.commands p.clients claims receivers services
  pub once : (x : ℕ) → drawn_in x services ≡ once_below x (all_commands p)
  pub taken : length messages ≡ r.received
  pub whole : messages ≡ messages_of (placed_committed_of claims)
  pub runs : AreAllRuns replies receivers
  pub folded : ∥ IsFoldOf messages registry writes (messages_in replies) ∥₁
  pub counters : registry ≡ storm_counters p messages
  pub live : r.live ≡ length (live_of registry)
  pub clients : r.live ≡ p.clients
  pub sum : r.sum ≡ sum_of (live_of registry)
  pub own : (c : ℕ) → c < p.clients → ∥ HasOwnCounter c (last_set p.commands) (storm_counters p messages) ∥₁
  pub total : r.sum ≡ pos (p.clients * last_set p.commands)

-- the report has the claims, messages, replies, receivers, services and counters with which the storm finished
abbrev pub IsReportFrom : StormPlan → StormReport → Finished → Type 0
IsReportFrom p r f =
    IsReportBy p r (claims_in f) (messages_of (received_in f)) (replies_in f) (joined_in f) (services_in f)
    (registry_of f.counters) (writes_of f.counters)

-- the report is that of what the storm finished with, and its broadcast buffer has the capacity that the plan asks for
abbrev pub IsReportOf : StormPlan → StormReport → Type 0
IsReportOf p r =
    IsReportFrom p r r.finished.value × IsBoardFor p (closed_capacity r.finished.value.board)
