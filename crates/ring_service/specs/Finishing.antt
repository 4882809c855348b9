-- The parts that a conductor hands out when it finishes.
use Rattle.std.specs.Prelude.{◌≡◌, ℕ, ◌-◌, nat_lt, if◌then◌else◌, ℤ, pos, List, length, Option, Some, None}
use Rattle.ring_layout.specs.Refusals.{all_shares}
use Rattle.ring_table.specs.declared.claim.{PlacedMessage.PlacedMessage, StagedClaim.StagedClaim}
use Rattle.ring_table.specs.{declared.view.Service.Service, Staged.Bodies}
use Rattle.ring_rings.specs.{declared.ring.Consumer.Consumer, declared.ring.Producer.Producer, Ring.sent, Ring.IsWhole}
use Rattle.ring_rings.specs.{Closing.AreOrdered, Closing.HandsOut, Closing.Serves, Reading.messages_of}
use Rattle.ring_rings.specs.Rescuing.{IsRescued}
use Rattle.ring_rings.specs.Seats.{claims_of, open_claims_of, seat_view, shares_of, view_of}
use Rattle.ring_board.specs.declared.board.{Board.Board, ClosedBoard.ClosedBoard}
use Rattle.ring_board.specs.{declared.shared.view.Joined.Joined, declared.shared.view.Record.Record, Runs.AreAllRuns}
use Rattle.ring_board.specs.Closing.{IsClosed, closed_capacity, closed_words}
use Rattle.ring_board.specs.Board.{heard_by, transmitted}
use Rattle.ring_board.specs.Seats.{capacity_of, shares_of as board_shares_of, start_of}
use Rattle.ring_counters.specs.declared.manager.CountersManager.{CountersManager}
use Rattle.ring_counters.specs.Manager.{registry_of, writes_of}
use Rattle.ring_counters.specs.declared.values.seats.CounterValues.{CounterValues}
use Rattle.ring_service.specs.{declared.conductor.Conductor.Conductor, Account.IsFoldOf, Account.messages_in}
use Rattle.ring_service.specs.declared.finishing.{Finished.Finished, without.FinishedWithout.FinishedWithout}
use Rattle.ring_service.specs.declared.finishing.fault.{FinishFault.FinishFault, FinishRefused.FinishRefused}
use Rattle.ring_service.specs.declared.finishing.fault.FinishFault.TheVariants.{ClaimsOpen, ProducersOut, ReceiversOut}
use Rattle.ring_service.specs.Asking.{services_of}
use Rattle.ring_service.specs.Conducting.{IsConductorOf, manager_in, received_of, ring_view, transmitter_of}

-- The reason why a conductor does not finish, in the order of the tests. The arguments are the number of the producer's
-- open claims, and the numbers of shares of the producer and the transmitter.
abbrev pub finish_refusal_of : ℕ → ℕ → ℕ → Option FinishFault
finish_refusal_of open_claims producing transmitting =
    if nat_lt 0 open_claims then Some (ClaimsOpen open_claims)
    else (if nat_lt producing all_shares then Some (ProducersOut (all_shares - producing))
    else (if nat_lt transmitting all_shares then Some (ReceiversOut (all_shares - transmitting))
    else None))

-- the number of the reason why a conductor does not finish
abbrev pub finish_code : FinishFault → ℤ
finish_code (ClaimsOpen _) = pos 10
finish_code (ProducersOut _) = pos 11
finish_code (ReceiversOut _) = pos 14

-- the reason why this conductor does not finish with this producer
abbrev pub refusal_to : Conductor → Producer → Option FinishFault
refusal_to c p = finish_refusal_of (open_claims_of p) (shares_of p) (board_shares_of (transmitter_of c))

-- all five arguments come back with the reason
abbrev pub handed_back : {R : Type 0} → R → Board → CounterValues → Conductor → Producer → FinishFault → FinishRefused R
handed_back ring board values conductor producer reason =
    record { reason = reason; ring = ring; board = board; values = values; conductor = conductor; producer = producer }

-- all five arguments are as they were
abbrev pub HasBack : {R : Type 0} → R → Board → CounterValues → Conductor → Producer → FinishRefused R → Type 0
HasBack ring board values conductor producer r =
    (r.ring ≡ ring) × (r.board ≡ board) × (r.values ≡ values) × (r.conductor ≡ conductor) × (r.producer ≡ producer)

-- the replies that a conductor transmitted
abbrev pub replies_of : Conductor → List Record
replies_of c = transmitted (transmitter_of c)

-- the receivers that a conductor took back, the oldest first
abbrev pub joined_by : Conductor → List Joined
joined_by c = heard_by (transmitter_of c)

-- The parts that a finished conductor names: the claims of all producers, the messages that it received, the replies
-- that it transmitted, and the receivers that it took back.
abbrev pub claims_in : Finished → List StagedClaim
claims_in f = claims_of f.producer.value

abbrev pub received_in : Finished → List PlacedMessage
received_in f = received_of f.conductor.value

abbrev pub replies_in : Finished → List Record
replies_in f = replies_of f.conductor.value

abbrev pub joined_in : Finished → List Joined
joined_in f = joined_by f.conductor.value

-- what the joined producers drew and read
abbrev pub services_in : Finished → List Service
services_in f = services_of f.producer.value

-- the counters, their value writes and the replies are the fold of the commands received, each at a moment
abbrev pub IsFoldOfReceived : Conductor → CountersManager → Type 0
IsFoldOfReceived c counters =
    IsFoldOf (messages_of (received_of c)) (registry_of counters) (writes_of counters) (messages_in (replies_of c))

-- the closed broadcast buffer has the words of these replies
abbrev pub HasAllReplies : Board → List Record → ClosedBoard → Type 0
HasAllReplies board replies closed =
    (closed_capacity closed ≡ capacity_of board)
    × IsClosed (capacity_of board) (start_of board) replies (closed_words closed)

-- If a conductor does not finish, all five arguments come back as they were. So the call can be made again.
pub record ComesBack {R : Type 0} (is_consumer : R → Consumer → Type 0) (is_producer : R → Producer → Type 0) (ring : R)
    (board : Board) (values : CounterValues) (c : Conductor) (p : Producer) (r : FinishRefused R) : Type 0 where
  pub same : HasBack ring board values c p r
  pub conductor : IsConductorOf is_consumer r.ring r.board r.values r.conductor
  pub producer : is_producer r.ring r.producer

-- The headline, which says what one run hands out. The fields are in the order of its words. C and start are those of
-- the ring. The producer p and the conductor c are those that were given to the call.
pub record Headline (C start : ℕ) (p : Producer) (c : Conductor) (f : Finished) : Type 0 where
  -- The claims are in the order of the tail exchanges. They come one after another from the ring's start on, so none
  -- occurs twice.
  pub ordered : AreOrdered C start (claims_of p)
  -- The received messages, followed by the messages that are still in the ring, are the committed records. Each is
  -- there whole and once.
  pub whole : IsWhole (sent p) (messages_of (received_of c)) f.rest
  pub left : HandsOut C start (view_of p) (ring_view c) f.rest
  -- The validated copies of each receiver are rising contiguous runs of the transmitted list, which are broken only if
  -- the receiver's count rose.
  pub runs : AreAllRuns (replies_of c) (joined_by c)
  -- The counters and the transmitted replies are the fold of the received commands, each of which was applied at a
  -- moment.
  pub folded : ∥ IsFoldOfReceived c f.counters ∥₁

-- The parts that are handed on. They are the counters, the broadcast buffer with all replies, the number of received
-- commands, and the values. The words of ids and of the heartbeat, in what is left of the ring, are those that were
-- drawn and stored. The producer and the conductor are there by name.
pub record HandsOn (C : ℕ) (board : Board) (v : CounterValues) (p : Producer) (c : Conductor) (f : Finished)
    : Type 0 where
  pub counters : f.counters ≡ manager_in c
  pub replies : HasAllReplies board (replies_of c) f.board
  pub received : f.received ≡ length (received_of c)
  pub values : f.values ≡ v
  pub services : Serves C (view_of p) (ring_view c) f.rest
  pub producer : f.producer.value ≡ p
  pub conductor : f.conductor.value ≡ c

-- The headline without the producers. It says what one run hands out although producers and receivers are lost. The
-- fields are in the order of the headline's words. B, C and start are those of the ring. The conductor c is the one
-- that was given to the call.
pub record HeadlineWithout (B : Bodies) (C start : ℕ) (c : Conductor) (f : FinishedWithout) : Type 0 where
  -- When it was taken apart, the ring's table had histories of the claims of all producers. For each of them, the
  -- received messages, followed by those that are still in the ring, are the committed records. Each is there whole and
  -- once, and nothing that was not committed is there. There is such a history, and the history that was made is one.
  pub rescued : IsRescued B C start (seat_view c.consumer) f.rescued
  -- The validated copies of each receiver are rising contiguous runs of the transmitted list, which are broken only if
  -- the receiver's count rose.
  pub runs : AreAllRuns (replies_of c) (joined_by c)
  -- The counters and the transmitted replies are the fold of the received commands, each of which was applied at a
  -- moment.
  pub folded : ∥ IsFoldOfReceived c f.counters ∥₁

-- The parts that are handed on without the producers. They are the counters, the broadcast buffer with all replies, the
-- number of received commands, the values, and the conductor by name.
pub record HandsOnWithout (board : Board) (v : CounterValues) (c : Conductor) (f : FinishedWithout) : Type 0 where
  pub counters : f.counters ≡ manager_in c
  pub replies : HasAllReplies board (replies_of c) f.board
  pub received : f.received ≡ length (received_of c)
  pub values : f.values ≡ v
  pub conductor : f.conductor.value ≡ c
