-- A conductor with what it shares, a client with what its conductor shares, and what their calls do: c is the conductor
-- before, d after, k is the client before, l after, m is the seat of a receiver, r is a receiver or a reader.
use Rattle.std.specs.Prelude.{◌≡◌, ◌⊎◌, ◌&&◌, ℕ, ◌+◌, [], true, if◌then◌else◌, refl, MatchResult, Option, Result, Some}
use Rattle.std.specs.{Coded.Coded, Coded.code_by, Coded.coded×, Option.option_map}
use Rattle.ring_layout.specs.{Places.is_board_capacity, Places.is_capacity, Refusals.all_shares}
use Rattle.ring_table.specs.Views.{beaten, producer_alone, with_consumer, without_share}
use Rattle.ring_rings.specs.{declared.ring.Producer.Producer, Joining.Joins, Opening.first_consumer}
use Rattle.ring_rings.specs.{Claiming.RefusesTry, Claiming.Writes, Opening.first_producer}
use Rattle.ring_rings.specs.Seats.{capacity_of, shares_of, start_of, view_of}
use Rattle.ring_board.specs.{declared.fault.SubscribeFault.TheVariants.NoShares, Refusals.subscribe_refusal_of}
use Rattle.ring_board.specs.{Rule.opening_view, Runs.AreRuns, Views.Sat, Views.fewer, Views.joined, Views.newcomer}
use Rattle.ring_board.specs.Seats.{capacity_of as board_capacity_of, start_of as board_start_of}
use Rattle.ring_counters.specs.Manager.{registry_of, writes_of}
use Rattle.ring_counters.specs.Registry.{fresh_registry, make_refusal_of}
use Rattle.ring_counters.specs.{Seats.loads_of, Seats.made_of, Seats.IsNewReaderOf, ValueWrites.AreLoads}
use Rattle.ring_protocol.specs.Command.{LentRequest as Request}
use Rattle.ring_service.specs.declared.client.{Client.Client, SendFault.SendFault}
use Rattle.ring_service.specs.declared.conductor.{Conductor.Conductor, Work.Work}
use Rattle.ring_service.specs.Asking.{client_seat, client_view, producer_of, receiver_of, IsSendable, RefusesAs, RefusesSend, Sends, SendsAs}
use Rattle.ring_service.specs.Conducting.{board_view, ledger_of, manager_in, ring_view, value_shares_of, KeepsSeats, KeepsTheRest, KeepsWhatItServes, Works}
use Rattle.ring_rings.specs.contracts.ring.Producer.{the_row as producer_row}
use Rattle.ring_service.specs.contracts.client.Client.{the_row as client_row}
use Rattle.ring_service.specs.contracts.conductor.Conductor.{the_row as conductor_row}
use Rattle.ring_ends.specs.contracts.lending.Shared.{the_row as shared_row}
use Rattle.ring_ends.specs.declared.{lending.Shared.Shared, conductor.ConductorFault.ConductorFault}
use Rattle.ring_ends.specs.declared.conductor.ConductorFault.TheVariants.{BadCapacity, BadCount}
use Rattle.ring_ends.specs.{BoardEnd.end_at, BoardEnd.Listener, Counters.SeatedReader}

pub record SeatedConductor : Type 0 where
  -- what the conductor shares with its clients, receivers and readers
  pub shared : Shared
  pub conductor : Conductor
  -- the producer that those of clients are split from
  pub producer : Producer

pub record SeatedClient : Type 0 where
  -- what its conductor shares
  pub shared : Shared
  pub client : Client

-- a conductor is stored as these three, and a client as these two
abbrev pub conductor_code : Coded SeatedConductor
conductor_code = code_by (Shared × (Conductor × Producer))
    (coded× shared_row.coded (coded× conductor_row.coded producer_row.coded))
    (λ c. (c.shared, (c.conductor, c.producer)))
    (λ p. record { shared = p.0; conductor = p.1.0; producer = p.1.1 }) (λ _. refl)

abbrev pub client_code : Coded SeatedClient
client_code = code_by (Shared × Client) (coded× shared_row.coded client_row.coded) (λ k. (k.shared, k.client))
    (λ p. record { shared = p.0; client = p.1 }) (λ _. refl)

-- the conductor shares the same, and the producer that those of clients are split from is as before
pub record KeepsProducer (c d : SeatedConductor) : Type 0 where
  pub shared : d.shared ≡ c.shared
  pub producer : d.producer ≡ c.producer

-- Making ---------------------------------------------------------------------------

-- the reason why a conductor of these sizes is not made: the capacity of its ring, that of its broadcast buffer, and the
-- number of its counters
abbrev pub sizes_refusal : ℕ → ℕ → ℕ → Option ConductorFault
sizes_refusal C R count =
    if is_capacity C && is_board_capacity R then option_map (λ _. BadCount) (make_refusal_of count) else Some BadCapacity

-- nothing was sent, received or transmitted, no counter was used, and all shares are here
pub record IsNew (C R count reuse_ms : ℕ) (c : SeatedConductor) : Type 0 where
  pub ring : (capacity_of c.shared.ring ≡ C) × (start_of c.shared.ring ≡ 0)
  pub board : (board_capacity_of c.shared.board ≡ R) × (board_start_of c.shared.board ≡ 0)
  pub producer : view_of c.producer ≡ first_producer C 0
  pub consumer : ring_view c.conductor ≡ first_consumer C 0
  pub transmitter : board_view c.conductor ≡ opening_view R 0
  pub registry : registry_of (manager_in c.conductor) ≡ fresh_registry count reuse_ms
  pub writes : writes_of (manager_in c.conductor) ≡ []
  pub values : value_shares_of c.conductor ≡ all_shares

-- Work -----------------------------------------------------------------------------

-- commands were taken at a moment, as the library says of this work
pub record TakesCommands (now limit : ℕ) (c : SeatedConductor) (work : Work) (d : SeatedConductor) : Type 0 where
  pub works : Works now limit (ring_view c.conductor) (ring_view d.conductor) (ledger_of c.conductor)
      (ledger_of d.conductor) work
  pub values : value_shares_of d.conductor ≡ value_shares_of c.conductor
  pub rest : KeepsProducer c d

-- the heartbeat was stored
pub record Beats (value : ℕ) (c d : SeatedConductor) : Type 0 where
  pub stored : ring_view d.conductor
      ≡ with_consumer (beaten value (ring_view c.conductor).consumer) (ring_view c.conductor)
  pub others : KeepsWhatItServes c.conductor d.conductor
  pub rest : KeepsProducer c d

-- Clients, receivers and readers ---------------------------------------------------

-- a share of the ring and one of the broadcast buffer were moved to a client, whose receiver starts at the most recent
-- reply
pub record Hires (c : SeatedConductor) (k : SeatedClient) (d : SeatedConductor) : Type 0 where
  pub shared : (d.shared ≡ c.shared) × (k.shared ≡ c.shared)
  pub left : view_of d.producer ≡ without_share (view_of c.producer)
  pub right : client_view k.client ≡ producer_alone (view_of c.producer)
  pub replies_left : board_view d.conductor ≡ fewer (board_view c.conductor)
  pub replies_right : (client_seat k.client).0 ≡ newcomer (board_view c.conductor)
  pub rest : KeepsTheRest c.conductor d.conductor

-- the broadcast buffer has one share left
abbrev pub LastReplyShare : SeatedConductor → Type 0
LastReplyShare c = subscribe_refusal_of (board_view c.conductor).shares ≡ Some NoShares

-- the ring or the broadcast buffer has one share left
abbrev pub MayNotHire : SeatedConductor → Type 0
MayNotHire c = (shares_of c.producer ≡ 1) ⊎ LastReplyShare c

-- a share of the broadcast buffer was moved to a receiver with this seat, which starts at the most recent reply
pub record MovesShare (c : SeatedConductor) (m : Sat) (d : SeatedConductor) : Type 0 where
  pub left : board_view d.conductor ≡ fewer (board_view c.conductor)
  pub right : m.0 ≡ newcomer (board_view c.conductor)
  pub others : KeepsTheRest c.conductor d.conductor
  pub rest : KeepsProducer c d

-- a share was moved, and the receiver is one of this conductor's replies
pub record LendsReceiver (c : SeatedConductor) (r : Listener) (d : SeatedConductor) : Type 0 where
  pub moved : MovesShare c r.end.knows d
  pub lent : r ≡ record { end = end_at c.shared.board r.end.knows; lender = Some c.shared }

-- the counters and their writes are as before
pub record KeepsCounters (c d : SeatedConductor) : Type 0 where
  pub registry : registry_of (manager_in d.conductor) ≡ registry_of (manager_in c.conductor)
  pub writes : writes_of (manager_in d.conductor) ≡ writes_of (manager_in c.conductor)
  pub others : KeepsSeats c.conductor d.conductor
  pub rest : KeepsProducer c d

-- a share of the values was moved to a reader, which has seen every write so far
pub record LendsValues (c : SeatedConductor) (r : SeatedReader) (d : SeatedConductor) : Type 0 where
  pub shares : value_shares_of d.conductor + 1 ≡ value_shares_of c.conductor
  pub lender : (r.lender ≡ Some c.shared) × (r.values ≡ c.shared.values)
  pub reader : IsNewReaderOf c.shared.values (writes_of (manager_in c.conductor)) r.reader
  pub keeps : KeepsCounters c d

-- a receiver with this seat was taken back, with its share, and its copies are runs of the replies
pub record TakesSeat (c : SeatedConductor) (m : Sat) (d : SeatedConductor) : Type 0 where
  pub joined_is : board_view d.conductor ≡ joined (board_view c.conductor) m.0
  pub shares : (board_view d.conductor).shares ≡ (board_view c.conductor).shares + 1
  pub runs : AreRuns (board_view c.conductor).sent m.0.from m.0.copies
  pub others : KeepsTheRest c.conductor d.conductor

-- a client was taken back: its claims are now those of the conductor's producer
pub record TakesClient (c : SeatedConductor) (k : SeatedClient) (d : SeatedConductor) : Type 0 where
  pub shared : d.shared ≡ c.shared
  pub producer : Joins (capacity_of c.shared.ring) (view_of c.producer) (client_view k.client) (view_of d.producer)
  pub receiver : TakesSeat c (client_seat k.client) d

-- a reader was taken back, with its share: what it loaded are values after first parts of the writes
pub record TakesValues (c : SeatedConductor) (r : SeatedReader) (d : SeatedConductor) : Type 0 where
  pub shares : value_shares_of d.conductor ≡ value_shares_of c.conductor + 1
  pub loads : AreLoads (made_of r.reader) (loads_of r.reader) (writes_of (manager_in d.conductor))
  pub keeps : KeepsCounters c d

-- The calls of a client --------------------------------------------------------------

-- the bytes of the ring into which its commands go
abbrev pub ring_bytes : SeatedClient → ℕ
ring_bytes k = capacity_of k.shared.ring

-- only the client's producer may have changed
pub record KeepsReceiver (k l : SeatedClient) : Type 0 where
  pub shared : l.shared ≡ k.shared
  pub receiver : receiver_of l.client ≡ receiver_of k.client

-- only the client's receiver may have changed
pub record KeepsSender (k l : SeatedClient) : Type 0 where
  pub shared : l.shared ≡ k.shared
  pub producer : producer_of l.client ≡ producer_of k.client

-- a command was sent with an id that was drawn for the command, and the call returned the id; or the command was refused
abbrev pub TriesSend : Request → SeatedClient → Result ℕ SendFault → SeatedClient → Type 0
TriesSend request k x l = MatchResult x
    (λ id. IsSendable request × Sends (Writes true) (ring_bytes k) request (client_view k.client) id
    (client_view l.client))
    (λ fault. RefusesSend (RefusesTry true) (ring_bytes k) request (client_view k.client) fault (client_view l.client))

-- a command was sent with this correlation id, or it was refused
abbrev pub TriesSendAs : Request → ℕ → SeatedClient → Result (Unit {0}) SendFault → SeatedClient → Type 0
TriesSendAs request correlation k x l = MatchResult x
    (λ _. IsSendable request × SendsAs (Writes true) (ring_bytes k) correlation request (client_view k.client)
    (client_view l.client))
    (λ fault. RefusesAs (RefusesTry true) (ring_bytes k) correlation request (client_view k.client) fault
    (client_view l.client))
