-- The headline of one whole run.
use Rattle.std.specs.Prelude.{◌≡◌, ℕ, pos, [], ◌∷◌, ◌++◌, codes, length, map}
use Rattle.ring_layout.specs.declared.message.{ClaimState.TheVariants.Committed, Message.Message}
use Rattle.ring_table.specs.declared.claim.{StagedClaim.StagedClaim, Stage.Stage, Stage.TheVariants.Stored}
use Rattle.ring_rings.specs.{Closing.AreOrdered, Closing.Serves, Opening.first_consumer, Seats.claims_of, Seats.view_of}
use Rattle.ring_rings.specs.{Reading.messages_of, Ring.sent, Ring.IsWhole}
use Rattle.ring_board.specs.{Closing.closed_words, Closing.IsClosed, Rule.opening_view, Runs.AreAllRuns}
use Rattle.ring_board.specs.{Seats.receiver_seat, Seats.receiver_view, Views.as_joined, Views.fewer, Views.newcomer}
use Rattle.ring_counters.specs.{Manager.registry_of, Manager.writes_of, Manager.IsManagerOf, Registry.fresh_registry}
use Rattle.ring_protocol.specs.declared.command.Request.TheVariants.{Allocate, Set}
use Rattle.ring_protocol.specs.Command.{Instruction, spelling_of, type_id_of, with_id}
use Rattle.ring_service.specs.declared.{conductor.Work.Work, whole.Parties.Parties, whole.WholeRun.WholeRun}
use Rattle.ring_service.specs.Account.{account_of, fresh_account, messages_in}
use Rattle.ring_service.specs.Asking.{IsHeard, client_seat, producer_of, receiver_of, service_of}
use Rattle.ring_service.specs.Conducting.{KeepsTheRest, Works, board_view, ledger_of, ring_view}
use Rattle.ring_service.specs.Finishing.{claims_in, joined_in, received_in, replies_in, services_in}
use Rattle.ring_service.specs.Fold.{Ledger, at_moment}

-- the message of the claim, and the state of the claim
abbrev pub settled_message : StagedClaim → Message × Stage
settled_message c = (c.message, c.stage)

-- the message that encodes a command, with the state of a committed claim
abbrev pub committed : Instruction → Message × Stage
committed c = (record { type_id = type_id_of c; body = spelling_of c }, Stored Committed)

-- The two commands of the run, with their correlation ids. The first asks for a counter of type 1 with an empty key and
-- the label `requests`. The second sets the counter 0 to 7.
abbrev pub first_command : Instruction
first_command = with_id 0 (Allocate (pos 1) [] (codes "requests"))

abbrev pub second_command : Instruction
second_command = with_id 1 (Set 0 (pos 7))

-- the ledger of the new conductor, while the client's receiver has a share
abbrev pub opening_ledger : Ledger
opening_ledger = record { registry = fresh_registry 4 50; writes = []; board = fewer (opening_view 256 0) }

-- The parties after the client has sent its first command. The conductor is new, and has never worked. One receiver has
-- a share. It is that of the client, which subscribed at the start and has loaded nothing.
pub record HaveBegun (p : Parties) : Type 0 where
  pub sent : map settled_message (claims_of (producer_of p.client)) ≡ committed first_command ∷ []
  pub ring : ring_view p.conductor ≡ first_consumer 1024 0
  pub ledger : ledger_of p.conductor ≡ opening_ledger
  pub receiver : receiver_view (receiver_of p.client) ≡ newcomer (opening_view 256 0)

-- the conductor worked once, at this moment, and the client did nothing
pub record IsCycle (now : ℕ) (old new : Parties) (done : Work) : Type 0 where
  pub works : Works now 0xffff_ffff (ring_view old.conductor) (ring_view new.conductor) (ledger_of old.conductor)
      (ledger_of new.conductor) done
  pub client : new.client ≡ old.client

-- One more receiver got a share. The conductor did not work, and the client's receiver loaded nothing.
pub record GoesOn (old new : Parties) : Type 0 where
  pub conductor : KeepsTheRest old.conductor new.conductor
  pub board : board_view new.conductor ≡ fewer (board_view old.conductor)
  pub receiver : receiver_of new.client ≡ receiver_of old.client

-- The claims are only the two commands. They come one after another from the ring's start. The first command was sent
-- before the first cycle, and the second one between the two cycles. The messages that the cycles took, followed by the
-- messages that are still in the ring, are the committed messages. Each is there whole and once. The taken messages
-- make these counters, all value writes, and the replies from four fresh counters. The closed broadcast buffer has
-- these replies. Two receivers were joined. The client's receiver subscribed at the start and polled once, after both
-- cycles. The listener's receiver subscribed between the cycles and received nothing. Their copies are runs of all
-- replies. The client drew two ids and loaded no heartbeat. There never was another producer. The values are those of
-- these counters. The trailer of what is left of the ring has the ids and the heartbeat.
pub record Concludes (early late : ℕ) (w : WholeRun) : Type 0 where
  pub begun : HaveBegun w.begun.value
  pub first : IsCycle early w.begun.value w.halfway.value w.first
  pub between : GoesOn w.halfway.value w.resumed.value
  pub second : IsCycle late w.resumed.value w.worked.value w.second
  pub producer : w.finished.producer.value ≡ producer_of w.worked.value.client
  pub conductor : KeepsTheRest w.worked.value.conductor w.finished.conductor.value
  pub claims : map settled_message (claims_in w.finished) ≡ committed first_command ∷ committed second_command ∷ []
  pub ordered : AreOrdered 1024 0 (claims_in w.finished)
  pub received : messages_of (received_in w.finished)
      ≡ messages_of first.works.messages ++ messages_of second.works.messages
  pub client : service_of w.finished.producer.value ≡ record { draws = 0 ∷ 1 ∷ []; heartbeats = [] }
  pub alone : services_in w.finished ≡ []
  pub counted : w.finished.received ≡ length (received_in w.finished)
  pub whole : IsWhole (sent w.finished.producer.value) (messages_of (received_in w.finished)) w.finished.rest
  pub services : Serves 1024 (view_of w.finished.producer.value) (ring_view w.finished.conductor.value) w.finished.rest
  pub values : IsManagerOf w.finished.values w.finished.counters
  pub folded : account_of (fresh_account 4 50) (at_moment early (messages_of first.works.messages)
      ++ at_moment late (messages_of second.works.messages))
      ≡ record {
        registry = registry_of w.finished.counters;
        writes = writes_of w.finished.counters;
        replies = messages_in (replies_in w.finished);
      }
  pub board : IsClosed 256 0 (replies_in w.finished) (closed_words w.finished.board)
  pub polled : IsHeard 0 (client_seat w.worked.value.client) (receiver_seat w.receiver.value) w.polled
  pub joined : joined_in w.finished ≡ as_joined (receiver_view w.receiver.value)
      ∷ as_joined (newcomer (board_view w.halfway.value.conductor)) ∷ []
  pub runs : AreAllRuns (replies_in w.finished) (joined_in w.finished)
