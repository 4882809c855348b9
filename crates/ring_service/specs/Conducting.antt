-- The words of clauses for a conductor and its work.
use Rattle.std.specs.Prelude.{◌≡◌, ◌≢◌, ◌⊎◌, ℕ, ◌+◌, ◌%◌, ◌<◌, ◌≤◌, List, [], ◌∷◌, ◌++◌, length}
use Rattle.ring_words.specs.{declared.read.end.Stop.Stop, Read.stop_of}
use Rattle.ring_words.specs.declared.read.end.Stop.TheVariants.{Limit, Block, Unpublished, Action}
use Rattle.ring_layout.specs.declared.message.Message.{Message}
use Rattle.ring_table.specs.declared.{claim.PlacedMessage.PlacedMessage, view.View.View}
use Rattle.ring_rings.specs.{declared.ring.Consumer.Consumer, Seats.consumer_view}
use Rattle.ring_rings.specs.Reading.{messages_of, stored_from, MovesHead, IsTight, FoundUnsettled, IsNext}
use Rattle.ring_board.specs.declared.board.{Board.Board, CopyReceiver.CopyReceiver, Transmitter.Transmitter}
use Rattle.ring_board.specs.{declared.shared.view.View.View as BoardView, Board.heard_by, Views.as_joined, Views.joined}
use Rattle.ring_board.specs.Seats.{IsTransmitterOf, receiver_view, shares_of as board_shares_of, view_of}
use Rattle.ring_counters.specs.{declared.values.seats.CounterValues.CounterValues, Registry.fresh_registry}
use Rattle.ring_counters.specs.declared.manager.CountersManager.{CountersManager}
use Rattle.ring_counters.specs.Manager.{registry_of, writes_of, shares_of, IsManagerOf, KeepsCounters}
use Rattle.ring_service.specs.declared.conductor.{Conductor.Conductor, Work.Work, WorkStop.WorkStop}
use Rattle.ring_service.specs.declared.conductor.WorkStop.TheVariants as work
use Rattle.ring_service.specs.{Fold.Ledger, Fold.fold_of, Fold.at_moment, Serving.HaveRoom, Serving.IsAtEnd}

-- the conductor's view of its ring
abbrev pub ring_view : Conductor → View
ring_view c = consumer_view c.consumer

-- the conductor's view of its broadcast buffer
abbrev pub board_view : Conductor → BoardView
board_view c = view_of c.transmitter

-- the messages that the conductor took, with their places
abbrev pub received_of : Conductor → List PlacedMessage
received_of c = (ring_view c).consumer.taken

abbrev pub ledger_of : Conductor → Ledger
ledger_of c = record { registry = registry_of c.counters; writes = writes_of c.counters; board = view_of c.transmitter }

-- the number of shares of the values that are not with readers
abbrev pub value_shares_of : Conductor → ℕ
value_shares_of c = shares_of c.counters

-- The conductor reads this ring, whose consumers `is_consumer` determines. It transmits on this broadcast buffer and
-- writes these values.
abbrev pub IsConductorOf : {R : Type 0} → (R → Consumer → Type 0) → R → Board → CounterValues → Conductor → Type 0
IsConductorOf is_consumer ring board values c =
    is_consumer ring c.consumer × IsTransmitterOf board c.transmitter × IsManagerOf values c.counters

abbrev pub consumer_of : Conductor → Consumer
consumer_of c = c.consumer

abbrev pub transmitter_of : Conductor → Transmitter
transmitter_of c = c.transmitter

abbrev pub manager_in : Conductor → CountersManager
manager_in c = c.counters

-- only the transmitter may have changed
pub record KeepsTheRest (old new : Conductor) : Type 0 where
  pub consumer : consumer_of new ≡ consumer_of old
  pub counters : manager_in new ≡ manager_in old

-- only the consumer may have changed
pub record KeepsWhatItServes (old new : Conductor) : Type 0 where
  pub transmitter : transmitter_of new ≡ transmitter_of old
  pub counters : manager_in new ≡ manager_in old

-- only the counters may have changed
pub record KeepsSeats (old new : Conductor) : Type 0 where
  pub consumer : consumer_of new ≡ consumer_of old
  pub transmitter : transmitter_of new ≡ transmitter_of old

-- only the number of shares of these values that are with readers, and what these readers loaded, may have changed
pub record KeepsAllCounters (values : CounterValues) (old new : Conductor) : Type 0 where
  pub counters : KeepsCounters values (manager_in old) (manager_in new)
  pub seats : KeepsSeats old new

-- A receiver is joined. The transmitter has its share back, and the receiver comes after those that were joined before.
pub record JoinsReceiver (r : CopyReceiver) (old new : Conductor) : Type 0 where
  pub view : board_view new ≡ joined (board_view old) (receiver_view r)
  pub shares : board_shares_of (transmitter_of new) ≡ board_shares_of (transmitter_of old) + 1
  pub heard : heard_by (transmitter_of new) ≡ heard_by (transmitter_of old) ++ as_joined (receiver_view r) ∷ []

-- no counter was ever used, and no value was written
abbrev pub AreUnused : CountersManager → Type 0
AreUnused counters =
    ((count : ℕ) × (reuse_ms : ℕ) × (registry_of counters ≡ fresh_registry count reuse_ms)) × (writes_of counters ≡ [])

-- the reason of the conductor's stop after this stop of a read
abbrev pub work_stop : Stop → WorkStop
work_stop Limit = work.Limit
work_stop Block = work.Block
work_stop Unpublished = work.Unpublished
work_stop Action = work.BoardEnd

-- the read reached its end
pub record IsReadOut (limit : ℕ) (v w : View) (done : Work) : Type 0 where
  pub bytes : ℕ
  pub moved : v.consumer.head + bytes ≡ w.consumer.head
  pub stopped : done.stopped ≡ work_stop (stop_of w.capacity limit done.messages w.consumer.head bytes)

-- a command was left in the ring, since the broadcast buffer has no room for its reply
pub record IsCutOff (limit : ℕ) (v w : View) (board : BoardView) (done : Work) : Type 0 where
  pub stopped : done.stopped ≡ work.BoardEnd
  pub command : Message
  pub next : IsNext v w command
  pub before_limit : done.messages < limit
  pub before_end : v.consumer.head < w.consumer.head → w.consumer.head % w.capacity ≢ 0
  pub full : IsAtEnd board

-- Messages were taken at a moment. The counters, the value writes and the replies are the fold of these messages. v and
-- l are the conductor's view of the ring and its ledger before the work, and w and k are those after it. Each message
-- was taken when a reply of 12 bytes had room. The head was stored once, if it moved.
pub record Works (now limit : ℕ) (v w : View) (l k : Ledger) (done : Work) : Type 0 where
  pub messages : List PlacedMessage
  pub counted : done.messages ≡ length messages
  pub few : length messages ≤ limit
  pub received : w.consumer.taken ≡ v.consumer.taken ++ messages
  pub moves : MovesHead v w
  pub heads : w.consumer.heads ≡ v.consumer.heads ++ stored_from v.consumer.head w.consumer.head
  pub tight : done.messages ≡ limit → IsTight v.consumer.head messages w.consumer.head
  pub folded : k ≡ fold_of l (at_moment now (messages_of messages))
  pub had_room : HaveRoom now l (messages_of messages)
  pub stops : IsReadOut limit v w done ⊎ IsCutOff limit v w k.board done
  pub blocked : done.stopped ≡ work.Unpublished → FoundUnsettled v w
