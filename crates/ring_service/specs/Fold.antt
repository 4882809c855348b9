-- The effect of a list of messages, each at a moment.
use Rattle.std.specs.Prelude.{ℕ, List, [], ◌∷◌, ◌++◌}
use Rattle.ring_layout.specs.declared.message.Message.{Message}
use Rattle.ring_counters.specs.{declared.values.view.ValueWrite.ValueWrite, Registry.Registry}
use Rattle.ring_board.specs.declared.shared.view.{Joined.Joined, Taken.Taken, View.View}
use Rattle.ring_board.specs.{Seats.next_record, TransmitterSteps.sent_on}
use Rattle.ring_protocol.specs.{declared.reply.Reply.Reply, Reply.type_id_of, Reply.spelling_of}
use Rattle.ring_service.specs.Applied.{applied}

-- the counters, all value writes, and the view of the transmitter, whose part `sent` is its list
pub record Ledger : Type 0 where
  pub registry : Registry
  pub writes : List ValueWrite
  pub board : View

-- the reply comes next in the transmitted list
abbrev pub replied : View → Reply → View
replied v reply = sent_on v (next_record v.capacity v.at (type_id_of reply) (spelling_of reply))

-- a message is applied at a moment, and gets its one reply
abbrev pub served : Ledger → ℕ → Message → Ledger
served l now m =
    let o = applied now l.registry m in
    record { registry = o.registry; writes = l.writes ++ o.writes; board = replied l.board o.reply }

-- messages are served in order, each at its moment
abbrev pub fold_of : Ledger → List (ℕ × Message) → Ledger
fold_of l [] = l
fold_of l (p ∷ ps) = fold_of (served l p.0 p.1) ps

-- the ledger whose transmitter has these shares, this start, these copies and these joined receivers
abbrev pub with_receivers : ℕ → ℕ → List Taken → List Joined → Ledger → Ledger
with_receivers shares from copies heard l =
    record l { board = record l.board { shares = shares; from = from; copies = copies; heard = heard } }

-- these messages, all at one moment
abbrev pub at_moment : ℕ → List Message → List (ℕ × Message)
at_moment now [] = []
at_moment now (m ∷ ms) = (now, m) ∷ at_moment now ms
