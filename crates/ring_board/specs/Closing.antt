-- A closed broadcast buffer.
use Rattle.std.specs.Prelude.{◌≡◌, ℕ, ◌-◌, ◌/◌, ◌<◌, ◌==◌, List, slice_index, Option, Some, None, if◌then◌else◌}
use Rattle.ring_board.specs.declared.shared.view.Record.{Record}
use Rattle.ring_board.specs.declared.{fault.ReceiversOut.ReceiversOut, board.Transmitter.Transmitter}
use Rattle.ring_board.specs.declared.board.{Board.Board, ClosedBoard.ClosedBoard, BoardCloseRefused.BoardCloseRefused}
use Rattle.ring_layout.specs.Refusals.{all_shares}
use Rattle.ring_board.specs.Layout.{intent_index, tail_index, latest_index, IsUnnamed}
use Rattle.ring_board.specs.Records.{Chain, end_of, last_of, stores_of, IsBoardWord}

-- the words of a broadcast buffer of capacity C that began at e and transmitted this list
pub record IsClosed (C e : ℕ) (sent : List Record) (ws : List ℕ) : Type 0 where
  pub places : Chain C e sent
  pub words : (i : ℕ) → i < C / 8 → IsBoardWord C (stores_of sent) i (slice_index ws i)
  pub intent : slice_index ws (intent_index C) ≡ end_of e sent
  pub tail : slice_index ws (tail_index C) ≡ end_of e sent
  pub latest : slice_index ws (latest_index C) ≡ last_of e sent
  pub unnamed : (i : ℕ) → IsUnnamed C i → slice_index ws i ≡ 0

abbrev pub closed_words : ClosedBoard → List ℕ
closed_words c = c.words.items

abbrev pub closed_capacity : ClosedBoard → ℕ
closed_capacity c = c.capacity

-- the reason why a transmitter with this many shares does not close
abbrev pub close_refusal_of : ℕ → Option ReceiversOut
close_refusal_of shares = if shares == all_shares then None else Some record { receivers = all_shares - shares }

-- the buffer and the transmitter come back with the reason
abbrev pub kept_open : Board → Transmitter → ReceiversOut → BoardCloseRefused
kept_open board t reason = record { reason = reason; board = board; transmitter = t }
