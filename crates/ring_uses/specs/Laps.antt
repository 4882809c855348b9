-- A receiver that is lapped.
use Rattle.std.specs.Prelude.{◌≡◌, ℕ, ◌≤◌, pos, List, map, All}
use Rattle.ring_layout.specs.declared.message.Message.{Message}
use Rattle.ring_board.specs.declared.shared.view.{Record.Record, Taken.Taken}
use Rattle.ring_board.specs.{Board.copied, Board.lapped_count_of, Board.subscribed_at, Board.transmitted, Runs.AreRuns}
use Rattle.ring_uses.specs.{declared.laps.Overtaken.Overtaken, Numbers.numbers, Numbers.sum_of}

-- the messages of transmitted records
abbrev pub messages_in : List Record → List Message
messages_in records = map (λ (r : Record). r.message) records

-- the messages that were copied
abbrev pub messages_of : List Taken → List Message
messages_of copies = map (λ (c : Taken). c.message) copies

-- no copy was made after the receiver was lapped more than this many times
abbrev pub AreWithin : ℕ → List Taken → Type 0
AreWithin laps copies = All (λ (c : Taken). c.count ≤ laps) copies

-- The numbers from 1 to `last` were transmitted. The copies of the receiver are runs of these numbers, which are broken
-- only if the receiver's lapped count rose. `laps` is this count at the end, and no copy was made after the receiver
-- was lapped more than this many times. The sum is that of the copied numbers.
pub record HasCopied (last : ℕ) (h : Overtaken) : Type 0 where
  pub all : messages_in (transmitted h.transmitter.value) ≡ numbers (pos 1) last
  pub runs : AreRuns (transmitted h.transmitter.value) (subscribed_at h.receiver.value) (copied h.receiver.value)
  pub laps : h.laps ≡ lapped_count_of h.receiver.value
  pub within : AreWithin h.laps (copied h.receiver.value)
  pub sum : h.sum ≡ sum_of (messages_of (copied h.receiver.value))
