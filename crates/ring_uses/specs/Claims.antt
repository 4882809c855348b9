-- A claim that is aborted, and one that is committed.
use Rattle.std.specs.Prelude.{◌≡◌, ℕ, pos, [], ◌∷◌}
use Rattle.ring_ends.specs.Ending.{Last}
use Rattle.ring_uses.specs.declared.numbers.Summed.{Summed}
use Rattle.ring_uses.specs.{Closing.IsWholeIn, Closing.received_in, Closing.sent_in, Numbers.numbered, Numbers.sum_of}

-- Exactly the message of this number was sent. The received messages, followed by the unread ones, are this message.
-- The sum is that of the received messages.
pub record IsOnly (number : ℕ) (s : Summed Last) : Type 0 where
  pub sends : sent_in s.closed ≡ numbered (pos 1) number ∷ []
  pub whole : IsWholeIn s.closed
  pub sum : s.sum ≡ sum_of (received_in s.closed)
