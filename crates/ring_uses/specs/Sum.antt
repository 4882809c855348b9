-- Two threads and a sum.
use Rattle.std.specs.Prelude.{◌≡◌, ℕ, pos}
use Rattle.ring_ends.specs.Ending.{Last}
use Rattle.ring_uses.specs.declared.numbers.Summed.{Summed}
use Rattle.ring_uses.specs.{Closing.IsWholeIn, Closing.received_in, Closing.sent_in, Numbers.numbers, Numbers.sum_of}

-- The numbers from 1 to `last` were sent, and all of them were received, in order. The sum is that of the received
-- numbers.
pub record IsSummed (last : ℕ) (s : Summed Last) : Type 0 where
  pub sends : sent_in s.closed ≡ numbers (pos 1) last
  pub receives : received_in s.closed ≡ numbers (pos 1) last
  pub whole : IsWholeIn s.closed
  pub sum : s.sum ≡ sum_of (received_in s.closed)
