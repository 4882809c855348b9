-- What a read shows together with the positions before it and after it.
use Rattle.std.specs.Prelude.{◌≡◌, ℕ, ◌≤◌, ◌<◌}
use Rattle.ring_words.specs.declared.{positions.Positions.Positions, read.end.ReadEnd.ReadEnd, read.end.Stop.Stop}

-- the read found no settled record at this head, which both positions have
pub record StandsAt (before : Positions) (end : ReadEnd) (after : Positions) (head : ℕ) : Type 0 where
  pub stopped : end.stopped ≡ Stop.Unpublished
  pub stays : end.bytes ≡ 0
  pub first : before.head ≡ head
  pub last : after.head ≡ head

-- and nothing is claimed after it
pub record IsEmpty (before : Positions) (end : ReadEnd) (after : Positions) : Type 0 where
  pub stands : StandsAt before end after before.head
  pub none : after.tail ≤ before.head

-- and something was claimed after it before the read, and still is
pub record IsBlockedAt (before : Positions) (end : ReadEnd) (after : Positions) (head : ℕ) : Type 0 where
  pub stands : StandsAt before end after head
  pub claimed : head < before.tail
  pub still : head < after.tail
