-- Four producers of one ring.
use Rattle.std.specs.Prelude.{◌≡◌, ℕ, ◌*◌, ◌≤◌, ℤ, pos, List, length, filter}
use Rattle.std.specs.Ordering.{int_eq}
use Rattle.ring_layout.specs.declared.message.Message.{Message}
use Rattle.ring_rings.specs.Ring.{AreMerged}
use Rattle.ring_ends.specs.Ending.{Last}
use Rattle.ring_uses.specs.declared.numbers.Summed.{Summed}
use Rattle.ring_uses.specs.{Closing.IsWholeIn, Closing.received_in, Closing.sent_in, Numbers.numbers, Numbers.sum_of}

-- the messages of this type id, in their order
abbrev pub of_type : ℤ → List Message → List Message
of_type type_id ms = filter (λ (m : Message). int_eq m.type_id type_id) ms

-- two producers sent these messages, which are numbers of two type ids from 1 on, at most up to `last`
pub record AreOfTwo (first second : ℤ) (last : ℕ) (ms : List Message) : Type 0 where
  pub n : ℕ
  pub m : ℕ
  pub few : n ≤ last
  pub few_too : m ≤ last
  pub merged : AreMerged (numbers first n) (numbers second m) ms

-- two pairs of producers sent these messages
pub record AreOfFour (last : ℕ) (ms : List Message) : Type 0 where
  pub left : List Message
  pub right : List Message
  pub first : AreOfTwo (pos 1) (pos 2) last left
  pub second : AreOfTwo (pos 3) (pos 4) last right
  pub merged : AreMerged left right ms

-- All that was sent was received. The messages have the numbers from 1 to `last` with each of four type ids, in order,
-- and no others. The sum is that of the received numbers.
pub record AreInOrder (last : ℕ) (s : Summed Last) : Type 0 where
  pub whole : IsWholeIn s.closed
  pub all : received_in s.closed ≡ sent_in s.closed
  pub first : of_type (pos 1) (received_in s.closed) ≡ numbers (pos 1) last
  pub second : of_type (pos 2) (received_in s.closed) ≡ numbers (pos 2) last
  pub third : of_type (pos 3) (received_in s.closed) ≡ numbers (pos 3) last
  pub fourth : of_type (pos 4) (received_in s.closed) ≡ numbers (pos 4) last
  pub no_others : length (received_in s.closed) ≡ 4 * last
  pub sum : s.sum ≡ sum_of (received_in s.closed)
