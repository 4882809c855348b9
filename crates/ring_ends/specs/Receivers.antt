-- Numbered receivers of a broadcast buffer.
use Rattle.std.specs.Prelude.{◌≡◌, ℕ, ◌+◌, List, Option}
use Rattle.ring_board.specs.declared.board.{Board.Board, Transmitter.Transmitter, CopyReceiver.CopyReceiver}
use Rattle.ring_board.specs.{declared.shared.view.View.View, Views.Sat, Views.fewer, Views.newcomer, Views.joined}
use Rattle.ring_board.specs.Receiving.{GotCopy, GotLapped, GotNothing}
use Rattle.ring_board.specs.Seats.{shares_of, view_of, IsReceiverOf, IsTransmitterOf, receiver_seat, receiver_view}
use Rattle.ring_ends.specs.Held.{Comes, Goes, HasAt, Stays, held_count, held_in, in_turn}
use Rattle.ring_ends.specs.declared.{numbered.Numbered.Numbered, received.Received.Received}
use Rattle.ring_ends.specs.declared.received.Received.TheVariants.{Copy, Nothing, Lapped}

-- a transmitter, and the receiver of each number, less 1, until it leaves
pub record NumberedReceivers : Type 0 where
  pub transmitter : Transmitter
  pub receivers : List (Option CopyReceiver)

abbrev pub by_number : Transmitter → Numbered CopyReceiver → NumberedReceivers
by_number t receivers = record { transmitter = t; receivers = held_in receivers }

-- the receivers are of this broadcast buffer
abbrev pub AreReceivers : Board → List (Option CopyReceiver) → Type 0
AreReceivers board receivers = (i : ℕ) (r : CopyReceiver) → HasAt receivers i r → IsReceiverOf board r

-- the transmitter and the receivers are of this broadcast buffer
pub record AreReceiversOf (board : Board) (c : NumberedReceivers) : Type 0 where
  pub transmitter : IsTransmitterOf board c.transmitter
  pub receivers : AreReceivers board c.receivers

-- the shares that the transmitter and the receivers have together
abbrev pub shares_in : NumberedReceivers → ℕ
shares_in c = shares_of c.transmitter + held_count c.receivers

-- a receiver was made, and has the next number
pub record Subscribes (old : NumberedReceivers) (next : ℕ) (new : NumberedReceivers) : Type 0 where
  pub receiver : CopyReceiver
  pub knows : receiver_view receiver ≡ newcomer (view_of old.transmitter)
  pub share : view_of new.transmitter ≡ fewer (view_of old.transmitter)
  pub comes : Comes receiver old.receivers next new.receivers

-- the view of a receiver that received this
abbrev pub IsTold : Received → Sat → Sat → Type 0
IsTold (Copy place type_id body) old new = GotCopy place type_id body.items old new
IsTold Nothing old new = GotNothing old new
IsTold (Lapped lapped) old new = GotLapped lapped old new

-- the receiver of this number received this, and no other receiver changed
pub record ReceivesAt (told : Received) (old : Numbered CopyReceiver) (number : ℕ)
    (new : Numbered CopyReceiver) : Type 0 where
  pub before : CopyReceiver
  pub after : CopyReceiver
  pub told_it : IsTold told (receiver_seat before) (receiver_seat after)
  pub stays : Stays before after (held_in old) number (held_in new)

-- the receiver of this number left, and the number was given up
pub record LeavesAt (old : NumberedReceivers) (number : ℕ) (new : NumberedReceivers) : Type 0 where
  pub receiver : CopyReceiver
  pub goes : Goes receiver old.receivers number new.receivers
  pub share : view_of new.transmitter ≡ joined (view_of old.transmitter) (receiver_view receiver)

-- the view of a transmitter after all receivers have left, in rising order of their numbers
abbrev pub all_left : List (Option CopyReceiver) → View → View
all_left = in_turn (λ r v. joined v (receiver_view r))
