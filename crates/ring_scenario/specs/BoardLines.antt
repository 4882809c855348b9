-- The effects of lines of the broadcast buffer, with the text that they print.
use Rattle.std.specs.Prelude.{◌≡◌, ℕ, ℤ, List, codes, length, IfOk, OnErr, OnOk, Result}
use Rattle.ring_board.specs.Refusals.{subscribe_refusal_of, transmit_refusal_of, IsRefusedBy, IsSubscribedUnless}
use Rattle.ring_board.specs.Seats.{capacity_of, next_record, shares_of, tail_of, view_of}
use Rattle.ring_board.specs.TransmitterSteps.{sent_on}
use Rattle.ring_board.specs.declared.fault.{SubscribeFault.SubscribeFault, TransmitFault.TransmitFault}
use Rattle.ring_ends.specs.Held.{held_in}
use Rattle.ring_ends.specs.Receivers.{LeavesAt, ReceivesAt, Subscribes, by_number}
use Rattle.ring_ends.specs.declared.{board.StandaloneBoard.StandaloneBoard, received.Received.Received}
use Rattle.ring_scenario.specs.RefusalTexts.{subscribe_refused, transmit_refused}
use Rattle.ring_scenario.specs.Texts.{answer_text, done_text, number_text, ok_text, received_text}

-- a message was transmitted, or refused
pub record TransmitsLine (type_id : ℤ) (body : List ℕ) (old new : StandaloneBoard) (text : List ℕ) : Type 0 where
  pub sent : Result (Unit {0}) TransmitFault
  pub refused : IsRefusedBy
      (transmit_refusal_of (capacity_of old.board) (tail_of old.transmitter) type_id (length body)) sent
  pub same : OnErr sent (new ≡ old)
  pub transmitted : OnOk sent (view_of new.transmitter ≡ sent_on (view_of old.transmitter)
      (next_record (capacity_of old.board) (tail_of old.transmitter) type_id body))
  pub rest : (new.board ≡ old.board) × (new.receivers ≡ old.receivers)
  pub prints : text ≡ done_text transmit_refused sent

-- a receiver was made, or refused
pub record SubscribesLine (old new : StandaloneBoard) (text : List ℕ) : Type 0 where
  pub made : Result ℕ SubscribeFault
  pub refused : IsSubscribedUnless (subscribe_refusal_of (shares_of old.transmitter)) made
  pub subscribed : IfOk made
      (λ number. Subscribes (by_number old.transmitter old.receivers) number (by_number new.transmitter new.receivers))
  pub same : OnErr made ((new.transmitter ≡ old.transmitter) × (held_in new.receivers ≡ held_in old.receivers))
  pub board : new.board ≡ old.board
  pub prints : text ≡ answer_text (number_text (codes "receiver")) subscribe_refused made

-- the receiver of this number was asked for the next message
pub record ReceivesLine (number : ℕ) (old new : StandaloneBoard) (text : List ℕ) : Type 0 where
  pub received : Received
  pub receives : ReceivesAt received old.receivers number new.receivers
  pub board : new.board ≡ old.board
  pub transmitter : new.transmitter ≡ old.transmitter
  pub prints : text ≡ received_text received

-- the receiver of this number left
pub record LeavesLine (number : ℕ) (old new : StandaloneBoard) (text : List ℕ) : Type 0 where
  pub left : LeavesAt (by_number old.transmitter old.receivers) number (by_number new.transmitter new.receivers)
  pub board : new.board ≡ old.board
  pub prints : text ≡ ok_text
