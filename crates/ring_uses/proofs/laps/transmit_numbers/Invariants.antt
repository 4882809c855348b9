use Rattle.std.proofs.Common.{◌≡◌, pos}
use Rattle.ring_board.specs.{Board.transmitted, Seats.IsTransmitterOf}
use Rattle.ring_uses.specs.{Laps.messages_in, Numbers.numbers}
use Rattle.ring_uses.proofs.laps.transmit_numbers.Given as goal

abbrev pub invariant-loop-number : goal.invariant-loop-number
invariant-loop-number l = IsTransmitterOf l.board l.transmitter
    × (messages_in (transmitted l.transmitter) ≡ numbers (pos 1) l.number)
