use Rattle.ring_board.specs.Seats.{IsTransmitterOf}
use Rattle.ring_report_tests.proofs.snapshots.lapped.Given as goal

abbrev pub invariant-sends : goal.invariant-sends
invariant-sends g l = IsTransmitterOf l.board l.transmitter
