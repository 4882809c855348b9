-- What a conductor shares with the ends that it gives, and what such an end has of it.
use Rattle.std.specs.Prelude.{Option, None, Some}
use Rattle.std.specs.Arc.{arc_value}
use Rattle.ring_board.specs.declared.board.Board.{Board}
use Rattle.ring_counters.specs.declared.values.seats.CounterValues.{CounterValues}
use Rattle.ring_ends.specs.declared.lending.Shared.{Shared}
use Rattle.ring_ends.specs.declared.lending.Lender.{Lender, TheVariants.Own, TheVariants.Lent}

-- the broadcast buffer of a receiver
abbrev pub board_in : Lender Board → Board
board_in (Own board) = arc_value board
board_in (Lent shared) = (arc_value shared).board

-- the values that a reader reads
abbrev pub values_in : Lender CounterValues → CounterValues
values_in (Own values) = arc_value values
values_in (Lent shared) = (arc_value shared).values

-- what a conductor shares, if the lender is one
abbrev pub conductor_of : {T : Type 0} → Lender T → Option Shared
conductor_of (Own own) = None
conductor_of (Lent shared) = Some (arc_value shared)
