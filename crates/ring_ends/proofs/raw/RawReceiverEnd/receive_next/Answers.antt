use Rattle.std.proofs.Common.{ap, subst}
use Rattle.std.specs.Arc.{arc_value}
use Rattle.ring_board.specs.{Seats.raw_seat, Views.Sat}
use Rattle.ring_ends.specs.BoardEnd.{BoardEnd, Looks, end_at}
use Rattle.ring_ends.proofs.BoardLemmas.{returns_one}
use Rattle.ring_ends.proofs.raw.RawReceiverEnd.receive_next.Goals as goal

pub returns-clause-does : goal.returns-clause-does
returns-clause-does c =
    let n = raw_seat c.receive_next.new.self in (
      ap (λ (e : BoardEnd Sat). record e { knows = n }) c.self.view_is,
      subst (λ (e : BoardEnd Sat). Looks e.knows c.receive_next.result n) c.self.view_is c.receive_next.ensures.got,
    )

pub returns-clause-copied : goal.returns-clause-copied
returns-clause-copied c =
    returns_one c.args.self.now (end_at (arc_value c.self.inside.board) (raw_seat c.receive_next.new.self)) _
    (returns-clause-does c).1
