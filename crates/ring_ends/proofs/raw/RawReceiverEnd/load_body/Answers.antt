use Rattle.std.proofs.Common.{ap, subst, take}
use Rattle.ring_board.specs.{Bodies.GaveBody, Seats.len_of, Seats.place_of, Seats.raw_seat, Views.Sat}
use Rattle.ring_ends.specs.BoardEnd.{BoardEnd}
use Rattle.ring_ends.proofs.raw.RawReceiverEnd.load_body.Goals as goal

pub returns-clause-does : goal.returns-clause-does
returns-clause-does c =
    let n = raw_seat c.load_body.new.self in
    let raw = c.args.raw.now in (
      ap (λ (e : BoardEnd Sat). record e { knows = n }) c.self.view_is,
      subst (λ (e : BoardEnd Sat). GaveBody (place_of raw) (take (len_of raw) c.load_body.new.out) e.knows n)
          c.self.view_is c.load_body.ensures.gave,
    )
