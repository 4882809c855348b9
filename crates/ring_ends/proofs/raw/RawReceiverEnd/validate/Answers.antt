use Rattle.std.proofs.Common.{subst}
use Rattle.ring_board.specs.{Bodies.IsRight, Views.Sat}
use Rattle.ring_ends.specs.BoardEnd.{BoardEnd}
use Rattle.ring_ends.proofs.raw.RawReceiverEnd.validate.Goals as goal

pub returns-clause-right : goal.returns-clause-right
returns-clause-right c valid =
    subst (λ (e : BoardEnd Sat). IsRight e.knows.0 c.args.raw.now) c.self.view_is (c.validate.ensures.right valid)
