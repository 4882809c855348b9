use Rattle.std.proofs.Common.{arith}
use Rattle.ring_counters.proofs.ValueSteps.{loads}
use Rattle.ring_counters.proofs.values.seats.CounterValues.load.Goals as goal

pub load-word-requires : goal.load-word-requires
load-word-requires c =
    let counts = c.args.self.now.counts in (
      c.requires,
      (omega (arith, c.word_count.ensures, c.if-id-word_count.false)),
      loads _ _ _ _ _ _
          (omega (arith, c.word_count.ensures, c.if-id-word_count.false)),
    )
