use Rattle.std.proofs.Common.{arith, ◌∙◌, ap}
use Rattle.ring_counters.specs.declared.values.view.ValuesView.{ValuesView}
use Rattle.ring_counters.proofs.ValueSteps.{joins, learns}
use Rattle.ring_counters.proofs.values.seats.CounterValues.join.Goals as goal

pub join_seat-requires : goal.join_seat-requires
join_seat-requires c = (
  c.requires.writer,
  c.requires.reader,
  c.args.reader.bare,
  (let h = c.args.self.now.counts in let k = c.args.self.now.some in omega arith),
  joins _ _ _ _ _,
)

pub load-requires : goal.load-requires
load-requires c =
    let e = c.join_seat.ensures in (
      e.0 ∙ c.requires.writer,
      (let h = c.args.self.now.counts in let k = c.args.self.now.some in omega arith),
      learns _
          _ _ _ _ (ap (λ (m : ValuesView × _). m.0.writes) e.2 ∙ c.args.writer.now.writes),
    )
