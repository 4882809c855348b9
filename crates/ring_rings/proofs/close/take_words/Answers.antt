use Rattle.std.proofs.Common.{rules}
use Rattle.ring_rings.proofs.close.take_words.Goals as goal

pub show-requires-clause-left : goal.show-requires-clause-left
show-requires-clause-left g c = (
  c.args.table.shared.key,
  c.args.seat.me.0,
  record {
    last = c.requires.last;
    full = (c.close_with.ensures.values.0, c.close_with.ensures.values.1);
    id = c.args.seat.id;
    final = c.close_with.ensures.values.2;
  },
  search rules,
)

pub returns-clause-closed : goal.returns-clause-closed
returns-clause-closed g c = (c.show.ensures c.args.table.shared.key c.args.seat.me.0 record {
  last = c.requires.last;
  full = (c.close_with.ensures.values.0, c.close_with.ensures.values.1);
  id = c.args.seat.id;
  final = c.close_with.ensures.values.2;
}).0
