use Rattle.std.proofs.Common.{sym, subst, rules}
use Rattle.ring_table.{specs.Rescued.HadHistory, proofs.RescueLemmas.had_history}
use Rattle.ring_rings.proofs.rescue.save_words.Goals as goal

pub rescue-words-requires-clause-left : goal.rescue-words-requires-clause-left
rescue-words-requires-clause-left g c = (
  c.args.table.shared.key,
  c.args.seat.me.0,
  record {
    consumes = c.requires.consumes.0;
    rests = c.requires.consumes.1;
    home = c.requires.home;
    full = (c.close_with-closed.ensures.values.0, c.close_with-closed.ensures.values.1);
    id = c.args.seat.id;
    final = c.close_with-closed.ensures.values.2;
  },
  search rules,
  c.requires.capacity,
)

pub returns-clause-had : goal.returns-clause-had
returns-clause-had g c =
    let h = had_history g.B.Mode.bodies c.args.table.shared.key c.args.seat.me.0 c.close_with-closed.result record {
      consumes = c.requires.consumes.0;
      rests = c.requires.consumes.1;
      home = c.requires.home;
      full = (c.close_with-closed.ensures.values.0, c.close_with-closed.ensures.values.1);
      id = c.args.seat.id;
      final = c.close_with-closed.ensures.values.2;
    } in
    let had = subst (λ z. HadHistory g.B.Mode.bodies c.args.table.shared.key c.args.seat.me.0 z h.0 h.1)
    (sym c.of-before.ensures) h.2 in
    (h.0, h.1, had)

pub returns-clause-each : goal.returns-clause-each
returns-clause-each g c = λ hist drawn had.
    c.rescue-words.ensures c.args.table.shared.key c.args.seat.me.0 hist drawn record {
      consumes = c.requires.consumes.0;
      rests = c.requires.consumes.1;
      home = c.requires.home;
      full = (c.close_with-closed.ensures.values.0, c.close_with-closed.ensures.values.1);
      id = c.args.seat.id;
      final = c.close_with-closed.ensures.values.2;
    } (subst (λ z. HadHistory g.B.Mode.bodies c.args.table.shared.key c.args.seat.me.0 z hist drawn)
    c.of-before.ensures had) c.requires.capacity
