use Rattle.std.proofs.Common.{[], sym, arith}
use Rattle.ring_table.{proofs.FillLemmas.fill_start, proofs.SlotBytes.first_word_of, specs.Staged.headed}
use Rattle.ring_table.proofs.bodies.fill_header.Goals as goal

pub put_slot-requires-clause-filling : goal.put_slot-requires-clause-filling
put_slot-requires-clause-filling c =
    ([], fill_start c.args.first c.args.count [] c.args.seat.now.me.1 c.requires.has)

pub returns-clause-filling : goal.returns-clause-filling
returns-clause-filling c body =
    c.put_slot.ensures.filling (headed c.args.header body)
    (fill_start c.args.first c.args.count (headed c.args.header body) c.args.seat.now.me.1 c.requires.has)
    (sym (first_word_of c.args.header body (omega arith)))
