use Rattle.std.proofs.Common.{◌+◌, ◌∷◌, ◌++◌, [], sym, ap, ◌∙◌}
use Rattle.atomic_table.specs.Table.{rest, turned}
use Rattle.ring_table.{specs.ProducerSteps.Mine, proofs.FillLemmas.fill_front, proofs.FillLemmas.fill_more}
use Rattle.ring_table.proofs.bodies.put_slot.Goals as goal

pub exchange-requires : goal.exchange-requires
exchange-requires c =
    let t = c.requires.filling in
    let f = fill_front c.args.first c.args.k _ t.0 c.args.seat.now.me.1 c.requires.more t.1 in
    (c.requires.seat, (f.0, f.2 ∙ ap (λ l. (c.args.first + c.args.k, f.0) ∷ rest l) (sym f.2)))

pub returns-clause-filling : goal.returns-clause-filling
returns-clause-filling c body filling word_is =
    fill_more c.args.first c.args.k _ c.args.word body c.args.seat.now.me.1 c.turn.new.self.me.1 c.requires.more
    filling word_is (λ old more e.
    ap (λ (z : Mine). z.1) c.turn.ensures.2 ∙ ap (λ (z : Mine). turned z.1) c.exchange.ensures.3
    ∙ ap (λ l. rest l ++ (c.args.first + c.args.k, c.args.word) ∷ []) e)
