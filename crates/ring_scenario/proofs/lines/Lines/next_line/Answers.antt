use Rattle.std.proofs.Common.{◌<◌, length, arith, ◌∷◌, take, ap, ◌∙◌, sym, ◌+◌}
use Rattle.std.proofs.lemmas.List.{take_rest}
use Rattle.ring_scenario.{specs.Cutting.lines_of, proofs.CuttingLemmas.lines_of-cut, proofs.CuttingLemmas.lines_of-last}
use Rattle.ring_scenario.proofs.lines.Lines.next_line.Goals as goal

pub returns-in_default-clause-line : goal.returns-in_default-clause-line
returns-in_default-clause-line c =
    let text = c.args.self.now.rest.now in
    let some : 0 < length text = grind (arith, c.if-is_empty.ensures) in
    lines_of-last text (sym c.index_of.ensures ∙ c.in_default.is) some

pub returns-clause-line : goal.returns-clause-line
returns-clause-line c =
    let text = c.args.self.now.rest.now in
    lines_of-cut text c.in-Some.end (sym c.index_of.ensures ∙ c.in-Some.is)
    ∙ ap (λ rest. take c.in-Some.end text ∷ lines_of rest) (sym (take_rest text (c.in-Some.end + 1)))
