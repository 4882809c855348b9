use Rattle.std.proofs.Common.{◌∙◌}
use Rattle.ring_recovery.proofs.RecoverLemmas.{is_recovered}
use Rattle.ring_recovery.proofs.memory.recover.Goals as goal

pub returns-clause-recovered : goal.returns-clause-recovered
returns-clause-recovered c = λ C start m.
    is_recovered C start c.args.words.now c.args.slots.now m c.read_memory.result
    (c.read_memory.ensures.refused C m.rule.kept.lawful.capacity (m.rule.encodes.wide ∙ m.rule.kept.memory.wide))
    (c.read_memory.ensures.reads C m.rule.kept.lawful.capacity (m.rule.encodes.wide ∙ m.rule.kept.memory.wide))
