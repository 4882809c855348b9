use Rattle.std.proofs.Common.{◌∙◌, sym}
use Rattle.ring_counters.proofs.AvailableLemmas.{none_available}
use Rattle.ring_counters.proofs.manager.CountersManager.available.Goals as goal

pub returns-clause-none : goal.returns-clause-none
returns-clause-none c =
    let none = none_available c.args.self.now.records c.args.now in
    ((λ z. none.0 (sym c.available.ensures ∙ z)), (λ e. c.available.ensures ∙ none.1 e))
