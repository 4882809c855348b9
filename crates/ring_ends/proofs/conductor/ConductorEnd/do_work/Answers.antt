use Rattle.std.proofs.Common.{◌∙◌, rules, sym}
use Rattle.ring_service.proofs.AccountLemmas.{work_shares}
use Rattle.ring_ends.proofs.conductor.ConductorEnd.do_work.Goals as goal

pub invariant_of-self : goal.invariant_of-self
invariant_of-self c =
    let was = c.self.invariant in
    let shares = sym (work_shares _ _ _ _ _ _ _ c.do_work.ensures.works) in
    (search rules, search rules, search rules, was.3 ∙ shares)
