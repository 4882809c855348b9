use Rattle.std.proofs.Common.{◌∙◌, ◌+◌, ap}
use Rattle.ring_rings.specs.Reading.{messages_of}
use Rattle.ring_service.specs.{Conducting.ledger_of, Fold.Ledger}
use Rattle.ring_ends.specs.Held.{held_count, held_in}
use Rattle.ring_scenario.proofs.ServiceLemmas.{shares-fold}
use Rattle.ring_scenario.proofs.service.CommandService.work.Goals as goal

pub invariant_of-self-clause-shares : goal.invariant_of-self-clause-shares
invariant_of-self-clause-shares c =
    let works = c.do_work.ensures.works in
    let same = ap (λ (l : Ledger). l.board.shares) works.folded
    ∙ shares-fold (ledger_of c.args.self.now.conductor) c.ms.result (messages_of works.messages) in
    ap (λ n. n + held_count (held_in c.args.self.now.listeners)) same ∙ c.args.self.now.shares
