use Rattle.std.proofs.Common.{◌∙◌, ap}
use Rattle.ring_table.specs.declared.view.Service.{Service}
use Rattle.ring_storm.proofs.{SeatLemmas.leaves, TurnLemmas.adds_where, TurnLemmas.keeps_where}
use Rattle.ring_storm.proofs.client.try_send.Goals as goal

pub returns-clause-seat : goal.returns-clause-seat
returns-clause-seat g c =
    let e = c.send_as.ensures in
    let left = leaves _ _ _ _ _ c.send_as.result e.sent e.refused in (
      e.producer,
      e.keeps.holdings.shares ∙ c.requires.1,
      e.keeps.open_claims ∙ c.requires.2,
      left.risen c.requires.3,
      left.joined ∙ c.requires.4,
    )

pub returns-clause-sent : goal.returns-clause-sent
returns-clause-sent g c = adds_where _ _ _ _ _ c.send_as.result _ c.is_ok.ensures.value c.send_as.ensures.sent

pub returns-clause-refused : goal.returns-clause-refused
returns-clause-refused g c = keeps_where _ _ _ _ _ c.send_as.result _ c.is_ok.ensures.value c.send_as.ensures.refused

pub returns-clause-draws : goal.returns-clause-draws
returns-clause-draws g c =
    let left = leaves _ _ _ _ _ c.send_as.result c.send_as.ensures.sent c.send_as.ensures.refused in
    ap (λ (s : Service). s.draws) left.service
