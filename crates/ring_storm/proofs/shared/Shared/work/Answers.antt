use Rattle.std.proofs.Common.{◌∙◌}
use Rattle.ring_service.proofs.AccountLemmas.{work_shares, works_heard}
use Rattle.ring_storm.proofs.StormLemmas.{work_counters}
use Rattle.ring_storm.proofs.shared.Shared.work.Goals as goal

pub returns-then-work-gt0-clause-receivers : goal.returns-then-work-gt0-clause-receivers
returns-then-work-gt0-clause-receivers g c =
    let works = c.do_work-work.ensures.works in (
      work_shares _ _ _ _ _ _ _ works ∙ c.loop.invariant.receivers.0,
      works_heard _ _ _ _ _ _ _ works ∙ c.loop.invariant.receivers.1,
    )

pub returns-then-work-gt0-clause-counters : goal.returns-then-work-gt0-clause-counters
returns-then-work-gt0-clause-counters g c =
    let before = c.loop.invariant.counters in (
      work_counters c.args.self.now.plan _ _ _ _ _ _ c.do_work-work.ensures.works before.0,
      c.do_work-work.ensures.value_shares ∙ before.1,
    )
