use Rattle.std.proofs.Common.{◌∙◌, ◌+◌, ◌-◌, ap}
use Rattle.std.proofs.lemmas.Result.{IfOk-weaker}
use Rattle.ring_counters.specs.Seats.{IsReaderOf}
use Rattle.ring_service.specs.Conducting.{value_shares_of}
use Rattle.ring_ends.proofs.HeldLemmas.{count_stays, of_stays, stays, stays_same, vacated}
use Rattle.ring_scenario.proofs.ServiceLemmas.{OnErr-from}
use Rattle.ring_scenario.proofs.service.CommandService.peek.Goals as goal

pub load-loaded-requires : goal.load-loaded-requires
load-loaded-requires c = c.args.self.now.watch.watchers (c.args.number - 1) c.in_ok-watcher.watcher
    c.in_ok-watcher.ensures.taken.here.has

pub put_back-requires : goal.put_back-requires
put_back-requires c = vacated _ _ _ _ c.in_ok-watcher.ensures.taken

pub invariant_of-self-2-clause-watch : goal.invariant_of-self-2-clause-watch
invariant_of-self-2-clause-watch c =
    let held = stays _ _ _ _ _ _ c.in_ok-watcher.ensures.taken c.put_back.ensures in
    record {
      manager = c.args.self.now.watch.manager;
      watchers = of_stays (IsReaderOf c.args.self.now.values) _ _ _ _ _ c.args.self.now.watch.watchers held
          c.load-loaded.ensures.reader;
    }

pub invariant_of-self-2-clause-value_shares : goal.invariant_of-self-2-clause-value_shares
invariant_of-self-2-clause-value_shares c =
    let held = stays _ _ _ _ _ _ c.in_ok-watcher.ensures.taken c.put_back.ensures in
    ap (λ n. value_shares_of c.args.self.now.conductor + n) (count_stays _ _ _ _ _ held) ∙ c.args.self.now.value_shares

pub returns-clause-loaded : goal.returns-clause-loaded
returns-clause-loaded c =
    let held = stays _ _ _ _ _ _ c.in_ok-watcher.ensures.taken c.put_back.ensures in
    IfOk-weaker c.load-loaded.result _ _
    (λ value did. record {
      before = c.in_ok-watcher.watcher;
      after = c.load-loaded.new.reader;
      loads = did;
      stays = held;
    }) c.load-loaded.ensures.loads

pub returns-clause-refused : goal.returns-clause-refused
returns-clause-refused c =
    let held = stays _ _ _ _ _ _ c.in_ok-watcher.ensures.taken c.put_back.ensures in
    OnErr-from c.load-loaded.result _ _ (stays_same _ _ _ _ _ held) c.load-loaded.ensures.err

pub returns-clause-here : goal.returns-clause-here
returns-clause-here c = (c.in_ok-watcher.watcher, c.in_ok-watcher.ensures.taken.here)
