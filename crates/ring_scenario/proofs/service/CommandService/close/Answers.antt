use Rattle.std.proofs.Common.{◌∙◌, ◌≡◌, length, ap}
use Rattle.ring_table.proofs.LawLemmas.{none_open}
use Rattle.ring_rings.specs.declared.ring.Consumer.{Consumer}
use Rattle.ring_rings.specs.Seats.{capacity_of, claims_of, start_of, taken_of}
use Rattle.ring_counters.specs.declared.manager.CountersManager.{CountersManager}
use Rattle.ring_counters.specs.Manager.{registry_of, shares_of}
use Rattle.ring_service.specs.Conducting.{received_of}
use Rattle.ring_scenario.proofs.EndLemmas.{renamed, takes_all_but}
use Rattle.ring_scenario.proofs.service.CommandService.close.Goals as goal

pub returns : goal.returns
returns c =
    let e = c.in-Ok.ensures in
    let watchers = c.join_watchers.ensures in
    let listeners = c.join_listeners.ensures in
    let last = c.join_listeners.new.self in
    let counters = e.hands_on.counters ∙ listeners.others.counters in
    let taken : received_of last.conductor ≡ received_of c.args.self.conductor =
    ap (λ (k : Consumer). taken_of k) (listeners.others.consumer ∙ watchers.keeps.seats.consumer) in
    let ring = listeners.ring.0 ∙ watchers.ring.0 in
    let producer = listeners.ring.1 ∙ watchers.ring.1 in
    let settled = none_open (claims_of last.producer) last.whole.0 in
    let all = takes_all_but _ _ _ _ _ e.headline.left settled.0 c.drain.result
    (λ h has closed. (c.drain.ensures.whole h has closed).0) in
    record {
      received = e.hands_on.received ∙ ap length taken;
      left = renamed _ _ _ _ _ _ _ _ _ _ (ap capacity_of ring) (ap start_of ring) (ap claims_of producer) taken
          c.from.ensures all;
      counters = ap (λ (m : CountersManager). registry_of m) counters ∙ watchers.keeps.counters.registry;
      watchers = ap (λ (m : CountersManager). shares_of m) counters ∙ watchers.shares;
    }
