use Rattle.std.proofs.Common.{◌≡◌, ◌∙◌, sym, subst, MatchOption}
use Rattle.ring_table.proofs.LawLemmas.{none_open}
use Rattle.ring_rings.specs.Seats.{claims_of}
use Rattle.ring_service.proofs.FinishLemmas.{drained}
use Rattle.ring_service.specs.Finishing.{refusal_to, IsFoldOfReceived}
use Rattle.ring_ends.specs.Conducting.{SeatedConductor}
use Rattle.ring_ends.specs.declared.finishing.StopFault.TheVariants.{InUse, Refused}
use Rattle.ring_handles.specs.Closing.{EndsWith}
use Rattle.ring_handles.proofs.EndingLemmas.{leaves_committed, leaves_without, none_is_open, rest_counts}
use Rattle.ring_handles.proofs.conductor.ConductorSide.finish.Goals as goal

pub returns-in-Ok-clause-ended : goal.returns-in-Ok-clause-ended
returns-in-Ok-clause-ended c =
    let me = c.args.self.end in
    let e = c.in-Ok.ensures in
    let line = e.headline in
    let settled = none_open (claims_of me.producer) (none_is_open _ _ _ e.stopped) in
    let all = drained _ _ _ _ _ line.left settled.0 c.drain.result
    (λ g has closed. (c.drain.ensures.whole g has closed).0)
    in
    record {
      received_is = e.hands_on.received;
      unread = rw e.stopped (record {
        ordered = line.ordered;
        rest = line.whole.unread;
        left_is = c.from.ensures ∙ rest_counts _ _ _ _ line.whole.all all;
        whole = line.whole.all;
      });
      folded = subst (λ m. ∥ IsFoldOfReceived me.conductor m ∥₁) e.hands_on.counters line.folded;
      runs = line.runs;
    }

pub returns-in-Ok-finish_without-clause-ended : goal.returns-in-Ok-finish_without-clause-ended
returns-in-Ok-finish_without-clause-ended c =
    let kept = c.in-Err.kept in
    let stopped = c.in-Err.ensures.stopped in
    let e = c.in-Ok-finish_without.ensures in
    let line = e.headline in
    let told = subst (λ (k : SeatedConductor). MatchOption (refusal_to k.conductor k.producer) (kept.reason ≡ InUse)
    (λ why. kept.reason ≡ Refused why)) (sym stopped.0) stopped.1
    in
    let left = leaves_committed _ _ _ _ _ line.rescued _
    (λ h has closed. c.from-in-Ok-finish_without.ensures ∙ (c.drain-in-Ok-finish_without.ensures.whole h has closed).0)
    in
    subst (λ (k : SeatedConductor). EndsWith k c.in-Ok-finish_without.parts.received
    c.from-in-Ok-finish_without.result) stopped.0
    (record {
      received_is = e.hands_on.received;
      unread = leaves_without _ _ _ _ _ c.in-Refused.is told left;
      folded = subst (λ m. ∥ IsFoldOfReceived kept.conductor.conductor m ∥₁) e.hands_on.counters line.folded;
      runs = line.runs;
    })
