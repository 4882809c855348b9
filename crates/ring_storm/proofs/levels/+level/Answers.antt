use Rattle.std.proofs.Common.{◌≡◌, ◌+◌, ◌-◌, ℕ, sym, subst, arith}
use Rattle.ring_storm.specs.{declared.promises.ClientBack.ClientBack, Storming.HasWorked, Storming.IsEndAt}
use Rattle.ring_storm.specs.declared.seats.{LevelEnd.LevelEnd, StormClient.StormClient}
use Rattle.ring_storm.proofs.levels.+level.Goals as goal
use Rattle.ring_storm.proofs.levels.+level.Goals.{in-Ok-started, in-Err}

-- of a level's end and its client
abbrev Worked : ℕ → ℕ → LevelEnd × StormClient → Type 0
Worked commands index end = HasWorked commands index end.1

-- a thread gives back the client that it was given, which has its number from the split
pub gather-requires-clause-worked : goal.gather-requires-clause-worked
gather-requires-clause-worked g t c =
    elim c.match-started.branch as
    (λ _. Worked c.args.shared.plan.commands (c.args.remaining - 1) c.match-started.end) [
      | in-Ok-started w ↦ subst (Worked c.args.shared.plan.commands (c.args.remaining - 1)) (sym w.end-is)
          (subst (λ (p : ClientBack _ _). HasWorked p.plan.commands p.index w.join.result) w.in-Ok-started.ensures.ok
          w.join.ensures.1)
      | in-Err w ↦ subst (Worked c.args.shared.plan.commands (c.args.remaining - 1)) (sym w.end-is)
          (subst (λ i. HasWorked c.args.shared.plan.commands i w.spawn_scoped_with-client.result)
          c.in-Ok.ensures.client.2
          (subst (λ f. HasWorked f.5.commands f.6.index w.spawn_scoped_with-client.result) w.in-Err.ensures.err
          w.spawn_scoped_with-client.ensures.worked))
    ]

pub returns-clause-end : goal.returns-clause-end
returns-clause-end g t c =
    let last : c.args.remaining - 1 + 1 ≡ c.args.remaining = omega (arith, c.if-remaining-eq0.false) in
    subst (λ n. IsEndAt c.args.shared n c.gather.result) last c.gather.ensures.end
