use Rattle.ring_bench.proofs.task.time.Given as goal

abbrev pub invariant-loop-number : goal.invariant-loop-number
invariant-loop-number g l = g.T.Task.is_ready l.task
