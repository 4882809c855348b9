use Rattle.ring_storm.proofs.levels.+level.Given as goal

abbrev pub decreases-level : goal.decreases-level
decreases-level g l = l.remaining
