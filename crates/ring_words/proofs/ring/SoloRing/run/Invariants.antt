use Rattle.std.proofs.Common.{◌-◌, ◌≡◌, ◌+◌, ◌≤◌}
use Rattle.ring_layout.specs.Places.{room}
use Rattle.ring_words.{specs.Controlled.heeded, specs.Ring.head_of, proofs.ReadLemmas.ReadsOn}
use Rattle.ring_words.proofs.ring.SoloRing.run.Given as goal

-- what was read so far
abbrev pub invariant-turns : goal.invariant-turns
invariant-turns g l = ReadsOn (heeded l.heeds g.H.Handler.step) l.limit l.initial.self l.self
    l.initial.handler l.handler l.messages
    × (l.start ≡ head_of l.initial.self) × (l.messages ≤ l.limit) × g.H.Handler.ready l.handler
    × (l.head ≡ head_of l.self)

-- the bytes to the end of the buffer
abbrev pub decreases-turns : goal.decreases-turns
decreases-turns g l = head_of l.initial.self + room l.initial.self.capacity (head_of l.initial.self) - head_of l.self
