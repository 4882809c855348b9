use Rattle.std.proofs.Common.{◌≡◌, ℕ, ◌+◌, ◌/◌, length, subst, arith}
use Rattle.ring_rings.specs.ReadingSteps.{LoadsWords}
use Rattle.ring_rings.proofs.words.InWordsBodies.skip_body.Goals as goal

pub returns-clause-loads : goal.returns-clause-loads
returns-clause-loads c = λ m last at len.
    let all : c.loop-k.k ≡ (length m.message.body + 7) / 8 =
    omega (arith, c.loop-k-test.false, c.div_ceil-count.ensures, c.loop-k.auto.k-end, len) in
    subst (λ (n : ℕ). LoadsWords c.args.capacity m n c.args.seat.now.me.0 c.loop-k.seat.me.0) all
    (c.loop-k.invariant.loaded m last at len)
