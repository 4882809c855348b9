use Rattle.std.proofs.Common.{◌++◌, ◌∷◌, [], List, ℕ, get_or, sym, ◌∙◌, ap}
use Rattle.ring_judge.specs.{declared.broadcast.BroadcastLine.TheVariants.Transmitted, Broadcast.transmitted_in}
use Rattle.ring_judge.proofs.PlaceLemmas.{transmitted_more}
use Rattle.ring_judge.proofs.broadcast.sent.bodies_of.Goals as goal

pub loop-line-preserved : goal.loop-line-preserved
loop-line-preserved c = let k = c.loop-line.line-index in let run = c.args.run.now in
    c.in_ok-append_body.ensures
    ∙ (ap (λ (l : List ℕ). l ++ transmitted_in (get_or run k (Transmitted 0) ∷ [])) c.loop-line.invariant
    ∙ sym (transmitted_more run k (Transmitted 0) c.loop-line-test.true))
