use Rattle.std.proofs.Common.{pos, length, replicate, subst, sym}
use Rattle.ring_words.specs.Open.{ClaimAt}
use Rattle.ring_layout.specs.{declared.message.Message.Message, History.overwritten}
use Rattle.ring_rings.specs.Ring.{message}
use Rattle.ring_ends.specs.End.{HasMessage}
use Rattle.ring_uses.proofs.ClaimLemmas.{all_put}
use Rattle.ring_uses.proofs.claims.claim_filled.Goals as goal

pub returns-clause-message : goal.returns-clause-message
returns-clause-message c =
    let new = c.put.new.self in
    let body = c.args.body.now in
    let blank : Message = message (pos 1) (replicate (length body) 0) in
    let now : Message = message (pos 1) (overwritten 0 body (replicate (length body) 0)) in
    let has : HasMessage new c.in_ok-claim.claim.place now = c.in-Ok.ensures.message blank c.in_ok-claim.ensures.message in
    subst (λ l. HasMessage new c.put.new.claim.place (message (pos 1) l)) (all_put body)
    (subst (λ (t : ClaimAt). HasMessage new t.place now) (sym c.in-Ok.ensures.claim.0) has)
