use Rattle.std.proofs.Common.{◌≡◌, List, ◌∷◌, ap, ◌∙◌, subst}
use Rattle.ring_words.specs.{Ring.Ring, Ring.ring, Ring.Has, Reading.SeesCommitted}
use Rattle.ring_layout.specs.declared.message.Claim.{Claim}
use Rattle.ring_words.proofs.ring.SoloRing.show.Goals as goal

pub returns-clause-shown : goal.returns-clause-shown
returns-clause-shown g c =
    let is : ring c.self.inside.capacity c.deref.result.now ≡ c.args.self.now =
    ap (ring c.self.inside.capacity) c.deref.ensures.value ∙ c.self.view_is in
    let e = c.show_at_head.ensures.shown in (
      e.0,
      (c.show_at_head.result, e.1, c.heard.ensures),
      subst (λ (r : Ring). (claim : Claim) (rest : List Claim) → Has r (claim ∷ rest)
          → SeesCommitted r claim c.args.settled → claim.message ≡ e.0) is e.2,
    )
