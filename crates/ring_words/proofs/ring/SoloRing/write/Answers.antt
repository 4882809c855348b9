use Rattle.std.proofs.Common.{ℕ, List, arith, sym, subst, w32}
use Rattle.std.proofs.lemmas.{Int.to_z-of_z, List.with_items_is}
use Rattle.ring_words.specs.{Ring.Ring, Ring.ring, Change.AppendsClaim, Change.written}
use Rattle.ring_words.proofs.OpenLemmas.{appended_keeps}
use Rattle.ring_words.proofs.ring.SoloRing.write.Goals as goal

pub returns-clause-claimed : goal.returns-clause-claimed
returns-clause-claimed c =
    let C : ℕ = c.self.inside.capacity in
    let w = written c.args.type_id c.args.body.now in
    let stored = with_items_is c.self.inside.words c.append_message.new.words
    (omega (arith, c.append_message.auto.words, c.deref_mut.ensures.len)) in
    let claims = rw (to_z-of_z w32 c.args.type_id c.ranges.type_id, c.deref_mut.ensures.value) at
    c.append_message.ensures.claimed in
    let now = subst (λ (r : Ring). AppendsClaim r w (ring C c.append_message.new.words)) c.self.view_is claims in
    subst (λ (ws : List ℕ). AppendsClaim c.args.self.now w (ring C ws)) (sym stored) now

pub returns-clause-claims : goal.returns-clause-claims
returns-clause-claims c =
    λ t o. appended_keeps c.args.self.now _ (written c.args.type_id c.args.body.now) (returns-clause-claimed c) t o
