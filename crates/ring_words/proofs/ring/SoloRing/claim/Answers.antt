use Rattle.std.proofs.Common.{rules, ◌≡◌, ◌∙◌, ℕ, List, arith, ap, sym, subst, w32}
use Rattle.std.proofs.lemmas.{Int.to_z-of_z, List.with_items_is}
use Rattle.ring_words.specs.{Ring.Ring, Ring.ring, Ring.IsRing, Change.AppendsClaim, Change.opened}
use Rattle.ring_words.specs.Open.{ClaimAt, fresh_claim}
use Rattle.ring_words.proofs.OpenLemmas.{appended_keeps, appended_is_open, appended_apart}
use Rattle.ring_words.proofs.ring.SoloRing.claim.Goals as goal

pub returns-clause-claimed : goal.returns-clause-claimed
returns-clause-claimed c =
    let C : ℕ = c.self.inside.capacity in
    let w = opened c.args.type_id c.args.len in
    let stored = with_items_is c.self.inside.words c.append_claim.new.words
    (omega (arith, c.append_claim.auto.words, c.deref_mut.ensures.len)) in
    let claims = rw (to_z-of_z w32 c.args.type_id c.ranges.type_id, c.deref_mut.ensures.value) at
    c.append_claim.ensures.claimed in
    let now = subst (λ (r : Ring). AppendsClaim r w (ring C c.append_claim.new.words)) c.self.view_is claims in
    subst (λ (ws : List ℕ). AppendsClaim c.args.self.now w (ring C ws)) (sym stored) now

pub returns-clause-claims : goal.returns-clause-claims
returns-clause-claims c =
    λ t o. appended_keeps c.args.self.now _ (opened c.args.type_id c.args.len) (returns-clause-claimed c) t o

pub returns-clause-is_open : goal.returns-clause-is_open
returns-clause-is_open c =
    let is : c.new_claim.result ≡ fresh_claim c.args.self.now c.args.type_id c.args.len = search rules in
    let ok = subst (λ (r : Ring). IsRing r) c.self.view_is c.self.invariant.0 in
    let there = appended_is_open c.args.self.now _ c.args.type_id c.args.len ok (returns-clause-claimed c) in
    rw is there

pub returns-clause-apart : goal.returns-clause-apart
returns-clause-apart c = λ t o e.
    let is : c.new_claim.result ≡ fresh_claim c.args.self.now c.args.type_id c.args.len = search rules in
    appended_apart c.args.self.now c.args.type_id c.args.len t o (e ∙ ap (λ (x : ClaimAt). x.place) is)
