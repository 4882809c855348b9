use Rattle.std.proofs.Common.{◌≡◌, ◌∙◌, None, List, Option, Some, ap, slice_index_or, slice_set, subst, sym}
use Rattle.std.proofs.lemmas.List.{get_or_default}
use Rattle.ring_words.specs.Open.{ClaimAt}
use Rattle.ring_rings.specs.Holding.{AreApart}
use Rattle.ring_ends.specs.{Claims.claims_in, Claims.IsSlotOf, Claims.TakesFrom, Slots.ClaimSlots}
use Rattle.ring_ends.proofs.SlotLemmas.{takes_from}
use Rattle.ring_ends.proofs.open_claims.OpenClaims.take.Goals as goal

pub returns : goal.returns
returns c =
    let slots = c.self.inside.slots.items in
    let i = c.in-Some.index in
    let t = c.in-Some-take.kept in
    let found : IsSlotOf c.args.number slots i =
    subst (λ l. IsSlotOf c.args.number l i) c.deref.ensures.value c.in-Some.ensures in
    let was = c.index_mut.result.now in
    let there : slice_index_or slots i None ≡ Some t =
    get_or_default slots i None was found.inside ∙ sym c.index_mut.ensures.value ∙ sym c.take.ensures.value
    ∙ c.in-Some-take.is in
    let apart = subst (λ (v : ClaimSlots). AreApart (claims_in v)) (sym c.self.view_is) c.requires in
    let taken : TakesFrom c.args.number i t slots (slice_set slots i c.take.new.self) =
    subst (λ (o : Option ClaimAt). TakesFrom c.args.number i t slots (slice_set slots i o)) (sym c.take.ensures.after)
    (takes_from c.args.number slots i t found there apart) in
    let claim : TakesFrom c.args.number i c.into_claim.result slots (slice_set slots i c.take.new.self) =
    subst (λ (u : ClaimAt). TakesFrom c.args.number i u slots (slice_set slots i c.take.new.self))
    (sym c.into_claim.ensures) taken in
    subst (λ (l : List (Option ClaimAt)).
    TakesFrom c.args.number i c.into_claim.result l (slice_set slots i c.take.new.self))
    (ap (λ (v : ClaimSlots). v.slots) c.self.view_is) claim
