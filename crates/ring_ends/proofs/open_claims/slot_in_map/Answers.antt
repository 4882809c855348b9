use Rattle.std.proofs.Common.{◌≡◌, ◌∙◌, None, Some, subst, sym}
use Rattle.ring_ends.{specs.Claims.LacksAt, proofs.SlotLemmas.first_lack}
use Rattle.ring_ends.proofs.open_claims.slot_in_map.Goals as goal

pub returns-in-None : goal.returns-in-None
returns-in-None c = first_lack c.args.slots.now c.args.map.now c.args.noted c.args.number c.requires None
    (sym c.in-None.ensures.value) (λ i is. absurd cc)

pub returns-else-has_number : goal.returns-else-has_number
returns-else-has_number c =
    let index = c.in-Some.field-0.now in
    let off : LacksAt c.args.number c.args.slots.now index = sym c.has_number.ensures ∙ c.if-has_number.false in
    first_lack c.args.slots.now c.args.map.now c.args.noted c.args.number c.requires (Some index)
    (sym c.in-Some.ensures.value)
    (λ i is. let same : index ≡ i = cc in subst (LacksAt c.args.number c.args.slots.now) same off)
