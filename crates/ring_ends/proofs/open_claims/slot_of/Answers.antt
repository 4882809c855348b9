use Rattle.std.proofs.Common.{ℕ, ◌≤◌}
use Rattle.ring_rings.specs.Holding.{in_slots}
use Rattle.ring_ends.specs.Claims.{IsNoNumber, IsSlotOf, LacksAt}
use Rattle.ring_ends.proofs.SlotLemmas.{found_or_missing, slot_missing}
use Rattle.ring_ends.proofs.open_claims.slot_of.Goals as goal

pub returns-in-None : goal.returns-in-None
returns-in-None c =
    let number = c.args.number in
    let slots = c.args.slots.now in
    found_or_missing ((i : ℕ) → c.args.noted ≤ i → LacksAt number slots i) (IsNoNumber number (in_slots slots))
    (IsSlotOf number slots) c.slot_in_rest.result (slot_missing number slots c.args.noted c.in-None.ensures)
    c.slot_in_rest.ensures
