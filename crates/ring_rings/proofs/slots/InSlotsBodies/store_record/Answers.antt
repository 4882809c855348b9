use Rattle.std.proofs.Common.{List, ap, ◌∙◌, arith}
use Rattle.ring_table.specs.{declared.claim.StagedClaim.StagedClaim, Changes.recorded, Views.with_claims}
use Rattle.ring_rings.proofs.NewestLemmas.{changes_last}
use Rattle.ring_rings.proofs.slots.InSlotsBodies.store_record.Goals as goal

pub write_slots-requires-clause-newest : goal.write_slots-requires-clause-newest
write_slots-requires-clause-newest c = let h = c.requires.last in record {
  others = h.others;
  claim = h.claim;
  claims_are = h.is.last.claims;
  at_place = h.is.last.place_is;
  holds = record { stage = h.is.stage; same_span = h.is.same_span };
}

pub returns-clause-stored : goal.returns-clause-stored
returns-clause-stored c cs d is =
    c.write_slots.ensures.view
    ∙ ap (λ (l : List StagedClaim). with_claims l c.args.seat.now.me.0)
    (changes_last c.args.seat.now.me.0 cs d is.last.claims c.args.place is.last.place_is c.args.place is.last.behind
    (omega arith) (recorded c.args.wanted.type_id c.args.body.now))
