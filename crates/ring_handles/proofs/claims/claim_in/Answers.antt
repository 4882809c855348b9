use Rattle.std.proofs.Common.{inl, refl, w32}
use Rattle.std.proofs.lemmas.Int.{to_z-of_z}
use Rattle.ring_handles.proofs.ProducerLemmas.{side_is}
use Rattle.ring_handles.proofs.claims.claim_in.Goals as goal

pub returns-in-Ok-clause-code : goal.returns-in-Ok-clause-code
returns-in-Ok-clause-code g c = λ i.
    let made = rw (to_z-of_z w32 c.args.type_id c.ranges.type_id) at c.in-Ok.ensures.does in
    inl (
      refl,
      record {
        claim = made.claim;
        made = made.does.1;
        side = side_is i c.args.end.now c.claim.new.self _ made.does.0 made.kept;
        number_is = made.number;
      },
    )
