use Rattle.std.proofs.Common.{◌∙◌, inl, inr, refl, sym, w32}
use Rattle.std.proofs.lemmas.Int.{to_z-of_z}
use Rattle.ring_handles.proofs.ProducerLemmas.{refused_code, side_is}
use Rattle.ring_handles.proofs.claims.write_in.Goals as goal

pub returns-in-Ok-clause-code : goal.returns-in-Ok-clause-code
returns-in-Ok-clause-code g c = λ i.
    let does = rw (to_z-of_z w32 c.args.type_id c.ranges.type_id) at c.in-Ok.ensures.does in
    record {
      side = side_is i c.args.end.now c.try_write.new.self _ does.1.0 does.0;
      written = inl (refl, does.1.1);
    }

pub returns-in-Err-clause-code : goal.returns-in-Err-clause-code
returns-in-Err-clause-code g c = λ i.
    let does = rw (to_z-of_z w32 c.args.type_id c.ranges.type_id) at c.in-Err.ensures.does in
    record {
      side = side_is i c.args.end.now c.try_write.new.self _ does.1.0 does.0;
      written = inr (record { fault = c.in-Err.fault; code_is = to_z-of_z w32 c.code.result (record { sfits = c.code.type_inv }) ∙ c.code.ensures; refused = does.1.1 });
    }

pub returns-in-Ok-clause-sent : goal.returns-in-Ok-clause-sent
returns-in-Ok-clause-sent g c =
    let sends = rw (to_z-of_z w32 c.args.type_id c.ranges.type_id) at c.in-Ok.ensures.sent in inl (refl, sends.1.0)

pub returns-in-Err-clause-sent : goal.returns-in-Err-clause-sent
returns-in-Err-clause-sent g c =
    let is = to_z-of_z w32 c.code.result (record { sfits = c.code.type_inv }) ∙ c.code.ensures in
    inr (λ done. refused_code c.in-Err.fault (sym is ∙ done), c.in-Err.ensures.sent.1.1)
