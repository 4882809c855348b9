use Rattle.std.proofs.Common.{◌∙◌, subst, sym, w32}
use Rattle.std.proofs.lemmas.Int.{to_z-of_z}
use Rattle.ring_handles.{specs.Producing.Put, specs.Side.side, proofs.ProducerLemmas.put_is}
use Rattle.ring_handles.proofs.claims.put_in.Goals as goal

pub returns-clause-code : goal.returns-clause-code
returns-clause-code g c = λ i. subst (Put c.args.number c.args.offset c.args.bytes.now (side i c.args.end.now) (side i c.put.new.self))
    (sym (to_z-of_z w32 c.code_of.result (record { sfits = c.code_of.type_inv }) ∙ c.code_of.ensures))
    (put_is i c.args.end.now c.put.new.self _ _ _ _ c.put.ensures.does)
