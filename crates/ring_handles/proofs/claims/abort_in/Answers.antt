use Rattle.std.proofs.Common.{◌∙◌, subst, sym, w32}
use Rattle.std.proofs.lemmas.Int.{to_z-of_z}
use Rattle.ring_layout.specs.declared.message.ClaimState.TheVariants.{Aborted}
use Rattle.ring_handles.{specs.Producing.Settled, specs.Side.side, proofs.ProducerLemmas.settled_is}
use Rattle.ring_handles.proofs.claims.abort_in.Goals as goal

pub returns-clause-code : goal.returns-clause-code
returns-clause-code g c = λ i. subst (Settled Aborted c.args.number (side i c.args.end.now) (side i c.abort.new.self))
    (sym (to_z-of_z w32 c.code_of.result (record { sfits = c.code_of.type_inv }) ∙ c.code_of.ensures))
    (settled_is i c.args.end.now c.abort.new.self _ _ _ c.abort.ensures.does)
