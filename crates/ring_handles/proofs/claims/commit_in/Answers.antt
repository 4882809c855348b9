use Rattle.std.proofs.Common.{◌∙◌, subst, sym, w32}
use Rattle.std.proofs.lemmas.Int.{to_z-of_z}
use Rattle.ring_layout.specs.declared.message.ClaimState.TheVariants.{Committed}
use Rattle.ring_handles.specs.{Producing.SendsClaim, Producing.Settled, Side.side}
use Rattle.ring_handles.proofs.ProducerLemmas.{sends_claim, settled_is}
use Rattle.ring_handles.proofs.claims.commit_in.Goals as goal

pub returns-clause-code : goal.returns-clause-code
returns-clause-code g c = λ i. subst (Settled Committed c.args.number (side i c.args.end.now) (side i c.commit.new.self))
    (sym (to_z-of_z w32 c.code_of.result (record { sfits = c.code_of.type_inv }) ∙ c.code_of.ensures))
    (settled_is i c.args.end.now c.commit.new.self _ _ _ c.commit.ensures.does)

pub returns-clause-sent : goal.returns-clause-sent
returns-clause-sent g c =
    let p = c.args.end.now in
    let q = c.commit.new.self in
    subst (SendsClaim c.args.number p.end.view q.end.view)
    (sym (to_z-of_z w32 c.code_of.result (record { sfits = c.code_of.type_inv }) ∙ c.code_of.ensures))
    (sends_claim c.args.number p q _ c.commit.ensures.sent)
