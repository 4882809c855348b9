use Rattle.std.proofs.Common.{rules, ◌≡◌, ◌+◌, ◌≤◌, ℕ, List, [], ◌∷◌, All, FitsSigned, ap, take, get_or, length, subst, sym, ◌∙◌, arith, take_all, w32, None}
use Rattle.std.proofs.lemmas.List.{take_more, Elements.All-append, Elements.All-cons, Elements.All-nil}
use Rattle.std.proofs.lemmas.Int.{to_z-of_z}
use Rattle.ring_table.{specs.RunBodies.IsSendable, specs.declared.runs.Outgoing.Outgoing, proofs.RunFill.no_message}
use Rattle.ring_rings.specs.Claiming.{request_refusal_of}
use Rattle.ring_rings.proofs.{BatchLemmas.batch_on, BatchLemmas.sendable, RefusalLemmas.admission_is}
use Rattle.ring_rings.proofs.producer.batch.test_batch.Goals as goal

pub loop-message-preserved : goal.loop-message-preserved
loop-message-preserved c =
    let C : ℕ = c.args.capacity in
    let os : List Outgoing = c.args.messages.now in
    let i : ℕ = c.loop-message.message-index in
    let it : Outgoing = get_or os i no_message in
    let inv = c.loop-message.invariant in
    let fits : FitsSigned w32 it.type_id = search rules in
    let none : request_refusal_of C it.type_id (length it.body.now) ≡ None =
    ap (λ t. request_refusal_of C t (length it.body.now)) (sym (to_z-of_z w32 it.type_id fits))
    ∙ admission_is _ _ _ c.test_request.ensures c.in_ok-test_request.was in
    let this : IsSendable C it = sendable C it.type_id (length it.body.now) fits none in (
      subst (All (IsSendable C)) (sym (take_more os i no_message c.loop-message-test.true))
          (All-append (IsSendable C) (take i os) (it ∷ []) inv.0 (All-cons (IsSendable C) it [] this (All-nil (IsSendable C)))),
      inv.1 ∙ batch_on C os i c.loop-message-test.true none,
    )

pub returns-clause-sendable : goal.returns-clause-sendable
returns-clause-sendable c =
    let os : List Outgoing = c.args.messages.now in
    let i : ℕ = c.loop-message.message-index in
    let past : length os ≤ i = omega arith in
    subst (All (IsSendable c.args.capacity)) (take_all i os past) c.loop-message.invariant.0
