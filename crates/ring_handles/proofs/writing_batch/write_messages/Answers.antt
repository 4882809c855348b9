use Rattle.std.proofs.Common.{rules, ◌≡◌, ◌+◌, List, [], ◌∷◌, ◌++◌, ℕ, length, arith, sym, ◌∙◌, subst, w32, to_z, of_z, get_or, ℤ}
use Rattle.std.proofs.lemmas.Int.{to_z-of_z}
use Rattle.ring_rings.specs.Claiming.{RefusesTry}
use Rattle.ring_table.specs.{RunBodies.message_of, RunBodies.messages_of, declared.runs.Outgoing.Outgoing}
use Rattle.ring_table.proofs.RunFill.{no_message}
use Rattle.ring_ends.{specs.Claiming.NumberedClaims, specs.End.sent, specs.End.End, proofs.EndLemmas.keeps_on}
use Rattle.ring_handles.specs.WritingBatch.{StopsAt}
use Rattle.ring_handles.proofs.WritingLemmas.{sent_all, sent_next, sent_on, stops_at}
use Rattle.ring_handles.proofs.writing_batch.write_messages.Goals as goal

pub returns-then-written-messages-clause-sent : goal.returns-then-written-messages-clause-sent
returns-then-written-messages-clause-sent g c =
    let os : List Outgoing = c.args.messages.now in
    let a : ℕ = c.loop-written.written in
    let n : ℕ = c.write_some-written.result in
    let p : NumberedClaims = c.args.end.now in
    let q : NumberedClaims = c.write_some-written.new.end in
    let on = sent_on os a n (sent p.end) (sent c.loop-written.end.end) (sent q.end) c.loop-written.invariant.0
    c.write_some-written.ensures.sent in
    sent_all os (a + n) (sent p.end) (sent q.end) (omega arith) on

pub returns-then-written-messages-clause-keeps : goal.returns-then-written-messages-clause-keeps
returns-then-written-messages-clause-keeps g c = keeps_on c.args.end.now c.loop-written.end c.write_some-written.new.end
    c.loop-written.invariant.2 c.write_some-written.ensures.keeps

pub loop-written-preserved : goal.loop-written-preserved
loop-written-preserved g c =
    let os : List Outgoing = c.args.messages.now in
    let a : ℕ = c.loop-written.written in
    let n : ℕ = c.write_some-written.result in
    let p : NumberedClaims = c.args.end.now in
    let was : NumberedClaims = c.loop-written.end in
    let q : NumberedClaims = c.write_some-written.new.end in
    let r : NumberedClaims = c.try_write.new.self in
    let inv = c.loop-written.invariant in
    let most = inv.1 in
    let on = sent_on os a n (sent p.end) (sent was.end) (sent q.end) inv.0 c.write_some-written.ensures.sent in
    let type_is : to_z w32 (of_z w32 (get_or os (a + n) no_message).type_id) ≡ (get_or os (a + n) no_message).type_id =
    search (rules, to_z-of_z) in
    let is : sent r.end ≡ sent q.end ++ message_of (get_or os (a + n) no_message) ∷ [] = c.in-Ok.ensures.sent.1.0
    ∙ (λ i. sent q.end ++ record { type_id = type_is i; body = (get_or os (a + n) no_message).body.now } ∷ []) in (
      sent_next os (a + n) no_message (sent p.end) (sent q.end) (sent r.end) (omega arith) on is,
      omega arith,
      keeps_on p q r (keeps_on p was q inv.2 c.write_some-written.ensures.keeps) c.in-Ok.ensures.keeps,
    )

pub returns-in-Err-clause-stops : goal.returns-in-Err-clause-stops
returns-in-Err-clause-stops g c =
    let os : List Outgoing = c.args.messages.now in
    let a : ℕ = c.loop-written.written in
    let n : ℕ = c.write_some-written.result in
    let p : NumberedClaims = c.args.end.now in
    let was : NumberedClaims = c.loop-written.end in
    let q : NumberedClaims = c.write_some-written.new.end in
    let r : NumberedClaims = c.try_write.new.self in
    let next : Outgoing = get_or os (a + n) no_message in
    let kept = keeps_on p was q c.loop-written.invariant.2 c.write_some-written.ensures.keeps in
    let on = sent_on os a n (sent p.end) (sent was.end) (sent q.end) c.loop-written.invariant.0
    c.write_some-written.ensures.sent in
    let type_is : to_z w32 (of_z w32 next.type_id) ≡ next.type_id = search (rules, to_z-of_z) in
    let same : to_z w32 (of_z w32 c.code.result) ≡ c.code.result = search (rules, to_z-of_z) in
    let typed = subst (λ (z : ℤ). RefusesTry q.end.many q.end.capacity z (length next.body.now) q.end.view
    c.in-Err.fault r.end.view) type_is c.in-Err.ensures.does.1.1 in
    let refused = subst (λ (e : End). RefusesTry e.many e.capacity next.type_id (length next.body.now) q.end.view
    c.in-Err.fault r.end.view) kept.1.0 typed in
    let stops = stops_at p.end.many p.end.capacity os (a + n) no_message c.code.result p.end.view q.end.view r.end.view
    (omega arith) on c.in-Err.ensures.sent.1.1
    (record { fault = c.in-Err.fault; code_is = c.code.ensures; refused = refused }) in
    subst (λ (z : ℤ). StopsAt p.end.many p.end.capacity (messages_of os) (a + n) z p.end.view r.end.view) (sym same) stops

pub returns-in-Err-clause-keeps : goal.returns-in-Err-clause-keeps
returns-in-Err-clause-keeps g c =
    let p : NumberedClaims = c.args.end.now in
    let q : NumberedClaims = c.write_some-written.new.end in
    keeps_on p q c.try_write.new.self
    (keeps_on p c.loop-written.end q c.loop-written.invariant.2 c.write_some-written.ensures.keeps) c.in-Err.ensures.keeps
