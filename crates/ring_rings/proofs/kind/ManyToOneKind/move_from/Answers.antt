use Rattle.std.proofs.Common.{true, ap, inl, inr, subst, sym, ◌∙◌, rules}
use Rattle.std.proofs.lemmas.Result.{err_from_is_err_and}
use Rattle.ring_table.specs.declared.view.View.{View}
use Rattle.ring_rings.specs.Making.{FindsRoom, FindsShortage}
use Rattle.ring_rings.proofs.{LookLemmas.contended, LookLemmas.refuses_short, RefusalLemmas.refusal_is}
use Rattle.ring_rings.proofs.kind.ManyToOneKind.move_from.Goals as goal

pub returns-in_err-admission-clause-told : goal.returns-in_err-admission-clause-told
returns-in_err-admission-clause-told g c v told =
    let fault = c.in_err-admission.field-0.0 in
    let refused = refusal_is _ c.admit.result fault c.admit.ensures.refused c.in_err-admission.was in
    let t = err_from_is_err_and c.from_residual.result c.from_residual.ensures.1 in
    rw t.1 (rw t.2 (inr (inl record {
      no_other = c.requires.request;
      tail = c.args.tail;
      sees = told.later;
      refused = refused;
      view = told.view;
    })))

pub returns-in_err-find_room-clause-told : goal.returns-in_err-find_room-clause-told
returns-in_err-find_room-clause-told g c v told =
    let a = c.in_ok-admission.admission in
    let before : View = c.args.seat.now.me.0 in
    let after : View = c.find_room.new.seat.me.0 in
    let fault = c.in_err-find_room.field-0.0 in
    let admitted = c.in_ok-admission.ensures.admitted in
    let found = subst (λ n. FindsShortage c.args.capacity n a.end fault before after) admitted.tail_is
    c.in_err-find_room.ensures.found in
    let t = err_from_is_err_and c.from_residual-in_err-find_room.result
    c.from_residual-in_err-find_room.ensures.1 in
    rw t.1 (rw t.2 (refuses_short true c.args.capacity c.args.wanted.type_id c.args.wanted.len c.args.tail
    v before after (search rules) told.later told.view
    (λ one. ap (λ (u : View). u.producer.shares) (sym told.view) ∙ c.requires.sole one)
    a.end fault admitted.end found))

pub returns-then-seen-tail-clause-told : goal.returns-then-seen-tail-clause-told
returns-then-seen-tail-clause-told g c v told =
    let a = c.in_ok-admission.admission in
    let before : View = c.args.seat.now.me.0 in
    let after : View = c.find_room.new.seat.me.0 in
    let admitted = c.in_ok-admission.ensures.admitted in
    contended c.args.capacity c.args.wanted.type_id c.args.wanted.len c.args.tail v
    before after
    (search rules) told a.end a.end c.move_tail-seen.result c.args.wanted
    c.move_tail-seen.new.producer.me.0
    admitted.end (subst (λ t. FindsRoom c.args.capacity t a.end before after) admitted.tail_is
    c.in_ok-find_room.ensures.found)
    c.move_tail-seen.ensures.told c.if-seen-tail.true
