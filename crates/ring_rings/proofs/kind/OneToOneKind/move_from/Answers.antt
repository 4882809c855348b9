use Rattle.std.proofs.Common.{◌≡◌, false, inl, inr, subst, sym, ◌∙◌, rules}
use Rattle.std.proofs.lemmas.Result.{err_from_is_err_and}
use Rattle.ring_table.specs.declared.view.View.{View}
use Rattle.ring_rings.{specs.Making.FindsRoom, specs.Making.FindsShortage, proofs.MoveLemmas.moves_alone}
use Rattle.ring_layout.specs.Refusals.{all_shares}
use Rattle.ring_rings.proofs.{LookLemmas.looked_none, LookLemmas.refuses_short, RefusalLemmas.refusal_is}
use Rattle.ring_rings.proofs.kind.OneToOneKind.move_from.Goals as goal

pub returns-in_err-admission-clause-told : goal.returns-in_err-admission-clause-told
returns-in_err-admission-clause-told g c v told =
    let fault = c.in_err-admission.field-0.0 in
    let refused = refusal_is _ c.admit.result fault c.admit.ensures.refused c.in_err-admission.was in
    let t = err_from_is_err_and c.from_residual.result c.from_residual.ensures.1 in
    rw t.1 (rw t.2 (inr (inl record {
      no_other = c.requires.request;
      tail = c.args.tail;
      sees = told.1;
      refused = refused;
      view = told.0 ∙ looked_none v c.args.tail told.1;
    })))

pub returns-in_err-find_room-clause-told : goal.returns-in_err-find_room-clause-told
returns-in_err-find_room-clause-told g c v told =
    let a = c.in_ok-admission.admission in
    let before : View = c.args.seat.now.me.0 in
    let after : View = c.find_room.new.seat.me.0 in
    let fault = c.in_err-find_room.field-0.0 in
    let admitted = c.in_ok-admission.ensures.admitted in
    let found = subst (λ n. FindsShortage c.args.capacity n a.end fault before after) admitted.tail_is
    c.in_err-find_room.ensures.found in
    let t = err_from_is_err_and c.from_residual-in_err-find_room.result
    c.from_residual-in_err-find_room.ensures.1 in
    rw t.1 (rw t.2 (refuses_short false c.args.capacity c.args.wanted.type_id c.args.wanted.len c.args.tail
    v before after (search rules) told.1 (told.0 ∙ looked_none v c.args.tail told.1)
    (subst (λ (u : View). false ≡ false → u.producer.shares ≡ all_shares) told.0 c.requires.sole)
    a.end fault admitted.end found))

pub returns-clause-told : goal.returns-clause-told
returns-clause-told g c v told =
    moves_alone c.args.capacity c.args.tail c.args.wanted.type_id c.args.wanted.len c.in_ok-admission.admission
    v c.find_room.new.seat.me.0
    c.store_tail.new.producer.me.0 (search rules) c.in_ok-admission.ensures.admitted
    c.in_ok-admission.ensures.whole (sym told.1)
    (subst (λ (u : View). FindsRoom c.args.capacity c.in_ok-admission.admission.tail c.in_ok-admission.admission.end u
    c.find_room.new.seat.me.0) told.0 c.in_ok-find_room.ensures.found)
    c.store_tail.ensures.told
