use Rattle.std.proofs.Common.{ℕ, List, sym, ap, ◌∙◌, arith}
use Rattle.ring_table.specs.declared.view.View.{View}
use Rattle.ring_rings.proofs.slots.InSlotsBodies.skip_body.Goals as goal

pub skip_slots-requires-clause-last : goal.skip_slots-requires-clause-last
skip_slots-requires-clause-last c =
    let l = c.requires.last in
    let at = l.at in
    record {
      front = l.got.0;
      message = l.message;
      got = l.got.1;
      place_is = l.at;
      ahead = omega arith;
    }

pub returns-clause-rest : goal.returns-clause-rest
returns-clause-rest c =
    let l = c.requires.last in
    let view = c.skip_slots.ensures.view l.message l.got.0 l.got.1 in
    view ∙ ap (λ (z : List (ℕ × ℕ)). record c.args.seat.now.me.0 { log = z }) (sym (ap (λ (z : View). z.log) view))

pub returns-clause-loads : goal.returns-clause-loads
returns-clause-loads c = λ m last at len. c.skip_slots.ensures.view m last.0 last.1
