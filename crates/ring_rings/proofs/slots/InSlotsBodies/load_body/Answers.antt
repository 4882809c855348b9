use Rattle.std.proofs.Common.{ℕ, ◌+◌, ◌/◌, List, length, refl, sym, ap, ◌∙◌, arith}
use Rattle.ring_layout.proofs.CapacityLemmas.{capacity_blocks}
use Rattle.ring_table.specs.declared.view.View.{View}
use Rattle.ring_rings.proofs.ReadingCopies.{copies_all}
use Rattle.ring_rings.proofs.slots.InSlotsBodies.load_body.Goals as goal

pub read_slots-requires-clause-last : goal.read_slots-requires-clause-last
read_slots-requires-clause-last c =
    let l = c.requires.last in
    let at = l.at in (
      record {
        front = l.got.0;
        message = l.message;
        got = l.got.1;
        place_is = l.at;
        ahead = omega arith;
      },
      l.len_is,
    )

pub read_slots-requires-clause-room : goal.read_slots-requires-clause-room
read_slots-requires-clause-room c =
    let blocks = capacity_blocks c.args.capacity c.requires.seat.seat.lawful in
    let few = c.requires.body.few in
    let room = c.requires.room in
    (omega arith, omega arith)

pub returns-clause-rest : goal.returns-clause-rest
returns-clause-rest c =
    let l = c.requires.last in
    let view = c.read_slots.ensures.view l.message l.got.0 l.got.1 in
    view ∙ ap (λ (z : List (ℕ × ℕ)). record c.args.seat.now.me.0 { log = z }) (sym (ap (λ (z : View). z.log) view))

pub returns-clause-copies : goal.returns-clause-copies
returns-clause-copies c = λ m last at len.
    copies_all c.args.capacity m ((length m.message.body + 7) / 8) c.args.seat.now.me.0 c.read_slots.new.consumer.me.0
    c.read_slots.new.scratch refl (omega arith)
    (record {
      view = c.read_slots.ensures.view m last.0 last.1;
      bytes = λ i _ inside. c.read_slots.ensures.copies m last.0 last.1 last.2 i inside;
    })
