use Rattle.std.proofs.Common.{ap, sym, subst, refl}
use Rattle.ring_layout.specs.Places.{index}
use Rattle.ring_table.specs.{SlotSteps.HasBody, SlotSteps.ReturnsSlots, Staged.slot_bytes, Views.View}
use Rattle.ring_table.proofs.{SlotCalls.slot_load, SlotCalls.holder, MarkSteps.rests_as, HomeLemmas.returns_slots}
use Rattle.ring_table.proofs.steps.slots.return_slots.Goals as goal

pub load-requires : goal.load-requires
load-requires c =
    let s = c.requires.seat in
    let t = c.requires.last in
    let l = t.last in
    slot_load s.table_is s.words_are s.key_is s.lawful _ c.args.place _ c.word_index.ensures l.place_is
    (λ _ me'. ReturnsSlots c.args.consumer.now.me me')
    (λ me' r. rests_as (r.1 l.message t.out_is) refl refl)
    (returns_slots c.args.capacity c.args.ring.now.key.start _ _ c.args.consumer.now.me s.view_is c.requires.consumes
    l.front l.message l.got l.ahead t.out_is
    (subst (λ p. HasBody (index c.args.capacity p) (slot_bytes l.message.message) c.args.consumer.now.me.1)
    (sym l.place_is) t.slots))

pub returns-clause-seat : goal.returns-clause-seat
returns-clause-seat c = let e = c.load.ensures in
    let t = c.requires.last in
    holder e.0 e.1 (ap (λ (v : View). v.capacity) (e.2.1 t.last.message t.out_is))
