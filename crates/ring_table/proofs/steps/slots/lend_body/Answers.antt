use Rattle.std.proofs.Common.{ap, sym, refl}
use Rattle.ring_table.specs.{SlotSteps.LendsBody, Views.View}
use Rattle.ring_table.proofs.{SlotCalls.slot_load, SlotCalls.holder, MarkSteps.rests_as, OutLemmas.lends_body}
use Rattle.ring_table.proofs.steps.slots.lend_body.Goals as goal

pub load-requires : goal.load-requires
load-requires c =
    let s = c.requires.seat in
    let l = c.requires.last in
    slot_load s.table_is s.words_are s.key_is s.lawful _ c.args.place _ c.word_index.ensures l.place_is
    (λ i me'. LendsBody i c.args.consumer.now.me me')
    (λ me' t. rests_as (t l.front l.message l.got).0 refl refl)
    (lends_body c.args.capacity c.args.ring.now.key.start _ _ c.args.consumer.now.me s.view_is s.home s.none
    c.requires.consumes l.front l.message l.got l.ahead)

pub returns-clause-lends : goal.returns-clause-lends
returns-clause-lends c = rw (sym c.word_index.ensures) c.load.ensures.2

pub returns-clause-seat : goal.returns-clause-seat
returns-clause-seat c =
    let e = c.load.ensures in
    let l = c.requires.last in
    holder e.0 e.1 (ap (λ (v : View). v.capacity) (e.2 l.front l.message l.got).0)
