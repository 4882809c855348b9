use Rattle.std.proofs.Common.{ap, arith, refl}
use Rattle.ring_table.specs.{Staged.AreRising, SlotSteps.ReservesBody, Views.View}
use Rattle.ring_table.proofs.{SlotCalls.slot_load_anywhere, SlotCalls.holder, OutLemmas.reserves_body}
use Rattle.ring_table.proofs.MarkSteps.{rests_as}
use Rattle.ring_table.proofs.steps.slots.reserve_body.Goals as goal

pub load-requires : goal.load-requires
load-requires c =
    let s = c.requires.seat in
    let h = c.requires.newest.1 in
    slot_load_anywhere s.table_is s.words_are s.key_is s.lawful _ 32 0 (omega arith) c.trailer_word.ensures
    (λ me'. ReservesBody c.args.producer.now.me me' × AreRising c.args.producer.now.me.0.producer.claims)
    (λ me' t. rests_as (t.0 h.others h.claim h.claims_are h.holds).0 refl refl)
    (reserves_body c.args.capacity c.args.ring.now.key.start _ _ _ c.args.producer.now.me s.view_is s.home s.none h.others
    h.claim h.claims_are h.holds)

pub returns-clause-seat : goal.returns-clause-seat
returns-clause-seat c =
    let e = c.load.ensures in
    let h = c.requires.newest.1 in
    holder e.0 e.1 (ap (λ (v : View). v.capacity) (e.2.0 h.others h.claim h.claims_are h.holds).0)
