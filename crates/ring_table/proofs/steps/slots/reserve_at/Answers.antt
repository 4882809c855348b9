use Rattle.std.proofs.Common.{ap, ◌∙◌, sym, refl}
use Rattle.ring_layout.specs.Places.{index}
use Rattle.ring_table.specs.{Staged.AreRising, SlotSteps.ReservesAt, Views.View}
use Rattle.ring_table.proofs.{SlotCalls.slot_load, SlotCalls.holder, MarkSteps.rests_as, OutLemmas.reserves_at}
use Rattle.ring_table.proofs.steps.slots.reserve_at.Goals as goal

pub load-requires : goal.load-requires
load-requires c =
    let s = c.requires.seat in
    let h = c.requires.claim in
    slot_load s.table_is s.words_are s.key_is s.lawful _ c.args.place _ c.word_index.ensures h.at_place
    (λ i me'. ReservesAt i c.args.producer.now.me me' × AreRising c.args.producer.now.me.0.producer.claims)
    (λ me' t. rests_as (t.0 h.nth h.claim h.there h.holds (λ x. index (s.view_is x) h.claim.place)).0 refl refl)
    (reserves_at c.args.capacity c.args.ring.now.key.start _ _ c.args.producer.now.me s.view_is s.home s.none h.nth
    h.claim h.there h.holds)

pub returns-clause-reserves : goal.returns-clause-reserves
returns-clause-reserves c = rw (sym c.word_index.ensures) c.load.ensures.2.0

pub returns-clause-seat : goal.returns-clause-seat
returns-clause-seat c =
    let e = c.load.ensures in
    let s = c.requires.seat in
    let h = c.requires.claim in
    holder e.0 e.1 (ap (λ (v : View). v.capacity) (e.2.0 h.nth h.claim h.there h.holds
    ((λ x. index (s.view_is x) (h.at_place x)) ∙ sym c.word_index.ensures)).0)
