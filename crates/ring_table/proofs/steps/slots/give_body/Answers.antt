use Rattle.std.proofs.Common.{ap, ◌∙◌, sym, subst, refl}
use Rattle.ring_layout.specs.Places.{index}
use Rattle.ring_table.specs.{Staged.AreRising, Staged.slot_bytes, SlotSteps.GivesBody, SlotSteps.HasBody, Views.View}
use Rattle.ring_table.proofs.{SlotCalls.slot_load, SlotCalls.holder, MarkSteps.rests_as, HomeLemmas.gives_it}
use Rattle.ring_table.proofs.steps.slots.give_body.Goals as goal

pub load-requires : goal.load-requires
load-requires c =
    let s = c.requires.seat in
    let t = c.requires.body.1 in
    slot_load s.table_is s.words_are s.key_is s.lawful _ c.args.place _ c.word_index.ensures t.at_place
    (λ _ me'. GivesBody c.args.producer.now.me me' × AreRising c.args.producer.now.me.0.producer.claims)
    (λ me' r. rests_as (r.0.1 t.message _ c.requires.body.0 t.out_is t.same_length t.bytes t.slots) refl refl)
    (gives_it c.args.capacity c.args.ring.now.key.start _ _ c.args.producer.now.me s.view_is t.nth t.claim t.message
    c.requires.body.0 t.there t.stage t.out_is (t.at_place ∙ sym t.at) (t.type_is, t.long) (t.same_length ∙ sym t.long) t.bytes
    (subst (λ p. HasBody (index c.args.capacity p) (slot_bytes (record {
      type_id = t.message.message.type_id;
      body = c.requires.body.0;
    })) c.args.producer.now.me.1) (sym t.at_place)
    t.slots))

pub returns-clause-seat : goal.returns-clause-seat
returns-clause-seat c =
    let e = c.load.ensures in
    let t = c.requires.body.1 in
    holder e.0 e.1 (ap (λ (v : View). v.capacity) (e.2.0.1 t.message _ c.requires.body.0 t.out_is t.same_length t.bytes
    t.slots))
