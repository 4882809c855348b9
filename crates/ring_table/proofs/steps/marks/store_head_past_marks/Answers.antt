use Rattle.std.proofs.Common.{◌≡◌, refl}
use Rattle.ring_table.specs.ConsumerSteps.{StoresHead}
use Rattle.ring_table.proofs.{Calls.same_seat, Calls.of_as, ClearMarks.raises_head, SlotCalls.head_step}
use Rattle.ring_table.proofs.steps.marks.store_head_past_marks.Goals as goal

pub store-requires : goal.store-requires
store-requires c =
    let s = c.requires.seat in
    head_step s.table_is s.words_are s.key_is s.lawful _ c.trailer_word.ensures c.args.head
    (λ _ me'. (me'.1 ≡ c.args.consumer.now.me.1) × StoresHead c.args.consumer.now.me.0 me'.0)
    (raises_head c.args.capacity c.args.ring.now.key.start _ _ c.args.consumer.now.me c.args.head c.requires.consumes
    s.home c.requires.scan c.requires.marked)

pub returns-clause-seat : goal.returns-clause-seat
returns-clause-seat c = let h = c.store.ensures in same_seat h.0 h.1 h.2.0 (of_as h.2.1 refl refl)
