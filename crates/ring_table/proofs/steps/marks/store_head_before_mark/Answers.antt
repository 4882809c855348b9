use Rattle.std.proofs.Common.{◌≡◌, refl}
use Rattle.ring_table.specs.ConsumerSteps.{StoresHeadBefore}
use Rattle.ring_table.proofs.{Calls.same_seat, Calls.of_as, ClearMarks.raises_head_before, SlotCalls.head_step}
use Rattle.ring_table.proofs.steps.marks.store_head_before_mark.Goals as goal

pub store-requires : goal.store-requires
store-requires c =
    let s = c.requires.seat in
    let l = c.requires.last in
    head_step s.table_is s.words_are s.key_is s.lawful _ c.trailer_word.ensures c.args.head
    (λ _ me'. (me'.1 ≡ c.args.consumer.now.me.1) × StoresHeadBefore c.args.consumer.now.me.0 me'.0)
    (raises_head_before c.args.capacity c.args.ring.now.key.start _ _ c.args.consumer.now.me c.args.head l.front l.last
    c.requires.consumes s.home l.got l.place c.requires.passed.0 c.requires.passed.1 c.requires.marked)

pub returns-clause-seat : goal.returns-clause-seat
returns-clause-seat c =
    let h = c.store.ensures in
    let l = c.requires.last in
    same_seat h.0 h.1 h.2.0 (of_as (h.2.1 l.front l.last l.got) refl refl)
