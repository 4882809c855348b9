use Rattle.std.proofs.Common.{◌≡◌, refl}
use Rattle.ring_table.specs.Marks.{SplitsAtLast}
use Rattle.ring_table.proofs.{Calls.same_seat, Calls.of_as, SplitMarks.splits_at_last, SlotCalls.mark_step}
use Rattle.ring_table.proofs.steps.marks.split_at_last.Goals as goal

pub store-requires : goal.store-requires
store-requires c =
    let s = c.requires.seat in
    let l = c.requires.last in
    mark_step s.table_is s.words_are s.key_is s.lawful _ c.args.place _ c.word_index.ensures refl (λ _. c.args.end)
    (λ _ _ me'. (me'.1 ≡ c.args.consumer.now.me.1) × SplitsAtLast c.args.consumer.now.me.0 me'.0)
    (splits_at_last c.args.capacity c.args.ring.now.key.start _ _ c.args.consumer.now.me c.args.place c.args.end l.front
    l.message c.requires.consumes s.home l.got l.place_is l.ahead c.requires.run c.requires.inside)

pub returns-clause-seat : goal.returns-clause-seat
returns-clause-seat c =
    let h = c.store.ensures in
    let l = c.requires.last in
    same_seat h.0 h.1 h.2.0 (of_as (h.2.1 l.front l.message l.got) refl refl)
