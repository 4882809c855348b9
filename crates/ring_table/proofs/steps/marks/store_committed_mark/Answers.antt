use Rattle.std.proofs.Common.{◌≡◌, ◌+◌, ◌%◌, ◌^◌, ◌∙◌, sym, refl}
use Rattle.ring_layout.specs.{Marks.committed_kind, declared.message.ClaimState.TheVariants.Committed, History.span}
use Rattle.ring_table.{specs.Staged.AreRising, specs.ProducerSteps.StoresSettled, proofs.SlotCalls.mark_step}
use Rattle.ring_table.proofs.{Calls.same_seat, Calls.settled_view, Calls.of_as, SettleMarks.settled_mark}
use Rattle.ring_table.proofs.steps.marks.store_committed_mark.Goals as goal

pub store-requires : goal.store-requires
store-requires c =
    let s = c.requires.seat in
    let h = c.requires.claim in
    mark_step s.table_is s.words_are s.key_is s.lawful _ c.args.place _ c.word_index.ensures h.at_place
    (λ _. c.record_mark-mark.result)
    (λ k _ me'. (me'.1 ≡ c.args.producer.now.me.1) × StoresSettled Committed k c.args.producer.now.me.0 me'.0
    × AreRising c.args.producer.now.me.0.producer.claims)
    (settled_mark c.args.capacity c.args.ring.now.key.start Committed _ _ c.args.producer.now.me s.view_is s.home h.nth h.claim
    c.record_mark-mark.result h.there h.holds.stage s.lawful.most
    (c.record_mark-mark.ensures ∙ λ i. (sym h.at_place i + (span (sym h.holds.len_is i) + committed_kind)) % 2 ^ 64))

pub returns-clause-view : goal.returns-clause-view
returns-clause-view c =
    settled_view c.requires.seat Committed c.requires.claim c.word_index.ensures _ c.store.ensures.2.1

pub returns-clause-seat : goal.returns-clause-seat
returns-clause-seat c =
    let h = c.store.ensures in
    same_seat h.0 h.1 h.2.0 (of_as (returns-clause-view c) refl refl)
