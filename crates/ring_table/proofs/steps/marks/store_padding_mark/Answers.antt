use Rattle.std.proofs.Common.{◌≡◌, ℕ, ◌+◌, ◌%◌, ◌^◌, ◌<◌, sym, ap, ◌∙◌, subst, refl}
use Rattle.ring_layout.specs.Places.{index}
use Rattle.ring_table.specs.{Staged.Moved, Staged.Padded, Staged.AreRising, Changes.staged, ProducerSteps.StoresPadding}
use Rattle.ring_table.proofs.{Calls.same_seat, Calls.after_change, Calls.of_as, SettleMarks.padding_stored}
use Rattle.ring_table.proofs.SlotCalls.{mark_step}
use Rattle.ring_table.proofs.steps.marks.store_padding_mark.Goals as goal

pub store-requires : goal.store-requires
store-requires c =
    let s = c.requires.seat in
    let h = c.requires.claim in
    mark_step s.table_is s.words_are s.key_is s.lawful _ c.args.from _ c.word_index.ensures h.holds.from_is
    (λ _. (c.args.place + 1) % 2 ^ 64)
    (λ k _ me'. (me'.1 ≡ c.args.producer.now.me.1) × StoresPadding k c.args.producer.now.me.0 me'.0
    × AreRising c.args.producer.now.me.0.producer.claims)
    (padding_stored c.args.capacity c.args.ring.now.key.start _ _ c.args.producer.now.me s.view_is s.home h.nth h.claim
    ((c.args.place + 1) % 2 ^ 64) h.there h.holds.stage
    (subst (λ (z : ℕ × ℕ). z.0 < z.1) (λ i. (sym h.holds.from_is i, h.claim.place)) h.holds.some_padding)
    (λ i. (sym h.at_place i + 1) % 2 ^ 64))

pub returns-clause-view : goal.returns-clause-view
returns-clause-view c =
    let h = c.requires.claim in
    after_change Moved (λ c. c.from) (staged Padded) c.args.capacity _ c.args.place c.args.producer.now.me.0 _ _ h
    c.requires.seat.view_is h.holds.stage (c.word_index.ensures ∙ ap (index c.args.capacity) (sym h.holds.from_is))
    c.store.ensures.2.1

pub returns-clause-seat : goal.returns-clause-seat
returns-clause-seat c =
    let h = c.store.ensures in
    same_seat h.0 h.1 h.2.0 (of_as (returns-clause-view c) refl refl)
