use Rattle.ring_table.specs.Staged.{in_words, Moved, Padded, AreRising, padding_word}
use Rattle.std.proofs.Common.{◌≡◌, ℕ, ◌-◌, ◌<◌, sym, ap, ◌∙◌, subst, refl}
use Rattle.ring_layout.specs.Places.{index}
use Rattle.ring_table.specs.{Changes.staged, Views.View, ProducerSteps.StoresPadding}
use Rattle.ring_table.proofs.Calls.{same_seat, record_step, after_change, leaves_words, of_as}
use Rattle.ring_table.proofs.StoreLemmas.{pads}
use Rattle.ring_table.proofs.steps.producer.store_padding_word.Goals as goal

pub store-requires : goal.store-requires
store-requires c =
    let padded_view = λ (w : View) (told : StoresPadding c.word_index.result c.args.producer.now.me.0 w).
    (let h = c.requires.claim in
    after_change Moved (λ c. c.from) (staged Padded) c.args.capacity _ c.args.place c.args.producer.now.me.0 w _ h
    c.requires.seat.view_is h.holds.stage (c.word_index.ensures ∙ ap (index c.args.capacity) (sym h.holds.from_is)) told) in
    let s = c.requires.seat in
    let h = c.requires.claim in
    let value : ℕ = c.padding_header-header.result in
    record_step s _ c.args.from _ c.word_index.ensures h.holds.from_is (λ _. value)
    (λ i me _ me'. (me'.1 ≡ me.1) × StoresPadding i me.0 me'.0 × AreRising me.0.producer.claims)
    (λ _ me' t _ _ _. (
      t.0,
      leaves_words (padded_view me'.0 t.1) refl,
    ))
    (pads in_words c.args.capacity c.args.ring.now.key.start _ _ c.args.producer.now.me s.view_is h.nth h.claim value h.there
    h.holds.stage
    (subst (λ (z : ℕ × ℕ). z.0 < z.1) (λ i. (sym h.holds.from_is i, h.claim.place)) h.holds.some_padding)
    (c.padding_header-header.ensures ∙ λ i. padding_word in_words (sym h.at_place i - sym h.holds.from_is i)))

pub returns-clause-view : goal.returns-clause-view
returns-clause-view c =
    let h = c.requires.claim in
    after_change Moved (λ c. c.from) (staged Padded) c.args.capacity _ c.args.place c.args.producer.now.me.0 _ _ h
    c.requires.seat.view_is h.holds.stage (c.word_index.ensures ∙ ap (index c.args.capacity) (sym h.holds.from_is))
    c.store.ensures.2.1

pub returns-clause-seat : goal.returns-clause-seat
returns-clause-seat c =
    let h = c.store.ensures in
    same_seat h.0 h.1 h.2.0 (of_as (returns-clause-view c) refl refl)
