use Rattle.ring_table.specs.{Staged.in_words, Staged.Padded, Staged.AreRising, ProducerSteps.StoresClaimed}
use Rattle.std.proofs.Common.{◌≡◌, ℕ, ◌+◌, ◌^◌, ◌<◌, sym, ap, ◌∙◌, arith, refl}
use Rattle.std.proofs.lemmas.List.{length-replicate}
use Rattle.ring_layout.specs.Places.{index}
use Rattle.ring_table.{specs.Changes.with_header, proofs.HeaderCalls.packs_open, proofs.StoreLemmas.opens}
use Rattle.ring_table.proofs.Calls.{same_seat, record_step, after_change, of_as, leaves_words}
use Rattle.ring_table.proofs.steps.producer.store_claimed_header.Goals as goal

pub store-requires : goal.store-requires
store-requires c =
    let s = c.requires.seat in
    let h = c.requires.claim in
    let zeros = length-replicate {A = ℕ} c.args.wanted.len 0 in
    let small : 8 + c.args.wanted.len < 2 ^ 31 = omega arith in
    let value : ℕ = c.open_header-header.result in
    let value_is = packs_open value c.args.wanted.len c.args.wanted.type_id c.requires.message.type_fits
    c.open_header-header.ensures in
    record_step s _ c.args.place _ c.word_index.ensures h.at_place (λ _. value)
    (λ i me _ me'. (me'.1 ≡ me.1) × StoresClaimed i value me.0 me'.0 × AreRising me.0.producer.claims)
    (λ _ me' t _ _ _. (
      t.0,
      leaves_words (after_change Padded (λ c. c.place)
          (with_header c.args.wanted.type_id c.args.wanted.len) c.args.capacity _ c.args.place c.args.producer.now.me.0 me'.0 _ h
          s.view_is h.holds.stage (c.word_index.ensures ∙ ap (index c.args.capacity) (sym h.at_place))
          (t.1 c.args.wanted.type_id c.args.wanted.len c.requires.message.type_fits small value_is)) refl,
    ))
    (opens in_words c.args.capacity c.args.ring.now.key.start _ _ c.args.producer.now.me s.view_is h.nth h.claim
    c.args.wanted.type_id c.args.wanted.len value value_is h.there h.holds.stage
    (record { most = s.lawful.most; span_is = h.holds.same_span; lawful = c.requires.message }))

pub returns-clause-view : goal.returns-clause-view
returns-clause-view c =
    let s = c.requires.seat in
    let h = c.requires.claim in
    let zeros = length-replicate {A = ℕ} c.args.wanted.len 0 in
    let small : 8 + c.args.wanted.len < 2 ^ 31 = omega arith in
    after_change Padded (λ c. c.place)
    (with_header c.args.wanted.type_id c.args.wanted.len) c.args.capacity _ c.args.place
    c.args.producer.now.me.0 _ _ h s.view_is h.holds.stage
    (c.word_index.ensures ∙ ap (index c.args.capacity) (sym h.at_place))
    (c.store.ensures.2.1 c.args.wanted.type_id c.args.wanted.len c.requires.message.type_fits small
    (packs_open c.open_header-header.result c.args.wanted.len c.args.wanted.type_id c.requires.message.type_fits
    c.open_header-header.ensures))

pub returns-clause-seat : goal.returns-clause-seat
returns-clause-seat c =
    let h = c.store.ensures in
    same_seat h.0 h.1 h.2.0 (of_as (returns-clause-view c) refl refl)
