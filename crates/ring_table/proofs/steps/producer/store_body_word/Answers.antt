use Rattle.std.proofs.Common.{◌≡◌, ◌+◌, sym, ap, ◌∙◌, arith, refl}
use Rattle.ring_layout.specs.Places.{index}
use Rattle.ring_table.specs.{Staged.AreRising, Changes.changed, Changes.with_body_word, Views.View, Views.with_claims}
use Rattle.ring_table.specs.ProducerSteps.{StoresBody}
use Rattle.ring_table.proofs.{Calls.same_seat, Calls.record_step, Calls.of_as, Calls.leaves_words, StoreBodies.puts}
use Rattle.ring_table.proofs.steps.producer.store_body_word.Goals as goal

pub store-requires : goal.store-requires
store-requires c =
    let s = c.requires.seat in
    let h = c.requires.claim in
    record_step s _ (c.args.place + 8 + c.args.at) _ c.requires.target (ap (λ p. p + 8 + c.args.at) h.at_place)
    (λ _. c.args.word)
    (λ i me _ me'. (me'.1 ≡ me.1) × StoresBody i c.args.word me.0 me'.0 × AreRising me.0.producer.claims)
    (λ _ w t _ _ _. (
      t.0,
      leaves_words (t.1 h.nth h.claim c.args.at h.there h.holds.stage h.holds.aligned h.holds.inside
          ((λ i. index (s.view_is i) (h.at_place i + 8 + c.args.at)) ∙ sym c.requires.target)) refl,
    ))
    (puts c.args.capacity c.args.ring.now.key.start _ _ c.args.producer.now.me s.view_is h.nth h.claim c.args.at
    c.args.word h.there h.holds (omega arith))

pub returns-clause-view : goal.returns-clause-view
returns-clause-view c =
    let s = c.requires.seat in
    let h = c.requires.claim in
    let v : View = c.args.producer.now.me.0 in
    c.store.ensures.2.1 h.nth h.claim c.args.at h.there h.holds.stage h.holds.aligned h.holds.inside
    ((λ i. index (s.view_is i) (h.at_place i + 8 + c.args.at)) ∙ sym c.requires.target)
    ∙ ap (λ p. with_claims (changed p (with_body_word c.args.at c.args.word) v.producer.claims) v) h.at_place

pub returns-clause-seat : goal.returns-clause-seat
returns-clause-seat c =
    let h = c.store.ensures in
    same_seat h.0 h.1 h.2.0 (of_as (returns-clause-view c) refl refl)
