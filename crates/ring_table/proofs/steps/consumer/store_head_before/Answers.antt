use Rattle.std.proofs.Common.{◌≡◌, arith, refl}
use Rattle.ring_table.specs.{Staged.in_words, ConsumerSteps.StoresHeadBefore}
use Rattle.ring_table.proofs.Calls.{same_seat, trailer_step, leaves_words, of_as}
use Rattle.ring_table.proofs.ClearLemmas.{stores_head_before}
use Rattle.ring_table.proofs.steps.consumer.store_head_before.Goals as goal

pub store-requires : goal.store-requires
store-requires c =
    let l = c.requires.last in
    trailer_step in_words c.requires.seat _ 48 (omega arith) c.trailer_word.ensures (λ _. c.args.head)
    (λ _ me _ me'. (me'.1 ≡ me.1) × StoresHeadBefore me.0 me'.0)
    (λ _ _ t s r at. (t.0, leaves_words (t.1 l.front l.last l.got) refl))
    (stores_head_before in_words c.args.capacity c.args.ring.now.key.start _ _ c.args.consumer.now.me c.args.head l.front
    l.last c.requires.consumes l.got l.place c.requires.cleared)

pub returns-clause-seat : goal.returns-clause-seat
returns-clause-seat c =
    let h = c.store.ensures in
    let l = c.requires.last in
    same_seat h.0 h.1 h.2.0 (of_as (h.2.1 l.front l.last l.got) refl refl)
