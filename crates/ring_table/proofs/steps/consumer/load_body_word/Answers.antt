use Rattle.std.proofs.Common.{◌≡◌, refl, subst}
use Rattle.ring_table.{specs.Views.logged, specs.ConsumerSteps.LoadsBody, proofs.ConsumeLemmas.loads_body}
use Rattle.ring_table.proofs.Calls.{same_seat, record_step, leaves_words, of_as}
use Rattle.ring_table.proofs.steps.consumer.load_body_word.Goals as goal

pub load-requires : goal.load-requires
load-requires c = record_step c.requires.seat _ c.args.position _ c.requires.target refl (λ n. n)
    (λ i me n me'. (me'.1 ≡ me.1) × (me'.0 ≡ logged i n me.0) × LoadsBody i me.0 n)
    (λ _ _ t _ _ _. (t.0, leaves_words t.1 refl))
    (loads_body c.args.capacity c.args.ring.now.key.start _ _ _ c.args.consumer.now.me c.requires.seat.view_is
    c.requires.consumes)

pub returns-clause-told : goal.returns-clause-told
returns-clause-told c =
    subst (λ i. LoadsBody i c.args.consumer.now.me.0 c.load.result) c.requires.target c.load.ensures.2.2

pub returns-clause-seat : goal.returns-clause-seat
returns-clause-seat c = let h = c.load.ensures in same_seat h.0 h.1 h.2.0 (of_as h.2.1 refl refl)
