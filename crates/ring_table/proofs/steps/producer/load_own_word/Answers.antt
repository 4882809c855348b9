use Rattle.std.proofs.Common.{◌≡◌, refl, subst}
use Rattle.ring_table.specs.{Staged.AreRising, Views.logged, ProducerSteps.LoadsOwn}
use Rattle.ring_table.proofs.{Calls.same_seat, Calls.record_step, Calls.leaves_words, Calls.of_as, LoadLemmas.loads_own}
use Rattle.ring_table.proofs.steps.producer.load_own_word.Goals as goal

pub load-requires : goal.load-requires
load-requires c = record_step c.requires _ c.args.position _ c.word_index.ensures refl (λ n. n)
    (λ i me n me'. (me'.1 ≡ me.1) × (me'.0 ≡ logged i n me.0) × LoadsOwn i me.0 n × AreRising me.0.producer.claims)
    (λ _ _ t _ _ _. (t.0, leaves_words t.1 refl))
    (loads_own c.args.capacity c.args.ring.now.key.start _ _ _ c.args.producer.now.me c.requires.view_is)

pub returns-clause-told : goal.returns-clause-told
returns-clause-told c =
    subst (λ i. LoadsOwn i c.args.producer.now.me.0 c.load.result) c.word_index.ensures c.load.ensures.2.2

pub returns-clause-seat : goal.returns-clause-seat
returns-clause-seat c = let h = c.load.ensures in same_seat h.0 h.1 h.2.0 (of_as h.2.1 refl refl)
