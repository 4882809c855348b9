use Rattle.ring_table.{specs.Staged.in_words, specs.ConsumerSteps.ClearsWord, proofs.ClearLemmas.clears_word}
use Rattle.std.proofs.Common.{◌≡◌, arith, refl}
use Rattle.ring_table.proofs.Calls.{same_seat, record_step, leaves_words, of_as}
use Rattle.ring_table.proofs.steps.consumer.clear_word.Goals as goal

pub store-requires : goal.store-requires
store-requires c =
    let at = c.requires.cleared in
    record_step c.requires.seat _ c.args.cleared _ c.requires.target at (λ _. 0)
    (λ _ me _ me'. (me'.1 ≡ me.1) × ClearsWord me.0 me'.0)
    (λ _ _ t _ _ _. (t.0, leaves_words t.1 refl))
    (clears_word in_words c.args.capacity c.args.ring.now.key.start _ _ c.args.consumer.now.me c.requires.consumes (omega arith))

pub returns-clause-seat : goal.returns-clause-seat
returns-clause-seat c = let h = c.store.ensures in same_seat h.0 h.1 h.2.0 (of_as h.2.1 refl refl)
