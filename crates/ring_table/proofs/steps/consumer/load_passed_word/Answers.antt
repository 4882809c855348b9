use Rattle.ring_table.{specs.Staged.in_words, specs.ConsumerSteps.LoadsPassed, proofs.ClearLemmas.loads_passed}
use Rattle.std.proofs.Common.{◌≡◌, arith, refl}
use Rattle.std.proofs.Math.{Logic.dite, Decide.ℕ_discrete}
use Rattle.ring_table.proofs.Calls.{same_seat, record_step, leaves_words, of_as}
use Rattle.ring_table.proofs.steps.consumer.load_passed_word.Goals as goal

pub load-requires : goal.load-requires
load-requires c =
    let at = c.requires.cleared in
    record_step c.requires.seat _ c.args.cleared _ c.requires.target at (λ n. n)
    (λ _ me n me'. (me'.1 ≡ me.1) × LoadsPassed me.0 n me'.0)
    (λ n _ t _ _ _. (
      t.0,
      dite (ℕ_discrete n 0) (λ zero. leaves_words (t.1.zero zero) refl)
          (λ other. leaves_words (t.1.other other) refl),
    ))
    (loads_passed in_words c.args.capacity c.args.ring.now.key.start _ _ c.args.consumer.now.me c.requires.consumes
    (omega arith))

pub returns-clause-seat : goal.returns-clause-seat
returns-clause-seat c =
    let h = c.load.ensures in
    same_seat h.0 h.1 h.2.0 (dite (ℕ_discrete c.load.result 0)
    (λ zero. of_as (h.2.1.zero zero) refl refl) (λ other. of_as (h.2.1.other other) refl refl))
