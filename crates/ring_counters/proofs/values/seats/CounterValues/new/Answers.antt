use Rattle.std.proofs.Common.{◌∙◌, ℕ, List, [], ◌∷◌, true, sym, subst}
use Rattle.ring_layout.specs.Refusals.{all_shares}
use Rattle.ring_counters.{specs.Views.values_view, specs.ValuesRule.ValuesRule, proofs.ValueSteps.begins}
use Rattle.ring_counters.proofs.values.seats.CounterValues.new.Goals as goal

pub of_words-requires : goal.of_words-requires
of_words-requires c =
    let P : List ℕ → Type 0 = λ words. ValuesRule c.args.count words (values_view true all_shares [] [] [] ∷ []) in
    subst P (sym (c.deref.ensures.value ∙ c.in_ok-words.ensures.items_if_clones_equal (λ y e. e))) (begins c.args.count)
