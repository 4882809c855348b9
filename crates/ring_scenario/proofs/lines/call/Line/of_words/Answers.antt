use Rattle.std.proofs.Common.{◌≡◌, ◌∷◌, rules, subst}
use Rattle.std.proofs.lemmas.Result.{err_from_is_err_and}
use Rattle.ring_scenario.specs.{Asking.AsksFor, Cutting.words_of, Forms.spelled, Taking.words_in}
use Rattle.ring_scenario.proofs.NameLemmas.{no_call, no_name}
use Rattle.ring_scenario.proofs.lines.call.Line.of_words.Goals as goal

pub returns-in_default-of-clause-bad : goal.returns-in_default-of-clause-bad
returns-in_default-of-clause-bad c =
    let words : words_of c.args.text.now ≡ c.in-Some.word.now ∷ words_in c.next_word.new.self = search rules in
    λ _ call asks. no_name c.in-Some.word.now _ c.in_default-of.ensures call (subst (AsksFor call) words asks)

pub returns-in_err-parse-clause-bad : goal.returns-in_err-parse-clause-bad
returns-in_err-parse-clause-bad c =
    let word : spelled c.in-Some-of.name ≡ c.in-Some.word.now = c.in-Some-of.ensures in
    let words : words_of c.args.text.now ≡ spelled c.in-Some-of.name ∷ words_in c.next_word.new.self = search rules in
    let exit = err_from_is_err_and c.from_residual-in_err-parse.result c.from_residual-in_err-parse.ensures.1 in
    rw (exit.1, exit.2) (λ has_memory call asks. no_call c.in-Some-of.name _ (c.in_err-parse.ensures.bad has_memory) call
    (subst (AsksFor call) words asks))
