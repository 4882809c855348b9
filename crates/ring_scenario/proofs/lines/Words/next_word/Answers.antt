use Rattle.std.proofs.Common.{rules, drop, sym, ◌∙◌, ℕ}
use Rattle.std.proofs.lemmas.List.{take_rest}
use Rattle.ring_scenario.proofs.CuttingLemmas.{words_of-none, words_of-next}
use Rattle.ring_scenario.proofs.lines.Words.next_word.Goals as goal

pub returns-in_err-start : goal.returns-in_err-start
returns-in_err-start c = rw c.from_residual.ensures
    (words_of-none c.args.self.now.rest.now (sym c.index_of_other.ensures ∙ c.in_err-start.was))

pub returns : goal.returns
returns c =
    let line = c.args.self.now.rest.now in
    let start : ℕ = c.in_ok-start.start in
    let text = take_rest line start in
    let end : ℕ = c.unwrap_or-end.result in
    rw text (rw (take_rest (drop start line) end)
    (words_of-next line start end (sym c.index_of_other.ensures ∙ c.in_ok-start.was)
    (search (rules, text))))
