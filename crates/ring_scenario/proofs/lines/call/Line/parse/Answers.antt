use Rattle.ring_scenario.proofs.lines.call.Line.parse.Goals as goal

pub returns-in-Err-clause-bad : goal.returns-in-Err-clause-bad
returns-in-Err-clause-bad c = λ has_memory. c.in-Err.ensures.bad (λ none. has_memory (c.in_text.ensures.1 none))
