use Rattle.std.proofs.Common.{◌≡◌, map, take}
use Rattle.ring_scenario.specs.Words.{letter_of}
use Rattle.ring_scenario.proofs.lines.actions_of.Given as goal

abbrev pub invariant-loop-letter : goal.invariant-loop-letter
invariant-loop-letter l = map letter_of l.actions.items ≡ take l.letter-index l.letters
