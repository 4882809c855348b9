-- The part of a line or a text that has not been taken yet.
use Rattle.std.specs.Prelude.{◌≡◌, ℕ, List, ◌∷◌}
use Rattle.ring_scenario.specs.{declared.lines.Lines.Lines, declared.lines.Words.Words}
use Rattle.ring_scenario.specs.Cutting.{lines_of, words_of}

-- the lines that were not taken
abbrev pub lines_in : Lines → List (List ℕ)
lines_in lines = lines_of lines.rest.now

-- the words that were not taken
abbrev pub words_in : Words → List (List ℕ)
words_in words = words_of words.rest.now

-- some word was not taken
abbrev pub HasWord : Words → Type 0
HasWord words = (word : List ℕ) × (more : List (List ℕ)) × (words_in words ≡ word ∷ more)

-- the next word was taken, and it has this property
abbrev pub TakesWord : (List ℕ → Type 0) → Words → Words → Type 0
TakesWord Spells old new = (word : List ℕ) × (words_in old ≡ word ∷ words_in new) × Spells word
