-- Sums modulo 2^64.
use Rattle.std.specs.Prelude.{ℕ, ◌%◌, ◌^◌, ℤ, List}
use Rattle.std.specs.Int.{cast_signed, cast_unsigned, w64}
use Rattle.ring_layout.specs.Lists.{total}

-- the sum of these amounts, each as its pattern of 64 bits
abbrev pub patterns : List ℤ → ℕ
patterns amounts = total (cast_unsigned w64) amounts

-- the sum of these amounts modulo 2^64, as a pattern
abbrev pub sum_word : List ℤ → ℕ
sum_word amounts = patterns amounts % 2 ^ 64

-- the sum of these amounts modulo 2^64
abbrev pub sum_of : List ℤ → ℤ
sum_of amounts = cast_signed w64 (sum_word amounts)
