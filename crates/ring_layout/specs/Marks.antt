-- The kinds of marks. The word at the index of a position is a mark if it is greater than the position: the end of what
-- begins there, which is a multiple of 8, plus its kind.
use Rattle.std.specs.Prelude.{ℕ}

abbrev pub committed_kind : ℕ
committed_kind = 0

abbrev pub padding_kind : ℕ
padding_kind = 1

abbrev pub open_kind : ℕ
open_kind = 2

abbrev pub aborted_kind : ℕ
aborted_kind = 3
