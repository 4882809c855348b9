-- A ring as it is made.
use Rattle.std.specs.Prelude.{ℕ, slice_set, replicate}
use Rattle.ring_words.specs.Ring.{Ring, ring}
use Rattle.ring_layout.specs.Layout.{tail_index, head_cache_index, head_index, ring_words}

-- tail, head cache and head at the start, 0 in every other word
abbrev pub fresh : ℕ → ℕ → Ring
fresh C start =
    ring C (slice_set (slice_set (slice_set (replicate (ring_words C) 0) (tail_index C) start)
    (head_cache_index C) start) (head_index C) start)
