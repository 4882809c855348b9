-- The words of counters, as they are written.
use Rattle.std.specs.Prelude.{ℕ, ◌*◌, ◌/◌, ◌%◌, List, map}
use Rattle.std.specs.List.{range_with_len}
use Rattle.ring_counters.specs.Counter.{metadata_word, value_word}
use Rattle.ring_counters.specs.Registry.{Registry, count_of, counter_at}

-- the 64 words of each metadata record
abbrev pub metadata_words : Registry → List ℕ
metadata_words r =
    map (λ i. metadata_word (counter_at r (i / 64)).metadata (i % 64)) (range_with_len 0 (64 * count_of r))

-- the 16 words of each value record
abbrev pub value_words : Registry → List ℕ
value_words r = map (λ i. value_word (counter_at r (i / 16)).values (i % 16)) (range_with_len 0 (16 * count_of r))
