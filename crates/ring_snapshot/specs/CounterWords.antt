-- The number of words of counters.
use Rattle.std.specs.Prelude.{◌≡◌, ℕ, ◌*◌, ◌^◌, ◌<◌, ◌≤◌, List, length}

-- there are this many metadata records of 64 words, and this many value records of 16 words
pub record HaveIds (metadata values : List ℕ) (n : ℕ) : Type 0 where
  pub some : 0 < n
  pub most : n ≤ 2 ^ 24
  pub metadata_words : length metadata ≡ 64 * n
  pub value_words : length values ≡ 16 * n
