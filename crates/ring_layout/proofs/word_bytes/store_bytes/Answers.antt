use Rattle.std.proofs.Common.{◌≡◌, ℕ, ◌+◌, ◌*◌, ◌-◌, ◌<◌, ◌≢◌, List, length, take, drop, slice_set, arith, get_or-set_other, get_or-set_same, below_more, ◌∙◌, get_or-take, w64}
use Rattle.std.specs.Int.{from_le_bytes}
use Rattle.ring_layout.proofs.WordBytes.{from_le_bytes-same}
use Rattle.ring_layout.proofs.word_bytes.store_bytes.Invariants.{Stored}
use Rattle.ring_layout.proofs.word_bytes.store_bytes.Goals as goal

-- one more word is stored
stored_on : (old words bytes : List ℕ) (at k word : ℕ) → at + k < length words
    → word ≡ from_le_bytes w64 (drop (8 * k) bytes) → Stored old words bytes at k
    → Stored old (slice_set words (at + k) word) bytes at (k + 1)
stored_on old words bytes at k word fits is before = record {
  inside = below_more _ _
      (λ j h. let ne : at + j ≢ at + k = omega arith in get_or-set_other words (at + k) (at + j) word 0 ne
      ∙ before.inside j h)
      (get_or-set_same words (at + k) word 0 fits ∙ is);
  below = λ i h. let ne : i ≢ at + k = omega arith in get_or-set_other words (at + k) i word 0 ne ∙ before.below i h;
  above = λ i h. let ne : i ≢ at + k = omega arith in get_or-set_other words (at + k) i word 0 ne
      ∙ before.above i (omega arith);
}

-- a word is given by its eight bytes
word_of_eight : (n : ℕ) (bytes : List ℕ) → n ≡ 8 → from_le_bytes w64 (take n bytes) ≡ from_le_bytes w64 bytes
word_of_eight n bytes is = from_le_bytes-same (take n bytes) bytes (λ i lt. get_or-take n bytes i 0 (omega arith))

pub loop-k-preserved : goal.loop-k-preserved
loop-k-preserved c =
    stored_on c.args.words.now c.loop-k.words c.args.bytes.now c.args.at c.loop-k.k c.first_word.result (omega arith)
    (c.first_word.ensures ∙ word_of_eight (8 * c.loop-k.k + 8 - 8 * c.loop-k.k) (drop (8 * c.loop-k.k) c.args.bytes.now)
    (omega arith)) c.loop-k.invariant
