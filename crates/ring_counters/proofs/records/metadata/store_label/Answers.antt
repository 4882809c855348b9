use Rattle.std.proofs.Common.{◌≡◌, ℕ, zero, suc, ◌+◌, ◌*◌, ◌%◌, ◌^◌, ◌<◌, ◌∙◌, ap, arith, bit_or, length, slice_index, get_or-set_same, w64, length-drop}
use Rattle.std.{specs.Int.from_le_bytes, proofs.lemmas.List.take_rest, proofs.lemmas.Nat.or_shifted}
use Rattle.ring_layout.specs.Bytes.{word_of_bytes}
use Rattle.ring_counters.specs.Counter.{label_text}
use Rattle.ring_counters.proofs.RecordLemmas.{AreSmall, first_of_text, rest_of_text}
use Rattle.ring_counters.proofs.records.metadata.store_label.Goals as goal

pub returns-clause-inside : goal.returns-clause-inside
unfolding AreSmall
returns-clause-inside c = shown
  where
    shown : (k : ℕ) → 8 * k < length c.args.label.now + 4
        → slice_index c.store_bytes.new.words (c.args.at + k) ≡ word_of_bytes (label_text c.args.label.now) k
    shown zero h =
        let n : ℕ = length c.args.label.now in
        let high : ℕ = c.first_word.result % 2 ^ 32 in
        let shifted : c.first_word.result * 2 ^ 32 % 2 ^ 64 ≡ high * 2 ^ 32 = omega arith in
        let whole : bit_or (high * 2 ^ 32) n ≡ high * 2 ^ 32 + n = or_shifted high 32 n (omega arith) in
        (let at : c.args.at + 0 ≡ c.args.at = omega arith in ap (slice_index c.store_bytes.new.words) at)
        ∙ c.store_bytes.ensures.below c.args.at (omega arith)
        ∙ get_or-set_same c.args.words.now c.args.at _ 0 (omega arith)
        ∙ ap (λ w. bit_or w n) shifted ∙ whole
        ∙ (let sum : high * 2 ^ 32 + n ≡ from_le_bytes w64 c.args.label.now * 2 ^ 32 % 2 ^ 64 + n =
        omega (arith, c.first_word.ensures) in sum)
        ∙ first_of_text c.args.label.now c.requires.short (λ i. (c.type_inv.label i).fits)
    shown (suc k) h =
        (let at : c.args.at + suc k ≡ c.args.at + 1 + k = omega arith in ap (slice_index c.store_bytes.new.words) at)
        ∙ c.store_bytes.ensures.inside k (omega (arith, length-drop c.min.result c.args.label.now, c.min.ensures))
        ∙ ap (λ l. word_of_bytes l k) (take_rest c.args.label.now c.min.result)
        ∙ rest_of_text c.args.label.now c.requires.short _ k c.min.ensures
