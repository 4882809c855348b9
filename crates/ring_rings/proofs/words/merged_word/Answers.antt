use Rattle.std.proofs.Common.{ℕ, ◌*◌, ◌+◌, ap, ◌∙◌, arith, w64}
use Rattle.std.specs.Int.{from_le_bytes, to_le_bytes}
use Rattle.ring_layout.{specs.History.overwritten, proofs.WordBytes.overwritten_word}
use Rattle.ring_table.specs.Staged.{body_word}
use Rattle.ring_rings.proofs.MergeLemmas.{small_at, small_overwritten}
use Rattle.ring_rings.proofs.words.merged_word.Goals as goal

pub returns-clause-word : goal.returns-clause-word
unfolding body_word
returns-clause-word c nth d k has is_open same fits =
    let told = c.load_own_word.ensures.told nth d (8 * k) has is_open (omega arith) (omega arith) same in
    let small = small_at d.message.body told.1 in (
      c.put_bytes_word.ensures
          ∙ ap (λ (n : ℕ). from_le_bytes w64 (overwritten c.args.at c.args.bytes.now (to_le_bytes w64 n))) told.0
          ∙ overwritten_word d.message.body k c.args.at c.args.bytes.now small c.requires.within fits,
      λ j from to. small_overwritten (8 * k + c.args.at) c.args.bytes.now d.message.body fits
          (λ i. omega (arith, c.type_inv.bytes i)) small j,
    )
