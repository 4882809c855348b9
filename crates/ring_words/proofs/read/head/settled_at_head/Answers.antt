use Rattle.std.proofs.Common.{rules, ◌≡◌, pos, FitsSigned, to_z, of_z, ◌∙◌, w32}
use Rattle.std.proofs.lemmas.Int.{to_z-of_z}
use Rattle.ring_words.specs.Ring.{Ring, ring}
use Rattle.ring_words.proofs.HeadLemmas.{sees_some, sees_blocked, len_at, type_at, signed_above, signed_not_above}
use Rattle.ring_words.proofs.read.head.settled_at_head.Goals as goal

pub returns-then-len-gt0 : goal.returns-then-len-gt0
returns-then-len-gt0 c = λ h has.
    let r : Ring = ring c.args.capacity c.args.words.now in
    let fits : FitsSigned w32 c.unpack_header-len.result.0 = search rules in
    let type_fits : FitsSigned w32 c.unpack_header-len.result.1 = search rules in
    let len : to_z w32 (of_z w32 c.unpack_header-len.result.0) ≡ len_at r =
    to_z-of_z w32 c.unpack_header-len.result.0 fits
    ∙ rw (c.word_index.ensures, c.requires.head) at c.unpack_header-len.ensures.len in
    let type_id : to_z w32 (of_z w32 c.unpack_header-len.result.1) ≡ type_at r =
    to_z-of_z w32 c.unpack_header-len.result.1 type_fits
    ∙ rw (c.word_index.ensures, c.requires.head) at c.unpack_header-len.ensures.type_id in
    let above = signed_above (pos 0) (len_at r) (rw len at c.if-len-gt0.true) in
    rw (len, type_id) (sees_some r h c.requires.ring has above)

pub returns-else-len-gt0 : goal.returns-else-len-gt0
returns-else-len-gt0 c = λ h has.
    let r : Ring = ring c.args.capacity c.args.words.now in
    let fits : FitsSigned w32 c.unpack_header-len.result.0 = search rules in
    let len : to_z w32 (of_z w32 c.unpack_header-len.result.0) ≡ len_at r =
    to_z-of_z w32 c.unpack_header-len.result.0 fits
    ∙ rw (c.word_index.ensures, c.requires.head) at c.unpack_header-len.ensures.len in
    sees_blocked r h c.requires.ring has (signed_not_above (pos 0) (len_at r) (rw len at c.if-len-gt0.false))
