use Rattle.std.proofs.Common.{ℕ, ◌-◌, ◌%◌, negsuc, sym, ap, ◌∙◌, w32}
use Rattle.std.proofs.lemmas.Int.{to_z_pos}
use Rattle.ring_layout.specs.Headers.{header}
use Rattle.ring_table.proofs.DecodeLemmas.{decoded_none, kind_is_aborted, kind_is_committed, kind_is_other, kind_is_padding}
use Rattle.ring_table.proofs.decode.decode_mark.Goals as goal

pub returns-then-mark-at : goal.returns-then-mark-at
returns-then-mark-at c = sym (decoded_none c.args.at c.args.mark c.args.slot c.if-mark-at.true)

pub returns-then-kind-eq-COMMITTED_KIND : goal.returns-then-kind-eq-COMMITTED_KIND
returns-then-kind-eq-COMMITTED_KIND c =
    sym (kind_is_committed c.args.at c.args.mark c.args.slot c.if-mark-at.false c.if-kind-eq-COMMITTED_KIND.true)

pub returns-then-kind-eq-PADDING_KIND : goal.returns-then-kind-eq-PADDING_KIND
returns-then-kind-eq-PADDING_KIND c =
    let n : ℕ = c.args.mark - c.args.mark % 8 - c.args.at in
    let may = c.requires c.if-mark-at.false in
    c.pack_header.ensures ∙ ap (λ z. header z (negsuc 1)) (to_z_pos w32 n may.1)
    ∙ sym (kind_is_padding c.args.at c.args.mark c.args.slot c.if-mark-at.false c.if-kind-eq-PADDING_KIND.true)

pub returns-then-kind-eq-ABORTED_KIND : goal.returns-then-kind-eq-ABORTED_KIND
returns-then-kind-eq-ABORTED_KIND c =
    sym (kind_is_aborted c.args.at c.args.mark c.args.slot c.if-mark-at.false c.if-kind-eq-ABORTED_KIND.true)

pub returns : goal.returns
returns c = c.open_header.ensures ∙ sym (kind_is_other c.args.at c.args.mark c.args.slot c.if-mark-at.false
    c.if-kind-eq-COMMITTED_KIND.false c.if-kind-eq-PADDING_KIND.false c.if-kind-eq-ABORTED_KIND.false)
