use Rattle.std.proofs.Common.{sym, ◌∙◌}
use Rattle.ring_recovery.proofs.MarkLemmas.{bytes_above, bytes_below}
use Rattle.ring_recovery.proofs.mark.bytes_of.Goals as goal

pub returns-then-length-gt2147483648 : goal.returns-then-length-gt2147483648
returns-then-length-gt2147483648 c =
    c.align8.ensures ∙ sym (bytes_above c.args.header c.if-length-gt2147483648.true)

pub returns : goal.returns
returns c = c.align8-2.ensures ∙ sym (bytes_below c.args.header c.if-length-gt2147483648.false)
