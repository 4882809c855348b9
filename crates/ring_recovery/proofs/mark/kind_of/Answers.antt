use Rattle.std.proofs.Common.{sym}
use Rattle.ring_table.proofs.MarkWords.{kind_aborted, kind_committed, kind_open, kind_padding}
use Rattle.ring_recovery.proofs.mark.kind_of.Goals as goal

pub returns-then-header-gt2147483648 : goal.returns-then-header-gt2147483648
returns-then-header-gt2147483648 c = sym (kind_open c.args.header c.if-header-gt2147483648.true)

pub returns-then-type_bits-eq4294967294 : goal.returns-then-type_bits-eq4294967294
returns-then-type_bits-eq4294967294 c =
    sym (kind_padding c.args.header c.if-header-gt2147483648.false c.if-type_bits-eq4294967294.true)

pub returns-then-type_bits-eq4294967295 : goal.returns-then-type_bits-eq4294967295
returns-then-type_bits-eq4294967295 c =
    sym (kind_aborted c.args.header c.if-header-gt2147483648.false c.if-type_bits-eq4294967295.true)

pub returns-else-type_bits-eq4294967295 : goal.returns-else-type_bits-eq4294967295
returns-else-type_bits-eq4294967295 c = sym (kind_committed c.args.header c.if-header-gt2147483648.false
    c.if-type_bits-eq4294967294.false c.if-type_bits-eq4294967295.false)
