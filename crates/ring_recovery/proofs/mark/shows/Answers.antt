use Rattle.std.proofs.Common.{arith}
use Rattle.ring_table.proofs.MarkWords.{few_of}
use Rattle.ring_recovery.proofs.MarkLemmas.{few_bytes}
use Rattle.ring_recovery.proofs.mark.shows.Goals as goal

pub overflow_add-result : goal.overflow_add-result
overflow_add-result c =
    omega (arith, c.bytes_of.ensures, c.kind_of.ensures, few_bytes c.args.header, few_of c.args.header)
