use Rattle.std.proofs.Common.{take}
use Rattle.std.specs.Io.KnownBytes.{Appends}
use Rattle.ring_board.specs.Records.{bytes_of}
use Rattle.ring_snapshot.proofs.write.write_words.Given as goal

-- the words below the index are written
abbrev pub invariant-loop-index : goal.invariant-loop-index
invariant-loop-index g l = Appends (g.W.Write.contents l.initial.out) (g.W.Write.contents l.out)
    (bytes_of (take l.index (g.S.Words.words l.source)))
