use Rattle.std.proofs.Common.{◌≡◌, ◌*◌, length}
use Rattle.ring_words.proofs.BodyLemmas.{CopiesWords}
use Rattle.ring_words.proofs.words.load_body.Given as goal

abbrev pub invariant-loop-k : goal.invariant-loop-k
invariant-loop-k l = (length l.body ≡ length l.initial.body) × CopiesWords l.words l.at (8 * l.k) l.body
