use Rattle.ring_words.{specs.Ring.ring, proofs.BodyLemmas.body_is}
use Rattle.ring_words.proofs.read.head.load_at_head.Goals as goal

pub returns : goal.returns
returns c = λ claim rest has at len. body_is
    (ring c.args.capacity c.args.words.now) claim rest c.requires.ring.ring has at c.load_body.new.body len
    (rw (c.word_index.ensures, c.requires.ring.head) at c.load_body.ensures)
