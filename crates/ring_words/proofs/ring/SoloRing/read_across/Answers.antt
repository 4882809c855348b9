use Rattle.ring_words.proofs.ring.SoloRing.read_across.Goals as goal

pub returns-clause-claims : goal.returns-clause-claims
returns-clause-claims g c = λ t h. c.read-second.ensures.claims t (c.read-first.ensures.claims t h)
