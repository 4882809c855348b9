use Rattle.ring_rings_tests.proofs.rings.joining.JoinsWithClaimsOnShared.holds.Goals as goal

pub commit-requires-clause-claim : goal.commit-requires-clause-claim
commit-requires-clause-claim g c =
    c.join.ensures.keeps.second c.claimed-second.result c.claimed-second.ensures.opened.is_open

pub abort-requires-clause-claim : goal.abort-requires-clause-claim
abort-requires-clause-claim g c =
    let first = c.claimed-first.result in
    let second = c.claimed-second.result in
    let mine = c.claimed-first.ensures.opened.is_open in
    c.commit.ensures.others.claims first (c.join.ensures.keeps.first first mine)
    (c.join.ensures.keeps.apart first second mine c.claimed-second.ensures.opened.is_open)
