use Rattle.std.proofs.Common.{rules, arith, ◌≡◌, ◌∙◌}
use Rattle.ring_snapshot.{specs.Marks.header_with, proofs.JoinLemmas.index_inside, proofs.MarkLemmas.shows_claim}
use Rattle.ring_snapshot.proofs.ring.mark.header_with.Goals as goal

pub bounds-slots-word_index : goal.bounds-slots-word_index
bounds-slots-word_index c =
    let below = index_inside c.args.capacity c.args.at c.requires.lawful in
    omega (arith, below, c.requires.sizes, c.word_index.ensures)

pub returns-clause-claim : goal.returns-clause-claim
returns-clause-claim c = λ claim has.
    let is : c.marked_header.result ≡ header_with c.args.capacity c.args.slots.now c.args.tail c.args.mark c.args.at =
    search rules in
    is ∙ shows_claim c.args.capacity c.args.tail c.args.slots.now c.args.at c.args.mark claim c.requires.lawful has
