use Rattle.std.proofs.Common.{rules, ◌≡◌, ◌+◌, ◌-◌, ◌*◌, ◌/◌, ◌%◌, ◌≤◌, arith, ap, ◌∙◌}
use Rattle.ring_snapshot.{specs.RingRecords.tail_in, specs.RingRecords.listing, proofs.ListingLemmas.exact}
use Rattle.ring_snapshot.proofs.ring.RingSnapshot.records_from.Goals as goal

pub returns-clause-listed : goal.returns-clause-listed
returns-clause-listed c =
    let ring = c.args.self.now in
    let from = c.args.position in
    c.new.ensures ∙ ap (λ t. listing ring.capacity ring.words.now t ((t - from) / 8) from) c.tail-tail.ensures

pub returns-clause-exact : goal.returns-clause-exact
returns-clause-exact c = λ h lie.
    let ring = c.args.self.now in
    let from = c.args.position in
    let aligned : from % 8 ≡ 0 = search rules in
    let whole : c.tail-tail.result % 8 ≡ 0 = search rules in
    let below : from ≤ c.tail-tail.result = search rules in
    let is = c.tail-tail.ensures in
    let room : tail_in ring ≤ from + 8 * ((tail_in ring - from) / 8) = omega (arith, aligned, whole, below, is) in
    returns-clause-listed c
    ∙ exact ring.capacity ring.words.now (tail_in ring) ring.lawful h ((tail_in ring - from) / 8) from aligned room lie
