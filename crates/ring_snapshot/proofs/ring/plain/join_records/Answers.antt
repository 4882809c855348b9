use Rattle.std.proofs.Common.{rules, ◌≡◌, ◌≢◌, ℕ, ◌-◌, ◌/◌, ◌<◌, sym, ◌∙◌}
use Rattle.ring_snapshot.proofs.JoinLemmas.{joined_stops}
use Rattle.ring_snapshot.proofs.ring.plain.join_records.Goals as goal

pub returns-then-bytes-eq0-clause-joined : goal.returns-then-bytes-eq0-clause-joined
returns-then-bytes-eq0-clause-joined c =
    let loop = c.loop-k in
    let left : ℕ = (c.args.tail - c.args.head) / 8 - loop._k in
    let more : left ≢ 0 = search rules in
    let below : loop.at < c.args.tail = search rules in
    let none : c.join_record-bytes.result ≡ 0 = search rules in
    sym (joined_stops c.args.capacity c.args.slots.now c.args.tail left loop.run loop.at c.mark_at-mark.result
    c.join_record-bytes.result loop.words c.join_record-bytes.new.words more below c.mark_at-mark.ensures none
    (c.join_record-bytes.ensures.span, c.join_record-bytes.ensures.words))
    ∙ loop.invariant.rest
