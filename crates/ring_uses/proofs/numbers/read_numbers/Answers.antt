use Rattle.std.proofs.Common.{◌∙◌, length, length-append, ap, sym, arith}
use Rattle.ring_ends.{specs.End.received, proofs.EndLemmas.one_ring}
use Rattle.ring_uses.{proofs.SumLemmas.sums, specs.Numbers.sum_of}
use Rattle.ring_uses.proofs.numbers.read_numbers.Goals as goal

pub loop-preserved-then-end-eq0 : goal.loop-preserved-then-end-eq0
loop-preserved-then-end-eq0 g c =
    let r = c.read-end.ensures.received in
    let le = c.loop.invariant.1 in
    let more = ap length r.more ∙ length-append (received c.loop.consumer) r.messages in
    let counted = r.counted in
    let sum = c.saturating_add-count.ensures in
    let from = c.from.ensures in (
      one_ring c.args.consumer c.loop.consumer c.read-end.new.self c.loop.invariant.0 c.read-end.ensures.does.0,
      omega (arith, more, counted, sum, from, le),
      sums c.loop.sum c.read-end.new.handler (received c.loop.consumer) r.messages r.actions r.handled c.loop.invariant.2
          ∙ sym (ap sum_of r.more),
    )

pub loop-preserved : goal.loop-preserved
loop-preserved g c =
    let r = c.read-end.ensures.received in
    let le = c.loop.invariant.1 in
    let more = ap length r.more ∙ length-append (received c.loop.consumer) r.messages in
    let counted = r.counted in
    let sum = c.saturating_add-count.ensures in
    let from = c.from.ensures in (
      one_ring c.args.consumer c.loop.consumer c.read-end.new.self c.loop.invariant.0 c.read-end.ensures.does.0,
      omega (arith, more, counted, sum, from, le),
      sums c.loop.sum c.read-end.new.handler (received c.loop.consumer) r.messages r.actions r.handled c.loop.invariant.2
          ∙ sym (ap sum_of r.more),
    )
