use Rattle.std.proofs.Common.{◌∙◌, ap, w32}
use Rattle.std.proofs.lemmas.Int.{to_z-of_z}
use Rattle.ring_ends.proofs.EndLemmas.{one_ring}
use Rattle.ring_uses.specs.Numbers.{numbers}
use Rattle.ring_uses.proofs.producers.write_numbers.Goals as goal

pub returns-in-Err : goal.returns-in-Err
returns-in-Err g c = record {
  ring = one_ring c.args.producer c.loop.producer c.write.new.self c.loop.invariant.0 c.in-Err.ensures.does.0;
  sent = (
    c.loop.written,
    c.loop.invariant.1,
    c.in-Err.ensures.sent.1 ∙ c.loop.invariant.2
        ∙ ap (λ t. numbers t c.loop.written) (to_z-of_z w32 c.args.type_id c.ranges.type_id),
  );
}
