use Rattle.std.proofs.Common.{rules}
use Rattle.ring_service.proofs.finishing.finish.Goals as goal

pub returns-clause-headline : goal.returns-clause-headline
returns-clause-headline g c = record {
  ordered = search rules;
  whole = c.in-Ok.ensures.whole;
  left = c.in-Ok.ensures.rest;
  runs = search rules;
  folded = search rules;
}
