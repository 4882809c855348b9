use Rattle.std.proofs.Common.{refl}
use Rattle.ring_scenario.proofs.runner.Runner.request.Goals as goal

pub returns-clause-line : goal.returns-clause-line
returns-clause-line c = record {
  sent = c.in-Some.sent;
  fits = c.in-Some.ensures.fits.0 refl;
  written = c.in-Some.ensures.sent;
  refused = c.in-Some.ensures.refused;
  rest = c.request.ensures.rest;
  prints = c.in_ok-identified.ensures;
}
