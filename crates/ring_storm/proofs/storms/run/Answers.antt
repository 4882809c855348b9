use Rattle.ring_storm.proofs.storms.run.Goals as goal

pub returns : goal.returns
returns g c =
    let threads = c.run_threads-endpoints.ensures in
    record {
      endpoints = c.run_threads-endpoints.result.endpoints;
      end = threads.end;
      all = threads.whole;
      headline = c.in-Ok.ensures.headline;
      hands_on = c.in-Ok.ensures.hands_on;
    }
