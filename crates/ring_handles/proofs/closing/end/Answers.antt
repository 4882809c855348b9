use Rattle.std.proofs.Common.{◌∙◌}
use Rattle.ring_table.proofs.LawLemmas.{none_open}
use Rattle.ring_rings.specs.Seats.{claims_of}
use Rattle.ring_service.proofs.FinishLemmas.{drained}
use Rattle.ring_handles.proofs.EndingLemmas.{none_is_open, rest_counts}
use Rattle.ring_handles.proofs.closing.end.Goals as goal

pub returns : goal.returns
returns g c =
    let out = c.in-Ok.ensures.rest in
    let cs = claims_of c.args.producer in
    let settled = none_open cs (none_is_open _ _ _ c.requires.ready) in
    let all = drained _ _ _ _ _ out settled.0 c.drain.result (λ g has closed. (c.drain.ensures.whole g has closed).0)
    in
    let whole = c.in-Ok.ensures.whole in
    record {
      left =
          record {
            ordered = out.ordered;
            rest = whole.unread;
            left_is = c.from.ensures ∙ rest_counts _ _ _ _ whole.all all;
            whole = whole.all;
          };
    }
