use Rattle.std.proofs.Common.{◌≡◌, ap, inl, refl, rules, subst, take, Some}
use Rattle.ring_board.specs.{Bodies.GaveBody, Seats.len_of, Seats.place_of}
use Rattle.ring_ends.specs.BoardEnd.{DoesAt}
use Rattle.ring_handles.{specs.Boards.latest_of, specs.Boards.Watching, proofs.ReceiverLemmas.at_some}
use Rattle.ring_handles.proofs.raw.RawReceiverSide.load_body.Goals as goal

pub returns-else-buffer-len : goal.returns-else-buffer-len
returns-else-buffer-len c =
    let raw = c.in-Some.raw in
    let new = c.load_body.new.self in
    let is : latest_of c.args.self.now ≡ Some raw = search rules in
    at_some _ _ _ raw is (inl (
      refl,
      record {
        room = search rules;
        gave = (
          ap (λ (r : Watching). record r { end = new }) c.self.view_is,
          subst (λ (r : Watching). DoesAt {R = Unit {0}} (λ m _ n. GaveBody (place_of raw)
              (take (len_of raw) c.load_body.new.out) m n) r.end tt new) c.self.view_is c.load_body.ensures.does,
        );
        rest = c.load_body.ensures.rest;
      },
    ))
