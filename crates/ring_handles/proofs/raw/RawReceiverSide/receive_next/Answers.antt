use Rattle.std.proofs.Common.{refl, rules, subst, of_z, to_z, w32, Err, Ok, Option, Some}
use Rattle.ring_board.specs.declared.board.RawRecord.{RawRecord}
use Rattle.ring_ends.specs.BoardEnd.{ReturnsOne}
use Rattle.ring_handles.{specs.Boards.seen, specs.Boards.Watching, proofs.ReceiverLemmas.returns_out}
use Rattle.ring_handles.specs.contracts.raw.RawReceiverSide.{the_view}
use Rattle.ring_handles.proofs.raw.RawReceiverSide.receive_next.Goals as goal

pub returns-in-Ok-Some-clause-copied : goal.returns-in-Ok-Some-clause-copied
returns-in-Ok-Some-clause-copied c =
    let raw = c.in-Ok-Some.raw in
    let before = seen c.args.type_id.now c.args.len.now c.args.lapped.now in
    let found = subst (λ (r : Watching). ReturnsOne r.end (Ok c.in-Ok-Some.field-0) c.receive_next.new.self)
    c.self.view_is c.in-Ok-Some.ensures.copied in
    let got = subst (λ (o : Option RawRecord). ReturnsOne c.args.self.now.end (Ok o) c.receive_next.new.self)
    c.in-Ok-Some.field-0-is found in
    let after = seen (to_z w32 (of_z w32 c.type_id.result)) c.len.result c.args.lapped.now in
    returns_out before after c.args.self.now (the_view record {
      end = c.receive_next.new.self;
      identity = c.self.inside.identity;
      latest = Some raw;
      lap = c.self.inside.lap;
    }) _ (Ok (Some raw)) refl (search rules) got

pub returns-in-Err-clause-does : goal.returns-in-Err-clause-does
returns-in-Err-clause-does c = (Err c.in-Err.missed, refl, refl, search rules, search rules)
