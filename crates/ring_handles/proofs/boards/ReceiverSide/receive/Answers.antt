use Rattle.std.proofs.Common.{inr, refl, rules, subst, Err, Ok, Option, Some}
use Rattle.ring_ends.specs.{BoardEnd.CopiesInto, BoardEnd.DoesAt, BoardEnd.Hears, declared.receiver.Heard.Heard}
use Rattle.ring_handles.{specs.Boards.heard_out, specs.Boards.Listening, proofs.ReceiverLemmas.copies_out}
use Rattle.ring_handles.specs.contracts.boards.ReceiverSide.{the_view}
use Rattle.ring_handles.proofs.boards.ReceiverSide.receive.Goals as goal

pub returns-in-Ok-Some-clause-copied : goal.returns-in-Ok-Some-clause-copied
returns-in-Ok-Some-clause-copied c =
    let h = c.in-Ok-Some.heard in
    let before = heard_out c.args.type_id.now c.args.len.now c.args.lapped.now c.args.buffer.now in
    let found = subst (λ (r : Listening). CopiesInto c.args.buffer.now c.receive.new.buffer r.end
    (Ok c.in-Ok-Some.field-0) c.receive.new.self.end) c.self.view_is c.in-Ok-Some.ensures.copied in
    let got = subst (λ (o : Option Heard). CopiesInto c.args.buffer.now c.receive.new.buffer c.args.self.now.end (Ok o)
    c.receive.new.self.end) c.in-Ok-Some.field-0-is found in
    copies_out before (heard_out _ _ c.args.lapped.now c.receive.new.buffer) c.args.self.now
    (the_view record { end = c.receive.new.self; identity = c.self.inside.identity; lap = c.self.inside.lap }) _
    (Ok (Some h)) refl (search rules) got

pub returns-in-Err-clause-does : goal.returns-in-Err-clause-does
returns-in-Err-clause-does c =
    let does = subst (λ (r : Listening). DoesAt (Hears c.args.buffer.now c.receive.new.buffer) r.end
    (Err c.in-Err.missed) c.receive.new.self.end) c.self.view_is c.in-Err.ensures.does in
    inr (search rules, (Err c.in-Err.missed, refl, refl, search rules, does))
