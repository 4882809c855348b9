use Rattle.std.proofs.Common.{List, ap, sym, arith}
use Rattle.ring_table.specs.{declared.claim.PlacedMessage.PlacedMessage, declared.view.Run.Run, Views.with_run}
use Rattle.ring_rings.specs.{ReadingSteps.FindsOne, ReadingSteps.IsAt, Seats.seat_view}
use Rattle.ring_words.specs.{Controlled.heard, declared.read.action.Action.TheVariants.Continue}
use Rattle.ring_rings.proofs.ReadingFinds.{at_in_run}
use Rattle.ring_rings.proofs.ReadingShown.{found_body, found_few, found_here, found_last, found_type, shown_run, shows_one}
use Rattle.ring_rings.proofs.ring.Ring.turn.Given.{Over}
use Rattle.ring_rings.proofs.ring.Ring.turn.Goals.{In-Message}
use Rattle.ring_rings.proofs.ring.Ring.turn.Goals as goal

-- what was found
found : (g : Over) (c : In-Message g) (got : List PlacedMessage) (run : Run)
    → IsAt c.args.scan got (with_run run (seat_view c.args.consumer.now))
    → FindsOne c.args.self.now.capacity c.args.scan got
    (with_run c.find-found.new.run (seat_view c.args.consumer.now)) c.in-Message.type_id c.in-Message.len
    c.find-found.new.seat.me.0
found g c got run at =
    c.in-Message.ensures.finds got (record { first = at.first; later = at.later })

-- the same of what the read had got
found_now : (g : Over) (c : In-Message g) → FindsOne c.args.self.now.capacity c.args.scan c.requires.near.come.0
    (with_run c.find-found.new.run (seat_view c.args.consumer.now)) c.in-Message.type_id c.in-Message.len
    c.find-found.new.seat.me.0
found_now g c = found g c c.requires.near.come.0 c.find-found.new.run
    (at_in_run c.find-found.new.run c.requires.near.come.1)

pub show-action-requires-clause-body : goal.show-action-requires-clause-body
show-action-requires-clause-body g c =
    found_body _ _ (found_now g (goal.at.show-action-requires-clause-body g c).In-Message) c.requires.near

pub show-action-requires-clause-last : goal.show-action-requires-clause-last
show-action-requires-clause-last g c =
    found_here (seat_view c.args.consumer.now) c.find-found.new.run
    (found_now g (goal.at.show-action-requires-clause-last g c).In-Message)

pub span-span-requires : goal.span-span-requires
span-span-requires g c =
    found_few (seat_view c.args.consumer.now) c.find-found.new.run
    (found_now g (goal.at.span-span-requires g c).In-Message) c.args.self.now.lawful.most

pub returns-then-heeds-clause-run : goal.returns-then-heeds-clause-run
returns-then-heeds-clause-run g c =
    let f = found_now g (goal.at.returns-then-heeds-clause-run g c).In-Message in
    let v = seat_view c.args.consumer.now in
    let run = c.find-found.new.run in
    let shown = c.show-action.ensures.shown f.message (found_last v run f) f.place (found_type v run f) f.len_is in
    let same = ap (λ (z : Run). z.from) (shown_run v run f _ shown.0) in
    let low = c.find-found.ensures.run in omega arith

pub returns-then-heeds-clause-turn : goal.returns-then-heeds-clause-turn
returns-then-heeds-clause-turn g c got at =
    let v = seat_view c.args.consumer.now in
    let run = c.find-found.new.run in
    let f = found g (goal.at.returns-then-heeds-clause-turn g c).In-Message got _ at in
    let shown = c.show-action.ensures.shown f.message (found_last v run f) f.place (found_type v run f) f.len_is in
    shows_one v run f g.H.Handler.step c.args.heeds c.args.handler.now c.show-action.new.handler c.show-action.result
    c.show-action.result c.span-span.result (seat_view c.show-action.new.consumer) shown.0 shown.1
    (ap (λ z. heard z c.show-action.result) (sym c.if-heeds.true)) c.span-span.ensures

pub returns-else-heeds-clause-run : goal.returns-else-heeds-clause-run
returns-else-heeds-clause-run g c =
    let f = found_now g (goal.at.returns-else-heeds-clause-run g c).In-Message in
    let v = seat_view c.args.consumer.now in
    let run = c.find-found.new.run in
    let shown = c.show-action.ensures.shown f.message (found_last v run f) f.place (found_type v run f) f.len_is in
    let same = ap (λ (z : Run). z.from) (shown_run v run f _ shown.0) in
    let low = c.find-found.ensures.run in omega arith

pub returns-else-heeds-clause-turn : goal.returns-else-heeds-clause-turn
returns-else-heeds-clause-turn g c got at =
    let v = seat_view c.args.consumer.now in
    let run = c.find-found.new.run in
    let f = found g (goal.at.returns-else-heeds-clause-turn g c).In-Message got _ at in
    let shown = c.show-action.ensures.shown f.message (found_last v run f) f.place (found_type v run f) f.len_is in
    shows_one v run f g.H.Handler.step c.args.heeds c.args.handler.now c.show-action.new.handler Continue
    c.show-action.result c.span-span.result (seat_view c.show-action.new.consumer) shown.0 shown.1
    (ap (λ z. heard z c.show-action.result) (sym c.if-heeds.false)) c.span-span.ensures
