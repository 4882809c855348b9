use Rattle.std.proofs.Common.{subst}
use Rattle.ring_ends.specs.Held.{Comes, held_in}
use Rattle.ring_scenario.proofs.service.CommandService.watch.Goals as goal

pub returns-in-Ok-clause-made : goal.returns-in-Ok-clause-made
returns-in-Ok-clause-made c =
    let made = c.in-Ok.ensures.reader in
    let comes = subst (λ l. Comes c.in-Ok.watcher l c.hold.result (held_in c.hold.new.self)) c.reserve.ensures.same
    c.hold.ensures in
    record { reader = c.in-Ok.watcher; knows = made.seen; unread = made.loads; comes = comes }
