use Rattle.std.proofs.Common.{rules, ◌≡◌, w32, to_z, of_z}
use Rattle.ring_ends.specs.Next.{ReceivesNext}
use Rattle.ring_handles.{specs.Consuming.next_code, proofs.ConsumerLemmas.received_out}
use Rattle.ring_handles.specs.contracts.consumer.ConsumerSide.{the_view}
use Rattle.ring_handles.proofs.consumer.ConsumerSide.read.Goals.{in-Many, in-One}
use Rattle.ring_handles.proofs.consumer.ConsumerSide.read.Goals as goal

pub returns-clause-received : goal.returns-clause-received
returns-clause-received c =
    let m = c.match-self in
    let code : to_z w32 (of_z w32 c.tell.result) ≡ next_code m.found = search rules in
    let got = elim m.branch as (λ _. ReceivesNext m.buffer c.args.self.now.end m.found (the_view m.self-inside).end) [
      | in-Many w ↦ search rules
      | in-One w ↦ search rules
    ] in
    received_out _ _ c.args.self.now (the_view m.self-inside) _ m.found code
    (c.tell.ensures.outs c.args.buffer.now m.buffer) got
