use Rattle.std.proofs.Common.{rules, w32}
use Rattle.std.proofs.lemmas.Int.{to_z-of_z}
use Rattle.ring_handles.proofs.producer.ProducerSide.write.Goals as goal

pub returns-in-Many-clause-does : goal.returns-in-Many-clause-does
returns-in-Many-clause-does c =
    let told = rw (to_z-of_z w32 c.args.type_id c.ranges.type_id) at c.write_in.ensures.code c.self.inside.identity in
    search (rules, told)

pub returns-in-One-clause-does : goal.returns-in-One-clause-does
returns-in-One-clause-does c =
    let told = rw (to_z-of_z w32 c.args.type_id c.ranges.type_id) at c.write_in-in-One.ensures.code c.self.inside.identity in
    search (rules, told)

pub returns-in-Many-clause-sent : goal.returns-in-Many-clause-sent
returns-in-Many-clause-sent c =
    let sends = rw (to_z-of_z w32 c.args.type_id c.ranges.type_id) at c.write_in.ensures.sent in search (rules, sends)

pub returns-in-One-clause-sent : goal.returns-in-One-clause-sent
returns-in-One-clause-sent c =
    let sends = rw (to_z-of_z w32 c.args.type_id c.ranges.type_id) at c.write_in-in-One.ensures.sent in
    search (rules, sends)
