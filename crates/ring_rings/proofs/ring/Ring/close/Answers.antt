use Rattle.std.proofs.Common.{sym, ◌∙◌}
use Rattle.ring_rings.proofs.CloseLemmas.{closes_to_ring, closes_whole, closes_with_rest, closes_with_service, last_seat}
use Rattle.ring_rings.proofs.ring.Ring.close.Goals as goal

pub take_words-words-requires-clause-last : goal.take_words-words-requires-clause-last
take_words-words-requires-clause-last g c =
    last_seat _ c.args.producer.seat.me.0 c.args.consumer.seat.me.0 c.join_consumer.ensures.view
    c.in-Ok.ensures.ok.1 c.in-Ok.ensures.ok.0 c.args.producer.home c.args.consumer.consumes.0
    (c.args.consumer.stands.1 ∙ sym c.args.consumer.stands.0)

pub from_words-requires-clause-ring : goal.from_words-requires-clause-ring
from_words-requires-clause-ring g c =
    closes_to_ring c.args.self.table.shared.key.capacity c.args.self.capacity c.args.self.table.shared.key.start
    c.args.self.key c.take_words-words.result.items c.join_consumer.new.producer.me.0 c.args.producer.seat.me.0
    c.args.consumer.seat.me.0 c.join_consumer.ensures.view c.take_words-words.ensures.closed c.take_words-words.ensures.rest

pub returns-clause-rest : goal.returns-clause-rest
returns-clause-rest g c = rw c.from_words.ensures
    (closes_with_rest c.args.self.table.shared.key.capacity c.args.self.capacity c.args.self.table.shared.key.start
    c.args.self.key c.take_words-words.result.items c.join_consumer.new.producer.me.0 c.args.producer.seat.me.0
    c.args.consumer.seat.me.0 c.join_consumer.ensures.view c.take_words-words.ensures.closed c.take_words-words.ensures.rest)

pub returns-clause-service : goal.returns-clause-service
returns-clause-service g c = rw c.from_words.ensures
    (closes_with_service c.args.self.table.shared.key.capacity c.args.self.capacity c.args.self.table.shared.key.start
    c.args.self.key c.take_words-words.result.items c.join_consumer.new.producer.me.0 c.args.producer.seat.me.0
    c.args.consumer.seat.me.0 c.join_consumer.ensures.view c.take_words-words.ensures.closed c.take_words-words.ensures.rest)

pub returns-clause-whole : goal.returns-clause-whole
returns-clause-whole g c = rw c.from_words.ensures
    (closes_whole c.args.self.table.shared.key.capacity c.args.self.capacity c.args.self.table.shared.key.start
    c.args.self.key c.take_words-words.result.items c.join_consumer.new.producer.me.0 c.args.producer.seat.me.0
    c.args.consumer.seat.me.0 c.join_consumer.ensures.view c.take_words-words.ensures.closed c.take_words-words.ensures.rest)
