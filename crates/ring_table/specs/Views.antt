-- What each seat knows at first, and how the steps change it.
use Rattle.std.specs.Prelude.{◌≡◌, ℕ, ◌+◌, ◌-◌, List, [], ◌∷◌, ◌++◌, true, false, max}
use Rattle.ring_layout.specs.Refusals.{all_shares}
use Rattle.ring_table.specs.{Staged.StagedClaim, Staged.PlacedMessage, Owners.interleaved}
pub use Rattle.ring_table.specs.declared.view.Key.{Key}
pub use Rattle.ring_table.specs.declared.view.Wanted.{Wanted}
pub use Rattle.ring_table.specs.declared.view.Service.{Service}
pub use Rattle.ring_table.specs.declared.view.ProducerView.{ProducerView}
pub use Rattle.ring_table.specs.declared.view.Run.{Run}
pub use Rattle.ring_table.specs.declared.view.ConsumerView.{ConsumerView}
pub use Rattle.ring_table.specs.declared.view.View.{View}

abbrev pub no_service : Service
no_service = record { draws = []; heartbeats = [] }

-- no record of a run is ahead
abbrev pub no_run : ℕ → Run
no_run p = record { from = p; to = p }

abbrev pub consumer_from : ℕ → ConsumerView
consumer_from start = record {
  head = start;
  cleared = start;
  scan = start;
  run = no_run start;
  taken = [];
  got = [];
  heads = [];
  heartbeats = [];
}

abbrev pub new_producer : ℕ → ℕ → ℕ → ProducerView
new_producer shares seen_tail seen_head =
    record {
      shares = shares;
      claims = [];
      seen_tail = seen_tail;
      seen_head = seen_head;
      service = no_service;
      joined =
          [];
    }

-- the first seat is the only producer, and the consumer
abbrev pub first_view : Key → View
first_view k = record {
  capacity = k.capacity;
  log = [];
  producer = new_producer all_shares k.start k.start;
  out = [];
  consumes =
      true;
  consumer = consumer_from k.start;
}

-- ---- loads

abbrev pub logged : ℕ → ℕ → View → View
logged word n v = record v { log = v.log ++ (word, n) ∷ [] }

-- the log is longer by one load: of this word, which was n
abbrev pub Logs : ℕ → ℕ → View → View → Type 0
Logs word n v w = w.log ≡ v.log ++ (word, n) ∷ []

abbrev pub with_producer : ProducerView → View → View
with_producer p v = record v { producer = p }

abbrev pub with_consumer : ConsumerView → View → View
with_consumer c v = record v { consumer = c }

abbrev pub with_tail : ℕ → ProducerView → ProducerView
with_tail n p = record p { seen_tail = n }

abbrev pub with_head : ℕ → ProducerView → ProducerView
with_head n p = record p { seen_head = n }

-- ---- claims

abbrev pub with_claims : List StagedClaim → View → View
with_claims cs v = with_producer (record v.producer { claims = cs }) v

-- the tail is moved, and the claim is made
abbrev pub with_claim : StagedClaim → ℕ → View → View
with_claim c tail v = with_producer (record v.producer { claims = v.producer.claims ++ c ∷ []; seen_tail = tail }) v

-- ---- the running read

abbrev pub scanned : ℕ → List PlacedMessage → ConsumerView → ConsumerView
scanned scan got c = record c { scan = scan; got = got }

-- the read has reached this run
abbrev pub with_run : Run → View → View
with_run run v = with_consumer (record v.consumer { run = run }) v

abbrev pub cleared_to : ℕ → ConsumerView → ConsumerView
cleared_to to c = record c { cleared = to }

-- the head was stored here: nothing is cleared and nothing is got beyond it
abbrev pub stands_at : ℕ → List PlacedMessage → ConsumerView → ConsumerView
stands_at head got c = record c {
  head = head;
  cleared = head;
  scan = head;
  run = no_run head;
  taken = got;
  got = got;
  heads =
      c.heads ++ head ∷ [];
}

-- ---- service

abbrev pub with_draw : ℕ → ProducerView → ProducerView
with_draw k p = record p { service = record p.service { draws = p.service.draws ++ k ∷ [] } }

abbrev pub with_heartbeat : ℕ → ℕ → ProducerView → ProducerView
with_heartbeat i value p =
    record p { service = record p.service { heartbeats = p.service.heartbeats ++ (i, value) ∷ [] } }

abbrev pub beaten : ℕ → ConsumerView → ConsumerView
beaten value c = record c { heartbeats = c.heartbeats ++ value ∷ [] }

-- the consumer stored this heartbeat
abbrev pub with_beat : ℕ → View → View
with_beat value v = with_consumer (beaten value v.consumer) v

-- ---- seats

abbrev pub no_consumer : ConsumerView
no_consumer = consumer_from 0

-- the consumer's part goes to a seat of its own
abbrev pub without_consumer : View → View
without_consumer v = record v { consumes = false; consumer = no_consumer }

-- a seat of its own, with this many shares, which has seen what this one has
abbrev pub alone : ℕ → View → View
alone shares v =
    record v { log = []; producer = new_producer shares v.producer.seen_tail v.producer.seen_head; out = [] }

abbrev pub consumer_alone : View → View
consumer_alone v = alone 0 v

-- a producer takes the consumer's part in
abbrev pub with_consumer_of : View → View → View
with_consumer_of v w = record v { consumes = w.consumes; consumer = w.consumer }

-- one share goes to a new producer
abbrev pub without_share : View → View
without_share v = with_producer (record v.producer { shares = v.producer.shares - 1 }) v

abbrev pub producer_alone : View → View
producer_alone v = without_consumer (alone 1 v)

-- what one producer has that took another in
abbrev pub both_producers : ProducerView → ProducerView → ProducerView
both_producers p q = record {
  shares = p.shares + q.shares;
  claims = interleaved p.claims q.claims;
  seen_tail = max p.seen_tail q.seen_tail;
  seen_head = max p.seen_head q.seen_head;
  service = p.service;
  joined = p.joined ++ q.service ∷ q.joined;
}

abbrev pub with_producer_of : View → View → View
with_producer_of v w = with_producer (both_producers v.producer w.producer) v

-- a seat that was joined into another has nothing
abbrev pub spent : View
spent =
    record { capacity = 0; log = []; producer = new_producer 0 0 0; out = []; consumes = false; consumer = no_consumer }
