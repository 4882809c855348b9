-- What a seat knows as the history, the consumer and the draws go on.
use Rattle.std.proofs.Common.{◌≡◌, ℕ, ◌≤◌, ◌<◌, List, [], ◌∷◌, true, sym, refl, ap, ◌∙◌, subst, arith}
use Rattle.ring_table.specs.{Owners.OwnedHistory, Owners.owned_by, Services.Service, Services.AreServed}
use Rattle.ring_table.specs.Views.{ConsumerView, ProducerView, View, new_producer}
use Rattle.ring_table.specs.Rule.{IsIdle, Knows}

module _ {top : ℕ} {hist : OwnedHistory} {reader : ℕ} {consumer : ConsumerView} {n id : ℕ} {v : View}
    (k : Knows top hist reader consumer n id v) where
  -- after it has seen a later tail or head
  pub knows_seeing : (tail head : ℕ) (log : List (ℕ × ℕ)) → tail ≤ top → head ≤ consumer.head
      → Knows top hist reader consumer n id
      (record v { producer = record v.producer { seen_tail = tail; seen_head = head }; log = log })
  knows_seeing tail head log t h = record {
    claims = k.claims;
    tail_seen = t;
    head_seen = h;
    idle = λ none. record { claims = (k.idle none).claims; draws = (k.idle none).draws };
    served = k.served;
    consumes = k.consumes;
  }

  -- after it has drawn a number, seen a heartbeat or given away a share, and has some left
  pub knows_served : (n' shares : ℕ) (service : Service) (log : List (ℕ × ℕ)) → 0 < shares
      → AreServed n' consumer.heartbeats (service ∷ v.producer.joined)
      → Knows top hist reader consumer n' id
      (record v { producer = record v.producer { shares = shares; service = service }; log = log })
  knows_served n' shares service log rich served = record {
    claims = k.claims;
    tail_seen = k.tail_seen;
    head_seen = k.head_seen;
    idle = λ none. absurd (let is : shares ≡ 0 = none in omega arith);
    served = served;
    consumes = k.consumes;
  }

  -- after others claimed, or changed claims of theirs
  pub knows_after : {top' : ℕ} {hist' : OwnedHistory} → top ≤ top' → owned_by id hist' ≡ owned_by id hist
      → Knows top' hist' reader consumer n id v
  knows_after {top'} {hist'} grows same = record {
    claims = k.claims ∙ sym same;
    tail_seen = (omega arith);
    head_seen = k.head_seen;
    idle = k.idle;
    served = k.served;
    consumes = k.consumes;
  }

  -- after others drew, or the consumer went on or is another
  pub knows_on : {reader' : ℕ} {consumer' : ConsumerView} {n' : ℕ} {w : View} → w.producer ≡ v.producer
      → consumer.head ≤ consumer'.head → AreServed n' consumer'.heartbeats (v.producer.service ∷ v.producer.joined)
      → (w.consumes ≡ true → (id ≡ reader') × (w.consumer ≡ consumer')) → Knows top hist reader' consumer' n' id w
  knows_on {reader'} {consumer'} {n'} {w} same rises served consumes = record {
    claims = ap (λ (p : ProducerView). p.claims) same ∙ k.claims;
    tail_seen = subst (λ (p : ProducerView). p.seen_tail ≤ top) (sym same) k.tail_seen;
    head_seen = subst (λ (p : ProducerView). p.seen_head ≤ consumer'.head) (sym same)
        (omega arith);
    idle = subst (λ (p : ProducerView). p.shares ≡ 0 → IsIdle p) (sym same) k.idle;
    served = subst (λ (p : ProducerView). AreServed n' consumer'.heartbeats (p.service ∷ p.joined)) (sym same) served;
    consumes = consumes;
  }

-- a producer that has claimed and drawn nothing yet
pub knows_new : {top : ℕ} {hist : OwnedHistory} {reader : ℕ} {consumer : ConsumerView} {n id : ℕ} {v : View}
    (shares tail head : ℕ) → v.producer ≡ new_producer shares tail head → owned_by id hist ≡ []
    → (tail ≤ top) × (head ≤ consumer.head) → (v.consumes ≡ true → (id ≡ reader) × (v.consumer ≡ consumer))
    → Knows top hist reader consumer n id v
knows_new {top} {hist} {reader} {consumer} {n} shares tail head is nobody seen consumes = record {
  claims = ap (λ (p : ProducerView). p.claims) is ∙ sym nobody;
  tail_seen = subst (λ (p : ProducerView). p.seen_tail ≤ top) (sym is) seen.0;
  head_seen = subst (λ (p : ProducerView). p.seen_head ≤ consumer.head) (sym is) seen.1;
  idle = subst (λ (p : ProducerView). p.shares ≡ 0 → IsIdle p) (sym is)
      (λ _. record { claims = refl; draws = λ x. refl });
  served = subst (λ (p : ProducerView). AreServed n consumer.heartbeats (p.service ∷ p.joined)) (sym is)
      (record { draws = omega arith; heartbeats = omega arith }, tt);
  consumes = consumes;
}
