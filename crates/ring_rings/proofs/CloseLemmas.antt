-- What a closed table hands on.
use Rattle.std.proofs.Common.{◌≡◌, ℕ, ◌≤◌, ◌<◌, List, [], ◌∷◌, length, slice_index, true, refl, sym, ap, ◌∙◌, subst, arith, All}
use Rattle.std.proofs.lemmas.List.Elements.{All-cons, All-nil}
use Rattle.std.proofs.Math.{Option.some, ListN.get_elem?}
use Rattle.ring_layout.specs.{declared.message.Claim.Claim, Layout.head_cache_index, Layout.heartbeat_index}
use Rattle.ring_layout.specs.{History.IsMessage, Places.end_of, Refusals.all_shares, Picture.IsPicture}
use Rattle.ring_layout.proofs.PlaceLemmas.{next_le, span_bounds}
use Rattle.ring_table.specs.declared.view.{ProducerView.ProducerView, ConsumerView.ConsumerView, View.View}
use Rattle.ring_table.specs.{Services.AreServed, Services.once_below, Services.times_drawn, Views.with_consumer_of}
use Rattle.ring_words.specs.Ring.{Has, IsRing, ring}
use Rattle.ring_table.specs.declared.claim.StagedClaim.{StagedClaim}
use Rattle.ring_table.specs.Staged.{in_words, AreAbove, ArePlaced, AreRising, claim_end, unplaced, staged_span}
use Rattle.ring_table.specs.{Closed.IsClosed, Closed.IsLast, Closed.LeavesRest, Closed.restarted, OpenClaims.open_count}
use Rattle.ring_table.proofs.{MemoryLemmas.head_bounds, RestLemmas.claims_of-restarted}
use Rattle.ring_rings.specs.{Closing.HandsOut, Closing.Serves, Ring.received_in, Ring.sent_in, Ring.IsWhole}
use Rattle.ring_rings.{specs.Reading.at_rest, proofs.SentLemmas.whole}

pub placed_lawful : (C e : ℕ) (cs : List StagedClaim) → ArePlaced C e cs
    → All (λ (c : Claim). IsMessage C c.message) (unplaced cs)
placed_lawful C e [] placed = All-nil (λ (c : Claim). IsMessage C c.message)
placed_lawful C e (c ∷ cs) placed = All-cons (λ (d : Claim). IsMessage C d.message) _ (unplaced cs) placed.0.message
    (placed_lawful C (claim_end c) cs placed.1)

-- placed claims rise
placed_above : (C e p : ℕ) (cs : List StagedClaim) → ArePlaced C e cs → p < e → AreAbove p cs
placed_above C e p [] placed lt = tt
placed_above C e p (c ∷ cs) placed lt =
    let n = next_le C e (staged_span c) in
    let at = placed.0.place in
    (omega arith, placed_above C (claim_end c) p cs placed.1 (omega arith))

pub placed_rising : (C e : ℕ) (cs : List StagedClaim) → ArePlaced C e cs → AreRising cs
placed_rising C e [] placed = tt
placed_rising C e (c ∷ cs) placed =
    let bytes = (span_bounds (length c.message.body)).1 in
    (placed_above C (claim_end c) c.place cs placed.1 (omega arith), placed_rising C (claim_end c) cs placed.1)

-- v is the view of the seat that closed the ring, and nothing of a read is cleared beyond the head
module _ (C start : ℕ) (words : List ℕ) (v : View) (closed : IsClosed C start words v)
    (leaves : LeavesRest C words v) where
  rest_has : Has (ring C words) (unplaced leaves.rest)
  rest_has =
      let head = closed.memory.head_is in
      record {
        lawful = subst (λ (h : List Claim). All (λ (c : Claim). IsMessage C c.message) h)
            (claims_of-restarted v.consumer.head leaves.rest)
            (placed_lawful C v.consumer.head (restarted v.consumer.head leaves.rest) leaves.placed);
        ends = ap (λ (h : ℕ). end_of C h (unplaced leaves.rest)) head ∙ sym leaves.end_is;
        picture = subst (λ (h : ℕ). IsPicture (λ i. slice_index words i) C h (unplaced leaves.rest))
            (sym head) leaves.picture;
      }

  rest_is_ring : IsRing (ring C words)
  rest_is_ring =
      let m = closed.memory in
      let bounds = head_bounds in_words C start closed.lawful words v.consumer v.producer.claims m in
      let aligned = bounds.2 in
      let head = m.head_is in
      let room = m.room in
      let limit = m.limit in
      record {
        capacity = closed.lawful.capacity;
        length = m.wide;
        aligned = omega arith;
        order = omega arith;
        room = omega arith;
        limit = omega arith;
        history = (unplaced leaves.rest, rest_has);
      }

  -- v is p with the consumer's part of r
  module _ (p r : View) (both : v ≡ with_consumer_of p r) where
    hands_out : HandsOut C start p (at_rest r) (ring C words)
    hands_out =
        let head : v.consumer.head ≡ r.consumer.head = ap (λ (u : View). u.consumer.head) both in
        let placed : ArePlaced C start p.producer.claims =
        subst (ArePlaced C start) (ap (λ (u : View). u.producer.claims) both) closed.memory.placed in
        record {
          ordered = record { placed = placed; rising = placed_rising C start p.producer.claims placed };
          passed = leaves.taken;
          left = leaves.rest;
          whole = sym (ap (λ (u : View). u.producer.claims) both) ∙ leaves.whole;
          settled = leaves.settled;
          messages = sym (ap (λ (u : View). u.consumer.taken) both) ∙ leaves.messages;
          placed = subst (λ (h : ℕ). ArePlaced C h (restarted h leaves.rest)) head leaves.placed;
          capacity = refl;
          head = closed.memory.head_is ∙ head;
          has = rest_has;
        }

    serves : Serves C p (at_rest r) (ring C words)
    serves =
        let producer = ap (λ (u : View). u.producer) both in
        let consumer = ap (λ (u : View). u.consumer) both in
        record {
          drawn = closed.drawn;
          once =
              subst (λ (u : ProducerView). (x : ℕ) → times_drawn x u ≡ once_below x closed.drawn) producer closed.once;
          served = subst (λ (u : View). AreServed closed.drawn u.consumer.heartbeats
              (u.producer.service ∷ u.producer.joined)) both closed.served;
          correlation = closed.service.correlation;
          heartbeat = subst (λ (u : ConsumerView). get_elem? (0 ∷ u.heartbeats) (length u.heartbeats)
              ≡ some (slice_index words (heartbeat_index C))) consumer closed.service.heartbeat;
          cache = subst (λ (u : ConsumerView). slice_index words (head_cache_index C) ≤ u.head) consumer
              closed.service.cache;
          unnamed = closed.service.unnamed;
        }

-- a producer with all shares and no open claim that a consumer at rest was joined into has the last seat
pub last_seat : (v p r : View) → v ≡ with_consumer_of p r → p.producer.shares ≡ all_shares
    → open_count p.producer.claims ≡ 0 → p.out ≡ [] → r.consumes ≡ true → r.consumer.cleared ≡ r.consumer.head
    → IsLast v
last_seat v p r both all none_open home consumes none_cleared = subst IsLast (sym both) record {
  all = all;
  consumes = consumes;
  home = home;
  none_open = none_open;
  none_cleared = none_cleared;
}

-- v is the view of a producer p that the consumer r was joined into
module _ (K C start : ℕ) (same : K ≡ C) (words : List ℕ) (v p r : View) (both : v ≡ with_consumer_of p r)
    (closed : IsClosed K start words v) (left : LeavesRest K words v) where
  pub closes_to_ring : IsRing (ring C words)
  closes_to_ring = subst (λ k. IsRing (ring k words)) same (rest_is_ring K start words v closed left)

  pub closes_with_rest : HandsOut C start p (at_rest r) (ring C words)
  closes_with_rest = subst (λ k. HandsOut k start p (at_rest r) (ring k words)) same
      (hands_out K start words v closed left p r both)

  pub closes_with_service : Serves C p (at_rest r) (ring C words)
  closes_with_service =
      subst (λ k. Serves k p (at_rest r) (ring k words)) same (serves K start words v closed left p r both)

  pub closes_whole : IsWhole (sent_in p) (received_in (at_rest r)) (ring C words)
  closes_whole = whole C start p (at_rest r) (ring C words) closes_to_ring closes_with_rest
