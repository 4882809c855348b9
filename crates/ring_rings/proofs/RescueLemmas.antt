-- What the words of a ring with lost producers hand out.
use Rattle.std.proofs.Common.{◌≡◌, ◌∙◌, ℕ, ◌%◌, List, [], ◌∷◌, slice_index, refl, sym, ap, subst, arith}
use Rattle.std.specs.declared.{snapshot.Snapshot.Snapshot, alloc.Global.Global}
use Rattle.atomic_table.specs.declared.owned.Closed.{Closed}
use Rattle.ring_layout.specs.{Picture.IsPicture, Places.end_of}
use Rattle.ring_words.{specs.Ring.Has, specs.Ring.IsRing, specs.Ring.ring, proofs.UniqueLemmas.alike}
use Rattle.ring_table.specs.declared.{claim.StagedClaim.StagedClaim, view.Key.Key, view.View.View}
use Rattle.ring_table.specs.{Closed.restarted, Owners.OwnedHistory, Owners.all_of, Staged.Bodies, Staged.unplaced}
use Rattle.ring_table.specs.{Passing.placed_committed_of, Rescued.unsettled_count, Rescued.HadHistory, Rescued.Rescues}
use Rattle.ring_table.proofs.RestLemmas.{end_of-claims_of}
use Rattle.ring_rings.specs.Reading.{messages_of}
use Rattle.ring_rings.specs.{Rescuing.IsRescued, Rescuing.IsRescuedOf, declared.rescue.Rescued.Rescued}
use Rattle.ring_rings.proofs.{CloseLemmas.placed_lawful, CloseLemmas.placed_rising, SentLemmas.same_committed}

restarted_committed : (s : ℕ) (cs : List StagedClaim)
    → placed_committed_of (restarted s cs) ≡ placed_committed_of cs
restarted_committed s [] = refl
restarted_committed s (c ∷ cs) = refl

restarted_count : (s : ℕ) (cs : List StagedClaim) → unsettled_count (restarted s cs) ≡ unsettled_count cs
restarted_count s [] = refl
restarted_count s (c ∷ cs) = refl

module _ (C start : ℕ) (v : View) (words : List ℕ) (claims silent : ℕ)
    (hist : OwnedHistory) (drawn : ℕ) (r : Rescues C start v hist drawn words claims silent) where
  rest_has : Has (ring C words) (unplaced r.settles.now)
  rest_has =
      let k = r.settles in
      let head = r.head_is in
      record {
        lawful = placed_lawful C v.consumer.head k.now k.placed;
        ends = ap (λ (h : ℕ). end_of C h (unplaced k.now)) head
            ∙ end_of-claims_of C v.consumer.head k.now k.placed ∙ k.ends ∙ sym r.tail_is;
        picture = subst (λ (h : ℕ). IsPicture (λ i. slice_index words i) C h (unplaced k.now)) (sym head) k.picture;
      }

  pub rescued_ring : IsRing (ring C words)
  rescued_ring =
      let head = r.head_is in
      let order = r.order in
      let room = r.room in
      let limit = r.limit in
      record {
        capacity = r.lawful.capacity;
        length = r.wide;
        aligned = ap (λ k. k % 8) head ∙ r.aligned;
        order = omega arith;
        room = omega arith;
        limit = limit;
        history = (unplaced r.settles.now, rest_has);
      }

  is_rescued_of : (before : Snapshot (Closed ℕ Global)) → IsRescuedOf C start v hist drawn (record {
    rest = ring C words;
    unsettled = record { claims = claims; silent = silent };
    before = before;
  })
  is_rescued_of before =
      let k = r.settles in
      let same : placed_committed_of k.now ≡ placed_committed_of r.left =
      k.messages ∙ restarted_committed v.consumer.head r.left in
      record {
        ordered = record { placed = r.placed; rising = placed_rising C start (all_of hist) r.placed };
        id = r.id;
        own = r.own;
        passed = r.passed;
        left = r.left;
        whole = r.whole;
        settled = r.settled;
        messages = r.messages;
        below = r.below;
        ahead = r.ahead;
        now = k.now;
        placed = k.placed;
        done = k.settled;
        same = same;
        capacity = refl;
        head = r.head_is;
        has = rest_has;
        unread = λ h has. (alike (ring C words) h (unplaced k.now) rescued_ring has rest_has).messages
            ∙ same_committed k.now ∙ ap messages_of same;
        claims = k.claims_is ∙ restarted_count v.consumer.head r.left;
        silent = k.silent_is;
        service = r.service;
      }

-- what the words of a table come to, of each history that it had
pub is_rescued : (B : Bodies) (C : ℕ) (k : Key) (v : View) (words : List ℕ) (r : Rescued) → k.capacity ≡ C
    → r.rest ≡ ring C words
    → ((hist : OwnedHistory) × (drawn : ℕ) × HadHistory B k v r.before.value hist drawn)
    → ((hist : OwnedHistory) (drawn : ℕ) → HadHistory B k v r.before.value hist drawn
    → Rescues C k.start v hist drawn words r.unsettled.claims r.unsettled.silent)
    → IsRescued B C k.start v r
is_rescued B C k v words r same rest had each =
    let key : k ≡ record { capacity = C; start = k.start } = λ i. record { capacity = same i; start = k.start } in
    record {
      hist = had.0;
      drawn = had.1;
      had = subst (λ z. HadHistory B z v r.before.value had.0 had.1) key had.2;
      each = λ h n x. subst (λ z. IsRescuedOf C k.start v h n (record {
        rest = z;
        unsettled = r.unsettled;
        before = r.before;
      })) (sym rest)
          (is_rescued_of C k.start v words r.unsettled.claims r.unsettled.silent h n
          (each h n (subst (λ z. HadHistory B z v r.before.value h n) (sym key) x)) r.before);
    }
