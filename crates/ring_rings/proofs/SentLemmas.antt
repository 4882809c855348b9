-- What calls send and receive, by what they do to views.
use Rattle.std.proofs.Common.{◌≡◌, ◌∙◌, ◌+◌, ◌<◌, ℕ, ℤ, zero, suc, length, List, [], ◌∷◌, ◌++◌, refl, sym, ap, subst, append_assoc, arith, inl, inr, lt-ltb, le-ltb, cond, append-nil}
use Rattle.std.proofs.Math.{Option.some, Option.some-injective, Option.some-ne-none, ListN.get_elem?}
use Rattle.std.proofs.lemmas.Bool.{cases_lt}
use Rattle.ring_layout.specs.declared.message.ClaimState.TheVariants.{Open, Committed, Aborted}
use Rattle.ring_layout.specs.{declared.message.Message.Message, History.committed_of, History.shown, History.span}
use Rattle.ring_table.specs.{Runs.run_claims, Passing.placed_committed_of, Passing.placed_message, Passing.shown_at}
use Rattle.ring_words.{specs.Ring.Ring, specs.Ring.IsRing, proofs.UniqueLemmas.alike}
use Rattle.ring_table.specs.declared.{claim.PlacedMessage.PlacedMessage, claim.StagedClaim.StagedClaim, view.View.View}
use Rattle.ring_table.specs.declared.claim.Stage.{Stage, TheVariants.Moved, TheVariants.Padded, TheVariants.Stored}
use Rattle.ring_table.specs.{Changes.changed, Changes.staged, ProducerSteps.HasClaimAt, ProducerSteps.IsStagedOpen}
use Rattle.ring_table.specs.Owners.{insert_claim, interleaved}
use Rattle.ring_table.specs.Staged.{AreAbove, AreRising, claim_of, unplaced}
use Rattle.ring_table.proofs.HistoryLemmas.{changed_at_other, changed_at_place}
use Rattle.ring_rings.specs.{Claiming.claim_behind, Claiming.record_behind, Claiming.AreContended, Reading.messages_of}
use Rattle.ring_rings.specs.{Closing.HandsOut, declared.ring.Producer.Producer, Seats.claims_of, Seats.view_of}
use Rattle.ring_rings.specs.Ring.{message, received_in, sent_in, AreMerged, IsWhole, SendsClaimed}

-- Lists ------------------------------------------------------------------------

pub messages_of-append : (a b : List PlacedMessage) → messages_of (a ++ b) ≡ messages_of a ++ messages_of b
messages_of-append [] b = refl
messages_of-append (m ∷ a) b = ap (λ l. m.message ∷ l) (messages_of-append a b)

pub placed_committed_of-append : (a b : List StagedClaim)
    → placed_committed_of (a ++ b) ≡ placed_committed_of a ++ placed_committed_of b
placed_committed_of-append [] b = refl
placed_committed_of-append (c ∷ a) b =
    let here = shown_at c.stage (placed_message c) in
    ap (λ l. here ++ l) (placed_committed_of-append a b)
    ∙ sym (append_assoc here (placed_committed_of a) (placed_committed_of b))

-- the messages of the committed claims
abbrev sent_of : List StagedClaim → List Message
sent_of cs = messages_of (placed_committed_of cs)

sent_of-append : (a b : List StagedClaim) → sent_of (a ++ b) ≡ sent_of a ++ sent_of b
sent_of-append a b = ap messages_of (placed_committed_of-append a b)
    ∙ messages_of-append (placed_committed_of a) (placed_committed_of b)

-- Claims and writes ------------------------------------------------------------

-- one open claim more
pub claim_sends_none : (cs ds : List StagedClaim) (C tail : ℕ) (type_id : ℤ) (len : ℕ)
    → ds ≡ cs ++ claim_behind C tail type_id len ∷ [] → sent_of ds ≡ sent_of cs
claim_sends_none cs ds C tail type_id len more =
    ap sent_of more ∙ (sent_of-append cs (claim_behind C tail type_id len ∷ []) ∙ append-nil (sent_of cs))

-- one committed claim more
pub write_sends : (cs ds : List StagedClaim) (C tail : ℕ) (type_id : ℤ) (body : List ℕ)
    → ds ≡ cs ++ record_behind C tail type_id body ∷ [] → sent_of ds ≡ sent_of cs ++ message type_id body ∷ []
write_sends cs ds C tail type_id body more =
    ap sent_of more ∙ sent_of-append cs (record_behind C tail type_id body ∷ [])

-- the claims of a run more
pub run_sends : (p : ℕ) (ms : List Message) (cs ds : List StagedClaim) → ds ≡ cs ++ run_claims p ms
    → sent_of ds ≡ sent_of cs ++ ms
run_sends p ms cs ds more = ap sent_of more ∙ sent_of-append cs (run_claims p ms) ∙ ap (λ l. sent_of cs ++ l) (all_sent p ms)
  where
    all_sent : (p : ℕ) (ms : List Message) → sent_of (run_claims p ms) ≡ ms
    all_sent p [] = refl
    all_sent p (m ∷ ms) = ap (λ l. m ∷ l) (all_sent (p + span (length m.body)) ms)

pub tries_send_none : (C : ℕ) (type_id : ℤ) (len : ℕ) (tries : List (ℕ × ℕ)) (v w : View)
    → AreContended C type_id len tries v w → sent_in w ≡ sent_in v
tries_send_none C type_id len [] v w h = ap sent_in h
tries_send_none C type_id len (t ∷ ts) v w h =
    tries_send_none C type_id len ts h.0 w h.2 ∙ ap sent_in h.1.view

-- A claim that is changed ------------------------------------------------------

-- the claim c, and those before it and after it, with the claim changed in the second list
record HasBetween (cs : List StagedClaim) (c : StagedClaim) (ds : List StagedClaim) (d : StagedClaim) : Type 0 where
  pub before : List StagedClaim
  pub after : List StagedClaim
  pub was : cs ≡ before ++ c ∷ after
  pub is : ds ≡ before ++ d ∷ after

module _ (p : ℕ) (f : StagedClaim → StagedClaim) where
  changed_above : (q : ℕ) (cs : List StagedClaim) → AreAbove q cs → p ≡ q → changed p f cs ≡ cs
  changed_above q [] above at = refl
  changed_above q (c ∷ cs) above at =
      let lt = above.0 in
      λ i. changed_at_other p f c (λ e. omega (arith, e, at, lt)) i ∷ changed_above q cs above.1 at i

  above_at : (q : ℕ) (cs : List StagedClaim) (k : ℕ) (c : StagedClaim) → AreAbove q cs → get_elem? cs k ≡ some c
      → q < c.place
  above_at q [] k c above e = absurd (some-ne-none c (sym e))
  above_at q (d ∷ ds) zero c above e = subst (λ (z : StagedClaim). q < z.place) (some-injective d c e) above.0
  above_at q (d ∷ ds) (suc k) c above e = above_at q ds k c above.1 e

  changed_between : (cs : List StagedClaim) (k : ℕ) (c : StagedClaim) → AreRising cs → get_elem? cs k ≡ some c
      → c.place ≡ p → HasBetween cs c (changed p f cs) (f c)
  changed_between [] k c rising e at = absurd (some-ne-none c (sym e))
  changed_between (d ∷ ds) zero c rising e at =
      let same : d ≡ c = some-injective d c e in
      let there : d.place ≡ p = ap (λ (z : StagedClaim). z.place) same ∙ at in
      record {
        before = [];
        after = ds;
        was = ap (λ z. z ∷ ds) same;
        is = λ i. (changed_at_place p f d there ∙ ap f same) i ∷ changed_above d.place ds rising.0 (sym there) i;
      }
  changed_between (d ∷ ds) (suc k) c rising e at =
      let rest = changed_between ds k c rising.1 e at in
      let lt = above_at d.place ds k c rising.0 e in
      record {
        before = d ∷ rest.before;
        after = rest.after;
        was = ap (λ l. d ∷ l) rest.was;
        is = λ i. changed_at_other p f d (λ here. omega (arith, here, lt, at)) i ∷ rest.is i;
      }

-- what the two lists send, if the claim shows these messages at first and those afterwards
sent_between : (cs ds : List StagedClaim) (c d : StagedClaim) (ms ns : List Message) → (h : HasBetween cs c ds d)
    → messages_of (shown_at c.stage (placed_message c)) ≡ ms → messages_of (shown_at d.stage (placed_message d)) ≡ ns
    → (messages_of (placed_committed_of cs) ≡ sent_of h.before ++ (ms ++ sent_of h.after))
    × (messages_of (placed_committed_of ds) ≡ sent_of h.before ++ (ns ++ sent_of h.after))
sent_between cs ds c d ms ns h first second = (
  ap sent_of h.was ∙ with_one c ms first,
  ap sent_of h.is ∙ with_one d ns second,
)
  where
    with_one : (e : StagedClaim) (ms : List Message) → messages_of (shown_at e.stage (placed_message e)) ≡ ms
        → sent_of (h.before ++ e ∷ h.after) ≡ sent_of h.before ++ (ms ++ sent_of h.after)
    with_one e ms is = sent_of-append h.before (e ∷ h.after)
        ∙ ap (λ l. sent_of h.before ++ l)
        (messages_of-append (shown_at e.stage (placed_message e)) (placed_committed_of h.after)
        ∙ ap (λ l. l ++ sent_of h.after) is)

-- an open claim of v's is changed, and ds are the claims then
module _ (v : View) (ds : List StagedClaim) (place : ℕ) (type_id : ℤ) (len : ℕ) (f : StagedClaim → StagedClaim)
    (rising : AreRising v.producer.claims) (changes : ds ≡ changed place f v.producer.claims)
    (h : HasClaimAt v place (IsStagedOpen type_id len)) where
  between : HasBetween v.producer.claims h.claim (changed place f v.producer.claims) (f h.claim)
  between = changed_between place f v.producer.claims h.nth h.claim rising h.there h.at_place

  sends : (ms : List Message) → messages_of (shown_at (f h.claim).stage (placed_message (f h.claim))) ≡ ms
      → (sent_in v ≡ sent_of between.before ++ sent_of between.after)
      × (sent_of ds ≡ sent_of between.before ++ (ms ++ sent_of between.after))
  sends ms now =
      let hidden = ap (λ s. messages_of (shown_at s (placed_message h.claim))) h.holds.stage in
      let both = sent_between v.producer.claims (changed place f v.producer.claims) h.claim (f h.claim) [] ms between
      hidden now in
      (both.0, ap sent_of changes ∙ both.1)

  -- the claim is not committed by that
  pub change_sends_none : messages_of (shown_at (f h.claim).stage (placed_message (f h.claim))) ≡ []
      → sent_of ds ≡ sent_in v
  change_sends_none still = let both = sends [] still in both.1 ∙ sym both.0

-- the claim is committed as it is
pub commit_sends : (p q : Producer) (place : ℕ) (type_id : ℤ) (len : ℕ) → AreRising (claims_of p)
    → claims_of q ≡ changed place (staged (Stored Committed)) (claims_of p)
    → HasClaimAt (view_of p) place (IsStagedOpen type_id len) → SendsClaimed place p q
commit_sends p q place type_id len rising changes h =
    let f = staged (Stored Committed) in
    let parts = between (view_of p) (claims_of q) place type_id len f rising changes h in
    let both = sends (view_of p) (claims_of q) place type_id len f rising changes h (h.claim.message ∷ []) refl in
    record {
      message = h.claim.message;
      claimed = record { nth = h.nth; claim = h.claim; there = h.there; at_place = h.at_place; holds = refl };
      before = sent_of parts.before;
      after = sent_of parts.after;
      was = both.0;
      is = both.1;
    }

-- Two producers ----------------------------------------------------------------

-- what is merged may begin with an element of either
merged_left : {A : Type 0} (x : A) (xs ys zs : List A) → AreMerged xs ys zs → AreMerged (x ∷ xs) ys (x ∷ zs)
merged_left x xs ys zs h = inl (xs, refl, h)

merged_right : {A : Type 0} (y : A) (xs ys zs : List A) → AreMerged xs ys zs → AreMerged xs (y ∷ ys) (y ∷ zs)
merged_right y xs ys zs h = inr (ys, refl, h)

merged_nil : {A : Type 0} (xs : List A) → AreMerged xs [] xs
merged_nil [] = (refl, refl)
merged_nil (x ∷ xs) = merged_left x xs [] xs (merged_nil xs)

-- a claim before all of the second list is put among both
insert_merged : (y : StagedClaim) (xs ys zs : List StagedClaim) → AreAbove y.place ys → AreMerged xs ys zs
    → AreMerged xs (y ∷ ys) (insert_claim y zs)
insert_merged y xs ys [] above h = inr (ys, refl, h)
insert_merged y xs ys (z ∷ zs) above h =
    elim (cases_lt y.place z.place) as (λ _. AreMerged xs (y ∷ ys) (insert_claim y (z ∷ zs))) [
      | inl before ↦ subst (λ b. AreMerged xs (y ∷ ys) (cond b (y ∷ z ∷ zs) (z ∷ insert_claim y zs)))
          (sym (lt-ltb y.place z.place before)) (inr (ys, refl, h))
      | inr behind ↦ subst (λ b. AreMerged xs (y ∷ ys) (cond b (y ∷ z ∷ zs) (z ∷ insert_claim y zs)))
          (sym (le-ltb y.place z.place behind)) (elim h as (λ _. AreMerged xs (y ∷ ys) (z ∷ insert_claim y zs)) [
            | inl first ↦ inl (first.0, first.1, insert_merged y first.0 ys zs above first.2)
            | inr second ↦
                let lt = subst (AreAbove y.place) second.1 above in
                absurd (omega arith)
          ])
    ]

claims_merged : (xs ys : List StagedClaim) → AreRising ys → AreMerged xs ys (interleaved xs ys)
claims_merged xs [] rising = merged_nil xs
claims_merged xs (y ∷ ys) rising =
    insert_merged y xs ys (interleaved xs ys) rising.0 (claims_merged xs ys rising.1)

-- what a claim shows may come first
shown_first : (from place : ℕ) (m : Message) (stage : Stage) (xs ys zs : List StagedClaim)
    → AreMerged (sent_of xs) (sent_of ys) (sent_of zs)
    → let c : StagedClaim = record { from = from; place = place; message = m; stage = stage } in
    AreMerged (sent_of (c ∷ xs)) (sent_of ys) (sent_of (c ∷ zs))
    × AreMerged (sent_of xs) (sent_of (c ∷ ys)) (sent_of (c ∷ zs))
shown_first from place m Moved xs ys zs h = (h, h)
shown_first from place m Padded xs ys zs h = (h, h)
shown_first from place m (Stored Open) xs ys zs h = (h, h)
shown_first from place m (Stored Aborted) xs ys zs h = (h, h)
shown_first from place m (Stored Committed) xs ys zs h =
    (merged_left m (sent_of xs) (sent_of ys) (sent_of zs) h, merged_right m (sent_of xs) (sent_of ys) (sent_of zs) h)

sent_merged : (xs ys zs : List StagedClaim) → AreMerged xs ys zs → AreMerged (sent_of xs) (sent_of ys) (sent_of zs)
sent_merged xs ys [] h = (ap sent_of h.0, ap sent_of h.1)
sent_merged xs ys (z ∷ zs) (inl h) = subst (λ l. AreMerged (sent_of l) (sent_of ys) (sent_of (z ∷ zs))) (sym h.1)
    (shown_first z.from z.place z.message z.stage h.0 ys zs (sent_merged h.0 ys zs h.2)).0
sent_merged xs ys (z ∷ zs) (inr h) = subst (λ l. AreMerged (sent_of xs) (sent_of l) (sent_of (z ∷ zs))) (sym h.1)
    (shown_first z.from z.place z.message z.stage xs h.0 zs (sent_merged xs h.0 zs h.2)).1

pub interleaved_merged : (xs ys zs : List StagedClaim) → AreRising ys → zs ≡ interleaved xs ys
    → AreMerged (messages_of (placed_committed_of xs)) (messages_of (placed_committed_of ys))
    (messages_of (placed_committed_of zs))
interleaved_merged xs ys zs rising is = subst (λ l. AreMerged (sent_of xs) (sent_of ys) (sent_of l)) (sym is)
    (sent_merged xs ys (interleaved xs ys) (claims_merged xs ys rising))

-- A closed ring ----------------------------------------------------------------

same_shown : (from place : ℕ) (m : Message) (stage : Stage)
    → let c : StagedClaim = record { from = from; place = place; message = m; stage = stage } in shown (claim_of c)
    ≡ messages_of (shown_at stage (placed_message c))
same_shown from place m Moved = refl
same_shown from place m Padded = refl
same_shown from place m (Stored Open) = refl
same_shown from place m (Stored Committed) = refl
same_shown from place m (Stored Aborted) = refl

pub same_committed : (cs : List StagedClaim) → committed_of (unplaced cs) ≡ messages_of (placed_committed_of cs)
same_committed [] = refl
same_committed (c ∷ cs) =
    let here = shown_at c.stage (placed_message c) in
    (λ i. same_shown c.from c.place c.message c.stage i ++ same_committed cs i)
    ∙ sym (messages_of-append here (placed_committed_of cs))

pub whole : (C start : ℕ) (p r : View) (rest : Ring) → IsRing rest → HandsOut C start p r rest
    → IsWhole (sent_in p) (received_in r) rest
whole C start p r rest ring out =
    let passed = ap (λ l. messages_of l ++ sent_of out.left) out.messages in
    let all = ap sent_of out.whole ∙ sent_of-append out.passed out.left in
    record {
      unread = sent_of out.left;
      left = λ h has. (alike rest h (unplaced out.left) ring has out.has).messages ∙ same_committed out.left;
      all = passed ∙ sym all;
    }
