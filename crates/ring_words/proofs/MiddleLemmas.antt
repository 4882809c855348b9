-- One claim of a history is replaced by one of the same span.
use Rattle.std.proofs.Common.{◌≡◌, ℕ, ◌+◌, ◌-◌, ◌*◌, ◌/◌, ◌%◌, ◌<◌, ◌≤◌, List, [], ◌∷◌, ◌++◌, length, drop, slice_index, ap, sym, ◌∙◌, subst, arith, ◌⊎◌, inl, inr, pos, All, refl, ne_eqb, w64}
use Rattle.std.proofs.lemmas.Bool.{cases_lt, cases_eq, cond-false}
use Rattle.std.proofs.lemmas.List.Elements.{All-append, All-cons, All-tail, All-head, All-nil}
use Rattle.ring_words.specs.Ring.{Ring, ring, Has, IsRing, head_of, tail_of}
use Rattle.ring_words.specs.Open.{ClaimAt, IsOpen, IsOpenClaim, IsOpenIn}
use Rattle.ring_words.specs.Change.{ChangesClaim, changed_at}
use Rattle.ring_layout.specs.{Bytes.HoldsBytes, Headers.header, Headers.header_of, Headers.padding_type}
use Rattle.ring_words.proofs.OpenLemmas.{Stands, open_stands, open_replaced, changed_at_there}
use Rattle.ring_words.proofs.{UniqueLemmas.open_in_each, StoreLemmas.record_inside}
use Rattle.std.specs.Int.{from_le_bytes}
use Rattle.ring_layout.specs.{Layout.head_index, Layout.tail_index, History.IsMessage, History.span, History.span_of}
use Rattle.ring_layout.specs.declared.message.{Claim.Claim, ClaimState.TheVariants.Open}
use Rattle.ring_layout.specs.Places.{index, next_place, place_behind, end_after, end_of}
use Rattle.ring_layout.specs.Picture.{word_at, claim_word, IsPicture}
use Rattle.ring_layout.proofs.PlaceLemmas.{next_le, next_within, next_aligned, end_of-append, end_of_le, end_of_aligned, span_bounds}
use Rattle.ring_layout.proofs.{CapacityLemmas.capacity_blocks, Laps.index_step, Laps.index_outside}
use Rattle.ring_layout.proofs.PictureLemmas.{word_at-append_before, word_at-append_after, word_at_padding, word_at_padding_header, word_at_record, word_at_rest}

module _ (C e : ℕ) (front back : List Claim) (c d : Claim) (same : span_of c ≡ span_of d) where
  pub end_same : end_of C e (front ++ c ∷ back) ≡ end_of C e (front ++ d ∷ back)
  end_same = end_of-append C e front (c ∷ back) ∙ ap (λ a. end_of C (end_after C (end_of C e front) a) back) same
      ∙ sym (end_of-append C e front (d ∷ back))

  -- inside its record the word is the claim's
  pub word_inside : (p : ℕ) → next_place C (end_of C e front) (span_of c) ≤ p
      → p < end_after C (end_of C e front) (span_of c)
      → word_at C e (front ++ c ∷ back) p ≡ claim_word c (p - next_place C (end_of C e front) (span_of c))
  word_inside p le lt =
      word_at-append_after C e p front (c ∷ back) (omega (arith, next_le C (end_of C e front) (span_of c)))
      ∙ word_at_record C (end_of C e front) p c back le lt

  -- outside it the word does not depend on the claim
  pub word_outside : (p : ℕ) → (p < next_place C (end_of C e front) (span_of c))
      ⊎ (end_after C (end_of C e front) (span_of c) ≤ p)
      → word_at C e (front ++ c ∷ back) p ≡ word_at C e (front ++ d ∷ back) p
  word_outside p out =
      let q : ℕ = end_of C e front in
      let Goal : Type 0 = word_at C e (front ++ c ∷ back) p ≡ word_at C e (front ++ d ∷ back) p in
      let place : next_place C q (span_of c) ≡ next_place C q (span_of d) = ap (next_place C q) same in
      let end : end_after C q (span_of c) ≡ end_after C q (span_of d) = ap (end_after C q) same in
      elim (cases_lt p q) as (λ _. Goal) [
        | inl before ↦ word_at-append_before C e p front (c ∷ back) before
            ∙ sym (word_at-append_before C e p front (d ∷ back) before)
        | inr behind ↦
            word_at-append_after C e p front (c ∷ back) behind
            ∙ elim out as (λ _. word_at C q (c ∷ back) p ≡ word_at C q (d ∷ back) p) [
              | inl pad ↦ elim (cases_eq p q) as (λ _. word_at C q (c ∷ back) p ≡ word_at C q (d ∷ back) p) [
                | inl is ↦
                    ap (λ k. word_at C q (c ∷ back) k) is ∙ word_at_padding_header C q c back (omega arith)
                    ∙ ap (λ k. header (pos (k - q)) padding_type) place
                    ∙ sym (word_at_padding_header C q d back (omega (arith, place)))
                    ∙ sym (ap (λ k. word_at C q (d ∷ back) k) is)
                | inr is_not ↦ word_at_padding C q p c back pad is_not
                    ∙ sym (word_at_padding C q p d back (omega (arith, place)) is_not)
              ]
              | inr far ↦
                  word_at_rest C q p c back far ∙ ap (λ k. word_at C k back p) end
                  ∙ sym (word_at_rest C q p d back (omega (arith, end)))
            ]
            ∙ sym (word_at-append_after C e p front (d ∷ back) behind)
      ]

All-take-front : (P : Claim → Type 0) (xs ys : List Claim) → All P (xs ++ ys) → All P xs
All-take-front P [] ys h = All-nil P
All-take-front P (x ∷ xs) ys h =
    All-cons P x xs (All-head P x (xs ++ ys) h) (All-take-front P xs ys (All-tail P x (xs ++ ys) h))

All-drop-front : (P : Claim → Type 0) (xs ys : List Claim) → All P (xs ++ ys) → All P ys
All-drop-front P [] ys h = h
All-drop-front P (x ∷ xs) ys h = All-drop-front P xs ys (All-tail P x (xs ++ ys) h)

-- new has the words of d where c was, and otherwise the words of the ring r
pub record Replaces (r : Ring) (front : List Claim) (c d : Claim) (new : List ℕ) : Type 0 where
  pub length : length new ≡ length r.words
  pub trailer : (i : ℕ) → r.capacity / 8 ≤ i → slice_index new i ≡ slice_index r.words i
  pub inside : (p : ℕ) → p % 8 ≡ 0 → next_place r.capacity (end_of r.capacity (head_of r) front) (span_of c) ≤ p
      → p < end_after r.capacity (end_of r.capacity (head_of r) front) (span_of c)
      → slice_index new (p % r.capacity / 8) ≡ claim_word d
      (p - next_place r.capacity (end_of r.capacity (head_of r) front) (span_of c))
  pub outside : (p : ℕ) → p % 8 ≡ 0 → head_of r ≤ p → p < head_of r + r.capacity
      → (p < next_place r.capacity (end_of r.capacity (head_of r) front) (span_of c))
      ⊎ (end_after r.capacity (end_of r.capacity (head_of r) front) (span_of c) ≤ p)
      → slice_index new (p % r.capacity / 8) ≡ slice_index r.words (p % r.capacity / 8)

pub has_replaced : (r : Ring) (front back : List Claim) (c d : Claim) (new : List ℕ) → span_of c ≡ span_of d
    → IsMessage r.capacity d.message
    → Has r (front ++ c ∷ back) → Replaces r front c d new → Has (ring r.capacity new) (front ++ d ∷ back)
has_replaced r front back c d new same lawful has s =
    let C : ℕ = r.capacity in
    let e : ℕ = head_of r in
    let q : ℕ = end_of C e front in
    let head : head_of (ring C new) ≡ head_of r = s.trailer (head_index C) (omega arith) in
    let tail : tail_of (ring C new) ≡ tail_of r = s.trailer (tail_index C) (omega arith) in
    let P : Claim → Type 0 = λ x. IsMessage C x.message in
    let fronts : All P front = All-take-front P front (c ∷ back) has.lawful in
    let backs : All P back = All-tail P c back (All-drop-front P front (c ∷ back) has.lawful) in
    let picture : IsPicture (slice_index new) C e (front ++ d ∷ back) = λ p p8 le lt.
    elim (cases_lt p (next_place C q (span_of c))) as (λ _. slice_index new (p % C / 8)
    ≡ word_at C e (front ++ d ∷ back) p) [
      | inl before ↦ s.outside p p8 le lt (inl before) ∙ has.picture p p8 le lt
          ∙ word_outside C e front back c d same p (inl before)
      | inr from ↦ elim (cases_lt p (end_after C q (span_of c))) as (λ _. slice_index new (p % C / 8)
          ≡ word_at C e (front ++ d ∷ back) p) [
            | inr far ↦ s.outside p p8 le lt (inr far) ∙ has.picture p p8 le lt
                ∙ word_outside C e front back c d same p (inr far)
            | inl within ↦
                let place : next_place C q (span_of c) ≡ next_place C q (span_of d) = ap (next_place C q) same in
                s.inside p p8 from within ∙ ap (λ k. claim_word d (p - k)) place
                ∙ sym (word_inside C e front back d c (sym same) p (omega (arith, place)) (omega (arith, place, same)))
          ]
    ] in
    record {
      lawful = All-append P front (d ∷ back) fronts (All-cons P d back lawful backs);
      ends =
          ap (λ k. end_of C k (front ++ d ∷ back)) head ∙ sym (end_same C e front back c d same) ∙ has.ends ∙ sym tail;
      picture = subst (λ (k : ℕ). IsPicture (slice_index new) C k (front ++ d ∷ back)) (sym head) picture;
    }

-- where a claim of the ring is
pub record Lies (r : Ring) (c : Claim) (place : ℕ) : Type 0 where
  pub aligned : place % 8 ≡ 0
  pub from : head_of r ≤ place
  pub reach : place + span_of c ≤ head_of r + r.capacity
  pub within : place % r.capacity + span_of c ≤ r.capacity

pub lies : (r : Ring) (front back : List Claim) (c : Claim) (place : ℕ) → IsRing r → Has r (front ++ c ∷ back)
    → place_behind r.capacity (head_of r) front c ≡ place → Lies r c place
lies r front back c place ok has is =
    let C : ℕ = r.capacity in
    let e : ℕ = head_of r in
    let q : ℕ = end_of C e front in
    let some : 0 < C = omega (arith, ok.capacity.least) in
    let c8 : C % 8 ≡ 0 = omega (arith, capacity_blocks C ok.capacity) in
    let q8 = end_of_aligned C e front some c8 ok.aligned in
    let lawful = All-head (λ (x : Claim). IsMessage C x.message) c back
    (All-drop-front (λ (x : Claim). IsMessage C x.message) front (c ∷ back) has.lawful) in
    let short : span_of c ≤ C = omega (arith, lawful.short, span_bounds (length c.message.body), ok.capacity.least) in
    let whole : end_of C (end_after C q (span_of c)) back ≡ tail_of r =
    sym (end_of-append C e front (c ∷ back)) ∙ has.ends in
    record {
      aligned = ap (λ n. n % 8) (sym is) ∙ next_aligned C q (span_of c) some c8 q8;
      from = omega (arith, is, end_of_le C e front, next_le C q (span_of c));
      reach = omega (arith, is, whole, end_of_le C (end_after C q (span_of c)) back, ok.room);
      within = let w = next_within C q (span_of c) some short in let lap : place % C ≡ next_place C q (span_of c) % C =
          ap (λ n. n % C) (sym is) in omega (arith, w, lap);
    }

-- the words of the ring hold the claim's body
pub holds : (r : Ring) (front back : List Claim) (c : Claim) (place : ℕ) → IsRing r → Has r (front ++ c ∷ back)
    → place_behind r.capacity (head_of r) front c ≡ place
    → HoldsBytes r.words (index r.capacity place + 1) c.message.body
holds r front back c place ok has is = λ k lt.
    let C : ℕ = r.capacity in
    let c8 : C % 8 ≡ 0 = omega (arith, capacity_blocks C ok.capacity) in
    let l = lies r front back c place ok has is in
    let bounds = span_bounds (length c.message.body) in
    let p : ℕ = place + 8 * (k + 1) in
    let a8 = l.aligned in
    let step : index C p ≡ index C place + 1 + k =
    index_step C place (k + 1) c8 a8 (omega (arith, l.within, bounds)) ∙ omega arith in
    let offset : p - place_behind C (head_of r) front c ≡ 8 * (k + 1) = omega (arith, is) in
    let back_to : 8 * (k + 1) - 8 ≡ 8 * k = omega arith in
    ap (slice_index r.words) (sym step)
    ∙ has.picture p (omega arith) (omega (arith, l.from)) (omega (arith, l.reach, bounds))
    ∙ word_inside C (head_of r) front back c c refl p (omega (arith, is)) (omega (arith, is, bounds))
    ∙ ap (claim_word c) offset
    ∙ cond-false _ _ _ (ne_eqb (8 * (k + 1)) 0 (λ z. omega arith))
    ∙ ap (λ n. from_le_bytes w64 (drop n c.message.body)) back_to

-- new has the words of the changed claim where the open claim t is, and otherwise the words of the ring
pub record Rewrites (r : Ring) (t : ClaimAt) (change : Claim → Claim) (new : List ℕ) : Type 0 where
  pub same_span : (c : Claim) → length c.message.body ≡ t.len → span_of c ≡ span_of (change c)
  pub is_lawful : (c : Claim) → length c.message.body ≡ t.len → IsMessage r.capacity c.message
      → IsMessage r.capacity (change c).message
  pub same_length : length new ≡ length r.words
  pub header_word : (c : Claim) → c.state ≡ Open → c.message.type_id ≡ t.type_id → length c.message.body ≡ t.len
      → slice_index r.words (index r.capacity t.place) ≡ header_of c
      → slice_index new (index r.capacity t.place) ≡ header_of (change c)
  pub body_words : (c : Claim) → length c.message.body ≡ t.len → IsMessage r.capacity c.message
      → HoldsBytes r.words (index r.capacity t.place + 1) c.message.body
      → HoldsBytes new (index r.capacity t.place + 1) (change c).message.body
  pub others : (i : ℕ) → (i < index r.capacity t.place) ⊎ (index r.capacity t.place + span t.len / 8 ≤ i)
      → slice_index new i ≡ slice_index r.words i

module _ (r : Ring) (t : ClaimAt) (change : Claim → Claim) (new : List ℕ) (ok : IsRing r) (is_open : IsOpen r t)
    (w : Rewrites r t change new) where
  some : 0 < r.capacity
  some = omega (arith, ok.capacity.least)

  c8 : r.capacity % 8 ≡ 0
  c8 = omega (arith, capacity_blocks r.capacity ok.capacity)

  -- each history has the claim
  stands : (h : List Claim) → Has r h → Stands r.capacity (head_of r) h t
  stands h has = open_stands r.capacity (head_of r) h t (open_in_each r t h ok is_open has)

  module _ (h : List Claim) (has : Has r h) (s : Stands r.capacity (head_of r) h t) where
    has' : Has r (s.front ++ s.claim ∷ s.back)
    has' = subst (λ (l : List Claim). Has r l) s.whole has

    lawful : IsMessage r.capacity s.claim.message
    lawful = All-head (λ (x : Claim). IsMessage r.capacity x.message) s.claim s.back
        (All-drop-front (λ (x : Claim). IsMessage r.capacity x.message) s.front (s.claim ∷ s.back) has'.lawful)

    there : Lies r s.claim t.place
    there = lies r s.front s.back s.claim t.place ok has' s.is.at_place

    header_there : slice_index r.words (index r.capacity t.place) ≡ header_of s.claim
    header_there =
        let C : ℕ = r.capacity in
        let bounds = span_bounds (length s.claim.message.body) in
        let is = s.is.at_place in
        let none : t.place - place_behind C (head_of r) s.front s.claim ≡ 0 = omega (arith, is) in
        has'.picture t.place there.aligned there.from (omega (arith, there.reach, bounds))
        ∙ word_inside C (head_of r) s.front s.back s.claim s.claim refl t.place (omega (arith, is))
        (omega (arith, is, bounds))
        ∙ ap (claim_word s.claim) none

    replaces : Replaces r s.front s.claim (change s.claim) new
    replaces =
        let C : ℕ = r.capacity in
        let is = s.is.at_place in
        let n : ℕ = span_of s.claim in
        let size : span t.len ≡ n = ap span (sym s.is.len) in
        let bounds = span_bounds (length s.claim.message.body) in
        let same = w.same_span s.claim s.is.len in
        let a8 = there.aligned in
        let header = w.header_word s.claim s.is.is_open s.is.type_id s.is.len header_there in
        let body = w.body_words s.claim s.is.len lawful (holds r s.front s.back s.claim t.place ok has' is) in
        record {
          length = w.same_length;
          trailer = λ i le. w.others i (inr (omega (arith, size, there.within, bounds, c8)));
          inside = λ p p8 le lt.
              record_inside C t.place (change s.claim) new c8
              (record { whole = a8; within = omega (arith, there.within, same); header = header; body = body }) p
              (record { whole = p8; from = omega (arith, is); below = omega (arith, is, same) })
              ∙ ap (λ k. claim_word (change s.claim) (p - k)) (sym is);
          outside = λ p p8 le lt out.
              let far : (p < t.place) ⊎ (t.place + n ≤ p) =
              elim out as (λ _. (p < t.place) ⊎ (t.place + n ≤ p))
              [ inl b ↦ inl (omega (arith, is)) | inr b ↦ inr (omega (arith, is)) ] in
              let index_out = index_outside C (head_of r) t.place n p (record { some = some; whole = c8 })
              (record { whole = a8; words = bounds.0; within = there.within; from = there.from; to = there.reach })
              (record { whole = p8; from = le; below = lt }) far in
              w.others (index C p)
              (elim index_out as (λ _. (index C p < index C t.place)
              ⊎ (index C t.place + span t.len / 8 ≤ index C p))
              [ inl b ↦ inl b | inr b ↦ inr (omega (arith, size)) ]);
        }

    has_replaced_there : Has (ring r.capacity new) (s.front ++ change s.claim ∷ s.back)
    has_replaced_there = has_replaced r s.front s.back s.claim (change s.claim) new (w.same_span s.claim s.is.len)
        (w.is_lawful s.claim s.is.len lawful) has' replaces

    changed_is : changed_at r.capacity (head_of r) t.place change h ≡ s.front ++ change s.claim ∷ s.back
    changed_is = (λ i. changed_at r.capacity (head_of r) (sym s.is.at_place i) change (s.whole i))
        ∙ changed_at_there r.capacity (head_of r) s.front s.claim s.back change

    pub has_changed : Has (ring r.capacity new) (changed_at r.capacity (head_of r) t.place change h)
    has_changed = subst (λ (l : List Claim). Has (ring r.capacity new) l) (sym changed_is) has_replaced_there

  trailer : (i : ℕ) → r.capacity / 8 ≤ i → slice_index new i ≡ slice_index r.words i
  trailer = (replaces is_open.history is_open.has (stands is_open.history is_open.has)).trailer

  head_same : head_of (ring r.capacity new) ≡ head_of r
  head_same = trailer (head_index r.capacity) (omega arith)

  tail_same : tail_of (ring r.capacity new) ≡ tail_of r
  tail_same = trailer (tail_index r.capacity) (omega arith)

  pub changes : ChangesClaim r t.place change (ring r.capacity new)
  changes = record {
    capacity = refl;
    length = w.same_length;
    trailer = trailer;
    history =
        λ h has. has_changed h has (stands h has);
  }

  pub is_ring_changed : IsRing (ring r.capacity new)
  is_ring_changed = record {
    capacity = ok.capacity;
    length = w.same_length ∙ ok.length;
    aligned = ap (λ n. n % 8) head_same ∙ ok.aligned;
    order = omega (arith, head_same, tail_same, ok.order);
    room = omega (arith, head_same, tail_same, ok.room);
    limit = omega (arith, tail_same, ok.limit);
    history = (
      changed_at r.capacity (head_of r) t.place change is_open.history,
      has_changed is_open.history is_open.has
          (stands is_open.history is_open.has),
    );
  }

  -- another open claim stays open, and so does this one if the change leaves it open
  pub stays : (d : ClaimAt) → ((c : Claim) (e : ℕ) → length c.message.body ≡ t.len
      → next_place r.capacity e (span_of c) ≡ t.place → IsOpenClaim r.capacity e c d
      → IsOpenClaim r.capacity e (change c) d)
      → IsOpen r d → IsOpen (ring r.capacity new) d
  stays d keeps o =
      let s = stands o.history o.has in
      let at = subst (λ (l : List Claim). IsOpenIn r.capacity (head_of r) l d) s.whole o.is_open in
      let now = open_replaced r.capacity (head_of r) s.front s.claim (change s.claim) s.back d
      (w.same_span s.claim s.is.len) (keeps s.claim (end_of r.capacity (head_of r) s.front) s.is.len s.is.at_place)
      at in
      record {
        index = o.index;
        history = s.front ++ change s.claim ∷ s.back;
        has = has_replaced_there o.history o.has s;
        is_open = subst (λ (k : ℕ). IsOpenIn r.capacity k (s.front ++ change s.claim ∷ s.back) d) (sym head_same) now;
      }

-- where an open claim is in the buffer
pub record OpenLies (r : Ring) (t : ClaimAt) : Type 0 where
  pub short : t.len ≤ r.capacity / 8
  pub within : index r.capacity t.place + span t.len / 8 ≤ r.capacity / 8

pub open_lies : (r : Ring) (t : ClaimAt) → IsRing r → IsOpen r t → OpenLies r t
open_lies r t ok o =
    let s = open_stands r.capacity (head_of r) o.history t o.is_open in
    let has' = subst (λ (l : List Claim). Has r l) s.whole o.has in
    let lawful = All-head (λ (x : Claim). IsMessage r.capacity x.message) s.claim s.back
    (All-drop-front (λ (x : Claim). IsMessage r.capacity x.message) s.front (s.claim ∷ s.back) has'.lawful) in
    let l = lies r s.front s.back s.claim t.place ok has' s.is.at_place in
    let size : span t.len ≡ span_of s.claim = ap span (sym s.is.len) in
    record {
      short = omega (arith, lawful.short, s.is.len);
      within = omega (
        arith,
        l.within,
        size,
        capacity_blocks r.capacity ok.capacity,
        span_bounds
            (length s.claim.message.body),
      );
    }
