-- A record or padding at the head is cleared, and the head is moved past it.
use Rattle.std.proofs.Common.{◌≡◌, ◌≢◌, ℕ, ◌+◌, ◌-◌, ◌*◌, ◌/◌, ◌%◌, ◌<◌, ◌≤◌, List, ◌∷◌, length, slice_index, slice_set, refl, ap, sym, ◌∙◌, subst, arith, ◌⊎◌, inl, inr, Some, All, get_or-set_other, get_or-set_same, length-set}
use Rattle.std.proofs.lemmas.{Bool.cases_lt, List.Elements.All-head, List.Elements.All-tail, Nat.mod_below}
use Rattle.std.proofs.Math.Nat.{add-mod_right}
use Rattle.ring_words.specs.declared.read.head.Settled.{Settled}
use Rattle.ring_layout.specs.{declared.message.Claim.Claim, Picture.word_at, Picture.claim_word, Picture.IsPicture}
use Rattle.ring_layout.specs.{History.IsMessage, History.span, History.span_of, Layout.head_index, Layout.tail_index}
use Rattle.ring_layout.specs.{Places.room, Places.next_place, Places.end_after, Places.end_of, Headers.padding_type}
use Rattle.ring_words.specs.Ring.{Ring, ring, Has, IsRing, head_of, tail_of}
use Rattle.ring_words.specs.Reading.{Sees, IsAtHead, Leaves, MovesHead}
use Rattle.ring_layout.proofs.{Laps.index_outside, Laps.mod_step, Laps.mod_aligned, CapacityLemmas.capacity_blocks}
use Rattle.ring_layout.proofs.PlaceLemmas.{next_cases, next_fixed, next_within, next_aligned, span_bounds, end_of_le}
use Rattle.ring_layout.proofs.PictureLemmas.{word_at_past, word_at_rest, word_at_record}

-- the words from the head on over n bytes are cleared
pub record Cleared (C head n : ℕ) (old new : List ℕ) : Type 0 where
  pub length : length new ≡ length old
  pub inside : (i : ℕ) → head % C / 8 ≤ i → i < head % C / 8 + n / 8 → slice_index new i ≡ 0
  pub below : (i : ℕ) → i < head % C / 8 → slice_index new i ≡ slice_index old i
  pub above : (i : ℕ) → head % C / 8 + n / 8 ≤ i → slice_index new i ≡ slice_index old i

module _ (r : Ring) (n : ℕ) (w : List ℕ) (ok : IsRing r) (n8 : n % 8 ≡ 0)
    (within : head_of r % r.capacity + n ≤ r.capacity) (reach : head_of r + n ≤ tail_of r)
    (cleared : Cleared r.capacity (head_of r) n r.words w) where
  c8 : r.capacity % 8 ≡ 0
  c8 = omega (arith, capacity_blocks r.capacity ok.capacity)

  nonzero : 0 < r.capacity
  nonzero = omega (arith, ok.capacity.least)

  unfoldable pub taken : Ring
  taken = ring r.capacity (slice_set w (head_index r.capacity) (head_of r + n))

  -- the buffer's words but the cleared ones, and the trailer's but the head
  kept : (i : ℕ) → i ≢ head_index r.capacity
      → (i < head_of r % r.capacity / 8) ⊎ (head_of r % r.capacity / 8 + n / 8 ≤ i)
      → slice_index (slice_set w (head_index r.capacity) (head_of r + n)) i ≡ slice_index r.words i
  kept i ne out =
      get_or-set_other w (head_index r.capacity) i (head_of r + n) 0 ne
      ∙ elim out as (λ _. slice_index w i ≡ slice_index r.words i)
      [ inl h ↦ cleared.below i h | inr h ↦ cleared.above i h ]

  trailer_kept : (i : ℕ) → r.capacity / 8 ≤ i → i ≢ head_index r.capacity
      → slice_index (slice_set w (head_index r.capacity) (head_of r + n)) i ≡ slice_index r.words i
  trailer_kept i le ne = kept i ne (inr (omega (arith, within, n8, c8)))

  head_is : head_of taken ≡ head_of r + n
  unfolding taken
  head_is = get_or-set_same w (head_index r.capacity) _ 0 (omega (arith, cleared.length, ok.length))

  tail_is : tail_of taken ≡ tail_of r
  unfolding taken
  tail_is = trailer_kept (tail_index r.capacity) (omega arith) (λ e. omega arith)

  picture : (h rest : List Claim) → Has r h → end_of r.capacity (head_of r + n) rest ≡ tail_of r
      → ((p : ℕ) → head_of r + n ≤ p → word_at r.capacity (head_of r) h p ≡ word_at r.capacity (head_of r + n) rest p)
      → IsPicture (slice_index (slice_set w (head_index r.capacity) (head_of r + n))) r.capacity (head_of r + n) rest
  picture h rest has ends same p p8 le lt =
      let low = mod_below p r.capacity nonzero in
      let aligned = ok.aligned in
      let ne : p % r.capacity / 8 ≢ head_index r.capacity = λ e. omega (arith, c8) in
      elim (cases_lt p (head_of r + r.capacity)) as (λ _. slice_index
      (slice_set w (head_index r.capacity) (head_of r + n)) (p % r.capacity / 8)
      ≡ word_at r.capacity (head_of r + n) rest p) [
        | inl near ↦
            kept (p % r.capacity / 8) ne (index_outside r.capacity (head_of r) (head_of r) n p
            (record { some = nonzero; whole = c8 })
            (record { whole = aligned; words = n8; within = within; from = omega arith; to = omega arith })
            (record { whole = p8; from = omega arith; below = near }) (inr le))
            ∙ has.picture p p8 (omega arith) near ∙ same p le
        | inr far ↦
            let q : ℕ = p - r.capacity in
            let back : p ≡ q + r.capacity = omega arith in
            let step : (head_of r + (q - head_of r)) % r.capacity ≡ head_of r % r.capacity + (q - head_of r) =
            mod_step r.capacity (head_of r) (q - head_of r) (omega (arith, within)) in
            let there : head_of r + (q - head_of r) ≡ q = omega arith in
            let lap : p % r.capacity ≡ head_of r % r.capacity + (q - head_of r) = ap (λ k. k % r.capacity) back
            ∙ add-mod_right q r.capacity ∙ ap (λ k. k % r.capacity) (sym there) ∙ step in
            get_or-set_other w (head_index r.capacity) (p % r.capacity / 8) (head_of r + n) 0 ne
            ∙ cleared.inside (p % r.capacity / 8) (omega arith)
            (omega (arith, n8, mod_aligned r.capacity (head_of r) c8 aligned))
            ∙ sym (word_at_past r.capacity (head_of r + n) p rest (omega (arith, ends, ok.room)))
      ]

  -- the claims that are left
  has_left : (h rest : List Claim) → Has r h → All (λ (x : Claim). IsMessage r.capacity x.message) rest
      → end_of r.capacity (head_of r + n) rest ≡ tail_of r
      → ((p : ℕ) → head_of r + n ≤ p → word_at r.capacity (head_of r) h p ≡ word_at r.capacity (head_of r + n) rest p)
      → Has taken rest
  unfolding taken
  has_left h rest has lawful ends same = record {
    lawful = lawful;
    ends = ap (λ e. end_of r.capacity e rest) head_is ∙ ends ∙ sym tail_is;
    picture = subst
        (λ (e : ℕ). IsPicture (slice_index (slice_set w (head_index r.capacity) (head_of r + n))) r.capacity e rest)
        (sym head_is) (picture h rest has ends same);
  }

  -- padding is passed: n is its length
  left_padding : (c : Claim) (rest : List Claim) → Has r (c ∷ rest)
      → head_of r + n ≡ next_place r.capacity (head_of r) (span_of c) → Has taken (c ∷ rest)
  left_padding c rest has is =
      let C : ℕ = r.capacity in
      let lawful = All-head (λ (x : Claim). IsMessage r.capacity x.message) c rest has.lawful in
      let short : span_of c ≤ C = omega (arith, lawful.short, span_bounds (length c.message.body), ok.capacity.least) in
      let place : next_place C (head_of r + n) (span_of c) ≡ head_of r + n =
      ap (λ e. next_place C e (span_of c)) is ∙ next_fixed C (head_of r) (span_of c) nonzero short ∙ sym is in
      let end : end_after C (head_of r + n) (span_of c) ≡ end_after C (head_of r) (span_of c) =
      omega (arith, place, is) in
      has_left (c ∷ rest) (c ∷ rest) has has.lawful (ap (λ e. end_of C e rest) end ∙ has.ends) (λ p le.
      elim (cases_lt p (end_after C (head_of r) (span_of c))) as (λ _. word_at C (head_of r) (c ∷ rest) p
      ≡ word_at C (head_of r + n) (c ∷ rest) p) [
        | inl h ↦
            word_at_record C (head_of r) p c rest (omega (arith, is)) h
            ∙ ap (λ e. claim_word c (p - e)) (sym is ∙ sym place)
            ∙ sym (word_at_record C (head_of r + n) p c rest (omega (arith, place)) (omega (arith, end)))
        | inr h ↦
            word_at_rest C (head_of r) p c rest h ∙ ap (λ e. word_at C e rest p) (sym end)
            ∙ sym (word_at_rest C (head_of r + n) p c rest (omega (arith, end)))
      ])

  -- a claim at the head is passed: n is its span
  left_claim : (c : Claim) (rest : List Claim) → Has r (c ∷ rest) → IsAtHead r c → n ≡ span_of c → Has taken rest
  left_claim c rest has at is =
      let C : ℕ = r.capacity in
      let end : end_after C (head_of r) (span_of c) ≡ head_of r + n = omega (arith, at, is) in
      has_left (c ∷ rest) rest has (All-tail (λ (x : Claim). IsMessage r.capacity x.message) c rest has.lawful)
      (ap (λ e. end_of C e rest) (sym end) ∙ has.ends)
      (λ p le. word_at_rest C (head_of r) p c rest (omega (arith, end)) ∙ ap (λ e. word_at C e rest p) end)

  pub moves : MovesHead r taken
  unfolding taken
  moves = record {
    capacity = refl;
    length = length-set w _ _ ∙ cleared.length;
    trailer = trailer_kept;
    on = omega (arith, head_is);
    within = omega (arith, head_is, within);
  }

  -- what is left of a history in which the header at the head was seen
  pub leaves : (s : Settled) (h : List Claim) → (s.len + 7) / 8 * 8 ≡ n → Has r h → Sees r h (Some s)
      → Leaves r h s taken
  leaves s h is has seen =
      let c : Claim = seen.0 in
      let rest : List Claim = seen.1 in
      let has' : Has r (c ∷ rest) = subst (λ (l : List Claim). Has r l) seen.2 has in
      elim seen.3 as (λ _. Leaves r h s taken) [
        | inl pad ↦
            let aligned = next_aligned r.capacity (head_of r) (span_of c) nonzero c8 ok.aligned in
            let a8 = ok.aligned in
            let reached : head_of r + n ≡ next_place r.capacity (head_of r) (span_of c) =
            omega (arith, pad.len, is, aligned) in (
              c,
              rest,
              seen.2,
              inl (
                pad,
                subst (λ (l : List Claim). Has taken l) (sym seen.2)
                    (left_padding c rest has' reached),
                head_is ∙ reached,
              ),
            )
        | inr claim ↦
            let at : IsAtHead r c = elim claim as (λ _. IsAtHead r c) [ inl a ↦ a.at_head | inr a ↦ a.at_head ] in
            let len : s.len ≡ 8 + length c.message.body =
            elim claim as (λ _. s.len ≡ 8 + length c.message.body) [ inl a ↦ a.len | inr a ↦ a.len ] in
            let same : n ≡ span_of c = omega (arith, len, is) in
            (c, rest, seen.2, inr (claim, left_claim c rest has' at same, head_is ∙ ap (λ k. head_of r + k) same))
      ]

  made : (h : List Claim) × Has taken h → IsRing taken
  unfolding taken
  made history = record {
    capacity = ok.capacity;
    length = length-set w _ _ ∙ cleared.length ∙ ok.length;
    aligned = omega (arith, head_is, n8, ok.aligned);
    order = omega (arith, head_is, tail_is);
    room = omega (arith, head_is, tail_is, ok.room);
    limit = omega (arith, tail_is, ok.limit);
    history = history;
  }

  pub is_ring_taken : (s : Settled) → (s.len + 7) / 8 * 8 ≡ n → Sees r ok.history.0 (Some s) → IsRing taken
  is_ring_taken s is seen =
      let l = leaves s ok.history.0 is ok.history.1 seen in
      let history : (h : List Claim) × Has taken h =
      elim l.3 as (λ _. (h : List Claim) × Has taken h) [ inl p ↦ (ok.history.0, p.1) | inr p ↦ (l.1, p.1) ] in
      made history

  pub head_there : head_of (ring r.capacity (slice_set w (head_index r.capacity) (head_of r + n))) ≡ head_of r + n
  unfolding taken
  head_there = head_is

-- what was seen at the head is before the end of the buffer and before the tail
pub record Reach (r : Ring) (len : ℕ) : Type 0 where
  pub some : 0 < len
  pub within : head_of r % r.capacity + (len + 7) / 8 * 8 ≤ r.capacity
  pub reach : head_of r + (len + 7) / 8 * 8 ≤ tail_of r

pub reach_of : (r : Ring) (h : List Claim) (s : Settled) → IsRing r → Has r h → Sees r h (Some s) → Reach r s.len
reach_of r h s ok has seen =
    let C : ℕ = r.capacity in
    let c : Claim = seen.0 in
    let rest : List Claim = seen.1 in
    let pos : 0 < C = omega (arith, ok.capacity.least) in
    let c8 : C % 8 ≡ 0 = omega (arith, capacity_blocks C ok.capacity) in
    let low = mod_below (head_of r) C pos in
    let has' : Has r (c ∷ rest) = subst (λ (l : List Claim). Has r l) seen.2 has in
    let lawful = All-head (λ (x : Claim). IsMessage C x.message) c rest has'.lawful in
    let bounds = span_bounds (length c.message.body) in
    let short : span_of c ≤ C = omega (arith, lawful.short, bounds, ok.capacity.least) in
    let far : end_after C (head_of r) (span_of c) ≤ tail_of r =
    omega (arith, end_of_le C (end_after C (head_of r) (span_of c)) rest, has'.ends) in
    elim seen.3 as (λ _. Reach r s.len) [
      | inl pad ↦
          let aligned = next_aligned C (head_of r) (span_of c) pos c8 ok.aligned in
          let a8 = ok.aligned in
          let room_there : next_place C (head_of r) (span_of c) ≡ head_of r + room C (head_of r) =
          elim (next_cases C (head_of r) (span_of c)) as (λ _. next_place C (head_of r) (span_of c)
          ≡ head_of r + room C (head_of r)) [ inl q ↦ absurd (omega (arith, pad.before, q.1)) | inr q ↦ q.1 ] in
          record {
            some = omega (arith, pad.len, pad.before);
            within = omega (arith, pad.len, room_there, aligned, a8);
            reach = omega (arith, pad.len, far, aligned, a8);
          }
      | inr claim ↦
          let at : IsAtHead r c = elim claim as (λ _. IsAtHead r c) [ inl a ↦ a.at_head | inr a ↦ a.at_head ] in
          let len : s.len ≡ 8 + length c.message.body =
          elim claim as (λ _. s.len ≡ 8 + length c.message.body) [ inl a ↦ a.len | inr a ↦ a.len ] in
          let within = next_within C (head_of r) (span_of c) pos short in
          let within' : head_of r % C + span_of c ≤ C = rw at at within in
          record {
            some = omega (arith, len);
            within = omega (arith, within', len);
            reach = omega (arith, far, len, at);
          }
    ]

-- the settled record or padding s at the head of r was taken, and new is left
pub record Taken (r : Ring) (s : Settled) (new : Ring) : Type 0 where
  pub ring : IsRing new
  pub moves : MovesHead r new
  pub on : head_of r < head_of new
  pub leaves : (h : List Claim) → Has r h → Leaves r h s new

pub taken_by : (r : Ring) (s : Settled) (n : ℕ) (w : List ℕ) → IsRing r
    → ((h : List Claim) → Has r h → Sees r h (Some s)) → (s.len + 7) / 8 * 8 ≡ n
    → Cleared r.capacity (head_of r) n r.words w
    → Taken r s (ring r.capacity (slice_set w (head_index r.capacity) (head_of r + n)))
unfolding taken
taken_by r s n w ok seen is cleared =
    let told = reach_of r ok.history.0 s ok ok.history.1 (seen ok.history.0 ok.history.1) in
    let n8 : n % 8 ≡ 0 = omega (arith, is) in
    let within : head_of r % r.capacity + n ≤ r.capacity = omega (arith, is, told.within) in
    let reach : head_of r + n ≤ tail_of r = omega (arith, is, told.reach) in
    record {
      ring = is_ring_taken r n w ok n8 within reach cleared s is (seen ok.history.0 ok.history.1);
      moves = moves r n w ok n8 within reach cleared;
      on = omega (arith, head_there r n w ok n8 within reach cleared, told.some, is);
      leaves = λ h has. leaves r n w ok n8 within reach cleared s h is has (seen h has);
    }

-- what was seen is a message: its body fits the scratch and is before the end of the buffer
pub record SeenMessage (r : Ring) (len : ℕ) : Type 0 where
  pub header : 8 ≤ len
  pub short : len - 8 ≤ r.capacity / 8
  pub within : head_of r % r.capacity + span (len - 8) ≤ r.capacity

pub message_of : (r : Ring) (h : List Claim) (s : Settled) → IsRing r → Has r h → Sees r h (Some s)
    → (s.type_id ≡ padding_type → ⊥) → SeenMessage r s.len
message_of r h s ok has seen ne =
    let c : Claim = seen.0 in
    let rest : List Claim = seen.1 in
    let has' : Has r (c ∷ rest) = subst (λ (l : List Claim). Has r l) seen.2 has in
    let lawful = All-head (λ (x : Claim). IsMessage r.capacity x.message) c rest has'.lawful in
    let reach = reach_of r h s ok has seen in
    elim seen.3 as (λ _. SeenMessage r s.len) [
      | inl pad ↦ absurd (ne pad.type_id)
      | inr claim ↦ elim claim as (λ _. SeenMessage r s.len) [
        | inl aborted ↦ absurd (ne aborted.type_id)
        | inr message ↦ record {
          header = omega (arith, message.len);
          short = omega (arith, message.len, lawful.short);
          within = omega (arith, message.len, reach.within);
        }
      ]
    ]
