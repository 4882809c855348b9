-- A claim at the end of a ring's history.
use Rattle.std.proofs.Common.{◌≡◌, ◌≢◌, ℕ, ◌+◌, ◌/◌, ◌%◌, ◌<◌, ◌≤◌, List, [], ◌∷◌, ◌++◌, length, slice_index, slice_set, refl, ap, sym, ◌∙◌, subst, arith, inl, inr, get_or-set_other, get_or-set_same, length-set}
use Rattle.std.proofs.lemmas.{Bool.cases_lt, List.Elements.All-push, Nat.mod_below}
use Rattle.ring_layout.{specs.declared.message.Claim.Claim, proofs.CapacityLemmas.capacity_blocks}
use Rattle.ring_layout.specs.{History.IsMessage, History.span_of, Places.end_after, Places.end_of, Places.max_position}
use Rattle.ring_layout.specs.{Picture.word_at, Picture.IsPicture, Layout.head_index, Layout.tail_index}
use Rattle.ring_words.specs.Ring.{Ring, ring, Has, IsRing, head_of, tail_of}
use Rattle.ring_words.specs.{Change.AppendsClaim, Storing.Stores, Storing.IsAdmitted}
use Rattle.ring_layout.proofs.{Laps.apart, PlaceLemmas.next_le, PlaceLemmas.end_of-append, PlaceLemmas.end_of_aligned}
use Rattle.ring_layout.proofs.PictureLemmas.{word_at_past, word_at-append_before, word_at-append_after}

-- the words below C / 8 of a ring after its tail are 0
pub free_behind : (r : Ring) (h : List Claim) → Has r h → (p : ℕ) → p % 8 ≡ 0 → head_of r ≤ p → tail_of r ≤ p
    → p < head_of r + r.capacity → slice_index r.words (p % r.capacity / 8) ≡ 0
free_behind r h has p p8 hp tp lt =
    has.picture p p8 hp lt ∙ word_at_past r.capacity (head_of r) p h (omega (arith, has.ends))

module _ (r : Ring) (c : Claim) (w : List ℕ) (ok : IsRing r) (m : IsMessage r.capacity c.message)
    (fits : end_after r.capacity (tail_of r) (span_of c) ≤ head_of r + r.capacity)
    (limit : end_after r.capacity (tail_of r) (span_of c) ≤ max_position)
    (s : Stores r.capacity (tail_of r) c r.words w) where
  end : ℕ
  end = end_after r.capacity (tail_of r) (span_of c)

  unfoldable pub claimed : Ring
  claimed = record {
    capacity = r.capacity;
    words =
        slice_set w (tail_index r.capacity) (end_after r.capacity (tail_of r) (span_of c));
  }

  c8 : r.capacity % 8 ≡ 0
  c8 = omega (arith, capacity_blocks r.capacity ok.capacity)

  nonzero : 0 < r.capacity
  nonzero = omega (arith, ok.capacity.least)

  tail_le : tail_of r ≤ end_after r.capacity (tail_of r) (span_of c)
  tail_le = omega (arith, next_le r.capacity (tail_of r) (span_of c))

  -- the trailer keeps its words but the tail's
  others : (i : ℕ) → r.capacity / 8 ≤ i → i ≢ tail_index r.capacity
      → slice_index (slice_set w (tail_index r.capacity) (end_after r.capacity (tail_of r) (span_of c))) i
      ≡ slice_index r.words i
  others i le ne =
      get_or-set_other w (tail_index r.capacity) i _ 0 ne
      ∙ s.outside i (λ b. let low = mod_below b.0 r.capacity nonzero in let e = b.4 in omega (arith, c8))

  head_same : head_of claimed ≡ head_of r
  unfolding claimed
  head_same = others (head_index r.capacity) (omega arith) (λ e. omega arith)

  tail_is : tail_of claimed ≡ end_after r.capacity (tail_of r) (span_of c)
  unfolding claimed
  tail_is = get_or-set_same w (tail_index r.capacity) _ 0 (omega (arith, s.length, ok.length))

  -- the picture, from the old head
  picture : (h : List Claim) → Has r h → IsPicture
      (slice_index (slice_set w (tail_index r.capacity) (end_after r.capacity (tail_of r) (span_of c)))) r.capacity
      (head_of r) (h ++ c ∷ [])
  picture h has p p8 hp lt =
      let low = mod_below p r.capacity nonzero in
      let ne : p % r.capacity / 8 ≢ tail_index r.capacity = λ e. omega (arith, c8) in
      let stored = get_or-set_other w (tail_index r.capacity) (p % r.capacity / 8)
      (end_after r.capacity (tail_of r) (span_of c)) 0 ne in
      let order = ok.order in
      -- outside the record the word is the old one
      let kept : ((q : ℕ) → tail_of r ≤ q → q < end_after r.capacity (tail_of r) (span_of c) → p ≡ q → ⊥)
      → slice_index w (p % r.capacity / 8) ≡ word_at r.capacity (head_of r) h p =
      λ out. s.outside (p % r.capacity / 8) (λ b. out b.0 b.2 b.3
      (apart r.capacity (head_of r) p b.0 (record { some = nonzero; whole = c8 })
      (record { whole = p8; from = hp; below = lt })
      (record { whole = b.1; from = omega (arith, b.2); below = omega (arith, b.3, fits) }) (sym b.4)))
      ∙ has.picture p p8 hp lt in
      let Goal : Type 0 =
      slice_index (slice_set w (tail_index r.capacity) (end_after r.capacity (tail_of r) (span_of c)))
      (p % r.capacity / 8) ≡ word_at r.capacity (head_of r) (h ++ c ∷ []) p in
      elim (cases_lt p (tail_of r)) as (λ _. Goal) [
        | inl before ↦
            stored ∙ kept (λ q tq qe e. omega arith)
            ∙ sym (word_at-append_before r.capacity (head_of r) p h (c ∷ []) (omega (arith, has.ends)))
        | inr from ↦
            let moved : word_at r.capacity (head_of r) (h ++ c ∷ []) p ≡ word_at r.capacity (tail_of r) (c ∷ []) p =
            word_at-append_after r.capacity (head_of r) p h (c ∷ []) (omega (arith, has.ends))
            ∙ ap (λ e. word_at r.capacity e (c ∷ []) p) has.ends in
            elim (cases_lt p (end_after r.capacity (tail_of r) (span_of c))) as (λ _. Goal) [
              | inl in_record ↦ stored ∙ s.inside p p8 from in_record ∙ sym moved
              | inr behind ↦
                  stored ∙ kept (λ q tq qe e. omega arith)
                  ∙ word_at_past r.capacity (head_of r) p h (omega (arith, has.ends))
                  ∙ sym (word_at_past r.capacity (tail_of r) p (c ∷ []) behind) ∙ sym moved
            ]
      ]

  has_claimed : (h : List Claim) → Has r h → Has claimed (h ++ c ∷ [])
  unfolding claimed
  has_claimed h has = record {
    lawful = All-push (λ (x : Claim). IsMessage r.capacity x.message) h c has.lawful m;
    ends =
        ap (λ e. end_of r.capacity e (h ++ c ∷ [])) head_same ∙ end_of-append r.capacity (head_of r) h (c ∷ [])
        ∙ ap (λ e. end_after r.capacity e (span_of c)) has.ends ∙ sym tail_is;
    picture = subst
        (λ (e : ℕ). IsPicture
        (slice_index (slice_set w (tail_index r.capacity) (end_after r.capacity (tail_of r) (span_of c)))) r.capacity e
        (h ++ c ∷ [])) (sym head_same) (picture h has);
  }

  pub claims : AppendsClaim r c claimed
  unfolding claimed
  claims = record {
    capacity = refl;
    length = length-set w _ _ ∙ s.length;
    head = head_same;
    tail = tail_is;
    trailer = others;
    history = has_claimed;
  }

  pub is_ring_claimed : IsRing claimed
  unfolding claimed
  is_ring_claimed = record {
    capacity = ok.capacity;
    length = length-set w _ _ ∙ s.length ∙ ok.length;
    aligned = ap (λ n. n % 8) head_same ∙ ok.aligned;
    order = omega (arith, head_same, tail_is, ok.order, tail_le);
    room = omega (arith, head_same, tail_is, fits);
    limit = omega (arith, tail_is, limit);
    history = (ok.history.0 ++ c ∷ [], has_claimed ok.history.0 ok.history.1);
  }

-- the tail is a multiple of 8
pub tail_aligned : (r : Ring) → IsRing r → tail_of r % 8 ≡ 0
tail_aligned r ok =
    let has = ok.history.1 in
    let aligned = end_of_aligned r.capacity (head_of r) ok.history.0 (omega (arith, ok.capacity.least))
    (omega (arith, capacity_blocks r.capacity ok.capacity)) ok.aligned in
    omega (arith, aligned, has.ends)

-- the words after the tail are 0
pub free_of : (r : Ring) → IsRing r → (p : ℕ) → p % 8 ≡ 0 → tail_of r ≤ p → p < head_of r + r.capacity
    → slice_index r.words (p % r.capacity / 8) ≡ 0
free_of r ok p p8 tp lt = free_behind r ok.history.0 ok.history.1 p p8 (omega (arith, ok.order)) tp lt

-- what storing an admitted claim and then the tail does
pub appended : (r : Ring) (c : Claim) (w : List ℕ) (place end : ℕ) → IsRing r → IsMessage r.capacity c.message
    → IsAdmitted r (length c.message.body) place end
    → Stores r.capacity (tail_of r) c r.words w
    → AppendsClaim r c (ring r.capacity (slice_set w (tail_index r.capacity) end))
    × IsRing (ring r.capacity (slice_set w (tail_index r.capacity) end))
unfolding claimed
appended r c w place end ok m a s =
    let is : end ≡ end_after r.capacity (tail_of r) (span_of c) = omega (arith, a.is_place, a.is_end) in
    let fits : end_after r.capacity (tail_of r) (span_of c) ≤ head_of r + r.capacity = rw (sym is) a.fits in
    let limit : end_after r.capacity (tail_of r) (span_of c) ≤ max_position = rw (sym is) a.limit in
    subst (λ (e : ℕ). AppendsClaim r c (ring r.capacity (slice_set w (tail_index r.capacity) e))
    × IsRing (ring r.capacity (slice_set w (tail_index r.capacity) e)))
    (sym is)
    (claims r c w ok m fits limit s, is_ring_claimed r c w ok m fits limit s)
