-- The words after a record is stored.
use Rattle.std.proofs.Common.{◌≡◌, ◌≢◌, ℕ, ◌+◌, ◌-◌, ◌*◌, ◌/◌, ◌%◌, ◌<◌, ◌≤◌, List, [], ◌∷◌, length, drop, slice_index, slice_set, ap, sym, ◌∙◌, arith, ◌⊎◌, inl, inr, pos, get_or-set_other, get_or-set_same, w64, eq-eqb, ne_eqb, length-set}
use Rattle.std.proofs.lemmas.{Nat.mod_below, Bool.cases_lt, Bool.cases_eq, Bool.cond-true, Bool.cond-false}
use Rattle.std.specs.Int.{from_le_bytes}
use Rattle.ring_layout.specs.{declared.message.Claim.Claim, Headers.header, Headers.header_of, Headers.padding_type}
use Rattle.ring_layout.specs.{History.span_of, Places.next_place, Picture.word_at, Picture.claim_word}
use Rattle.ring_words.specs.Storing.{Stores}
use Rattle.ring_layout.proofs.Laps.{IsInLap, index_step, index_outside, apart}
use Rattle.ring_layout.proofs.PlaceLemmas.{next_le, next_within, next_aligned, span_bounds}
use Rattle.ring_layout.proofs.PictureLemmas.{word_at_padding, word_at_padding_header, word_at_record}

-- header and body of a record are at its place, from which it does not cross the end of the buffer
pub record HoldsRecord (C place : ℕ) (c : Claim) (w : List ℕ) : Type 0 where
  pub whole : place % 8 ≡ 0
  pub within : place % C + span_of c ≤ C
  pub header : slice_index w (place % C / 8) ≡ header_of c
  pub body : (k : ℕ) → 8 * k < length c.message.body
      → slice_index w (place % C / 8 + 1 + k) ≡ from_le_bytes w64 (drop (8 * k) c.message.body)

-- the words of one record, from its header and its body
pub record_inside : (C place : ℕ) (c : Claim) (w : List ℕ) → C % 8 ≡ 0 → HoldsRecord C place c w → (p : ℕ)
    → IsInLap (span_of c) place p → slice_index w (p % C / 8) ≡ claim_word c (p - place)
record_inside C place c w c8 holds p at =
    let l8 = holds.whole in
    let within = holds.within in
    let p8 = at.whole in
    let le = at.from in
    let lt = at.below in
    elim (cases_eq (p - place) 0) as (λ _. slice_index w (p % C / 8) ≡ claim_word c (p - place)) [
      | inl z ↦
          let same : p ≡ place = omega arith in
          ap (λ q. slice_index w (q % C / 8)) same ∙ holds.header ∙ sym (cond-true _ _ _ (eq-eqb (p - place) 0 z))
      | inr n ↦
          let k : ℕ = (p - place) / 8 - 1 in
          let same : p ≡ place + 8 * (k + 1) = omega arith in
          let step = index_step C place (k + 1) c8 l8 (omega arith) in
          let index : p % C / 8 ≡ place % C / 8 + 1 + k = ap (λ q. q % C / 8) same ∙ step ∙ omega arith in
          let offset : 8 * k ≡ p - place - 8 = omega arith in
          ap (slice_index w) index ∙ holds.body k (omega arith) ∙ ap (λ j. from_le_bytes w64 (drop j c.message.body))
          offset
          ∙ sym (cond-false _ _ _ (ne_eqb (p - place) 0 n))
    ]

-- what the code stores: the padding's header if there is padding, then the record's header, then the body
pub record Steps (C tail place : ℕ) (c : Claim) (w0 w1 w2 w3 : List ℕ) : Type 0 where
  pub blocks : C % 8 ≡ 0
  pub nonzero : 0 < C
  pub aligned : tail % 8 ≡ 0
  pub is_place : place ≡ next_place C tail (span_of c)
  pub short : span_of c ≤ C
  pub fits : place + span_of c ≤ tail + C
  pub room : C / 8 ≤ length w0
  pub free : (p : ℕ) → p % 8 ≡ 0 → tail ≤ p → p < tail + C → p < place + span_of c → slice_index w0 (p % C / 8) ≡ 0
  pub padded : tail < place → w1 ≡ slice_set w0 (tail % C / 8) (header (pos (place - tail)) padding_type)
  pub plain : place ≤ tail → w1 ≡ w0
  pub headed : w2 ≡ slice_set w1 (place % C / 8) (header_of c)
  pub body : (k : ℕ) → 8 * k < length c.message.body
      → slice_index w3 (place % C / 8 + 1 + k) ≡ from_le_bytes w64 (drop (8 * k) c.message.body)
  pub below : (i : ℕ) → i < place % C / 8 + 1 → slice_index w3 i ≡ slice_index w2 i
  pub above : (i : ℕ) → place % C / 8 + 1 + (length c.message.body + 7) / 8 ≤ i → slice_index w3 i ≡ slice_index w2 i
  pub length : length w3 ≡ length w2

module _ (C tail place : ℕ) (c : Claim) (w0 w1 w2 w3 : List ℕ) (s : Steps C tail place c w0 w1 w2 w3) where
  l8 : place % 8 ≡ 0
  l8 = rw s.is_place (next_aligned C tail (span_of c) s.nonzero s.blocks s.aligned)

  within : place % C + span_of c ≤ C
  within = rw s.is_place (next_within C tail (span_of c) s.nonzero s.short)

  behind : tail ≤ place
  behind = rw s.is_place (next_le C tail (span_of c))

  n8 : span_of c % 8 ≡ 0
  n8 = (span_bounds (length c.message.body)).0

  -- an index outside the record keeps what it had after the padding was stored
  kept : (i : ℕ) → (i < place % C / 8) ⊎ (place % C / 8 + span_of c / 8 ≤ i) → slice_index w3 i ≡ slice_index w1 i
  kept i out =
      let ne : i ≢ place % C / 8 = elim out as (λ _. i ≢ place % C / 8)
      [ inl h ↦ λ e. omega arith | inr h ↦ λ e. omega (arith, span_bounds (length c.message.body)) ] in
      let last : slice_index w2 i ≡ slice_index w1 i =
      ap (λ w. slice_index w i) s.headed ∙ get_or-set_other w1 (place % C / 8) i (header_of c) 0 ne in
      elim out as (λ _. slice_index w3 i ≡ slice_index w1 i)
      [ inl h ↦ s.below i (omega arith) ∙ last | inr h ↦ s.above i (omega arith) ∙ last ]

  -- an index other than the padding header's keeps what it had before
  unpadded : (i : ℕ) → (tail < place → i ≢ tail % C / 8) → slice_index w1 i ≡ slice_index w0 i
  unpadded i ne =
      elim (cases_lt tail place) as (λ _. slice_index w1 i ≡ slice_index w0 i) [
        | inl h ↦ ap (λ w. slice_index w i) (s.padded h) ∙ get_or-set_other w0 (tail % C / 8) i _ 0 (ne h)
        | inr h ↦ ap (λ w. slice_index w i) (s.plain h)
      ]

  w1_length : length w1 ≡ length w0
  w1_length =
      elim (cases_lt tail place) as (λ _. length w1 ≡ length w0)
      [ inl h ↦ ap length (s.padded h) ∙ length-set w0 _ _ | inr h ↦ ap length (s.plain h) ]

  index_below : (p : ℕ) → p % C / 8 < length w0
  index_below p = let low = mod_below p C s.nonzero in omega (arith, s.room, s.blocks)

  head_there : slice_index w3 (place % C / 8) ≡ header_of c
  head_there =
      let fits : place % C / 8 < length w1 = omega (arith, index_below place, w1_length) in
      s.below (place % C / 8) (omega arith) ∙ ap (λ w. slice_index w (place % C / 8)) s.headed
      ∙ get_or-set_same w1 (place % C / 8) (header_of c) 0 fits

  out_of : (p : ℕ) → p % 8 ≡ 0 → tail ≤ p → p < tail + C → (p < place) ⊎ (place + span_of c ≤ p)
      → (p % C / 8 < place % C / 8) ⊎ (place % C / 8 + span_of c / 8 ≤ p % C / 8)
  out_of p p8 le lt out =
      index_outside C tail place (span_of c) p (record { some = s.nonzero; whole = s.blocks })
      (record { whole = l8; words = n8; within = within; from = behind; to = s.fits })
      (record { whole = p8; from = le; below = lt }) out

  in_padding : (p : ℕ) → p % 8 ≡ 0 → tail ≤ p → p < place → slice_index w3 (p % C / 8) ≡ word_at C tail (c ∷ []) p
  in_padding p p8 le lt =
      let padded : tail < place = omega arith in
      let in_window : p < tail + C = omega (arith, s.fits) in
      let there = kept (p % C / 8) (out_of p p8 le in_window (inl lt)) in
      let before : p < next_place C tail (span_of c) = omega (arith, s.is_place) in
      elim (cases_eq p tail) as (λ _. slice_index w3 (p % C / 8) ≡ word_at C tail (c ∷ []) p) [
        | inl is ↦
            let index : p % C / 8 ≡ tail % C / 8 = ap (λ q. q % C / 8) is in
            let pad = ap (λ w. slice_index w (tail % C / 8)) (s.padded padded)
            ∙ get_or-set_same w0 (tail % C / 8) _ 0 (index_below tail) in
            there ∙ ap (slice_index w1) index ∙ pad ∙ ap (λ q. header (pos (q - tail)) padding_type) s.is_place
            ∙ sym (word_at_padding_header C tail c [] (omega (arith, s.is_place)))
            ∙ ap (λ q. word_at C tail (c ∷ []) q) (sym is)
        | inr is_not ↦
            let ne : tail < place → p % C / 8 ≢ tail % C / 8 =
            λ _ e. is_not (apart C tail p tail (record { some = s.nonzero; whole = s.blocks })
            (record { whole = p8; from = le; below = in_window })
            (record { whole = s.aligned; from = omega arith; below = omega (arith, s.nonzero) }) e) in
            there ∙ unpadded (p % C / 8) ne ∙ s.free p p8 le in_window (omega arith)
            ∙ sym (word_at_padding C tail p c [] before is_not)
      ]

  pub stores : Stores C tail c w0 w3
  stores =
      let is = s.is_place in
      record {
        length = s.length ∙ ap length s.headed ∙ length-set w1 _ _ ∙ w1_length;
        inside = λ p p8 le lt.
            elim (cases_lt p place) as (λ _. slice_index w3 (p % C / 8) ≡ word_at C tail (c ∷ []) p) [
              | inl h ↦ in_padding p p8 le h
              | inr h ↦
                  record_inside C place c w3 s.blocks
                  (record { whole = l8; within = within; header = head_there; body = s.body }) p
                  (record { whole = p8; from = h; below = omega (arith, is) })
                  ∙ ap (λ q. claim_word c (p - q)) is
                  ∙ sym (word_at_record C tail p c [] (omega (arith, is)) lt)
            ];
        outside = λ i out.
            let at : ℕ = place % C / 8 in
            let ne : tail < place → i ≢ tail % C / 8 =
            λ h e. out (tail, s.aligned, omega arith, omega (arith, is), sym e) in
            let far : (i < at) ⊎ (at + span_of c / 8 ≤ i) =
            elim (cases_lt i at) as (λ _. (i < at) ⊎ (at + span_of c / 8 ≤ i)) [
              | inl h ↦ inl h
              | inr h ↦ elim (cases_lt i (at + span_of c / 8)) as (λ _. (i < at) ⊎ (at + span_of c / 8 ≤ i)) [
                | inl k ↦
                    let step = index_step C place (i - at) s.blocks l8 (omega (arith, within, n8)) in
                    absurd (out (
                      place + 8 * (i - at),
                      omega (arith, l8),
                      omega (arith, behind),
                      omega
                          (arith, is, n8),
                      omega arith,
                    ))
                | inr k ↦ inr k
              ]
            ] in
            kept i far ∙ unpadded i ne;
      }
