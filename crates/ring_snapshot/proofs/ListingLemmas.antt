-- The words of a history list its records.
use Rattle.std.proofs.Common.{◌≡◌, ℕ, zero, suc, ◌+◌, ◌-◌, ◌*◌, ◌/◌, ◌%◌, ◌^◌, ◌<◌, ◌≤◌, Bool, List, [], ◌∷◌, length, drop, slice_index, refl, ap, sym, ◌∙◌, arith, inl, inr, ℤ, pos, neg_ℤ, nat_abs, ◌≤ℤ◌, FitsSigned, true, false, Ok, rules, int_lt, not, ◌&&◌, if◌then◌else◌, w32, w64, ne_eqb}
use Rattle.std.specs.Int.{from_le_bytes}
use Rattle.std.proofs.lemmas.{Bool.cond-true, Bool.cond-false, List.Elements.All-head, List.Elements.All-tail}
use Rattle.ring_layout.specs.{declared.message.Claim.Claim, Headers.header, Headers.header_of, Headers.padding_type}
use Rattle.ring_layout.specs.declared.message.ClaimState.TheVariants.{Open, Committed, Aborted}
use Rattle.ring_layout.specs.{History.IsMessage, History.span_of, History.span, Picture.claim_word}
use Rattle.ring_layout.specs.Places.{IsCapacity, index, room, next_place, end_of, rounded}
use Rattle.ring_layout.proofs.{Laps.index_step, Laps.mod_aligned, CapacityLemmas.capacity_blocks}
use Rattle.ring_layout.proofs.PlaceLemmas.{next_le, next_cases, next_within, next_aligned, span_bounds, end_of_le}
use Rattle.ring_layout.proofs.PictureLemmas.{word_at_padding_header, word_at_record, word_at_rest}
use Rattle.ring_layout.proofs.HeaderLemmas.{len_of-header, fits_pos, fits_neg}
use Rattle.ring_words.proofs.HeadLemmas.{state_cases, header_open, header_committed, header_aborted}
use Rattle.ring_counters.specs.Records.{bytes_at}
use Rattle.ring_snapshot.specs.{declared.record.Record.Record, Listing.ok_records}
use Rattle.ring_snapshot.specs.declared.record.RecordState.TheVariants as shown
use Rattle.ring_snapshot.specs.RingRecords.{length_in, is_length, is_padding_type, passed_at, message_at, entry_for, entry_at, listing, claim_as, record_of_claim, records_of, Lie}
use Rattle.ring_snapshot.proofs.EntryLemmas.{not_padding, not_below_one, decoded, body_told}
use Rattle.ring_snapshot.proofs.StepLemmas.{listing_ends, IsThere, from_before}

-- ---- numbers

pub abs_neg : (n : ℕ) → nat_abs (neg_ℤ (pos n)) ≡ n
abs_neg zero = refl
abs_neg (suc n) = refl

neg_below : (n : ℕ) → 0 < n → int_lt (neg_ℤ (pos n)) (pos 0) ≡ true
neg_below zero h = absurd (omega arith)
neg_below (suc n) h = refl

not_negative : (k : ℕ) → int_lt (pos k) (pos 0) ≡ false
not_negative k = grind (arith)

-- ---- an entry

pub length_fits : (C tail at n : ℕ) → 8 ≤ n → n ≤ 8 + C / 8 → rounded n ≤ room C at → at + rounded n ≤ tail
    → is_length C tail at n ≡ true
length_fits C tail at n a b c d = grind (arith, a, b, c, d)

for_passed : (C : ℕ) (words : List ℕ) (tail at n : ℕ) → 8 ≤ n → is_length C tail at n ≡ true
    → entry_for C words tail at (pos n) padding_type ≡ Ok (passed_at C at n)
for_passed C words tail at n some fits =
    cond-false _ _ _ (ap not fits) ∙ cond-true _ _ _
    (let above : int_lt (pos 0) (pos n) ≡ true =
    grind (arith, some) in ap (λ b. b && is_padding_type padding_type) above)

module _ (C : ℕ) (words : List ℕ) (tail at : ℕ) (len type_id : ℤ) where
  for_message : pos 1 ≤ℤ type_id → is_length C tail at (nat_abs len) ≡ true
      → entry_for C words tail at len type_id ≡ Ok (message_at C words at len type_id)
  for_message lawful fits =
      cond-false _ _ _ (ap not fits)
      ∙ cond-false _ _ _ (ap (λ b. int_lt (pos 0) len && b) (not_padding type_id lawful) ∙ search rules)
      ∙ cond-false _ _ _ (not_below_one type_id lawful)

  -- a header with a length is not 0
  entry_decoded : slice_index words (index C at) ≡ header len type_id → FitsSigned w32 len → FitsSigned w32 type_id
      → (len ≡ pos 0 → ⊥)
      → entry_at C words tail at ≡ entry_for C words tail at len type_id
  entry_decoded is f g some =
      let some_word : slice_index words (index C at) ≡ 0 → ⊥ =
      λ z. some (sym (len_of-header len type_id f) ∙ ap length_in (sym is ∙ z)) in
      cond-false _ _ _ (ne_eqb _ 0 some_word) ∙ decoded (entry_for C words tail at) _ len type_id is f g

-- ---- a claim as a record

-- what holds of it, by the state of the claim
by_state : (C place : ℕ) (c : Claim) (P : Record → Type 0)
    → (c.state ≡ Open → P (claim_as C place c shown.Open (8 + length c.message.body) c.message.body))
    → (c.state ≡ Committed → P (claim_as C place c shown.Committed (8 + length c.message.body) c.message.body))
    → (c.state ≡ Aborted → P (passed_at C place (8 + length c.message.body)))
    → P (record_of_claim C place c)
by_state C place c P waits committed aborted = elim (state_cases c.state) as (λ _. P (record_of_claim C place c)) [
  | inl e ↦ rw e (waits e)
  | inr other ↦ elim other as (λ _. P (record_of_claim C place c)) [
    | inl e ↦ rw e (committed e)
    | inr e ↦ rw e (aborted e)
  ]
]

-- ---- one claim

module _ (C : ℕ) (words : List ℕ) (tail e : ℕ) (c : Claim) (h : List Claim) (ok : IsCapacity C) (aligned : e % 8 ≡ 0)
    (lie : Lie C words tail e (c ∷ h)) where
  abbrev n : ℕ
  n = length c.message.body

  abbrev place : ℕ
  place = next_place C e (span_of c)

  lawful : IsMessage C c.message
  lawful = All-head (λ (x : Claim). IsMessage C x.message) c h lie.lawful

  c8 : C % 8 ≡ 0
  c8 = omega (arith, capacity_blocks C ok)

  bounds : (span n % 8 ≡ 0) × (8 + n ≤ span n) × (span n ≤ n + 15)
  bounds = span_bounds n

  short : span n ≤ C
  short = omega (arith, lawful.short, bounds, ok.least)

  begins : e ≤ place
  begins = next_le C e (span_of c)

  end_below : place + span n ≤ tail
  end_below = let far = end_of_le C (place + span n) h in let ends : end_of C (place + span n) h ≡ tail =
      lie.ends in omega (arith, far, ends)

  place_aligned : place % 8 ≡ 0
  place_aligned = next_aligned C e (span_of c) (omega (arith, ok.least)) c8 aligned

  within : place % C + span n ≤ C
  within = next_within C e (span_of c) (omega (arith, ok.least)) short

  small : 8 + n < 2 ^ 31
  small = omega (arith, lawful.short, ok.most)

  -- the word at the place, and those of the body
  header_word : slice_index words (index C place) ≡ header_of c
  header_word =
      lie.picture place place_aligned begins (omega (arith, end_below, bounds))
      ∙ word_at_record C e place c h (omega arith) (omega (arith, bounds))
      ∙ ap (claim_word c) (let z : place - place ≡ 0 = omega arith in z)

  record_fits : is_length C tail place (8 + n) ≡ true
  record_fits =
      length_fits C tail place (8 + n) (omega arith) (omega (arith, lawful.short)) (omega (arith, within)) end_below

  body_word : (j : ℕ) → 8 * j < n → slice_index words (place % C / 8 + 1 + j)
      ≡ from_le_bytes w64 (drop (8 * j) c.message.body)
  body_word j lt =
      let p : ℕ = place + 8 * (j + 1) in
      let step = index_step C place (j + 1) c8 place_aligned (omega (arith, within, bounds)) in
      let at : place % C / 8 + 1 + j ≡ p % C / 8 = omega (arith, step) in
      let offset : p - place ≡ 8 * (j + 1) = omega arith in
      let back : 8 * (j + 1) - 8 ≡ 8 * j = omega arith in
      ap (slice_index words) at
      ∙ lie.picture p (omega (arith, place_aligned)) (omega (arith, begins)) (omega (arith, end_below, bounds))
      ∙ word_at_record C e p c h (omega arith) (omega (arith, bounds))
      ∙ ap (claim_word c) offset
      ∙ cond-false _ _ _ (ne_eqb (8 * (j + 1)) 0 (λ z. omega arith))
      ∙ ap (λ k. from_le_bytes w64 (drop k c.message.body)) back

  body_is : bytes_at words (place % C + 8) n ≡ c.message.body
  body_is = body_told words c.message.body (place % C) lawful.bytes (mod_aligned C place c8 place_aligned) body_word

  -- the entry at the place: of a claim with its body, whose length is negative if it is open
  message_entry : (len : ℤ) (is_open : Bool) → header_of c ≡ header len c.message.type_id → FitsSigned w32 len
      → nat_abs len ≡ 8 + n → int_lt len (pos 0) ≡ is_open
      → entry_at C words tail place
      ≡ Ok (claim_as C place c (if is_open then shown.Open else shown.Committed) (8 + n) c.message.body)
  message_entry len is_open head fits long sign =
      let less : 8 + n - 8 ≡ n = omega arith in
      let body : bytes_at words (place % C + 8) (nat_abs len - 8) ≡ c.message.body =
      ap (λ k. bytes_at words (place % C + 8) (k - 8)) long ∙ ap (bytes_at words (place % C + 8)) less ∙ body_is in
      entry_decoded C words tail place len c.message.type_id (header_word ∙ head) fits lawful.type_fits
      (λ z. let bad : 8 + n ≡ 0 = sym long ∙ ap nat_abs z in omega (arith, bad))
      ∙ for_message C words tail place len c.message.type_id lawful.type_id
      (ap (is_length C tail place) long ∙ record_fits)
      ∙ (λ i. Ok (claim_as C place c (if sign i then shown.Open else shown.Committed) (long i) (body i)))

  passed_entry : header_of c ≡ header (pos (8 + n)) padding_type
      → entry_at C words tail place ≡ Ok (passed_at C place (8 + n))
  passed_entry head =
      entry_decoded C words tail place (pos (8 + n)) padding_type (header_word ∙ head) (fits_pos (8 + n) small)
      record { sfits = omega arith }
      (λ z. let bad : 8 + n ≡ 0 = ap nat_abs z in omega (arith, bad))
      ∙ for_passed C words tail place (8 + n) (omega arith) record_fits

  claim_entry : entry_at C words tail place ≡ Ok (record_of_claim C place c)
  claim_entry = by_state C place c (λ r. entry_at C words tail place ≡ Ok r)
      (λ o. message_entry (neg_ℤ (pos (8 + n))) true (header_open c o) (fits_neg (8 + n) small) (abs_neg (8 + n))
      (neg_below (8 + n) (omega arith)))
      (λ o. message_entry (pos (8 + n)) false (header_committed c o) (fits_pos (8 + n) small) refl
      (not_negative (8 + n)))
      (λ o. passed_entry (header_aborted c o))

  claim_there : IsThere (λ (r : Record). r.length) (entry_at C words tail) tail place (place + span n)
      (record_of_claim C place c)
  claim_there = record {
    some_room = omega (arith, bounds);
    inside = end_below;
    ends = ap (λ k. place + rounded k)
        (by_state C place c (λ r. r.length ≡ 8 + n) (λ _. refl) (λ _. refl) (λ _. refl));
    there = claim_entry;
  }

  -- the padding before it
  module _ (before : e < place) where
    abbrev pad : ℕ
    pad = place - e

    pad_is_room : (pad ≡ room C e) × (room C e < span n)
    pad_is_room = elim (next_cases C e (span_of c)) as (λ _. (place - e ≡ room C e) × (room C e < span n)) [
      | inl here ↦ absurd (omega (arith, here.1, before))
      | inr next ↦ (omega (arith, next.1), next.0)
    ]

    pad_whole : (8 ≤ pad) × (pad % 8 ≡ 0)
    pad_whole = (omega (arith, aligned, place_aligned, before), omega (arith, aligned, place_aligned, before))

    pad_there : IsThere (λ (r : Record). r.length) (entry_at C words tail) tail e place (passed_at C e pad)
    pad_there =
        let b = pad_whole in
        let is = pad_is_room.0 in
        let few = pad_is_room.1 in
        let whole : rounded pad ≡ pad = omega (arith, b) in
        record {
          some_room = omega (arith, b, before);
          inside = omega (arith, end_below);
          ends = omega (arith, whole, before);
          there = entry_decoded C words tail e (pos pad) padding_type
              (lie.picture e aligned (omega arith) (omega (arith, before, end_below))
              ∙ word_at_padding_header C e c h before)
              (fits_pos pad (omega (arith, few, is, short, ok.most))) record { sfits = omega arith }
              (λ z. let bad : pad ≡ 0 = ap nat_abs z in omega (arith, b, bad))
              ∙ for_passed C words tail e pad b.0 (length_fits C tail e pad b.0
              (omega (arith, b.1, few, is, lawful.short, bounds, capacity_blocks C ok))
              (omega (arith, whole, is)) (omega (arith, whole, end_below, before)));
        }

  -- what is after it
  rest_lies : Lie C words tail (place + span n) h
  rest_lies = record {
    lawful = All-tail (λ (x : Claim). IsMessage C x.message) c h lie.lawful;
    ends = lie.ends;
    picture = λ p whole from lt. lie.picture p whole (omega (arith, begins, bounds)) lt ∙ word_at_rest C e p c h from;
  }

-- ---- the whole

pub exact : (C : ℕ) (words : List ℕ) (tail : ℕ) → IsCapacity C → (h : List Claim) (m e : ℕ) → e % 8 ≡ 0
    → tail ≤ e + 8 * m → Lie C words tail e h
    → listing C words tail m e ≡ ok_records (records_of C e h)
exact C words tail ok [] m e aligned enough lie =
    listing_ends (λ (r : Record). r.length) (entry_at C words tail) tail m e
    (let ends : e ≡ tail = lie.ends in omega (arith, ends))
exact C words tail ok (c ∷ h) m e aligned enough lie =
    let place : ℕ = next_place C e (span_of c) in
    let end : ℕ = place + span (length c.message.body) in
    let b = span_bounds (length c.message.body) in
    let whole = place_aligned C words tail e c h ok aligned lie in
    from_before (λ (r : Record). r.length) (entry_at C words tail) tail e place end (passed_at C e (place - e))
    (record_of_claim C place c) (records_of C end h) (begins C words tail e c h ok aligned lie)
    (pad_there C words tail e c h ok aligned lie) (claim_there C words tail e c h ok aligned lie)
    (λ k much. exact C words tail ok h k end (omega (arith, whole, b)) much
    (rest_lies C words tail e c h ok aligned lie)) m enough
