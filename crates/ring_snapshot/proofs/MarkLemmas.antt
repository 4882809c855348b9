-- What a mark and a slot show of a claim or of padding.
use Rattle.std.proofs.Common.{◌≡◌, ◌≢◌, ℕ, ◌+◌, ◌*◌, ◌/◌, ◌%◌, ◌^◌, ◌<◌, ◌≤◌, List, length, slice_index, refl, ap, sym, ◌∙◌, arith, inl, inr, pos, neg_ℤ, nat_abs, ◌≤ℤ◌, true, ℤ, eq-eqb, ◌&&◌, ◌||◌, ◌==◌, ◌-◌, nat_le, nat_lt, int_lt, ne_eqb, le-leb, lt-ltb}
use Rattle.std.proofs.lemmas.{Bool.lt-leb, Bool.cond-true, Bool.cond-false, Int.ints}
use Rattle.ring_layout.specs.Marks.{padding_kind, open_kind, aborted_kind, committed_kind}
use Rattle.ring_layout.specs.{declared.message.Claim.Claim, History.span, Places.index, Places.IsCapacity}
use Rattle.ring_layout.specs.Headers.{header, header_of, padding_header, padding_type}
use Rattle.ring_layout.proofs.PlaceLemmas.{span_bounds}
use Rattle.ring_layout.proofs.HeaderLemmas.{len_of-header, type_of-header, fits_pos}
use Rattle.ring_words.proofs.HeadLemmas.{state_cases, header_open, header_committed, header_aborted}
use Rattle.ring_snapshot.specs.Marks.{HasMark, bytes_to, header_as, header_with, is_end, is_message_of, kind_in, kind_of, marked_header}
use Rattle.ring_snapshot.specs.RingRecords.{length_in, type_in}

-- a mark is above its position, and gives its bytes and its kind
shows : (C : ℕ) (slots : List ℕ) (tail mark at n kind : ℕ) → at % 8 ≡ 0 → n % 8 ≡ 0 → 0 < n → kind < 8
    → mark ≡ at + n + kind
    → header_with C slots tail mark at ≡ marked_header (tail - at) n kind (slice_index slots (index C at))
shows C slots tail mark at n kind at8 n8 some low is =
    let kinds : kind_in mark ≡ kind = omega (arith, at8, n8, low, is) in
    let bytes : bytes_to mark at ≡ n = omega (arith, at8, n8, low, is) in
    cond-false _ _ _ (lt-leb mark at (omega (arith, some, is)))
    ∙ (λ i. marked_header (tail - at) (bytes i) (kinds i) (slice_index slots (index C at)))

pub shows_padding : (C : ℕ) (slots : List ℕ) (tail mark at n : ℕ) → C ≤ 2 ^ 24
    → (at % 8 ≡ 0) × (n % 8 ≡ 0) → 0 < n → n ≤ C → mark ≡ at + n + padding_kind
    → header_with C slots tail mark at ≡ padding_header n
shows_padding C slots tail mark at n most whole some le is =
    shows C slots tail mark at n padding_kind whole.0 whole.1 some (omega arith) is
    ∙ cond-true _ _ _ (lt-ltb n (2 ^ 31) (omega (arith, most, le)))

pub above_zero : (z : ℤ) → pos 1 ≤ℤ z → int_lt (pos 0) z ≡ true
above_zero z h = grind (arith, ints)

module _ (C tail : ℕ) (slots : List ℕ) (place mark : ℕ) (c : Claim) (ok : IsCapacity C)
    (has : HasMark C tail slots place mark c) where
  abbrev n : ℕ
  n = length c.message.body

  abbrev slot : ℕ
  slot = slice_index slots (index C place)

  small : 8 + n < 2 ^ 31
  small = let short = has.lawful.short in omega (arith, short, ok.most)

  len_is : length_in slot ≡ pos (8 + n)
  len_is = ap length_in has.header ∙ len_of-header (pos (8 + n)) c.message.type_id (fits_pos (8 + n) small)

  type_is : type_in slot ≡ c.message.type_id
  type_is = ap type_in has.header
      ∙ type_of-header (pos (8 + n)) c.message.type_id (fits_pos (8 + n) small) has.lawful.type_fits

  is_message : (bytes kind : ℕ) → is_end (tail - place) bytes kind (span n) ≡ true
      → is_message_of (tail - place) bytes kind slot ≡ true
  is_message bytes kind ends =
      (λ i. int_lt (pos 0) (len_is i) && int_lt (pos 0) (type_is i)
      && is_end (tail - place) bytes kind ((nat_abs (len_is i) + 7) / 8 * 8))
      ∙ (λ i. int_lt (pos 0) (pos (8 + n)) && above_zero c.message.type_id has.lawful.type_id i && ends i)
      ∙ (let above : int_lt (pos 0) (pos (8 + n)) ≡ true = grind (arith) in ap (λ b. b && true && true) above)

  -- the header in the form of this kind, if the mark ends this many bytes after the place
  shows_in : (bytes kind : ℕ) → bytes % 8 ≡ 0 → 0 < bytes → kind ≤ aborted_kind → kind ≢ padding_kind
      → mark ≡ place + bytes + kind → is_end (tail - place) bytes kind (span n) ≡ true
      → header_with C slots tail mark place ≡ header_as kind slot
  shows_in bytes kind whole some le other is ends =
      shows C slots tail mark place bytes kind has.aligned whole some (omega (arith, le)) is
      ∙ cond-false _ _ _ (ne_eqb kind padding_kind other)
      ∙ cond-true _ _ _ ((λ i. le-leb kind aborted_kind le i && is_message bytes kind ends i))

  -- the claim has a mark of its own, or it is in a run
  shows_as : (kind : ℕ) → kind ≤ aborted_kind → kind ≢ padding_kind → kind_of c ≡ kind
      → header_with C slots tail mark place ≡ header_as kind slot
  shows_as kind le other is =
      let wide = span_bounds n in
      elim has.ends as (λ _. header_with C slots tail mark place ≡ header_as kind slot) [
        | inl own ↦ shows_in (span n) kind wide.0 (omega (arith, wide)) le other
            (own ∙ ap (λ k. place + span n + k) is)
            (ap (λ b. b || kind == committed_kind && nat_lt (span n) (span n) && nat_le (span n) (tail - place))
            (eq-eqb (span n) (span n) refl))
        | inr on ↦
            let committed : kind ≡ committed_kind = sym is ∙ on.committed in
            let bytes : ℕ = mark - place in
            let whole : bytes % 8 ≡ 0 = omega (arith, on.whole, has.aligned, on.before) in
            let longer : span n < bytes = omega (arith, on.before) in
            shows_in bytes kind whole (omega (arith, longer)) le other (omega (arith, committed, on.before))
            (ap (λ b. b || kind == committed_kind && nat_lt (span n) bytes && nat_le bytes (tail - place))
            (ne_eqb (span n) bytes (λ z. omega (arith, z, longer)))
            ∙ (λ i. eq-eqb kind committed_kind committed i && lt-ltb (span n) bytes longer i
            && le-leb bytes (tail - place) (omega (arith, on.near)) i))
      ]

  pub shows_claim : header_with C slots tail mark place ≡ header_of c
  shows_claim = elim (state_cases c.state) as (λ _. header_with C slots tail mark place ≡ header_of c) [
    | inl e ↦ shows_as open_kind (omega arith) (λ z. omega (arith, z)) (rw e refl)
        ∙ (λ i. header (neg_ℤ (len_is i)) (type_is i)) ∙ sym (header_open c e)
    | inr other ↦ elim other as (λ _. header_with C slots tail mark place ≡ header_of c) [
      | inl e ↦ shows_as committed_kind (omega arith) (λ z. omega (arith, z)) (rw e refl)
          ∙ has.header ∙ sym (header_committed c e)
      | inr e ↦ shows_as aborted_kind (omega arith) (λ z. omega (arith, z)) (rw e refl)
          ∙ (λ i. header (len_is i) padding_type) ∙ sym (header_aborted c e)
    ]
  ]
