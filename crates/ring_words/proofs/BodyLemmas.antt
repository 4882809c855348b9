-- The body of the record at the head, from the words.
use Rattle.std.proofs.Common.{◌≡◌, ℕ, ◌+◌, ◌-◌, ◌*◌, ◌/◌, ◌%◌, ◌^◌, ◌<◌, ◌≤◌, List, ◌∷◌, length, drop, slice_index, ap, sym, ◌∙◌, arith, inl, inr, ℤ, w64, ne_eqb, ext_get_or, get_or-drop}
use Rattle.std.specs.Int.{from_le_bytes, to_le_bytes}
use Rattle.std.proofs.lemmas.Bool.{cases_lt, cond-false}
use Rattle.std.proofs.lemmas.List.{get_or_past, Elements.All-head, Elements.All-get_or}
use Rattle.ring_layout.specs.{declared.message.Claim.Claim, declared.message.Message.Message, Picture.claim_word}
use Rattle.ring_layout.specs.{History.IsMessage, History.overwritten, History.span_of, Places.next_place}
use Rattle.ring_words.specs.{Ring.Ring, Ring.Has, Ring.IsRing, Ring.head_of, Reading.IsAtHead}
use Rattle.ring_layout.proofs.{Laps.index_step, PictureLemmas.word_at_record}
use Rattle.ring_layout.proofs.{CapacityLemmas.capacity_blocks, PlaceLemmas.next_within, PlaceLemmas.span_bounds}
use Rattle.ring_layout.proofs.WordBytes.{byte_of_bytes, byte_of_word, length-overwritten, overwritten_before, overwritten_inside}

-- the first n bytes are those of the words from `at` on
abbrev pub CopiesWords : List ℕ → ℕ → ℕ → List ℕ → Type 0
CopiesWords words at n bytes =
    (j : ℕ) → j < n → j < length bytes → slice_index bytes j ≡ slice_index words (at + j / 8) / 2 ^ (8 * (j % 8)) % 256

-- the next bytes come from one word
pub more_copied : (words old new part : List ℕ) (at k : ℕ) → 8 * k + length part ≤ length old → length part ≤ 8
    → new ≡ overwritten (8 * k) part old
    → ((i : ℕ) → i < length part → slice_index part i ≡ slice_index words (at + k) / 2 ^ (8 * i) % 256)
    → CopiesWords words at (8 * k) old → (length new ≡ length old) × CopiesWords words at (8 * k + length part) new
more_copied words old new part at k room few is told before = (
  ap length is ∙ length-overwritten (8 * k) part old room,
  λ j below inside. ap (λ l. slice_index l j) is
      ∙ elim (cases_lt j (8 * k)) as (λ _. slice_index (overwritten (8 * k) part old) j
      ≡ slice_index words (at + j / 8) / 2 ^ (8 * (j % 8)) % 256) [
        | inl early ↦ overwritten_before (8 * k) part old j room early ∙ before j early (omega arith)
        | inr late ↦
            let quotient : j / 8 ≡ k = omega arith in
            let remainder : j % 8 ≡ j - 8 * k = omega arith in
            overwritten_inside (8 * k) part old j room late (omega arith)
            ∙ told (j - 8 * k) (omega arith)
            ∙ ap (λ i. slice_index words (at + k) / 2 ^ (8 * i) % 256) (sym remainder)
            ∙ ap (λ i. slice_index words (at + i) / 2 ^ (8 * (j % 8)) % 256) (sym quotient)
      ],
)

pub word_copied : (words old new : List ℕ) (at k : ℕ) → 8 * k + 8 ≤ length old
    → new ≡ overwritten (8 * k) (to_le_bytes w64 (slice_index words (at + k))) old
    → CopiesWords words at (8 * k) old → (length new ≡ length old) × CopiesWords words at (8 * k + 8) new
word_copied words old new at k room is before =
    more_copied words old new (to_le_bytes w64 (slice_index words (at + k))) at k room (omega arith) is
    (byte_of_bytes (slice_index words (at + k))) before

module _ (r : Ring) (c : Claim) (rest : List Claim) (ok : IsRing r) (has : Has r (c ∷ rest)) (at : IsAtHead r c) where
  lawful : IsMessage r.capacity c.message
  lawful = All-head (λ (x : Claim). IsMessage r.capacity x.message) c rest has.lawful

  short : span_of c ≤ r.capacity
  short = omega (arith, lawful.short, span_bounds (length c.message.body), ok.capacity.least)

  within : head_of r % r.capacity + span_of c ≤ r.capacity
  within = let w = next_within r.capacity (head_of r) (span_of c) (omega (arith, ok.capacity.least)) short in let e =
      at in rw e at w

  byte_small : (j : ℕ) → slice_index c.message.body j < 256
  byte_small j =
      elim (cases_lt j (length c.message.body)) as (λ _. slice_index c.message.body j < 256) [
        | inl h ↦ All-get_or (λ (b : ℕ). b < 256) c.message.body j 0 h lawful.bytes
        | inr h ↦ omega (arith, get_or_past c.message.body j 0 h)
      ]

  -- the words after the header
  body_word : (j : ℕ) → 8 * j < length c.message.body
      → slice_index r.words (head_of r % r.capacity / 8 + 1 + j) ≡ from_le_bytes w64 (drop (8 * j) c.message.body)
  body_word j lt =
      let C : ℕ = r.capacity in
      let p : ℕ = head_of r + 8 * (j + 1) in
      let c8 : C % 8 ≡ 0 = omega (arith, capacity_blocks C ok.capacity) in
      let bounds = span_bounds (length c.message.body) in
      let aligned = ok.aligned in
      let step = index_step C (head_of r) (j + 1) c8 aligned (omega (arith, within, bounds)) in
      let index : head_of r % C / 8 + 1 + j ≡ p % C / 8 = omega (arith, step) in
      let offset : p - next_place C (head_of r) (span_of c) ≡ 8 * (j + 1) = omega (arith, at) in
      let back : 8 * (j + 1) - 8 ≡ 8 * j = omega arith in
      ap (slice_index r.words) index
      ∙ has.picture p (omega arith) (omega arith) (omega (arith, short, bounds))
      ∙ word_at_record C (head_of r) p c rest (omega (arith, at)) (omega (arith, at, bounds))
      ∙ ap (claim_word c) offset
      ∙ cond-false _ _ _ (ne_eqb (8 * (j + 1)) 0 (λ e. omega arith))
      ∙ ap (λ n. from_le_bytes w64 (drop n c.message.body)) back

  pub body_is : (bs : List ℕ) → length c.message.body ≡ length bs
      → ((k : ℕ) → k < length bs → slice_index bs k
      ≡ slice_index r.words (head_of r % r.capacity / 8 + 1 + k / 8) / 2 ^ (8 * (k % 8)) % 256)
      → bs ≡ c.message.body
  body_is bs len each =
      ext_get_or 0 bs c.message.body (sym len) (λ k lt.
      each k lt
      ∙ ap (λ w. w / 2 ^ (8 * (k % 8)) % 256) (body_word (k / 8) (omega arith))
      ∙ byte_of_word (drop (8 * (k / 8)) c.message.body)
      (λ j. let e = get_or-drop (8 * (k / 8)) c.message.body j 0 in omega (arith, e, byte_small (8 * (k / 8) + j)))
      (k % 8) (omega arith)
      ∙ get_or-drop (8 * (k / 8)) c.message.body (k % 8) 0
      ∙ ap (slice_index c.message.body) (omega arith))

pub message_ext : (m : Message) (type_id : ℤ) (body : List ℕ) → type_id ≡ m.type_id → body ≡ m.body
    → m ≡ record { type_id = type_id; body = body }
message_ext m type_id body p q = sym (λ i. record { type_id = p i; body = q i })
