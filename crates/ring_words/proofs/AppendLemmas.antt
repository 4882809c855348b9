-- An admitted claim is stored after the tail: the headers, then the body, then the tail.
use Rattle.std.proofs.Common.{◌≡◌, ◌≢◌, ℕ, ◌+◌, ◌-◌, ◌*◌, ◌/◌, ◌%◌, ◌<◌, ◌≤◌, List, [], length, drop, slice_index, slice_set, replicate, refl, ap, sym, ◌∙◌, arith, inl, inr, get_or-set_other, ℤ, pos, ◌≤ℤ◌, ◌^◌, FitsSigned, to_z, of_z, w32, w64, lt-ltb, le-ltb, get_or-drop}
use Rattle.std.specs.Int.{from_le_bytes}
use Rattle.std.proofs.lemmas.{Int.to_z-of_z, Bool.cases_lt, Bool.cond-true, Bool.cond-false, Nat.mod_below}
use Rattle.std.proofs.lemmas.List.{Elements.All-from_get_or, get_or-replicate, get_or_past, length-replicate}
use Rattle.ring_layout.{specs.declared.message.Claim.Claim, proofs.Laps.index_step, proofs.Laps.apart}
use Rattle.ring_layout.specs.{History.IsMessage, History.span, History.span_of, Places.index, Places.next_place}
use Rattle.ring_layout.specs.{Headers.header_of, Headers.open_header, Headers.padding_header, Layout.tail_index}
use Rattle.ring_layout.proofs.{CapacityLemmas.capacity_blocks, WordBytes.from_le_bytes-same}
use Rattle.ring_layout.proofs.PlaceLemmas.{next_le, next_within, next_aligned, span_bounds}
use Rattle.ring_words.specs.Ring.{Ring, ring, IsRing, tail_of}
use Rattle.ring_words.specs.{Change.AppendsClaim, Change.opened, Change.written, Storing.IsAdmitted, Storing.padded}
use Rattle.ring_words.proofs.{ClaimLemmas.appended, ClaimLemmas.tail_aligned, ClaimLemmas.free_of, StoreLemmas.stores}

-- an admitted claim is not before the tail
pub tail_first : (r : Ring) (tail len place end : ℕ) → tail ≡ tail_of r → IsAdmitted r len place end → tail ≤ place
tail_first r tail len place end at admitted =
    omega (arith, at, admitted.is_place, next_le r.capacity (tail_of r) (span len))

-- a body of zeros is words of zero
pub zero_words : (n k : ℕ) → from_le_bytes w64 (drop k (replicate n 0)) ≡ 0
zero_words n k =
    from_le_bytes-same (drop k (replicate n 0)) [] (λ i lt.
    get_or-drop k (replicate n 0) i 0
    ∙ elim (cases_lt (k + i) n) as (λ _. slice_index (replicate n 0) (k + i) ≡ 0) [
      | inl h ↦ get_or-replicate n (k + i) 0 0 h
      | inr h ↦ get_or_past (replicate n 0) (k + i) 0
          (let zeros : List ℕ = replicate n 0 in let l : length zeros ≡ n = length-replicate n 0 in omega arith)
    ])

module _ (r : Ring) (c : Claim) (place end : ℕ) (ok : IsRing r) (lawful : IsMessage r.capacity c.message)
    (admitted : IsAdmitted r (length c.message.body) place end) where
  blocks : r.capacity % 8 ≡ 0
  blocks = omega (arith, capacity_blocks r.capacity ok.capacity)

  nonzero : 0 < r.capacity
  nonzero = omega (arith, ok.capacity.least)

  short : span_of c ≤ r.capacity
  short = omega (arith, lawful.short, span_bounds (length c.message.body), ok.capacity.least)

  unfoldable pub headed : List ℕ
  headed = slice_set (padded r.capacity (tail_of r) place r.words) (index r.capacity place) (header_of c)

  is_padded : tail_of r < place → padded r.capacity (tail_of r) place r.words
      ≡ slice_set r.words (index r.capacity (tail_of r)) (padding_header (place - tail_of r))
  is_padded lt = cond-true _ _ _ (lt-ltb (tail_of r) place lt)

  is_plain : place ≤ tail_of r → padded r.capacity (tail_of r) place r.words ≡ r.words
  is_plain le = cond-false _ _ _ (le-ltb (tail_of r) place le)

  free : (p : ℕ) → p % 8 ≡ 0 → tail_of r ≤ p → p < place + span_of c → slice_index r.words (index r.capacity p) ≡ 0
  free p p8 le lt = free_of r ok p p8 le (omega (arith, admitted.is_end, admitted.fits))

  -- what the body's words are is all that is left to know
  pub appended_with : (w : List ℕ) → length w ≡ length headed
      → ((k : ℕ) → 8 * k < length c.message.body
      → slice_index w (index r.capacity place + 1 + k) ≡ from_le_bytes w64 (drop (8 * k) c.message.body))
      → ((i : ℕ) → i < index r.capacity place + 1 → slice_index w i ≡ slice_index headed i)
      → ((i : ℕ) → index r.capacity place + 1 + (length c.message.body + 7) / 8 ≤ i
      → slice_index w i ≡ slice_index headed i)
      → AppendsClaim r c (ring r.capacity (slice_set w (tail_index r.capacity) end))
      × IsRing (ring r.capacity (slice_set w (tail_index r.capacity) end))
  unfolding headed
  appended_with w len body below above =
      appended r c w place end ok lawful admitted (
      stores r.capacity (tail_of r) place c r.words (padded r.capacity (tail_of r) place r.words) headed w record {
        blocks = blocks;
        nonzero = nonzero;
        aligned = tail_aligned r ok;
        is_place = admitted.is_place;
        short = short;
        fits = omega (arith, admitted.is_end, admitted.fits, ok.order);
        room = omega (arith, ok.length);
        free = λ p p8 le near lt. free p p8 le lt;
        padded = is_padded;
        plain = is_plain;
        headed = refl;
        body = body;
        below = below;
        above = above;
        length = len;
      })

  -- the headers that were stored
  pub headed_is : (tail word : ℕ) → tail ≡ tail_of r → word ≡ header_of c
      → slice_set (padded r.capacity tail place r.words) (index r.capacity place) word ≡ headed
  unfolding headed
  headed_is tail word p q = λ i. slice_set (padded r.capacity (p i) place r.words) (index r.capacity place) (q i)

  -- the record is inside the buffer
  pub inside : index r.capacity place + span_of c / 8 ≤ r.capacity / 8
  inside =
      let within = next_within r.capacity (tail_of r) (span_of c) nonzero short in
      let lap : place % r.capacity ≡ next_place r.capacity (tail_of r) (span_of c) % r.capacity =
      ap (λ n. n % r.capacity) admitted.is_place in
      omega (arith, lap, within, blocks, span_bounds (length c.message.body))

  -- a claim whose body is zeros needs no store but the headers
  pub appended_empty : ((k : ℕ) → from_le_bytes w64 (drop k c.message.body) ≡ 0)
      → AppendsClaim r c (ring r.capacity (slice_set headed (tail_index r.capacity) end))
      × IsRing (ring r.capacity (slice_set headed (tail_index r.capacity) end))
  unfolding headed
  appended_empty zeros =
      appended_with headed refl (λ k lt.
      let C : ℕ = r.capacity in
      let on = next_le C (tail_of r) (span_of c) in
      let within = next_within C (tail_of r) (span_of c) nonzero short in
      let bounds = span_bounds (length c.message.body) in
      let is_place = admitted.is_place in
      let l8 : place % 8 ≡ 0 =
      ap (λ n. n % 8) is_place ∙ next_aligned C (tail_of r) (span_of c) nonzero blocks (tail_aligned r ok) in
      let lap : place % C ≡ next_place C (tail_of r) (span_of c) % C = ap (λ n. n % C) is_place in
      let inside : place % C + span_of c ≤ C = omega (arith, lap, within) in
      let p : ℕ = place + 8 * (k + 1) in
      let p8 : p % 8 ≡ 0 = omega arith in
      let on' : tail_of r ≤ place = omega (arith, admitted.is_place, on) in
      let reach : p < place + span_of c = omega (arith, bounds) in
      let is : index C p ≡ index C place + 1 + k =
      index_step C place (k + 1) blocks l8 (omega (arith, inside, reach)) ∙ omega arith in
      let near : p < tail_of r + C = omega (arith, admitted.is_end, admitted.fits, ok.order, reach) in
      let low = mod_below (tail_of r) C nonzero in
      let other : index C p ≢ index C (tail_of r) =
      λ e. let same = apart C (tail_of r) p (tail_of r) (record { some = nonzero; whole = blocks })
      (record { whole = p8; from = omega (arith, on'); below = near })
      (record { whole = tail_aligned r ok; from = omega arith; below = omega (arith, nonzero) }) e in
      omega (arith, on', same) in
      let kept : slice_index (padded C (tail_of r) place r.words) (index C p) ≡ slice_index r.words (index C p) =
      elim (cases_lt (tail_of r) place) as (λ _. slice_index (padded C (tail_of r) place r.words) (index C p)
      ≡ slice_index r.words (index C p)) [
        | inl h ↦ ap (λ ws. slice_index ws (index C p)) (is_padded h)
            ∙ get_or-set_other r.words (index C (tail_of r)) (index C p) _ 0 other
        | inr h ↦ ap (λ ws. slice_index ws (index C p)) (is_plain h)
      ] in
      ap (slice_index headed) (sym is)
      ∙ get_or-set_other (padded C (tail_of r) place r.words) (index C place) (index C p) (header_of c) 0
      (λ e. omega (arith, is, e))
      ∙ kept ∙ free p p8 (omega (arith, on')) reach ∙ sym (zeros (8 * k)))
      (λ i h. refl) (λ i h. refl)

-- a fresh claim
pub length-opened : (type_id : ℤ) (len : ℕ) → length (opened type_id len).message.body ≡ len
length-opened type_id len = length-replicate len 0

pub opened_lawful : (C : ℕ) (type_id : ℤ) (len : ℕ) → pos 1 ≤ℤ type_id → FitsSigned w32 type_id → len ≤ C / 8
    → IsMessage C (opened type_id len).message
opened_lawful C type_id len low fits most = record {
  type_id = low;
  type_fits = fits;
  short = rw (length-opened type_id len) most;
  bytes =
      All-from_get_or (λ (b : ℕ). b < 256) (replicate len 0) 0 (λ i h.
      let zeros : List ℕ = replicate len 0 in
      let l : length zeros ≡ len = length-replicate len 0 in
      let z : slice_index zeros i ≡ 0 = get_or-replicate len i 0 0 (omega arith) in omega (arith, z));
}

pub opened_header : (type_id : ℤ) (len : ℕ) → FitsSigned w32 type_id
    → open_header (to_z w32 (of_z w32 type_id)) len ≡ header_of (opened type_id len)
opened_header type_id len fits =
    ap (λ t. open_header t len) (to_z-of_z w32 type_id fits)
    ∙ ap (open_header type_id) (sym (length-opened type_id len))

-- a written message
pub written_lawful : (C : ℕ) (type_id : ℤ) (body : List ℕ) → pos 1 ≤ℤ type_id → FitsSigned w32 type_id
    → length body ≤ C / 8 → ((i : ℕ) → slice_index body i < 2 ^ 8)
    → IsMessage C (written type_id body).message
written_lawful C type_id body low fits most small = record {
  type_id = low;
  type_fits = fits;
  short = most;
  bytes = All-from_get_or (λ (b : ℕ). b < 256) body 0 (λ i h. omega (arith, small i));
}
