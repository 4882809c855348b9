-- The steps of the walk that joins the words and the slots of a plain ring.
use Rattle.std.proofs.Common.{◌≡◌, ◌≢◌, ℕ, suc, ◌+◌, ◌-◌, ◌*◌, ◌/◌, ◌%◌, ◌^◌, ◌<◌, ◌≤◌, ◌⊎◌, List, length, slice_index, refl, ap, sym, ◌∙◌, arith, inl, inr, ℤ, pos, neg_ℤ, nat_abs, FitsSigned, true, ◌&&◌, ◌||◌, if◌then◌else◌, int_lt, replicate, set, take, drop, ne_eqb, get_or-set_same, length-set, w32}
use Rattle.std.proofs.lemmas.{Bool.cond-true, Bool.cond-false, List.places}
use Rattle.std.proofs.Common.{eq-eqb}
use Rattle.ring_layout.specs.{Marks.padding_kind, declared.message.Claim.Claim, Layout.ring_words}
use Rattle.ring_layout.specs.{History.overwritten, History.span_of, Places.index, Places.IsCapacity, Places.rounded}
use Rattle.ring_layout.proofs.{PlaceLemmas.span_bounds, HeaderLemmas.fits_neg, HeaderLemmas.fits_pos}
use Rattle.ring_words.proofs.HeadLemmas.{state_cases, header_open, header_committed, header_aborted}
use Rattle.ring_layout.proofs.{CapacityLemmas.capacity_blocks, Laps.IsLap, Laps.index_outside, Laps.index_step}
use Rattle.ring_snapshot.specs.Marks.{HasMark, header_with, kind_in, kind_of, mark_at, run_of}
use Rattle.ring_snapshot.specs.PlainWords.{body_at, joined_from, span_at, with_record}
use Rattle.ring_layout.specs.Headers.{header, header_of, padding_header, padding_type}
use Rattle.ring_snapshot.{specs.RingRecords.is_length, specs.RingRecords.is_padding_type, proofs.EntryLemmas.decoded}
use Rattle.ring_snapshot.proofs.{JoinLemmas.joined_goes, ListingLemmas.abs_neg, ListingLemmas.length_fits}
use Rattle.ring_snapshot.proofs.MarkLemmas.{above_zero, shows_claim, shows_padding}

-- ---- the words of one record

-- the words are those before, with a header at an index, and other words after it up to n words in all
record Laid (word : ℕ → ℕ) (old new : List ℕ) (i n header : ℕ) : Type 0 where
  wide : length new ≡ length old
  first : slice_index new i ≡ header
  body : (k : ℕ) → 0 < k → k < n → slice_index new (i + k) ≡ word (i + k)
  same : (j : ℕ) → (j < i) ⊎ (i + n ≤ j) → slice_index new j ≡ slice_index old j

module _ (old : List ℕ) (i n header : ℕ) (some : 0 < n) (fits : i + n ≤ length old) where
  -- a header, and these words after it
  laid : (after : List ℕ) → length after ≡ n - 1
      → Laid (λ j. slice_index after (j - (i + 1))) old (set (overwritten (i + 1) after old) i header) i n header
  laid after long =
      let over : length (overwritten (i + 1) after old) ≡ length old = grind (arith, places, some, fits, long) in
      record {
        wide = length-set (overwritten (i + 1) after old) i header ∙ over;
        first = get_or-set_same (overwritten (i + 1) after old) i header 0 (omega (arith, over, some, fits));
        body = λ k a b. grind (arith, places, some, fits, long);
        same = λ j out. elim out as (λ _. slice_index (set (overwritten (i + 1) after old) i header) j
            ≡ slice_index old j) [
              | inl lt ↦ grind (arith, places, some, fits, long)
              | inr ge ↦ grind (arith, places, some, fits, long)
            ];
      }

-- ---- the number of bytes that a header gives

span_decoded : (C tail at w : ℕ) (len type_id : ℤ) → w ≡ header len type_id → FitsSigned w32 len
    → FitsSigned w32 type_id → is_length C tail at (nat_abs len) ≡ true
    → (int_lt (pos 0) type_id || int_lt (pos 0) len && is_padding_type type_id) ≡ true
    → span_at C tail at w ≡ rounded (nat_abs len)
span_decoded C tail at w len type_id is f g fits kind =
    decoded (λ l t. if is_length C tail at (nat_abs l)
    && (int_lt (pos 0) t || int_lt (pos 0) l && is_padding_type t) then rounded (nat_abs l) else 0)
    w len type_id is f g
    ∙ cond-true _ _ _ (λ i. fits i && kind i)

-- ---- one step of the walk

-- a record of n bytes with this header was written at a position, and the walk goes on after it
pub record Steps (C : ℕ) (slots : List ℕ) (tail run at n header : ℕ) (word : ℕ → ℕ) (old new : List ℕ) : Type 0 where
  pub goes : (m : ℕ) → joined_from C slots tail (suc m) run at old
      ≡ joined_from C slots tail m (run_of (mark_at C old run at)) (at + n) new
  pub wide : length new ≡ length old
  pub first : slice_index new (index C at) ≡ header
  pub body : (k : ℕ) → k % 8 ≡ 0 → 0 < k → k < n → slice_index new (index C (at + k)) ≡ word k
  pub same : (x : ℕ) → x % 8 ≡ 0 → ((x < at) × (at + n ≤ x + C)) ⊎ ((at + n ≤ x) × (x < at + C))
      → slice_index new (index C x) ≡ slice_index old (index C x)

module _ (C : ℕ) (slots : List ℕ) (tail : ℕ) (ok : IsCapacity C) (many : length slots ≡ C / 8) where
  pub lap : IsLap C
  lap = record { some = omega (arith, ok.least); whole = omega (arith, capacity_blocks C ok) }

  module _ (run at n : ℕ) (old : List ℕ) (wide : length old ≡ ring_words C) (at8 : at % 8 ≡ 0) (n8 : n % 8 ≡ 0)
      (some : 8 ≤ n) (within : at % C + n ≤ C) (inside : at + n ≤ tail)
      (spans : span_at C tail at (header_with C slots tail (mark_at C old run at) at) ≡ n) where
    abbrev i : ℕ
    i = index C at

    abbrev mark : ℕ
    mark = mark_at C old run at

    abbrev first_word : ℕ
    first_word = header_with C slots tail mark at

    steps : (after : List ℕ) → body_at slots mark i (n / 8 - 1) ≡ after → length after ≡ n / 8 - 1
        → Steps C slots tail run at n first_word (λ k. slice_index after (k / 8 - 1)) old
        (with_record C slots tail mark at n old)
    steps after is long =
        let new : List ℕ = with_record C slots tail mark at n old in
        let low : i + n / 8 ≤ C / 8 = omega (arith, within, n8, capacity_blocks C ok) in
        let put = laid old i (n / 8) first_word (omega (arith, some)) (omega (arith, low, wide)) after long in
        let told : new ≡ set (overwritten (i + 1) after old) i first_word =
        ap (λ b. set (overwritten (i + 1) b old) i first_word) is in
        record {
          goes = λ m. joined_goes C slots tail (suc m) m run at mark n old new (omega arith)
              (omega (arith, inside, some)) refl (λ z. omega (arith, z, some))
              (sym spans, sym (cond-false _ _ _ (ne_eqb n 0 (λ z. omega (arith, z, some)))));
          wide = ap length told ∙ put.wide;
          first = ap (λ w. slice_index w i) told ∙ put.first;
          body = λ k k8 above below.
              let step = index_step C at (k / 8) lap.whole at8 (omega (arith, k8, below, within)) in
              let there : index C (at + k) ≡ i + k / 8 =
              ap (index C) (let e : at + k ≡ at + 8 * (k / 8) = omega (arith, k8) in e) ∙ step in
              let less : i + k / 8 - (i + 1) ≡ k / 8 - 1 = omega arith in
              ap (λ w. slice_index w (index C (at + k))) told
              ∙ ap (slice_index (set (overwritten (i + 1) after old) i first_word)) there
              ∙ put.body (k / 8) (omega (arith, k8, above)) (omega (arith, k8, n8, below))
              ∙ ap (slice_index after) less;
          same = λ x x8 out.
              ap (λ w. slice_index w (index C x)) told ∙ put.same (index C x) (elim out as (λ _.
              (index C x < i) ⊎ (i + n / 8 ≤ index C x)) [
                | inl b ↦ index_outside C x at n x lap
                    record { whole = at8; words = n8; within = within; from = omega (arith, b.0); to = b.1 }
                    record { whole = x8; from = omega arith; below = omega (arith, lap.some) } (inl b.0)
                | inr b ↦ index_outside C at at n x lap
                    record { whole = at8; words = n8; within = within; from = omega arith; to = omega (arith, within) }
                    record { whole = x8; from = omega (arith, b.0); below = b.1 } (inr b.0)
              ]);
        }

  -- the words of padding, and those of a claim
  pub steps_padding : (run e pad : ℕ) (old : List ℕ) → length old ≡ ring_words C → (e % 8 ≡ 0) × (pad % 8 ≡ 0)
      → (8 ≤ pad) × (pad ≤ 8 + C / 8) → (e % C + pad ≤ C) × (e + pad ≤ tail)
      → mark_at C old run e ≡ e + pad + padding_kind
      → Steps C slots tail run e pad (padding_header pad) (λ _. 0) old
      (with_record C slots tail (mark_at C old run e) e pad old)
  steps_padding run e pad old wide whole8 sizes inner is =
      let (e8, pad8) = whole8 in
      let (some, few) = sizes in
      let (within, inside) = inner in
      let mark : ℕ = mark_at C old run e in
      let small : pad ≤ C = omega (arith, within) in
      let head : header_with C slots tail mark e ≡ padding_header pad =
      shows_padding C slots tail mark e pad ok.most whole8 (omega (arith, some)) small is in
      let kind : kind_in mark ≡ padding_kind = omega (arith, is, e8, pad8) in
      let whole : rounded pad ≡ pad = omega (arith, pad8) in
      let fits = length_fits C tail e pad some few (omega (arith, whole, within)) (omega (arith, whole, inside)) in
      let spans : span_at C tail e (header_with C slots tail mark e) ≡ pad =
      ap (span_at C tail e) head
      ∙ span_decoded C tail e (padding_header pad) (pos pad) padding_type refl
      (fits_pos pad (omega (arith, small, ok.most))) record { sfits = omega arith } fits
      (let above : int_lt (pos 0) (pos pad) ≡ true = grind (arith, some) in
      ap (λ b. b && is_padding_type padding_type) above) ∙ whole in
      let s = steps run e pad old wide e8 pad8 some within inside spans (replicate (pad / 8 - 1) 0)
      (cond-true _ _ _ (eq-eqb _ padding_kind kind)) (grind (arith, places)) in
      record {
        goes = s.goes;
        wide = s.wide;
        first = s.first ∙ head;
        body = λ k k8 above below. s.body k k8 above below ∙ grind (arith, places);
        same = s.same;
      }

  module _ (run place : ℕ) (c : Claim) (old : List ℕ) (wide : length old ≡ ring_words C)
      (has : HasMark C tail slots place (mark_at C old run place) c) (within : place % C + span_of c ≤ C)
      (inside : place + span_of c ≤ tail) where
    abbrev n : ℕ
    n = length c.message.body

    small : 8 + n < 2 ^ 31
    small = let short = has.lawful.short in omega (arith, short, ok.most)

    fits : is_length C tail place (8 + n) ≡ true
    fits = let short = has.lawful.short in
        length_fits C tail place (8 + n) (omega arith) (omega (arith, short)) (omega (arith, within)) inside

    -- the header of a message gives its span
    spans_message : (len : ℤ) → header_of c ≡ header len c.message.type_id → FitsSigned w32 len → nat_abs len ≡ 8 + n
        → span_at C tail place (header_of c) ≡ span_of c
    spans_message len head f long =
        span_decoded C tail place (header_of c) len c.message.type_id head f has.lawful.type_fits
        (ap (is_length C tail place) long ∙ fits)
        (ap (λ b. b || int_lt (pos 0) len && is_padding_type c.message.type_id)
        (above_zero c.message.type_id has.lawful.type_id))
        ∙ ap rounded long

    spans_claim : span_at C tail place (header_of c) ≡ span_of c
    spans_claim = elim (state_cases c.state) as (λ _. span_at C tail place (header_of c) ≡ span_of c) [
      | inl e ↦ spans_message (neg_ℤ (pos (8 + n))) (header_open c e) (fits_neg (8 + n) small) (abs_neg (8 + n))
      | inr other ↦ elim other as (λ _. span_at C tail place (header_of c) ≡ span_of c) [
        | inl e ↦ spans_message (pos (8 + n)) (header_committed c e) (fits_pos (8 + n) small) refl
        | inr e ↦ span_decoded C tail place (header_of c) (pos (8 + n)) padding_type (header_aborted c e)
            (fits_pos (8 + n) small) record { sfits = omega arith } fits
            (let above : int_lt (pos 0) (pos (8 + n)) ≡ true = grind (arith) in
            ap (λ b. b && is_padding_type padding_type) above)
      ]
    ]

    kinds : (kind_of c ≢ padding_kind) × (kind_of c < 8)
    kinds = elim (state_cases c.state) as (λ _. (kind_of c ≢ padding_kind) × (kind_of c < 8)) [
      | inl e ↦ rw e ((λ z. omega (arith, z)), omega arith)
      | inr other ↦ elim other as (λ _. (kind_of c ≢ padding_kind) × (kind_of c < 8)) [
        | inl e ↦ rw e ((λ z. omega (arith, z)), omega arith)
        | inr e ↦ rw e ((λ z. omega (arith, z)), omega arith)
      ]
    ]

    -- the mark has the kind of the claim
    kind_is : kind_in (mark_at C old run place) ≡ kind_of c
    kind_is =
        let b = span_bounds n in
        elim has.ends as (λ _. kind_in (mark_at C old run place) ≡ kind_of c) [
          | inl own ↦ omega (arith, own, has.aligned, b, kinds.1)
          | inr on ↦ on.whole ∙ sym on.committed
        ]

    pub steps_claim : Steps C slots tail run place (span_of c) (header_of c)
        (λ k. slice_index slots (index C (place + k))) old
        (with_record C slots tail (mark_at C old run place) place (span_of c) old)
    steps_claim =
        let b = span_bounds n in
        let i : ℕ = index C place in
        let head = shows_claim C tail slots place (mark_at C old run place) c ok has in
        let low : i + span_of c / 8 ≤ C / 8 = omega (arith, within, b, capacity_blocks C ok) in
        let s = steps run place (span_of c) old wide has.aligned b.0 (omega (arith, b)) within inside
        (ap (span_at C tail place) head ∙ spans_claim) (take (span_of c / 8 - 1) (drop (i + 1) slots))
        (cond-false _ _ _ (ne_eqb _ padding_kind (λ z. kinds.0 (sym kind_is ∙ z))))
        (grind (arith, places, low, many)) in
        record {
          goes = s.goes;
          wide = s.wide;
          first = s.first ∙ head;
          body = λ k k8 above below.
              let step = index_step C place (k / 8) lap.whole has.aligned (omega (arith, k8, below, within)) in
              let there : index C (place + k) ≡ i + k / 8 =
              ap (index C) (let e : place + k ≡ place + 8 * (k / 8) = omega (arith, k8) in e) ∙ step in
              let less : i + 1 + (k / 8 - 1) ≡ i + k / 8 = omega (arith, k8, above) in
              let under : k / 8 - 1 < span_of c / 8 - 1 = omega (arith, k8, above, below, b) in
              s.body k k8 above below
              ∙ (let told : slice_index (take (span_of c / 8 - 1) (drop (i + 1) slots)) (k / 8 - 1)
              ≡ slice_index slots (i + 1 + (k / 8 - 1)) = grind (arith, places, under) in told)
              ∙ ap (slice_index slots) (less ∙ sym there);
          same = s.same;
        }
