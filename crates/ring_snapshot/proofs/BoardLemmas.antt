-- The words of a closed broadcast buffer list its transmissions.
use Rattle.std.proofs.Common.{◌≡◌, ℕ, zero, suc, ◌+◌, ◌-◌, ◌*◌, ◌/◌, ◌%◌, ◌^◌, ◌<◌, ◌≤◌, ◌⊎◌, List, [], ◌∷◌, ◌++◌, length, drop, slice_index, refl, ap, sym, ◌∙◌, subst, inl, inr, ⊎_elim, arith, ℤ, pos, ◌≤ℤ◌, true, false, Ok, eq-eqb, Bool, int_lt, nat_lt, not, ◌&&◌, ◌||◌, if◌then◌else◌, w64, lt-ltb, le-ltb, le-leb}
use Rattle.std.specs.Int.{from_le_bytes}
use Rattle.std.proofs.lemmas.{Bool.cases_lt, Bool.lt-leb, Bool.cond-true, Bool.cond-false, Nat.mod_below}
use Rattle.std.proofs.Math.{Option.some, Option.some-injective, Option.some-ne-none, ListN.get_elem?}
use Rattle.ring_layout.specs.{Places.index, Places.room, Places.rounded, Headers.padding_header, Headers.padding_type}
use Rattle.ring_layout.proofs.{Laps.mod_aligned, Laps.mod_step, PlaceLemmas.span_bounds, HeaderLemmas.fits_pos}
use Rattle.ring_counters.specs.Records.{bytes_at}
use Rattle.ring_board.specs.declared.shared.view.Record.{Record}
use Rattle.ring_board.specs.Records.{end, Follows, Chain, end_of, last_of, header_of}
use Rattle.ring_board.proofs.PlaceLemmas.{lies_cases, lies_after, lies_inside, lies_whole, chain_rises, chain_at, last_low}
use Rattle.ring_snapshot.specs.{declared.board_record.BoardRecord.BoardRecord, Listing.ok_records}
use Rattle.ring_snapshot.specs.BoardRecords.{BoardEntry, is_length, padding_at, message_at, entry_for, entry_at, listing, record_of, records_of, from_on}
use Rattle.ring_snapshot.proofs.EntryLemmas.{not_padding, not_below_one, decoded, body_told}
use Rattle.ring_snapshot.proofs.StepLemmas.{listing_ends, padded, IsThere, from_place, from_before}

-- ---- numbers

not_less : (n : ℕ) → 0 < n → int_lt (pos n) (pos 1) ≡ false
not_less n h = grind (arith, h)

length_before : (C latest tail at n : ℕ) → 8 ≤ n → n ≤ 8 + C / 8 → rounded n ≤ room C at → at < latest
    → at + rounded n ≤ latest
    → is_length C latest tail at n ≡ true
length_before C latest tail at n a b c d e =
    let last = cond-true _ _ _ (lt-ltb at latest d) ∙ le-leb (at + rounded n) latest e in
    λ i. le-leb 8 n a i && le-leb n (8 + C / 8) b i && le-leb (rounded n) (room C at) c i && last i

length_last : (C latest tail at n : ℕ) → 8 ≤ n → n ≤ 8 + C / 8 → rounded n ≤ room C at → at ≡ latest
    → at + rounded n ≡ tail
    → is_length C latest tail at n ≡ true
length_last C latest tail at n a b c d e =
    let here = eq-eqb at latest d in let ends = eq-eqb (at + rounded n) tail e in
    let last = cond-false _ _ _ (le-ltb at latest (omega (arith, d))) ∙ (λ i. here i && ends i) in
    λ i. le-leb 8 n a i && le-leb n (8 + C / 8) b i && le-leb (rounded n) (room C at) c i && last i

-- ---- what a header says

for_message : (C : ℕ) (words : List ℕ) (intent latest tail at n : ℕ) (type_id : ℤ) → pos 1 ≤ℤ type_id → 0 < n
    → is_length C latest tail at n ≡ true
    → entry_for C words intent latest tail at (pos n) type_id ≡ Ok (message_at C words intent at n type_id)
for_message C words intent latest tail at n type_id lawful above fits =
    let less = not_less n above in
    cond-false _ _ _ (λ i. less i || not (fits i))
    ∙ cond-false _ _ _ (not_padding type_id lawful)
    ∙ cond-false _ _ _ (not_below_one type_id lawful)

for_padding : (C : ℕ) (words : List ℕ) (intent latest tail at n : ℕ) → 0 < n → is_length C latest tail at n ≡ true
    → at < latest → at % C + n ≡ C
    → entry_for C words intent latest tail at (pos n) padding_type ≡ Ok (padding_at C intent at n padding_type)
for_padding C words intent latest tail at n above fits before ends =
    let less = not_less n above in let low = lt-leb latest at before in let up = eq-eqb (at % C + n) C ends in
    cond-false _ _ _ (λ i. less i || not (fits i))
    ∙ cond-false _ _ _ (λ i. low i || not (up i))

-- ---- places

pub last_high : (C : ℕ) → 256 ≤ C → C % 64 ≡ 0 → (d e : ℕ) (l : List Record) → Chain C e l → d ≤ e → d ≤ last_of d l
last_high C roomy whole d e [] c le = omega arith
last_high C roomy whole d e (r ∷ rs) c le =
    let f = c.0.fits in let a = lies_after C e r.before r.place (end r) f roomy whole in let b = f.begins in
    let so = f.some_room in
    let on = last_high C roomy whole r.place (end r) rs c.1 (omega (arith, so)) in
    omega (arith, a, b, le, on)

-- a transmission begins at a multiple of the capacity after d, if the list reaches it
pub lap_in : (C : ℕ) → 256 ≤ C → C % 64 ≡ 0 → (L : ℕ) → L % C ≡ 0 → (d e : ℕ) (l : List Record) → Chain C e l
    → (d < L) × (e ≤ L) × (L ≤ last_of d l)
    → (k : ℕ) × (q : Record) × (get_elem? l k ≡ some q) × ((L ≡ q.before) ⊎ (L ≡ q.place))
lap_in C roomy whole L lap d e [] c lies = absurd (omega (arith, lies.0, lies.2))
lap_in C roomy whole L lap d e (r ∷ rs) c lies =
    let low = lies.1 in
    let high = lies.2 in
    let b = c.0.fits.begins in
    ⊎_elim (λ before. let inside = lies_inside C e r.before r.place (end r) c.0.fits roomy whole in
    let ends : end r ≤ L = ⊎_elim (λ cut.
    let step = mod_step C r.place (L - r.place) (omega (arith, cut, before, inside)) in
    let same : r.place + (L - r.place) ≡ L = omega (arith, before) in
    let at : L % C ≡ r.place % C + (L - r.place) = ap (λ y. y % C) (sym same) ∙ step in
    absurd (omega (arith, at, lap, before))) (λ le. le) (cases_lt L (end r)) in
    let i = lap_in C roomy whole L lap r.place (end r) rs c.1 (before, ends, high) in (suc i.0, i.1, i.2, i.3))
    (λ le. ⊎_elim (λ t. let at = t.0 in (0, r, refl, inl (omega (arith, at, b, low, le))))
    (λ t. let at = t.0 in ⊎_elim (λ cut.
    let step = mod_step C r.before (L - r.before) (omega (arith, cut, at, b, low, roomy)) in
    let same : r.before + (L - r.before) ≡ L = omega (arith, b, low) in
    let far : L % C ≡ r.before % C + (L - r.before) = ap (λ y. y % C) (sym same) ∙ step in
    (0, r, refl, inl (omega (arith, far, lap, b, low))))
    (λ ge. (0, r, refl, inr (omega (arith, ge, le)))) (cases_lt L r.place))
    (lies_cases C e r.before r.place (end r) c.0.fits roomy whole))
    (cases_lt r.place L)

-- the last record does not cross the end of the buffer, and ends where the list does
abbrev pub Fit : ℕ → ℕ → ℕ → Type 0
Fit C d e = (d ≤ e) × (d % C + (e - d) ≤ C) × (d % 8 ≡ 0) × (e % 8 ≡ 0)

pub last_fits : (C : ℕ) → 256 ≤ C → C % 64 ≡ 0 → (d e : ℕ) (l : List Record) → Chain C e l → Fit C d e
    → Fit C (last_of d l) (end_of e l)
last_fits C roomy whole d e [] c h = h
last_fits C roomy whole d e (r ∷ rs) c h =
    let f = c.0.fits in let so = f.some_room in
    last_fits C roomy whole r.place (end r) rs c.1 (
      omega (arith, so),
      lies_inside C e r.before r.place (end r) f roomy whole,
      lies_whole C e r.before r.place (end r) f roomy whole,
      f.ends_whole,
    )

-- ---- the records from a position on

module _ (C intent : ℕ) where
  abbrev pad_of : Record → BoardRecord
  pad_of r = padding_at C intent r.before (r.place - r.before) padding_type

  taken : (p : ℕ) (x : BoardRecord) (xs : List BoardRecord) → p ≤ x.place → from_on p (x ∷ xs) ≡ x ∷ from_on p xs
  taken p x xs le = ap (λ l. l ++ from_on p xs) (cond-true _ (x ∷ []) [] (le-leb p x.place le))

  left_out : (p : ℕ) (x : BoardRecord) (xs : List BoardRecord) → x.place < p → from_on p (x ∷ xs) ≡ from_on p xs
  left_out p x xs lt = ap (λ l. l ++ from_on p xs) (cond-false _ (x ∷ []) [] (lt-leb p x.place lt))

  -- a transmission before the position
  all_out : (p : ℕ) (r : Record) (rs : List Record) → r.before < p → r.place < p
      → from_on p (records_of C intent (r ∷ rs)) ≡ from_on p (records_of C intent rs)
  all_out p r rs b lt = by_padding (nat_lt r.before r.place)
    where
      by_padding : (pads : Bool)
          → from_on p ((if pads then pad_of r ∷ [] else []) ++ record_of C intent r ∷ records_of C intent rs)
          ≡ from_on p (records_of C intent rs)
      by_padding true = left_out p (pad_of r) (record_of C intent r ∷ records_of C intent rs) b
          ∙ left_out p (record_of C intent r) (records_of C intent rs) lt
      by_padding false = left_out p (record_of C intent r) (records_of C intent rs) lt

  module _ (roomy : 256 ≤ C) (whole : C % 64 ≡ 0) where
    from_on_all : (p e : ℕ) (l : List Record) → Chain C e l → p ≤ e
        → from_on p (records_of C intent l) ≡ records_of C intent l
    from_on_all p e [] c le = refl
    from_on_all p e (r ∷ rs) c le =
        let f = c.0.fits in let a = lies_after C e r.before r.place (end r) f roomy whole in let b = f.begins in
        let so = f.some_room in
        by_padding (omega (arith, le, b))
        (taken p (record_of C intent r) (records_of C intent rs) (omega (arith, le, a, b))
        ∙ ap (λ l. record_of C intent r ∷ l) (from_on_all p (end r) rs c.1 (omega (arith, le, a, b, so))))
        (nat_lt r.before r.place)
      where
        by_padding : p ≤ r.before
            → from_on p (record_of C intent r ∷ records_of C intent rs) ≡ record_of C intent r ∷ records_of C intent rs
            → (pads : Bool)
            → from_on p ((if pads then pad_of r ∷ [] else []) ++ record_of C intent r ∷ records_of C intent rs)
            ≡ (if pads then pad_of r ∷ [] else []) ++ record_of C intent r ∷ records_of C intent rs
        by_padding low on true = taken p (pad_of r) (record_of C intent r ∷ records_of C intent rs) low
            ∙ ap (λ l. pad_of r ∷ l) on
        by_padding low on false = on

    pub from_on_none : (p e : ℕ) (l : List Record) → Chain C e l → end_of e l ≤ p
        → from_on p (records_of C intent l) ≡ []
    from_on_none p e [] c le = refl
    from_on_none p e (r ∷ rs) c le =
        let f = c.0.fits in let a = lies_after C e r.before r.place (end r) f roomy whole in
        let so = f.some_room in let up = chain_rises C roomy whole (end r) rs c.1 in
        all_out p r rs (omega (arith, le, a, so, up)) (omega (arith, le, so, up))
        ∙ from_on_none p (end r) rs c.1 le

-- ---- what the words list

-- what a transmission stored is, as far as it is not overwritten
pub record IsKept (C : ℕ) (words : List ℕ) (tail : ℕ) (r : Record) : Type 0 where
  pub padding : r.before < r.place → tail ≤ r.before + C
      → slice_index words (index C r.before) ≡ padding_header (r.place - r.before)
  pub header : tail ≤ r.place + C → slice_index words (index C r.place) ≡ header_of r.message
  pub body : tail ≤ r.place + C → (j : ℕ) → 8 * j < length r.message.body
      → slice_index words (r.place % C / 8 + 1 + j) ≡ from_le_bytes w64 (drop (8 * j) r.message.body)

abbrev pub AreKept : ℕ → List ℕ → ℕ → List Record → Type 0
AreKept C words tail l = (k : ℕ) (r : Record) → get_elem? l k ≡ some r → IsKept C words tail r

module _ (C : ℕ) (roomy : 256 ≤ C) (narrow : C ≤ 2 ^ 24) (whole : C % 64 ≡ 0) (words : List ℕ)
    (intent latest tail : ℕ) where
  abbrev with_body : Record → List ℕ → BoardEntry
  with_body r body = Ok (record (record_of C intent r) { body = body })

  message_entry : (e : ℕ) (r : Record) → Follows C e r → IsKept C words tail r → tail ≤ r.place + C
      → is_length C latest tail r.place (8 + length r.message.body) ≡ true
      → entry_at C words intent latest tail r.place ≡ Ok (record_of C intent r)
  message_entry e r f kept near fits =
      let n : ℕ = length r.message.body in
      let short = f.lawful.short in
      let small : 8 + n < 2 ^ 31 = omega (arith, short, narrow) in
      let p8 = lies_whole C e r.before r.place (end r) f.fits roomy whole in
      let body = body_told words r.message.body (r.place % C) f.lawful.bytes
      (mod_aligned C r.place (omega (arith, whole)) p8) (kept.body near) in
      let less : 8 + n - 8 ≡ n = omega arith in
      decoded (entry_for C words intent latest tail r.place) _ (pos (8 + n)) r.message.type_id (kept.header near)
      (fits_pos (8 + n) small) f.lawful.type_fits
      ∙ for_message C words intent latest tail r.place (8 + n) r.message.type_id f.lawful.type_id (omega arith) fits
      ∙ ap (with_body r) (ap (bytes_at words (r.place % C + 8)) less ∙ body)

  module _ (e : ℕ) (r : Record) (f : Follows C e r) (lt : r.before < r.place) where
    pad_is : (r.place ≡ r.before + room C r.before) × (room C r.before < end r - r.place)
    pad_is = ⊎_elim (λ t. let at = t.0 in absurd (omega (arith, at, lt))) (λ t. t)
        (lies_cases C e r.before r.place (end r) f.fits roomy whole)

    pad_some : (8 ≤ r.place - r.before) × ((r.place - r.before) % 8 ≡ 0)
    pad_some = let b8 = f.fits.begins_whole in
        let p8 = lies_whole C e r.before r.place (end r) f.fits roomy whole in
        (omega (arith, b8, p8, lt), omega (arith, b8, p8, lt))

    pad_there : IsKept C words tail r → tail ≤ r.before + C → r.place ≤ latest → latest ≤ tail
        → IsThere (λ (x : BoardRecord). x.length) (entry_at C words intent latest tail) tail r.before r.place
        (pad_of C intent r)
    pad_there kept near below low =
        let pad : ℕ = r.place - r.before in
        let is = pad_is.0 in let few = pad_is.1 in let eight = pad_some.0 in let p8 = pad_some.1 in
        let short = f.lawful.short in let b = span_bounds (length r.message.body) in
        let in_buffer = mod_below r.before C (omega (arith, roomy)) in
        record {
          some_room = omega (arith, eight, lt);
          inside = omega (arith, below, low);
          ends = omega (arith, p8, lt);
          there = decoded (entry_for C words intent latest tail r.before) _ (pos pad) padding_type
              (kept.padding lt near) (fits_pos pad (omega (arith, is, narrow))) record { sfits = omega arith }
              ∙ for_padding C words intent latest tail r.before pad (omega (arith, eight))
              (length_before C latest tail r.before pad eight (omega (arith, few, is, p8, short, b, whole))
              (omega (arith, is, p8, lt)) (omega (arith, lt, below)) (omega (arith, p8, lt, below)))
              (omega (arith, lt, below)) (omega (arith, is, in_buffer, lt));
        }

  -- a record's length, if these come after it
  fits_at : (e : ℕ) (r : Record) (rs : List Record) → Chain C e (r ∷ rs) → last_of r.place rs ≡ latest
      → end_of (end r) rs ≡ tail
      → is_length C latest tail r.place (8 + length r.message.body) ≡ true
  fits_at e r [] c la en =
      let f = c.0 in let short = f.lawful.short in
      let inside = lies_inside C e r.before r.place (end r) f.fits roomy whole in
      length_last C latest tail r.place (8 + length r.message.body) (omega arith) (omega (arith, short))
      (omega (arith, inside)) la en
  fits_at e r (q ∷ rs) c la en =
      let f = c.0 in let short = f.lawful.short in let so = f.fits.some_room in
      let inside = lies_inside C e r.before r.place (end r) f.fits roomy whole in
      let g = c.1.0.fits in let a = lies_after C (end r) q.before q.place (end q) g roomy whole in
      let b = g.begins in let room' = g.some_room in
      let on = last_high C roomy whole q.place (end q) rs c.1.1 (omega (arith, room')) in
      let ends : end r ≤ latest = omega (arith, a, b, on, la) in
      length_before C latest tail r.place (8 + length r.message.body) (omega arith) (omega (arith, short))
      (omega (arith, inside)) (omega (arith, ends, so)) ends

  -- the records after d and e end at latest and tail
  pub record EndThere (d e : ℕ) (l : List Record) : Type 0 where
    pub last : last_of d l ≡ latest
    pub ends : end_of e l ≡ tail

  record_there : (e : ℕ) (r : Record) (rs : List Record) → Chain C e (r ∷ rs) → IsKept C words tail r
      → EndThere r.place (end r) rs → tail ≤ r.place + C
      → IsThere (λ (x : BoardRecord). x.length) (entry_at C words intent latest tail) tail r.place (end r)
      (record_of C intent r)
  record_there e r rs c kept there near =
      let up = chain_rises C roomy whole (end r) rs c.1 in let en = there.ends in
      record {
        some_room = c.0.fits.some_room;
        inside = omega (arith, up, en);
        ends = refl;
        there = message_entry e r c.0 kept near (fits_at e r rs c there.last en);
      }

  abbrev told : List BoardRecord → List BoardEntry
  told rs = ok_records rs

  from_begin : (d e : ℕ) (l : List Record) → Chain C e l → AreKept C words tail l → EndThere d e l → tail ≤ e + C
      → (m : ℕ) → tail ≤ e + 8 * m
      → listing C words intent latest tail m e ≡ told (records_of C intent l)
  from_begin d e [] c kept there near m enough =
      let en = there.ends in
      listing_ends (λ (x : BoardRecord). x.length) (entry_at C words intent latest tail) tail m e (omega (arith, en))
  from_begin d e (r ∷ rs) c kept there near m enough =
      let behind : EndThere r.place (end r) rs = record { last = there.last; ends = there.ends } in
      let la = there.last in let en = there.ends in
      let b = c.0.fits.begins in let so = c.0.fits.some_room in
      let a = lies_after C e r.before r.place (end r) c.0.fits roomy whole in
      let high = last_high C roomy whole r.place (end r) rs c.1 (omega (arith, so)) in
      let low = last_low C roomy whole e (r ∷ rs) c in
      ap (listing C words intent latest tail m) (sym b)
      ∙ from_before (λ (x : BoardRecord). x.length) (entry_at C words intent latest tail) tail r.before r.place (end r)
      (pad_of C intent r) (record_of C intent r) (records_of C intent rs) a
      (λ pads. pad_there e r c.0 pads (kept 0 r refl) (omega (arith, near, b)) (omega (arith, high, la))
      (omega (arith, low, la, en)))
      (record_there e r rs c (kept 0 r refl) behind (omega (arith, near, a, b)))
      (from_begin r.place (end r) rs c.1 (λ j q at. kept (suc j) q at) behind (omega (arith, near, a, b, so)))
      m (omega (arith, enough, b))

  -- from the start of one of them
  pub from_one : (p d e : ℕ) (l : List Record) → Chain C e l → AreKept C words tail l → EndThere d e l
      → (k : ℕ) (q : Record) → (get_elem? l k ≡ some q) × ((p ≡ q.before) ⊎ (p ≡ q.place))
      → (m : ℕ) → (tail ≤ p + C) × (tail ≤ p + 8 * m)
      → listing C words intent latest tail m p ≡ told (from_on p (records_of C intent l))
  from_one p d e [] c kept there k q begins m bounds = absurd (some-ne-none q (sym begins.0))
  from_one p d e (r ∷ rs) c kept there zero q begins m bounds =
      let on = begins.0 in
      let at = begins.1 in
      let near = bounds.0 in
      let enough = bounds.1 in
      let behind : EndThere r.place (end r) rs = record { last = there.last; ends = there.ends } in
      let f = c.0.fits in let b = f.begins in let so = f.some_room in
      let a = lies_after C e r.before r.place (end r) f roomy whole in
      let here = subst (λ (x : Record). (p ≡ x.before) ⊎ (p ≡ x.place)) (sym (some-injective r q on)) at in
      let whole_list : p ≡ r.before → listing C words intent latest tail m p
      ≡ told (from_on p (records_of C intent (r ∷ rs))) =
      λ is. let first : p ≡ e = omega (arith, is, b) in
      ap (listing C words intent latest tail m) first
      ∙ from_begin d e (r ∷ rs) c kept there (omega (arith, near, first)) m (omega (arith, enough, first))
      ∙ sym (ap told (from_on_all C intent roomy whole p e (r ∷ rs) c (omega (arith, first)))) in
      ⊎_elim whole_list
      (λ is. ⊎_elim (λ pads. ap (listing C words intent latest tail m) is
      ∙ from_place (λ (x : BoardRecord). x.length) (entry_at C words intent latest tail) tail r.place (end r)
      (record_of C intent r) (records_of C intent rs)
      (record_there e r rs c (kept 0 r refl) behind (omega (arith, near, is)))
      (from_begin r.place (end r) rs c.1 (λ i x at'. kept (suc i) x at') behind (omega (arith, near, is, so)))
      m (omega (arith, enough, is))
      ∙ sym (ap told (ap (from_on p) (padded r.before r.place (pad_of C intent r) (record_of C intent r)
      (records_of C intent rs) pads)
      ∙ left_out C intent p (pad_of C intent r) (record_of C intent r ∷ records_of C intent rs)
      (omega (arith, is, pads))
      ∙ taken C intent p (record_of C intent r) (records_of C intent rs) (omega (arith, is))
      ∙ ap (λ xs. record_of C intent r ∷ xs)
      (from_on_all C intent roomy whole p (end r) rs c.1 (omega (arith, is, so))))))
      (λ same. whole_list (omega (arith, is, same, a))) (cases_lt r.before r.place))
      here
  from_one p d e (r ∷ rs) c kept there (suc k) q begins m bounds =
      let on = begins.0 in
      let at = begins.1 in
      let f = c.0.fits in let so = f.some_room in
      let a = lies_after C e r.before r.place (end r) f roomy whole in
      let i = chain_at C roomy whole (end r) rs c.1 k q on in let low = i.1 in
      let after = lies_after C q.before q.before q.place (end q) i.0.fits roomy whole in
      let far : end r ≤ p = ⊎_elim (λ is. let z : end r ≤ p = omega (arith, is, low) in z)
      (λ is. let z : end r ≤ p = omega (arith, is, low, after) in z) at in
      from_one p r.place (end r) rs c.1 (λ j x has. kept (suc j) x has)
      (record { last = there.last; ends = there.ends }) k q (on, at) m bounds
      ∙ sym (ap told (all_out C intent p r rs (omega (arith, far, a, so)) (omega (arith, far, so))))
