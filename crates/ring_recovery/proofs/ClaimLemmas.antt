-- The headers of one claim, and what they give.
use Rattle.std.proofs.Common.{◌≡◌, ℕ, zero, suc, ◌+◌, ◌-◌, ◌*◌, ◌/◌, ◌%◌, ◌^◌, ◌<◌, ◌≤◌, true, false, cond, List, [], ◌∷◌, ◌++◌, length, slice_index, refl, sym, ap, ◌∙◌, subst, arith, ⊎_elim, lt-ltb, le-ltb, ℤ, pos, negsuc, neg_ℤ, nat_abs, FitsSigned, int_lt, ◌&&◌, ◌||◌, w32}
use Rattle.std.proofs.lemmas.Bool.{cases_lt, cond-true, cond-false}
use Rattle.ring_layout.specs.declared.message.ClaimState.TheVariants.{Open, Committed, Aborted}
use Rattle.ring_layout.specs.Headers.{header, header_of, padding_type}
use Rattle.ring_layout.specs.{History.span, Places.index, Places.next_place, Places.room, Places.rounded}
use Rattle.ring_layout.proofs.CapacityLemmas.{capacity_blocks}
use Rattle.ring_layout.proofs.{HeaderLemmas.fits_neg, HeaderLemmas.fits_pos, Laps.index_step, Laps.mod_aligned}
use Rattle.ring_layout.proofs.PlaceLemmas.{next_aligned, next_cases, next_le, next_within, span_bounds}
use Rattle.ring_snapshot.{specs.RingRecords.is_length, proofs.EntryLemmas.body_told}
use Rattle.ring_counters.specs.Records.{bytes_at}
use Rattle.ring_table.specs.Passing.{IsSettled, placed_committed_of, placed_message, shown_at}
use Rattle.ring_table.{specs.Rescued.one_if_unsettled, specs.Rescued.unsettled_count, proofs.DecodeLemmas.masked_zero}
use Rattle.ring_table.specs.Staged.{elsewhere, LiesAfter, body_word, claim_end, masked_padding, masked_record, padding_mark, padding_word, staged_span, staged_word, stage_state}
use Rattle.ring_table.specs.declared.claim.{PlacedMessage.PlacedMessage, StagedClaim.StagedClaim}
use Rattle.ring_table.specs.declared.claim.Stage.{Stage, TheVariants.Moved, TheVariants.Padded, TheVariants.Stored}
use Rattle.ring_table.proofs.StagedWords.{staged_word-body, staged_word-header, staged_word-padding, staged_word-padding_behind}
use Rattle.ring_recovery.specs.{Headers.bytes_in, Headers.is_type, Headers.message_at, Recovered.all_placed}
use Rattle.ring_recovery.proofs.HeaderLemmas.{IsHeader, abs_neg, bytes_are, committed_is, length_fits, neg_below, neg_not_above, not_negative, not_zero, open_is, pos_above, type_above, type_is}
use Rattle.ring_recovery.proofs.ScanLemmas.{listed, one, zeros}
use Rattle.ring_recovery.proofs.GivenLemmas.{Adds, AreShown, Gives, HaveBody, adds, far, gives_below}

module _ (C tail : ℕ) (slots : List ℕ) (shown : ℕ → ℕ) (e : ℕ) (c : StagedClaim) (cs : List StagedClaim)
    (a : AreShown C tail shown e (c ∷ cs)) where
  abbrev n : ℕ
  n = length c.message.body

  abbrev span_c : ℕ
  span_c = staged_span c

  lies : LiesAfter C e c
  lies = a.placed.0

  c8 : C % 8 ≡ 0
  c8 = omega (arith, capacity_blocks C a.capacity)

  pub bounds : (span n % 8 ≡ 0) × (8 + n ≤ span n) × (span n ≤ n + 15)
  bounds = span_bounds n

  short : span n ≤ C
  short = omega (arith, lies.message.short, bounds, a.capacity.least)

  pub begins : e ≤ c.place
  begins = omega (arith, next_le C e span_c, lies.place)

  pub place_aligned : c.place % 8 ≡ 0
  place_aligned = subst (λ p. p % 8 ≡ 0) (sym lies.place)
      (next_aligned C e span_c (omega (arith, a.capacity.least)) c8 a.aligned)

  within : c.place % C + span n ≤ C
  within = subst (λ p. p % C + span n ≤ C) (sym lies.place)
      (next_within C e span_c (omega (arith, a.capacity.least)) short)

  small : 8 + n < 2 ^ 31
  small = omega (arith, lies.message.short, a.capacity.most)

  pub end_below : claim_end c ≤ tail
  end_below = let rest = far C (claim_end c) cs a.placed.1 in let ends = a.ends in omega (arith, rest, ends)

  record_fits : is_length C tail c.place (8 + n) ≡ true
  record_fits =
      length_fits C tail c.place (8 + n) (omega arith) (omega (arith, lies.message.short)) (omega (arith, within))
      end_below

  -- what is found at a position of the claim is its word
  pub found_here : (p : ℕ) → p % 8 ≡ 0 → e ≤ p → p < claim_end c → shown p ≡ staged_word elsewhere c p
  found_here p p8 from below =
      a.shows p p8 from (omega (arith, below, end_below)) ∙ cond-true _ _ _ (lt-ltb p (claim_end c) below)

  -- no header is inside the record or inside the padding
  inner : (j : ℕ) → 8 + 8 * j < span n → shown (c.place + 8 + 8 * j) ≡ 0
  inner j less =
      let p : ℕ = c.place + 8 + 8 * j in
      found_here p (omega (arith, place_aligned)) (omega (arith, begins)) (omega (arith, less))
      ∙ staged_word-body elsewhere c p (8 * j) refl ∙ masked_zero c.stage

  padding : (p : ℕ) → p % 8 ≡ 0 → e < p → p < c.place → shown p ≡ 0
  padding p p8 from below =
      found_here p p8 (omega arith) (omega (arith, below, bounds))
      ∙ staged_word-padding_behind elsewhere c p (λ same. let is = lies.from in omega (arith, same, is, from)) below

  -- ---- the record

  abbrev size : ℕ
  size = span n / 8

  module _ (hs : List (ℕ × ℕ)) (g : Gives C tail slots (claim_end c) cs hs) where
    no_record : shown c.place ≡ 0 → shown_at c.stage (placed_message c) ≡ [] → one_if_unsettled c.stage ≡ 0
        → Gives C tail slots c.place (c ∷ cs) (listed shown size c.place ++ hs)
    no_record none nothing nobody =
        let empty : listed shown size c.place ≡ [] = zeros shown size c.place (at_each none) in
        subst (λ l. Gives C tail slots c.place (c ∷ cs) (l ++ hs)) (sym empty)
        (gives_below C tail slots (claim_end c) c.place (c ∷ cs) hs (omega arith) (record {
          messages = g.messages ∙ ap (λ l. l ++ placed_committed_of cs) (sym nothing);
          claims = omega (arith, g.claims, nobody);
          none = g.none;
        }))
      where
        at_each : shown c.place ≡ 0 → (j : ℕ) → j < size → shown (c.place + 8 * j) ≡ 0
        at_each none zero lt = let here : c.place + 8 * zero ≡ c.place = omega arith in ap shown here ∙ none
        at_each none (suc j) lt =
            let there : c.place + 8 * suc j ≡ c.place + 8 + 8 * j = omega arith in
            ap shown there ∙ inner j (omega (arith, lt, bounds))

    one_record : (w : ℕ) (ms : List PlacedMessage) (k : ℕ) → shown c.place ≡ w
        → Adds C tail slots c.place w (claim_end c) ms k → shown_at c.stage (placed_message c) ≡ ms
        → one_if_unsettled c.stage ≡ k
        → Gives C tail slots c.place (c ∷ cs) (listed shown size c.place ++ hs)
    one_record w ms k is d sees waits =
        let more : size ≡ suc (size - 1) = omega (arith, bounds) in
        let found : listed shown size c.place ≡ (c.place, w) ∷ [] =
        ap (λ m. listed shown m c.place) more
        ∙ one shown (size - 1) c.place w is (not_zero C tail c.place d.len d.type_id w d.«header»)
        (λ j lt. inner j (omega (arith, lt, bounds))) in
        subst (λ l. Gives C tail slots c.place (c ∷ cs) (l ++ hs)) (sym found)
        (adds C tail slots c.place w (claim_end c) ms k cs (c ∷ cs) hs d (ap (λ l. l ++ placed_committed_of cs) sees)
        (ap (λ m. m + unsettled_count cs) waits) g)

  -- the header of a record of this length and this type id
  record_header : (len type_id : ℤ) → nat_abs len ≡ 8 + n → FitsSigned w32 len → FitsSigned w32 type_id
      → is_type len type_id ≡ true → IsHeader C tail c.place len type_id (header len type_id)
  record_header len type_id long fits type_fits typed = record {
    is = refl;
    len_fits = fits;
    type_fits = type_fits;
    some = λ z. let bad : 8 + n ≡ 0 = sym long ∙ ap nat_abs z in omega (arith, bad);
    inside = ap (is_length C tail c.place) long ∙ record_fits;
    typed = typed;
  }

  message_type : (len : ℤ) → is_type len c.message.type_id ≡ true
  message_type len = ap (λ b. b || (int_lt (pos 0) len && int_lt c.message.type_id (pos 0)
      && int_lt (negsuc 2) c.message.type_id)) (type_above c.message.type_id lies.message.type_id)

  adds_open : Adds C tail slots c.place (header (neg_ℤ (pos (8 + n))) c.message.type_id) (claim_end c) [] 1
  adds_open =
      let len : ℤ = neg_ℤ (pos (8 + n)) in
      let t : ℤ = c.message.type_id in
      let w : ℕ = header len t in
      let h : IsHeader C tail c.place len t w = record_header len t (abs_neg (8 + n)) (fits_neg (8 + n) small)
      lies.message.type_fits (message_type len) in
      let ends = ap (λ k. c.place + rounded k) (abs_neg (8 + n)) in
      record {
        len = len;
        type_id = t;
        «header» = h;
        ends = omega (arith, ends);
        messages = ap (λ b. all_placed (cond b (message_at C slots c.place w ∷ []) []))
            (committed_is C tail c.place len t w h false (ap (λ b. b && int_lt (pos 0) t) (neg_not_above (8 + n))));
        claims = ap (λ b. cond b 1 0) (open_is C tail c.place len t w h ∙ neg_below (8 + n) (omega arith));
      }

  adds_aborted : Adds C tail slots c.place (header (pos (8 + n)) padding_type) (claim_end c) [] 0
  adds_aborted =
      let len : ℤ = pos (8 + n) in
      let w : ℕ = header len padding_type in
      let h : IsHeader C tail c.place len padding_type w = record_header len padding_type refl (fits_pos (8 + n) small)
      record { sfits = omega arith } (ap (λ b. b && true && true) (pos_above (8 + n) (omega arith))) in
      record {
        len = len;
        type_id = padding_type;
        «header» = h;
        ends = omega arith;
        messages = ap (λ b. all_placed (cond b (message_at C slots c.place w ∷ []) []))
            (committed_is C tail c.place len padding_type w h false
            (ap (λ b. b && false) (pos_above (8 + n) (omega arith))));
        claims = ap (λ b. cond b 1 0) (open_is C tail c.place len padding_type w h ∙ not_negative (8 + n));
      }

  module _ (have : HaveBody C slots c.place c.message.body) where
    body_is : bytes_at slots (c.place % C + 8) n ≡ c.message.body
    unfolding body_word
    body_is =
        body_told slots c.message.body (c.place % C) lies.message.bytes (mod_aligned C c.place c8 place_aligned)
        (λ j lt.
        let p : ℕ = c.place + 8 * (j + 1) in
        let step = index_step C c.place (j + 1) c8 place_aligned (omega (arith, within, bounds)) in
        let at : c.place % C / 8 + 1 + j ≡ p % C / 8 = omega (arith, step) in
        let there : p ≡ c.place + 8 + 8 * j = omega arith in
        ap (slice_index slots) (at ∙ ap (index C) there) ∙ have (8 * j) (omega arith) lt)

    adds_committed : Adds C tail slots c.place (header (pos (8 + n)) c.message.type_id) (claim_end c)
        (placed_message c ∷ []) 0
    adds_committed =
        let len : ℤ = pos (8 + n) in
        let t : ℤ = c.message.type_id in
        let w : ℕ = header len t in
        let h : IsHeader C tail c.place len t w = record_header len t refl (fits_pos (8 + n) small)
        lies.message.type_fits (message_type len) in
        let less : 8 + n - 8 ≡ n = omega arith in
        let body : bytes_at slots (c.place % C + 8) (bytes_in w - 8) ≡ c.message.body =
        ap (λ k. bytes_at slots (c.place % C + 8) (k - 8)) (bytes_are C tail c.place len t w h)
        ∙ ap (bytes_at slots (c.place % C + 8)) less ∙ body_is in
        record {
          len = len;
          type_id = t;
          «header» = h;
          ends = omega arith;
          messages = ap (λ b. all_placed (cond b (message_at C slots c.place w ∷ []) []))
              (committed_is C tail c.place len t w h true
              (λ i. pos_above (8 + n) (omega arith) i && type_above t lies.message.type_id i))
              ∙ (λ i. (record {
                place = c.place;
                message = record { type_id = type_is C tail c.place len t w h i; body = body i };
              }) ∷ []);
          claims = ap (λ b. cond b 1 0) (open_is C tail c.place len t w h ∙ not_negative (8 + n));
        }

  -- the record, whatever its stage is
  pub record_gives : (hs : List (ℕ × ℕ)) → Gives C tail slots (claim_end c) cs hs
      → (IsSettled c.stage → HaveBody C slots c.place c.message.body)
      → Gives C tail slots c.place (c ∷ cs) (listed shown size c.place ++ hs)
  record_gives hs g have = by_stage c.stage refl
    where
      by_stage : (t : Stage) → c.stage ≡ t
          → Gives C tail slots c.place (c ∷ cs) (listed shown size c.place ++ hs)
      by_stage t is = at_stage t
          (found_here c.place place_aligned begins (omega (arith, bounds))
          ∙ staged_word-header elsewhere c c.place refl
          ∙ ap (λ s. masked_record s (header_of (record { message = c.message; state = stage_state s }))) is)
          (ap (λ s. shown_at s (placed_message c)) is) (ap one_if_unsettled is)
          (λ done. have (subst IsSettled (sym is) done))
        where
          at_stage : (t : Stage)
              → shown c.place ≡ masked_record t (header_of (record { message = c.message; state = stage_state t }))
              → shown_at c.stage (placed_message c) ≡ shown_at t (placed_message c)
              → one_if_unsettled c.stage ≡ one_if_unsettled t
              → (IsSettled t → HaveBody C slots c.place c.message.body)
              → Gives C tail slots c.place (c ∷ cs) (listed shown size c.place ++ hs)
          at_stage Moved is sees waits have = no_record hs g is sees waits
          at_stage Padded is sees waits have = no_record hs g is sees waits
          at_stage (Stored Open) is sees waits have = one_record hs g _ [] 1 is adds_open sees waits
          at_stage (Stored Committed) is sees waits have =
              one_record hs g _ (placed_message c ∷ []) 0 is (adds_committed (have tt)) sees waits
          at_stage (Stored Aborted) is sees waits have = one_record hs g _ [] 0 is adds_aborted sees waits

  -- ---- the padding before it

  abbrev pads : ℕ
  pads = (c.place - e) / 8

  module _ (hs : List (ℕ × ℕ)) (g : Gives C tail slots c.place (c ∷ cs) hs) where
    plain : listed shown pads e ≡ [] → Gives C tail slots e (c ∷ cs) (listed shown pads e ++ hs)
    plain none = subst (λ l. Gives C tail slots e (c ∷ cs) (l ++ hs)) (sym none)
        (gives_below C tail slots c.place e (c ∷ cs) hs begins g)

    module _ (before : e < c.place) where
      abbrev pad : ℕ
      pad = c.place - e

      rest_zero : (j : ℕ) → j < pads - 1 → shown (e + 8 + 8 * j) ≡ 0
      rest_zero j lt = padding (e + 8 + 8 * j) (omega (arith, a.aligned)) (omega arith)
          (omega (arith, lt, a.aligned, place_aligned))

      no_padding : shown e ≡ 0 → Gives C tail slots e (c ∷ cs) (listed shown pads e ++ hs)
      no_padding none = plain (zeros shown pads e (each none))
        where
          each : shown e ≡ 0 → (j : ℕ) → j < pads → shown (e + 8 * j) ≡ 0
          each none zero lt = let here : e + 8 * zero ≡ e = omega arith in ap shown here ∙ none
          each none (suc j) lt =
              let there : e + 8 * suc j ≡ e + 8 + 8 * j = omega arith in
              ap shown there ∙ rest_zero j (omega (arith, lt))

      pad_is_room : (pad ≡ room C e) × (room C e < span n)
      pad_is_room = ⊎_elim (λ (here : (span_c ≤ room C e) × (next_place C e span_c ≡ e)). absurd
          (omega (arith, here.1, before, lies.place)))
          (λ (next : (room C e < span_c) × (next_place C e span_c ≡ e + room C e)).
          (omega (arith, next.1, lies.place), next.0)) (next_cases C e span_c)

      adds_padding : Adds C tail slots e (header (pos pad) padding_mark) c.place [] 0
      adds_padding =
          let len : ℤ = pos pad in
          let w : ℕ = header len padding_mark in
          let is = pad_is_room.0 in
          let few = pad_is_room.1 in
          let some : 8 ≤ pad = omega (arith, a.aligned, place_aligned, before) in
          let p8 : pad % 8 ≡ 0 = omega (arith, a.aligned, place_aligned, before) in
          let whole : rounded pad ≡ pad = omega (arith, p8) in
          let h : IsHeader C tail e len padding_mark w = record {
            is = refl;
            len_fits = fits_pos pad (omega (arith, few, is, short, a.capacity.most));
            type_fits = record { sfits = omega arith };
            some = λ z. let bad : pad ≡ 0 = ap nat_abs z in omega (arith, some, bad);
            inside = length_fits C tail e pad some
                (omega (arith, p8, few, is, lies.message.short, bounds, capacity_blocks C a.capacity))
                (omega (arith, whole, is)) (omega (arith, whole, end_below, bounds, before));
            typed = ap (λ b. b && true && true) (pos_above pad (omega (arith, some)));
          } in
          record {
            len = len;
            type_id = padding_mark;
            «header» = h;
            ends = omega (arith, whole, before);
            messages = ap (λ b. all_placed (cond b (message_at C slots e w ∷ []) []))
                (committed_is C tail e len padding_mark w h false
                (ap (λ b. b && false) (pos_above pad (omega (arith, some)))));
            claims = ap (λ b. cond b 1 0) (open_is C tail e len padding_mark w h ∙ not_negative pad);
          }

      one_padding : shown e ≡ header (pos pad) padding_mark
          → Gives C tail slots e (c ∷ cs) (listed shown pads e ++ hs)
      one_padding is =
          let w : ℕ = header (pos pad) padding_mark in
          let d = adds_padding in
          let more : pads ≡ suc (pads - 1) = omega (arith, a.aligned, place_aligned, before) in
          let found : listed shown pads e ≡ (e, w) ∷ [] =
          ap (λ m. listed shown m e) more
          ∙ one shown (pads - 1) e w is (not_zero C tail e d.len d.type_id w d.«header») rest_zero in
          subst (λ l. Gives C tail slots e (c ∷ cs) (l ++ hs)) (sym found)
          (adds C tail slots e w c.place [] 0 (c ∷ cs) (c ∷ cs) hs d refl (omega arith) g)

      at_stage : (t : Stage) → c.stage ≡ t
          → Gives C tail slots e (c ∷ cs) (listed shown pads e ++ hs)
      at_stage t is = by_stage t (
          found_here e a.aligned (omega arith) (omega (arith, before, bounds))
          ∙ staged_word-padding elsewhere c e (sym lies.from) before
          ∙ (λ i. masked_padding (is i) (padding_word elsewhere (c.place - lies.from i)))
          )
        where
          by_stage : (t : Stage) → shown e ≡ masked_padding t (padding_word elsewhere pad)
              → Gives C tail slots e (c ∷ cs) (listed shown pads e ++ hs)
          by_stage Moved is = no_padding is
          by_stage Padded is = one_padding is
          by_stage (Stored s) is = one_padding is

    pub padding_gives : Gives C tail slots e (c ∷ cs) (listed shown pads e ++ hs)
    padding_gives = ⊎_elim (λ (before : e < c.place). at_stage before c.stage refl)
        (λ (same : c.place ≤ e).
        let none : pads ≡ 0 = omega (arith, same) in
        plain (ap (λ m. listed shown m e) none)) (cases_lt e c.place)

  -- the claims after it
  pub rest_shown : AreShown C tail shown (claim_end c) cs
  rest_shown = record {
    capacity = a.capacity;
    aligned = omega (arith, place_aligned, bounds);
    placed = a.placed.1;
    ends = a.ends;
    shows = λ p p8 from below. a.shows p p8 (omega (arith, begins, from)) below
        ∙ cond-false _ _ _ (le-ltb p (claim_end c) from);
  }
