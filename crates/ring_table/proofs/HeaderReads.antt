-- A header of positive length leads a read on.
use Rattle.ring_table.specs.Staged.{Bodies, in_words, elsewhere, padding_mark, padding_word, shown_header}
use Rattle.std.proofs.Common.{◌≡◌, ◌≢◌, ℕ, zero, suc, ◌+◌, ◌-◌, ◌/◌, ◌%◌, ◌^◌, ◌≤◌, ◌<◌, ℤ, ◌≤ℤ◌, pos, negsuc, neg_ℤ, FitsSigned, List, [], ◌∷◌, ◌++◌, cond, sym, refl, ap, ◌∙◌, subst, inl, inr, ⊎_elim, length, lt-ltb, le-ltb, append_assoc, eq-eqb, ne_eqb, arith, w32}
use Rattle.std.{specs.Int.cast_unsigned, proofs.Math.Logic.dite, proofs.Math.Decide.ℕ_discrete}
use Rattle.std.proofs.lemmas.{Bool.cond-true, Bool.cond-false, Int.ints, Nat.mod_low, Nat.shr_high, Nat.mod_below}
use Rattle.ring_layout.specs.{declared.message.Message.Message, Places.IsCapacity, Places.next_place, Places.rounded}
use Rattle.ring_layout.specs.declared.message.ClaimState.TheVariants.{Open, Committed, Aborted}
use Rattle.ring_layout.specs.History.{IsMessage}
use Rattle.ring_layout.specs.Headers.{header, header_of, padding_header, padding_type}
use Rattle.ring_layout.proofs.{Laps.mod_aligned, PlaceLemmas.next_cases, PlaceLemmas.next_within}
use Rattle.ring_layout.proofs.HeaderLemmas.{pattern_below, fits_pos, fits_neg}
use Rattle.ring_table.specs.Staged.{StagedClaim, PlacedMessage, Stage, Moved, Padded, Stored, claim_of, staged_span, claim_end, masked_padding, masked_record, staged_word, staged_word_at}
use Rattle.ring_table.specs.Passing.{IsSettled, placed_message, shown_at, Reaches}
use Rattle.ring_table.proofs.StagedPlaces.{StandFrom, claim_aligned, capacity_aligned}
use Rattle.ring_table.proofs.{StagedWords.staged_word-header, StagedWords.staged_word-padding, ReachLemmas.reach_bounds}

-- the two halves of a header
pub low_half : (len type_id : ℤ) → FitsSigned w32 len → header len type_id % 2 ^ 32 ≡ cast_unsigned w32 len
low_half len type_id fits = mod_low (cast_unsigned w32 type_id) 32 (cast_unsigned w32 len) (pattern_below len fits)

pub high_half : (len type_id : ℤ) → FitsSigned w32 len → header len type_id / 2 ^ 32 ≡ cast_unsigned w32 type_id
high_half len type_id fits = shr_high (cast_unsigned w32 type_id) 32 (cast_unsigned w32 len) (pattern_below len fits)

-- the halves of the header w of a record of this length
pub halves : {w : ℕ} (len : ℕ) (type_id : ℤ) → len < 2 ^ 31 → w ≡ header (pos len) type_id
    → (w % 2 ^ 32 ≡ len) × (w / 2 ^ 32 ≡ cast_unsigned w32 type_id)
halves len type_id small is = (
  ap (λ k. k % 2 ^ 32) is ∙ low_half (pos len) type_id (fits_pos len small),
  ap (λ k. k / 2 ^ 32) is ∙ high_half (pos len) type_id (fits_pos len small),
)

pub negated_above : (n : ℕ) → 0 < n → n < 2 ^ 31 → 2 ^ 31 ≤ cast_unsigned w32 (neg_ℤ (pos n))
negated_above zero some small = absurd (omega arith)
negated_above (suc n) some small = omega arith

-- a header as the formats have it: of the same length, and with the same type id if it is no padding's
pub shown_low : (B : Bodies) (w : ℕ) → shown_header B w % 2 ^ 32 ≡ w % 2 ^ 32
shown_low in_words w = refl
shown_low elsewhere w = dite (ℕ_discrete (w / 2 ^ 32) (2 ^ 32 - 2))
    (λ e. ap (λ k. k % 2 ^ 32) (cond-true _ (w + 2 ^ 32) w (eq-eqb (w / 2 ^ 32) (2 ^ 32 - 2) e)) ∙ omega arith)
    (λ ne. ap (λ k. k % 2 ^ 32) (cond-false _ (w + 2 ^ 32) w (ne_eqb (w / 2 ^ 32) (2 ^ 32 - 2) ne)))

pub shown_other : (B : Bodies) (w : ℕ) → w / 2 ^ 32 ≢ 2 ^ 32 - 2 → shown_header B w ≡ w
shown_other in_words w other = refl
shown_other elsewhere w other = cond-false _ (w + 2 ^ 32) w (ne_eqb (w / 2 ^ 32) (2 ^ 32 - 2) other)

pub shown_padding : (B : Bodies) (n : ℕ) → n < 2 ^ 31 → shown_header B (padding_word B n) ≡ padding_header n
shown_padding in_words n small = refl
shown_padding elsewhere n small =
    let w : ℕ = header (pos n) padding_mark in
    let high : w / 2 ^ 32 ≡ 2 ^ 32 - 2 = high_half (pos n) padding_mark (fits_pos n small) in
    let low : ℕ = cast_unsigned w32 (pos n) in
    let up : w + 2 ^ 32 ≡ padding_header n = omega arith in
    cond-true _ (w + 2 ^ 32) w (eq-eqb (w / 2 ^ 32) (2 ^ 32 - 2) high) ∙ up

-- what a type id of a message is as bits
pub type_below : (type_id : ℤ) → pos 1 ≤ℤ type_id → FitsSigned w32 type_id → cast_unsigned w32 type_id < 2 ^ 31
type_below (pos n) one fits = omega (arith, fits.sfits)
type_below (negsuc n) one fits = absurd (omega (arith, ints))

-- the message of a header whose high half is not padding's
pub record FindsAt (C s e : ℕ) (cs : List StagedClaim) (got : List PlacedMessage) (len bits : ℕ) : Type 0 where
  pub message : Message
  pub len_is : 8 + length message.body ≡ len
  pub type_is : cast_unsigned w32 message.type_id ≡ bits
  pub lawful : IsMessage C message
  pub reaches : Reaches (s + rounded len) e cs (got ++ (record { place = s; message = message }) ∷ [])

-- the position to which the header w, whose length is positive, leads
pub record Leads (C s e : ℕ) (cs : List StagedClaim) (got : List PlacedMessage) (w : ℕ) : Type 0 where
  pub padding : w / 2 ^ 32 ≡ 2 ^ 32 - 1 → Reaches (s + rounded (w % 2 ^ 32)) e cs got
  pub message : w / 2 ^ 32 ≢ 2 ^ 32 - 1 → FindsAt C s e cs got (w % 2 ^ 32) (w / 2 ^ 32)
  pub within : s % C + rounded (w % 2 ^ 32) ≤ C

at_end : (e : ℕ) (cs : List StagedClaim) → Reaches e e cs []
at_end e [] = (refl, refl)
at_end e (c ∷ cs) = inl (refl, refl)

-- the length in a header is positive
pub record HasLength (w : ℕ) : Type 0 where
  pub above : 0 < w % 2 ^ 32
  pub below : w % 2 ^ 32 < 2 ^ 31

-- w is the header at the place s of a claim at the stage t
record IsHeaderAt (c : StagedClaim) (t : Stage) (s w : ℕ) : Type 0 where
  pub place : s ≡ c.place
  pub stage : c.stage ≡ t
  pub word : w ≡ masked_record t
      (header_of (claim_of (record { from = c.from; place = c.place; message = c.message; stage = t })))

-- the header w of a settled claim's record leads from s to the claim's end
record LeadsToEnd (c : StagedClaim) (s w : ℕ) (type_id : ℤ) : Type 0 where
  pub len : w % 2 ^ 32 ≡ 8 + length c.message.body
  pub bits : w / 2 ^ 32 ≡ cast_unsigned w32 type_id
  pub goes : s + rounded (w % 2 ^ 32) ≡ claim_end c

leads_to_end : (C s : ℕ) (c : StagedClaim) (w : ℕ) (type_id : ℤ) → C ≤ 2 ^ 24 → IsMessage C c.message → s ≡ c.place
    → w ≡ header (pos (8 + length c.message.body)) type_id → LeadsToEnd c s w type_id
leads_to_end C s c w type_id big m at is =
    let n : ℕ = length c.message.body in
    let both = halves (8 + n) type_id (omega arith) is in
    let len : w % 2 ^ 32 ≡ 8 + n = both.0 in
    record { len = len; bits = both.1; goes = omega arith }

-- the header at the place of the claim
at_header : (B : Bodies) (C s e : ℕ) (c : StagedClaim) (cs : List StagedClaim) (t : Stage) (w : ℕ) → C ≤ 2 ^ 24
    → IsMessage C c.message → s % C + staged_span c ≤ C → IsHeaderAt c t s w → HasLength w
    → Leads C s e (c ∷ cs) [] (shown_header B w)
at_header B C s e c cs Moved w big m inner h plus =
    absurd (omega arith)
at_header B C s e c cs Padded w big m inner h plus =
    absurd (omega arith)
at_header B C s e c cs (Stored Open) w big m inner h plus =
    let eq = h.word in
    let n : ℕ = length c.message.body in
    let low : w % 2 ^ 32 ≡ cast_unsigned w32 (neg_ℤ (pos (8 + n))) =
    ap (λ k. k % 2 ^ 32) eq ∙ low_half (neg_ℤ (pos (8 + n))) c.message.type_id (fits_neg (8 + n) (omega arith)) in
    let far = negated_above (8 + n) (omega arith) (omega arith) in
    absurd (omega arith)
at_header B C s e c cs (Stored Committed) w big m inner h plus =
    let at = h.place in
    let is = h.stage in
    let t = leads_to_end C s c w c.message.type_id big m at h.word in
    let goes = t.goes in
    let bits = t.bits in
    let type_bits = type_below c.message.type_id m.type_id m.type_fits in
    subst (Leads C s e (c ∷ cs) []) (sym (shown_other B w (λ mark. omega arith))) (record {
      padding = λ pad. absurd (omega arith);
      message = λ _. record {
        message = c.message;
        len_is = sym t.len;
        type_is = sym bits;
        lawful = m;
        reaches = subst (λ k. Reaches k e (c ∷ cs) ((record { place = s; message = c.message }) ∷ [])) (sym goes)
            (inr (inr (
              subst IsSettled (sym is) tt,
              (
                [],
                subst
                    (λ t'. (record { place = s; message = c.message }) ∷ [] ≡ shown_at t' (placed_message c) ++ [])
                    (sym is)
                    (λ i. (record { place = at i; message = c.message }) ∷ []),
                at_end (claim_end c) cs,
              ),
            )));
      };
      within = omega arith;
    })
at_header B C s e c cs (Stored Aborted) w big m inner h plus =
    let is = h.stage in
    let t = leads_to_end C s c w padding_type big m h.place h.word in
    let goes = t.goes in
    let bits : w / 2 ^ 32 ≡ 2 ^ 32 - 1 = t.bits in
    subst (Leads C s e (c ∷ cs) []) (sym (shown_other B w (λ mark. omega arith))) (record {
      padding = λ _. subst (λ k. Reaches k e (c ∷ cs) []) (sym goes)
          (inr (inr (
            subst IsSettled (sym is) tt,
            (
              [],
              subst (λ t'. [] ≡ shown_at t' (placed_message c) ++ [])
                  (sym is) refl,
              at_end (claim_end c) cs,
            ),
          )));
      message = λ other. absurd (other t.bits);
      within = omega arith;
    })

-- the padding from s up to the place of the claim is whole words, and does not cross the end of the buffer
record IsPaddingAt (C : ℕ) (c : StagedClaim) (s : ℕ) : Type 0 where
  pub from : s ≡ c.from
  pub some : s < c.place
  pub near : c.place ≤ s + C
  pub whole : (c.place - s) % 8 ≡ 0
  pub inner : s % C + (c.place - s) ≤ C

-- the padding's header before the claim
at_padding : (B : Bodies) (C s e : ℕ) (c : StagedClaim) (cs : List StagedClaim) (w : ℕ) → C ≤ 2 ^ 24 → IsPaddingAt C c s
    → w ≡ masked_padding c.stage (padding_word B (c.place - c.from)) → HasLength w
    → Leads C s e (c ∷ cs) [] (shown_header B w)
at_padding B C s e c cs w big pad eq plus = by_stage c.stage refl eq
  where
    at : s ≡ c.from
    at = pad.from

    lt : s < c.place
    lt = pad.some

    near : c.place ≤ s + C
    near = pad.near

    eight : (c.place - s) % 8 ≡ 0
    eight = pad.whole

    inner : s % C + (c.place - s) ≤ C
    inner = pad.inner

    lo : 0 < w % 2 ^ 32
    lo = plus.above

    hi : w % 2 ^ 32 < 2 ^ 31
    hi = plus.below

    stored : w ≡ padding_word B (c.place - c.from) → c.stage ≢ Moved → Leads C s e (c ∷ cs) [] (shown_header B w)
    stored is moved =
        let n : ℕ = c.place - c.from in
        let u : ℕ = shown_header B w in
        let u_is : u ≡ padding_header n = ap (shown_header B) is ∙ shown_padding B n (omega arith) in
        let both = halves n padding_type (omega arith) u_is in
        let goes : s + rounded (u % 2 ^ 32) ≡ c.place = omega arith in
        record {
          padding = λ _. inr (inl (goes, moved, refl));
          message = λ other. absurd (other both.1);
          within = omega arith;
        }

    by_stage : (t : Stage) → c.stage ≡ t → w ≡ masked_padding t (padding_word B (c.place - c.from))
        → Leads C s e (c ∷ cs) [] (shown_header B w)
    by_stage Moved is eq' = absurd (omega arith)
    by_stage Padded is eq' = stored eq' (λ moved. cc)
    by_stage (Stored t) is eq' = stored eq' (λ moved. cc)

here : (B : Bodies) → (c : StagedClaim) (cs : List StagedClaim) (p : ℕ) → p < claim_end c → staged_word_at B (c ∷ cs) p ≡ staged_word B c p
here B c cs p lt = ap (λ b. cond b (staged_word B c p) (staged_word_at B cs p)) (lt-ltb p (claim_end c) lt)

pub leads : (B : Bodies) → (C s e : ℕ) (cs : List StagedClaim) (got : List PlacedMessage) (w : ℕ) → IsCapacity C → StandFrom C e cs
    → Reaches s e cs got → staged_word_at B cs s ≡ w → HasLength w → Leads C s e cs got (shown_header B w)
leads B C s e [] got w cap stand r is plus =
    let none : 0 ≡ w = is in
    absurd (omega arith)
leads B C s e (c ∷ cs) got w cap stand r is plus =
    let e8 = stand.whole in
    let h = stand.placed in
    let most = cap.most in
    let c8 = capacity_aligned C cap in
    let a : ℕ = staged_span c in
    let n : ℕ = length c.message.body in
    let place : ℕ = c.place in
    let place_is : place ≡ next_place C e a = h.0.place in
    let aligned = claim_aligned C e c (omega arith) c8 e8 h.0.place in
    let e_low = mod_below e C (omega arith) in
    let e_mod = mod_aligned C e c8 e8 in
    let now_at_place = λ (at : s ≡ place).
    at_header B C s e c cs c.stage w most h.0.message
    (subst (λ k. k % C + a ≤ C) (sym (at ∙ place_is)) (next_within C e a (omega arith) (omega arith)))
    (record {
      place = at;
      stage = refl;
      word = sym is ∙ here B c cs s (omega arith) ∙ staged_word-header B c s at;
    }) plus in
    ⊎_elim (λ alt.
    let at_e : s ≡ e = alt.0 in
    subst (λ g. Leads C s e (c ∷ cs) g (shown_header B w)) (sym alt.1)
    (⊎_elim
    (λ t. now_at_place (omega arith))
    (λ t.
    let same_mod : s % C ≡ e % C = ap (λ k. k % C) at_e in
    at_padding B C s e c cs w most
    (record {
      from = omega arith;
      some = omega arith;
      near = omega arith;
      whole = omega arith;
      inner = omega arith;
    })
    (sym is ∙ here B c cs s (omega arith) ∙ staged_word-padding B c s (omega arith) (omega arith)) plus)
    (next_cases C e a)))
    (⊎_elim (λ alt. subst (λ g. Leads C s e (c ∷ cs) g (shown_header B w)) (sym alt.2) (now_at_place alt.0))
    (λ alt.
    let later : List PlacedMessage = alt.1.0 in
    let bounds = reach_bounds C s (claim_end c) cs later h.1 alt.1.2 in
    let above = bounds.0 in
    let t = leads B C s (claim_end c) cs later w cap (record { whole = aligned.1; placed = h.1 }) alt.1.2
    (sym (ap (λ b. cond b (staged_word B c s) (staged_word_at B cs s)) (le-ltb s (claim_end c) above)) ∙ is) plus in
    record {
      padding = λ pad. inr (inr (alt.0, (later, alt.1.1, t.padding pad)));
      message = λ other.
          let found = t.message other in
          let m : PlacedMessage = record { place = s; message = found.message } in
          record {
            message = found.message;
            len_is = found.len_is;
            type_is = found.type_is;
            lawful = found.lawful;
            reaches = inr
                (inr (
                  alt.0,
                  (
                    later ++ m ∷ [],
                    ap (λ l. l ++ m ∷ []) alt.1.1
                        ∙ append_assoc (shown_at c.stage (placed_message c)) later (m ∷ []),
                    found.reaches,
                  ),
                ));
          };
      within = t.within;
    })) r
