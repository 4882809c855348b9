-- The walk that puts bodies beside their headers.
use Rattle.std.proofs.Common.{◌≡◌, ℕ, ◌+◌, ◌-◌, ◌*◌, ◌/◌, ◌%◌, ◌^◌, ◌≤◌, ◌<◌, ◌⊎◌, pos, List, [], ◌∷◌, ◌++◌, slice_index, sym, refl, ap, ◌∙◌, subst, inl, inr, ⊎_elim, length, lt-ltb, le-ltb, append_assoc, append-nil, arith}
use Rattle.std.proofs.lemmas.{Bool.cases_lt, Bool.cond-true, Bool.cond-false, Nat.mod_below}
use Rattle.ring_layout.specs.declared.message.ClaimState.TheVariants.{Open, Committed, Aborted}
use Rattle.ring_layout.specs.Headers.{header, header_of, padding_type}
use Rattle.ring_layout.specs.Places.{IsCapacity, index, next_place, rounded}
use Rattle.ring_layout.proofs.Laps.{LieInLap, mod_aligned, index_outside}
use Rattle.ring_layout.proofs.PlaceLemmas.{next_le, next_within}
use Rattle.ring_table.specs.Staged.{in_words, StagedClaim, Stage, Moved, Padded, Stored, IsStored, LiesAfter, claim_of, claim_end, stage_state, staged_span, masked_record, staged_word, staged_word_at, ArePlaced, staged_end}
use Rattle.ring_table.specs.Passing.{IsSettled, placed_message, shown_at, placed_committed_of}
use Rattle.ring_table.specs.Refilling.{FillsOver, FillsTo, Filled, FitAll, FitsBody, all_filled, filled, filled_message}
use Rattle.ring_table.specs.Walk.{IsCopied}
use Rattle.ring_table.proofs.{BodyPlaces.BodyIn, BodyPlaces.behind_header, HeaderReads.halves, HeaderReads.type_below}
use Rattle.ring_table.proofs.SettleLemmas.{snoc_before, snoc_end, snoc_placed, snoc_there}
use Rattle.ring_table.proofs.StagedPlaces.{capacity_aligned, end_le, nothing_behind}
use Rattle.ring_table.proofs.StagedWords.{staged_word-header, staged_word-in_words}

all_filled-append : (F : ℕ → List ℕ) (cs : List StagedClaim) (c : StagedClaim)
    → all_filled F (cs ++ c ∷ []) ≡ all_filled F cs ++ filled F c ∷ []
all_filled-append F [] c = refl
all_filled-append F (d ∷ cs) c = ap (λ l. filled F d ∷ l) (all_filled-append F cs c)

-- a step of the walk at s, which finds the word w, and goes n bytes
pub record FillStep (C head : ℕ) (slots : List ℕ) (F : ℕ → List ℕ) (now : List StagedClaim) (s : ℕ) (made : List ℕ)
    (w n : ℕ) : Type 0 where
  pub some : 8 ≤ n
  pub within : s % C + n ≤ C
  pub far : s + n ≤ staged_end head now
  pub kept : 2 ^ 31 ≤ w / 2 ^ 32 → FillsTo C head slots F now (s + n) made
  pub copied : w / 2 ^ 32 < 2 ^ 31 → (made' : List ℕ) → IsCopied (index C s + 1) (n / 8 - 1) slots made made'
      → FillsTo C head slots F now (s + n) made'

module _ (C head : ℕ) (cap : IsCapacity C) (slots : List ℕ) (F : ℕ → List ℕ) (now : List StagedClaim) (s : ℕ)
    (made : List ℕ) (w : ℕ) (w_is : w ≡ slice_index made (index C s)) where
  -- the claim c becomes d, which is as long
  advance : (done rest : List StagedClaim) (c d : StagedClaim) → FillsOver C head slots F now s made done (c ∷ rest)
      → filled F c ≡ d → LiesAfter C s d → (n : ℕ) → 8 ≤ n → n % 8 ≡ 0 → s % C + n ≤ C → claim_end c ≡ s + n
      → claim_end d ≡ s + n → FitAll C slots F (placed_committed_of rest) → (made' : List ℕ)
      → ((j : ℕ) → (j < index C s) ⊎ (index C s + n / 8 ≤ j) → slice_index made' j ≡ slice_index made j)
      → ((p : ℕ) → p % 8 ≡ 0 → s ≤ p → p < s + n → slice_index made' (index C p) ≡ staged_word in_words d p)
      → FillsTo C head slots F now (s + n) made'
  advance done rest c d k d_is lies n some n8 within c_end d_end fits made' else_same shows =
      let least = cap.least in
      let c8 = capacity_aligned C cap in
      let s8 = k.aligned in
      let from_head = k.from in
      let room_is = k.room in
      let done_ends : staged_end head (all_filled F done) ≡ s = k.done_ends in
      let ends : staged_end (claim_end c) rest ≡ staged_end head now = k.ends in
      let rest_end = end_le C (claim_end c) rest k.placed.1 in
      let full : all_filled F (done ++ c ∷ []) ≡ all_filled F done ++ d ∷ [] =
      all_filled-append F done c ∙ ap (λ x. all_filled F done ++ x ∷ []) d_is in
      let lies_in_lap : LieInLap C head s n =
      record { whole = s8; words = n8; within = within; from = from_head; to = omega arith } in
      let apart_from : (p : ℕ) → p % 8 ≡ 0 → head ≤ p → p < head + C → (p < s) ⊎ (s + n ≤ p)
      → slice_index made' (index C p) ≡ slice_index made (index C p) =
      λ p p8 lo hi out. else_same (index C p) (index_outside C head s n p (record { some = omega arith; whole = c8 })
      lies_in_lap (record { whole = p8; from = lo; below = hi }) out) in
      let lies' : LiesAfter C (staged_end head (all_filled F done)) d =
      subst (λ x. LiesAfter C x d) (sym done_ends) lies in
      record {
        done = done ++ c ∷ [];
        ahead = rest;
        over = record {
          whole = append_assoc done (c ∷ []) rest ∙ k.whole;
          done_placed = subst (ArePlaced C head) (sym full)
              (snoc_placed C head (all_filled F done) d k.done_placed lies');
          done_ends = ap (staged_end head) full ∙ snoc_end head (all_filled F done) d ∙ d_end;
          placed = subst (λ x. ArePlaced C x rest) c_end k.placed.1;
          settled = k.settled.1;
          tight = k.tight.1;
          ends = ap (λ x. staged_end x rest) (sym c_end) ∙ ends;
          limit = k.limit;
          room = k.room;
          aligned = omega arith;
          from = omega arith;
          fits = fits;
          shown = λ p p8 lo hi. ⊎_elim
              (λ (before : p < s). apart_from p p8 lo (omega arith) (inl before) ∙ k.shown p p8 lo before
              ∙ sym (snoc_before C head (all_filled F done) d p k.done_placed lo (omega arith)))
              (λ (from_s : s ≤ p). shows p p8 from_s hi
              ∙ sym (snoc_there C head (all_filled F done) d p k.done_placed (omega arith) (omega arith)))
              (cases_lt p s)
              ∙ ap (λ l. staged_word_at in_words l p) (sym full);
          shows = λ p p8 lo hi. apart_from p p8 (omega arith) hi (inr lo)
              ∙ k.shows p p8 (omega arith) hi ∙ cond-false _ _ _ (le-ltb p (claim_end c) (omega arith));
        };
      }

  fill_over : s < staged_end head now → (done ahead : List StagedClaim)
      → FillsOver C head slots F now s made done ahead
      → FillStep C head slots F now s made w (rounded (w % 2 ^ 32))
  fill_over lt done [] k = let ends : s ≡ staged_end head now = k.ends in absurd (omega arith)
  fill_over lt done (c ∷ rest) k = by_stage c.stage refl k.settled.0
    where
      n : ℕ
      n = length c.message.body

      at : c.place ≡ s
      at = sym k.tight.0 ∙ k.placed.0.from

      word : w ≡ masked_record c.stage (header_of (claim_of c))
      word =
          let some = (end_le C (claim_end c) rest k.placed.1) in
          let ends : staged_end (claim_end c) rest ≡ staged_end head now = k.ends in
          let room_is = k.room in
          let place = at in
          w_is ∙ k.shows s k.aligned (omega arith) (omega arith)
          ∙ cond-true _ _ _ (lt-ltb s (claim_end c) (omega arith)) ∙ staged_word-header in_words c s (sym at)

      span_within : s % C + staged_span c ≤ C
      span_within =
          let least = cap.least in
          let short = k.placed.0.message.short in
          let inside = next_within C s (staged_span c) (omega arith) (omega arith) in
          let mods : s % C ≡ next_place C s (staged_span c) % C = ap (λ x. x % C) (sym at ∙ k.placed.0.place) in
          omega arith

      by_stage : (t : Stage) → c.stage ≡ t → IsSettled t
          → FillStep C head slots F now s made w (rounded (w % 2 ^ 32))
      by_stage Moved e done_ = absurd done_
      by_stage Padded e done_ = absurd done_
      by_stage (Stored Open) e done_ = absurd done_
      by_stage (Stored Aborted) e done_ =
          let least = cap.least in
          let most = cap.most in
          let short = k.placed.0.message.short in
          let place = at in
          let within = span_within in
          let is : w ≡ masked_record (Stored Aborted) (header_of (record { message = c.message; state = stage_state (Stored Aborted) })) =
          word ∙ ap (λ t. masked_record t (header_of (record { message = c.message; state = stage_state t }))) e in
          let both = halves (8 + length c.message.body) padding_type (omega arith) is in
          let low = both.0 in
          let high = both.1 in
          let size : staged_span c ≡ rounded (w % 2 ^ 32) = omega arith in
          let ends : staged_end (claim_end c) rest ≡ staged_end head now = k.ends in
          let rest_end = end_le C (claim_end c) rest k.placed.1 in
          let c_end : claim_end c ≡ s + rounded (w % 2 ^ 32) = omega arith in
          let same : filled F c ≡ c = ap (λ t. record {
            from = c.from;
            place = c.place;
            message = filled_message t (F c.place) c.message;
            stage = c.stage;
          }) e in
          let fits : FitAll C slots F (placed_committed_of rest) =
          subst (λ t. FitAll C slots F (shown_at t (placed_message c) ++ placed_committed_of rest)) e k.fits in
          let room_is = k.room in
          record {
            some = omega arith;
            within = omega arith;
            far = omega arith;
            kept = λ _. advance done rest c c k same k.placed.0 (rounded (w % 2 ^ 32)) (omega arith) (omega arith)
                (omega arith) c_end c_end fits made (λ j out. refl)
                (λ p p8 lo hi. k.shows p p8 lo (omega arith)
                ∙ cond-true _ _ _ (lt-ltb p (claim_end c) (omega arith)));
            copied = λ low_ made' copy. absurd (omega arith);
          }
      by_stage (Stored Committed) e done_ =
          let least = cap.least in
          let most = cap.most in
          let c8 = capacity_aligned C cap in
          let s8 = k.aligned in
          let m8 = mod_aligned C s c8 s8 in
          let s_low = mod_below s C (omega arith) in
          let m = k.placed.0.message in
          let short = m.short in
          let place = at in
          let within = span_within in
          let len : ℕ = length c.message.body in
          let is : w ≡ masked_record (Stored Committed) (header_of (record { message = c.message; state = stage_state (Stored Committed) })) =
          word ∙ ap (λ t. masked_record t (header_of (record { message = c.message; state = stage_state t }))) e in
          let both = halves (8 + length c.message.body) c.message.type_id (omega arith) is in
          let low = both.0 in
          let high = both.1 in
          let below = type_below c.message.type_id m.type_id m.type_fits in
          let size : staged_span c ≡ rounded (w % 2 ^ 32) = omega arith in
          let ends : staged_end (claim_end c) rest ≡ staged_end head now = k.ends in
          let rest_end = end_le C (claim_end c) rest k.placed.1 in
          let room_is = k.room in
          let from_head = k.from in
          let c_end : claim_end c ≡ s + rounded (w % 2 ^ 32) = omega arith in
          let d : StagedClaim = record {
            from = c.from;
            place = c.place;
            message = record { type_id = c.message.type_id; body = F c.place };
            stage = c.stage;
          } in
          let same : filled F c ≡ d = ap (λ t. record {
            from = c.from;
            place = c.place;
            message = filled_message t (F c.place) c.message;
            stage = c.stage;
          }) e in
          let fits : FitsBody C slots F (placed_message c) × FitAll C slots F (placed_committed_of rest) =
          subst (λ t. FitAll C slots F (shown_at t (placed_message c) ++ placed_committed_of rest)) e k.fits in
          let long : length (F c.place) ≡ length c.message.body = fits.0.long in
          let d_end : claim_end d ≡ s + rounded (w % 2 ^ 32) = omega arith in
          let lies : LiesAfter C s d = record {
            from = k.placed.0.from;
            place = k.placed.0.place ∙ ap (λ x. next_place C s ((8 + x + 7) / 8 * 8)) (sym long);
            message = record { type_id = m.type_id; type_fits = m.type_fits; short = omega arith; bytes = fits.0.bytes };
          } in
          let b : BodyIn C head s len = record {
            some = omega arith;
            whole = c8;
            place8 = s8;
            from = from_head;
            to = omega arith;
            within = omega arith;
          } in
          let header_d : staged_word in_words d s ≡ w =
          staged_word-header in_words d s (sym at)
          ∙ ap (λ t. masked_record t (header_of (record { message = d.message; state = stage_state t }))) e
          ∙ ap (λ x. header_of_len x) long ∙ sym is in
          record {
            some = omega arith;
            within = omega arith;
            far = omega arith;
            kept = λ high_. absurd (omega arith);
            copied = λ low_ made' copy.
                advance done rest c d k same lies (rounded (w % 2 ^ 32)) (omega arith) (omega arith) (omega arith) c_end
                d_end fits.1 made'
                (λ j out. copy.outside j (⊎_elim (λ (before : j < index C s). inl (omega arith))
                (λ (behind : index C s + rounded (w % 2 ^ 32) / 8 ≤ j). inr (omega arith)) out))
                (λ p p8 lo hi. ⊎_elim
                (λ (behind : s < p).
                let i : ℕ = (p - s - 8) / 8 in
                let p_is : p ≡ s + 8 + 8 * i = omega arith in
                let slot : index C p ≡ index C s + 1 + i =
                ap (index C) p_is ∙ behind_header C head s len i b (omega arith) in
                let claim_p : p ≡ c.place + 8 + 8 * i = omega arith in
                copy.inside (index C p) (omega arith) (omega arith)
                ∙ ap (λ q. slice_index slots (index C q)) claim_p
                ∙ fits.0.there (8 * i) (omega arith) (omega arith)
                ∙ sym (staged_word-in_words d p (8 * i) (subst IsStored (sym e) tt) claim_p))
                (λ (le : p ≤ s).
                let one : p ≡ s = omega arith in
                ap (λ q. slice_index made' (index C q)) one ∙ copy.outside (index C s) (inl (omega arith)) ∙ sym w_is
                ∙ sym header_d ∙ ap (staged_word in_words d) (sym one))
                (cases_lt s p));
          }
        where
          header_of_len : ℕ → ℕ
          header_of_len x = header (pos (8 + x)) c.message.type_id

  pub fill_step : s < staged_end head now → FillsTo C head slots F now s made
      → FillStep C head slots F now s made w (rounded (w % 2 ^ 32))
  fill_step lt k = fill_over lt k.done k.ahead k.over

-- and ends at the tail
pub filled_up : (C head : ℕ) (slots : List ℕ) (F : ℕ → List ℕ) (now : List StagedClaim) (s : ℕ) (made : List ℕ)
    → staged_end head now ≤ s → FillsTo C head slots F now s made → Filled C head F now made
filled_up C head slots F now s made over_ walks = by_list walks.ahead walks.over
  where
    by_list : (ahead : List StagedClaim) → FillsOver C head slots F now s made walks.done ahead
        → Filled C head F now made
    by_list [] k =
        let ends : s ≡ staged_end head now = k.ends in
        let done : walks.done ≡ now = sym (append-nil walks.done) ∙ k.whole in
        let placed : ArePlaced C head (all_filled F now) =
        subst (λ l. ArePlaced C head (all_filled F l)) done k.done_placed in
        let end_is : staged_end head (all_filled F now) ≡ s =
        ap (λ l. staged_end head (all_filled F l)) (sym done) ∙ k.done_ends in
        record {
          placed = placed;
          ends = end_is ∙ ends;
          shows = λ p p8 lo hi. ⊎_elim
              (λ (before : p < s). k.shown p p8 lo before
              ∙ ap (λ l. staged_word_at in_words (all_filled F l) p) done)
              (λ (behind : s ≤ p). k.shows p p8 behind hi
              ∙ sym (nothing_behind in_words C head (all_filled F now) p placed (omega arith)))
              (cases_lt p s);
        }
    by_list (c ∷ rest) k =
        let ends : staged_end (claim_end c) rest ≡ staged_end head now = k.ends in
        let on = next_le C s (staged_span c) in
        let place = k.placed.0.place in
        let rest_end = end_le C (claim_end c) rest k.placed.1 in
        absurd (omega arith)
