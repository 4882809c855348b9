-- Words that show headers alone, in the format: they show the same claims without bytes.
use Rattle.std.proofs.Common.{◌≡◌, ◌≢◌, ℕ, ◌+◌, ◌-◌, ◌/◌, ◌%◌, ◌^◌, ◌≤◌, ◌<◌, pos, neg_ℤ, List, [], ◌∷◌, length, replicate, slice_index, sym, refl, ap, ◌∙◌, subst, ⊎_elim, lt-ltb, le-ltb, arith}
use Rattle.std.proofs.Math.{Logic.dite, Decide.ℕ_discrete}
use Rattle.std.proofs.lemmas.Bool.{cases_lt, cond-true, cond-false}
use Rattle.std.proofs.lemmas.{List.length-replicate, List.Elements.All-replicate, Nat.mod_below}
use Rattle.ring_layout.specs.{declared.message.Message.Message, Layout.head_index, Layout.tail_index}
use Rattle.ring_layout.specs.declared.message.ClaimState.TheVariants.{Open, Committed, Aborted}
use Rattle.ring_layout.specs.History.{IsMessage, span}
use Rattle.ring_layout.specs.Headers.{header, header_of, padding_header, padding_type}
use Rattle.ring_layout.specs.Places.{IsCapacity, index, next_place, room}
use Rattle.ring_layout.proofs.{HeaderLemmas.fits_neg, PlaceLemmas.next_cases}
use Rattle.ring_table.specs.Changes.{blank}
use Rattle.ring_table.specs.Staged.{in_words, elsewhere, StagedClaim, Stage, Moved, Padded, Stored, claim_end, stage_state, staged_span, masked_padding, masked_record, padding_word, part_word, shown_header, staged_word, staged_word_at, ArePlaced, LiesAfter, staged_end, body_word}
use Rattle.ring_table.specs.Rescued.{one_if_unsettled, silent_of, silent_bytes, unsettled_count, ShowsClaims}
use Rattle.ring_table.proofs.{BodyWords.body_word-zeros, StagedPlaces.capacity_aligned, StagedPlaces.claim_aligned}
use Rattle.ring_table.proofs.HeaderReads.{halves, high_half, type_below, shown_other, shown_padding}
use Rattle.ring_table.proofs.StagedWords.{staged_word-body, staged_word-header, staged_word-padding, staged_word-padding_behind}

-- the claim with zeros for its bytes
abbrev pub blanked : StagedClaim → StagedClaim
blanked c = record {
  from = c.from;
  place = c.place;
  message = blank c.message.type_id (length c.message.body);
  stage = c.stage;
}

abbrev pub all_blanked : List StagedClaim → List StagedClaim
all_blanked [] = []
all_blanked (c ∷ cs) = blanked c ∷ all_blanked cs

pub as_long : (c : StagedClaim) → length (blanked c).message.body ≡ length c.message.body
as_long c = length-replicate (length c.message.body) 0

same_end : (c : StagedClaim) → claim_end (blanked c) ≡ claim_end c
same_end c = ap (λ n. c.place + span n) (as_long c)

blank_placed : (C e : ℕ) (cs : List StagedClaim) → ArePlaced C e cs → ArePlaced C e (all_blanked cs)
blank_placed C e [] placed = tt
blank_placed C e (c ∷ cs) placed =
    let lies = placed.0 in
    let long = as_long c in
    let short = lies.message.short in (
      record {
        from = lies.from;
        place = lies.place ∙ ap (λ n. next_place C e (span n)) (sym long);
        message = record {
          type_id = lies.message.type_id;
          type_fits = lies.message.type_fits;
          short = omega arith;
          bytes = All-replicate (λ b. b < 256) (length c.message.body) 0 (omega arith);
        };
      },
      subst (λ k. ArePlaced C k (all_blanked cs)) (sym (same_end c)) (blank_placed C (claim_end c) cs placed.1),
    )

pub blank_end : (e : ℕ) (cs : List StagedClaim) → staged_end e (all_blanked cs) ≡ staged_end e cs
blank_end e [] = refl
blank_end e (c ∷ cs) = ap (λ k. staged_end k (all_blanked cs)) (same_end c) ∙ blank_end (claim_end c) cs

pub blank_count : (cs : List StagedClaim) → unsettled_count (all_blanked cs) ≡ unsettled_count cs
blank_count [] = refl
blank_count (c ∷ cs) = ap (λ n. one_if_unsettled c.stage + n) (blank_count cs)

pub blank_silent : (cs : List StagedClaim) → silent_bytes (all_blanked cs) ≡ silent_bytes cs
blank_silent [] = refl
blank_silent (c ∷ cs) =
    λ i. silent_of c.stage (same_end c i - c.from) (span (as_long c i)) + blank_silent cs i

-- the words of one claim
shown_zero : shown_header elsewhere 0 ≡ 0
shown_zero = shown_other elsewhere 0 (λ e. omega arith)

shown_stage_padding : (t : Stage) (n : ℕ) → n < 2 ^ 31
    → shown_header elsewhere (masked_padding t (padding_word elsewhere n)) ≡ masked_padding t (padding_word in_words n)
shown_stage_padding Moved n small = shown_zero
shown_stage_padding Padded n small = shown_padding elsewhere n small
shown_stage_padding (Stored s) n small = shown_padding elsewhere n small

shown_stage_header : (C : ℕ) (m : Message) (t : Stage) → C ≤ 2 ^ 24 → IsMessage C m
    → shown_header elsewhere (masked_record t (header_of (record { message = m; state = stage_state t })))
    ≡ masked_record t (header_of (record { message = m; state = stage_state t }))
shown_stage_header C m Moved most message = shown_zero
shown_stage_header C m Padded most message = shown_zero
shown_stage_header C m (Stored Open) most message =
    let short : length m.body ≤ C / 8 = message.short in
    let n : ℕ = 8 + length m.body in
    let high = high_half (neg_ℤ (pos n)) m.type_id (fits_neg n (omega arith)) in
    let below = type_below m.type_id message.type_id message.type_fits in
    shown_other elsewhere (header (neg_ℤ (pos n)) m.type_id) (λ e. omega arith)
shown_stage_header C m (Stored Committed) most message =
    let short : length m.body ≤ C / 8 = message.short in
    let n : ℕ = 8 + length m.body in
    let high = (halves n m.type_id (omega arith) refl).1 in
    let below = type_below m.type_id message.type_id message.type_fits in
    shown_other elsewhere (header (pos n) m.type_id) (λ e. omega arith)
shown_stage_header C m (Stored Aborted) most message =
    let short : length m.body ≤ C / 8 = message.short in
    let n : ℕ = 8 + length m.body in
    let high = (halves n padding_type (omega arith) refl).1 in
    shown_other elsewhere (header (pos n) padding_type) (λ e. omega arith)

blank_header : (m : Message) (n : ℕ) (t : Stage) → length m.body ≡ n
    → masked_record t (header_of (record { message = m; state = stage_state t }))
    ≡ masked_record t (header_of (record { message = blank m.type_id n; state = stage_state t }))
blank_header m n Moved long = refl
blank_header m n Padded long = refl
blank_header m n (Stored Open) long =
    ap (λ k. header (neg_ℤ (pos (8 + k))) m.type_id) (long ∙ sym (length-replicate n 0))
blank_header m n (Stored Committed) long =
    ap (λ k. header (pos (8 + k)) m.type_id) (long ∙ sym (length-replicate n 0))
blank_header m n (Stored Aborted) long = ap (λ k. padding_header (8 + k)) (long ∙ sym (length-replicate n 0))

no_part : (t : Stage) (n at : ℕ) → shown_header elsewhere (masked_record t 0)
    ≡ masked_record t (part_word in_words (replicate n 0) at)
unfolding body_word
no_part Moved n at = shown_zero
no_part Padded n at = shown_zero
no_part (Stored s) n at = shown_zero ∙ sym (body_word-zeros n at)

blank_word : (C e : ℕ) (c : StagedClaim) (p : ℕ) → IsCapacity C → LiesAfter C e c → p % 8 ≡ 0 → c.place % 8 ≡ 0
    → shown_header elsewhere (staged_word elsewhere c p) ≡ staged_word in_words (blanked c) p
blank_word C e c p cap lies p8 place8 =
    let least = cap.least in
    let most = cap.most in
    let low = mod_below e C (omega arith) in
    let from : c.from ≡ e = lies.from in
    let place : c.place ≡ next_place C e (staged_span c) = lies.place in
    let small : c.place - c.from < 2 ^ 31 = (⊎_elim
    (λ (q : (staged_span c ≤ room C e) × (next_place C e (staged_span c) ≡ e)). let same = q.1 in omega arith)
    (λ (q : (room C e < staged_span c) × (next_place C e (staged_span c) ≡ e + room C e)). let goes = q.1 in omega arith)
    (next_cases C e (staged_span c))) in
    ⊎_elim
    (λ (in_padding : p < c.place). dite (ℕ_discrete p c.from)
    (λ (at : p ≡ c.from). ap (shown_header elsewhere) (staged_word-padding elsewhere c p at in_padding)
    ∙ shown_stage_padding c.stage (c.place - c.from) small
    ∙ sym (staged_word-padding in_words (blanked c) p at in_padding))
    (λ (ne : p ≢ c.from). ap (shown_header elsewhere) (staged_word-padding_behind elsewhere c p ne in_padding)
    ∙ shown_zero ∙ sym (staged_word-padding_behind in_words (blanked c) p ne in_padding)))
    (λ (from_place : c.place ≤ p). dite (ℕ_discrete p c.place)
    (λ (at : p ≡ c.place). ap (shown_header elsewhere) (staged_word-header elsewhere c p at)
    ∙ shown_stage_header C c.message c.stage most lies.message
    ∙ blank_header c.message (length c.message.body) c.stage refl
    ∙ sym (staged_word-header in_words (blanked c) p at))
    (λ (ne : p ≢ c.place).
    let there : p ≡ c.place + 8 + (p - c.place - 8) = omega arith in
    ap (shown_header elsewhere) (staged_word-body elsewhere c p (p - c.place - 8) there)
    ∙ no_part c.stage (length c.message.body) (p - c.place - 8)
    ∙ sym (staged_word-body in_words (blanked c) p (p - c.place - 8) there)))
    (cases_lt p c.place)

blank_words : (C e : ℕ) (cs : List StagedClaim) (p : ℕ) → IsCapacity C → e % 8 ≡ 0 → ArePlaced C e cs → p % 8 ≡ 0
    → shown_header elsewhere (staged_word_at elsewhere cs p) ≡ staged_word_at in_words (all_blanked cs) p
blank_words C e [] p cap e8 placed p8 = shown_zero
blank_words C e (c ∷ cs) p cap e8 placed p8 =
    let least = cap.least in
    let aligned = claim_aligned C e c (omega arith) (capacity_aligned C cap) e8 placed.0.place in
    let same = same_end c in
    ⊎_elim
    (λ (near : p < claim_end c). ap (shown_header elsewhere) (cond-true _ _ _ (lt-ltb p (claim_end c) near))
    ∙ blank_word C e c p cap placed.0 p8 aligned.0
    ∙ sym (cond-true _ _ _ (lt-ltb p (claim_end (blanked c)) (subst (λ k. p < k) (sym same) near))))
    (λ (far : claim_end c ≤ p). ap (shown_header elsewhere) (cond-false _ _ _ (le-ltb p (claim_end c) far))
    ∙ blank_words C (claim_end c) cs p cap aligned.1 placed.1 p8
    ∙ sym (cond-false _ _ _ (le-ltb p (claim_end (blanked c)) (subst (λ k. k ≤ p) (sym same) far))))
    (cases_lt p (claim_end c))

-- the words with their headers in the format
pub shows_blanked : (C : ℕ) (words new : List ℕ) (cs : List StagedClaim) → IsCapacity C
    → ((i : ℕ) → i < C / 8 → slice_index new i ≡ shown_header elsewhere (slice_index words i))
    → ((i : ℕ) → C / 8 ≤ i → slice_index new i ≡ slice_index words i)
    → ShowsClaims elsewhere C words cs → ShowsClaims in_words C new (all_blanked cs)
shows_blanked C words new cs cap formatted trailer k =
    let least = cap.least in
    let c8 = capacity_aligned C cap in
    let head : slice_index new (head_index C) ≡ slice_index words (head_index C) = trailer (head_index C) (omega arith) in
    let tail : slice_index new (tail_index C) ≡ slice_index words (tail_index C) = trailer (tail_index C) (omega arith) in
    let h : ℕ = slice_index words (head_index C) in
    let ends : staged_end (slice_index new (head_index C)) (all_blanked cs) ≡ staged_end h cs =
    ap (λ x. staged_end x (all_blanked cs)) head ∙ blank_end h cs in
    let limit = k.limit in
    let room = k.room in
    record {
      aligned = ap (λ x. x % 8) head ∙ k.aligned;
      placed = subst (λ x. ArePlaced C x (all_blanked cs)) (sym head) (blank_placed C h cs k.placed);
      tail_is = tail ∙ k.tail_is ∙ sym ends;
      limit = omega arith;
      room = omega arith;
      shows = λ p p8 lo hi.
          let low = mod_below p C (omega arith) in
          formatted (index C p) (omega arith)
          ∙ ap (shown_header elsewhere) (k.shows p p8 (omega arith) (omega arith))
          ∙ blank_words C h cs p cap k.aligned k.placed p8;
    }
