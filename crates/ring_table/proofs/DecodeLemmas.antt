-- The headers that marks and slots show.
use Rattle.std.proofs.Common.{◌≡◌, ◌≢◌, ℕ, ◌+◌, ◌-◌, ◌*◌, ◌%◌, ◌^◌, ◌≤◌, ◌<◌, pos, List, [], ◌∷◌, ◌++◌, length, replicate, sym, refl, ap, ◌∙◌, subst, ⊎_elim, lt-ltb, le-ltb, eq-eqb, ne_eqb, arith}
use Rattle.std.specs.Prelude.{⊤}
use Rattle.std.proofs.Math.{Logic.dite, Decide.ℕ_discrete}
use Rattle.std.proofs.lemmas.Bool.{cases_lt, cond-true, cond-false}
use Rattle.std.proofs.lemmas.List.{length-replicate, Elements.All-replicate}
use Rattle.ring_layout.specs.Marks.{committed_kind, padding_kind, open_kind, aborted_kind}
use Rattle.ring_layout.specs.{declared.message.Message.Message, Places.IsCapacity, Places.next_place}
use Rattle.ring_layout.specs.declared.message.ClaimState.TheVariants.{Open, Committed, Aborted}
use Rattle.ring_layout.specs.History.{IsMessage, span}
use Rattle.ring_layout.specs.Headers.{header_of, open_header, committed_header}
use Rattle.ring_layout.proofs.{CapacityLemmas.capacity_blocks, HeaderLemmas.fits_pos, PlaceLemmas.next_cases}
use Rattle.ring_table.specs.Staged.{elsewhere, StagedClaim, Stage, Moved, Padded, Stored, ArePlaced, LiesAfter, claim_end, staged_end, staged_span, stage_state, masked_padding, masked_record, padding_word, staged_word, staged_word_at}
use Rattle.ring_table.specs.{Changes.blank, Marks.decoded, Marks.IsMarkOf}
use Rattle.ring_table.specs.Passing.{AreSettled, IsSettled, placed_committed_of, shown_at}
use Rattle.ring_table.specs.Rescued.{one_if_unsettled, silent_of, silent_bytes, unsettled_count, Settles}
use Rattle.ring_table.proofs.{HeaderReads.halves, MarkWords.shows_claim, MarkWords.shows_mark, MarkWords.shows_padding}
use Rattle.ring_table.proofs.StagedPlaces.{capacity_aligned, claim_aligned}
use Rattle.ring_table.proofs.StagedWords.{staged_word-header, staged_word-padding, staged_word-padding_behind, staged_word-record}

-- ---- one word

pub decoded_none : (p w y : ℕ) → w ≤ p → decoded p w y ≡ 0
unfolding decoded
decoded_none p w y le = cond-false _ _ _ (le-ltb p w le)

pub kind_is_committed : (p w y : ℕ) → p < w → w % 8 ≡ committed_kind → decoded p w y ≡ y
unfolding decoded
kind_is_committed p w y above kind =
    cond-true _ _ _ (lt-ltb p w above) ∙ cond-true _ _ _ (eq-eqb (w % 8) committed_kind kind)

pub kind_is_padding : (p w y : ℕ) → p < w → w % 8 ≡ padding_kind
    → decoded p w y ≡ padding_word elsewhere (w - w % 8 - p)
unfolding decoded
kind_is_padding p w y above kind =
    cond-true _ _ _ (lt-ltb p w above) ∙ cond-false _ _ _ (ne_eqb (w % 8) committed_kind (λ e. omega arith))
    ∙ cond-true _ _ _ (eq-eqb (w % 8) padding_kind kind)

pub kind_is_aborted : (p w y : ℕ) → p < w → w % 8 ≡ aborted_kind
    → decoded p w y ≡ (2 ^ 32 - 1) * 2 ^ 32 + y % 2 ^ 32
unfolding decoded
kind_is_aborted p w y above kind =
    cond-true _ _ _ (lt-ltb p w above) ∙ cond-false _ _ _ (ne_eqb (w % 8) committed_kind (λ e. omega arith))
    ∙ cond-false _ _ _ (ne_eqb (w % 8) padding_kind (λ e. omega arith))
    ∙ cond-true _ _ _ (eq-eqb (w % 8) aborted_kind kind)

pub kind_is_other : (p w y : ℕ) → p < w → w % 8 ≢ committed_kind → w % 8 ≢ padding_kind → w % 8 ≢ aborted_kind
    → decoded p w y ≡ open_header (pos 1) (w - w % 8 - p - 8)
unfolding decoded
kind_is_other p w y above one two three =
    cond-true _ _ _ (lt-ltb p w above) ∙ cond-false _ _ _ (ne_eqb (w % 8) committed_kind one)
    ∙ cond-false _ _ _ (ne_eqb (w % 8) padding_kind two) ∙ cond-false _ _ _ (ne_eqb (w % 8) aborted_kind three)

-- ---- the same of a mark at p of b bytes

decoded_committed : (p b w y : ℕ) → w ≡ p + b → p % 8 ≡ 0 → b % 8 ≡ 0 → 0 < b → decoded p w y ≡ y
decoded_committed p b w y is p8 b8 full = kind_is_committed p w y (omega arith) (omega arith)

decoded_padding : (p b w y : ℕ) → w ≡ p + b + padding_kind → p % 8 ≡ 0 → b % 8 ≡ 0 → 0 < b
    → decoded p w y ≡ padding_word elsewhere b
decoded_padding p b w y is p8 b8 full =
    let back : w - w % 8 - p ≡ b = omega arith in
    kind_is_padding p w y (omega arith) (omega arith) ∙ ap (padding_word elsewhere) back

decoded_aborted : (p b w y : ℕ) → w ≡ p + b + aborted_kind → p % 8 ≡ 0 → b % 8 ≡ 0
    → decoded p w y ≡ (2 ^ 32 - 1) * 2 ^ 32 + y % 2 ^ 32
decoded_aborted p b w y is p8 b8 = kind_is_aborted p w y (omega arith) (omega arith)

decoded_open : (p b w y : ℕ) → w ≡ p + b + open_kind → p % 8 ≡ 0 → b % 8 ≡ 0
    → decoded p w y ≡ open_header (pos 1) (b - 8)
decoded_open p b w y is p8 b8 =
    let back : w - w % 8 - p - 8 ≡ b - 8 = omega arith in
    kind_is_other p w y (omega arith) (λ e. omega arith) (λ e. omega arith) (λ e. omega arith)
    ∙ ap (open_header (pos 1)) back

-- ---- claims whose open ones fill their records

abbrev pub filled_out : Stage → Message → Message
filled_out Moved m = m
filled_out Padded m = m
filled_out (Stored Open) m = blank (pos 1) (span (length m.body) - 8)
filled_out (Stored Committed) m = m
filled_out (Stored Aborted) m = m

abbrev pub filled_record : StagedClaim → StagedClaim
filled_record c = record { from = c.from; place = c.place; message = filled_out c.stage c.message; stage = c.stage }

abbrev pub all_filled_out : List StagedClaim → List StagedClaim
all_filled_out [] = []
all_filled_out (c ∷ cs) = filled_record c ∷ all_filled_out cs

same_span : (t : Stage) (m : Message) → span (length (filled_out t m).body) ≡ span (length m.body)
same_span Moved m = refl
same_span Padded m = refl
same_span (Stored Open) m =
    let long : length (replicate {A = ℕ} (span (length m.body) - 8) 0) ≡ span (length m.body) - 8 =
    length-replicate (span (length m.body) - 8) 0 in omega arith
same_span (Stored Committed) m = refl
same_span (Stored Aborted) m = refl

pub filled_end : (c : StagedClaim) → claim_end (filled_record c) ≡ claim_end c
filled_end c = ap (λ n. c.place + n) (same_span c.stage c.message)

filled_message : (C : ℕ) (t : Stage) (m : Message) → IsCapacity C → IsMessage C m → IsMessage C (filled_out t m)
filled_message C Moved m cap is = is
filled_message C Padded m cap is = is
filled_message C (Stored Open) m cap is =
    let k : ℕ = span (length m.body) - 8 in
    let long = length-replicate {A = ℕ} k 0 in
    let short = is.short in
    let blocks = capacity_blocks C cap in
    record {
      type_id = omega arith;
      type_fits = fits_pos 1 (omega arith);
      short = omega arith;
      bytes = All-replicate (λ b. b < 256) k 0 (omega arith);
    }
filled_message C (Stored Committed) m cap is = is
filled_message C (Stored Aborted) m cap is = is

pub filled_placed : (C e : ℕ) (cs : List StagedClaim) → IsCapacity C → ArePlaced C e cs → ArePlaced C e (all_filled_out cs)
filled_placed C e [] cap placed = tt
filled_placed C e (c ∷ cs) cap placed = (
  record {
    from = placed.0.from;
    place = placed.0.place ∙ ap (next_place C e) (sym (same_span c.stage c.message));
    message = filled_message C c.stage c.message cap placed.0.message;
  },
  subst (λ k. ArePlaced C k (all_filled_out cs)) (sym (filled_end c)) (filled_placed C (claim_end c) cs cap placed.1),
)

pub filled_ends : (e : ℕ) (cs : List StagedClaim) → staged_end e (all_filled_out cs) ≡ staged_end e cs
filled_ends e [] = refl
filled_ends e (c ∷ cs) = ap (λ k. staged_end k (all_filled_out cs)) (filled_end c) ∙ filled_ends (claim_end c) cs

pub filled_settled_one : (t : Stage) (m : Message) → IsSettled t → filled_out t m ≡ m
filled_settled_one Moved m is = absurd is
filled_settled_one Padded m is = absurd is
filled_settled_one (Stored Open) m is = absurd is
filled_settled_one (Stored Committed) m is = refl
filled_settled_one (Stored Aborted) m is = refl

pub filled_none : (cs : List StagedClaim) → AreSettled cs → all_filled_out cs ≡ cs
filled_none [] all = refl
filled_none (c ∷ cs) all = λ i. (record {
  from = c.from;
  place = c.place;
  message = filled_settled_one c.stage c.message all.0 i;
  stage = c.stage;
}) ∷ filled_none cs all.1 i

-- ---- the words of claims

-- y is the header of the settled claim at p
abbrev pub HeadAt : ℕ → ℕ → List StagedClaim → Type 0
HeadAt p y [] = ⊤
HeadAt p y (c ∷ cs) = (IsSettled c.stage → c.place ≡ p → y ≡ committed_header c.message.type_id (length c.message.body))
    × HeadAt p y cs

decode_zero : (p w y h k : ℕ) → h ≡ 0 → k ≡ 0 → IsMarkOf p w h → decoded p w y ≡ k
decode_zero p w y h k zero zero' m = decoded_none p w y (m.none zero) ∙ sym zero'

decode_pad : (t : Stage) (p w y n : ℕ) → p % 8 ≡ 0 → n % 8 ≡ 0 → 0 < n → n < 2 ^ 31
    → IsMarkOf p w (masked_padding t (padding_word elsewhere n)) → decoded p w y ≡ masked_padding t (padding_word elsewhere n)
decode_pad Moved p w y n p8 n8 full small m = decoded_none p w y (m.none refl)
decode_pad Padded p w y n p8 n8 full small m =
    let s = shows_padding n full small n8 in
    decoded_padding p n w y (m.mark s.some ∙ shows_mark p (padding_word elsewhere n) n padding_kind s) p8 n8 full
decode_pad (Stored s) p w y n p8 n8 full small m =
    let s = shows_padding n full small n8 in
    decoded_padding p n w y (m.mark s.some ∙ shows_mark p (padding_word elsewhere n) n padding_kind s) p8 n8 full

decode_head : (C : ℕ) (t : Stage) (p w y : ℕ) (b : Message) → C ≤ 2 ^ 24 → IsMessage C b → p % 8 ≡ 0
    → IsMarkOf p w (masked_record t (header_of (record { message = b; state = stage_state t })))
    → (IsSettled t → y ≡ committed_header b.type_id (length b.body))
    → decoded p w y ≡ masked_record t (header_of (record { message = filled_out t b; state = stage_state t }))
decode_head C Moved p w y b most is p8 m head = decoded_none p w y (m.none refl)
decode_head C Padded p w y b most is p8 m head = decoded_none p w y (m.none refl)
decode_head C (Stored Open) p w y b most is p8 m head =
    let s = shows_claim C b Open most is in
    let n : ℕ = span (length b.body) in
    decoded_open p n w y (m.mark s.some ∙ shows_mark p _ n open_kind s) p8 (omega arith)
    ∙ ap (open_header (pos 1)) (sym (length-replicate (n - 8) 0))
decode_head C (Stored Committed) p w y b most is p8 m head =
    let s = shows_claim C b Committed most is in
    let n : ℕ = span (length b.body) in
    let plain : p + n + committed_kind ≡ p + n = omega arith in
    decoded_committed p n w y (m.mark s.some ∙ shows_mark p _ n committed_kind s ∙ plain) p8 (omega arith) (omega arith)
    ∙ head tt
decode_head C (Stored Aborted) p w y b most is p8 m head =
    let s = shows_claim C b Aborted most is in
    let n : ℕ = span (length b.body) in
    let short = is.short in
    let y_low : y % 2 ^ 32 ≡ 8 + length b.body = (halves (8 + length b.body) b.type_id (omega arith) (head tt)).0 in
    decoded_aborted p n w y (m.mark s.some ∙ shows_mark p _ n aborted_kind s) p8 (omega arith)
    ∙ ap (λ z. (2 ^ 32 - 1) * 2 ^ 32 + z) y_low

pub masked_zero : (t : Stage) → masked_record t 0 ≡ 0
masked_zero Moved = refl
masked_zero Padded = refl
masked_zero (Stored s) = refl

pub inner_word : (c : StagedClaim) (p : ℕ) → c.place ≤ p → p ≢ c.place → staged_word elsewhere c p ≡ 0
inner_word c p le ne = staged_word-record elsewhere c p le ∙ ap (masked_record c.stage)
    (cond-false _ _ _ (ne_eqb (p - c.place) 0 (λ none. omega arith))) ∙ masked_zero c.stage

decode_claim : (C e : ℕ) (c : StagedClaim) (p w y : ℕ) → IsCapacity C → e % 8 ≡ 0 → LiesAfter C e c → p % 8 ≡ 0
    → IsMarkOf p w (staged_word elsewhere c p)
    → (IsSettled c.stage → c.place ≡ p → y ≡ committed_header c.message.type_id (length c.message.body))
    → decoded p w y ≡ staged_word elsewhere (filled_record c) p
decode_claim C e c p w y cap e8 lies p8 m head =
    let least = cap.least in
    let most = cap.most in
    let aligned = claim_aligned C e c (omega arith) (capacity_aligned C cap) e8 lies.place in
    let from = lies.from in
    let place = lies.place in
    let short = lies.message.short in
    let place8 = aligned.0 in
    let n : ℕ = c.place - c.from in
    ⊎_elim
    (λ (pad : p < c.place). dite (ℕ_discrete p c.from)
    (λ at_it.
    let small : n < 2 ^ 31 = ⊎_elim (λ z. let same = z.1 in omega arith) (λ z. let far = z.0 in let goes = z.1 in omega arith)
    (next_cases C e (staged_span c)) in
    decode_pad c.stage p w y n p8 (omega arith) (omega arith) small
    (subst (IsMarkOf p w) (staged_word-padding elsewhere c p at_it pad) m)
    ∙ sym (staged_word-padding elsewhere (filled_record c) p at_it pad))
    (λ ne. decode_zero p w y (staged_word elsewhere c p) (staged_word elsewhere (filled_record c) p)
    (staged_word-padding_behind elsewhere c p ne pad) (staged_word-padding_behind elsewhere (filled_record c) p ne pad) m))
    (λ (rec : c.place ≤ p). dite (ℕ_discrete p c.place)
    (λ at_it.
    decode_head C c.stage p w y c.message most lies.message p8
    (subst (IsMarkOf p w) (staged_word-header elsewhere c p at_it) m) (λ done. head done (sym at_it))
    ∙ sym (staged_word-header elsewhere (filled_record c) p at_it))
    (λ ne. decode_zero p w y (staged_word elsewhere c p) (staged_word elsewhere (filled_record c) p)
    (inner_word c p rec ne) (inner_word (filled_record c) p rec ne) m))
    (cases_lt p c.place)

pub decode_all : (C e : ℕ) (cs : List StagedClaim) (p w y : ℕ) → IsCapacity C → e % 8 ≡ 0 → ArePlaced C e cs → p % 8 ≡ 0
    → IsMarkOf p w (staged_word_at elsewhere cs p) → HeadAt p y cs
    → decoded p w y ≡ staged_word_at elsewhere (all_filled_out cs) p
decode_all C e [] p w y cap e8 placed p8 m heads = decoded_none p w y (m.none refl)
decode_all C e (c ∷ cs) p w y cap e8 placed p8 m heads =
    let least = cap.least in
    let aligned = claim_aligned C e c (omega arith) (capacity_aligned C cap) e8 placed.0.place in
    let same = filled_end c in
    ⊎_elim
    (λ (near : p < claim_end c).
    decode_claim C e c p w y cap e8 placed.0 p8 (subst (IsMarkOf p w) (cond-true _ _ _ (lt-ltb p (claim_end c) near)) m) heads.0
    ∙ sym (cond-true _ _ _ (lt-ltb p (claim_end (filled_record c)) (subst (λ k. p < k) (sym same) near))))
    (λ (far : claim_end c ≤ p).
    decode_all C (claim_end c) cs p w y cap aligned.1 placed.1 p8
    (subst (IsMarkOf p w) (cond-false _ _ _ (le-ltb p (claim_end c) far)) m) heads.1
    ∙ sym (cond-false _ _ _ (le-ltb p (claim_end (filled_record c)) (subst (λ k. k ≤ p) (sym same) far))))
    (cases_lt p (claim_end c))

-- ---- what is counted of them

shown_filled : (t : Stage) (place : ℕ) (m : Message) → shown_at t (record { place = place; message = filled_out t m })
    ≡ shown_at t (record { place = place; message = m })
shown_filled Moved place m = refl
shown_filled Padded place m = refl
shown_filled (Stored Open) place m = refl
shown_filled (Stored Committed) place m = refl
shown_filled (Stored Aborted) place m = refl

pub filled_messages : (cs : List StagedClaim) → placed_committed_of (all_filled_out cs) ≡ placed_committed_of cs
filled_messages [] = refl
filled_messages (c ∷ cs) = λ i. shown_filled c.stage c.place c.message i ++ filled_messages cs i

pub filled_count : (cs : List StagedClaim) → unsettled_count (all_filled_out cs) ≡ unsettled_count cs
filled_count [] = refl
filled_count (c ∷ cs) = ap (λ n. one_if_unsettled c.stage + n) (filled_count cs)

pub filled_silent : (cs : List StagedClaim) → silent_bytes (all_filled_out cs) ≡ silent_bytes cs
filled_silent [] = refl
filled_silent (c ∷ cs) =
    λ i. silent_of c.stage (filled_end c i - c.from) (same_span c.stage c.message i) + filled_silent cs i

-- so what settles them settles the claims
pub settles_as : (C head : ℕ) (cs : List StagedClaim) (words : List ℕ) (claims silent : ℕ)
    → Settles C head (all_filled_out cs) words claims silent → Settles C head cs words claims silent
settles_as C head cs words claims silent k = record {
  now = k.now;
  placed = k.placed;
  settled = k.settled;
  tight = k.tight;
  messages = k.messages ∙ filled_messages cs;
  ends = k.ends ∙ filled_ends head cs;
  picture = k.picture;
  claims_is = k.claims_is ∙ filled_count cs;
  silent_is = k.silent_is ∙ filled_silent cs;
}
