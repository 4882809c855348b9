-- What the marks and the slots of a ring show is what its claims have there.
use Rattle.std.specs.Prelude.{⊤}
use Rattle.std.proofs.Common.{◌≡◌, ◌≢◌, ℕ, ◌+◌, ◌-◌, ◌*◌, ◌/◌, ◌%◌, ◌^◌, ◌≤◌, ◌<◌, true, List, [], ◌∷◌, cond, length, slice_index, refl, sym, ap, ◌∙◌, subst, ⊎_elim, lt-ltb, le-ltb, eq-eqb, ne_eqb, ltb, arith, ◌&&◌, ◌==◌, le-leb}
use Rattle.std.proofs.Math.{Logic.dite, Decide.ℕ_discrete}
use Rattle.std.proofs.lemmas.Bool.{cases_lt, cond-true, cond-false, lt-leb}
use Rattle.ring_layout.specs.{Marks.committed_kind, Marks.open_kind, Headers.committed_header, Headers.header_of}
use Rattle.ring_layout.specs.declared.message.ClaimState.TheVariants.{Open, Committed, Aborted}
use Rattle.ring_layout.specs.{declared.message.Message.Message, History.IsMessage, History.span}
use Rattle.ring_layout.specs.Places.{IsCapacity, index}
use Rattle.ring_table.specs.Marks.{bytes_of, decoded, kind_of, mark_of, IsMarkOf}
use Rattle.ring_table.specs.{Passing.IsSettled, declared.claim.StagedClaim.StagedClaim}
use Rattle.ring_table.specs.Staged.{elsewhere, ArePlaced, claim_end, masked_record, stage_state, staged_word, staged_word_at}
use Rattle.ring_table.specs.declared.claim.Stage.{Stage, TheVariants.Moved, TheVariants.Padded, TheVariants.Stored}
use Rattle.ring_table.proofs.DecodeLemmas.{HeadAt, all_filled_out, decode_all, decoded_none, filled_end, filled_out, filled_placed, filled_record, filled_settled_one, inner_word, kind_is_committed}
use Rattle.ring_table.proofs.MarkWords.{committed_small, few_of, long_bytes, near_all, shows_claim, shows_mark, whole_bytes}
use Rattle.ring_table.proofs.{SlotBytes.first_word_of, SlotBytes.slot_later, StagedWords.staged_word-header}
use Rattle.ring_recovery.specs.Headers.{has_end, header_of_mark, is_of_run, shows}
use Rattle.ring_recovery.{specs.Image.HaveRecord, proofs.GivenLemmas.HaveAll, proofs.GivenLemmas.HaveBody}

-- ---- the bytes of a header

pub bytes_above : (h : ℕ) → 2 ^ 31 < h % 2 ^ 32 → bytes_of h ≡ (2 ^ 32 - h % 2 ^ 32 + 7) / 8 * 8
unfolding bytes_of
bytes_above h above = cond-true _ _ _ (lt-ltb (2 ^ 31) (h % 2 ^ 32) above)

pub bytes_below : (h : ℕ) → h % 2 ^ 32 ≤ 2 ^ 31 → bytes_of h ≡ (h % 2 ^ 32 + 7) / 8 * 8
unfolding bytes_of
bytes_below h le = cond-false _ _ _ (le-ltb (2 ^ 31) (h % 2 ^ 32) le)

pub few_bytes : (h : ℕ) → bytes_of h ≤ 2 ^ 31
few_bytes h = ⊎_elim
    (λ (above : 2 ^ 31 < h % 2 ^ 32). omega (arith, bytes_above h above))
    (λ (low : h % 2 ^ 32 ≤ 2 ^ 31). omega (arith, bytes_below h low)) (cases_lt (2 ^ 31) (h % 2 ^ 32))

-- ---- what the slots have

-- the slots have the records of the settled claims
abbrev pub HaveRecords : ℕ → List ℕ → List StagedClaim → Type 0
HaveRecords C slots [] = ⊤
HaveRecords C slots (c ∷ cs) = (IsSettled c.stage → HaveRecord C slots c.place c.message) × HaveRecords C slots cs

has_header : (C : ℕ) (slots : List ℕ) (place : ℕ) (m : Message) → C ≤ 2 ^ 24 → IsMessage C m
    → HaveRecord C slots place m
    → slice_index slots (index C place) ≡ committed_header m.type_id (length m.body)
has_header C slots place m most is have =
    let here : place ≡ place + 0 = omega arith in
    ap (λ q. slice_index slots (index C q)) here ∙ have 0 refl (omega arith)
    ∙ first_word_of (committed_header m.type_id (length m.body)) m.body (committed_small C m most is)

pub heads_of : (C e p : ℕ) (slots : List ℕ) (cs : List StagedClaim) → C ≤ 2 ^ 24 → ArePlaced C e cs
    → HaveRecords C slots cs → HeadAt p (slice_index slots (index C p)) cs
heads_of C e p slots [] most placed have = tt
heads_of C e p slots (c ∷ cs) most placed have = (
  λ done at. ap (λ q. slice_index slots (index C q)) (sym at)
      ∙ has_header C slots c.place c.message most placed.0.message (have.0 done),
  heads_of C (claim_end c) p slots cs most placed.1 have.1,
)

has_body : (C : ℕ) (slots : List ℕ) (place : ℕ) (m : Message) → HaveRecord C slots place m
    → HaveBody C slots place m.body
has_body C slots place m have at at8 less =
    let there : place + 8 + at ≡ place + (8 + at) = omega arith in
    ap (λ q. slice_index slots (index C q)) there ∙ have (8 + at) (omega arith) (omega arith) ∙ slot_later m at

pub have_bodies : (C : ℕ) (slots : List ℕ) (cs : List StagedClaim) → HaveRecords C slots cs
    → HaveAll C slots (all_filled_out cs)
have_bodies C slots [] have = tt
have_bodies C slots (c ∷ cs) have = (
  λ done. subst (λ (m : Message). HaveBody C slots c.place m.body) (sym (filled_settled_one c.stage c.message done))
      (has_body C slots c.place c.message (have.0 done)),
  have_bodies C slots cs have.1,
)

-- ---- a claim that fills its record has the same marks

same_head : (C p : ℕ) (t : Stage) (m : Message) → C ≤ 2 ^ 24 → IsMessage C m → IsMessage C (filled_out t m)
    → span (length (filled_out t m).body) ≡ span (length m.body)
    → mark_of p (masked_record t (header_of (record { message = filled_out t m; state = stage_state t })))
    ≡ mark_of p (masked_record t (header_of (record { message = m; state = stage_state t })))
same_head C p Moved m most is filled long = refl
same_head C p Padded m most is filled long = refl
same_head C p (Stored Open) m most is filled long =
    let b : Message = filled_out (Stored Open) m in
    shows_mark p _ (span (length b.body)) open_kind (shows_claim C b Open most filled)
    ∙ ap (λ n. p + n + open_kind) long
    ∙ sym (shows_mark p _ (span (length m.body)) open_kind (shows_claim C m Open most is))
same_head C p (Stored Committed) m most is filled long = refl
same_head C p (Stored Aborted) m most is filled long = refl

same_padding : (c : StagedClaim) (p : ℕ) → p < c.place
    → staged_word elsewhere (filled_record c) p ≡ staged_word elsewhere c p
unfolding staged_word
same_padding c p before = cond-true _ _ _ (lt-ltb p c.place before) ∙ sym (cond-true _ _ _ (lt-ltb p c.place before))

same_claim : (C : ℕ) (c : StagedClaim) (p : ℕ) → C ≤ 2 ^ 24 → IsMessage C c.message
    → IsMessage C (filled_record c).message
    → mark_of p (staged_word elsewhere (filled_record c) p) ≡ mark_of p (staged_word elsewhere c p)
same_claim C c p most is filled = ⊎_elim
    (λ (before : p < c.place). ap (mark_of p) (same_padding c p before))
    (λ (from : c.place ≤ p). dite (ℕ_discrete p c.place)
    (λ here.
    let ends = filled_end c in
    ap (mark_of p) (staged_word-header elsewhere (filled_record c) p here)
    ∙ same_head C p c.stage c.message most is filled (omega arith)
    ∙ ap (mark_of p) (sym (staged_word-header elsewhere c p here)))
    (λ other. ap (mark_of p) (inner_word (filled_record c) p from other ∙ sym (inner_word c p from other))))
    (cases_lt p c.place)

same_marks : (C e : ℕ) (cs : List StagedClaim) (p : ℕ) → IsCapacity C → ArePlaced C e cs
    → mark_of p (staged_word_at elsewhere (all_filled_out cs) p) ≡ mark_of p (staged_word_at elsewhere cs p)
same_marks C e [] p cap placed = refl
same_marks C e (c ∷ cs) p cap placed =
    let filled = filled_placed C e (c ∷ cs) cap placed in
    let x : ℕ = staged_word elsewhere (filled_record c) p in
    let y : ℕ = staged_word_at elsewhere (all_filled_out cs) p in
    ap (λ k. mark_of p (cond (ltb p k) x y)) (filled_end c)
    ∙ ⊎_elim
    (λ (near : p < claim_end c). ap (mark_of p) (cond-true _ x y (lt-ltb p (claim_end c) near))
    ∙ same_claim C c p cap.most placed.0.message filled.0.message
    ∙ ap (mark_of p) (sym (cond-true _ (staged_word elsewhere c p) (staged_word_at elsewhere cs p)
    (lt-ltb p (claim_end c) near))))
    (λ (far : claim_end c ≤ p). ap (mark_of p) (cond-false _ x y (le-ltb p (claim_end c) far))
    ∙ same_marks C (claim_end c) cs p cap placed.1
    ∙ ap (mark_of p) (sym (cond-false _ (staged_word elsewhere c p) (staged_word_at elsewhere cs p)
    (le-ltb p (claim_end c) far))))
    (cases_lt p (claim_end c))

-- ---- the header that a mark shows

has_end_at : (p w : ℕ) → p + 8 ≤ w - w % 8 → w - w % 8 - p < 2 ^ 31 → has_end p w ≡ true
has_end_at p w more less = λ i. le-leb (p + 8) (w - w % 8) more i && lt-ltb (w - w % 8 - p) (2 ^ 31) less i

pub shows_committed : (p w h : ℕ) → p + bytes_of h ≤ w → w < p + 2 ^ 31 → w % 8 ≡ committed_kind
    → (8 ≤ bytes_of h) × (kind_of h ≡ committed_kind) → shows p w h ≡ true
shows_committed p w h ends less kind is =
    let long = is.0 in
    λ i. has_end_at p w (omega arith) (omega arith) i
    && (cond-true (w % 8 == committed_kind) (is_of_run p w h) (mark_of p h == w) (eq-eqb (w % 8) committed_kind kind)
    ∙ (λ j. le-leb 8 (bytes_of h) is.0 j && le-leb (p + bytes_of h) w ends j
    && eq-eqb (kind_of h) committed_kind is.1 j)) i

shows_other : (p w h : ℕ) → p + 8 ≤ w - w % 8 → w - w % 8 < p + 2 ^ 31 → w % 8 ≢ committed_kind → mark_of p h ≡ w
    → shows p w h ≡ true
shows_other p w h more less kind is =
    λ i. has_end_at p w more (omega arith) i
    && (cond-false (w % 8 == committed_kind) (is_of_run p w h) (mark_of p h == w)
    (ne_eqb (w % 8) committed_kind kind) ∙ eq-eqb (mark_of p h) w is) i

pub header_low : (p w y : ℕ) → w ≤ p → header_of_mark p w y ≡ 0
header_low p w y le = cond-true _ _ _ (le-leb w p le)

pub header_shown : (p w y : ℕ) → p < w → shows p w (decoded p w y) ≡ true → header_of_mark p w y ≡ decoded p w y
header_shown p w y above is = cond-false _ _ _ (lt-leb w p above) ∙ cond-true _ _ _ is

module _ (C head : ℕ) (slots : List ℕ) (cs : List StagedClaim) (cap : IsCapacity C) (aligned : head % 8 ≡ 0)
    (placed : ArePlaced C head cs) (have : HaveRecords C slots cs) (p : ℕ) (p8 : p % 8 ≡ 0) where
  abbrev h : ℕ
  h = staged_word_at elsewhere cs p

  abbrev y : ℕ
  y = slice_index slots (index C p)

  decodes : (w : ℕ) → IsMarkOf p w h → decoded p w y ≡ staged_word_at elsewhere (all_filled_out cs) p
  decodes w is = decode_all C head cs p w y cap aligned placed p8 is (heads_of C head p slots cs cap.most placed have)

  -- nothing was stored there
  pub none_there : h ≡ 0 → staged_word_at elsewhere (all_filled_out cs) p ≡ 0
  none_there none =
      sym (decodes p (record { none = λ _. omega arith; mark = λ some. absurd (some none) }))
      ∙ decoded_none p p y (omega arith)

  -- what is there is not committed, and has its mark
  pub other_there : h ≢ 0 → kind_of h ≢ committed_kind
      → header_of_mark p (mark_of p h) y ≡ staged_word_at elsewhere (all_filled_out cs) p
  other_there some kind =
      let w : ℕ = mark_of p h in
      let is : IsMarkOf p w h = record { none = λ none. absurd (some none); mark = λ _. refl } in
      let near = near_all C head cs p cap.least cap.most placed in
      let below = near.below in
      let most = cap.most in
      let eight = whole_bytes h in
      let few = few_of h in
      let full : 8 ≤ bytes_of h = long_bytes h some near.length_is in
      header_shown p w y (omega arith) (shows_other p w (decoded p w y) (omega arith) (omega arith)
      (λ e. kind (omega arith))
      (ap (mark_of p) (decodes w is) ∙ same_marks C head cs p cap placed)) ∙ decodes w is

  -- a committed record is there
  pub committed_there : h ≢ 0 → kind_of h ≡ committed_kind → y ≡ staged_word_at elsewhere (all_filled_out cs) p
  committed_there some kind =
      let w : ℕ = mark_of p h in
      let is : IsMarkOf p w h = record { none = λ none. absurd (some none); mark = λ _. refl } in
      let near = near_all C head cs p cap.least cap.most placed in
      let eight = whole_bytes h in
      let full : 8 ≤ bytes_of h = long_bytes h some near.length_is in
      sym (kind_is_committed p w y (omega arith) (omega arith)) ∙ decodes w is
