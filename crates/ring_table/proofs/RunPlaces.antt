-- Headers and the positions between them: what has a header is passed as a whole, and nothing begins inside it.
use Rattle.std.proofs.Common.{◌≡◌, ◌≢◌, ◌⊎◌, ℕ, zero, suc, ◌++◌, ◌+◌, ◌-◌, ◌%◌, ◌^◌, ◌≤◌, ◌<◌, List, [], ◌∷◌, length, sym, refl, ap, ◌∙◌, subst, inl, inr, ⊎_elim, lt-ltb, le-ltb, arith}
use Rattle.std.proofs.Math.{Logic.dite, Option.some, Option.some-injective, ListN.get_elem?, Decide.ℕ_discrete}
use Rattle.ring_layout.specs.declared.message.ClaimState.TheVariants.{Open, Committed, Aborted}
use Rattle.std.proofs.lemmas.Bool.{cases_lt, cond-true, cond-false}
use Rattle.ring_layout.specs.{Places.IsCapacity, History.IsMessage}
use Rattle.ring_layout.specs.{Headers.committed_header, Headers.header_of, declared.message.Message.Message}
use Rattle.ring_layout.proofs.PlaceLemmas.{next_cases, next_le}
use Rattle.ring_table.specs.Staged.{elsewhere, StagedClaim, PlacedMessage, Stage, Moved, Padded, Stored, ArePlaced, LiesAfter, claim_end, staged_span, stage_state, masked_padding, masked_record, padding_word, staged_word, staged_word_at}
use Rattle.ring_table.specs.Passing.{IsSettled, Reaches, placed_message, shown_at}
use Rattle.ring_table.specs.Marks.{bytes_of, kind_of, IsCommitted}
use Rattle.ring_table.proofs.DecodeLemmas.{HeadAt, inner_word}
use Rattle.ring_table.proofs.MarkWords.{shows_claim, shows_padding}
use Rattle.ring_table.proofs.ReachLemmas.{none_of, reach_bounds}
use Rattle.ring_table.proofs.StagedPlaces.{capacity_aligned, claim_aligned}
use Rattle.ring_table.proofs.StagedWords.{staged_word-header, staged_word-padding, staged_word-padding_behind}

padding_bytes : (t : Stage) (n : ℕ) → 0 < n → n < 2 ^ 31 → n % 8 ≡ 0 → masked_padding t (padding_word elsewhere n) ≢ 0
    → bytes_of (masked_padding t (padding_word elsewhere n)) ≡ n
padding_bytes Moved n full small n8 there = absurd (there refl)
padding_bytes Padded n full small n8 there = (shows_padding n full small n8).bytes_is
padding_bytes (Stored s) n full small n8 there = (shows_padding n full small n8).bytes_is

record_bytes : (C : ℕ) (c : StagedClaim) (t : Stage) → C ≤ 2 ^ 24 → IsMessage C c.message
    → masked_record t (header_of (record { message = c.message; state = stage_state t })) ≢ 0
    → bytes_of (masked_record t (header_of (record { message = c.message; state = stage_state t }))) ≡ staged_span c
record_bytes C c Moved most is there = absurd (there refl)
record_bytes C c Padded most is there = absurd (there refl)
record_bytes C c (Stored s) most is there = (shows_claim C c.message s most is).bytes_is

-- what is at p of a claim is the padding before it, or its record
abbrev IsPart : StagedClaim → ℕ → ℕ → Type 0
IsPart c p h = ((p ≡ c.from) × (p + bytes_of h ≡ c.place) × (p < c.place))
    ⊎ ((p ≡ c.place) × (p + bytes_of h ≡ claim_end c))

part_of : (C e : ℕ) (c : StagedClaim) (p : ℕ) → IsCapacity C → e % 8 ≡ 0 → LiesAfter C e c
    → staged_word elsewhere c p ≢ 0 → IsPart c p (staged_word elsewhere c p)
part_of C e c p cap e8 lies there =
    let least = cap.least in
    let most = cap.most in
    let aligned = claim_aligned C e c (omega arith) (capacity_aligned C cap) e8 lies.place in
    let from = lies.from in
    let place = lies.place in
    let short = lies.message.short in
    let place8 = aligned.0 in
    let n : ℕ = c.place - c.from in
    ⊎_elim
    (λ (pad : p < c.place). dite (ℕ_discrete p c.from)
    (λ at_it.
    let small : n < 2 ^ 31 = ⊎_elim (λ z. let same = z.1 in omega arith) (λ z. let far = z.0 in let goes = z.1 in omega arith)
    (next_cases C e (staged_span c)) in
    let word = staged_word-padding elsewhere c p at_it pad in
    let bytes = ap bytes_of word
    ∙ padding_bytes c.stage n (omega arith) small (omega arith) (λ z. there (word ∙ z)) in
    inl (at_it, omega arith, pad))
    (λ ne. absurd (there (staged_word-padding_behind elsewhere c p ne pad))))
    (λ (rec : c.place ≤ p). dite (ℕ_discrete p c.place)
    (λ at_it.
    let word = staged_word-header elsewhere c p at_it in
    let bytes = ap bytes_of word ∙ record_bytes C c c.stage most lies.message (λ z. there (word ∙ z)) in
    inr (at_it, omega arith))
    (λ ne. absurd (there (inner_word c p rec ne))))
    (cases_lt p c.place)

-- what begins before a position that a read reaches ends there or before
pub ends_before : (C s e : ℕ) (cs : List StagedClaim) (got : List PlacedMessage) (p : ℕ) → IsCapacity C → e % 8 ≡ 0
    → ArePlaced C e cs → Reaches s e cs got → e ≤ p → p < s → staged_word_at elsewhere cs p ≢ 0
    → p + bytes_of (staged_word_at elsewhere cs p) ≤ s
ends_before C s e [] got p cap e8 placed reaches low less there = let here = reaches.0 in absurd (omega arith)
ends_before C s e (c ∷ cs) got p cap e8 placed reaches low less there =
    let lies = placed.0 in
    let least = cap.least in
    let from = lies.from in
    let place = lies.place in
    let on = next_le C e (staged_span c) in
    let aligned = claim_aligned C e c (omega arith) (capacity_aligned C cap) e8 lies.place in
    ⊎_elim
    (λ (near : p < claim_end c).
    let word : staged_word_at elsewhere (c ∷ cs) p ≡ staged_word elsewhere c p =
    cond-true _ _ _ (lt-ltb p (claim_end c) near) in
    let bytes = ap bytes_of word in
    ⊎_elim (λ z. let here = z.0 in absurd (omega arith))
    (⊎_elim
    (λ z. let here = z.0 in
    ⊎_elim (λ t. let is = t.1 in omega arith) (λ t. let is = t.0 in absurd (omega arith))
    (part_of C e c p cap e8 lies (λ none. there (word ∙ none))))
    (λ z.
    let bounds = reach_bounds C s (claim_end c) cs z.1.0 placed.1 z.1.2 in
    let past = bounds.0 in
    ⊎_elim (λ t. let is = t.1 in omega arith) (λ t. let is = t.1 in omega arith)
    (part_of C e c p cap e8 lies (λ none. there (word ∙ none)))))
    reaches)
    (λ (far : claim_end c ≤ p).
    let word : staged_word_at elsewhere (c ∷ cs) p ≡ staged_word_at elsewhere cs p =
    cond-false _ _ _ (le-ltb p (claim_end c) far) in
    let bytes = ap bytes_of word in
    ⊎_elim (λ z. let here = z.0 in absurd (omega arith))
    (⊎_elim (λ z. let here = z.0 in absurd (omega arith))
    (λ z.
    let rest = ends_before C s (claim_end c) cs z.1.0 p cap aligned.1 placed.1 z.1.2 far less (λ none. there (word ∙ none)) in
    omega arith))
    reaches)
    (cases_lt p (claim_end c))

-- nothing begins inside of what begins at q
pub none_inside : (C e : ℕ) (cs : List StagedClaim) (q p : ℕ) → IsCapacity C → e % 8 ≡ 0 → ArePlaced C e cs
    → staged_word_at elsewhere cs q ≢ 0 → q < p → p < q + bytes_of (staged_word_at elsewhere cs q)
    → staged_word_at elsewhere cs p ≡ 0
none_inside C e [] q p cap e8 placed there low less = refl
none_inside C e (c ∷ cs) q p cap e8 placed there low less =
    let lies = placed.0 in
    let least = cap.least in
    let aligned = claim_aligned C e c (omega arith) (capacity_aligned C cap) e8 lies.place in
    ⊎_elim
    (λ (near : q < claim_end c).
    let word : staged_word_at elsewhere (c ∷ cs) q ≡ staged_word elsewhere c q =
    cond-true _ _ _ (lt-ltb q (claim_end c) near) in
    let bytes = ap bytes_of word in
    ⊎_elim
    (λ t.
    let from = t.0 in
    let is = t.1 in
    cond-true _ _ _ (lt-ltb p (claim_end c) (omega arith))
    ∙ staged_word-padding_behind elsewhere c p (λ same. omega arith) (omega arith))
    (λ t.
    let at = t.0 in
    let is = t.1 in
    cond-true _ _ _ (lt-ltb p (claim_end c) (omega arith)) ∙ inner_word c p (omega arith) (λ same. omega arith))
    (part_of C e c q cap e8 lies (λ none. there (word ∙ none))))
    (λ (far : claim_end c ≤ q).
    let word : staged_word_at elsewhere (c ∷ cs) q ≡ staged_word_at elsewhere cs q =
    cond-false _ _ _ (le-ltb q (claim_end c) far) in
    let bytes = ap bytes_of word in
    cond-false _ _ _ (le-ltb p (claim_end c) (omega arith))
    ∙ none_inside C (claim_end c) cs q p cap aligned.1 placed.1 (λ none. there (word ∙ none)) low (omega arith))
    (cases_lt q (claim_end c))

-- ---- the messages that were passed

-- a message that a claim at this stage and later ones show is the claim's, which is committed, or a later one
shown_committed : (t : Stage) (m0 m : PlacedMessage) (got later : List PlacedMessage) (k : ℕ) → got ≡ shown_at t m0 ++ later
    → get_elem? got k ≡ some m
    → ((t ≡ Stored Committed) × (m0 ≡ m)) ⊎ ((k' : ℕ) × (get_elem? later k' ≡ some m))
shown_committed Moved m0 m got later k e at = inr (k, subst (λ l. get_elem? l k ≡ some m) e at)
shown_committed Padded m0 m got later k e at = inr (k, subst (λ l. get_elem? l k ≡ some m) e at)
shown_committed (Stored Open) m0 m got later k e at = inr (k, subst (λ l. get_elem? l k ≡ some m) e at)
shown_committed (Stored Aborted) m0 m got later k e at = inr (k, subst (λ l. get_elem? l k ≡ some m) e at)
shown_committed (Stored Committed) m0 m got later zero e at =
    inl (refl, some-injective m0 m (subst (λ l. get_elem? l 0 ≡ some m) e at))
shown_committed (Stored Committed) m0 m got later (suc k) e at = inr (k, subst (λ l. get_elem? l (suc k) ≡ some m) e at)

-- a message that a read got is a committed record that it has passed
pub got_committed : (C s e : ℕ) (cs : List StagedClaim) (got : List PlacedMessage) (k : ℕ) (m : PlacedMessage)
    → IsCapacity C → e % 8 ≡ 0 → ArePlaced C e cs → Reaches s e cs got → get_elem? got k ≡ some m
    → IsCommitted (staged_word_at elsewhere cs m.place) × (e ≤ m.place) × (m.place < s) × (m.place % 8 ≡ 0)
got_committed C s e [] got k m cap e8 placed reaches at = none_of got k m reaches.1 at
got_committed C s e (c ∷ cs) got k m cap e8 placed reaches at =
    let lies = placed.0 in
    let least = cap.least in
    let from = lies.from in
    let place = lies.place in
    let on = next_le C e (staged_span c) in
    let aligned = claim_aligned C e c (omega arith) (capacity_aligned C cap) e8 lies.place in
    ⊎_elim (λ z. none_of got k m z.1 at)
    (⊎_elim (λ z. none_of got k m z.2 at)
    (λ z.
    let bounds = reach_bounds C s (claim_end c) cs z.1.0 placed.1 z.1.2 in
    let past = bounds.0 in
    ⊎_elim
    (λ t.
    let places : c.place ≡ m.place = ap (λ (y : PlacedMessage). y.place) t.1 in
    let word : staged_word_at elsewhere (c ∷ cs) c.place
    ≡ masked_record (Stored Committed) (header_of (record { message = c.message; state = Committed })) =
    cond-true _ _ _ (lt-ltb c.place (claim_end c) (omega arith)) ∙ staged_word-header elsewhere c c.place refl
    ∙ ap (λ y. masked_record y (header_of (record { message = c.message; state = stage_state y }))) t.0 in
    let shows = shows_claim C c.message Committed cap.most lies.message in
    subst (λ p. IsCommitted (staged_word_at elsewhere (c ∷ cs) p) × (e ≤ p) × (p < s) × (p % 8 ≡ 0)) places
    ((λ none. shows.some (sym word ∙ none), ap kind_of word ∙ shows.kind_is), omega arith, omega arith, aligned.0))
    (λ t.
    let rest = got_committed C s (claim_end c) cs z.1.0 t.0 m cap aligned.1 placed.1 z.1.2 t.1 in
    let above = rest.1 in (
      subst IsCommitted (sym (cond-false _ _ _ (le-ltb m.place (claim_end c) above))) rest.0,
      omega arith,
      rest.2,
      rest.3,
    ))
    (shown_committed c.stage (placed_message c) m got z.1.0 k z.1.1 at))) reaches

-- ---- the header that the first slot of a committed record has

padding_quiet : (t : Stage) (n : ℕ) → 0 < n → n < 2 ^ 31 → n % 8 ≡ 0 → IsCommitted (masked_padding t (padding_word elsewhere n)) → ⊥
padding_quiet Moved n full small n8 is = is.0 refl
padding_quiet Padded n full small n8 is =
    let kind = (shows_padding n full small n8).kind_is in
    let other = is.1 in omega arith
padding_quiet (Stored s) n full small n8 is =
    let kind = (shows_padding n full small n8).kind_is in
    let other = is.1 in omega arith

record_head : (C : ℕ) (m : Message) (t : Stage) (y : ℕ) → C ≤ 2 ^ 24 → IsMessage C m
    → IsCommitted (masked_record t (header_of (record { message = m; state = stage_state t })))
    → (IsSettled t → y ≡ committed_header m.type_id (length m.body))
    → y ≡ masked_record t (header_of (record { message = m; state = stage_state t }))
record_head C m Moved y most lawful is head = absurd (is.0 refl)
record_head C m Padded y most lawful is head = absurd (is.0 refl)
record_head C m (Stored Open) y most lawful is head =
    let kind = (shows_claim C m Open most lawful).kind_is in
    let other = is.1 in absurd (omega arith)
record_head C m (Stored Committed) y most lawful is head = head tt
record_head C m (Stored Aborted) y most lawful is head =
    let kind = (shows_claim C m Aborted most lawful).kind_is in
    let other = is.1 in absurd (omega arith)

pub head_of_committed : (C e : ℕ) (cs : List StagedClaim) (p y : ℕ) → IsCapacity C → e % 8 ≡ 0 → ArePlaced C e cs
    → HeadAt p y cs → IsCommitted (staged_word_at elsewhere cs p) → y ≡ staged_word_at elsewhere cs p
head_of_committed C e [] p y cap e8 placed heads is = absurd (is.0 refl)
head_of_committed C e (c ∷ cs) p y cap e8 placed heads is =
    let lies = placed.0 in
    let least = cap.least in
    let from = lies.from in
    let aligned = claim_aligned C e c (omega arith) (capacity_aligned C cap) e8 lies.place in
    ⊎_elim
    (λ (near : p < claim_end c).
    let word : staged_word_at elsewhere (c ∷ cs) p ≡ staged_word elsewhere c p =
    cond-true _ _ _ (lt-ltb p (claim_end c) near) in
    let is' = subst IsCommitted word is in
    ⊎_elim
    (λ t.
    let less = t.2 in
    let short = lies.message.short in
    let n : ℕ = c.place - c.from in
    let place8 = aligned.0 in
    let small : n < 2 ^ 31 = ⊎_elim (λ z. let same = z.1 in let at = lies.place in omega arith)
    (λ z. let far = z.0 in let goes = z.1 in let at = lies.place in omega arith) (next_cases C e (staged_span c)) in
    absurd (padding_quiet c.stage n (omega arith) small (omega arith)
    (subst IsCommitted (staged_word-padding elsewhere c p t.0 t.2) is')))
    (λ t.
    let head = staged_word-header elsewhere c p t.0 in
    record_head C c.message c.stage y cap.most lies.message (subst IsCommitted head is')
    (λ done. heads.0 done (sym t.0)) ∙ sym head ∙ sym word)
    (part_of C e c p cap e8 lies is'.0))
    (λ (far : claim_end c ≤ p).
    let word : staged_word_at elsewhere (c ∷ cs) p ≡ staged_word_at elsewhere cs p =
    cond-false _ _ _ (le-ltb p (claim_end c) far) in
    head_of_committed C (claim_end c) cs p y cap aligned.1 placed.1 heads.1 (subst IsCommitted word is) ∙ sym word)
    (cases_lt p (claim_end c))
