-- Claims at any stage as plain ones: each at its own place, and a stretch without headers as claims without bytes.
use Rattle.std.proofs.Common.{◌≡◌, ℕ, zero, suc, ◌+◌, ◌-◌, ◌*◌, ◌/◌, ◌%◌, ◌≤◌, ◌<◌, pos, List, [], ◌∷◌, ◌++◌, cond, sym, refl, ap, ◌∙◌, subst, inl, inr, Bool, true, false, eqb, ⊎_elim, length, replicate, lt-ltb, le-ltb, arith}
use Rattle.std.proofs.lemmas.{List.length-replicate, List.Elements.All-nil, List.Elements.All-replicate, Nat.mod_below}
use Rattle.std.proofs.lemmas.Bool.{cases_lt, cond-true, cond-false}
use Rattle.ring_layout.specs.declared.message.{Message.Message, ClaimState.TheVariants.Aborted}
use Rattle.ring_layout.specs.History.{IsMessage}
use Rattle.ring_layout.specs.{Headers.padding_header, Places.IsCapacity, Places.next_place, Places.room}
use Rattle.ring_layout.proofs.{Laps.mod_aligned, PlaceLemmas.next_cases, PlaceLemmas.next_le, PlaceLemmas.next_within}
use Rattle.ring_table.specs.Staged.{in_words, StagedClaim, PlacedMessage, Stage, Moved, Padded, Stored, claim_of, claim_end, staged_span, masked_padding, masked_record, padding_word, record_word, staged_word, staged_word_at, ArePlaced, staged_end}
use Rattle.ring_table.specs.Passing.{placed_message, shown_at, placed_committed_of}
use Rattle.ring_table.specs.Rescued.{one_if_unsettled, silent_of, silent_bytes, unsettled_count}
use Rattle.ring_table.specs.Settling.{ArePlain, IsPlainStage}
use Rattle.ring_table.proofs.{BodyWords.body_word-zeros, StagedPlaces.capacity_aligned, StagedPlaces.claim_aligned}
use Rattle.ring_table.proofs.StagedWords.{staged_word-header, staged_word-in_words, staged_word-padding, staged_word-padding_behind, staged_word-record}

-- plain claims from e on that show the words W, and end, have and count as others
pub record Plainly (C e : ℕ) (W : ℕ → ℕ) (end : ℕ) (got : List PlacedMessage) (claims silent : ℕ) : Type 0 where
  pub list : List StagedClaim
  pub placed : ArePlaced C e list
  pub plain : ArePlain list
  pub ends : staged_end e list ≡ end
  pub words : (p : ℕ) → p % 8 ≡ 0 → e ≤ p → staged_word_at in_words list p ≡ W p
  pub messages : placed_committed_of list ≡ got
  pub claims_is : unsettled_count list ≡ claims
  pub silent_is : silent_bytes list ≡ silent

-- a claim of which nothing is stored shows nothing
moved_shows : (c : StagedClaim) (p : ℕ) → c.stage ≡ Moved → staged_word in_words c p ≡ 0
unfolding staged_word
moved_shows c p moved =
    elim (cases_lt p c.place) as (λ _. staged_word in_words c p ≡ 0) [
      | inl low ↦ cond-true _ _ _ (lt-ltb p c.place low) ∙ in_padding
      | inr high ↦ cond-false _ _ _ (le-ltb p c.place high)
          ∙ ap (λ t. masked_record t (record_word in_words (claim_of c) (p - c.place))) moved
    ]
  where
    either : (b : Bool) {n : ℕ} → n ≡ 0 → cond b n 0 ≡ 0
    either true e = e
    either false e = refl

    in_padding : cond (eqb p c.from) (masked_padding c.stage (padding_word in_words (c.place - c.from))) 0 ≡ 0
    in_padding = either (eqb p c.from)
        (ap (λ t. masked_padding t (padding_word in_words (c.place - c.from))) moved)

module _ (C : ℕ) (cap : IsCapacity C) (W : ℕ → ℕ) (end : ℕ) where
  -- a span that fits stays
  stays : (e a : ℕ) → a ≤ room C e → e ≡ next_place C e a
  stays e a fits = ⊎_elim (λ (q : (a ≤ room C e) × (next_place C e a ≡ e)). sym q.1)
      (λ (q : (room C e < a) × (next_place C e a ≡ e + room C e)). let more = q.0 in absurd (omega arith))
      (next_cases C e a)

  -- one plain claim more in front
  cons : (e : ℕ) (got : List PlacedMessage) (claims silent : ℕ) (x : StagedClaim) → x.from ≡ e → x.place ≡ e
      → staged_span x ≤ room C e → IsMessage C x.message → IsPlainStage x.stage (length x.message.body)
      → ((p : ℕ) → p % 8 ≡ 0 → e ≤ p → p < claim_end x → staged_word in_words x p ≡ W p)
      → Plainly C (claim_end x) W end got claims silent
      → Plainly C e W end (shown_at x.stage (placed_message x) ++ got) (one_if_unsettled x.stage + claims)
      (silent_of x.stage (claim_end x - x.from) (staged_span x) + silent)
  cons e got claims silent x from place fits message plain words rest = record {
    list = x ∷ rest.list;
    placed = (
      record { from = from; place = place ∙ stays e (staged_span x) fits; message = message },
      rest.placed,
    );
    plain = (from ∙ sym place, plain, rest.plain);
    ends = rest.ends;
    words = λ p p8 le. elim (cases_lt p (claim_end x)) as (λ _. staged_word_at in_words (x ∷ rest.list) p ≡ W p) [
      | inl near ↦ cond-true _ _ _ (lt-ltb p (claim_end x) near) ∙ words p p8 le near
      | inr far ↦ cond-false _ _ _ (le-ltb p (claim_end x) far) ∙ rest.words p p8 far
    ];
    messages = ap (λ l. shown_at x.stage (placed_message x) ++ l) rest.messages;
    claims_is = ap (λ n. one_if_unsettled x.stage + n) rest.claims_is;
    silent_is = ap (λ n. silent_of x.stage (claim_end x - x.from) (staged_span x) + n) rest.silent_is;
  }

  -- the same with other counts
  counted : {e : ℕ} {got : List PlacedMessage} (a b c d : ℕ) → a ≡ b → c ≡ d → Plainly C e W end got a c
      → Plainly C e W end got b d
  counted {e} {got} a b c d ab cd rest = record {
    list = rest.list;
    placed = rest.placed;
    plain = rest.plain;
    ends = rest.ends;
    words = rest.words;
    messages = rest.messages;
    claims_is = rest.claims_is ∙ ab;
    silent_is = rest.silent_is ∙ cd;
  }

  -- a claim without bytes or a header
  piece : ℕ → StagedClaim
  piece s = record { from = s; place = s; message = record { type_id = pos 1; body = [] }; stage = Moved }

  some_room : (e : ℕ) → e % 8 ≡ 0 → 8 ≤ room C e
  some_room e e8 =
      let least = cap.least in
      let c8 = capacity_aligned C cap in
      let m8 = mod_aligned C e c8 e8 in
      let low = mod_below e C (omega arith) in
      omega arith

  -- n words without headers
  pieces : (n e : ℕ) (got : List PlacedMessage) (claims silent : ℕ) → e % 8 ≡ 0
      → ((p : ℕ) → p % 8 ≡ 0 → e ≤ p → p < e + 8 * n → W p ≡ 0)
      → Plainly C (e + 8 * n) W end got claims silent → Plainly C e W end got claims (8 * n + silent)
  unfolding piece
  pieces zero e got claims silent e8 none rest =
      let a : e + 8 * zero ≡ e = omega arith in
      let b : silent ≡ 8 * zero + silent = omega arith in
      subst (λ (k : ℕ). Plainly C e W end got claims k) b (subst (λ (k : ℕ). Plainly C k W end got claims silent) a rest)
  pieces (suc n) e got claims silent e8 none rest =
      let a : e + 8 * suc n ≡ e + 8 + 8 * n = omega arith in
      let b : e + 8 - e + (8 * n + silent) ≡ 8 * suc n + silent = omega arith in
      let more : Plainly C (e + 8) W end got claims (8 * n + silent) =
      pieces n (e + 8) got claims silent (omega arith)
      (λ p p8 le lt. none p p8 (omega arith) (omega arith))
      (subst (λ (k : ℕ). Plainly C k W end got claims silent) a rest) in
      counted (0 + claims) claims (e + 8 - e + (8 * n + silent)) (8 * suc n + silent) (omega arith) b
      (cons e got claims (8 * n + silent) (piece e) refl refl (some_room e e8)
      (record {
        type_id = omega arith;
        type_fits = record { sfits = omega arith };
        short = omega arith;
        bytes = All-nil (λ b. b < 256);
      })
      refl
      (λ p p8 le lt. moved_shows (piece e) p refl ∙ sym (none p p8 le (omega arith))) more)

  -- padding whose header is stored is an aborted claim of zeros
  padding : (e n : ℕ) (got : List PlacedMessage) (claims silent : ℕ) → e % 8 ≡ 0 → n % 8 ≡ 0 → 8 ≤ n → n ≤ room C e
      → n ≤ C / 8 + 8 → W e ≡ padding_header n → ((p : ℕ) → p % 8 ≡ 0 → e < p → p < e + n → W p ≡ 0)
      → Plainly C (e + n) W end got claims silent → Plainly C e W end got claims silent
  padding e n got claims silent e8 n8 some fits short first none rest =
      let zeros : List ℕ = replicate (n - 8) 0 in
      let long : length zeros ≡ n - 8 = length-replicate (n - 8) 0 in
      let x : StagedClaim = record {
        from = e;
        place = e;
        message = record { type_id = pos 1; body = zeros };
        stage = Stored Aborted;
      } in
      let span_is : staged_span x ≡ n = omega arith in
      let end_is : e + n ≡ claim_end x = omega arith in
      counted (0 + claims) claims (0 + silent) silent (omega arith) (omega arith)
      (cons e got claims silent x refl refl (omega arith)
      (record {
        type_id = omega arith;
        type_fits = record { sfits = omega arith };
        short = omega arith;
        bytes = All-replicate (λ b. b < 256) (n - 8) 0 (omega arith);
      })
      tt
      (λ p p8 le lt. elim (cases_lt e p) as (λ _. staged_word in_words x p ≡ W p) [
        | inl behind ↦ staged_word-in_words x p (p - e - 8) tt (omega arith) ∙ body_word-zeros (n - 8) (p - e - 8)
            ∙ sym (none p p8 behind (omega arith))
        | inr at_it ↦
            let one : p ≡ e = omega arith in
            let whole : 8 + length zeros ≡ n = omega arith in
            staged_word-header in_words x p one ∙ ap padding_header whole ∙ sym first ∙ ap W (sym one)
      ])
      (subst (λ (k : ℕ). Plainly C k W end got claims silent) end_is rest))

  -- the padding before a place, if there is any
  maybe_padding : (from place a : ℕ) (got : List PlacedMessage) (claims silent : ℕ) → from % 8 ≡ 0 → place % 8 ≡ 0
      → a % 8 ≡ 0 → a ≤ C / 8 + 15 → place ≡ next_place C from a
      → (from < place → W from ≡ padding_header (place - from))
      → ((p : ℕ) → p % 8 ≡ 0 → from < p → p < place → W p ≡ 0)
      → Plainly C place W end got claims silent → Plainly C from W end got claims silent
  maybe_padding from place a got claims silent f8 p8 a8 short is first none rest =
      ⊎_elim (λ (q : (a ≤ room C from) × (next_place C from a ≡ from)).
      subst (λ (k : ℕ). Plainly C k W end got claims silent) (is ∙ q.1) rest)
      (λ (q : (room C from < a) × (next_place C from a ≡ from + room C from)).
      let more = q.0 in
      let goes = q.1 in
      let some = some_room from f8 in
      let whole : from + (place - from) ≡ place = omega arith in
      padding from (place - from) got claims silent f8 (omega arith) (omega arith) (omega arith) (omega arith)
      (first (omega arith)) (λ p p8 gt lt. none p p8 gt (omega arith))
      (subst (λ (k : ℕ). Plainly C k W end got claims silent) (sym whole) rest))
      (next_cases C from a)

  -- one claim at any stage in front
  one : (from place : ℕ) (m : Message) (t : Stage) (got : List PlacedMessage) (claims silent : ℕ) → from % 8 ≡ 0
      → let c : StagedClaim = record { from = from; place = place; message = m; stage = t } in
      place ≡ next_place C from (staged_span c) → IsMessage C m
      → ((p : ℕ) → from ≤ p → p < claim_end c → W p ≡ staged_word in_words c p)
      → Plainly C (claim_end c) W end got claims silent
      → Plainly C from W end (shown_at t (placed_message c) ++ got) (one_if_unsettled t + claims)
      (silent_of t (claim_end c - from) (staged_span c) + silent)
  one from place m Moved got claims silent f8 is message words rest =
      let c : StagedClaim = record { from = from; place = place; message = m; stage = Moved } in
      let least = cap.least in
      let aligned = claim_aligned C from c (omega arith) (capacity_aligned C cap) f8 is in
      let e8 = aligned.1 in
      let on = next_le C from (staged_span c) in
      let n : ℕ = (claim_end c - from) / 8 in
      let whole : claim_end c ≡ from + 8 * n = omega arith in
      let size : 8 * n + silent ≡ claim_end c - from + silent = omega arith in
      counted claims (0 + claims) (8 * n + silent) (claim_end c - from + silent) (omega arith) size
      (pieces n from got claims silent f8
      (λ p p8 le lt. words p le (omega arith) ∙ moved_shows c p refl)
      (subst (λ (k : ℕ). Plainly C k W end got claims silent) whole rest))
  one from place m Padded got claims silent f8 is message words rest =
      let c : StagedClaim = record { from = from; place = place; message = m; stage = Padded } in
      let least = cap.least in
      let short = message.short in
      let aligned = claim_aligned C from c (omega arith) (capacity_aligned C cap) f8 is in
      let place8 : place % 8 ≡ 0 = aligned.0 in
      let on = next_le C from (staged_span c) in
      let n : ℕ = staged_span c / 8 in
      let whole : claim_end c ≡ place + 8 * n = omega arith in
      let size : 8 * n + silent ≡ staged_span c + silent = omega arith in
      maybe_padding from place (staged_span c) got (0 + claims) (staged_span c + silent) f8 place8 (omega arith) (omega arith) is
      (λ lt. words from (omega arith) (omega arith) ∙ staged_word-padding in_words c from refl lt)
      (λ p p8 gt lt. words p (omega arith) (omega arith)
      ∙ staged_word-padding_behind in_words c p (λ e. omega arith) lt)
      (counted claims (0 + claims) (8 * n + silent) (staged_span c + silent) (omega arith) size
      (pieces n place got claims silent place8
      (λ p p8 le lt. words p (omega arith) (omega arith) ∙ staged_word-record in_words c p le)
      (subst (λ (k : ℕ). Plainly C k W end got claims silent) whole rest)))
  one from place m (Stored s) got claims silent f8 is message words rest =
      let c : StagedClaim = record { from = from; place = place; message = m; stage = Stored s } in
      let x : StagedClaim = record { from = place; place = place; message = m; stage = Stored s } in
      let least = cap.least in
      let short = message.short in
      let aligned = claim_aligned C from c (omega arith) (capacity_aligned C cap) f8 is in
      let place8 : place % 8 ≡ 0 = aligned.0 in
      let on = next_le C from (staged_span c) in
      let inside : next_place C from (staged_span c) % C + staged_span c ≤ C =
      next_within C from (staged_span c) (omega arith) (omega arith) in
      let mods : place % C ≡ next_place C from (staged_span c) % C = ap (λ k. k % C) is in
      maybe_padding from place (staged_span c) (shown_at (Stored s) (placed_message c) ++ got)
      (one_if_unsettled (Stored s) + claims) (0 + silent) f8 place8 (omega arith) (omega arith) is
      (λ lt. words from (omega arith) (omega arith) ∙ staged_word-padding in_words c from refl lt)
      (λ p p8 gt lt. words p (omega arith) (omega arith)
      ∙ staged_word-padding_behind in_words c p (λ e. omega arith) lt)
      (cons place got claims silent x refl refl (omega arith) message tt
      (λ p p8 le lt. staged_word-record in_words x p le ∙ sym (staged_word-record in_words c p le)
      ∙ sym (words p (omega arith) lt)) rest)

-- any claims as plain ones
pub plainly : (C e : ℕ) (cs : List StagedClaim) → IsCapacity C → e % 8 ≡ 0 → ArePlaced C e cs
    → Plainly C e (staged_word_at in_words cs) (staged_end e cs) (placed_committed_of cs) (unsettled_count cs)
    (silent_bytes cs)
plainly C e [] cap e8 placed = record {
  list = [];
  placed = tt;
  plain = tt;
  ends = refl;
  words = λ p p8 le. refl;
  messages = refl;
  claims_is = refl;
  silent_is = refl;
}
plainly C e (c ∷ cs) cap e8 placed =
    let least = cap.least in
    let lies = placed.0 in
    let from : c.from ≡ e = lies.from in
    let f8 : c.from % 8 ≡ 0 = ap (λ k. k % 8) from ∙ e8 in
    let place : c.place ≡ next_place C c.from (staged_span c) =
    lies.place ∙ ap (λ k. next_place C k (staged_span c)) (sym from) in
    let aligned = claim_aligned C c.from c (omega arith) (capacity_aligned C cap) f8 place in
    let rest = plainly C (claim_end c) cs cap aligned.1 placed.1 in
    let W : ℕ → ℕ = staged_word_at in_words (c ∷ cs) in
    let end : ℕ = staged_end e (c ∷ cs) in
    subst (λ (k : ℕ). Plainly C k W end (placed_committed_of (c ∷ cs)) (unsettled_count (c ∷ cs))
    (silent_bytes (c ∷ cs))) from
    (one C cap W end c.from c.place c.message c.stage (placed_committed_of cs) (unsettled_count cs) (silent_bytes cs) f8
    place lies.message
    (λ p le lt. cond-true _ _ _ (lt-ltb p (claim_end c) lt))
    (record {
      list = rest.list;
      placed = rest.placed;
      plain = rest.plain;
      ends = rest.ends;
      words = λ p p8 le. rest.words p p8 le ∙ sym (cond-false _ _ _ (le-ltb p (claim_end c) le));
      messages = rest.messages;
      claims_is = rest.claims_is;
      silent_is = rest.silent_is;
    }))
