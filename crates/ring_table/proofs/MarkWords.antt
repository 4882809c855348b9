-- Marks beside the headers that they stand for.
use Rattle.std.proofs.Common.{◌≡◌, ◌≢◌, ℕ, zero, suc, ◌+◌, ◌-◌, ◌/◌, ◌%◌, ◌^◌, ◌≤◌, ◌<◌, pos, neg_ℤ, List, [], ◌∷◌, cond, sym, refl, ap, ◌∙◌, subst, ◌⊎◌, inl, inr, ⊎_elim, length, lt-ltb, le-ltb, eq-eqb, ne_eqb, arith, w32}
use Rattle.std.{specs.Int.cast_unsigned, proofs.Math.Logic.dite, proofs.Math.Decide.ℕ_discrete}
use Rattle.std.proofs.lemmas.{Bool.cases_lt, Bool.cond-true, Bool.cond-false, Nat.mod_below}
use Rattle.ring_layout.specs.Marks.{committed_kind, padding_kind, open_kind, aborted_kind}
use Rattle.ring_layout.specs.declared.message.{Message.Message, ClaimState.ClaimState}
use Rattle.ring_layout.specs.declared.message.ClaimState.TheVariants.{Open, Committed, Aborted}
use Rattle.ring_layout.specs.{History.IsMessage, History.span, Places.next_place, Places.rounded}
use Rattle.ring_layout.specs.Headers.{header_of, open_header, committed_header, aborted_header, padding_type}
use Rattle.ring_layout.proofs.{HeaderLemmas.fits_neg, PlaceLemmas.next_cases}
use Rattle.ring_table.specs.Staged.{elsewhere, padding_mark, padding_word, StagedClaim, Stage, Moved, Padded, Stored, ArePlaced, claim_of, claim_end, staged_span, masked_padding, masked_record, staged_word, staged_word_at}
use Rattle.ring_table.specs.Marks.{kind_of, bytes_of, mark_of}
use Rattle.ring_table.proofs.StagedWords.{staged_word-header, staged_word-padding, staged_word-padding_behind, staged_word-record}
use Rattle.ring_table.proofs.HeaderReads.{low_half, high_half, halves, type_below}

-- ---- marks of headers

pub negated_bits : (n : ℕ) → 0 < n → n < 2 ^ 31 → cast_unsigned w32 (neg_ℤ (pos n)) ≡ 2 ^ 32 - n
negated_bits zero some small = absurd (omega arith)
negated_bits (suc n) some small = omega arith

-- a header of a negative length
negative : (h n : ℕ) → h % 2 ^ 32 ≡ 2 ^ 32 - n → 0 < n → n < 2 ^ 31 → (bytes_of h ≡ rounded n) × (kind_of h ≡ open_kind)
unfolding bytes_of kind_of
negative h n low some small =
    let above : 2 ^ 31 < h % 2 ^ 32 = omega arith in
    let back : 2 ^ 32 - h % 2 ^ 32 ≡ n = omega arith in (
      cond-true _ _ _ (lt-ltb (2 ^ 31) (h % 2 ^ 32) above) ∙ ap rounded back,
      cond-true _ _ _ (lt-ltb (2 ^ 31) (h % 2 ^ 32) above),
    )

-- of a length that is not
pub bytes_plain : (h : ℕ) → h % 2 ^ 32 ≤ 2 ^ 31 → bytes_of h ≡ rounded (h % 2 ^ 32)
unfolding bytes_of
bytes_plain h le = cond-false _ _ _ (le-ltb (2 ^ 31) (h % 2 ^ 32) le)

pub whole_bytes : (h : ℕ) → bytes_of h % 8 ≡ 0
unfolding bytes_of
whole_bytes h = ⊎_elim
    (λ (above : 2 ^ 31 < h % 2 ^ 32).
    ap (λ k. k % 8) (cond-true _ (rounded (2 ^ 32 - h % 2 ^ 32)) (rounded (h % 2 ^ 32)) (lt-ltb (2 ^ 31) (h % 2 ^ 32) above))
    ∙ omega arith)
    (λ (low : h % 2 ^ 32 ≤ 2 ^ 31).
    ap (λ k. k % 8) (cond-false _ (rounded (2 ^ 32 - h % 2 ^ 32)) (rounded (h % 2 ^ 32)) (le-ltb (2 ^ 31) (h % 2 ^ 32) low))
    ∙ omega arith)
    (cases_lt (2 ^ 31) (h % 2 ^ 32))

pub kind_padding : (h : ℕ) → h % 2 ^ 32 ≤ 2 ^ 31 → h / 2 ^ 32 ≡ 2 ^ 32 - 2 → kind_of h ≡ padding_kind
unfolding kind_of
kind_padding h le high =
    cond-false _ _ _ (le-ltb (2 ^ 31) (h % 2 ^ 32) le) ∙ cond-true _ _ _ (eq-eqb (h / 2 ^ 32) (2 ^ 32 - 2) high)

pub kind_aborted : (h : ℕ) → h % 2 ^ 32 ≤ 2 ^ 31 → h / 2 ^ 32 ≡ 2 ^ 32 - 1 → kind_of h ≡ aborted_kind
unfolding kind_of
kind_aborted h le high =
    cond-false _ _ _ (le-ltb (2 ^ 31) (h % 2 ^ 32) le)
    ∙ cond-false _ _ _ (ne_eqb (h / 2 ^ 32) (2 ^ 32 - 2) (λ e. omega arith))
    ∙ cond-true _ _ _ (eq-eqb (h / 2 ^ 32) (2 ^ 32 - 1) high)

pub kind_committed : (h : ℕ) → h % 2 ^ 32 ≤ 2 ^ 31 → h / 2 ^ 32 ≢ 2 ^ 32 - 2 → h / 2 ^ 32 ≢ 2 ^ 32 - 1
    → kind_of h ≡ committed_kind
unfolding kind_of
kind_committed h le no_pad no_abort =
    cond-false _ _ _ (le-ltb (2 ^ 31) (h % 2 ^ 32) le)
    ∙ cond-false _ _ _ (ne_eqb (h / 2 ^ 32) (2 ^ 32 - 2) no_pad)
    ∙ cond-false _ _ _ (ne_eqb (h / 2 ^ 32) (2 ^ 32 - 1) no_abort)

pub kind_open : (h : ℕ) → 2 ^ 31 < h % 2 ^ 32 → kind_of h ≡ open_kind
unfolding kind_of
kind_open h above = cond-true _ _ _ (lt-ltb (2 ^ 31) (h % 2 ^ 32) above)

negative_bytes : (h : ℕ) → 2 ^ 31 < h % 2 ^ 32 → 8 ≤ bytes_of h
unfolding bytes_of
negative_bytes h above =
    let low = mod_below h (2 ^ 32) (omega arith) in
    subst (λ k. 8 ≤ k) (sym (cond-true _ (rounded (2 ^ 32 - h % 2 ^ 32)) (rounded (h % 2 ^ 32))
    (lt-ltb (2 ^ 31) (h % 2 ^ 32) above))) (omega arith)

pub few_of : (h : ℕ) → kind_of h < 8
few_of h = by_length (cases_lt (2 ^ 31) (h % 2 ^ 32))
  where
    by_length : (2 ^ 31 < h % 2 ^ 32) ⊎ (h % 2 ^ 32 ≤ 2 ^ 31) → kind_of h < 8
    by_length (inl above) = let is = kind_open h above in omega arith
    by_length (inr le) = dite (ℕ_discrete (h / 2 ^ 32) (2 ^ 32 - 2))
        (λ e. let is = kind_padding h le e in omega arith)
        (λ ne. dite (ℕ_discrete (h / 2 ^ 32) (2 ^ 32 - 1))
        (λ e. let is = kind_aborted h le e in omega arith)
        (λ ne'. let is = kind_committed h le ne ne' in omega arith))

pub long_bytes : (h : ℕ) → h ≢ 0 → (h ≡ 0) ⊎ (((0 < h % 2 ^ 32) × (h % 2 ^ 32 < 2 ^ 31)) ⊎ (2 ^ 31 < h % 2 ^ 32)) → 8 ≤ bytes_of h
long_bytes h ne (inl none) = absurd (ne none)
long_bytes h ne (inr (inl plus)) =
    let some_length = plus.0 in
    let less = plus.1 in
    let is = bytes_plain h (omega arith) in omega arith
long_bytes h ne (inr (inr above)) = negative_bytes h above

-- what has the header h ends these bytes later, and is of this kind; and h is a word, and not 0
pub record Shows (h bytes kind : ℕ) : Type 0 where
  pub bytes_is : bytes_of h ≡ bytes
  pub kind_is : kind_of h ≡ kind
  pub some : h ≢ 0
  pub small : h < 18446744073709551616
  pub length_is : (h ≡ 0) ⊎ (((0 < h % 2 ^ 32) × (h % 2 ^ 32 < 2 ^ 31)) ⊎ (2 ^ 31 < h % 2 ^ 32))

pub shows_mark : (p h bytes kind : ℕ) → Shows h bytes kind → mark_of p h ≡ p + bytes + kind
shows_mark p h bytes kind s = λ i. p + s.bytes_is i + s.kind_is i

pub shows_padding : (n : ℕ) → 0 < n → n < 2 ^ 31 → n % 8 ≡ 0 → Shows (padding_word elsewhere n) n padding_kind
shows_padding n some small n8 =
    let h : ℕ = padding_word elsewhere n in
    let t = halves n padding_mark small refl in
    let low : h % 2 ^ 32 ≡ n = t.0 in
    let high : h / 2 ^ 32 ≡ 2 ^ 32 - 2 = t.1 in
    let whole : rounded n ≡ n = omega arith in
    record {
      bytes_is = bytes_plain h (omega arith) ∙ ap rounded low ∙ whole;
      kind_is = kind_padding h (omega arith) high;
      some = λ e. omega arith;
      small = omega arith;
      length_is = inr (inl (omega arith, omega arith));
    }

abbrev pub state_kind : ClaimState → ℕ
state_kind Open = open_kind
state_kind Committed = committed_kind
state_kind Aborted = aborted_kind

pub few_kinds : (s : ClaimState) → state_kind s ≤ 3
few_kinds Open = omega arith
few_kinds Committed = omega arith
few_kinds Aborted = omega arith

pub shows_claim : (C : ℕ) (m : Message) (s : ClaimState) → C ≤ 2 ^ 24 → IsMessage C m
    → Shows (header_of (record { message = m; state = s })) (span (length m.body)) (state_kind s)
shows_claim C m Open most is =
    let n : ℕ = length m.body in
    let h : ℕ = open_header m.type_id n in
    let short = is.short in
    let fits = fits_neg (8 + n) (omega arith) in
    let low : h % 2 ^ 32 ≡ cast_unsigned w32 (neg_ℤ (pos (8 + n))) = low_half (neg_ℤ (pos (8 + n))) m.type_id fits in
    let bits = negated_bits (8 + n) (omega arith) (omega arith) in
    let high : h / 2 ^ 32 ≡ cast_unsigned w32 m.type_id = high_half (neg_ℤ (pos (8 + n))) m.type_id fits in
    let type_bits = type_below m.type_id is.type_id is.type_fits in
    let t = negative h (8 + n) (low ∙ bits) (omega arith) (omega arith) in
    record {
      bytes_is = t.0;
      kind_is = t.1;
      some = λ e. omega arith;
      small = omega arith;
      length_is = inr (inr (omega arith));
    }
shows_claim C m Committed most is =
    let n : ℕ = length m.body in
    let h : ℕ = committed_header m.type_id n in
    let short = is.short in
    let t = halves (8 + n) m.type_id (omega arith) refl in
    let low : h % 2 ^ 32 ≡ 8 + n = t.0 in
    let high : h / 2 ^ 32 ≡ cast_unsigned w32 m.type_id = t.1 in
    let type_bits = type_below m.type_id is.type_id is.type_fits in
    record {
      bytes_is = bytes_plain h (omega arith) ∙ ap rounded low;
      kind_is = kind_committed h (omega arith) (λ e. omega arith) (λ e. omega arith);
      some = λ e. omega arith;
      small = omega arith;
      length_is = inr (inl (omega arith, omega arith));
    }
shows_claim C m Aborted most is =
    let n : ℕ = length m.body in
    let h : ℕ = aborted_header n in
    let short = is.short in
    let t = halves (8 + n) padding_type (omega arith) refl in
    let low : h % 2 ^ 32 ≡ 8 + n = t.0 in
    let high : h / 2 ^ 32 ≡ 2 ^ 32 - 1 = t.1 in
    record {
      bytes_is = bytes_plain h (omega arith) ∙ ap rounded low;
      kind_is = kind_aborted h (omega arith) high;
      some = λ e. omega arith;
      small = omega arith;
      length_is = inr (inl (omega arith, omega arith));
    }

pub committed_small : (C : ℕ) (m : Message) → C ≤ 2 ^ 24 → IsMessage C m
    → committed_header m.type_id (length m.body) < 2 ^ 64
committed_small C m most is = (shows_claim C m Committed most is).small

-- ---- what holds of all words of a picture whose bodies lie elsewhere

-- P holds of 0, of headers of padding and of headers of claims
pub record OfHeaders (C : ℕ) (P : ℕ → Type 0) : Type 0 where
  pub zero_word : P 0
  pub padding : (n : ℕ) → 0 < n → n ≤ C / 4 → P (padding_word elsewhere n)
  pub claim : (m : Message) (s : ClaimState) → IsMessage C m → P (header_of (record { message = m; state = s }))

module _ (C : ℕ) (P : ℕ → Type 0) (of : OfHeaders C P) where
  of_padding : (t : Stage) (n : ℕ) → 0 < n → n ≤ C / 4 → P (masked_padding t (padding_word elsewhere n))
  of_padding Moved n full le = of.zero_word
  of_padding Padded n full le = of.padding n full le
  of_padding (Stored s) n full le = of.padding n full le

  of_record : (c : StagedClaim) (t : Stage) → IsMessage C c.message
      → P (masked_record t (header_of (claim_of (record { from = c.from; place = c.place; message = c.message; stage = t }))))
  of_record c Moved m = of.zero_word
  of_record c Padded m = of.zero_word
  of_record c (Stored s) m = of.claim c.message s m

  of_zero : (t : Stage) → P (masked_record t 0)
  of_zero Moved = of.zero_word
  of_zero Padded = of.zero_word
  of_zero (Stored s) = of.zero_word

  -- the padding before a claim is below its span
  short_padding : (c : StagedClaim) → 128 ≤ C → c.place ≡ next_place C c.from (staged_span c) → IsMessage C c.message
      → c.place - c.from ≤ C / 4
  short_padding c least place m =
      let short = m.short in
      ⊎_elim (λ t. let here = t.0 in omega arith) (λ t. let far = t.0 in omega arith)
      (next_cases C c.from (staged_span c))

  of_word : (c : StagedClaim) (p : ℕ) → 128 ≤ C → c.place ≡ next_place C c.from (staged_span c) → IsMessage C c.message
      → P (staged_word elsewhere c p)
  of_word c p least place m = ⊎_elim
      (λ (pad : p < c.place). dite (ℕ_discrete p c.from)
      (λ e. subst P (sym (staged_word-padding elsewhere c p e pad))
      (of_padding c.stage (c.place - c.from) (omega arith) (short_padding c least place m)))
      (λ ne. subst P (sym (staged_word-padding_behind elsewhere c p ne pad)) of.zero_word))
      (λ (rec : c.place ≤ p). dite (ℕ_discrete p c.place)
      (λ e. subst P (sym (staged_word-header elsewhere c p e)) (of_record c c.stage m))
      (λ ne. subst P (sym (staged_word-record elsewhere c p rec ∙ ap (masked_record c.stage)
      (cond-false _ _ _ (ne_eqb (p - c.place) 0 (λ none. omega arith))))) (of_zero c.stage)))
      (cases_lt p c.place)

  pub of_all : (e : ℕ) (cs : List StagedClaim) (p : ℕ) → 128 ≤ C → ArePlaced C e cs → P (staged_word_at elsewhere cs p)
  of_all e [] p least placed = of.zero_word
  of_all e (c ∷ cs) p least placed = ⊎_elim
      (λ (near : p < claim_end c).
      subst P (sym (ap (λ b. cond b (staged_word elsewhere c p) (staged_word_at elsewhere cs p)) (lt-ltb p (claim_end c) near)))
      (of_word c p least (placed.0.place ∙ ap (λ k. next_place C k (staged_span c)) (sym placed.0.from)) placed.0.message))
      (λ (far : claim_end c ≤ p).
      subst P (sym (ap (λ b. cond b (staged_word elsewhere c p) (staged_word_at elsewhere cs p)) (le-ltb p (claim_end c) far)))
      (of_all (claim_end c) cs p least placed.1))
      (cases_lt p (claim_end c))

-- a header is a word, and what it shows is below a lap
pub record IsNear (C h : ℕ) : Type 0 where
  pub small : h < 18446744073709551616
  pub below : bytes_of h + kind_of h ≤ C
  pub length_is : (h ≡ 0) ⊎ (((0 < h % 2 ^ 32) × (h % 2 ^ 32 < 2 ^ 31)) ⊎ (2 ^ 31 < h % 2 ^ 32))

pub near_all : (C e : ℕ) (cs : List StagedClaim) (p : ℕ) → 128 ≤ C → C ≤ 2 ^ 24 → ArePlaced C e cs
    → IsNear C (staged_word_at elsewhere cs p)
near_all C e cs p least most placed = of_all C (IsNear C) (record {
  zero_word =
      (let bytes = bytes_plain 0 (omega arith) in
      let kind = kind_committed 0 (omega arith) (λ e. omega arith) (λ e. omega arith) in
      record { small = omega arith; below = omega arith; length_is = inl refl });
  padding = λ n full le.
      let h : ℕ = padding_word elsewhere n in
      let t = halves n padding_mark (omega arith) refl in
      let low : h % 2 ^ 32 ≡ n = t.0 in
      let high : h / 2 ^ 32 ≡ 2 ^ 32 - 2 = t.1 in
      let bytes : bytes_of h ≡ rounded n = bytes_plain h (omega arith) ∙ ap rounded low in
      let kind = kind_padding h (omega arith) high in
      record { small = omega arith; below = omega arith; length_is = inr (inl (omega arith, omega arith)) };
  claim = λ m s is.
      let t = shows_claim C m s most is in
      let short = is.short in
      let bytes = t.bytes_is in
      let kind = t.kind_is in
      let kinds = few_kinds s in
      record { small = t.small; below = omega arith; length_is = t.length_is };
}) e cs p least placed
