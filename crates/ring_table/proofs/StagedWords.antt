-- The words of one claim, and what a change of it leaves.
use Rattle.ring_table.specs.Staged.{Bodies}
use Rattle.std.proofs.Common.{◌≡◌, ◌≢◌, ℕ, ◌+◌, ◌-◌, ◌%◌, ◌≤◌, ◌<◌, ℤ, eqb, true, false, Bool, length, sym, refl, ap, ◌∙◌, inl, inr, arith, lt-ltb, le-ltb, eq-eqb, ne_eqb}
use Rattle.std.proofs.Math.{Logic.dite, Decide.ℕ_discrete}
use Rattle.std.proofs.lemmas.Bool.{cases_lt, cond-true, cond-false}
use Rattle.std.proofs.Common.{replicate, List, pos, neg_ℤ}
use Rattle.ring_layout.specs.declared.message.ClaimState.{ClaimState}
use Rattle.ring_layout.specs.declared.message.ClaimState.TheVariants.{Open, Committed, Aborted}
use Rattle.ring_layout.specs.{History.span, Places.next_place, Headers.header, Headers.header_of, Headers.padding_type}
use Rattle.ring_table.specs.Staged.{StagedClaim, Stage, Moved, Padded, Stored, claim_of, stage_state, masked_padding, masked_record, padding_word, part_word, record_word, staged_word, body_word, in_words, elsewhere, IsStored}
use Rattle.ring_table.specs.Changes.{moved_claim, fresh_stage, stored_as, staged, with_header, with_body, with_body_word, with_word}
use Rattle.ring_table.proofs.BodyWords.{length-with_word, body_word-with_word_other, body_word-zeros}

pub staged_word-header : (B : Bodies) → (c : StagedClaim) (p : ℕ) → p ≡ c.place
    → staged_word B c p ≡ masked_record c.stage (header_of (claim_of c))
unfolding staged_word
staged_word-header B c p e =
    let none : p - c.place ≡ 0 = omega arith in
    cond-false _ _ _ (le-ltb p c.place (omega arith))
    ∙ ap (masked_record c.stage) (cond-true _ _ _ (eq-eqb (p - c.place) 0 none))

pub staged_word-padding : (B : Bodies) → (c : StagedClaim) (p : ℕ) → p ≡ c.from → p < c.place
    → staged_word B c p ≡ masked_padding c.stage (padding_word B (c.place - c.from))
unfolding staged_word
staged_word-padding B c p e lt = cond-true _ _ _ (lt-ltb p c.place lt) ∙ cond-true _ _ _ (eq-eqb p c.from e)

pub staged_word-padding_behind : (B : Bodies) → (c : StagedClaim) (p : ℕ) → p ≢ c.from → p < c.place → staged_word B c p ≡ 0
unfolding staged_word
staged_word-padding_behind B c p ne lt = cond-true _ _ _ (lt-ltb p c.place lt) ∙ cond-false _ _ _ (ne_eqb p c.from ne)

pub staged_word-body : (B : Bodies) → (c : StagedClaim) (p at : ℕ) → p ≡ c.place + 8 + at
    → staged_word B c p ≡ masked_record c.stage (part_word B c.message.body at)
unfolding staged_word
staged_word-body B c p at e =
    let offset : ℕ = p - c.place in
    let some : offset ≢ 0 = λ none. omega arith in
    let there : offset - 8 ≡ at = omega arith in
    cond-false _ _ _ (le-ltb p c.place (omega arith))
    ∙ ap (masked_record c.stage) (cond-false _ _ _ (ne_eqb offset 0 some)
    ∙ ap (part_word B c.message.body) there)

pub staged_word-record : (B : Bodies) → (c : StagedClaim) (p : ℕ) → c.place ≤ p
    → staged_word B c p ≡ masked_record c.stage (record_word B (claim_of c) (p - c.place))
unfolding staged_word
staged_word-record B c p le = cond-false _ _ _ (le-ltb p c.place le)

-- the same once the header is stored
pub staged_word-stored : (B : Bodies) → (c : StagedClaim) (p at : ℕ) → IsStored c.stage → p ≡ c.place + 8 + at
    → staged_word B c p ≡ part_word B c.message.body at
staged_word-stored B c p at stored e =
    staged_word-body B c p at e ∙ unmasked c.stage (part_word B c.message.body at) stored
  where
    unmasked : (t : Stage) (word : ℕ) → IsStored t → masked_record t word ≡ word
    unmasked Moved word stored = absurd stored
    unmasked Padded word stored = absurd stored
    unmasked (Stored s) word stored = refl

-- in words the body is there as it is
pub staged_word-in_words : (c : StagedClaim) (p at : ℕ) → IsStored c.stage → p ≡ c.place + 8 + at
    → staged_word in_words c p ≡ body_word c.message.body at
unfolding body_word
staged_word-in_words c p at stored e = staged_word-stored in_words c p at stored e

-- a claim shows nothing while no header is stored
pub staged_word-fresh : (B : Bodies) → (C e : ℕ) (type_id : ℤ) (n p : ℕ) → staged_word B (moved_claim C e type_id n) p ≡ 0
unfolding staged_word
staged_word-fresh B C e type_id n p =
    let place : ℕ = next_place C e (span n) in
    let c : StagedClaim = moved_claim C e type_id n in
    elim (cases_lt p place) as (λ _. staged_word B c p ≡ 0) [
      | inl in_padding ↦ dite (ℕ_discrete p e)
          (λ at_it. staged_word-padding B c p at_it in_padding
          ∙ no_padding (eqb e place) (padding_word B (place - e)) (ne_eqb e place (λ none. omega arith)))
          (λ behind. staged_word-padding_behind B c p behind in_padding)
      | inr in_record ↦ cond-false _ _ _ (le-ltb p place in_record)
          ∙ no_record (eqb e place) (record_word B (claim_of c) (p - place))
    ]
  where
    no_padding : (b : Bool) (word : ℕ) → b ≡ false → masked_padding (fresh_stage b) word ≡ 0
    no_padding true word none = cc
    no_padding false word none = refl

    no_record : (b : Bool) (word : ℕ) → masked_record (fresh_stage b) word ≡ 0
    no_record true word = refl
    no_record false word = refl

-- what two claims at one place show at a position other than the header's and the padding's
same_padding : (B : Bodies) → (c d : StagedClaim) (p : ℕ) → d.from ≡ c.from → d.place ≡ c.place → p < c.place
    → (p ≡ c.from → masked_padding d.stage (padding_word B (c.place - c.from))
    ≡ masked_padding c.stage (padding_word B (c.place - c.from))) → staged_word B d p ≡ staged_word B c p
same_padding B c d p from place lt same = dite (ℕ_discrete p c.from)
    (λ at_it. staged_word-padding B d p (at_it ∙ sym from) (omega arith)
    ∙ (λ i. masked_padding d.stage (padding_word B (place i - from i))) ∙ same at_it
    ∙ sym (staged_word-padding B c p at_it lt))
    (λ else_at. staged_word-padding_behind B d p (λ is. else_at (is ∙ from)) (omega arith)
    ∙ sym (staged_word-padding_behind B c p else_at lt))

-- another stage shows the same in the body, and in the padding if the padding's header is as before
pub staged_word-staged : (B : Bodies) → (c : StagedClaim) (t : Stage) (p : ℕ) → p % 8 ≡ 0 → c.place % 8 ≡ 0 → p ≢ c.place
    → ((word : ℕ) → masked_record t word ≡ masked_record c.stage word)
    → (p ≡ c.from → masked_padding t (padding_word B (c.place - c.from))
    ≡ masked_padding c.stage (padding_word B (c.place - c.from))) → staged_word B (staged t c) p ≡ staged_word B c p
staged_word-staged B c t p p8 place8 ne masks pads =
    elim (cases_lt p c.place) as (λ _. staged_word B (staged t c) p ≡ staged_word B c p) [
      | inl in_padding ↦ same_padding B c (staged t c) p refl refl in_padding pads
      | inr in_record ↦ staged_word-body B (staged t c) p (p - c.place - 8) (omega arith)
          ∙ masks (part_word B c.message.body (p - c.place - 8))
          ∙ sym (staged_word-body B c p (p - c.place - 8) (omega arith))
    ]

part_word-zeros : (B : Bodies) (n at : ℕ) → part_word B (replicate n 0) at ≡ 0
unfolding body_word
part_word-zeros in_words n at = body_word-zeros n at
part_word-zeros elsewhere n at = refl

part_word-with_word_other : (B : Bodies) (body : List ℕ) (at other word : ℕ) → at ≤ length body → at % 8 ≡ 0
    → other % 8 ≡ 0 → other ≢ at → part_word B (with_word at word body) other ≡ part_word B body other
unfolding body_word
part_word-with_word_other in_words body at other word le a8 o8 ne =
    body_word-with_word_other body at other word le a8 o8 ne
part_word-with_word_other elsewhere body at other word le a8 o8 ne = refl

-- a claim whose header is stored at last shows zeros in its body, and elsewhere the same
pub staged_word-opened : (B : Bodies) → (c : StagedClaim) (type_id : ℤ) (n p : ℕ) → p % 8 ≡ 0 → c.place % 8 ≡ 0 → p ≢ c.place
    → c.stage ≡ Padded → staged_word B (with_header type_id n c) p ≡ staged_word B c p
staged_word-opened B c type_id n p p8 place8 ne is =
    elim (cases_lt p c.place) as (λ _. staged_word B (with_header type_id n c) p ≡ staged_word B c p) [
      | inl in_padding ↦ same_padding B c (with_header type_id n c) p refl refl in_padding
          (λ _. ap (λ t. masked_padding t (padding_word B (c.place - c.from))) (sym is))
      | inr in_record ↦
          let at : ℕ = p - c.place - 8 in
          staged_word-body B (with_header type_id n c) p at (omega arith) ∙ part_word-zeros B n at
          ∙ sym (staged_word-body B c p at (omega arith) ∙ ap (λ t. masked_record t (part_word B c.message.body at)) is)
    ]

-- the header depends on the body's length alone
header_by : ClaimState → ℤ → ℕ → ℕ
header_by Open type_id n = header (neg_ℤ (pos (8 + n))) type_id
header_by Committed type_id n = header (pos (8 + n)) type_id
header_by Aborted type_id n = header (pos (8 + n)) padding_type

header_of_length : (s : ClaimState) (type_id : ℤ) (body : List ℕ)
    → header_of (record { message = record { type_id = type_id; body = body }; state = s })
    ≡ header_by s type_id (length body)
unfolding header_by
header_of_length Open type_id body = refl
header_of_length Committed type_id body = refl
header_of_length Aborted type_id body = refl

pub header_of-written : (c : StagedClaim) (at word : ℕ) → at ≤ length c.message.body
    → header_of (claim_of (with_body_word at word c)) ≡ header_of (claim_of c)
header_of-written c at word le =
    header_of_length (stage_state c.stage) c.message.type_id (with_word at word c.message.body)
    ∙ ap (header_by (stage_state c.stage) c.message.type_id) (length-with_word at word c.message.body le)
    ∙ sym (header_of_length (stage_state c.stage) c.message.type_id c.message.body)

pub header_of-with_body : (c : StagedClaim) (body : List ℕ) → length body ≡ length c.message.body
    → header_of (claim_of (with_body body c)) ≡ header_of (claim_of c)
header_of-with_body c body same =
    header_of_length (stage_state c.stage) c.message.type_id body
    ∙ ap (header_by (stage_state c.stage) c.message.type_id) same
    ∙ sym (header_of_length (stage_state c.stage) c.message.type_id c.message.body)

-- where bodies lie elsewhere, another body leaves all words but the header
pub staged_word-with_body : (c : StagedClaim) (body : List ℕ) (p : ℕ) → p % 8 ≡ 0 → c.place % 8 ≡ 0 → p ≢ c.place
    → staged_word elsewhere (with_body body c) p ≡ staged_word elsewhere c p
staged_word-with_body c body p p8 place8 ne =
    let d : StagedClaim = with_body body c in
    elim (cases_lt p c.place) as (λ _. staged_word elsewhere d p ≡ staged_word elsewhere c p) [
      | inl in_padding ↦ same_padding elsewhere c d p refl refl in_padding (λ _. refl)
      | inr in_record ↦
          let at : ℕ = p - c.place - 8 in
          staged_word-body elsewhere d p at (omega arith) ∙ sym (staged_word-body elsewhere c p at (omega arith))
    ]

-- nor does one that is stored at once
pub staged_word-stored_as : (s : ClaimState) (c : StagedClaim) (type_id : ℤ) (body : List ℕ) (p : ℕ) → p % 8 ≡ 0
    → c.place % 8 ≡ 0 → p ≢ c.place → c.stage ≡ Padded
    → staged_word elsewhere (stored_as s type_id body c) p ≡ staged_word elsewhere c p
staged_word-stored_as s c type_id body p p8 place8 ne is =
    let d : StagedClaim = with_header type_id (length body) c in
    staged_word-staged elsewhere (with_body body d) (Stored s) p p8 place8 ne (λ word. refl) (λ _. refl)
    ∙ staged_word-with_body d body p p8 place8 ne
    ∙ staged_word-opened elsewhere c type_id (length body) p p8 place8 ne is

-- a word of the body that is stored leaves the other words
pub staged_word-written : (B : Bodies) → (c : StagedClaim) (at word p : ℕ) → at ≤ length c.message.body → c.place % 8 ≡ 0 → at % 8 ≡ 0
    → p % 8 ≡ 0 → p ≢ c.place + 8 + at → staged_word B (with_body_word at word c) p ≡ staged_word B c p
staged_word-written B c at word p le place8 a8 p8 ne =
    let d : StagedClaim = with_body_word at word c in
    elim (cases_lt p c.place) as (λ _. staged_word B d p ≡ staged_word B c p) [
      | inl in_padding ↦ same_padding B c d p refl refl in_padding (λ _. refl)
      | inr in_record ↦ dite (ℕ_discrete p c.place)
          (λ same. staged_word-header B d p same ∙ ap (masked_record c.stage) (header_of-written c at word le)
          ∙ sym (staged_word-header B c p same))
          (λ other.
          let o : ℕ = p - c.place - 8 in
          let there : p ≡ c.place + 8 + o = omega arith in
          staged_word-body B d p o there
          ∙ ap (masked_record c.stage) (part_word-with_word_other B c.message.body at o word le a8 (omega arith)
          (λ same. ne (omega arith)))
          ∙ sym (staged_word-body B c p o there))
    ]
