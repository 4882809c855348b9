-- What the header at the head says.
use Rattle.std.proofs.Common.{◌≡◌, ℕ, ◌+◌, ◌-◌, ◌/◌, ◌%◌, ◌^◌, ◌<◌, List, [], ◌∷◌, length, slice_index, refl, ap, ◌∙◌, arith, ◌⊎◌, inl, inr, ℤ, pos, neg_ℤ, FitsSigned, ◌<ℤ◌, ◌≤ℤ◌, Some, nat_abs, true, false, w32}
use lib.Signed.{lt_z}
use Rattle.std.proofs.lemmas.{Int.ints, Bool.cases_lt, List.Elements.All-head}
use Rattle.std.specs.Int.{cast_signed}
use Rattle.ring_layout.specs.{declared.message.Claim.Claim, declared.message.ClaimState.ClaimState, Places.next_place}
use Rattle.ring_layout.specs.declared.message.ClaimState.TheVariants.{Open, Committed, Aborted}
use Rattle.ring_layout.specs.{History.IsMessage, History.span_of, Picture.word_at, Picture.claim_word}
use Rattle.ring_layout.specs.Headers.{header, header_of, padding_type}
use Rattle.ring_words.specs.Ring.{Ring, Has, IsRing, head_of}
use Rattle.ring_layout.proofs.PlaceLemmas.{next_le, next_cases, span_bounds}
use Rattle.ring_layout.proofs.PictureLemmas.{word_at_none, word_at_padding_header, word_at_record}
use Rattle.ring_layout.proofs.HeaderLemmas.{len_of-header, type_of-header, fits_pos, fits_neg, neg_not_above, pos_not_below}
use Rattle.ring_words.specs.Reading.{Sees, IsBlocked, IsAtHead}

-- the word at the head
abbrev pub head_word : Ring → ℕ
head_word r = slice_index r.words (head_of r % r.capacity / 8)

abbrev pub len_at : Ring → ℤ
len_at r = cast_signed w32 (head_word r % 2 ^ 32)

abbrev pub type_at : Ring → ℤ
type_at r = cast_signed w32 (head_word r / 2 ^ 32)

pub word_at_head : (r : Ring) (h : List Claim) → IsRing r → Has r h
    → head_word r ≡ word_at r.capacity (head_of r) h (head_of r)
word_at_head r h ok has = has.picture (head_of r) ok.aligned (omega arith) (omega (arith, ok.capacity.least))

-- nothing is claimed: the length is 0
pub sees_none : (r : Ring) → IsRing r → Has r [] → len_at r ≡ pos 0
sees_none r ok has =
    ap (λ w. cast_signed w32 (w % 2 ^ 32)) (word_at_head r [] ok has ∙ word_at_none r.capacity (head_of r) (head_of r))

-- padding
pub sees_padding : (r : Ring) (c : Claim) (rest : List Claim) → IsRing r → Has r (c ∷ rest)
    → head_of r < next_place r.capacity (head_of r) (span_of c)
    → (len_at r ≡ pos (next_place r.capacity (head_of r) (span_of c) - head_of r)) × (type_at r ≡ padding_type)
sees_padding r c rest ok has before =
    let C : ℕ = r.capacity in
    let pad : ℕ = next_place C (head_of r) (span_of c) - head_of r in
    let most = ok.capacity.most in
    let small : pad < 2 ^ 31 = elim (next_cases C (head_of r) (span_of c)) as (λ _. pad < 2 ^ 31)
    [ inl h ↦ omega arith | inr h ↦ omega arith ] in
    let word : head_word r ≡ header (pos pad) padding_type =
    word_at_head r (c ∷ rest) ok has ∙ word_at_padding_header C (head_of r) c rest before in (
      ap (λ w. cast_signed w32 (w % 2 ^ 32)) word ∙ len_of-header (pos pad) padding_type (fits_pos pad small),
      ap (λ w. cast_signed w32 (w / 2 ^ 32)) word
          ∙ type_of-header (pos pad) padding_type (fits_pos pad small) record { sfits = omega arith },
    )

-- a claim at the head: its header
pub sees_header : (r : Ring) (c : Claim) (rest : List Claim) → IsRing r → Has r (c ∷ rest)
    → next_place r.capacity (head_of r) (span_of c) ≡ head_of r → head_word r ≡ header_of c
sees_header r c rest ok has at =
    let C : ℕ = r.capacity in
    let bounds = span_bounds (length c.message.body) in
    word_at_head r (c ∷ rest) ok has ∙ word_at_record C (head_of r) (head_of r) c rest (omega (arith, at))
    (omega (arith, at, bounds))
    ∙ ap (λ n. claim_word c n) (let z : head_of r - next_place C (head_of r) (span_of c) ≡ 0 = omega (arith, at) in z)

pub header_open : (c : Claim) → c.state ≡ Open
    → header_of c ≡ header (neg_ℤ (pos (8 + length c.message.body))) c.message.type_id
header_open c e = rw e refl

pub header_committed : (c : Claim) → c.state ≡ Committed
    → header_of c ≡ header (pos (8 + length c.message.body)) c.message.type_id
header_committed c e = rw e refl

pub header_aborted : (c : Claim) → c.state ≡ Aborted
    → header_of c ≡ header (pos (8 + length c.message.body)) padding_type
header_aborted c e = rw e refl

pub state_cases : (s : ClaimState) → (s ≡ Open) ⊎ ((s ≡ Committed) ⊎ (s ≡ Aborted))
state_cases Open = inl refl
state_cases Committed = inr (inl refl)
state_cases Aborted = inr (inr refl)

-- a header word at the head gives its length and its type id
decoded : (r : Ring) (len type_id : ℤ) → FitsSigned w32 len → FitsSigned w32 type_id → head_word r ≡ header len type_id
    → (len_at r ≡ len) × (type_at r ≡ type_id)
decoded r len type_id f g word = (
  ap (λ w. cast_signed w32 (w % 2 ^ 32)) word ∙ len_of-header len type_id f,
  ap (λ w. cast_signed w32 (w / 2 ^ 32)) word ∙ type_of-header len type_id f g,
)

module _ (r : Ring) (c : Claim) (rest : List Claim) (ok : IsRing r) (has : Has r (c ∷ rest)) where
  lawful : IsMessage r.capacity c.message
  lawful = All-head (λ (x : Claim). IsMessage r.capacity x.message) c rest has.lawful

  small : 8 + length c.message.body < 2 ^ 31
  small = omega (arith, lawful.short, ok.capacity.most)

  sees_open : IsAtHead r c → c.state ≡ Open → len_at r ≡ neg_ℤ (pos (8 + length c.message.body))
  sees_open at e =
      (decoded r _ _ (fits_neg (8 + length c.message.body) small) lawful.type_fits
      (sees_header r c rest ok has at ∙ header_open c e)).0

  sees_committed : IsAtHead r c → c.state ≡ Committed
      → (len_at r ≡ pos (8 + length c.message.body)) × (type_at r ≡ c.message.type_id)
  sees_committed at e = decoded r _ _ (fits_pos (8 + length c.message.body) small) lawful.type_fits
      (sees_header r c rest ok has at ∙ header_committed c e)

  sees_aborted : IsAtHead r c → c.state ≡ Aborted
      → (len_at r ≡ pos (8 + length c.message.body)) × (type_at r ≡ padding_type)
  sees_aborted at e = decoded r _ _ (fits_pos (8 + length c.message.body) small) record { sfits = omega arith }
      (sees_header r c rest ok has at ∙ header_aborted c e)

  some_claim : pos 0 <ℤ len_at r → Sees r (c ∷ rest) (Some (record { len = nat_abs (len_at r); type_id = type_at r }))
  some_claim above =
      let place : ℕ = next_place r.capacity (head_of r) (span_of c) in
      let Goal : Type 0 = Sees r (c ∷ rest) (Some (record { len = nat_abs (len_at r); type_id = type_at r })) in
      elim (cases_lt (head_of r) place) as (λ _. Goal) [
        | inl before ↦
            let told = sees_padding r c rest ok has before in (
              c,
              rest,
              refl,
              inl record {
                before = before;
                len = ap (λ z. head_of r + nat_abs z) told.0
                    ∙ omega arith;
                type_id = told.1;
              },
            )
        | inr from ↦
            let at : IsAtHead r c = omega (arith, next_le r.capacity (head_of r) (span_of c)) in
            elim (state_cases c.state) as (λ _. Goal) [
              | inl e ↦ absurd (neg_not_above (8 + length c.message.body)
                  (let told = sees_open at e in rw told at above))
              | inr other ↦ elim other as (λ _. Goal) [
                | inl e ↦ let told =
                    sees_committed at e in (
                      c,
                      rest,
                      refl,
                      inr
                          (inr record { at_head = at; committed = e; len = ap nat_abs told.0; type_id = told.1 }),
                    )
                | inr e ↦ let told =
                    sees_aborted at e in (
                      c,
                      rest,
                      refl,
                      inr
                          (inl record { at_head = at; aborted = e; len = ap nat_abs told.0; type_id = told.1 }),
                    )
              ]
            ]
      ]

  blocked_claim : len_at r ≤ℤ pos 0 → IsBlocked r (c ∷ rest)
  blocked_claim below =
      let place : ℕ = next_place r.capacity (head_of r) (span_of c) in
      elim (cases_lt (head_of r) place) as (λ _. IsBlocked r (c ∷ rest)) [
        | inl before ↦ let told = (sees_padding r c rest ok has before).0 in absurd
            (pos_not_below (place - head_of r) (omega arith) (rw told at below))
        | inr from ↦
            let at : IsAtHead r c = omega (arith, next_le r.capacity (head_of r) (span_of c)) in
            elim (state_cases c.state) as (λ _. IsBlocked r (c ∷ rest)) [
              | inl e ↦ inr (c, rest, refl, e, at)
              | inr other ↦ elim other as (λ _. IsBlocked r (c ∷ rest)) [
                | inl e ↦ let told = (sees_committed at e).0 in absurd
                    (pos_not_below (8 + length c.message.body) (omega arith) (rw told at below))
                | inr e ↦ let told = (sees_aborted at e).0 in absurd
                    (pos_not_below (8 + length c.message.body) (omega arith) (rw told at below))
              ]
            ]
      ]

pub sees_some : (r : Ring) (h : List Claim) → IsRing r → Has r h → pos 0 <ℤ len_at r
    → Sees r h (Some (record { len = nat_abs (len_at r); type_id = type_at r }))
sees_some r [] ok has above =
    let none = sees_none r ok has in let bad = rw none at above in absurd (omega (arith, ints))
sees_some r (c ∷ rest) ok has above = some_claim r c rest ok has above

pub sees_blocked : (r : Ring) (h : List Claim) → IsRing r → Has r h → len_at r ≤ℤ pos 0 → IsBlocked r h
sees_blocked r [] ok has below = inl refl
sees_blocked r (c ∷ rest) ok has below = blocked_claim r c rest ok has below

-- what a signed test says
pub signed_above : (a b : ℤ) → lt_z a b ≡ true → a <ℤ b
signed_above a b h = grind (arith, ints)

pub signed_not_above : (a b : ℤ) → lt_z a b ≡ false → b ≤ℤ a
signed_not_above a b h = grind (arith, ints)
