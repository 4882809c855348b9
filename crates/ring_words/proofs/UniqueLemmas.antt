-- Histories with one picture show the same messages and have the same open claims.
use Rattle.std.proofs.Common.{◌≡◌, ℕ, ◌+◌, ◌-◌, ◌*◌, ◌/◌, ◌%◌, ◌^◌, ◌<◌, ◌≤◌, List, [], ◌∷◌, ◌++◌, length, drop, refl, ap, sym, ◌∙◌, subst, arith, ◌⊎◌, inl, inr, All, ℤ, pos, neg_ℤ, nat_abs, ◌≤ℤ◌, zero, suc, w32, w64, ne_eqb}
use Rattle.ring_words.specs.Ring.{Ring, IsRing, Has, head_of}
use Rattle.ring_words.specs.Open.{ClaimAt, IsOpen, IsOpenClaim, IsOpenIn}
use Rattle.ring_words.proofs.OpenLemmas.{open_past_padding, open_before_padding}
use Rattle.ring_layout.specs.Places.{IsCapacity, next_place, end_after, end_of}
use Rattle.ring_layout.{proofs.CapacityLemmas.capacity_blocks, specs.Picture.word_at, specs.Picture.claim_word}
use Rattle.std.{proofs.lemmas.Nat.mod_below, specs.Int.cast_signed, specs.Int.from_le_bytes}
use Rattle.std.proofs.lemmas.{Int.ints, Bool.cases_lt, Bool.cond-false, List.Elements.All-head, List.Elements.All-tail}
use Rattle.ring_layout.specs.declared.message.{Claim.Claim, Message.Message, ClaimState.ClaimState}
use Rattle.ring_layout.specs.declared.message.ClaimState.TheVariants.{Open, Committed, Aborted}
use Rattle.ring_layout.specs.History.{IsMessage, shown, committed_of, span_of}
use Rattle.ring_layout.specs.Headers.{header, header_of, padding_type}
use Rattle.ring_layout.proofs.PlaceLemmas.{next_le, next_cases, next_fixed, next_aligned, span_bounds, end_of_le}
use Rattle.ring_layout.proofs.PictureLemmas.{word_at_padding_header, word_at_record, word_at_rest, word_at_past}
use Rattle.ring_layout.proofs.HeaderLemmas.{len_of-header, type_of-header, fits_pos, fits_neg}
use Rattle.ring_words.proofs.HeadLemmas.{header_open, header_committed, header_aborted, state_cases}
use Rattle.ring_words.proofs.SameLemmas.{same_body, message_same}

len_word : ℕ → ℤ
len_word w = cast_signed w32 (w % 2 ^ 32)

type_word : ℕ → ℤ
type_word w = cast_signed w32 (w / 2 ^ 32)

neg_ne : (k m : ℕ) → neg_ℤ (pos k) ≡ pos m → 0 < m → ⊥
neg_ne zero m e lt = omega (arith, ints, e)
neg_ne (suc k) m e lt = omega (arith, ints, e)

abs_neg : (k : ℕ) → nat_abs (neg_ℤ (pos k)) ≡ k
abs_neg zero = refl
abs_neg (suc k) = refl

-- what a header word says of its claim
Told : Claim → ℕ → Type 0
Told c w =
    ((c.state ≡ Open) × (len_word w ≡ neg_ℤ (pos (8 + length c.message.body))) × (type_word w ≡ c.message.type_id))
    ⊎ (((c.state ≡ Committed) × (len_word w ≡ pos (8 + length c.message.body)) × (type_word w ≡ c.message.type_id))
    ⊎ ((c.state ≡ Aborted) × (len_word w ≡ pos (8 + length c.message.body)) × (type_word w ≡ padding_type)))

abbrev Lawful : ℕ → List Claim → Type 0
Lawful C h = All (λ (x : Claim). IsMessage C x.message) h

-- they show the same messages and have the same open claims
pub record Alike (C e : ℕ) (h g : List Claim) : Type 0 where
  pub messages : committed_of h ≡ committed_of g
  pub claims : (t : ClaimAt) → (IsOpenIn C e h t → IsOpenIn C e g t) × (IsOpenIn C e g t → IsOpenIn C e h t)

turned : (C e : ℕ) (h g : List Claim) → Alike C e h g → Alike C e g h
turned C e h g a = record { messages = sym a.messages; claims = λ t. ((a.claims t).1, (a.claims t).0) }

module _ (C : ℕ) (cap : IsCapacity C) where
  c8 : C % 8 ≡ 0
  c8 = omega (arith, capacity_blocks C cap)

  nonzero : 0 < C
  nonzero = omega (arith, cap.least)

  short : (c : Claim) → IsMessage C c.message → span_of c ≤ C
  short c m = omega (arith, m.short, span_bounds (length c.message.body), cap.least)

  told : (c : Claim) (w : ℕ) → IsMessage C c.message → w ≡ header_of c → Told c w
  unfolding Told len_word type_word
  told c w m e =
      let small : 8 + length c.message.body < 2 ^ 31 = omega (arith, m.short, cap.most) in
      elim (state_cases c.state) as (λ _. Told c w) [
        | inl s ↦ inl (
          s,
          ap (λ n. cast_signed w32 (n % 2 ^ 32)) (e ∙ header_open c s)
              ∙ len_of-header (neg_ℤ (pos (8 + length c.message.body))) c.message.type_id
              (fits_neg (8 + length c.message.body) small),
          ap (λ n. cast_signed w32 (n / 2 ^ 32)) (e ∙ header_open c s)
              ∙ type_of-header (neg_ℤ (pos (8 + length c.message.body))) c.message.type_id
              (fits_neg (8 + length c.message.body) small) m.type_fits,
        )
        | inr o ↦ elim o as (λ _. Told c w) [
          | inl s ↦ inr (inl (
            s,
            ap (λ n. cast_signed w32 (n % 2 ^ 32)) (e ∙ header_committed c s)
                ∙ len_of-header (pos (8 + length c.message.body)) c.message.type_id
                (fits_pos (8 + length c.message.body) small),
            ap (λ n. cast_signed w32 (n / 2 ^ 32)) (e ∙ header_committed c s)
                ∙ type_of-header (pos (8 + length c.message.body)) c.message.type_id
                (fits_pos (8 + length c.message.body) small) m.type_fits,
          ))
          | inr s ↦ inr (inr (
            s,
            ap (λ n. cast_signed w32 (n % 2 ^ 32)) (e ∙ header_aborted c s)
                ∙ len_of-header (pos (8 + length c.message.body)) padding_type
                (fits_pos (8 + length c.message.body) small),
            ap (λ n. cast_signed w32 (n / 2 ^ 32)) (e ∙ header_aborted c s)
                ∙ type_of-header (pos (8 + length c.message.body)) padding_type
                (fits_pos (8 + length c.message.body) small) record { sfits = omega arith },
          ))
        ]
      ]

  shown_at : (c : Claim) (s : ClaimState) → c.state ≡ s → shown c ≡ shown (record { message = c.message; state = s })
  shown_at c s e = rw e refl

  no_padding_type : (m : Message) → IsMessage C m → m.type_id ≡ padding_type → ⊥
  no_padding_type m l e =
      let low = l.type_id in let bad : pos 1 ≤ℤ padding_type = rw e at low in omega (arith, ints, bad)

  -- two claims with one header have one length, and show the same if their bodies' words are the same
  same_len : (c d : Claim) (w : ℕ) → IsMessage C c.message → IsMessage C d.message → Told c w → Told d w
      → length c.message.body ≡ length d.message.body
  unfolding Told
  same_len c d w m l p q =
      let absc : ℕ = 8 + length c.message.body in
      let absd : ℕ = 8 + length d.message.body in
      let lc : nat_abs (len_word w) ≡ absc = elim p as (λ _. nat_abs (len_word w) ≡ absc) [
        | inl h ↦ ap nat_abs h.1 ∙ abs_neg absc
        | inr h ↦
            elim h as (λ _. nat_abs (len_word w) ≡ absc) [ inl k ↦ ap nat_abs k.1 | inr k ↦ ap nat_abs k.1 ]
      ] in
      let ld : nat_abs (len_word w) ≡ absd = elim q as (λ _. nat_abs (len_word w) ≡ absd) [
        | inl h ↦ ap nat_abs h.1 ∙ abs_neg absd
        | inr h ↦
            elim h as (λ _. nat_abs (len_word w) ≡ absd) [ inl k ↦ ap nat_abs k.1 | inr k ↦ ap nat_abs k.1 ]
      ] in
      omega (arith, lc, ld)

  same_shown : (c d : Claim) (w : ℕ) → IsMessage C c.message → IsMessage C d.message → Told c w → Told d w
      → c.message.body ≡ d.message.body → shown c ≡ shown d
  unfolding Told
  same_shown c d w m l p q body =
      elim p as (λ _. shown c ≡ shown d) [
        | inl h ↦ elim q as (λ _. shown c ≡ shown d) [
          | inl k ↦ shown_at c Open h.0 ∙ sym (shown_at d Open k.0)
          | inr k ↦ elim k as (λ _. shown c ≡ shown d) [
            | inl j ↦ absurd (neg_ne _ _ (sym h.1 ∙ j.1) (omega arith))
            | inr j ↦ absurd (neg_ne _ _ (sym h.1 ∙ j.1) (omega arith))
          ]
        ]
        | inr h ↦ elim h as (λ _. shown c ≡ shown d) [
          | inl i ↦ elim q as (λ _. shown c ≡ shown d) [
            | inl k ↦ absurd (neg_ne _ _ (sym k.1 ∙ i.1) (omega arith))
            | inr k ↦ elim k as (λ _. shown c ≡ shown d) [
              | inl j ↦ shown_at c Committed i.0 ∙ ap (λ x. x ∷ [])
                  (message_same c.message d.message (sym i.2 ∙ j.2) body) ∙ sym (shown_at d Committed j.0)
              | inr j ↦ absurd (no_padding_type c.message m (sym i.2 ∙ j.2))
            ]
          ]
          | inr i ↦ elim q as (λ _. shown c ≡ shown d) [
            | inl k ↦ absurd (neg_ne _ _ (sym k.1 ∙ i.1) (omega arith))
            | inr k ↦ elim k as (λ _. shown c ≡ shown d) [
              | inl j ↦ absurd (no_padding_type d.message l (sym j.2 ∙ i.2))
              | inr j ↦ shown_at c Aborted i.0 ∙ sym (shown_at d Aborted j.0)
            ]
          ]
        ]
      ]

  -- an open one of them is the other too
  same_open : (e : ℕ) (c d : Claim) (t : ClaimAt) (w : ℕ) → next_place C e (span_of c) ≡ next_place C e (span_of d)
      → length c.message.body ≡ length d.message.body → Told c w → Told d w → IsOpenClaim C e c t → IsOpenClaim C e d t
  unfolding Told
  same_open e c d t w place len p q here =
      elim p as (λ _. IsOpenClaim C e d t) [
        | inl k ↦ elim q as (λ _. IsOpenClaim C e d t) [
          | inl j ↦ record {
            at_place = sym place ∙ here.at_place;
            is_open = j.0;
            type_id = sym j.2 ∙ k.2
                ∙ here.type_id;
            len = sym len ∙ here.len;
          }
          | inr j ↦ elim j as (λ _. IsOpenClaim C e d t) [
            | inl i ↦ absurd (neg_ne _ _ (sym k.1 ∙ i.1) (omega arith))
            | inr i ↦ absurd (neg_ne _ _ (sym k.1 ∙ i.1) (omega arith))
          ]
        ]
        | inr k ↦ elim k as (λ _. IsOpenClaim C e d t) [
          | inl i ↦ let bad : Open ≡ Committed = sym here.is_open ∙ i.0 in absurd cc
          | inr i ↦ let bad : Open ≡ Aborted = sym here.is_open ∙ i.0 in absurd cc
        ]
      ]

  -- the words of the two histories from e on are the same
  abbrev Same : ℕ → List Claim → List Claim → Type 0
  Same e h g = (end_of C e h ≡ end_of C e g) × ((p : ℕ) → p % 8 ≡ 0 → e ≤ p → word_at C e h p ≡ word_at C e g p)

  head_here : (e q : ℕ) (c : Claim) (h : List Claim) → next_place C e (span_of c) ≡ q
      → word_at C e (c ∷ h) q ≡ header_of c
  head_here e q c h at =
      word_at_record C e q c h (omega (arith, at)) (omega (arith, at, span_bounds (length c.message.body)))
      ∙ ap (claim_word c) (let z : q - next_place C e (span_of c) ≡ 0 = omega (arith, at) in z)

  body_here : (e q : ℕ) (c : Claim) (h : List Claim) → next_place C e (span_of c) ≡ q → (j : ℕ)
      → 8 * j < length c.message.body
      → word_at C e (c ∷ h) (q + 8 * (j + 1)) ≡ from_le_bytes w64 (drop (8 * j) c.message.body)
  body_here e q c h at j lt =
      let bounds = span_bounds (length c.message.body) in
      let offset : q + 8 * (j + 1) - next_place C e (span_of c) ≡ 8 * (j + 1) = omega (arith, at) in
      let back : 8 * (j + 1) - 8 ≡ 8 * j = omega arith in
      word_at_record C e (q + 8 * (j + 1)) c h (omega (arith, at)) (omega (arith, at, bounds))
      ∙ ap (claim_word c) offset
      ∙ cond-false _ _ _ (ne_eqb (8 * (j + 1)) 0 (λ z. omega arith))
      ∙ ap (λ n. from_le_bytes w64 (drop n c.message.body)) back

  -- two claims that come next after e are valid, and are at p and q
  record ComeNext (e p q : ℕ) (c d : Claim) : Type 0 where
    pub first : IsMessage C c.message
    pub second : IsMessage C d.message
    pub first_at : next_place C e (span_of c) ≡ p
    pub second_at : next_place C e (span_of d) ≡ q

  -- both histories go on with a claim at q
  both : (e q : ℕ) (c d : Claim) (h g : List Claim) → q % 8 ≡ 0 → e ≤ q → ComeNext e q q c d → Same e (c ∷ h) (d ∷ g)
      → ((r : ℕ) → r % 8 ≡ 0 → Same r h g → Alike C r h g) → Alike C e (c ∷ h) (d ∷ g)
  both e q c d h g q8 le next same rest =
      let m = next.first in
      let l = next.second in
      let at = next.first_at in
      let at' = next.second_at in
      let w : ℕ = word_at C e (c ∷ h) q in
      let p = told c w m (head_here e q c h at) in
      let p' = told d w l (same.1 q q8 le ∙ head_here e q d g at') in
      let len = same_len c d w m l p p' in
      let body = same_body c.message.body d.message.body m.bytes l.bytes len
      (λ j lt. sym (body_here e q c h at j lt) ∙ same.1 (q + 8 * (j + 1)) (omega arith) (omega arith)
      ∙ body_here e q d g at' j (omega (arith, len))) in
      let bounds = span_bounds (length c.message.body) in
      let end : end_after C e (span_of c) ≡ q + span_of c = omega (arith, at) in
      let end' : end_after C e (span_of d) ≡ q + span_of c = omega (arith, at', len) in
      let left : Same (q + span_of c) h g = (
        ap (λ k. end_of C k h) (sym end) ∙ same.0 ∙ ap (λ k. end_of C k g) end',
        λ r r8 far.
            ap (λ k. word_at C k h r) (sym end) ∙ sym (word_at_rest C e r c h (omega (arith, end)))
            ∙ same.1 r r8 (omega arith)
            ∙ word_at_rest C e r d g (omega (arith, end')) ∙ ap (λ k. word_at C k g r) end',
      ) in
      let more = rest (q + span_of c) (omega (arith, bounds)) left in
      let place : next_place C e (span_of c) ≡ next_place C e (span_of d) = at ∙ sym at' in
      record {
        messages = λ i. same_shown c d w m l p p' body i ++ more.messages i;
        claims = λ t. (
          λ o. elim o as (λ _. IsOpenIn C e (d ∷ g) t) [
            | inl here ↦ inl (same_open e c d t w place len p p' here)
            | inr there ↦
                inr (subst (λ (k : ℕ). IsOpenIn C k g t) (sym end')
                ((more.claims t).0 (subst (λ (k : ℕ). IsOpenIn C k h t) end there)))
          ],
          λ o. elim o as (λ _. IsOpenIn C e (c ∷ h) t) [
            | inl here ↦ inl (same_open e d c t w (sym place) (sym len) p' p here)
            | inr there ↦
                inr (subst (λ (k : ℕ). IsOpenIn C k h t) (sym end)
                ((more.claims t).1 (subst (λ (k : ℕ). IsOpenIn C k g t) end' there)))
          ],
        );
      }

  -- the words after padding, as seen from the padding's end
  skip : (e q : ℕ) (c : Claim) (h : List Claim) → IsMessage C c.message → next_place C e (span_of c) ≡ q
      → (end_of C q (c ∷ h) ≡ end_of C e (c ∷ h)) × ((p : ℕ) → q ≤ p → word_at C q (c ∷ h) p ≡ word_at C e (c ∷ h) p)
  skip e q c h m at =
      let place : next_place C q (span_of c) ≡ q =
      ap (λ k. next_place C k (span_of c)) (sym at) ∙ next_fixed C e (span_of c) nonzero (short c m) ∙ at in
      let end : end_after C q (span_of c) ≡ end_after C e (span_of c) = omega (arith, place, at) in (
        ap (λ k. end_of C k h) end,
        λ p le. elim (cases_lt p (end_after C e (span_of c))) as (λ _. word_at C q (c ∷ h) p ≡ word_at C e (c ∷ h) p) [
          | inl lt ↦
              word_at_record C q p c h (omega (arith, place)) (omega (arith, end))
              ∙ ap (λ k. claim_word c (p - k)) (place ∙ sym at)
              ∙ sym (word_at_record C e p c h (omega (arith, at)) lt)
          | inr far ↦ word_at_rest C q p c h (omega (arith, end)) ∙ ap (λ k. word_at C k h p) end
              ∙ sym (word_at_rest C e p c h far)
        ],
      )

  -- if one history has padding up to q, the other has an aborted claim of the same length
  padded : (e q : ℕ) (c d : Claim) (h g : List Claim) → e % 8 ≡ 0 → e < q → ComeNext e q e c d
      → Same e (c ∷ h) (d ∷ g) → ((r : ℕ) → r % 8 ≡ 0 → Same r (c ∷ h) g → Alike C r (c ∷ h) g) → Alike C e (c ∷ h)
      (d ∷ g)
  unfolding Told len_word type_word
  padded e q c d h g e8 lt next same rest =
      let m = next.first in
      let l = next.second in
      let at = next.first_at in
      let at' = next.second_at in
      let q8 : q % 8 ≡ 0 = let a = next_aligned C e (span_of c) nonzero c8 e8 in omega (arith, a, at) in
      let pad : ℕ = q - e in
      let low = mod_below e C nonzero in
      let small : pad < 2 ^ 31 = elim (next_cases C e (span_of c)) as (λ _. pad < 2 ^ 31)
      [ inl k ↦ omega (arith, cap.most) | inr k ↦ omega (arith, cap.most) ] in
      let w : ℕ = word_at C e (d ∷ g) e in
      let here : w ≡ header (pos pad) padding_type =
      sym (same.1 e e8 (omega arith)) ∙ word_at_padding_header C e c h (omega (arith, at))
      ∙ ap (λ k. header (pos (k - e)) padding_type) at in
      let len : cast_signed w32 (w % 2 ^ 32) ≡ pos pad =
      ap (λ n. cast_signed w32 (n % 2 ^ 32)) here ∙ len_of-header (pos pad) padding_type (fits_pos pad small) in
      let type_id : cast_signed w32 (w / 2 ^ 32) ≡ padding_type = ap (λ n. cast_signed w32 (n / 2 ^ 32)) here
      ∙ type_of-header (pos pad) padding_type (fits_pos pad small) record { sfits = omega arith } in
      elim (told d w l (head_here e e d g at')) as (λ _. Alike C e (c ∷ h) (d ∷ g)) [
        | inl k ↦ absurd (neg_ne _ _ (sym k.1 ∙ len) (omega arith))
        | inr o ↦ elim o as (λ _. Alike C e (c ∷ h) (d ∷ g)) [
          | inl k ↦ absurd (no_padding_type d.message l (sym k.2 ∙ type_id))
          | inr k ↦
              let size : 8 + length d.message.body ≡ pad = ap nat_abs (sym k.1 ∙ len) in
              let end : end_after C e (span_of d) ≡ q = omega (arith, at', size, q8, e8) in
              let skipped = skip e q c h m at in
              let left : Same q (c ∷ h) g = (
                skipped.0 ∙ same.0 ∙ ap (λ r. end_of C r g) end,
                λ p p8 le. skipped.1 p le ∙ same.1 p p8 (omega arith) ∙ word_at_rest C e p d g (omega (arith, end))
                    ∙ ap (λ r. word_at C r g p) end,
              ) in
              let more = rest q q8 left in
              record {
                messages = more.messages ∙ sym (ap (λ x. x ++ committed_of g) (shown_at d Aborted k.0));
                claims = λ t. (
                  λ o. inr (subst (λ (r : ℕ). IsOpenIn C r g t) (sym end)
                      ((more.claims t).0 (subst (λ (r : ℕ). IsOpenIn C r (c ∷ h) t) at
                      (open_past_padding C e c h t nonzero (short c m) o)))),
                  λ o. elim o as (λ _. IsOpenIn C e (c ∷ h) t) [
                    | inl here ↦ let bad : Open ≡ Aborted = sym here.is_open ∙ k.0 in absurd cc
                    | inr there ↦
                        open_before_padding C e c h t nonzero (short c m)
                        (subst (λ (r : ℕ). IsOpenIn C r (c ∷ h) t) (sym at)
                        ((more.claims t).1 (subst (λ (r : ℕ). IsOpenIn C r g t) end there)))
                  ],
                );
              }
        ]
      ]

  -- if there is a claim, the history ends after its start
  ends_behind : (e : ℕ) (c : Claim) (h : List Claim) → e < end_of C e (c ∷ h)
  ends_behind e c h =
      let behind = end_of_le C (end_after C e (span_of c)) h in
      omega (arith, next_le C e (span_of c), span_bounds (length c.message.body), behind)

  flip : (e : ℕ) (h g : List Claim) → Same e h g → Same e g h
  flip e h g s = (sym s.0, λ p p8 le. sym (s.1 p p8 le))

  pub unique : (n e : ℕ) (h g : List Claim) → length h + length g ≤ n → e % 8 ≡ 0 → Lawful C h → Lawful C g → Same e h g
      → Alike C e h g
  unique n e [] [] le e8 lh lg same = record { messages = refl; claims = λ t. ((λ o. o), (λ o. o)) }
  unique n e [] (d ∷ g) le e8 lh lg same = absurd (omega (arith, same.0, ends_behind e d g))
  unique n e (c ∷ h) [] le e8 lh lg same = absurd (omega (arith, same.0, ends_behind e c h))
  unique zero e (c ∷ h) (d ∷ g) le e8 lh lg same = absurd (omega arith)
  unique (suc n) e (c ∷ h) (d ∷ g) le e8 lh lg same =
      let P : Claim → Type 0 = λ x. IsMessage C x.message in
      let m = All-head P c h lh in
      let l = All-head P d g lg in
      let ce = next_le C e (span_of c) in
      let de = next_le C e (span_of d) in
      elim (cases_lt e (next_place C e (span_of c))) as (λ _. Alike C e (c ∷ h) (d ∷ g)) [
        | inl pc ↦ elim (cases_lt e (next_place C e (span_of d))) as (λ _. Alike C e (c ∷ h) (d ∷ g)) [
          | inl pd ↦
              let one : next_place C e (span_of d) ≡ next_place C e (span_of c) =
              omega (arith, next_cases C e (span_of c), next_cases C e (span_of d)) in
              both e (next_place C e (span_of c)) c d h g
              (next_aligned C e (span_of c) nonzero c8 e8) ce
              (record { first = m; second = l; first_at = refl; second_at = one }) same
              (λ r r8 s. unique n r h g (omega arith) r8 (All-tail P c h lh) (All-tail P d g lg) s)
          | inr pd ↦
              padded e (next_place C e (span_of c)) c d h g e8 pc
              (record { first = m; second = l; first_at = refl; second_at = omega arith }) same
              (λ r r8 s. unique n r (c ∷ h) g (omega arith) r8 lh (All-tail P d g lg) s)
        ]
        | inr pc ↦ elim (cases_lt e (next_place C e (span_of d))) as (λ _. Alike C e (c ∷ h) (d ∷ g)) [
          | inl pd ↦
              turned C e (d ∷ g) (c ∷ h) (padded e (next_place C e (span_of d)) d c g h e8 pd
              (record { first = l; second = m; first_at = refl; second_at = omega arith })
              (flip e (c ∷ h) (d ∷ g) same)
              (λ r r8 s. turned C r h (d ∷ g) (unique n r h (d ∷ g) (omega arith) r8 (All-tail P c h lh) lg
              (flip r (d ∷ g) h s))))
          | inr pd ↦
              both e e c d h g e8 (omega arith)
              (record { first = m; second = l; first_at = omega arith; second_at = omega arith }) same
              (λ r r8 s. unique n r h g (omega arith) r8 (All-tail P c h lh) (All-tail P d g lg) s)
        ]
      ]

-- all histories of a ring do
pub alike : (r : Ring) (h g : List Claim) → IsRing r → Has r h → Has r g → Alike r.capacity (head_of r) h g
alike r h g ok a b =
    unique r.capacity ok.capacity (length h + length g) (head_of r) h g (omega arith) ok.aligned a.lawful b.lawful (
      a.ends ∙ sym b.ends,
      λ p p8 le. elim (cases_lt p (head_of r + r.capacity)) as (λ _. word_at r.capacity (head_of r) h p
          ≡ word_at r.capacity (head_of r) g p) [
            | inl near ↦ sym (a.picture p p8 le near) ∙ b.picture p p8 le near
            | inr far ↦
                word_at_past r.capacity (head_of r) p h (omega (arith, a.ends, ok.room))
                ∙ sym (word_at_past r.capacity (head_of r) p g (omega (arith, b.ends, ok.room)))
          ],
    )

-- a claim that is open in one history is open in each
pub open_in_each : (r : Ring) (t : ClaimAt) (h : List Claim) → IsRing r → IsOpen r t → Has r h
    → IsOpenIn r.capacity (head_of r) h t
open_in_each r t h ok o has = ((alike r o.history h ok o.has has).claims t).0 o.is_open
