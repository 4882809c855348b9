-- The words that claims make.
use Rattle.std.proofs.Common.{◌≡◌, ℕ, ◌-◌, ◌<◌, ◌≤◌, List, [], ◌∷◌, ◌++◌, refl, ap, sym, ◌∙◌, arith, inl, inr, pos}
use Rattle.std.proofs.lemmas.Bool.{cases_lt, cases_eq, lt-ltb, le-ltb, eq-eqb, ne_eqb, cond-true, cond-false}
use Rattle.ring_layout.specs.History.{Claim, span_of}
use Rattle.ring_layout.specs.{Places.next_place, Places.end_after, Places.end_of, Headers.header, Headers.padding_type}
use Rattle.ring_layout.specs.Picture.{word_at, claim_word, ShowsClaim, ShowsNothingElse}
use Rattle.ring_layout.proofs.PlaceLemmas.{next_le, end_of_le}

-- the four parts of a claim that comes after e: before e and in the padding after its header, the padding's header, the
-- record, and what follows
pub word_at_padding : (c e p : ℕ) (x : Claim) (h : List Claim) → p < next_place c e (span_of x) → (p ≡ e → ⊥)
    → word_at c e (x ∷ h) p ≡ 0
unfolding word_at
word_at_padding c e p x h lt ne =
    cond-true _ _ _ (lt-ltb p (next_place c e (span_of x)) lt) ∙ cond-false _ _ _ (ne_eqb p e ne)

pub word_at_padding_header : (c e : ℕ) (x : Claim) (h : List Claim) → e < next_place c e (span_of x)
    → word_at c e (x ∷ h) e ≡ header (pos (next_place c e (span_of x) - e)) padding_type
unfolding word_at
word_at_padding_header c e x h lt =
    cond-true _ _ _ (lt-ltb e (next_place c e (span_of x)) lt) ∙ cond-true _ _ _ (eq-eqb e e refl)

pub word_at_record : (c e p : ℕ) (x : Claim) (h : List Claim) → next_place c e (span_of x) ≤ p
    → p < end_after c e (span_of x) → word_at c e (x ∷ h) p ≡ claim_word x (p - next_place c e (span_of x))
unfolding word_at
word_at_record c e p x h le lt =
    cond-false _ _ _ (le-ltb p (next_place c e (span_of x)) le)
    ∙ cond-true _ _ _ (lt-ltb p (end_after c e (span_of x)) lt)

pub word_at_rest : (c e p : ℕ) (x : Claim) (h : List Claim) → end_after c e (span_of x) ≤ p
    → word_at c e (x ∷ h) p ≡ word_at c (end_after c e (span_of x)) h p
unfolding word_at
word_at_rest c e p x h le =
    let far : next_place c e (span_of x) ≤ p = omega arith in
    cond-false _ _ _ (le-ltb p (next_place c e (span_of x)) far)
    ∙ cond-false _ _ _ (le-ltb p (end_after c e (span_of x)) le)

pub word_at_none : (c e p : ℕ) → word_at c e [] p ≡ 0
unfolding word_at
word_at_none c e p = refl

pub word_at_before : (c e p : ℕ) (h : List Claim) → p < e → word_at c e h p ≡ 0
word_at_before c e p [] lt = word_at_none c e p
word_at_before c e p (x ∷ h) lt =
    let le = next_le c e (span_of x) in
    word_at_padding c e p x h (omega arith) (λ q. omega arith)

-- after the claims there is 0
pub word_at_past : (c e p : ℕ) (h : List Claim) → end_of c e h ≤ p → word_at c e h p ≡ 0
word_at_past c e p [] le = word_at_none c e p
word_at_past c e p (x ∷ h) le =
    let far = end_of_le c (end_after c e (span_of x)) h in
    word_at_rest c e p x h (omega arith) ∙ word_at_past c (end_after c e (span_of x)) p h le

-- the claims after it do not change a word, and those before it do not
pub word_at-append_before : (c e p : ℕ) (h g : List Claim) → p < end_of c e h → word_at c e (h ++ g) p ≡ word_at c e h p
word_at-append_before c e p [] g lt = word_at_before c e p g lt ∙ sym (word_at_none c e p)
word_at-append_before c e p (x ∷ h) g lt =
    let place : ℕ = next_place c e (span_of x) in
    let end : ℕ = end_after c e (span_of x) in
    elim (cases_lt p end) as (λ _. word_at c e (x ∷ (h ++ g)) p ≡ word_at c e (x ∷ h) p) [
      | inl in_claim ↦
          elim (cases_lt p place) as (λ _. word_at c e (x ∷ (h ++ g)) p ≡ word_at c e (x ∷ h) p) [
            | inl in_padding ↦
                elim (cases_eq p e) as (λ _. word_at c e (x ∷ (h ++ g)) p ≡ word_at c e (x ∷ h) p) [
                  | inl is ↦
                      let there : e < place = omega arith in
                      ap (λ k. word_at c e (x ∷ (h ++ g)) k) is ∙ word_at_padding_header c e x (h ++ g) there
                      ∙ sym (word_at_padding_header c e x h there) ∙ sym (ap (λ k. word_at c e (x ∷ h) k) is)
                  | inr is_not ↦ word_at_padding c e p x (h ++ g) in_padding is_not
                      ∙ sym (word_at_padding c e p x h in_padding is_not)
                ]
            | inr in_record ↦ word_at_record c e p x (h ++ g) in_record in_claim
                ∙ sym (word_at_record c e p x h in_record in_claim)
          ]
      | inr behind ↦ word_at_rest c e p x (h ++ g) behind ∙ word_at-append_before c end p h g lt
          ∙ sym (word_at_rest c e p x h behind)
    ]

pub word_at-append_after : (c e p : ℕ) (h g : List Claim) → end_of c e h ≤ p
    → word_at c e (h ++ g) p ≡ word_at c (end_of c e h) g p
word_at-append_after c e p [] g le = refl
word_at-append_after c e p (x ∷ h) g le =
    let end : ℕ = end_after c e (span_of x) in
    let far = end_of_le c end h in
    word_at_rest c e p x (h ++ g) (omega arith) ∙ word_at-append_after c end p h g le

pub shows_claim : (c e : ℕ) (front : List Claim) (x : Claim) (back : List Claim) → ShowsClaim c e front x back
shows_claim c e front x back =
    let from : ℕ = end_of c e front in
    let there : (p : ℕ) → from ≤ p → word_at c e (front ++ x ∷ back) p ≡ word_at c from (x ∷ back) p =
    λ p le. word_at-append_after c e p front (x ∷ back) le in
    let on = next_le c from (span_of x) in
    record {
      padding_header = λ lt. there from (omega arith) ∙ word_at_padding_header c from x back lt;
      padding =
          λ p lt in_padding. there p (omega arith) ∙ word_at_padding c from p x back in_padding (λ is. omega arith);
      record_words = λ p le lt. there p (omega arith) ∙ word_at_record c from p x back le lt;
    }

pub shows_nothing_else : (c e : ℕ) (h : List Claim) → ShowsNothingElse c e h
shows_nothing_else c e h =
    record { before = λ p lt. word_at_before c e p h lt; behind = λ p le. word_at_past c e p h le }
