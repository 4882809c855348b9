-- What a read has passed stays passed.
use Rattle.ring_table.specs.{Staged.in_words, Owners.OwnedHistory, Owners.all_of, Owners.edited_one, Owners.edited}
use Rattle.std.proofs.Common.{◌≡◌, ◌≢◌, ℕ, zero, suc, ◌+◌, ◌%◌, ◌≤◌, ◌<◌, ◌⊎◌, List, [], ◌∷◌, ◌++◌, cond, sym, refl, ap, ◌∙◌, subst, inl, inr, ⊎_elim, length, lt-ltb, le-ltb, arith}
use Rattle.std.proofs.Math.{Option.some, Option.some-injective, Option.some-ne-none, ListN.get_elem?}
use Rattle.ring_layout.specs.declared.message.ClaimState.TheVariants.{Open, Committed, Aborted}
use Rattle.ring_layout.proofs.{PlaceLemmas.next_le, Laps.IsLap}
use Rattle.ring_table.specs.Staged.{StagedClaim, PlacedMessage, Stage, Moved, Padded, Stored, staged_span, claim_end, staged_word, staged_word_at, body_word, ArePlaced, staged_end, IsStored}
use Rattle.ring_table.specs.Passing.{IsSettled, placed_message, shown_at, Reaches}
use Rattle.ring_table.proofs.StagedPlaces.{StandFrom, end_le, lies_in, claim_aligned}
use Rattle.ring_table.proofs.StagedWords.{staged_word-in_words}
use Rattle.ring_table.proofs.HistoryLemmas.{MayReplaceAt, edited_one_cases, claim_end-edited}

pub reach_bounds : (C s e : ℕ) (cs : List StagedClaim) (got : List PlacedMessage) → ArePlaced C e cs
    → Reaches s e cs got → (e ≤ s) × (s ≤ staged_end e cs)
reach_bounds C s e [] got h r = (omega arith, omega arith)
reach_bounds C s e (c ∷ cs) got h r =
    let on = next_le C e (staged_span c) in
    let place = h.0.place in
    let rest = end_le C (claim_end c) cs h.1 in
    ⊎_elim (λ a. let at : s ≡ e = a.0 in (omega arith, omega arith))
    (⊎_elim (λ a. (omega arith, omega arith))
    (λ a. let later = reach_bounds C s (claim_end c) cs a.1.0 h.1 a.1.2 in let below =
    later.1 in (omega arith, omega arith))) r

pub reach_aligned : (C s e : ℕ) (cs : List StagedClaim) (got : List PlacedMessage) → 0 < C → C % 8 ≡ 0 → e % 8 ≡ 0
    → ArePlaced C e cs → Reaches s e cs got → s % 8 ≡ 0
reach_aligned C s e [] got pos c8 e8 h r = ap (λ k. k % 8) r.0 ∙ e8
reach_aligned C s e (c ∷ cs) got pos c8 e8 h r =
    let aligned = claim_aligned C e c pos c8 e8 h.0.place in
    ⊎_elim (λ a. ap (λ k. k % 8) a.0 ∙ e8) (⊎_elim (λ a. ap (λ k. k % 8) a.0 ∙ aligned.0)
    (λ a. reach_aligned C s (claim_end c) cs a.1.0 pos c8 aligned.1 h.1 a.1.2)) r

pub reach_append : (s e : ℕ) (h : OwnedHistory) (x : ℕ × StagedClaim) (got : List PlacedMessage)
    → Reaches s e (all_of h) got → Reaches s e (all_of (h ++ x ∷ [])) got
reach_append s e [] x got r = inl r
reach_append s e (y ∷ ys) x got r = ⊎_elim (λ a. inl a)
    (⊎_elim (λ a. inr (inl a)) (λ a. inr (inr (a.0, (a.1.0, a.1.1, reach_append s (claim_end y.1) ys x a.1.0 a.1.2)))))
    r

-- a claim that is not settled may change, its padding's header not going away
abbrev pub Unsettled : ℕ → (StagedClaim → StagedClaim) → OwnedHistory → Type 0
Unsettled p f h = (i : ℕ) (x : ℕ × StagedClaim) → get_elem? h i ≡ some x → x.1.place ≡ p
    → (IsSettled x.1.stage → ⊥) × (x.1.stage ≢ Moved → (f x.1).stage ≢ Moved)

pub reach_edited : (C id p : ℕ) (f : StagedClaim → StagedClaim) (s e : ℕ) (h : OwnedHistory) (got : List PlacedMessage)
    → MayReplaceAt C p f h → Unsettled p f h → Reaches s e (all_of h) got → Reaches s e (all_of (edited id p f h)) got
reach_edited C id p f s e [] got may un r = r
reach_edited C id p f s e (x ∷ xs) got may un r =
    ⊎_elim (λ a. inl a)
    (⊎_elim (λ a. inr (inl (
      a.0 ∙ sym (edited_one_cases id p f (λ c. c.place ≡ x.1.place) x (λ _ at. (may 0 x refl at).place) refl),
      edited_one_cases id p f (λ c. c.stage ≢ Moved) x (λ _ at. (un 0 x refl at).1 a.1) a.1,
      a.2,
    )))
    (λ a.
    let rest = reach_edited C id p f s (claim_end x.1) xs a.1.0 (λ i. may (suc i)) (λ i. un (suc i)) a.1.2 in
    let moved = subst (λ k. Reaches s k (all_of (edited id p f xs)) a.1.0)
    (sym (claim_end-edited id p f C x (may 0 x refl))) rest in
    inr (inr (edited_one_cases id p f (λ c. IsSettled c.stage
    × ((later : List PlacedMessage) × (got ≡ shown_at c.stage (placed_message c) ++ later)
    × Reaches s (claim_end (edited_one id p f x).1) (all_of (edited id p f xs)) later)) x
    (λ _ at. absurd ((un 0 x refl at).0 a.0))
    (a.0, (a.1.0, a.1.1, moved)))))) r

-- a claim that is not settled is after what was passed
pub not_passed : (C s e : ℕ) (h : OwnedHistory) (got : List PlacedMessage) (i : ℕ) (x : ℕ × StagedClaim)
    → ArePlaced C e (all_of h) → Reaches s e (all_of h) got → get_elem? h i ≡ some x → (IsSettled x.1.stage → ⊥)
    → (s ≤ x.1.place) × (x.1.stage ≡ Moved → s ≤ x.1.from)
not_passed C s e [] got i x h r at un = absurd (some-ne-none x (sym at))
not_passed C s e (y ∷ ys) got zero x h r at un =
    let same = some-injective y x at in
    let on = next_le C e (staged_span y.1) in
    let place = h.0.place in
    let from = h.0.from in
    subst (λ (z : ℕ × StagedClaim). (s ≤ z.1.place) × (z.1.stage ≡ Moved → s ≤ z.1.from)) same
    (⊎_elim (λ a. (omega arith, λ _. omega arith))
    (⊎_elim (λ a. (omega arith, λ moved. absurd (a.1 moved)))
    (λ a. absurd (un (subst (λ (z : ℕ × StagedClaim). IsSettled z.1.stage) same a.0)))) r)
not_passed C s e (y ∷ ys) got (suc i) x h r at un =
    let there = lies_in C (claim_end y.1) ys i x h.1 at in
    let on = next_le C e (staged_span y.1) in
    let place = h.0.place in
    ⊎_elim (λ a. (omega arith, λ _. omega arith))
    (⊎_elim (λ a. (omega arith, λ moved. omega arith))
    (λ a. not_passed C s (claim_end y.1) ys a.1.0 i x h.1 a.1.2 at un)) r

-- ---- messages

pub shown_cases : (t : Stage) (m0 m : PlacedMessage) (got later : List PlacedMessage) (k : ℕ) → got ≡ shown_at t m0 ++ later
    → get_elem? got k ≡ some m → (m0 ≡ m) ⊎ ((k' : ℕ) × (get_elem? later k' ≡ some m))
shown_cases Moved m0 m got later k e at = inr (k, subst (λ l. get_elem? l k ≡ some m) e at)
shown_cases Padded m0 m got later k e at = inr (k, subst (λ l. get_elem? l k ≡ some m) e at)
shown_cases (Stored Open) m0 m got later k e at = inr (k, subst (λ l. get_elem? l k ≡ some m) e at)
shown_cases (Stored Aborted) m0 m got later k e at = inr (k, subst (λ l. get_elem? l k ≡ some m) e at)
shown_cases (Stored Committed) m0 m got later zero e at =
    inl (some-injective m0 m (subst (λ l. get_elem? l 0 ≡ some m) e at))
shown_cases (Stored Committed) m0 m got later (suc k) e at = inr (k, subst (λ l. get_elem? l (suc k) ≡ some m) e at)

pub none_of : {A : Type 0} (got : List PlacedMessage) (k : ℕ) (m : PlacedMessage) → got ≡ [] → get_elem? got k ≡ some m → A
none_of got k m e at = absurd (some-ne-none m (sym (subst (λ l. get_elem? l k ≡ some m) e at)))

-- a settled claim's header is stored
pub stored_of : (t : Stage) → IsSettled t → IsStored t
stored_of Moved settled = absurd settled
stored_of Padded settled = absurd settled
stored_of (Stored s) settled = tt

-- the position and the value of a word of the body of a message that was passed
pub record ShowsBody (s e : ℕ) (cs : List StagedClaim) (m : PlacedMessage) (at : ℕ) : Type 0 where
  pub above : e ≤ m.place
  pub below : m.place + 8 + at < s
  pub aligned : m.place % 8 ≡ 0
  pub word : staged_word_at in_words cs (m.place + 8 + at) ≡ body_word m.message.body at

pub shows_body : (C s e : ℕ) (cs : List StagedClaim) (got : List PlacedMessage) (k : ℕ) (m : PlacedMessage) (at : ℕ)
    → IsLap C → StandFrom C e cs → Reaches s e cs got → get_elem? got k ≡ some m → at < length m.message.body
    → ShowsBody s e cs m at
shows_body C s e [] got k m at lap stand r g lt = none_of got k m r.1 g
shows_body C s e (c ∷ cs) got k m at lap stand r g lt =
    let h = stand.placed in
    let on = next_le C e (staged_span c) in
    let place = h.0.place in
    let aligned = claim_aligned C e c lap.some lap.whole stand.whole h.0.place in
    ⊎_elim (λ a. none_of got k m a.1 g)
    (⊎_elim (λ a. none_of got k m a.2 g)
    (λ a.
    let bounds = reach_bounds C s (claim_end c) cs a.1.0 h.1 a.1.2 in
    let above = bounds.0 in
    ⊎_elim
    (λ (same : placed_message c ≡ m). subst (λ (z : PlacedMessage). at < length z.message.body
    → ShowsBody s e (c ∷ cs) z at) same
    (λ l.
    let q : ℕ = c.place + 8 + at in
    let n : ℕ = length c.message.body in
    record {
      above = omega arith;
      below = omega arith;
      aligned = aligned.0;
      word = ap (λ b. cond b (staged_word in_words c q) (staged_word_at in_words cs q)) (lt-ltb q (claim_end c) (omega arith))
          ∙ staged_word-in_words c q at (stored_of c.stage a.0) refl;
    }) lt)
    (λ (t : (k' : ℕ) × (get_elem? a.1.0 k' ≡ some m)).
    let q : ℕ = m.place + 8 + at in
    let v = shows_body C s (claim_end c) cs a.1.0 t.0 m at lap (record { whole = aligned.1; placed = h.1 }) a.1.2 t.1
    lt in
    record {
      above = omega arith;
      below = v.below;
      aligned = v.aligned;
      word = ap (λ b. cond b (staged_word in_words c q) (staged_word_at in_words cs q)) (le-ltb q (claim_end c) (omega arith)) ∙ v.word;
    })
    (shown_cases c.stage (placed_message c) m got a.1.0 k a.1.1 g))) r

-- ---- back before the last message

rest_of : List PlacedMessage → List PlacedMessage
rest_of [] = []
rest_of (x ∷ xs) = xs

first_of_list : PlacedMessage → List PlacedMessage → PlacedMessage
first_of_list d [] = d
first_of_list d (x ∷ xs) = x

not_empty : (got : List PlacedMessage) (m : PlacedMessage) → got ++ m ∷ [] ≡ [] → ⊥
not_empty [] m e = cc
not_empty (x ∷ xs) m e = cc

back_by_stage : (s e : ℕ) (c : StagedClaim) (cs : List StagedClaim) (t : Stage) (got later : List PlacedMessage)
    (m : PlacedMessage) → c.stage ≡ t → IsSettled t → got ++ m ∷ [] ≡ shown_at t (placed_message c) ++ later
    → ((g : List PlacedMessage) → later ≡ g ++ m ∷ [] → Reaches m.place (claim_end c) cs g)
    → Reaches m.place e (c ∷ cs) got
unfolding first_of_list rest_of
back_by_stage s e c cs Moved got later m is st eq rec = absurd st
back_by_stage s e c cs Padded got later m is st eq rec = absurd st
back_by_stage s e c cs (Stored Open) got later m is st eq rec = absurd st
back_by_stage s e c cs (Stored Aborted) got later m is st eq rec =
    inr (inr (
      subst IsSettled (sym is) tt,
      (
        got,
        subst (λ t. got ≡ shown_at t (placed_message c) ++ got)
            (sym is) refl,
        rec got (sym eq),
      ),
    ))
back_by_stage s e c cs (Stored Committed) [] later m is st eq rec =
    inr (inl (ap (λ l. (first_of_list m l).place) eq, (λ moved. cc), refl))
back_by_stage s e c cs (Stored Committed) (g ∷ gs) later m is st eq rec =
    inr (inr (
      subst IsSettled (sym is) tt,
      (
        gs,
        subst (λ t. g ∷ gs ≡ shown_at t (placed_message c) ++ gs) (sym is)
            (ap (λ l. first_of_list m l ∷ gs) eq),
        rec gs (sym (ap rest_of eq)),
      ),
    ))

pub back_before_last : (s e : ℕ) (cs : List StagedClaim) (got : List PlacedMessage) (m : PlacedMessage)
    → Reaches s e cs (got ++ m ∷ []) → Reaches m.place e cs got
back_before_last s e [] got m r = absurd (not_empty got m r.1)
back_before_last s e (c ∷ cs) got m r =
    ⊎_elim (λ a. absurd (not_empty got m a.1))
    (⊎_elim (λ a. absurd (not_empty got m a.2))
    (λ a. back_by_stage s e c cs c.stage got a.1.0 m refl a.0 a.1.1
    (λ g eq. back_before_last s (claim_end c) cs g m (subst (Reaches s (claim_end c) cs) eq a.1.2)))) r
