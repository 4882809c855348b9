-- The claims of several producers make one history.
use Rattle.std.proofs.Common.{◌≡◌, ◌≢◌, ℕ, ◌<◌, List, [], ◌∷◌, Bool, true, false, cond, eqb, ltb, true≢false, sym, refl, ap, ◌∙◌, lt-ltb, le-ltb, eq-eqb, ne_eqb, arith}
use Rattle.std.proofs.Math.{Logic.dite, Decide.ℕ_discrete}
use Rattle.ring_layout.proofs.PlaceLemmas.{next_le}
use Rattle.ring_table.specs.Staged.{StagedClaim, staged_span, claim_end, ArePlaced, AreAbove, AreRising}
use Rattle.ring_table.specs.Owners.{OwnedHistory, all_of, owned_by, insert_claim, interleaved, handed_over}

above_if : (b : Bool) (p : ℕ) (c : StagedClaim) (cs : List StagedClaim) → p < c.place → AreAbove p cs
    → AreAbove p (cond b (c ∷ cs) cs)
above_if true p c cs lt h = (lt, h)
above_if false p c cs lt h = h

pub above_owned_by : (C e p j : ℕ) (h : OwnedHistory) → ArePlaced C e (all_of h) → p < e → AreAbove p (owned_by j h)
above_owned_by C e p j [] pl lt = tt
above_owned_by C e p j (x ∷ xs) pl lt = let n = next_le C e (staged_span x.1) in let b =
    pl.0.place in above_if (eqb x.0 j) p x.1 (owned_by j xs) (omega arith)
    (above_owned_by C (claim_end x.1) p j xs pl.1 (omega arith))

first : (c : StagedClaim) (l : List StagedClaim) → AreAbove c.place l → insert_claim c l ≡ c ∷ l
first c [] h = refl
first c (d ∷ ds) h = ap (λ b. cond b (c ∷ d ∷ ds) (d ∷ insert_claim c ds)) (lt-ltb c.place d.place h.0)

stays_first : (c : StagedClaim) (xs ys : List StagedClaim) → AreAbove c.place ys
    → interleaved (c ∷ xs) ys ≡ c ∷ interleaved xs ys
stays_first c xs [] h = refl
stays_first c xs (y ∷ ys) h = ap (insert_claim y) (stays_first c xs ys h.1)
    ∙ ap (λ b. cond b (y ∷ c ∷ interleaved xs ys) (c ∷ insert_claim y (interleaved xs ys)))
    (le-ltb y.place c.place (omega arith))

pub all_of-handed_over : (other id : ℕ) (h : OwnedHistory) → all_of (handed_over other id h) ≡ all_of h
all_of-handed_over other id [] = refl
all_of-handed_over other id (x ∷ xs) = ap (λ l. x.1 ∷ l) (all_of-handed_over other id xs)

above_both : (p : ℕ) (xs ys : List StagedClaim) → AreAbove p xs → AreAbove p ys → AreAbove p (interleaved xs ys)
above_both p xs [] a b = a
above_both p xs (y ∷ ys) a b = above_insert p y (interleaved xs ys) b.0 (above_both p xs ys a b.1)
  where
    above_cond : (b : Bool) (p : ℕ) (xs ys : List StagedClaim) → AreAbove p xs → AreAbove p ys
        → AreAbove p (cond b xs ys)
    above_cond true p xs ys a c = a
    above_cond false p xs ys a c = c

    above_insert : (p : ℕ) (c : StagedClaim) (l : List StagedClaim) → p < c.place → AreAbove p l
        → AreAbove p (insert_claim c l)
    above_insert p c [] lt h = (lt, tt)
    above_insert p c (d ∷ ds) lt h = above_cond (ltb c.place d.place) p (c ∷ d ∷ ds) (d ∷ insert_claim c ds) (lt, h)
        (h.0, above_insert p c ds lt h.1)

-- what a seat has after it took another's claims over
pub owned_by-handed_over : (C e other id : ℕ) (h : OwnedHistory) → other ≢ id → ArePlaced C e (all_of h)
    → owned_by id (handed_over other id h) ≡ interleaved (owned_by id h) (owned_by other h)
owned_by-handed_over C e other id [] ne pl = refl
owned_by-handed_over C e other id (x ∷ xs) ne pl = let rec =
    owned_by-handed_over C (claim_end x.1) other id xs ne pl.1 in let up =
    λ (j : ℕ). above_owned_by C (claim_end x.1) x.1.place j xs pl.1 (omega arith) in
    dite (ℕ_discrete x.0 other)
    (λ e. let not_id : eqb x.0 id ≡ false = ne_eqb x.0 id (λ f. ne (sym e ∙ f)) in let is_other = eq-eqb x.0 other e in
    ap (λ b. cond (eqb (cond b id x.0) id) (x.1 ∷ owned_by id (handed_over other id xs))
    (owned_by id (handed_over other id xs))) is_other
    ∙ (ap (λ b. cond b (x.1 ∷ owned_by id (handed_over other id xs)) (owned_by id (handed_over other id xs)))
    (eq-eqb id id refl)
    ∙ (ap (λ l. x.1 ∷ l) rec
    ∙ (sym (first x.1 (interleaved (owned_by id xs) (owned_by other xs))
    (above_both x.1.place (owned_by id xs) (owned_by other xs) (up id) (up other)))
    ∙ sym (λ i. interleaved (cond (not_id i) (x.1 ∷ owned_by id xs) (owned_by id xs))
    (cond (is_other i) (x.1 ∷ owned_by other xs) (owned_by other xs)))))))
    (λ no. let not_other =
    ne_eqb x.0 other no in ap (λ b. cond (eqb (cond b id x.0) id) (x.1 ∷ owned_by id (handed_over other id xs))
    (owned_by id (handed_over other id xs))) not_other
    ∙ (ap (λ l. cond (eqb x.0 id) (x.1 ∷ l) l) rec
    ∙ (by_id (eqb x.0 id) x.1 (owned_by id xs) (owned_by other xs) (up other)
    ∙ sym (ap (λ b. interleaved (cond (eqb x.0 id) (x.1 ∷ owned_by id xs) (owned_by id xs))
    (cond b (x.1 ∷ owned_by other xs) (owned_by other xs))) not_other))))
  where
    by_id : (b : Bool) (c : StagedClaim) (l m : List StagedClaim) → AreAbove c.place m
        → cond b (c ∷ interleaved l m) (interleaved l m) ≡ interleaved (cond b (c ∷ l) l) m
    by_id true c l m h = sym (stays_first c l m h)
    by_id false c l m h = refl

nobody_cond : (b : Bool) (x : StagedClaim) (l : List StagedClaim) → b ≡ false → cond b (x ∷ l) l ≡ l
nobody_cond true x l e = absurd (true≢false e)
nobody_cond false x l e = refl

-- the other has nothing then
pub owned_by-handed_away : (other id : ℕ) (h : OwnedHistory) → other ≢ id → owned_by other (handed_over other id h) ≡ []
owned_by-handed_away other id [] ne = refl
owned_by-handed_away other id (x ∷ xs) ne =
    nobody_cond (eqb (cond (eqb x.0 other) id x.0) other) x.1 (owned_by other (handed_over other id xs))
    (dite (ℕ_discrete x.0 other)
    (λ e. ap (λ b. eqb (cond b id x.0) other) (eq-eqb x.0 other e) ∙ ne_eqb id other (λ f. ne (sym f)))
    (λ no. ap (λ b. eqb (cond b id x.0) other) (ne_eqb x.0 other no) ∙ ne_eqb x.0 other no))
    ∙ owned_by-handed_away other id xs ne

-- and all others have what they had
pub owned_by-handed_over_other : (j other id : ℕ) (h : OwnedHistory) → j ≢ other → j ≢ id
    → owned_by j (handed_over other id h) ≡ owned_by j h
owned_by-handed_over_other j other id [] a b = refl
owned_by-handed_over_other j other id (x ∷ xs) a b = let rec = owned_by-handed_over_other j other id xs a b in
    dite (ℕ_discrete x.0 other)
    (λ e. ap (λ t. cond (eqb (cond t id x.0) j) (x.1 ∷ owned_by j (handed_over other id xs))
    (owned_by j (handed_over other id xs))) (eq-eqb x.0 other e)
    ∙ (ap (λ t. cond t (x.1 ∷ owned_by j (handed_over other id xs)) (owned_by j (handed_over other id xs)))
    (ne_eqb id j (λ f. b (sym f)))
    ∙ (rec ∙ sym (ap (λ t. cond t (x.1 ∷ owned_by j xs) (owned_by j xs)) (ne_eqb x.0 j (λ f. a (sym f ∙ e)))))))
    (λ no. ap (λ t. cond (eqb (cond t id x.0) j) (x.1 ∷ owned_by j (handed_over other id xs))
    (owned_by j (handed_over other id xs))) (ne_eqb x.0 other no) ∙ ap (λ l. cond (eqb x.0 j) (x.1 ∷ l) l) rec)

-- a seat that alone has claims has them all
pub owned_by-sole : (id : ℕ) (h : OwnedHistory) → ((j : ℕ) → j ≢ id → owned_by j h ≡ []) → owned_by id h ≡ all_of h
owned_by-sole id [] none = refl
owned_by-sole id (x ∷ xs) none = dite (ℕ_discrete x.0 id)
    (λ e. ap (λ b. cond b (x.1 ∷ owned_by id xs) (owned_by id xs)) (eq-eqb x.0 id e)
    ∙ ap (λ l. x.1 ∷ l) (owned_by-sole id xs
    (λ j ne. sym (nobody_cond (eqb x.0 j) x.1 (owned_by j xs) (ne_eqb x.0 j (λ f. ne (sym f ∙ e)))) ∙ none j ne)))
    (λ ne. absurd (some_left x.1 (owned_by x.0 xs)
    (sym (ap (λ b. cond b (x.1 ∷ owned_by x.0 xs) (owned_by x.0 xs)) (eq-eqb x.0 x.0 refl)) ∙ none x.0 ne)))
  where
    some_left : (c : StagedClaim) (l : List StagedClaim) → c ∷ l ≡ [] → ⊥
    some_left c l e = cc

rising_if : (b : Bool) (c : StagedClaim) (l : List StagedClaim) → AreAbove c.place l → AreRising l
    → AreRising (cond b (c ∷ l) l)
rising_if true c l a r = (a, r)
rising_if false c l a r = r

pub rising_owned_by : (C e id : ℕ) (h : OwnedHistory) → ArePlaced C e (all_of h) → AreRising (owned_by id h)
rising_owned_by C e id [] p = tt
rising_owned_by C e id (x ∷ xs) p = rising_if (eqb x.0 id) x.1 (owned_by id xs)
    (above_owned_by C (claim_end x.1) x.1.place id xs p.1 (omega arith)) (rising_owned_by C (claim_end x.1) id xs p.1)
