-- A history with one claim more, and with one claim changed.
use Rattle.ring_table.specs.{Staged.Bodies, Changes.changed_at, Changes.changed}
use Rattle.std.proofs.Common.{◌≡◌, ◌≢◌, ℕ, zero, suc, ◌+◌, List, [], ◌∷◌, ◌++◌, Bool, true, false, cond, eqb, ltb, true≢false, sym, refl, ap, ◌∙◌, subst, eq-eqb, ne_eqb, eqb-true}
use Rattle.std.proofs.Math.{Option.some, Option.some-injective, Option.some-ne-none, Decide.ℕ_discrete, ListN.get_elem?}
use Rattle.std.proofs.Math.Logic.{dite}
use Rattle.ring_layout.specs.{History.IsMessage, Places.next_place}
use Rattle.ring_table.specs.Staged.{StagedClaim, staged_span, claim_end, staged_word, staged_word_at, LiesAfter, ArePlaced, staged_end}
use Rattle.ring_table.specs.Owners.{OwnedHistory, all_of, owned_by, edited_one, edited}

-- ---- one claim at the end

pub staged_end-append : (e : ℕ) (h : OwnedHistory) (x : ℕ × StagedClaim)
    → staged_end e (all_of (h ++ x ∷ [])) ≡ claim_end x.1
staged_end-append e [] x = refl
staged_end-append e (y ∷ ys) x = staged_end-append (claim_end y.1) ys x

pub placed_append : (C e : ℕ) (h : OwnedHistory) (x : ℕ × StagedClaim) → ArePlaced C e (all_of h)
    → LiesAfter C (staged_end e (all_of h)) x.1 → ArePlaced C e (all_of (h ++ x ∷ []))
placed_append C e [] x h lies = (lies, tt)
placed_append C e (y ∷ ys) x h lies = (h.0, placed_append C (claim_end y.1) ys x h.1 lies)

pub staged_word_at-append : (B : Bodies) → (h : OwnedHistory) (x : ℕ × StagedClaim) (p : ℕ) → staged_word B x.1 p ≡ 0
    → staged_word_at B (all_of (h ++ x ∷ [])) p ≡ staged_word_at B (all_of h) p
staged_word_at-append B [] x p none = both (ltb p (claim_end x.1)) (staged_word B x.1 p) none
  where
    both : (b : Bool) (m : ℕ) → m ≡ 0 → cond b m 0 ≡ 0
    both true m e = e
    both false m e = refl
staged_word_at-append B (y ∷ ys) x p none =
    ap (λ k. cond (ltb p (claim_end y.1)) (staged_word B y.1 p) k) (staged_word_at-append B ys x p none)

pub owned_by-append : (id : ℕ) (h : OwnedHistory) (c : StagedClaim)
    → owned_by id (h ++ (id, c) ∷ []) ≡ owned_by id h ++ c ∷ []
owned_by-append id [] c = ap (λ b. cond b (c ∷ []) []) (eq-eqb id id refl)
owned_by-append id (y ∷ ys) c =
    elim (eqb y.0 id) as (λ b. cond b (y.1 ∷ owned_by id (ys ++ (id, c) ∷ [])) (owned_by id (ys ++ (id, c) ∷ []))
    ≡ cond b (y.1 ∷ owned_by id ys) (owned_by id ys) ++ c ∷ [])
    [ true ↦ ap (λ l. y.1 ∷ l) (owned_by-append id ys c) | false ↦ owned_by-append id ys c ]

pub owned_by-append_other : (j id : ℕ) (h : OwnedHistory) (c : StagedClaim) → j ≢ id
    → owned_by j (h ++ (id, c) ∷ []) ≡ owned_by j h
owned_by-append_other j id [] c ne = ap (λ b. cond b (c ∷ []) []) (ne_eqb id j (λ e. ne (sym e)))
owned_by-append_other j id (y ∷ ys) c ne = ap (λ l. cond (eqb y.0 j) (y.1 ∷ l) l) (owned_by-append_other j id ys c ne)

-- ---- the claims of a seat are in the history

pub owned_at : (id : ℕ) (h : OwnedHistory) (k : ℕ) (c : StagedClaim) → get_elem? (owned_by id h) k ≡ some c
    → (i : ℕ) × (get_elem? h i ≡ some (id, c))
owned_at id [] k c e = absurd (some-ne-none c (sym e))
owned_at id (x ∷ xs) k c e = dite (ℕ_discrete x.0 id)
    (λ is. first k (λ k' e'. owned_at id xs k' c e')
    (subst (λ b. get_elem? (cond b (x.1 ∷ owned_by id xs) (owned_by id xs)) k ≡ some c) (eq-eqb x.0 id is) e) is)
    (λ ne. let t =
    owned_at id xs k c (subst (λ b. get_elem? (cond b (x.1 ∷ owned_by id xs) (owned_by id xs)) k ≡ some c)
    (ne_eqb x.0 id ne) e) in (suc t.0, t.1))
  where
    first : (k : ℕ) → ((k' : ℕ) → get_elem? (owned_by id xs) k' ≡ some c → (i : ℕ) × (get_elem? xs i ≡ some (id, c)))
        → get_elem? (x.1 ∷ owned_by id xs) k ≡ some c → x.0 ≡ id → (i : ℕ) × (get_elem? (x ∷ xs) i ≡ some (id, c))
    first zero rec e is = (0, λ i. some (is i, some-injective x.1 c e i))
    first (suc k) rec e is = let t = rec k e in (suc t.0, t.1)

-- ---- one claim changed

-- d may be for c: it has the same place and span
pub record MayReplace (C : ℕ) (c d : StagedClaim) : Type 0 where
  pub from : d.from ≡ c.from
  pub place : d.place ≡ c.place
  pub same_span : staged_span d ≡ staged_span c
  pub message : IsMessage C c.message → IsMessage C d.message

-- what f makes of the claims at the place p may be for them
abbrev pub MayReplaceAt : ℕ → ℕ → (StagedClaim → StagedClaim) → OwnedHistory → Type 0
MayReplaceAt C p f h = (i : ℕ) (x : ℕ × StagedClaim) → get_elem? h i ≡ some x → x.1.place ≡ p → MayReplace C x.1 (f x.1)

pub changed_at_place : (p : ℕ) (f : StagedClaim → StagedClaim) (c : StagedClaim) → c.place ≡ p → changed_at p f c ≡ f c
changed_at_place p f c e = ap (λ b. cond b (f c) c) (eq-eqb c.place p e)

pub changed_at_other : (p : ℕ) (f : StagedClaim → StagedClaim) (c : StagedClaim) → c.place ≢ p → changed_at p f c ≡ c
changed_at_other p f c ne = ap (λ b. cond b (f c) c) (ne_eqb c.place p ne)

pub changed_there : (p : ℕ) (f : StagedClaim → StagedClaim) (cs : List StagedClaim) (k : ℕ) (c : StagedClaim)
    → get_elem? cs k ≡ some c → c.place ≡ p → get_elem? (changed p f cs) k ≡ some (f c)
changed_there p f [] k c e at = absurd (some-ne-none c (sym e))
changed_there p f (d ∷ ds) zero c e at =
    ap some (ap (changed_at p f) (some-injective d c e) ∙ changed_at_place p f c at)
changed_there p f (d ∷ ds) (suc k) c e at = changed_there p f ds k c e at

module _ (id p : ℕ) (f : StagedClaim → StagedClaim) where
  pub owned_by-edited : (h : OwnedHistory) → owned_by id (edited id p f h) ≡ changed p f (owned_by id h)
  owned_by-edited [] = refl
  owned_by-edited (x ∷ xs) =
      elim (eqb x.0 id) as (λ b. cond b (cond b (changed_at p f x.1) x.1 ∷ owned_by id (edited id p f xs))
      (owned_by id (edited id p f xs)) ≡ changed p f (cond b (x.1 ∷ owned_by id xs) (owned_by id xs)))
      [ true ↦ ap (λ l. changed_at p f x.1 ∷ l) (owned_by-edited xs) | false ↦ owned_by-edited xs ]

  pub owned_by-edited_other : (j : ℕ) (h : OwnedHistory) → j ≢ id → owned_by j (edited id p f h) ≡ owned_by j h
  owned_by-edited_other j [] ne = refl
  owned_by-edited_other j (x ∷ xs) ne = skip (eqb x.0 j) (eqb x.0 id) (changed_at p f x.1) x.1
      (owned_by j (edited id p f xs)) (λ t. ne_eqb x.0 id (λ e. ne (sym (eqb-true x.0 j t) ∙ e)))
      ∙ ap (λ l. cond (eqb x.0 j) (x.1 ∷ l) l) (owned_by-edited_other j xs ne)
    where
      skip : (b c : Bool) (x y : StagedClaim) (l : List StagedClaim) → (b ≡ true → c ≡ false)
          → cond b (cond c x y ∷ l) l ≡ cond b (y ∷ l) l
      skip true true x y l h = absurd (true≢false (h refl))
      skip true false x y l h = refl
      skip false c x y l h = refl

  -- what holds of a claim after the change, case by case
  pub edited_one_cases : (P : StagedClaim → Type 0) (x : ℕ × StagedClaim) → (x.0 ≡ id → x.1.place ≡ p → P (f x.1))
      → P x.1 → P (edited_one id p f x).1
  edited_one_cases P x hit miss = dite (ℕ_discrete x.0 id)
      (λ e. subst (λ b. P (cond b (changed_at p f x.1) x.1)) (sym (eq-eqb x.0 id e)) (dite (ℕ_discrete x.1.place p)
      (λ e'. subst P (sym (changed_at_place p f x.1 e')) (hit e e'))
      (λ ne. subst P (sym (changed_at_other p f x.1 ne)) miss)))
      (λ ne. subst (λ b. P (cond b (changed_at p f x.1) x.1)) (sym (ne_eqb x.0 id ne)) miss)

  pub edited_one_here : (c : StagedClaim) → c.place ≡ p → (edited_one id p f (id, c)).1 ≡ f c
  edited_one_here c e = ap (λ b. cond b (changed_at p f c) c) (eq-eqb id id refl) ∙ changed_at_place p f c e

  pub get-edited : (h : OwnedHistory) (i : ℕ) (x : ℕ × StagedClaim) → get_elem? h i ≡ some x
      → get_elem? (edited id p f h) i ≡ some (edited_one id p f x)
  get-edited [] i x e = absurd (some-ne-none x (sym e))
  get-edited (y ∷ ys) zero x e = ap (λ z. some (edited_one id p f z)) (some-injective y x e)
  get-edited (y ∷ ys) (suc i) x e = get-edited ys i x e

  module _ (C : ℕ) where
    kept_by_edit : (x : ℕ × StagedClaim) → (x.1.place ≡ p → MayReplace C x.1 (f x.1))
        → MayReplace C x.1 (edited_one id p f x).1
    kept_by_edit x may = edited_one_cases (λ d. MayReplace C x.1 d) x (λ _ e. may e)
        (record { from = refl; place = refl; same_span = refl; message = λ m. m })

    pub claim_end-edited : (x : ℕ × StagedClaim) → (x.1.place ≡ p → MayReplace C x.1 (f x.1))
        → claim_end (edited_one id p f x).1 ≡ claim_end x.1
    claim_end-edited x may = let same = kept_by_edit x may in λ i. same.place i + same.same_span i

    pub staged_end-edited : (e : ℕ) (h : OwnedHistory) → MayReplaceAt C p f h
        → staged_end e (all_of (edited id p f h)) ≡ staged_end e (all_of h)
    staged_end-edited e [] may = refl
    staged_end-edited e (x ∷ xs) may = ap (λ k. staged_end k (all_of (edited id p f xs)))
        (claim_end-edited x (may 0 x refl)) ∙ staged_end-edited (claim_end x.1) xs (λ i. may (suc i))

    pub placed_edited : (e : ℕ) (h : OwnedHistory) → MayReplaceAt C p f h → ArePlaced C e (all_of h)
        → ArePlaced C e (all_of (edited id p f h))
    placed_edited e [] may h = tt
    placed_edited e (x ∷ xs) may h =
        let same = kept_by_edit x (may 0 x refl) in (
          record {
            from = same.from ∙ h.0.from;
            place = same.place ∙ h.0.place
                ∙ ap (next_place C e) (sym same.same_span);
            message = same.message h.0.message;
          },
          subst (λ k. ArePlaced C k (all_of (edited id p f xs))) (sym (claim_end-edited x (may 0 x refl)))
              (placed_edited (claim_end x.1) xs (λ i. may (suc i)) h.1),
        )

    -- the word at q stays if those of the changed claims stay
    pub staged_word_at-edited : (B : Bodies) → (q : ℕ) (h : OwnedHistory) → MayReplaceAt C p f h
        → ((i : ℕ) (x : ℕ × StagedClaim) → get_elem? h i ≡ some x → x.1.place ≡ p
        → staged_word B (f x.1) q ≡ staged_word B x.1 q)
        → staged_word_at B (all_of (edited id p f h)) q ≡ staged_word_at B (all_of h) q
    staged_word_at-edited B q [] may same = refl
    staged_word_at-edited B q (x ∷ xs) may same =
        let end = claim_end-edited x (may 0 x refl) in
        let word = edited_one_cases (λ d. staged_word B d q ≡ staged_word B x.1 q) x (λ _ e. same 0 x refl e) refl in
        let rest = staged_word_at-edited B q xs (λ i. may (suc i)) (λ i. same (suc i)) in
        λ i. cond (ltb q (end i)) (word i) (rest i)
