-- What the acts on a range of slots do to the homes and to what a seat has.
use Rattle.std.proofs.Common.{◌≡◌, ℕ, zero, suc, ◌+◌, ◌<◌, ◌≤◌, ◌≢◌, ◌⊎◌, List, [], ◌∷◌, ◌++◌, map, length, set, sym, refl, ap, ◌∙◌, inl, inr, length-set, append_assoc, arith}
use Rattle.std.proofs.Math.{Option.Option, Option.none, Option.some, Option.some-ne-none, ListN.get_elem?}
use Rattle.atomic_table.specs.Table.{Act, keeps, takes, gives, chain, carried_after, homes_after, Valid}
use Rattle.atomic_table.proofs.Lists.{set_here, set_else}
use Rattle.ring_table.specs.Ranges.{numbered, values_of, laid, takes_from, gives_first}

-- ---- lists

-- outside the n places from k on
abbrev pub Outside : ℕ → ℕ → ℕ → Type 0
Outside k n j = (j < k) ⊎ (k + n ≤ j)

beyond : (k n j : ℕ) → Outside k (suc n) j → (j ≢ k) × Outside (suc k) n j
beyond k n j (inl h) = ((λ e. omega arith), inl (omega arith))
beyond k n j (inr h) = ((λ e. omega arith), inr (omega arith))

module _ {S : Type 0} where
  pub values_numbered : (k : ℕ) (ys : List S) → values_of (numbered k ys) ≡ ys
  values_numbered k [] = refl
  values_numbered k (y ∷ ys) = ap (λ l. y ∷ l) (values_numbered (suc k) ys)

  pub numbered_snoc : (k : ℕ) (ys : List S) (y : S) → numbered k (ys ++ y ∷ []) ≡ numbered k ys ++ (k + length ys, y) ∷ []
  numbered_snoc k [] y = let e : k ≡ k + 0 = omega arith in ap (λ n. (n, y) ∷ []) e
  numbered_snoc k (x ∷ xs) y =
      let e : suc k + length xs ≡ k + length (x ∷ xs) = omega arith in
      ap (λ l. (k, x) ∷ l) (numbered_snoc (suc k) xs y ∙ ap (λ n. numbered (suc k) xs ++ (n, y) ∷ []) e)

  pub length_laid : (k : ℕ) (ys c : List S) → length (laid k ys c) ≡ length c
  length_laid k [] c = refl
  length_laid k (y ∷ ys) c = length_laid (suc k) ys (set c k y) ∙ length-set c k y

  pub laid_else : (k : ℕ) (ys c : List S) (j : ℕ) → Outside k (length ys) j → get_elem? (laid k ys c) j ≡ get_elem? c j
  laid_else k [] c j out = refl
  laid_else k (y ∷ ys) c j out = let b = beyond k (length ys) j out in laid_else (suc k) ys (set c k y) j b.1 ∙ set_else c k j y b.0

  pub laid_here : (k : ℕ) (ys c : List S) → k + length ys ≤ length c → (i : ℕ) (y : S) → get_elem? ys i ≡ some y → (j : ℕ) → j ≡ k + i
      → get_elem? (laid k ys c) j ≡ some y
  laid_here k [] c fits i y at j is = absurd (some-ne-none y (sym at))
  laid_here k (x ∷ xs) c fits zero y at j is =
      let here : k ≡ j = omega arith in
      let wide : k < length c = omega arith in
      ap (get_elem? (laid (suc k) xs (set c k x))) (sym here)
      ∙ laid_else (suc k) xs (set c k x) k (inl (omega arith)) ∙ set_here c k x wide ∙ at
  laid_here k (x ∷ xs) c fits (suc i) y at j is =
      let long : length (set c k x) ≡ length c = length-set c k x in
      laid_here (suc k) xs (set c k x) (omega arith) i y at j (omega arith)

-- ---- acts

module _ {S : Type 0} where
  pub length_homes : (hs : List (Option S)) (c : List (ℕ × S)) (a : Act S) → length (homes_after hs c a) ≡ length hs
  length_homes hs c keeps = refl
  length_homes hs c (takes k y) = length-set hs k none
  length_homes hs [] gives = refl
  length_homes hs (x ∷ xs) gives = length-set hs x.0 (some x.1)
  length_homes hs c (chain a b) = length_homes (homes_after hs c a) (carried_after c a) b ∙ length_homes hs c a

  pub carried_takes : (c : List (ℕ × S)) (k : ℕ) (ys : List S) → carried_after c (takes_from k ys) ≡ numbered k ys ++ c
  carried_takes c k [] = refl
  carried_takes c k (y ∷ ys) = ap (λ l. (k, y) ∷ l) (carried_takes c (suc k) ys)

  pub takes_else : (hs : List (Option S)) (c : List (ℕ × S)) (k : ℕ) (ys : List S) (j : ℕ) → Outside k (length ys) j
      → get_elem? (homes_after hs c (takes_from k ys)) j ≡ get_elem? hs j
  takes_else hs c k [] j out = refl
  takes_else hs c k (y ∷ ys) j out =
      let b = beyond k (length ys) j out in
      set_else (homes_after hs c (takes_from (suc k) ys)) k j none b.0 ∙ takes_else hs c (suc k) ys j b.1

  -- the slots from k on have these values
  abbrev pub AreHome : List (Option S) → ℕ → List S → Type 0
  AreHome hs k ys = (i : ℕ) (y : S) → get_elem? ys i ≡ some y → get_elem? hs (k + i) ≡ some (some y)

  pub valid_takes : (hs : List (Option S)) (c : List (ℕ × S)) (k : ℕ) (ys : List S) → AreHome hs k ys → Valid hs c (takes_from k ys)
  valid_takes hs c k [] at = tt
  valid_takes hs c k (y ∷ ys) at =
      let here : k + 0 ≡ k = omega arith in (
        valid_takes hs c (suc k) ys (λ i z e. let is : k + suc i ≡ suc k + i = omega arith in ap (get_elem? hs) (sym is) ∙ at (suc i) z e),
        takes_else hs c (suc k) ys k (inl (omega arith)) ∙ (ap (get_elem? hs) (sym here) ∙ at 0 y refl),
      )

  pub carried_gives : (k : ℕ) (ys : List S) (c : List (ℕ × S)) → carried_after (numbered k ys ++ c) (gives_first ys) ≡ c
  carried_gives k [] c = refl
  carried_gives k (y ∷ ys) c = carried_gives (suc k) ys c

  pub valid_gives : (hs : List (Option S)) (c : List (ℕ × S)) (ys : List S) → Valid hs c (gives_first ys)
  valid_gives hs c [] = tt
  valid_gives hs [] (y ∷ ys) = (tt, valid_gives hs [] ys)
  valid_gives hs (x ∷ xs) (y ∷ ys) = (tt, valid_gives (set hs x.0 (some x.1)) xs ys)

  pub homes_gives : (hs : List (Option S)) (k : ℕ) (ys : List S) (c : List (ℕ × S))
      → homes_after hs (numbered k ys ++ c) (gives_first ys) ≡ laid k (map some ys) hs
  homes_gives hs k [] c = refl
  homes_gives hs k (y ∷ ys) c = homes_gives (set hs k (some y)) (suc k) ys c

  -- ---- a turn of the loop that writes them

  pub first_of_some : (ys : List S) → 0 < length ys → (y : S) × (rest : List S) × (ys ≡ y ∷ rest)
  first_of_some [] h = absurd (omega arith)
  first_of_some (y ∷ ys) h = (y, ys, refl)

  pub turned_on : (first k : ℕ) (ys done : List S) (w : S) → length done ≡ k
      → (numbered (suc (first + k)) ys ++ numbered first done) ++ (first + k, w) ∷ [] ≡ numbered (first + (k + 1)) ys ++ numbered first (done ++ w ∷ [])
  turned_on first k ys done w is =
      let e : suc (first + k) ≡ first + (k + 1) = omega arith in
      append_assoc (numbered (suc (first + k)) ys) (numbered first done) ((first + k, w) ∷ [])
      ∙ (λ i. numbered (e i) ys ++ (numbered first done ++ (first + sym is i, w) ∷ []))
      ∙ ap (λ l. numbered (first + (k + 1)) ys ++ l) (sym (numbered_snoc first done w))
