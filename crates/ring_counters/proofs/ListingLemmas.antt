-- Walks over all counters, by rising id.
use Rattle.std.proofs.Common.{◌≡◌, ℕ, zero, suc, ◌+◌, ◌-◌, ◌<◌, ◌≤◌, ◌==◌, Bool, true, false, true≢false, cond, List, [], ◌∷◌, ◌++◌, map, length, refl, sym, ap, subst, ◌∙◌, arith, inl, inr, get_or-set_other, append-nil, filter, fold, ◌&&◌, length-set}
use Rattle.std.{specs.List.range_with_len, proofs.lemmas.Bool.cases_lt, proofs.lemmas.List.length_push}
use Rattle.ring_counters.specs.Counter.{Reclaimed, Counter, unused_counter}
use Rattle.ring_counters.specs.Registry.{Registry, count_of, counter_at, status_at, is_allocated, is_owned, owned_ids, closed_in, reclaimed_in, live_of, live_from}
use Rattle.ring_counters.specs.{declared.info.CounterInfo.CounterInfo, Infos.IsInfoOf, Infos.AreInfos}

-- the numbers below n that pass
abbrev pub passing : (ℕ → Bool) → ℕ → List ℕ
passing p n = filter p (range_with_len 0 n)

filter-range_more : (p : ℕ → Bool) (a n : ℕ)
    → filter p (range_with_len a (suc n)) ≡ filter p (range_with_len a n) ++ cond (p (a + n)) ((a + n) ∷ []) []
filter-range_more p a zero =
    let e : a ≡ a + 0 = omega arith in let one : ℕ → List ℕ = λ k. cond (p k) (k ∷ []) [] in ap one e
filter-range_more p a (suc n) =
    let e : a + 1 + n ≡ a + suc n = omega arith in
    by (p a) (filter-range_more p (a + 1) n
    ∙ (λ i. filter p (range_with_len (a + 1) n) ++ cond (p (e i)) (e i ∷ []) []))
  where
    by : (b : Bool) → filter p (range_with_len (a + 1) (suc n)) ≡ filter p (range_with_len (a + 1) n)
        ++ cond (p (a + suc n)) ((a + suc n) ∷ []) []
        → cond b (a ∷ filter p (range_with_len (a + 1) (suc n))) (filter p (range_with_len (a + 1) (suc n)))
        ≡ cond b (a ∷ filter p (range_with_len (a + 1) n)) (filter p (range_with_len (a + 1) n))
        ++ cond (p (a + suc n)) ((a + suc n) ∷ []) []
    by true e = ap (λ l. a ∷ l) e
    by false e = e

pub passing_yes : (p : ℕ → Bool) (n : ℕ) → p n ≡ true → passing p (n + 1) ≡ passing p n ++ n ∷ []
passing_yes p n passes =
    let one : n + 1 ≡ suc n = omega arith in
    let none : 0 + n ≡ n = omega arith in
    ap (passing p) one ∙ filter-range_more p 0 n ∙ (λ i. passing p n ++ cond (p (none i)) (none i ∷ []) [])
    ∙ ap (λ b. passing p n ++ cond b (n ∷ []) []) passes

pub passing_no : (p : ℕ → Bool) (n : ℕ) → p n ≡ false → passing p (n + 1) ≡ passing p n
passing_no p n fails =
    let one : n + 1 ≡ suc n = omega arith in
    let none : 0 + n ≡ n = omega arith in
    ap (passing p) one ∙ filter-range_more p 0 n ∙ (λ i. passing p n ++ cond (p (none i)) (none i ∷ []) [])
    ∙ ap (λ b. passing p n ++ cond b (n ∷ []) []) fails ∙ append-nil (passing p n)

-- if none passes from n on, no more than those below n pass
pub passing_all : (p : ℕ → Bool) (n m : ℕ) → n ≤ m → ((k : ℕ) → n ≤ k → p k ≡ false) → passing p m ≡ passing p n
passing_all p n zero le none = let e : 0 ≡ n = omega arith in ap (passing p) e
passing_all p n (suc m) le none =
    elim (cases_lt m n) as (λ _. passing p (suc m) ≡ passing p n) [
      | inl less ↦ (let e : suc m ≡ n = omega arith in ap (passing p) e)
      | inr more ↦ (let one : suc m ≡ m + 1 = omega arith in ap (passing p) one ∙ passing_no p m (none m more)
          ∙ passing_all p n m more none)
    ]

-- no more than n of the numbers below n pass
length-passing : (p : ℕ → Bool) (n : ℕ) → length (passing p n) ≤ n
length-passing p zero = omega arith
length-passing p (suc n) =
    let one : suc n ≡ n + 1 = omega arith in
    let h = length-passing p n in
    by (p n) refl (ap length (ap (passing p) one)) h
  where
    by : (b : Bool) → p n ≡ b → length (passing p (suc n)) ≡ length (passing p (n + 1)) → length (passing p n) ≤ n
        → length (passing p (suc n)) ≤ suc n
    by true is one h = omega (arith, ap length (passing_yes p n is), length_push (passing p n) n)
    by false is one h = omega (arith, ap length (passing_no p n is))

fold-snoc : {A B : Type 0} (f : B → A → B) (b : B) (xs : List A) (x : A) → fold f b (xs ++ x ∷ []) ≡ f (fold f b xs) x
fold-snoc f b [] x = refl
fold-snoc f b (y ∷ xs) x = fold-snoc f (f b y) xs x

-- ---- an owner is closed

abbrev pub owned_below : Registry → ℕ → ℕ → List ℕ
owned_below r owner n = passing (λ k. is_owned owner (counter_at r k)) n

pub owned_is_allocated : (owner : ℕ) (c : Counter) → is_owned owner c ≡ true → is_allocated c.metadata.status ≡ true
owned_is_allocated owner c owned = by (is_allocated c.metadata.status) owned
  where
    by : (b : Bool) → (b && c.values.owner == owner) ≡ true → b ≡ true
    by true e = refl
    by false e = absurd (true≢false (sym e))

-- the counters of the owner below id are freed, and no others
pub record ClosedUpTo (first now_at : Registry) (now owner id freed end : ℕ) : Type 0 where
  pub changed : now_at ≡ fold (λ s k. reclaimed_in s now k) first (owned_below first owner id)
  pub counted : freed ≡ length (owned_below first owner id)
  pub others : (k : ℕ) → id ≤ k → counter_at now_at k ≡ counter_at first k
  pub size : count_of now_at ≡ count_of first
  pub bound : end ≤ count_of first
  pub behind : (k : ℕ) → end ≤ k → counter_at first k ≡ unused_counter

module _ (first s : Registry) (now owner id freed end : ℕ) (h : ClosedUpTo first s now owner id freed end) where
  same_test : is_owned owner (counter_at s id) ≡ is_owned owner (counter_at first id)
  same_test = ap (is_owned owner) (h.others id (omega arith))

  pub few_freed : freed ≤ id
  few_freed = omega (arith, h.counted, length-passing (λ k. is_owned owner (counter_at first k)) id)

  pub closed_one_more : is_owned owner (counter_at s id) ≡ true
      → ClosedUpTo first (reclaimed_in s now id) now owner (id + 1) (freed + 1) end
  closed_one_more owned =
      let more : owned_below first owner (id + 1) ≡ owned_below first owner id ++ id ∷ [] =
      passing_yes (λ k. is_owned owner (counter_at first k)) id (sym same_test ∙ owned) in
      let c = counter_at s id in
      let d : Counter = record c { metadata = record c.metadata { status = Reclaimed (now + s.reuse_ms) } } in
      record {
        changed =
            ap (λ r. reclaimed_in r now id) h.changed
            ∙ sym (fold-snoc (λ r k. reclaimed_in r now k) first (owned_below first owner id) id)
            ∙ sym (ap (fold (λ r k. reclaimed_in r now k) first) more);
        counted = omega (arith, h.counted, ap length more, length_push (owned_below first owner id) id);
        others =
            λ k le. get_or-set_other s.counters id k d unused_counter (λ e. omega arith) ∙ h.others k (omega arith);
        size = length-set s.counters id d ∙ h.size;
        bound = h.bound;
        behind = h.behind;
      }

  pub closed_one_less : is_owned owner (counter_at s id) ≡ false → ClosedUpTo first s now owner (id + 1) freed end
  closed_one_less other =
      let same = passing_no (λ k. is_owned owner (counter_at first k)) id (sym same_test ∙ other) in
      record {
        changed = h.changed ∙ sym (ap (fold (λ r k. reclaimed_in r now k) first) same);
        counted = h.counted ∙ sym (ap length same);
        others = λ k le. h.others k (omega arith);
        size = h.size;
        bound = h.bound;
        behind = h.behind;
      }

  all_owned : end ≤ id → id ≤ end → owned_ids first owner ≡ owned_below first owner id
  all_owned lo hi =
      passing_all (λ k. is_owned owner (counter_at first k)) id (count_of first) (omega (arith, h.bound))
      (λ k le. ap (is_owned owner) (h.behind k (omega arith)))

  pub closed_all : end ≤ id → id ≤ end → s ≡ closed_in first now owner
  closed_all lo hi = h.changed ∙ sym (ap (fold (λ r k. reclaimed_in r now k) first) (all_owned lo hi))

  pub counted_all : end ≤ id → id ≤ end → freed ≡ length (owned_ids first owner)
  counted_all lo hi = h.counted ∙ sym (ap length (all_owned lo hi))

-- ---- the counters in use are listed

AreInfos-snoc : (is : List CounterInfo) (xs : List (ℕ × Counter)) (i : CounterInfo) (x : ℕ × Counter) → AreInfos is xs
    → IsInfoOf x.0 x.1 i → AreInfos (is ++ i ∷ []) (xs ++ x ∷ [])
AreInfos-snoc [] [] i x h one = (one, tt)
AreInfos-snoc [] (y ∷ xs) i x h one = absurd h
AreInfos-snoc (j ∷ is) [] i x h one = absurd h
AreInfos-snoc (j ∷ is) (y ∷ xs) i x h one = (h.0, AreInfos-snoc is xs i x h.1 one)

map-snoc : {A B : Type 0} (f : A → B) (xs : List A) (x : A) → map f (xs ++ x ∷ []) ≡ map f xs ++ f x ∷ []
map-snoc f [] x = refl
map-snoc f (y ∷ xs) x = ap (λ l. f y ∷ l) (map-snoc f xs x)

abbrev pub live_below : Registry → ℕ → List (ℕ × Counter)
live_below r n = map (λ id. (id, counter_at r id)) (passing (λ id. is_allocated (status_at r id)) n)

module _ (r : Registry) (infos : List CounterInfo) (id : ℕ) (h : AreInfos infos (live_below r id)) where
  pub listed_one_more : (info : CounterInfo) → is_allocated (status_at r id) ≡ true → IsInfoOf id (counter_at r id) info
      → AreInfos (infos ++ info ∷ []) (live_below r (id + 1))
  listed_one_more info live is =
      let entry : ℕ → ℕ × Counter = λ k. (k, counter_at r k) in
      subst (AreInfos (infos ++ info ∷ []))
      (sym (ap (map entry) (passing_yes (λ k. is_allocated (status_at r k)) id live)
      ∙ map-snoc entry (passing (λ k. is_allocated (status_at r k)) id) id))
      (AreInfos-snoc infos (live_below r id) info (id, counter_at r id) h is)

  pub listed_one_less : is_allocated (status_at r id) ≡ false → AreInfos infos (live_below r (id + 1))
  listed_one_less gone =
      let entry : ℕ → ℕ × Counter = λ k. (k, counter_at r k) in
      subst (AreInfos infos) (sym (ap (map entry) (passing_no (λ k. is_allocated (status_at r k)) id gone))) h

  pub listed_all : id ≤ count_of r → ((k : ℕ) → id ≤ k → counter_at r k ≡ unused_counter) → AreInfos infos (live_of r)
  listed_all le behind =
      let entry : ℕ → ℕ × Counter = λ k. (k, counter_at r k) in
      subst (AreInfos infos)
      (sym (ap (map entry) (passing_all (λ k. is_allocated (status_at r k)) id (count_of r) le
      (λ k lo. ap (λ (c : Counter). is_allocated c.metadata.status) (behind k lo)))))
      h

-- ---- the counters in use are gone over

filter-none : (p : ℕ → Bool) (first n : ℕ) → ((k : ℕ) → first ≤ k → p k ≡ false)
    → filter p (range_with_len first n) ≡ []
filter-none p first zero none = refl
filter-none p first (suc n) none =
    ap (λ b. cond b (first ∷ filter p (range_with_len (first + 1) n)) (filter p (range_with_len (first + 1) n)))
    (none first (omega arith)) ∙ filter-none p (first + 1) n (λ k le. none k (omega arith))

module _ (r : Registry) (first : ℕ) where
  abbrev entry : ℕ → ℕ × Counter
  entry k = (k, counter_at r k)

  abbrev in_use : ℕ → Bool
  in_use k = is_allocated (status_at r k)

  -- one look: the first id is the first of the list if it is in use, and otherwise passed over
  one_look : first < count_of r → live_from r first
      ≡ cond (in_use first) ((first, counter_at r first) ∷ live_from r (first + 1)) (live_from r (first + 1))
  one_look less =
      let size : count_of r - first ≡ suc (count_of r - (first + 1)) = omega arith in
      ap (λ n. map entry (filter in_use (range_with_len first n))) size ∙ by (in_use first)
    where
      by : (b : Bool)
          → map entry (cond b (first ∷ filter in_use (range_with_len (first + 1) (count_of r - (first + 1))))
          (filter in_use (range_with_len (first + 1) (count_of r - (first + 1)))))
          ≡ cond b ((first, counter_at r first) ∷ live_from r (first + 1)) (live_from r (first + 1))
      by true = refl
      by false = refl

  pub live_here : first < count_of r → is_allocated (status_at r first) ≡ true
      → live_from r first ≡ (first, counter_at r first) ∷ live_from r (first + 1)
  live_here less is = one_look less
      ∙ ap (λ b. cond b ((first, counter_at r first) ∷ live_from r (first + 1)) (live_from r (first + 1))) is

  pub live_behind : first < count_of r → is_allocated (status_at r first) ≡ false
      → live_from r first ≡ live_from r (first + 1)
  live_behind less is = one_look less
      ∙ ap (λ b. cond b ((first, counter_at r first) ∷ live_from r (first + 1)) (live_from r (first + 1))) is

  pub none_left : ((k : ℕ) → first ≤ k → counter_at r k ≡ unused_counter) → live_from r first ≡ []
  none_left unused =
      ap (map entry) (filter-none in_use first (count_of r - first)
      (λ k le. ap (λ (c : Counter). is_allocated c.metadata.status) (unused k le)))
