-- The records of all ids, and the queue of freed ones.
use Rattle.std.proofs.Common.{◌≡◌, ◌≢◌, ℕ, zero, suc, ◌+◌, ◌-◌, ◌<◌, ◌≤◌, Bool, true, false, true≢false, cond, List, [], ◌∷◌, ◌++◌, length, set, replicate, refl, sym, ap, subst, ◌∙◌, arith, inl, inr, get_or, get_or-set_other, get_or-set_same, count_by, Some, None, find, remove, not, length-set, ne_eqb, eq-eqb}
use Rattle.std.specs.List.{position_or_len}
use Rattle.std.proofs.lemmas.Bool.{cases_lt, cases_eq, cond-true, cond-false}
use Rattle.std.proofs.lemmas.List.{get_or_past, set-get_or, Sums.sum_by-set, Sums.count_by-le-length}
use Rattle.ring_counters.specs.Counter.{Status, Unused, Allocated, Reclaimed, Metadata, Values, Counter, unused_metadata, unused_values, unused_counter, deadline_of}
use Rattle.ring_counters.specs.Registry.{is_unused, is_allocated, is_reclaimed, without}
use Rattle.ring_counters.specs.Kept.{counters_of, IsAbsent, AreDistinct, AreReclaimed, deadline_at, AllDueFrom, AreInOrder}

abbrev pub counter : Metadata → Values → Counter
counter m v = record { metadata = m; values = v }

-- ---- the counters of two lists of records

pub length-counters_of : (ms : List Metadata) (vs : List Values) → length vs ≡ length ms
    → length (counters_of ms vs) ≡ length ms
length-counters_of [] vs e = refl
length-counters_of (m ∷ ms) [] e = absurd (omega arith)
length-counters_of (m ∷ ms) (v ∷ vs) e = ap suc (length-counters_of ms vs (omega arith))

pub counters_of-at : (ms : List Metadata) (vs : List Values) → length vs ≡ length ms → (id : ℕ)
    → get_or (counters_of ms vs) id unused_counter ≡ counter (get_or ms id unused_metadata) (get_or vs id unused_values)
counters_of-at [] [] e id = refl
counters_of-at [] (v ∷ vs) e id = absurd (omega arith)
counters_of-at (m ∷ ms) [] e id = absurd (omega arith)
counters_of-at (m ∷ ms) (v ∷ vs) e zero = refl
counters_of-at (m ∷ ms) (v ∷ vs) e (suc id) = counters_of-at ms vs (omega arith) id

pub counters_of-set : (ms : List Metadata) (vs : List Values) → length vs ≡ length ms
    → (id : ℕ) (m : Metadata) (v : Values)
    → counters_of (set ms id m) (set vs id v) ≡ set (counters_of ms vs) id (counter m v)
counters_of-set [] [] e id m v = refl
counters_of-set [] (y ∷ vs) e id m v = absurd (omega arith)
counters_of-set (x ∷ ms) [] e id m v = absurd (omega arith)
counters_of-set (x ∷ ms) (y ∷ vs) e zero m v = refl
counters_of-set (x ∷ ms) (y ∷ vs) e (suc id) m v =
    ap (λ l. counter x y ∷ l) (counters_of-set ms vs (omega arith) id m v)

pub counters_of-set_metadata : (ms : List Metadata) (vs : List Values) → length vs ≡ length ms → (id : ℕ) (m : Metadata)
    → counters_of (set ms id m) vs ≡ set (counters_of ms vs) id (counter m (get_or vs id unused_values))
counters_of-set_metadata ms vs e id m = ap (counters_of (set ms id m)) (sym (set-get_or vs id unused_values))
    ∙ counters_of-set ms vs e id m (get_or vs id unused_values)

pub counters_of-set_values : (ms : List Metadata) (vs : List Values) → length vs ≡ length ms → (id : ℕ) (v : Values)
    → counters_of ms (set vs id v) ≡ set (counters_of ms vs) id (counter (get_or ms id unused_metadata) v)
counters_of-set_values ms vs e id v = ap (λ l. counters_of l (set vs id v)) (sym (set-get_or ms id unused_metadata))
    ∙ counters_of-set ms vs e id (get_or ms id unused_metadata) v

pub counters_of-replicate : (n : ℕ) → counters_of (replicate n unused_metadata) (replicate n unused_values)
    ≡ replicate n unused_counter
counters_of-replicate zero = refl
counters_of-replicate (suc n) = ap (λ l. unused_counter ∷ l) (counters_of-replicate n)

-- ---- statuses

abbrev pub reclaimed_counter : Counter → Bool
reclaimed_counter c = is_reclaimed c.metadata.status

abbrev pub at : List Counter → ℕ → Counter
at cs id = get_or cs id unused_counter

pub inside_from_status : (cs : List Counter) (id : ℕ) → is_unused (at cs id).metadata.status ≡ false → id < length cs
inside_from_status cs id used =
    elim (cases_lt id (length cs)) as (λ _. id < length cs) [
      | inl h ↦ h
      | inr h ↦ absurd
          (true≢false (sym (ap (λ (c : Counter). is_unused c.metadata.status) (get_or_past cs id unused_counter h))
          ∙ used))
    ]

pub used_from_allocated : (s : Status) → is_allocated s ≡ true → is_unused s ≡ false
used_from_allocated Unused e = absurd (true≢false (sym e))
used_from_allocated Allocated e = refl
used_from_allocated (Reclaimed d) e = refl

pub used_from_reclaimed : (s : Status) → is_reclaimed s ≡ true → is_unused s ≡ false
used_from_reclaimed Unused e = absurd (true≢false (sym e))
used_from_reclaimed Allocated e = refl
used_from_reclaimed (Reclaimed d) e = refl

pub not_reclaimed_from_allocated : (s : Status) → is_allocated s ≡ true → is_reclaimed s ≡ false
not_reclaimed_from_allocated Unused e = refl
not_reclaimed_from_allocated Allocated e = refl
not_reclaimed_from_allocated (Reclaimed d) e = absurd (true≢false (sym e))

-- ---- the queue

pub absent_from_status : (cs : List Counter) (ids : List ℕ) (id : ℕ) → AreReclaimed cs ids
    → is_reclaimed (at cs id).metadata.status ≡ false → IsAbsent id ids
absent_from_status cs [] id r e = tt
absent_from_status cs (x ∷ ids) id r e = (
  (λ same. true≢false (sym r.0 ∙ ap (λ i. is_reclaimed (at cs i).metadata.status) same ∙ e)),
  absent_from_status cs
      ids id r.1 e,
)

pub reclaimed_other : (cs : List Counter) (ids : List ℕ) (id : ℕ) (c : Counter) → IsAbsent id ids → AreReclaimed cs ids
    → AreReclaimed (set cs id c) ids
reclaimed_other cs [] id c a r = tt
reclaimed_other cs (x ∷ ids) id c a r = (
  ap (λ (y : Counter). reclaimed_counter y) (get_or-set_other cs id x c unused_counter a.0)
      ∙ r.0,
  reclaimed_other cs ids id c a.1 r.1,
)

pub reclaimed_stays : (cs : List Counter) (ids : List ℕ) (id : ℕ) (c : Counter) → id < length cs
    → (is_reclaimed (at cs id).metadata.status ≡ true → reclaimed_counter c ≡ true) → AreReclaimed cs ids
    → AreReclaimed (set cs id c) ids
reclaimed_stays cs [] id c less s r = tt
reclaimed_stays cs (x ∷ ids) id c less s r = (
  elim (cases_eq x id) as (λ _. is_reclaimed (at (set cs id c) x).metadata.status ≡ true) [
    | inl e ↦ ap (λ i. is_reclaimed (at (set cs id c) i).metadata.status) e
        ∙ ap (λ (y : Counter). reclaimed_counter y) (get_or-set_same cs id c unused_counter less)
        ∙ s (sym (ap (λ i. is_reclaimed (at cs i).metadata.status) e) ∙ r.0)
    | inr n ↦ ap (λ (y : Counter). reclaimed_counter y) (get_or-set_other cs id x c unused_counter n) ∙ r.0
  ],
  reclaimed_stays cs ids id c less s r.1,
)

pub reclaimed_snoc : (cs : List Counter) (ids : List ℕ) (id : ℕ) → AreReclaimed cs ids
    → is_reclaimed (at cs id).metadata.status ≡ true → AreReclaimed cs (ids ++ id ∷ [])
reclaimed_snoc cs [] id r e = (e, tt)
reclaimed_snoc cs (x ∷ ids) id r e = (r.0, reclaimed_snoc cs ids id r.1 e)

pub absent_snoc : (ids : List ℕ) (x id : ℕ) → IsAbsent x ids → id ≢ x → IsAbsent x (ids ++ id ∷ [])
absent_snoc [] x id a n = (n, tt)
absent_snoc (y ∷ ids) x id a n = (a.0, absent_snoc ids x id a.1 n)

pub distinct_snoc : (ids : List ℕ) (id : ℕ) → AreDistinct ids → IsAbsent id ids → AreDistinct (ids ++ id ∷ [])
distinct_snoc [] id d a = (tt, tt)
distinct_snoc (x ∷ ids) id d a = (absent_snoc ids x id d.0 (λ e. a.0 (sym e)), distinct_snoc ids id d.1 a.1)

pub reclaimed_at : (cs : List Counter) (ids : List ℕ) (i : ℕ) → i < length ids → AreReclaimed cs ids
    → is_reclaimed (at cs (get_or ids i 0)).metadata.status ≡ true
reclaimed_at cs [] i h r = absurd (omega arith)
reclaimed_at cs (x ∷ ids) zero h r = r.0
reclaimed_at cs (x ∷ ids) (suc i) h r = reclaimed_at cs ids i (omega arith) r.1

pub absent_remove : (ids : List ℕ) (i x : ℕ) → IsAbsent x ids → IsAbsent x (remove ids i)
absent_remove [] zero x a = tt
absent_remove [] (suc i) x a = tt
absent_remove (y ∷ ids) zero x a = a.1
absent_remove (y ∷ ids) (suc i) x a = (a.0, absent_remove ids i x a.1)

pub absent_at : (ids : List ℕ) (i x : ℕ) → i < length ids → IsAbsent x ids → get_or ids i 0 ≢ x
absent_at [] i x h a = absurd (omega arith)
absent_at (y ∷ ids) zero x h a = a.0
absent_at (y ∷ ids) (suc i) x h a = absent_at ids i x (omega arith) a.1

pub distinct_remove : (ids : List ℕ) (i : ℕ) → AreDistinct ids → AreDistinct (remove ids i)
distinct_remove [] zero d = tt
distinct_remove [] (suc i) d = tt
distinct_remove (x ∷ ids) zero d = d.1
distinct_remove (x ∷ ids) (suc i) d = (absent_remove ids i x d.0, distinct_remove ids i d.1)

-- a removed id is not among the others
pub removed_absent : (ids : List ℕ) (i : ℕ) → i < length ids → AreDistinct ids
    → IsAbsent (get_or ids i 0) (remove ids i)
removed_absent [] i h d = absurd (omega arith)
removed_absent (x ∷ ids) zero h d = d.0
removed_absent (x ∷ ids) (suc i) h d =
    ((λ e. absent_at ids i x (omega arith) d.0 (sym e)), removed_absent ids i (omega arith) d.1)

pub reclaimed_remove : (cs : List Counter) (ids : List ℕ) (i : ℕ) → AreReclaimed cs ids → AreReclaimed cs (remove ids i)
reclaimed_remove cs [] zero r = tt
reclaimed_remove cs [] (suc i) r = tt
reclaimed_remove cs (x ∷ ids) zero r = r.1
reclaimed_remove cs (x ∷ ids) (suc i) r = (r.0, reclaimed_remove cs ids i r.1)

pub length-remove : (ids : List ℕ) (i : ℕ) → i < length ids → length (remove ids i) + 1 ≡ length ids
length-remove [] i h = absurd (omega arith)
length-remove (x ∷ ids) zero h = omega arith
length-remove (x ∷ ids) (suc i) h = let e = length-remove ids i (omega arith) in omega arith

pub found_passes : (p : ℕ → Bool) (ids : List ℕ) (id : ℕ) → find p ids ≡ Some id → p id ≡ true
found_passes p [] id e = cc
found_passes p (x ∷ ids) id e = by (p x) refl (found_passes p ids id) e
  where
    by : (b : Bool) → p x ≡ b → (find p ids ≡ Some id → p id ≡ true) → cond b (Some x) (find p ids) ≡ Some id
        → p id ≡ true
    by true is rest e = let same : x ≡ id = cc in sym (ap p same) ∙ is
    by false is rest e = rest e

-- the first id that passes: it is the one found, and to remove it is to leave it out
pub first_found : (p : ℕ → Bool) (ids : List ℕ) (i : ℕ) → i ≡ position_or_len p ids → i < length ids
    → (find p ids ≡ Some (get_or ids i 0)) × (remove ids i ≡ without (get_or ids i 0) ids)
first_found p [] i e h = absurd (omega arith)
first_found p (x ∷ ids) i e h = by (p x) refl (first_found p ids) i e h
  where
    Found : ℕ → Type 0
    Found i = (find p ids ≡ Some (get_or ids i 0)) × (remove ids i ≡ without (get_or ids i 0) ids)

    by : (b : Bool) → p x ≡ b → ((i : ℕ) → i ≡ position_or_len p ids → i < length ids → Found i) → (i : ℕ)
        → i ≡ cond (not b) (1 + position_or_len p ids) 0 → i < length (x ∷ ids)
        → (cond b (Some x) (find p ids) ≡ Some (get_or (x ∷ ids) i 0))
        × (remove (x ∷ ids) i ≡ without (get_or (x ∷ ids) i 0) (x ∷ ids))
    by true is rest zero e h = (refl, sym (cond-true _ _ _ (eq-eqb x x refl)))
    by true is rest (suc i) e h = absurd (omega arith)
    by false is rest zero e h = absurd (omega arith)
    by false is rest (suc i) e h =
        let r = rest i (omega arith) (omega arith) in
        let apart : x ≢ get_or ids i 0 =
        λ same. true≢false (sym (found_passes p ids (get_or ids i 0) r.0) ∙ sym (ap p same) ∙ is) in
        (r.0, ap (λ l. x ∷ l) r.1 ∙ sym (cond-false _ _ _ (ne_eqb x (get_or ids i 0) apart)))

pub none_found : (p : ℕ → Bool) (ids : List ℕ) → length ids ≤ position_or_len p ids → find p ids ≡ None
none_found p [] h = refl
none_found p (x ∷ ids) h = by (p x) (none_found p ids) h
  where
    by : (b : Bool) → (length ids ≤ position_or_len p ids → find p ids ≡ None)
        → length (x ∷ ids) ≤ cond (not b) (1 + position_or_len p ids) 0 → cond b (Some x) (find p ids) ≡ None
    by true rest h = absurd (omega arith)
    by false rest h = rest (omega arith)

pub without_absent : (id : ℕ) (ids : List ℕ) → IsAbsent id ids → without id ids ≡ ids
without_absent id [] a = refl
without_absent id (x ∷ ids) a = cond-false _ _ _ (ne_eqb x id a.0) ∙ ap (λ l. x ∷ l) (without_absent id ids a.1)

-- ---- deadlines along the queue

pub due_from_other : (cs : List Counter) (moment : ℕ) (ids : List ℕ) (id : ℕ) (c : Counter) → IsAbsent id ids
    → AllDueFrom cs moment ids → AllDueFrom (set cs id c) moment ids
due_from_other cs moment [] id c a h = tt
due_from_other cs moment (x ∷ ids) id c a h =
    let same : deadline_at (set cs id c) x ≡ deadline_at cs x =
    ap (λ (y : Counter). deadline_of y.metadata.status) (get_or-set_other cs id x c unused_counter a.0) in
    ((let le : moment ≤ deadline_at cs x = h.0 in omega arith), due_from_other cs moment ids id c a.1 h.1)

pub order_other : (cs : List Counter) (ids : List ℕ) (id : ℕ) (c : Counter) → IsAbsent id ids → AreInOrder cs ids
    → AreInOrder (set cs id c) ids
order_other cs [] id c a h = tt
order_other cs (x ∷ ids) id c a h =
    let same : deadline_at (set cs id c) x ≡ deadline_at cs x =
    ap (λ (y : Counter). deadline_of y.metadata.status) (get_or-set_other cs id x c unused_counter a.0) in (
      subst (λ d. AllDueFrom (set cs id c) d ids) (sym same)
          (due_from_other cs (deadline_at cs x) ids id c a.1 h.0),
      order_other cs ids id c a.1 h.1,
    )

pub due_from_remove : (cs : List Counter) (moment : ℕ) (ids : List ℕ) (i : ℕ) → AllDueFrom cs moment ids
    → AllDueFrom cs moment (remove ids i)
due_from_remove cs moment [] zero h = tt
due_from_remove cs moment [] (suc i) h = tt
due_from_remove cs moment (x ∷ ids) zero h = h.1
due_from_remove cs moment (x ∷ ids) (suc i) h = (h.0, due_from_remove cs moment ids i h.1)

pub order_remove : (cs : List Counter) (ids : List ℕ) (i : ℕ) → AreInOrder cs ids → AreInOrder cs (remove ids i)
order_remove cs [] zero h = tt
order_remove cs [] (suc i) h = tt
order_remove cs (x ∷ ids) zero h = h.1
order_remove cs (x ∷ ids) (suc i) h = (due_from_remove cs (deadline_at cs x) ids i h.0, order_remove cs ids i h.1)

pub due_from_snoc : (cs : List Counter) (moment : ℕ) (ids : List ℕ) (id : ℕ) → AllDueFrom cs moment ids
    → moment ≤ deadline_at cs id → AllDueFrom cs moment (ids ++ id ∷ [])
due_from_snoc cs moment [] id h le = (le, tt)
due_from_snoc cs moment (x ∷ ids) id h le = (h.0, due_from_snoc cs moment ids id h.1 le)

pub due_from_at : (cs : List Counter) (moment : ℕ) (ids : List ℕ) (i : ℕ) → i < length ids → AllDueFrom cs moment ids
    → moment ≤ deadline_at cs (get_or ids i 0)
due_from_at cs moment [] i less h = absurd (omega arith)
due_from_at cs moment (x ∷ ids) zero less h = h.0
due_from_at cs moment (x ∷ ids) (suc i) less h = due_from_at cs moment ids i (omega arith) h.1

-- no deadline is before the first, in a queue in order
pub first_is_least : (cs : List Counter) (ids : List ℕ) (i : ℕ) → i < length ids → AreInOrder cs ids
    → deadline_at cs (get_or ids 0 0) ≤ deadline_at cs (get_or ids i 0)
first_is_least cs [] i less h = absurd (omega arith)
first_is_least cs (x ∷ ids) zero less h = omega arith
first_is_least cs (x ∷ ids) (suc i) less h = due_from_at cs (deadline_at cs x) ids i (omega arith) h.0

-- one more id whose deadline is not before the last
pub order_snoc : (cs : List Counter) (ids : List ℕ) (id : ℕ) → AreInOrder cs ids
    → (0 < length ids → deadline_at cs (get_or ids (length ids - 1) 0) ≤ deadline_at cs id)
    → AreInOrder cs (ids ++ id ∷ [])
order_snoc cs [] id h le = (tt, tt)
order_snoc cs (x ∷ []) id h le = ((le (omega arith), tt), (tt, tt))
order_snoc cs (x ∷ y ∷ ids) id h le =
    let n : ℕ = length ids in
    let second : suc (suc n) - 1 ≡ suc n = omega arith in
    let first : suc n - 1 ≡ n = omega arith in
    let whole : deadline_at cs (get_or (x ∷ y ∷ ids) (suc (suc n) - 1) 0) ≡ deadline_at cs (get_or (y ∷ ids) n 0) =
    ap (λ k. deadline_at cs (get_or (x ∷ y ∷ ids) k 0)) second in
    let part : deadline_at cs (get_or (y ∷ ids) (suc n - 1) 0) ≡ deadline_at cs (get_or (y ∷ ids) n 0) =
    ap (λ k. deadline_at cs (get_or (y ∷ ids) k 0)) first in
    let there : deadline_at cs (get_or (x ∷ y ∷ ids) (suc (suc n) - 1) 0) ≤ deadline_at cs id = le (omega arith) in
    let here : deadline_at cs x ≤ deadline_at cs (get_or (y ∷ ids) n 0) =
    due_from_at cs (deadline_at cs x) (y ∷ ids) n (omega arith) h.0 in (
      due_from_snoc cs (deadline_at cs x) (y ∷ ids) id h.0 (omega arith),
      order_snoc cs (y ∷ ids) id h.1
          (λ some. omega arith),
    )

-- ---- counts

abbrev pub one_if : Bool → ℕ
one_if b = cond b 1 0

pub count_set : (p : Counter → Bool) (cs : List Counter) (id : ℕ) (c : Counter) → id < length cs
    → count_by p (set cs id c) + one_if (p (at cs id)) ≡ count_by p cs + one_if (p c)
count_set p cs id c h = sum_by-set (λ x. one_if (p x)) cs id c unused_counter h

pub count_more : (p : Counter → Bool) (cs : List Counter) (id : ℕ) (c : Counter) → id < length cs → p (at cs id) ≡ false
    → p c ≡ true → count_by p (set cs id c) ≡ count_by p cs + 1
count_more p cs id c h was is =
    let e = count_set p cs id c h in
    let a : one_if (p (at cs id)) ≡ 0 = ap one_if was in
    let z : one_if (p c) ≡ 1 = ap one_if is in
    omega arith

pub count_less : (p : Counter → Bool) (cs : List Counter) (id : ℕ) (c : Counter) → id < length cs → p (at cs id) ≡ true
    → p c ≡ false → count_by p (set cs id c) + 1 ≡ count_by p cs
count_less p cs id c h was is =
    let e = count_set p cs id c h in
    let a : one_if (p (at cs id)) ≡ 1 = ap one_if was in
    let z : one_if (p c) ≡ 0 = ap one_if is in
    omega arith

pub count_same : (p : Counter → Bool) (cs : List Counter) (id : ℕ) (c : Counter) → id < length cs → p (at cs id) ≡ p c
    → count_by p (set cs id c) ≡ count_by p cs
count_same p cs id c h same =
    let e = count_set p cs id c h in
    let a : one_if (p (at cs id)) ≡ one_if (p c) = ap one_if same in
    omega arith

-- if one is not reclaimed, fewer than all are
pub count_below : (cs : List Counter) (id : ℕ) → id < length cs → is_reclaimed (at cs id).metadata.status ≡ false
    → count_by reclaimed_counter cs < length cs
count_below cs id h not =
    let gone : Counter = counter (record unused_metadata { status = Reclaimed 0 }) unused_values in
    let e = count_more reclaimed_counter cs id gone h not refl in
    let le = count_by-le-length reclaimed_counter (set cs id gone) in
    omega (arith, length-set {A = Counter} cs id gone)
