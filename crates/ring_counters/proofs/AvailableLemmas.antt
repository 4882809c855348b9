-- How many ids are due or were never used, and that there is none exactly if an allocation finds none.
use Rattle.std.proofs.Common.{◌≡◌, ℕ, zero, suc, ◌+◌, ◌<◌, ◌≤◌, ◌↔◌, Bool, true, false, cond, List, [], ◌∷◌, length, refl, sym, ap, ◌∙◌, arith, count_by, Option, Some, None, find, position, not, le-ltb}
use Rattle.std.specs.List.{position_or_len}
use Rattle.std.proofs.lemmas.{Bool.cond-false, List.Sums.count_by-le-length, List.Sums.sum_by-cons}
use Rattle.ring_layout.specs.Lists.{or_else}
use Rattle.ring_counters.specs.Available.{available_in}
use Rattle.ring_counters.specs.Counter.{Counter, Metadata, Values, unused_counter}
use Rattle.ring_counters.specs.Registry.{Registry, due_id, is_due, is_unused, next_id, status_at, unused_id}
use Rattle.ring_counters.proofs.QueueLemmas.{at, one_if, reclaimed_counter}
use Rattle.ring_counters.proofs.ShownLemmas.{Shows, position_misses, shown_kept}

module _ {X : Type 0} (p : X → Bool) where
  count_cons : (x : X) (xs : List X) → count_by p (x ∷ xs) ≡ one_if (p x) + count_by p xs
  count_cons x xs = sum_by-cons (λ y. one_if (p y)) x xs

  -- what is counted 0 times is not found
  uncounted_not_found : (xs : List X) → count_by p xs ≡ 0 → find p xs ≡ None
  uncounted_not_found [] e = refl
  uncounted_not_found (x ∷ xs) e = by (p x) (uncounted_not_found xs) (sym (count_cons x xs) ∙ e)
    where
      by : (b : Bool) → (count_by p xs ≡ 0 → find p xs ≡ None) → one_if b + count_by p xs ≡ 0
          → cond b (Some x) (find p xs) ≡ None
      by true rest e = absurd (omega arith)
      by false rest e = rest (omega arith)

  not_found_uncounted : (xs : List X) → find p xs ≡ None → count_by p xs ≡ 0
  not_found_uncounted [] e = refl
  not_found_uncounted (x ∷ xs) e = count_cons x xs ∙ by (p x) (not_found_uncounted xs) e
    where
      by : (b : Bool) → (find p xs ≡ None → count_by p xs ≡ 0) → cond b (Some x) (find p xs) ≡ None
          → one_if b + count_by p xs ≡ 0
      by true rest e = absurd (let f : Some x ≡ None = e in cc)
      by false rest e = let h = rest e in omega arith

  uncounted_to_end : (xs : List X) → count_by p xs ≡ 0 → length xs ≤ position_or_len p xs
  uncounted_to_end [] e = omega arith
  uncounted_to_end (x ∷ xs) e = by (p x) (uncounted_to_end xs) (sym (count_cons x xs) ∙ e)
    where
      by : (b : Bool) → (count_by p xs ≡ 0 → length xs ≤ position_or_len p xs) → one_if b + count_by p xs ≡ 0
          → length (x ∷ xs) ≤ cond (not b) (1 + position_or_len p xs) 0
      by true rest e = absurd (omega arith)
      by false rest e = let h = rest (omega arith) in omega arith

  to_end_uncounted : (xs : List X) → length xs ≤ position_or_len p xs → count_by p xs ≡ 0
  to_end_uncounted [] h = refl
  to_end_uncounted (x ∷ xs) h = count_cons x xs ∙ by (p x) (to_end_uncounted xs) h
    where
      by : (b : Bool) → (length xs ≤ position_or_len p xs → count_by p xs ≡ 0)
          → length (x ∷ xs) ≤ cond (not b) (1 + position_or_len p xs) 0 → one_if b + count_by p xs ≡ 0
      by true rest h = absurd (omega arith)
      by false rest h = let e = rest (omega arith) in omega arith

  uncounted_no_position : (xs : List X) → count_by p xs ≡ 0 → position p xs ≡ None
  uncounted_no_position xs e =
      cond-false _ (Some (position_or_len p xs)) None (le-ltb _ _ (uncounted_to_end xs e))

  no_position_uncounted : (xs : List X) → position p xs ≡ None → count_by p xs ≡ 0
  no_position_uncounted xs e = to_end_uncounted xs (position_misses p xs e)

neither : (o u : Option ℕ) → or_else o u ≡ None → (o ≡ None) × (u ≡ None)
neither (Some x) u e = absurd (let f : Some x ≡ None = e in cc)
neither None u e = (refl, e)

pub none_available : (r : Registry) (now : ℕ) → (available_in r now ≡ 0) ↔ (next_id r now ≡ None)
none_available r now =
    let due = λ (id : ℕ). is_due now (status_at r id) in
    let unused = λ (c : Counter). is_unused c.metadata.status in (
      (λ e. ap (λ o. or_else o (unused_id r)) (uncounted_not_found due r.freed (omega arith))
          ∙ uncounted_no_position unused r.counters (omega arith)),
      (λ e. let n = neither (due_id r now) (unused_id r) e in
          let d = not_found_uncounted due r.freed n.0 in
          let u = no_position_uncounted unused r.counters n.1 in omega arith),
    )

-- the ids from `used` on were never used, and no others
pub unused_counted : (cs : List Counter) (used : ℕ) → used ≤ length cs
    → ((id : ℕ) → used ≤ id → at cs id ≡ unused_counter)
    → ((id : ℕ) → id < used → is_unused (at cs id).metadata.status ≡ false)
    → count_by (λ c. is_unused c.metadata.status) cs + used ≡ length cs
unused_counted [] used below past before = omega arith
unused_counted (c ∷ cs) zero below past before =
    let head : one_if (is_unused c.metadata.status) ≡ 1 =
    ap (λ (x : Counter). one_if (is_unused x.metadata.status)) (past 0 (omega arith)) in
    let rest = unused_counted cs zero (omega arith) (λ id le. past (suc id) (omega arith)) (λ id less. absurd (omega arith)) in
    let both = count_cons (λ (x : Counter). is_unused x.metadata.status) c cs in
    omega arith
unused_counted (c ∷ cs) (suc used) below past before =
    let head : one_if (is_unused c.metadata.status) ≡ 0 = ap one_if (before 0 (omega arith)) in
    let rest = unused_counted cs used (omega arith) (λ id le. past (suc id) (omega arith))
    (λ id less. before (suc id) (omega arith)) in
    let both = count_cons (λ (x : Counter). is_unused x.metadata.status) c cs in
    omega arith

-- no more ids are in the queue than there are counters
pub queue_few : {r : Registry} {ms : List Metadata} {vs : List Values} {queue : List ℕ} {timeout room used : ℕ}
    {ordered : Bool} → Shows r ms vs queue timeout room used ordered → length r.freed ≤ 4096
queue_few {r = r} s =
    let kept = shown_kept s in
    let most = count_by-le-length reclaimed_counter r.counters in
    omega (arith, kept.tally, kept.few)
