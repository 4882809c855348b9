-- What calls keep of a registry.
use Rattle.std.proofs.Common.{◌≡◌, ◌≢◌, ℕ, zero, suc, ◌+◌, ◌-◌, ◌<◌, ◌≤◌, Bool, true, false, true≢false, cond, List, [], ◌∷◌, ◌++◌, length, set, replicate, refl, sym, ap, subst, ◌∙◌, arith, inl, inr, get_or, get_or-set_other, get_or-set_same, Some, None, remove, nat_lt, count_by, length-set}
use Rattle.std.{specs.List.position_or_len, proofs.lemmas.Bool.cases_lt, proofs.lemmas.Bool.cases_eq}
use Rattle.std.proofs.lemmas.List.{length-replicate, length_push, Sums.position_or_len_is}
use Rattle.ring_counters.specs.Counter.{Allocated, Reclaimed, Counter, unused_counter, deadline_of}
use Rattle.ring_counters.specs.Registry.{Registry, count_of, counter_at, status_at, is_unused, is_allocated, is_reclaimed, unused_id, reclaimed_in, fresh_registry}
use Rattle.ring_counters.specs.Kept.{IsAbsent, deadline_at, AreReclaimed, AreDistinct, AreInOrder, IsKept}
use Rattle.ring_counters.proofs.QueueLemmas.{absent_at, absent_from_status, at, count_below, count_less, count_more, count_same, distinct_remove, distinct_snoc, inside_from_status, length-remove, not_reclaimed_from_allocated, order_other, order_remove, order_snoc, reclaimed_at, reclaimed_counter, reclaimed_other, reclaimed_remove, reclaimed_snoc, reclaimed_stays, removed_absent, used_from_allocated, used_from_reclaimed}

-- the queue holds ids of reclaimed counters, each once, in order if so marked, and no more than such counters
record IsQueue (counters : List Counter) (freed : List ℕ) (ordered : Bool) : Type 0 where
  pub reclaimed : AreReclaimed counters freed
  pub distinct : AreDistinct freed
  pub order : ordered ≡ true → AreInOrder counters freed
  pub tally : length freed ≤ count_by reclaimed_counter counters

-- ---- a registry that is kept

module _ (r : Registry) (room used : ℕ) (ordered : Bool) (h : IsKept r room used ordered) where
  -- an id that was used is below `used`
  pub below_used : (id : ℕ) → is_unused (status_at r id) ≡ false → id < used
  below_used id was =
      elim (cases_lt id used) as (λ _. id < used) [
        | inl less ↦ less
        | inr more ↦ absurd
            (true≢false (sym (ap (λ (c : Counter). is_unused c.metadata.status) (h.unused id more)) ∙ was))
      ]

  pub unused_id-kept : unused_id r ≡ cond (nat_lt used (count_of r)) (Some used) None
  unused_id-kept =
      let first : position_or_len (λ (c : Counter). is_unused c.metadata.status) r.counters ≡ used =
      position_or_len_is (λ (c : Counter). is_unused c.metadata.status) r.counters used unused_counter h.used_ids
      h.in_use
      (λ less. ap (λ (c : Counter). is_unused c.metadata.status) (h.unused used (omega arith))) in
      ap (λ n. cond (nat_lt n (count_of r)) (Some n) None) first

  -- a counter in use keeps its place
  module _ (id : ℕ) (c : Counter) (was : is_unused (status_at r id) ≡ false)
      (is : is_unused c.metadata.status ≡ false) where
    still_unused : (k : ℕ) → used ≤ k → at (set r.counters id c) k ≡ unused_counter
    still_unused k hi = let less = below_used id was in get_or-set_other r.counters id k c unused_counter
        (λ e. omega arith) ∙ h.unused k hi

    still_used : (k : ℕ) → k < used → is_unused (at (set r.counters id c) k).metadata.status ≡ false
    still_used k lo =
        elim (cases_eq k id) as (λ _. is_unused (at (set r.counters id c) k).metadata.status ≡ false) [
          | inl e ↦ ap (λ i. is_unused (at (set r.counters id c) i).metadata.status) e
              ∙ ap (λ (y : Counter). is_unused y.metadata.status)
              (get_or-set_same r.counters id c unused_counter (inside_from_status r.counters id was)) ∙ is
          | inr n ↦ ap (λ (y : Counter). is_unused y.metadata.status)
              (get_or-set_other r.counters id k c unused_counter n) ∙ h.in_use k lo
        ]

    -- and the queue follows
    kept_queued : (freed : List ℕ) (still : Bool) → IsQueue (set r.counters id c) freed still
        → IsKept (record r { counters = set r.counters id c; freed = freed }) room used still
    kept_queued freed still q =
        let n = length-set {A = Counter} r.counters id c in
        record {
          few = omega (arith, n, h.few);
          room_for_all = omega (arith, n, h.room_for_all);
          used_ids = omega (arith, n, h.used_ids);
          unused = still_unused;
          in_use = still_used;
          reclaimed = q.reclaimed;
          distinct = q.distinct;
          order = q.order;
          tally = q.tally;
        }

  pub kept_reused : (i : ℕ) (c : Counter) → i < length r.freed → c.metadata.status ≡ Allocated
      → IsKept (record r { counters = set r.counters (get_or r.freed i 0) c; freed = remove r.freed i }) room used
      ordered
  kept_reused i c less new =
      let id = get_or r.freed i 0 in
      let was : is_reclaimed (status_at r id) ≡ true = reclaimed_at r.counters r.freed i less h.reclaimed in
      let known : is_unused (status_at r id) ≡ false = used_from_reclaimed (status_at r id) was in
      let is : is_unused c.metadata.status ≡ false = ap is_unused new in
      let inside = inside_from_status r.counters id known in
      kept_queued id c known is (remove r.freed i) ordered (record {
        reclaimed = reclaimed_other r.counters (remove r.freed i) id c (removed_absent r.freed i less h.distinct)
            (reclaimed_remove r.counters r.freed i h.reclaimed);
        distinct = distinct_remove r.freed i h.distinct;
        order = λ o. order_other r.counters (remove r.freed i) id c (removed_absent r.freed i less h.distinct)
            (order_remove r.counters r.freed i (h.order o));
        tally = omega (
          arith,
          length-remove r.freed i less,
          count_less reclaimed_counter r.counters id c inside was
              (ap is_reclaimed new),
          h.tally,
        );
      })

  pub kept_begun : (c : Counter) → used < count_of r → c.metadata.status ≡ Allocated
      → IsKept (record r { counters = set r.counters used c }) room (used + 1) ordered
  kept_begun c less new =
      let n = length-set {A = Counter} r.counters used c in
      let none : is_reclaimed (status_at r used) ≡ false =
      ap (λ (y : Counter). is_reclaimed y.metadata.status) (h.unused used (omega arith)) in
      record {
        few = omega (arith, n, h.few);
        room_for_all = omega (arith, n, h.room_for_all);
        used_ids = omega (arith, n);
        unused =
            λ k hi. get_or-set_other r.counters used k c unused_counter (λ e. omega arith) ∙ h.unused k (omega arith);
        in_use =
            λ k lo. elim (cases_eq k used) as (λ _. is_unused (at (set r.counters used c) k).metadata.status ≡ false) [
              | inl e ↦ ap (λ i. is_unused (at (set r.counters used c) i).metadata.status) e
                  ∙ ap (λ (y : Counter). is_unused y.metadata.status)
                  (get_or-set_same r.counters used c unused_counter less) ∙ ap is_unused new
              | inr apart ↦ ap (λ (y : Counter). is_unused y.metadata.status)
                  (get_or-set_other r.counters used k c unused_counter apart) ∙ h.in_use k (omega arith)
            ];
        reclaimed = reclaimed_other r.counters r.freed used c
            (absent_from_status r.counters r.freed used h.reclaimed none) h.reclaimed;
        distinct = h.distinct;
        order = λ o. order_other r.counters r.freed used c (absent_from_status r.counters r.freed used h.reclaimed none)
            (h.order o);
        tally = omega (
          arith,
          count_same reclaimed_counter r.counters used c less
              (none ∙ sym (ap is_reclaimed new)),
          h.tally,
        );
      }

  -- a counter in use is changed and stays in use
  pub kept_changed : (id : ℕ) (c : Counter) → is_allocated (status_at r id) ≡ true → c.metadata.status ≡ status_at r id
      → IsKept (record r { counters = set r.counters id c }) room used ordered
  kept_changed id c was same =
      let known : is_unused (status_at r id) ≡ false = used_from_allocated (status_at r id) was in
      let none : is_reclaimed (status_at r id) ≡ false = not_reclaimed_from_allocated (status_at r id) was in
      let inside = inside_from_status r.counters id known in
      kept_queued id c known (ap is_unused same ∙ known) r.freed ordered (record {
        reclaimed = reclaimed_other r.counters r.freed id c
            (absent_from_status r.counters r.freed id h.reclaimed none) h.reclaimed;
        distinct = h.distinct;
        order = λ o. order_other r.counters r.freed id c (absent_from_status r.counters r.freed id h.reclaimed none)
            (h.order o);
        tally =
            omega (arith, count_same reclaimed_counter r.counters id c inside (sym (ap is_reclaimed same)), h.tally);
      })

  module _ (id : ℕ) (was : is_allocated (status_at r id) ≡ true) where
    none_freed : is_reclaimed (status_at r id) ≡ false
    none_freed = not_reclaimed_from_allocated (status_at r id) was

    allocated_inside : id < count_of r
    allocated_inside = inside_from_status r.counters id (used_from_allocated (status_at r id) was)

    -- the queue has room for the id of a counter in use
    pub room_for_one : length r.freed < room
    room_for_one = omega (arith, h.tally, count_below r.counters id allocated_inside none_freed, h.room_for_all)

    queue_in_order : (now : ℕ) (d : Counter) → IsAbsent id r.freed
        → deadline_at (set r.counters id d) id ≡ now + r.reuse_ms
        → (m : ℕ) → m ≡ length r.freed → (0 < length r.freed
        → (ordered ≡ true) × (deadline_at r.counters (get_or r.freed (length r.freed - 1) 0) ≤ now + r.reuse_ms))
        → AreInOrder (set r.counters id d) (r.freed ++ id ∷ [])
    queue_in_order now d absent mine m size last =
        elim (cases_lt 0 (length r.freed)) as (λ _. AreInOrder (set r.counters id d) (r.freed ++ id ∷ [])) [
          | inl some ↦
              order_snoc (set r.counters id d) r.freed id
              (order_other r.counters r.freed id d absent (h.order (last some).0)) (λ _.
              let end : ℕ = get_or r.freed (length r.freed - 1) 0 in
              let apart : end ≢ id = absent_at r.freed (length r.freed - 1) id (omega arith) absent in
              let same : deadline_at (set r.counters id d) end ≡ deadline_at r.counters end =
              ap (λ (y : Counter). deadline_of y.metadata.status)
              (get_or-set_other r.counters id end d unused_counter apart) in
              omega (arith, (last some).1))
          | inr none ↦ subst (λ l. AreInOrder (set r.counters id d) (l ++ id ∷ [])) (sym (empty r.freed (omega arith)))
              (tt, tt)
        ]
      where
        empty : (l : List ℕ) → length l ≡ 0 → l ≡ []
        empty [] e = refl
        empty (x ∷ l) e = absurd (omega arith)

    -- the queue stays in order if the new deadline is not before the last
    pub kept_reclaimed : (now : ℕ) (still : Bool)
        → (still ≡ true → 0 < length r.freed → (ordered ≡ true)
        × (deadline_at r.counters (get_or r.freed (length r.freed - 1) 0) ≤ now + r.reuse_ms))
        → IsKept (reclaimed_in r now id) room used still
    kept_reclaimed now still last =
        let c = counter_at r id in
        let d : Counter = record c { metadata = record c.metadata { status = Reclaimed (now + r.reuse_ms) } } in
        let known : is_unused (status_at r id) ≡ false = used_from_allocated (status_at r id) was in
        let absent = absent_from_status r.counters r.freed id h.reclaimed none_freed in
        let mine : deadline_at (set r.counters id d) id ≡ now + r.reuse_ms =
        ap (λ (y : Counter). deadline_of y.metadata.status)
        (get_or-set_same r.counters id d unused_counter allocated_inside) in
        let in_order : (m : ℕ) → m ≡ length r.freed
        → (0 < length r.freed → (ordered ≡ true)
        × (deadline_at r.counters (get_or r.freed (length r.freed - 1) 0) ≤ now + r.reuse_ms))
        → AreInOrder (set r.counters id d) (r.freed ++ id ∷ []) =
        queue_in_order now d absent mine in
        kept_queued id d known refl (r.freed ++ id ∷ []) still (record {
          reclaimed = reclaimed_snoc (set r.counters id d) r.freed id
              (reclaimed_stays r.counters r.freed id d allocated_inside (λ _. refl) h.reclaimed)
              (ap (λ (y : Counter). reclaimed_counter y)
              (get_or-set_same r.counters id d unused_counter allocated_inside));
          distinct = distinct_snoc r.freed id h.distinct absent;
          order = λ o. in_order (length r.freed) refl (last o);
          tally = omega (
            arith,
            length_push r.freed id,
            count_more reclaimed_counter r.counters id d allocated_inside none_freed
                refl,
            h.tally,
          );
        })

pub kept_fresh : (count reuse_ms room : ℕ) → count ≤ 4096 → count ≤ room
    → IsKept (fresh_registry count reuse_ms) room 0 true
kept_fresh count reuse_ms room few enough =
    let n = length-replicate {A = Counter} count unused_counter in
    record {
      few = omega arith;
      room_for_all = omega arith;
      used_ids = omega arith;
      unused = λ id lo. always id;
      in_use = λ id lo. absurd (omega arith);
      reclaimed = tt;
      distinct = tt;
      order = λ o. tt;
      tally = omega arith;
    }
  where
    always : (id : ℕ) → get_or (replicate count unused_counter) id unused_counter ≡ unused_counter
    always id = by count id
      where
        by : (m i : ℕ) → get_or (replicate m unused_counter) i unused_counter ≡ unused_counter
        by zero i = refl
        by (suc m) zero = refl
        by (suc m) (suc i) = by m i

pub kept_room : (r : Registry) (room bigger used : ℕ) (ordered : Bool) → bigger ≡ room → IsKept r room used ordered
    → IsKept r bigger used ordered
kept_room r room bigger used ordered e h = subst (λ n. IsKept r n used ordered) (sym e) h
