-- A registry in two lists of records and a queue.
use Rattle.std.proofs.Common.{◌≡◌, ℕ, ℤ, ◌+◌, ◌-◌, ◌<◌, ◌≤◌, Bool, true, false, true≢false, cond, List, [], ◌∷◌, ◌++◌, length, set, replicate, refl, sym, ap, subst, ◌∙◌, arith, inl, inr, get_or, Some, None, position, remove, nat_lt, length-set, lt-ltb, le-ltb, le-leb, leb-false}
use Rattle.std.specs.List.{position_or_len}
use Rattle.std.proofs.lemmas.Bool.{cases_lt, lt-leb, cond-true, cond-false}
use Rattle.std.proofs.lemmas.List.{get_or_default, length-replicate, Sums.position_or_len_is}
use Rattle.ring_counters.specs.Counter.{Status, Unused, Allocated, Reclaimed, Metadata, Values, Counter, unused_metadata, unused_values, deadline_of}
use Rattle.ring_layout.specs.Lists.{or_else}
use Rattle.ring_counters.specs.Registry.{Registry, count_of, counter_at, status_at, is_allocated, is_reclaimed, is_due, unused_id, next_id, without, allocated_in, reclaimed_in, with_value, fresh_registry}
use Rattle.ring_counters.specs.Kept.{counters_of, deadline_at, live_flags, IsKept}
use Rattle.ring_counters.proofs.QueueLemmas.{absent_from_status, at, counter, counters_of-at, counters_of-replicate, counters_of-set, counters_of-set_metadata, counters_of-set_values, first_found, first_is_least, inside_from_status, length-counters_of, none_found, reclaimed_at, used_from_allocated, used_from_reclaimed, without_absent}
use Rattle.ring_counters.proofs.KeptLemmas.{kept_begun, kept_changed, kept_fresh, kept_reclaimed, kept_reused, room_for_one, unused_id-kept}

-- ---- a registry in two lists of records and a queue

abbrev pub registry : List Metadata → List Values → List ℕ → ℕ → Registry
registry ms vs freed reuse_ms = record { counters = counters_of ms vs; freed = freed; reuse_ms = reuse_ms }

pub record Shows (r : Registry) (ms : List Metadata) (vs : List Values) (queue : List ℕ) (timeout room used : ℕ)
    (ordered : Bool) : Type 0 where
  pub view : registry ms vs queue timeout ≡ r
  pub same : length vs ≡ length ms
  pub kept : IsKept (registry ms vs queue timeout) room used ordered

-- of opened records, by what they are and the first two parts of their invariant
pub shows : {r : Registry} {ms : List Metadata} {vs : List Values} {queue : List ℕ} {timeout room used : ℕ}
    {ordered : Bool} {live : List Bool} → registry ms vs queue timeout ≡ r
    → (length vs ≡ length ms) × IsKept (registry ms vs queue timeout) room used ordered × (live ≡ live_flags ms)
    → Shows r ms vs queue timeout room used ordered
shows view invariant = record { view = view; same = invariant.0; kept = invariant.1 }

module _ {r : Registry} {ms : List Metadata} {vs : List Values} {queue : List ℕ} {timeout room used : ℕ}
    {ordered : Bool} (s : Shows r ms vs queue timeout room used ordered) where
  pub shown_kept : IsKept r room used ordered
  shown_kept = subst (λ (x : Registry). IsKept x room used ordered) s.view s.kept

  pub shown_size : length ms ≡ count_of r
  shown_size = sym (length-counters_of ms vs s.same) ∙ ap (λ (x : Registry). count_of x) s.view

  pub shown_queue : queue ≡ r.freed
  shown_queue = ap (λ (x : Registry). x.freed) s.view

  pub shown_at : (id : ℕ) → counter (get_or ms id unused_metadata) (get_or vs id unused_values) ≡ counter_at r id
  shown_at id = sym (counters_of-at ms vs s.same id) ∙ ap (λ (x : Registry). counter_at x id) s.view

  counters_shown : counters_of ms vs ≡ r.counters
  counters_shown = ap (λ (x : Registry). x.counters) s.view

  pub stored : (id : ℕ) (m : Metadata) (v : Values) (freed : List ℕ)
      → registry (set ms id m) (set vs id v) freed timeout
      ≡ record r { counters = set r.counters id (counter m v); freed = freed }
  stored id m v freed = λ i. record {
    counters = (counters_of-set ms vs s.same id m v ∙ ap (λ cs. set cs id (counter m v)) counters_shown) i;
    freed = freed;
    reuse_ms = (s.view i).reuse_ms;
  }

  pub stored_metadata : (id : ℕ) (m : Metadata) (freed : List ℕ)
      → registry (set ms id m) vs freed timeout
      ≡ record r { counters = set r.counters id (counter m (counter_at r id).values); freed = freed }
  stored_metadata id m freed = λ i. record {
    counters = (counters_of-set_metadata ms vs s.same id m
        ∙ (λ j. set (counters_shown j) id (counter m (shown_at id j).values))) i;
    freed = freed;
    reuse_ms = (s.view i).reuse_ms;
  }

  pub stored_values : (id : ℕ) (v : Values)
      → registry ms (set vs id v) queue timeout
      ≡ record r { counters = set r.counters id (counter (counter_at r id).metadata v) }
  stored_values id v = λ i. record {
    counters = (counters_of-set_values ms vs s.same id v
        ∙ (λ j. set (counters_shown j) id (counter (shown_at id j).metadata v))) i;
    freed = shown_queue i;
    reuse_ms = (s.view i).reuse_ms;
  }

  same_stored : (id : ℕ) (m : Metadata) (v : Values) → length (set vs id v) ≡ length (set ms id m)
  same_stored id m v = length-set vs id v ∙ s.same ∙ sym (length-set ms id m)

  -- the id was taken out of the queue at i
  module _ (i : ℕ) (id : ℕ) (freed : List ℕ) (less : i < length r.freed) (taken : id ≡ get_or queue i 0)
      (left : freed ≡ remove queue i) where
    is : id ≡ get_or r.freed i 0
    is = taken ∙ ap (λ l. get_or l i 0) shown_queue

    rest : freed ≡ remove r.freed i
    rest = left ∙ ap (λ l. remove l i) shown_queue

    pub reused_inside : id < length ms
    reused_inside =
        let inside : get_or r.freed i 0 < count_of r = inside_from_status r.counters (get_or r.freed i 0)
        (used_from_reclaimed (status_at r (get_or r.freed i 0))
        (reclaimed_at r.counters r.freed i less shown_kept.reclaimed)) in
        omega (arith, shown_size, is)

    pub reused_kept : (m : Metadata) (v : Values) → m.status ≡ Allocated
        → (length (set vs id v) ≡ length (set ms id m))
        × IsKept (registry (set ms id m) (set vs id v) freed timeout) room used ordered
    reused_kept m v new = (
      same_stored id m v,
      subst (λ (x : Registry). IsKept x room used ordered)
          (sym (stored id m v freed
          ∙ (λ j. record r { counters = set r.counters (is j) (counter m v); freed = rest j })))
          (kept_reused r room used ordered shown_kept i (counter m v) less new),
    )

  module _ (id : ℕ) (first : unused_id r ≡ Some id) where
    next_used : (used < count_of r) × (used ≡ id)
    next_used =
        let e = sym (unused_id-kept r room used ordered shown_kept) ∙ first in
        elim (cases_lt used (count_of r)) as (λ _. (used < count_of r) × (used ≡ id)) [
          | inl less ↦ (
            less,
            (let f : Some used ≡ Some id =
                sym (cond-true _ (Some used) None (lt-ltb used (count_of r) less)) ∙ e in cc),
          )
          | inr more ↦ absurd (let f : None ≡ Some id =
              sym (cond-false _ (Some used) None (le-ltb used (count_of r) more)) ∙ e in cc)
        ]

    pub begun_inside : id < length ms
    begun_inside = omega (arith, shown_size, next_used.0, next_used.1)

    pub begun_shown : (m : Metadata) (v : Values)
        → registry (set ms id m) (set vs id v) queue timeout ≡ allocated_in r id (counter m v)
    begun_shown m v =
        let none : is_reclaimed (status_at r id) ≡ false =
        ap (λ (y : Counter). is_reclaimed y.metadata.status) (shown_kept.unused id (omega (arith, next_used.1))) in
        stored id m v queue
        ∙ (λ j. record r {
          counters = set r.counters id (counter m v);
          freed = (shown_queue
              ∙ sym (without_absent id r.freed (absent_from_status r.counters r.freed id shown_kept.reclaimed none))) j;
        })

    pub begun_kept : (m : Metadata) (v : Values) → m.status ≡ Allocated
        → (length (set vs id v) ≡ length (set ms id m))
        × IsKept (registry (set ms id m) (set vs id v) queue timeout) room (id + 1) ordered
    begun_kept m v new = (
      same_stored id m v,
      subst (λ (x : Registry). IsKept x room (id + 1) ordered)
          (sym (stored id m v queue
          ∙ (λ j. record r { counters = set r.counters id (counter m v); freed = shown_queue j })))
          (subst (λ k. IsKept (record r { counters = set r.counters k (counter m v) }) room (k + 1) ordered) next_used.1
          (kept_begun r room used ordered shown_kept (counter m v) next_used.0 new)),
    )

  module _ (id : ℕ) (was : is_allocated (status_at r id) ≡ true) where
    pub allocated_below : id < length ms
    allocated_below =
        omega (arith, shown_size, inside_from_status r.counters id (used_from_allocated (status_at r id) was))

    pub room_left : length queue < room
    room_left = omega (arith, ap length shown_queue, room_for_one r room used ordered shown_kept id was)

    reclaimed_as : (m : Metadata) (freed : List ℕ) (now : ℕ)
        → m ≡ record (counter_at r id).metadata { status = Reclaimed (now + r.reuse_ms) } → freed ≡ r.freed ++ id ∷ []
        → registry (set ms id m) vs freed timeout ≡ reclaimed_in r now id
    reclaimed_as m freed now is more = stored_metadata id m freed
        ∙ (λ j. record r { counters = set r.counters id (counter (is j) (counter_at r id).values); freed = more j })

    pub reclaimed_shown : (m : Metadata) (freed : List ℕ) (now : ℕ)
        → m ≡ record (get_or ms id unused_metadata) { status = Reclaimed (now + timeout) } → freed ≡ queue ++ id ∷ []
        → registry (set ms id m) vs freed timeout ≡ reclaimed_in r now id
    reclaimed_shown m freed now is more =
        reclaimed_as m freed now
        (is ∙ (λ j. record (shown_at id j).metadata { status = Reclaimed (now + (s.view j).reuse_ms) }))
        (more ∙ ap (λ l. l ++ id ∷ []) shown_queue)

    pub reclaimed_kept : (m : Metadata) (freed : List ℕ) (now : ℕ) (still : Bool)
        → (still ≡ true → 0 < length queue → (ordered ≡ true)
        × (deadline_of (get_or ms (get_or queue (length queue - 1) 0) unused_metadata).status ≤ now + timeout))
        → m ≡ record (get_or ms id unused_metadata) { status = Reclaimed (now + timeout) }
        → freed ≡ queue ++ id ∷ []
        → (length vs ≡ length (set ms id m)) × IsKept (registry (set ms id m) vs freed timeout) room used still
    reclaimed_kept m freed now still last is more =
        let size = ap length shown_queue in
        let end : deadline_of (get_or ms (get_or queue (length queue - 1) 0) unused_metadata).status
        ≡ deadline_at r.counters (get_or r.freed (length r.freed - 1) 0) =
        ap (λ (c : Counter). deadline_of c.metadata.status) (shown_at (get_or queue (length queue - 1) 0))
        ∙ (λ i. deadline_at r.counters (get_or (shown_queue i) (size i - 1) 0)) in
        let wait : timeout ≡ r.reuse_ms = ap (λ (x : Registry). x.reuse_ms) s.view in (
          s.same ∙ sym (length-set ms id m),
          subst (λ (x : Registry). IsKept x room used still) (sym (reclaimed_shown m freed now is more))
              (kept_reclaimed r room used ordered shown_kept id was now still
              (λ o some. let h = last o (omega arith) in (h.0, omega (arith, h.1)))),
        )

    pub valued_shown : (v : Values) (value : ℤ) → v ≡ record (get_or vs id unused_values) { value = value }
        → registry ms (set vs id v) queue timeout ≡ with_value r id value
    valued_shown v value is =
        stored_values id v
        ∙ (λ j. record r {
          counters = set r.counters id
              (counter (counter_at r id).metadata ((is ∙ (λ k. record (shown_at id k).values { value = value })) j));
        })

    pub valued_kept : (v : Values) (value : ℤ) → v ≡ record (get_or vs id unused_values) { value = value }
        → (length (set vs id v) ≡ length ms) × IsKept (registry ms (set vs id v) queue timeout) room used ordered
    valued_kept v value is = (
      length-set vs id v ∙ s.same,
      subst (λ (x : Registry). IsKept x room used ordered) (sym (valued_shown v value is))
          (kept_changed r room used ordered shown_kept id
          (counter (counter_at r id).metadata (record (counter_at r id).values { value = value })) was refl),
    )

-- ---- the first id that is due

module _ {A : Type 0} (p : A → Bool) (xs : List A) (d : A) where
  -- none of the first i passes
  abbrev pub NoneBefore : ℕ → Type 0
  NoneBefore i = (k : ℕ) → k < i → p (get_or xs k d) ≡ false

  pub position_some : (i : ℕ) → i < length xs → NoneBefore i → p (get_or xs i d) ≡ true → position p xs ≡ Some i
  position_some i less before here =
      let e = position_or_len_is p xs i d (omega arith) before (λ _. here) in
      ap (λ n. cond (nat_lt n (length xs)) (Some n) None) e ∙ cond-true _ _ _ (lt-ltb i (length xs) less)

  pub position_none : NoneBefore (length xs) → position p xs ≡ None
  position_none before =
      let e = position_or_len_is p xs (length xs) d (omega arith) before (λ less. absurd (omega arith)) in
      ap (λ n. cond (nat_lt n (length xs)) (Some n) None) e
      ∙ cond-false _ _ _ (le-ltb (length xs) (length xs) (omega arith))

pub due_from_deadline : (now : ℕ) (s : Status) → is_reclaimed s ≡ true → deadline_of s ≤ now → is_due now s ≡ true
due_from_deadline now Unused e h = e
due_from_deadline now Allocated e h = e
due_from_deadline now (Reclaimed d) e h = le-leb d now h

pub not_due_from_deadline : (now : ℕ) (s : Status) → now < deadline_of s → is_due now s ≡ false
not_due_from_deadline now Unused h = refl
not_due_from_deadline now Allocated h = refl
not_due_from_deadline now (Reclaimed d) h = lt-leb d now h

-- if one is not due, none with a later deadline is
pub later_not_due : (now : ℕ) (s t : Status) → is_reclaimed s ≡ true → is_due now s ≡ false
    → deadline_of s ≤ deadline_of t → is_due now t ≡ false
later_not_due now Unused t r e h = absurd (true≢false (sym r))
later_not_due now Allocated t r e h = absurd (true≢false (sym r))
later_not_due now (Reclaimed d) t r e h =
    let after : now < d = leb-false d now e in not_due_from_deadline now t (omega arith)

-- a freed id is that of a reclaimed counter
module _ {r : Registry} {ms : List Metadata} {vs : List Values} {queue : List ℕ} {timeout room used : ℕ}
    {ordered : Bool} (s : Shows r ms vs queue timeout room used ordered) (i id : ℕ) (less : i < length r.freed)
    (read : id ≡ get_or queue i id) where
  queued : id ≡ get_or r.freed i 0
  queued = read ∙ ap (λ l. get_or l i id) (shown_queue s) ∙ get_or_default r.freed i id 0 less

  pub queued_reclaimed : is_reclaimed (status_at r id) ≡ true
  queued_reclaimed =
      ap (λ k. is_reclaimed (status_at r k)) queued
      ∙ reclaimed_at r.counters r.freed i less (shown_kept s).reclaimed

  pub queued_inside : id < length ms
  queued_inside =
      omega (
        arith,
        shown_size s,
        inside_from_status r.counters id
            (used_from_reclaimed (status_at r id) queued_reclaimed),
      )

  module _ (now : ℕ) (m : Metadata) (here : m ≡ get_or ms id m) where
    queued_status : m.status ≡ status_at r (get_or r.freed i 0)
    queued_status =
        ap (λ (x : Metadata). x.status) (here ∙ get_or_default ms id m unused_metadata queued_inside)
        ∙ ap (λ (c : Counter). c.metadata.status) (shown_at s id)
        ∙ ap (status_at r) queued

    pub queued_due : deadline_of m.status ≤ now → is_due now (status_at r (get_or r.freed i 0)) ≡ true
    queued_due h =
        due_from_deadline now (status_at r (get_or r.freed i 0))
        (sym (ap (λ k. is_reclaimed (status_at r k)) queued) ∙ queued_reclaimed)
        (omega (arith, ap deadline_of queued_status))

    pub queued_not_due : now < deadline_of m.status → is_due now (status_at r (get_or r.freed i 0)) ≡ false
    queued_not_due h =
        not_due_from_deadline now (status_at r (get_or r.freed i 0)) (omega (arith, ap deadline_of queued_status))

position_tells : (p : ℕ → Bool) (ids : List ℕ) (i : ℕ) → position p ids ≡ Some i
    → (i < length ids) × (i ≡ position_or_len p ids)
position_tells p ids i e =
    let n = position_or_len p ids in
    elim (cases_lt n (length ids)) as (λ _. (i < length ids) × (i ≡ n)) [
      | inl less ↦ (let f : Some n ≡ Some i = sym (cond-true _ (Some n) None (lt-ltb n (length ids) less))
          ∙ e in let same : n ≡ i = cc in (omega arith, sym same))
      | inr more ↦ absurd (let f : None ≡ Some i = sym (cond-false _ (Some n) None (le-ltb n (length ids) more))
          ∙ e in cc)
    ]

pub position_misses : {X : Type 0} (p : X → Bool) (ids : List X) → position p ids ≡ None
    → length ids ≤ position_or_len p ids
position_misses p ids e =
    let n = position_or_len p ids in
    elim (cases_lt n (length ids)) as (λ _. length ids ≤ n) [
      | inl less ↦ absurd (let f : Some n ≡ None = sym (cond-true _ (Some n) None (lt-ltb n (length ids) less))
          ∙ e in cc)
      | inr more ↦ more
    ]

module _ (r : Registry) (now : ℕ) where
  pub next_due : (at : ℕ) → position (λ id. is_due now (status_at r id)) r.freed ≡ Some at
      → next_id r now ≡ Some (get_or r.freed at 0)
  next_due at e =
      let t = position_tells (λ id. is_due now (status_at r id)) r.freed at e in
      ap (λ o. or_else o (unused_id r)) (first_found (λ id. is_due now (status_at r id)) r.freed at t.1 t.0).0

  pub without_due : (at : ℕ) → position (λ id. is_due now (status_at r id)) r.freed ≡ Some at
      → remove r.freed at ≡ without (get_or r.freed at 0) r.freed
  without_due at e =
      let t = position_tells (λ id. is_due now (status_at r id)) r.freed at e in
      (first_found (λ id. is_due now (status_at r id)) r.freed at t.1 t.0).1

  pub next_unused : position (λ id. is_due now (status_at r id)) r.freed ≡ None → next_id r now ≡ unused_id r
  next_unused e = ap (λ o. or_else o (unused_id r))
      (none_found (λ id. is_due now (status_at r id)) r.freed
      (position_misses (λ id. is_due now (status_at r id)) r.freed e))

-- ---- a registry as it is made

module _ (count reuse_ms : ℕ) (ms : List Metadata) (vs : List Values) (queue : List ℕ)
    (all_ms : ms ≡ replicate count unused_metadata) (all_vs : vs ≡ replicate count unused_values)
    (none : queue ≡ []) where
  pub fresh_shown : registry ms vs queue reuse_ms ≡ fresh_registry count reuse_ms
  fresh_shown =
      let empty : List Counter → Registry = λ cs. record { counters = cs; freed = []; reuse_ms = reuse_ms } in
      (λ i. registry (all_ms i) (all_vs i) (none i) reuse_ms) ∙ ap empty (counters_of-replicate count)

  pub fresh_kept : (room : ℕ) → count ≤ 4096 → count ≤ room
      → (length vs ≡ length ms) × IsKept (registry ms vs queue reuse_ms) room 0 true
  fresh_kept room few enough = (
    ap length all_vs ∙ length-replicate count unused_values ∙ sym (length-replicate count unused_metadata)
        ∙ sym (ap length all_ms),
    subst (λ (x : Registry). IsKept x room 0 true) (sym fresh_shown) (kept_fresh count reuse_ms room few enough),
  )

-- the queue's ids are within the records
module _ {r : Registry} {ms : List Metadata} {vs : List Values} {queue : List ℕ} {timeout room used : ℕ}
    {ordered : Bool} (s : Shows r ms vs queue timeout room used ordered) where
  pub all_inside : (k : ℕ) → k < length queue → get_or queue k 0 < length ms
  all_inside k less =
      queued_inside s k (get_or queue k 0) (omega (arith, ap length (shown_queue s)))
      (get_or_default queue k 0 (get_or queue k 0) less)

  -- no deadline is before the first, if the queue is in order
  pub first_deadline : ordered ≡ true → (k : ℕ) → k < length queue
      → deadline_of (status_at r (get_or r.freed 0 0)) ≤ deadline_of (status_at r (get_or r.freed k 0))
  first_deadline o k less =
      let kept = shown_kept s in
      let size = ap length (shown_queue s) in
      first_is_least r.counters r.freed k (omega arith) (kept.order o)

  pub rest_not_due : (now end : ℕ) → (0 < length queue → 0 < end)
      → ((k : ℕ) → end ≤ k → k < length r.freed
      → deadline_of (status_at r (get_or r.freed 0 0)) ≤ deadline_of (status_at r (get_or r.freed k 0)))
      → ((k : ℕ) → k < end → is_due now (status_at r (get_or r.freed k 0)) ≡ false) → (k : ℕ) → k < length r.freed
      → is_due now (status_at r (get_or r.freed k 0)) ≡ false
  rest_not_due now end some later before k less =
      let kept = shown_kept s in
      let size = ap length (shown_queue s) in
      elim (cases_lt k end) as (λ _. is_due now (status_at r (get_or r.freed k 0)) ≡ false) [
        | inl near ↦ before k near
        | inr far ↦
            later_not_due now (status_at r (get_or r.freed 0 0)) (status_at r (get_or r.freed k 0))
            (reclaimed_at r.counters r.freed 0 (omega arith) kept.reclaimed)
            (before 0 (some (omega arith))) (later k far less)
      ]
