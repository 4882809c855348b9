-- The registry keeps agreeing with the value writes.
use Rattle.std.proofs.Common.{◌≡◌, ◌≢◌, ℕ, ℤ, zero, suc, ◌+◌, ◌<◌, true, false, cond, eqb, List, [], ◌∷◌, ◌++◌, length, set, fold, refl, sym, ap, subst, ◌∙◌, ⊎_elim, inl, inr, get_or, get_or-set_other, get_or-set_same, length-set, Some, None, Result, Ok, Err, le-leb}
use Rattle.std.proofs.lemmas.Bool.{cases_lt, cond-true, Decides.eqb_tells}
use Rattle.ring_counters.specs.{declared.values.view.ValueWrite.ValueWrite, Views.value_write, Agree.Agree}
use Rattle.ring_counters.specs.{Counter.Counter, Counter.Reclaimed, Counter.unused_counter, ValueWrites.value_after}
use Rattle.ring_counters.specs.Registry.{Registry, count_of, counter_at, reclaimed_in, closed_in, owned_ids, status_at, is_allocated, answer, id_refusal_of}
use Rattle.ring_counters.specs.declared.fault.IdFault.{IdFault, TheVariants.BadId, TheVariants.NotAllocated}
use Rattle.ring_counters.proofs.ValueSteps.{value_after-snoc}

abbrev value_at : List Counter → ℕ → ℤ
value_at cs id = (get_or cs id unused_counter).values.value

value_stored : (cs : List Counter) (id k : ℕ) (c : Counter) → id < length cs
    → value_at (set cs id c) k ≡ cond (eqb id k) c.values.value (value_at cs k)
value_stored cs id k c less =
    ⊎_elim
    (λ (t : (eqb id k ≡ true) × (id ≡ k)).
    subst (λ j. value_at (set cs id c) j ≡ c.values.value) t.1
    (ap (λ (x : Counter). x.values.value) (get_or-set_same cs id c unused_counter less))
    ∙ sym (ap (λ b. cond b c.values.value (value_at cs k)) t.0))
    (λ (f : (eqb id k ≡ false) × (id ≢ k)).
    ap (λ (x : Counter). x.values.value) (get_or-set_other cs id k c unused_counter (λ e. f.1 (sym e)))
    ∙ sym (ap (λ b. cond b c.values.value (value_at cs k)) f.0))
    (eqb_tells id k)

-- a counter is stored, and its value is written
module _ (r s : Registry) (id : ℕ) (c : Counter) (is : s.counters ≡ set r.counters id c) where
  pub agree_stored : (writes more : List ValueWrite) (value : ℤ) → Agree r writes → id < count_of r
      → c.values.value ≡ value → more ≡ writes ++ value_write id value ∷ [] → Agree s more
  agree_stored writes more value agree less same is_more k =
      ap (λ cs. value_at cs k) is
      ∙ value_stored r.counters id k c less
      ∙ (λ i. cond (eqb id k) (same i) (agree k i))
      ∙ sym (value_after-snoc k writes (value_write id value))
      ∙ ap (value_after k) (sym is_more)

  pub count_stored : count_of s ≡ count_of r
  count_stored = ap (λ (cs : List Counter). length cs) is ∙ length-set r.counters id c

value_kept : (cs : List Counter) (id : ℕ) (c : Counter) → c.values.value ≡ value_at cs id → (k : ℕ)
    → value_at (set cs id c) k ≡ value_at cs k
value_kept [] id c e k = refl
value_kept (x ∷ cs) zero c e zero = e
value_kept (x ∷ cs) zero c e (suc k) = refl
value_kept (x ∷ cs) (suc id) c e zero = refl
value_kept (x ∷ cs) (suc id) c e (suc k) = value_kept cs id c e k

abbrev reclaimed_all : Registry → ℕ → List ℕ → Registry
reclaimed_all r now ids = fold (λ s id. reclaimed_in s now id) r ids

agree_all : (ids : List ℕ) (r : Registry) (now : ℕ) (writes : List ValueWrite) → Agree r writes
    → Agree (reclaimed_all r now ids) writes
agree_all [] r now writes agree = agree
agree_all (id ∷ ids) r now writes agree =
    let c = counter_at r id in
    agree_all ids (reclaimed_in r now id) now writes
    (λ k. value_kept r.counters id
    (record c { metadata = record c.metadata { status = Reclaimed (now + r.reuse_ms) } }) refl k ∙ agree k)

count_all : (ids : List ℕ) (r : Registry) (now : ℕ) → count_of (reclaimed_all r now ids) ≡ count_of r
count_all [] r now = refl
count_all (id ∷ ids) r now =
    let c = counter_at r id in
    count_all ids (reclaimed_in r now id) now
    ∙ length-set r.counters id (record c { metadata = record c.metadata { status = Reclaimed (now + r.reuse_ms) } })

pub agree_closed : (r : Registry) (now owner : ℕ) (writes : List ValueWrite) → Agree r writes
    → Agree (closed_in r now owner) writes
agree_closed r now owner writes agree = agree_all (owned_ids r owner) r now writes agree

pub count_closed : (r : Registry) (now owner : ℕ) → count_of (closed_in r now owner) ≡ count_of r
count_closed r now owner = count_all (owned_ids r owner) r now

abbrev accepted : Result (Unit {0}) IdFault
accepted = Ok tt

-- an id that is not refused is that of a counter in use
pub accepted_inside : (r : Registry) (id : ℕ) → accepted ≡ answer (id_refusal_of r id) tt → id < count_of r
accepted_inside r id e =
    elim (cases_lt id (count_of r)) as (λ _. id < count_of r) [
      | inl less ↦ less
      | inr more ↦
          absurd (let f : accepted ≡ Err BadId = e
          ∙ ap (λ o. answer o tt) (cond-true _ (Some BadId)
          (cond (is_allocated (status_at r id)) None (Some NotAllocated)) (le-leb (count_of r) id more)) in cc)
    ]
