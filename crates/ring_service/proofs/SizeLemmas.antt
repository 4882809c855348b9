-- No message changes the number of counters or their reuse timeout; no more counters are live than there are.
use Rattle.std.proofs.Common.{◌≡◌, ◌∙◌, ℕ, ◌+◌, ◌≤◌, ◌==◌, List, [], ◌∷◌, length, Bool, true, false, cond, Option, Some, None, Result, Ok, Err, refl, sym, ap, arith, fold, length-set}
use Rattle.std.proofs.lemmas.List.{length-map, length-replicate, Sums.count_by-le-length, Sums.length-filter}
use Rattle.std.proofs.lemmas.List.FromFn.{length-range_with_len}
use Rattle.ring_layout.specs.declared.message.Message.{Message}
use Rattle.ring_counters.specs.declared.values.view.ValueWrite.{ValueWrite}
use Rattle.ring_counters.specs.declared.fault.{AllocateRefused.AllocateRefused, IdFault.IdFault}
use Rattle.ring_counters.specs.Counter.{Counter, Reclaimed, unused_counter}
use Rattle.ring_counters.specs.Registry.{Registry, allocation_of, count_of, counter_at, fresh_registry, id_refusal_of, ids_of, is_allocated, live_ids, live_of, new_counter, owned_ids, reclaimed_in, status_at, with_value}
use Rattle.ring_protocol.specs.{declared.fault.Bad.Bad, declared.command.Request.Request, Command.Instruction}
use Rattle.ring_protocol.specs.declared.command.Request.TheVariants.{Allocate, Free, Set, AllocateOwned, Close}
use Rattle.ring_protocol.specs.Reading.{command_of}
use Rattle.ring_service.specs.Applied.{Outcome, allocated, done_unless, obeyed, obeyed_if_read}
use Rattle.ring_service.specs.Fold.{Ledger, fold_of, served}

pub record KeepsSize (r s : Registry) : Type 0 where
  pub count : count_of s ≡ count_of r
  pub reuse_ms : s.reuse_ms ≡ r.reuse_ms

same : (r : Registry) → KeepsSize r r
same r = record { count = refl; reuse_ms = refl }

twice : (r s t : Registry) → KeepsSize r s → KeepsSize s t → KeepsSize r t
twice r s t a b = record { count = b.count ∙ a.count; reuse_ms = b.reuse_ms ∙ a.reuse_ms }

reclaims : (r : Registry) (now id : ℕ) → KeepsSize r (reclaimed_in r now id)
reclaims r now id =
    let c = counter_at r id in
    record {
      count = length-set r.counters id
          (record c { metadata = record c.metadata { status = Reclaimed (now + r.reuse_ms) } });
      reuse_ms = refl;
    }

all_reclaimed : (now : ℕ) (ids : List ℕ) (r : Registry) → KeepsSize r (fold (λ s id. reclaimed_in s now id) r ids)
all_reclaimed now [] r = same r
all_reclaimed now (id ∷ ids) r = twice r (reclaimed_in r now id)
    (fold (λ s id. reclaimed_in s now id) (reclaimed_in r now id) ids) (reclaims r now id)
    (all_reclaimed now ids (reclaimed_in r now id))

sets : (r : Registry) (id : ℕ) (value : _) → KeepsSize r (with_value r id value)
sets r id value =
    let c = counter_at r id in
    record {
      count = length-set r.counters id (record c { values = record c.values { value = value } });
      reuse_ms =
          refl;
    }

allocates : (r : Registry) (correlation : ℕ) (c : Counter) (result : Result ℕ AllocateRefused)
    → KeepsSize r (allocated r correlation c result).registry
allocates r correlation c (Ok id) = record { count = length-set r.counters id c; reuse_ms = refl }
allocates r correlation c (Err fault) = same r

does : (o : Option IdFault) (r : Registry) (correlation : ℕ) (new : Registry) (writes : List ValueWrite)
    → KeepsSize r new → KeepsSize r (done_unless o r correlation new writes).registry
does None r correlation new writes keeps = keeps
does (Some fault) r correlation new writes keeps = same r

either : (b : Bool) (r : Registry) (x y : Outcome) → KeepsSize r x.registry → KeepsSize r y.registry
    → KeepsSize r (cond b x y).registry
either true r x y first second = first
either false r x y first second = second

obeys : (now : ℕ) (r : Registry) (correlation : ℕ) (asked : Request (List ℕ))
    → KeepsSize r (obeyed now r correlation asked).registry
obeys now r correlation (Allocate type_id key label) =
    allocates r correlation (new_counter type_id key label correlation 0) (allocation_of r now key label)
obeys now r correlation (AllocateOwned type_id owner key label) =
    allocates r correlation (new_counter type_id key label correlation owner) (allocation_of r now key label)
obeys now r correlation (Free id) =
    does (id_refusal_of r id) r correlation (reclaimed_in r now id) [] (reclaims r now id)
obeys now r correlation (Set id value) =
    does (id_refusal_of r id) r correlation (with_value r id value) _ (sets r id value)
obeys now r correlation (Close owner) = either (owner == 0) r _ _ (same r) (all_reclaimed now (owned_ids r owner) r)

pub reads : (now : ℕ) (r : Registry) (result : Result Instruction Bad) → KeepsSize r (obeyed_if_read now r result).registry
reads now r (Ok command) = obeys now r command.correlation command.request
reads now r (Err bad) = same r

-- a fold keeps both
pub folds_size : (l : Ledger) (ps : List (ℕ × Message)) → KeepsSize l.registry (fold_of l ps).registry
folds_size l [] = same l.registry
folds_size l (p ∷ ps) =
    let next = served l p.0 p.1 in
    twice l.registry next.registry (fold_of next ps).registry (reads p.0 l.registry (command_of p.1.type_id p.1.body))
    (folds_size next ps)

-- fresh counters are the fresh ones of their own number and timeout
pub fresh_again : (r : Registry) (count reuse_ms : ℕ) → r ≡ fresh_registry count reuse_ms
    → fresh_registry (count_of r) r.reuse_ms ≡ r
fresh_again r count reuse_ms e =
    let long : count_of r ≡ count = ap count_of e ∙ length-replicate count unused_counter in
    let time : r.reuse_ms ≡ reuse_ms = ap (λ (s : Registry). s.reuse_ms) e in
    (λ i. fresh_registry (long i) (time i)) ∙ sym e

-- no more are live than there are
pub few_live : (r : Registry) → length (live_of r) ≤ count_of r
few_live r =
    let entry : ℕ → ℕ × Counter = λ id. (id, counter_at r id) in
    let is_live : ℕ → Bool = λ id. is_allocated (status_at r id) in
    let mapped = length-map (live_ids r) entry in
    let filtered = length-filter is_live (ids_of r) in
    let few = count_by-le-length is_live (ids_of r) in
    let all = length-range_with_len 0 (count_of r) in
    omega arith
