use Rattle.std.proofs.Common.{◌≡◌, ℕ, ◌<◌, ◌∙◌, false, ap, arith, inl, inr, subst, sym, w32}
use Rattle.std.proofs.lemmas.{Bool.cases_lt, Int.to_z-of_z}
use Rattle.ring_counters.specs.{Counter.unused_counter, Registry.counter_at, Registry.is_registered}
use Rattle.ring_counters.proofs.ShownLemmas.{NoneBefore, position_some, position_none}
use Rattle.ring_counters.proofs.records.Records.find.Goals as goal

pub returns-then-is_registered : goal.returns-then-is_registered
returns-then-is_registered c =
    let none : NoneBefore (is_registered c.args.type_id c.args.registration) c.args.self.now.counters unused_counter
    c.loop-id.id =
    subst (λ t. NoneBefore (is_registered t c.args.registration) c.args.self.now.counters unused_counter c.loop-id.id)
    (to_z-of_z w32 c.args.type_id c.ranges.type_id) c.loop-id.invariant in
    sym (position_some (is_registered c.args.type_id c.args.registration) c.args.self.now.counters unused_counter
    c.loop-id.id (omega (arith, c.used-id-end.ensures.most, c.loop-id-test.true)) none
    (ap (λ t. is_registered t c.args.registration (counter_at c.args.self.now c.loop-id.id))
    (sym (to_z-of_z w32 c.args.type_id c.ranges.type_id)) ∙ sym c.is_registered.ensures ∙ c.if-is_registered.true))

pub returns : goal.returns
returns c =
    let none : NoneBefore (is_registered c.args.type_id c.args.registration) c.args.self.now.counters unused_counter
    c.loop-id.id =
    subst (λ t. NoneBefore (is_registered t c.args.registration) c.args.self.now.counters unused_counter c.loop-id.id)
    (to_z-of_z w32 c.args.type_id c.ranges.type_id) c.loop-id.invariant in
    sym (position_none (is_registered c.args.type_id c.args.registration) c.args.self.now.counters unused_counter
    (λ (k : ℕ) (less : k < _). elim (cases_lt k c.loop-id.id) as (λ _. is_registered c.args.type_id c.args.registration
    (counter_at c.args.self.now k) ≡ false) [
      | inl below ↦ none k below
      | inr behind ↦ ap (is_registered c.args.type_id c.args.registration)
          (c.used-id-end.ensures.unused k (omega (arith, c.loop-id-test.false)))
    ]))
