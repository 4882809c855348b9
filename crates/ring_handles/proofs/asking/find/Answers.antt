use Rattle.std.proofs.Common.{◌≡◌, ℤ, None, Some, refl, sym, ◌∙◌, subst, inl, inr, w32}
use Rattle.std.proofs.lemmas.Int.{to_z-of_z}
use Rattle.ring_counters.specs.{Manager.registry_of, Registry.registered_id}
use Rattle.ring_handles.proofs.asking.find.Goals as goal

pub returns-in-Some : goal.returns-in-Some
returns-in-Some c = inl (
  refl,
  subst (λ (n : ℤ). registered_id (registry_of c.args.manager.now) n c.args.registration
      ≡ Some c.in-Some.found) (to_z-of_z w32 c.args.type_id c.ranges.type_id) (sym c.find.ensures ∙ c.in-Some.is),
)

pub returns-in-None : goal.returns-in-None
returns-in-None c = inr (
  refl,
  subst (λ (n : ℤ). registered_id (registry_of c.args.manager.now) n c.args.registration
      ≡ None) (to_z-of_z w32 c.args.type_id c.ranges.type_id) (sym c.find.ensures ∙ c.in-None.is),
  refl,
)
