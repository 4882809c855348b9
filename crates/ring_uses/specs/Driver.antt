-- The conductor to which the callers belong.
use Rattle.std.specs.Prelude.{◌≡◌}
use Rattle.ring_ends.specs.declared.lending.Shared.{Shared}
use Rattle.ring_uses.specs.declared.driver.client.Caller.{Caller}

-- both callers are clients of the conductor that shares this
abbrev pub AreCallersOf : Shared → Caller × Caller → Type 0
AreCallersOf s callers = (callers.0.client.shared ≡ s) × (callers.1.client.shared ≡ s)

-- each caller is a client of the same conductor as before
abbrev pub KeepConductors : Caller × Caller → Caller × Caller → Type 0
KeepConductors old new = (new.0.client.shared ≡ old.0.client.shared) × (new.1.client.shared ≡ old.1.client.shared)
