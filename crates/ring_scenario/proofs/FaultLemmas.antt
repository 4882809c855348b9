-- Which faults come from a line.
use Rattle.std.proofs.Common.{◌≡◌, ◌≢◌, ℕ, sym, subst}
use Rattle.ring_scenario.specs.declared.{fault.RunFault.RunFault, lines.fault.LineFault.LineFault}
use Rattle.ring_scenario.specs.declared.lines.fault.LineFault.TheVariants as line
use Rattle.ring_scenario.specs.Faults.{OfLine, fault_at}
use Rattle.ring_scenario.specs.declared.fault.RunFault.TheVariants.{BadCapacity, OutOfMemory, BadCount, BadLine, InputUnread, InputTooLong, OutputUnwritten, InUse}

pub of_line_weaker : (P Q : ℕ → Type 0) → ((n : ℕ) → P n → Q n) → (fault : RunFault) → OfLine P fault → OfLine Q fault
of_line_weaker P Q f BadCapacity h = tt
of_line_weaker P Q f OutOfMemory h = tt
of_line_weaker P Q f BadCount h = tt
of_line_weaker P Q f (BadLine n reason) h = f n h
of_line_weaker P Q f InputUnread h = tt
of_line_weaker P Q f InputTooLong h = tt
of_line_weaker P Q f OutputUnwritten h = tt
of_line_weaker P Q f InUse h = tt

pub of_fault_at : (P : ℕ → Type 0) (fault : RunFault) (f : LineFault) (n : ℕ) → fault ≡ fault_at n f
    → (f ≢ line.OutOfMemory → P n) → OfLine P fault
of_fault_at P fault (line.Bad reason) n is bad = subst (OfLine P) (sym is) (bad (λ clash. absurd (cc)))
of_fault_at P fault line.OutOfMemory n is bad = subst (OfLine P) (sym is) tt
