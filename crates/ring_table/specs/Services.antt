-- Correlation ids and heartbeats.
use Rattle.std.specs.Prelude.{◌≡◌, ℕ, ◌+◌, ◌≤◌, List, [], ◌∷◌, length, if◌then◌else◌, nat_lt, ◌==◌, ⊤}
use mathlib.Core.Option.{some}
use lib.ListN.{get_elem?}
use Rattle.ring_layout.specs.Lists.{total}
pub use Rattle.ring_table.specs.declared.view.Service.{Service}
use Rattle.ring_table.specs.declared.view.ProducerView.{ProducerView}

-- the number of times that x is in the list
abbrev pub times : ℕ → List ℕ → ℕ
times x xs = total (λ y. if y == x then 1 else 0) xs

-- the number of times that a producer, or one that was joined into it, drew the number x
abbrev pub times_drawn : ℕ → ProducerView → ℕ
times_drawn x p = total (λ (s : Service). times x s.draws) (p.service ∷ p.joined)

-- 1 if x is below n
abbrev pub once_below : ℕ → ℕ → ℕ
once_below x n = if nat_lt x n then 1 else 0

-- the numbers rise, from `low` on and below n
abbrev pub AreRisingBelow : ℕ → ℕ → List ℕ → Type 0
AreRisingBelow low n [] = low ≤ n
AreRisingBelow low n (x ∷ xs) = (low ≤ x) × AreRisingBelow (x + 1) n xs

-- the heartbeats are entries, from the index `low` on, of 0 and then the values stored, and never go back
abbrev pub NeverGoBack : ℕ → List ℕ → List (ℕ × ℕ) → Type 0
NeverGoBack low stored [] = low ≤ length stored
NeverGoBack low stored (x ∷ xs) = (low ≤ x.0) × (get_elem? (0 ∷ stored) x.0 ≡ some x.1) × NeverGoBack x.0 stored xs

-- what one producer drew, of n numbers in all, and read of the values stored
pub record IsServed (n : ℕ) (stored : List ℕ) (s : Service) : Type 0 where
  pub draws : AreRisingBelow 0 n s.draws
  pub heartbeats : NeverGoBack 0 stored s.heartbeats

abbrev pub AreServed : ℕ → List ℕ → List Service → Type 0
AreServed n stored [] = ⊤
AreServed n stored (s ∷ ss) = IsServed n stored s × AreServed n stored ss
