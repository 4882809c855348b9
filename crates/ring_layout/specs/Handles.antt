-- The effect of a list of messages on a handler.
use Rattle.std.specs.Prelude.{◌≡◌, List, [], ◌∷◌}
use Rattle.ring_layout.specs.History.{Message}

-- the handler was shown these messages in order, returned these actions, and went from the first state to the last
abbrev pub Handles : {S A : Type 0} → (S → Message → S → A → Type 0) → S → List Message → List A → S → Type 0
Handles step s [] [] t = s ≡ t
Handles step s [] (a ∷ actions) t = ⊥
Handles step s (m ∷ ms) [] t = ⊥
Handles {S} step s (m ∷ ms) (a ∷ actions) t = (u : S) × step s m u a × Handles step u ms actions t
