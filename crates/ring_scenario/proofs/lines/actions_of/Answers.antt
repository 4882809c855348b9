use Rattle.std.proofs.Common.{◌≡◌, ◌∙◌, ℕ, zero, suc, ◌<◌, List, [], ◌∷◌, get_or, length, map, ap, arith, refl, subst, sym}
use Rattle.ring_words.specs.declared.read.action.Action.{Action}
use Rattle.ring_scenario.specs.Words.{letter_of}
use Rattle.ring_scenario.proofs.lines.actions_of.Goals as goal

-- each letter of some actions is one of an action
some_action : (actions : List Action) (i : ℕ) → i < length (map letter_of actions)
    → (action : Action) × (letter_of action ≡ get_or (map letter_of actions) i 0)
some_action [] i below = absurd (omega (arith, below))
some_action (action ∷ more) zero below = (action, refl)
some_action (action ∷ more) (suc i) below = some_action more i (omega (arith, below))

pub returns-in_default-clause-bad : goal.returns-in_default-clause-bad
returns-in_default-clause-bad c = λ _ actions is.
    let at = c.loop-letter.letter-index in
    let some = some_action actions at (subst (λ letters. at < length letters) (sym is) c.loop-letter-test.true) in
    c.in_default.ensures some.0 (some.1 ∙ ap (λ letters. get_or letters at 0) is)
