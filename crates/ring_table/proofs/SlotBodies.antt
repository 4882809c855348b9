-- What whole bodies in slots leave of a view.
use Rattle.std.proofs.Common.{◌≡◌, ℕ, [], ◌∷◌, sym, ◌∙◌}
use Rattle.ring_table.specs.{Staged.StagedClaim, Staged.PlacedMessage, ProducerSteps.with_changed, SlotSteps.with_out}
use Rattle.ring_table.specs.Views.{View}

-- a body was out, and the claim is changed as it goes home
pub body_given : (v w : View) (m : PlacedMessage) (place : ℕ) (f : StagedClaim → StagedClaim) → v.out ≡ []
    → m.place ≡ place → w ≡ with_out [] (with_changed m.place f (with_out (m ∷ []) v)) → w ≡ with_changed place f v
body_given v w m place f none at is = is ∙ λ i. with_out (sym none i) (with_changed (at i) f v)
