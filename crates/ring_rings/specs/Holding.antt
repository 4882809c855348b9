-- The open claims that the owner of a producer holds.
use Rattle.std.specs.Prelude.{◌≢◌, ℕ, List, [], ◌∷◌, All, Option, Some, None}
use Rattle.ring_words.specs.Open.{ClaimAt}
use Rattle.ring_table.specs.declared.view.View.{View}
use Rattle.ring_rings.specs.Seats.{IsOpenAt}

-- the contents of these slots, of which some are empty
abbrev pub in_slots : {A : Type 0} → List (Option A) → List A
in_slots [] = []
in_slots (None ∷ slots) = in_slots slots
in_slots (Some x ∷ slots) = x ∷ in_slots slots

-- the claims are at different places
abbrev pub AreApart : List ClaimAt → Type 0
AreApart [] = Unit {0}
AreApart (t ∷ ts) = All (λ u. t.place ≢ u.place) ts × AreApart ts

-- each claim is an open one of the producer with this view, and the claims are at different places
pub record AreOpenAt (C : ℕ) (v : View) (claims : List ClaimAt) : Type 0 where
  pub each : All (IsOpenAt C v) claims
  pub apart : AreApart claims
