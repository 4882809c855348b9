-- What a consumer has passed.
use Rattle.std.specs.Prelude.{◌≡◌, ◌≢◌, ◌⊎◌, ℕ, List, [], ◌∷◌, ◌++◌, ⊤}
use Rattle.ring_layout.specs.declared.message.ClaimState.TheVariants.{Open, Committed, Aborted}
use Rattle.ring_table.specs.Staged.{StagedClaim, PlacedMessage, Stage, Moved, Padded, Stored, claim_end}

abbrev pub IsSettled : Stage → Type 0
IsSettled Moved = ⊥
IsSettled Padded = ⊥
IsSettled (Stored Open) = ⊥
IsSettled (Stored Committed) = ⊤
IsSettled (Stored Aborted) = ⊤

abbrev pub AreSettled : List StagedClaim → Type 0
AreSettled [] = ⊤
AreSettled (c ∷ cs) = IsSettled c.stage × AreSettled cs

abbrev pub placed_message : StagedClaim → PlacedMessage
placed_message c = record { place = c.place; message = c.message }

-- what a claim at this stage shows of its message
abbrev pub shown_at : Stage → PlacedMessage → List PlacedMessage
shown_at Moved m = []
shown_at Padded m = []
shown_at (Stored Open) m = []
shown_at (Stored Committed) m = m ∷ []
shown_at (Stored Aborted) m = []

-- the messages of the committed claims with their places, in order
abbrev pub placed_committed_of : List StagedClaim → List PlacedMessage
placed_committed_of [] = []
placed_committed_of (c ∷ cs) = shown_at c.stage (placed_message c) ++ placed_committed_of cs

-- From e on a reader has come to s and got these messages: it is at the first claim, or after that claim's padding,
-- whose header is stored, or past the claim, which is settled
abbrev pub Reaches : ℕ → ℕ → List StagedClaim → List PlacedMessage → Type 0
Reaches s e [] got = (s ≡ e) × (got ≡ [])
Reaches s e (c ∷ cs) got =
    ((s ≡ e) × (got ≡ []))
    ⊎ (((s ≡ c.place) × (c.stage ≢ Moved) × (got ≡ []))
    ⊎ (IsSettled c.stage × ((later : List PlacedMessage) × (got ≡ shown_at c.stage (placed_message c) ++ later)
    × Reaches s (claim_end c) cs later)))
