-- The claims of several producers as one history.
use Rattle.std.specs.Prelude.{ℕ, List, [], ◌∷◌, if◌then◌else◌, nat_lt, ◌==◌}
use Rattle.ring_table.specs.{Staged.StagedClaim, Changes.changed_at}

-- claims, the oldest first, each with the seat of its producer
abbrev pub OwnedHistory : Type 0
OwnedHistory = List (ℕ × StagedClaim)

abbrev pub all_of : OwnedHistory → List StagedClaim
all_of [] = []
all_of (x ∷ xs) = x.1 ∷ all_of xs

-- the claims of the seat id
abbrev pub owned_by : ℕ → OwnedHistory → List StagedClaim
owned_by id [] = []
owned_by id (x ∷ xs) = if x.0 == id then x.1 ∷ owned_by id xs else owned_by id xs

-- the claim of the seat id at the place p is changed
abbrev pub edited_one : ℕ → ℕ → (StagedClaim → StagedClaim) → ℕ × StagedClaim → ℕ × StagedClaim
edited_one id p f x = (x.0, if x.0 == id then changed_at p f x.1 else x.1)

abbrev pub edited : ℕ → ℕ → (StagedClaim → StagedClaim) → OwnedHistory → OwnedHistory
edited id p f [] = []
edited id p f (x ∷ xs) = edited_one id p f x ∷ edited id p f xs

-- a claim put among others by its place
abbrev pub insert_claim : StagedClaim → List StagedClaim → List StagedClaim
insert_claim c [] = c ∷ []
insert_claim c (d ∷ ds) = if nat_lt c.place d.place then c ∷ d ∷ ds else d ∷ insert_claim c ds

-- two lists of claims put together by rising place
abbrev pub interleaved : List StagedClaim → List StagedClaim → List StagedClaim
interleaved xs [] = xs
interleaved xs (y ∷ ys) = insert_claim y (interleaved xs ys)

-- the claims of one seat go over to another
abbrev pub handed_over : ℕ → ℕ → OwnedHistory → OwnedHistory
handed_over other id [] = []
handed_over other id (x ∷ xs) = ((if x.0 == other then id else x.0), x.1) ∷ handed_over other id xs
