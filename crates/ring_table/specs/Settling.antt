-- How the claims that lost seats left are settled: by a walk from the head to the tail.
use Rattle.std.specs.Prelude.{◌≡◌, ℕ, ◌+◌, ◌%◌, ◌≤◌, ◌<◌, List, [], ◌∷◌, ◌++◌, length, slice_index, ⊤}
use Rattle.ring_layout.specs.Places.{index, max_position}
use Rattle.ring_table.specs.Staged.{in_words, StagedClaim, Stage, Moved, Padded, Stored, ArePlaced, staged_end, staged_word_at}
use Rattle.ring_table.specs.Passing.{AreSettled, placed_committed_of}
use Rattle.ring_table.specs.Rescued.{AreTight, silent_bytes, unsettled_count}

-- a claim without a header has no bytes
abbrev pub IsPlainStage : Stage → ℕ → Type 0
IsPlainStage Moved n = n ≡ 0
IsPlainStage Padded n = ⊥
IsPlainStage (Stored s) n = ⊤

-- each claim is at its own place, without padding
abbrev pub ArePlain : List StagedClaim → Type 0
ArePlain [] = ⊤
ArePlain (c ∷ cs) = (c.from ≡ c.place) × IsPlainStage c.stage (length c.message.body) × ArePlain cs

-- From the head the walk has come to s. Before it the words show the settled claims `done`, from it on the plain ones
-- `ahead`, and together they have the committed ones of cs
pub record WalksOver (C head : ℕ) (cs : List StagedClaim) (s : ℕ) (made : List ℕ) (claims silent : ℕ)
    (done ahead : List StagedClaim) : Type 0 where
  pub done_placed : ArePlaced C head done
  pub done_settled : AreSettled done
  pub done_tight : AreTight done
  pub done_ends : staged_end head done ≡ s
  pub placed : ArePlaced C s ahead
  pub plain : ArePlain ahead
  pub ends : staged_end s ahead ≡ staged_end head cs
  pub limit : staged_end head cs ≤ max_position
  pub room : staged_end head cs ≤ head + C
  pub aligned : s % 8 ≡ 0
  pub from : head ≤ s
  pub shown : (p : ℕ) → p % 8 ≡ 0 → head ≤ p → p < s → slice_index made (index C p) ≡ staged_word_at in_words done p
  pub shows : (p : ℕ) → p % 8 ≡ 0 → s ≤ p → p < head + C
      → slice_index made (index C p) ≡ staged_word_at in_words ahead p
  pub messages : placed_committed_of (done ++ ahead) ≡ placed_committed_of cs
  pub claims_is : claims + unsettled_count ahead ≡ unsettled_count cs
  pub silent_is : silent + silent_bytes ahead ≡ silent_bytes cs

pub record Walks (C head : ℕ) (cs : List StagedClaim) (s : ℕ) (made : List ℕ) (claims silent : ℕ) : Type 0 where
  pub done : List StagedClaim
  pub ahead : List StagedClaim
  pub over : WalksOver C head cs s made claims silent done ahead
