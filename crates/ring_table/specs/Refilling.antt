-- How the bodies of settled claims are put beside their headers, from slots.
use Rattle.std.specs.Prelude.{◌≡◌, ℕ, ◌+◌, ◌%◌, ◌≤◌, ◌<◌, List, [], ◌∷◌, ◌++◌, length, slice_index, All, ⊤}
use Rattle.ring_layout.specs.declared.message.Message.{Message}
use Rattle.ring_layout.specs.declared.message.ClaimState.TheVariants.{Open, Committed, Aborted}
use Rattle.ring_layout.specs.{Layout.head_index, Layout.tail_index, Places.index, Places.max_position}
use Rattle.ring_table.specs.Staged.{in_words, StagedClaim, PlacedMessage, Stage, Moved, Padded, Stored, ArePlaced, body_word, staged_end, staged_word_at}
use Rattle.ring_table.specs.{Passing.AreSettled, Passing.placed_committed_of, Rescued.AreTight}

-- a committed message with this body
abbrev pub filled_message : Stage → List ℕ → Message → Message
filled_message Moved body m = m
filled_message Padded body m = m
filled_message (Stored Open) body m = m
filled_message (Stored Committed) body m = record { type_id = m.type_id; body = body }
filled_message (Stored Aborted) body m = m

-- the claim with the body that F has for its place, if it is committed
abbrev pub filled : (ℕ → List ℕ) → StagedClaim → StagedClaim
filled F c = record {
  from = c.from;
  place = c.place;
  message = filled_message c.stage (F c.place) c.message;
  stage = c.stage;
}

abbrev pub all_filled : (ℕ → List ℕ) → List StagedClaim → List StagedClaim
all_filled F [] = []
all_filled F (c ∷ cs) = filled F c ∷ all_filled F cs

-- the slots have the body of F for the message's place
pub record FitsBody (C : ℕ) (slots : List ℕ) (F : ℕ → List ℕ) (m : PlacedMessage) : Type 0 where
  pub long : length (F m.place) ≡ length m.message.body
  pub bytes : All (λ b. b < 256) (F m.place)
  pub there : (at : ℕ) → at % 8 ≡ 0 → at < length m.message.body
      → slice_index slots (index C (m.place + 8 + at)) ≡ body_word (F m.place) at

abbrev pub FitAll : ℕ → List ℕ → (ℕ → List ℕ) → List PlacedMessage → Type 0
FitAll C slots F [] = ⊤
FitAll C slots F (m ∷ ms) = FitsBody C slots F m × FitAll C slots F ms

-- From the head a walk over the claims `now` has come to s. Before it the words show filled claims, from it on those
-- that are ahead
pub record FillsOver (C head : ℕ) (slots : List ℕ) (F : ℕ → List ℕ) (now : List StagedClaim) (s : ℕ) (made : List ℕ)
    (done ahead : List StagedClaim) : Type 0 where
  pub whole : done ++ ahead ≡ now
  pub done_placed : ArePlaced C head (all_filled F done)
  pub done_ends : staged_end head (all_filled F done) ≡ s
  pub placed : ArePlaced C s ahead
  pub settled : AreSettled ahead
  pub tight : AreTight ahead
  pub ends : staged_end s ahead ≡ staged_end head now
  pub limit : staged_end head now ≤ max_position
  pub room : staged_end head now ≤ head + C
  pub aligned : s % 8 ≡ 0
  pub from : head ≤ s
  pub fits : FitAll C slots F (placed_committed_of ahead)
  pub shown : (p : ℕ) → p % 8 ≡ 0 → head ≤ p → p < s
      → slice_index made (index C p) ≡ staged_word_at in_words (all_filled F done) p
  pub shows : (p : ℕ) → p % 8 ≡ 0 → s ≤ p → p < head + C
      → slice_index made (index C p) ≡ staged_word_at in_words ahead p

pub record FillsTo (C head : ℕ) (slots : List ℕ) (F : ℕ → List ℕ) (now : List StagedClaim) (s : ℕ) (made : List ℕ)
    : Type 0 where
  pub done : List StagedClaim
  pub ahead : List StagedClaim
  pub over : FillsOver C head slots F now s made done ahead

-- the words show settled claims, from the head to the tail, of whose committed ones the slots have the bodies of F
pub record MayFill (C : ℕ) (slots : List ℕ) (F : ℕ → List ℕ) (now : List StagedClaim) (words : List ℕ) : Type 0 where
  pub tail_is : slice_index words (tail_index C) ≡ staged_end (slice_index words (head_index C)) now
  pub begins : FillsTo C (slice_index words (head_index C)) slots F now (slice_index words (head_index C)) words

-- the words show the filled claims
pub record Filled (C head : ℕ) (F : ℕ → List ℕ) (now : List StagedClaim) (words : List ℕ) : Type 0 where
  pub placed : ArePlaced C head (all_filled F now)
  pub ends : staged_end head (all_filled F now) ≡ staged_end head now
  pub shows : (p : ℕ) → p % 8 ≡ 0 → head ≤ p → p < head + C
      → slice_index words (index C p) ≡ staged_word_at in_words (all_filled F now) p
