-- A claim as it is made, and how the steps of its producer change it.
use Rattle.std.specs.Prelude.{ℕ, ◌-◌, ℤ, List, [], ◌∷◌, Bool, true, false, length, take, replicate, if◌then◌else◌, ◌==◌}
use Rattle.std.specs.Int.{to_le_bytes, w64}
use Rattle.ring_layout.specs.{declared.message.Message.Message, History.span, History.overwritten, Places.next_place}
use Rattle.ring_layout.specs.declared.message.ClaimState.{ClaimState, TheVariants.Committed, TheVariants.Open}
use Rattle.ring_table.specs.Staged.{StagedClaim, Stage, Moved, Padded, Stored}

-- a message of n zero bytes
abbrev pub blank : ℤ → ℕ → Message
blank type_id n = record { type_id = type_id; body = replicate n 0 }

-- the stage of a claim as the tail is moved, by whether no padding is needed
abbrev pub fresh_stage : Bool → Stage
fresh_stage true = Padded
fresh_stage false = Moved

-- the claim of n bytes that a move of the tail from e makes
abbrev pub moved_claim : ℕ → ℕ → ℤ → ℕ → StagedClaim
moved_claim C e type_id n = let place = next_place C e
    (span n) in record { from = e; place = place; message = blank type_id n; stage = fresh_stage (e == place) }

abbrev pub staged : Stage → StagedClaim → StagedClaim
staged t c = record { from = c.from; place = c.place; message = c.message; stage = t }

-- the claim with its header stored, which fixes its type id and length
abbrev pub with_header : ℤ → ℕ → StagedClaim → StagedClaim
with_header type_id n c = record { from = c.from; place = c.place; message = blank type_id n; stage = Stored Open }

-- the claim with its message, in this state
abbrev pub stored_as : ClaimState → ℤ → List ℕ → StagedClaim → StagedClaim
stored_as s type_id body c =
    record {
      from = c.from;
      place = c.place;
      message = record { type_id = type_id; body = body };
      stage = Stored s;
    }

-- committed
abbrev pub recorded : ℤ → List ℕ → StagedClaim → StagedClaim
recorded = stored_as Committed

-- the body with the bytes of a word in place of its own from `at` on, as far as it goes
abbrev pub with_word : ℕ → ℕ → List ℕ → List ℕ
with_word at word body = overwritten at (take (length body - at) (to_le_bytes w64 word)) body

-- the claim with this body
abbrev pub with_body : List ℕ → StagedClaim → StagedClaim
with_body body c = record c { message = record c.message { body = body } }

abbrev pub with_body_word : ℕ → ℕ → StagedClaim → StagedClaim
with_body_word at word c = with_body (with_word at word c.message.body) c

abbrev pub changed_at : ℕ → (StagedClaim → StagedClaim) → StagedClaim → StagedClaim
changed_at p f c = if c.place == p then f c else c

-- the claim at the place p is changed
abbrev pub changed : ℕ → (StagedClaim → StagedClaim) → List StagedClaim → List StagedClaim
changed p f [] = []
changed p f (c ∷ cs) = changed_at p f c ∷ changed p f cs
