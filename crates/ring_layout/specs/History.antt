-- Messages, claims, and histories, which are lists of claims with the oldest first.
use Rattle.std.specs.Prelude.{ℕ, ◌+◌, ◌*◌, ◌/◌, ◌<◌, ◌≤◌, pos, ◌≤ℤ◌, List, [], ◌∷◌, length, All, FitsSigned, ◌++◌, take, drop}
use Rattle.std.specs.Int.{w32}
pub use Rattle.ring_layout.specs.declared.message.Message.{Message}
pub use Rattle.ring_layout.specs.declared.message.Claim.{Claim}
pub use Rattle.ring_layout.specs.declared.message.ClaimState.{ClaimState}
pub use Rattle.ring_layout.specs.declared.message.ClaimState.TheVariants.{Open, Committed, Aborted}

-- the type id is 1 to 2^31 - 1, and the body has at most an eighth of the capacity C
pub record IsMessage (C : ℕ) (m : Message) : Type 0 where
  pub type_id : pos 1 ≤ℤ m.type_id
  pub type_fits : FitsSigned w32 m.type_id
  pub short : length m.body ≤ C / 8
  pub bytes : All (λ b. b < 256) m.body

-- the number of bytes of a record, which is a header of 8 bytes and n bytes of body, rounded up to a multiple of 8
abbrev pub span : ℕ → ℕ
span n = (8 + n + 7) / 8 * 8

abbrev pub span_of : Claim → ℕ
span_of c = span (length c.message.body)

-- the messages that the reader is shown of a claim
abbrev pub shown : Claim → List Message
shown c = by_state c.state
  where
    by_state : ClaimState → List Message
    by_state Open = []
    by_state Committed = c.message ∷ []
    by_state Aborted = []

-- the messages of the committed claims, in order
abbrev pub committed_of : List Claim → List Message
committed_of [] = []
committed_of (c ∷ h) = shown c ++ committed_of h

-- the bytes in which these replace those from `at` on
abbrev pub overwritten : ℕ → List ℕ → List ℕ → List ℕ
overwritten at bytes body = take at body ++ (bytes ++ drop (at + length bytes) body)
