-- What the judge of a ring knows after some lines.
use Rattle.std.specs.Prelude.{◌≡◌, ℕ, ◌+◌, ◌/◌, ◌^◌, ◌<◌, ◌≤◌, ◌⊎◌, ◌↔◌, List, [], ◌∷◌, length, take, drop, All, Option, None, Bool, false, IsTrue, MatchBool, MatchOption, slice_index_or}
use Rattle.std.specs.Int.{is_power_of_two}
use Rattle.ring_layout.specs.Places.{max_position}
use Rattle.ring_judge.specs.declared.ring.{RingClaim.RingClaim, judged.Judged.Judged, words.Cursor.Cursor}
use Rattle.ring_judge.specs.declared.ring.RingLine.{RingLine}
use Rattle.ring_judge.specs.Ring.{RingState, Allows, AreClear, CanBeWord, CanReach, after, end_of_claim, end_of_claims, first_open, is_open, read_to, IsHead, claims_from}

-- the state of the ring
abbrev pub state_of : Judged → RingState
state_of j = record {
  start = j.start;
  claims = j.claims.items;
  head = j.head;
  left = drop j.passed j.claims.items;
  read = j.read;
}

-- the record of each claim ends within the positions
abbrev pub AreWithin : List RingClaim → Type 0
AreWithin claims = All (λ c. end_of_claim c ≤ max_position) claims

-- each claim begins at or after the end of the one before it, and at most a lap after it
abbrev pub AreInOrder : ℕ → ℕ → List RingClaim → Type 0
AreInOrder C start [] = Unit {0}
AreInOrder C start (c ∷ claims) =
    (start ≤ c.place) × (c.place ≤ start + C) × AreInOrder C (end_of_claim c) claims

-- the consumer can pass the claim, and at its end the ring has no room for all claims yet
pub record IsBehind (C tail : ℕ) (c : RingClaim) : Type 0 where
  pub settled : is_open c.fate ≡ false
  pub no_room : end_of_claim c + C < tail

-- the least position at which the head can be while the ring has room for these claims, whose end is `tail`
pub record IsLeastHead (C start tail : ℕ) (claims : List RingClaim) (head : ℕ) : Type 0 where
  pub reached : CanReach head start claims
  pub had_room : tail ≤ head + C
  pub least : (at : ℕ) → CanReach at start claims → tail ≤ at + C → head ≤ at

-- there is such a position, or none
abbrev pub FindsHead : ℕ → ℕ → ℕ → List RingClaim → Option ℕ → Type 0
FindsHead C start tail claims found =
    MatchOption found ((at : ℕ) → CanReach at start claims → tail ≤ at + C → ⊥) (IsLeastHead C start tail claims)

-- the least heads while the first claims were made: one claim, two, and so on
pub record AreLeastHeads (C start : ℕ) (claims : List RingClaim) (heads : List (Option ℕ)) : Type 0 where
  pub same : length heads ≡ length claims
  pub found : (k : ℕ) → k < length claims → let made = take (k + 1) claims in
      FindsHead C start (end_of_claims start made) made (slice_index_or heads k None)

-- From the position `read` on, the words are those of the claims at the cursor.
pub record IsCursor (C read head : ℕ) (left claims : List RingClaim) (cursor : Cursor) : Type 0 where
  pub within : cursor.claim ≤ length claims
  pub order : AreInOrder C cursor.end (drop cursor.claim claims)
  pub behind : cursor.end ≤ read
  pub same : (p v : ℕ) → read ≤ p → CanBeWord p v head left ↔ CanBeWord p v cursor.end (drop cursor.claim claims)

-- what is true between two lines
pub record IsJudged (j : Judged) : Type 0 where
  pub power : IsTrue (is_power_of_two j.capacity)
  pub most : j.capacity ≤ 2 ^ 30
  pub start : j.start ≤ max_position
  pub passed : j.passed ≤ length j.claims.items
  pub head : j.head ≤ max_position
  pub tail : end_of_claims j.start j.claims.items ≡ j.tail
  pub tail_within : j.tail ≤ max_position
  pub ends : AreWithin j.claims.items
  pub short : All (λ c. c.length ≤ j.capacity / 8) j.claims.items
  pub order : AreInOrder j.capacity j.start j.claims.items
  pub left_order : AreInOrder j.capacity j.head (drop j.passed j.claims.items)
  pub left_tail : end_of_claims j.head (drop j.passed j.claims.items) ≡ j.tail
  pub blocked : first_open (drop j.passed j.claims.items) ≡ j.blocked_at
  pub blocked_within : MatchOption j.blocked_at (Unit {0}) (λ place. place ≤ max_position)
  pub low : j.low ≤ length j.claims.items
  pub behind : All (IsBehind j.capacity j.tail) (take j.low j.claims.items)
  pub heads : AreLeastHeads j.capacity j.start j.claims.items j.heads.items
  pub cursor : IsCursor j.capacity j.read j.head (drop j.passed j.claims.items) j.claims.items j.cursor

-- the ring allows the line, and is then in the state after it
pub record IsStep (old new : Judged) (line : RingLine) : Type 0 where
  pub allowed : Allows old.capacity (state_of old) line
  pub judged : IsJudged new
  pub capacity : new.capacity ≡ old.capacity
  pub state : state_of new ≡ after old.capacity (state_of old) line

-- it does, or it does not allow the line
abbrev pub AnswersLine : Judged → Judged → RingLine → Bool → Type 0
AnswersLine old new line answer =
    MatchBool answer (IsStep old new line) (Allows old.capacity (state_of old) line → ⊥)

-- The head can be at this position, with the claims from the n-th on left; or it cannot.
pub record IsMove (claims : List RingClaim) (passed head at n : ℕ) : Type 0 where
  pub within : n ≤ length claims
  pub is_head : IsHead at head (drop passed claims)
  pub left : claims_from at (drop passed claims) ≡ drop n claims

abbrev pub MovesHead : List RingClaim → ℕ → ℕ → ℕ → Option ℕ → Type 0
MovesHead claims passed head at found =
    MatchOption found (IsHead at head (drop passed claims) → ⊥) (λ n. IsMove claims passed head at n)

-- the header of a claim that comes after e, or of the padding before the claim, is at a position from `read` to `to`
abbrev pub HasHeader : ℕ → ℕ → ℕ → RingClaim → Type 0
HasHeader read to e c = ((e < c.place) × (read ≤ e) × (e < to)) ⊎ ((read ≤ c.place) × (c.place < to))

-- The words from `read` to `to` can be 0, and the cursor `next` is at `to`.
pub record IsClearTo (C read to : ℕ) (claims : List RingClaim) (from next : Cursor) : Type 0 where
  pub within : next.claim ≤ length claims
  pub order : AreInOrder C next.end (drop next.claim claims)
  pub behind : next.end ≤ to
  pub clear : (p : ℕ) → read ≤ p → p < to → CanBeWord p 0 from.end (drop from.claim claims)
  pub same : (p v : ℕ) → to ≤ p
      → CanBeWord p v from.end (drop from.claim claims) ↔ CanBeWord p v next.end (drop next.claim claims)
  pub before_end : (d : RingClaim) → next.claim < length claims
      → to < end_of_claim (slice_index_or claims next.claim d)

-- they can be, or not all of them can
abbrev pub FindsClear : ℕ → ℕ → ℕ → List RingClaim → Cursor → Option Cursor → Type 0
FindsClear C read to claims from found = MatchOption found
    (((p : ℕ) → read ≤ p → p < to → CanBeWord p 0 from.end (drop from.claim claims)) → ⊥)
    (IsClearTo C read to claims from)

-- the words up to this position can be 0, and were read
pub record IsReadTo (old new : Judged) (to : ℕ) : Type 0 where
  pub clear : AreClear old.capacity (state_of old) to
  pub judged : IsJudged new
  pub capacity : new.capacity ≡ old.capacity
  pub state : state_of new ≡ read_to (state_of old) to
  pub before_end : (d : RingClaim) → new.cursor.claim < length new.claims.items
      → to < end_of_claim (slice_index_or new.claims.items new.cursor.claim d)

-- they can be, or not all of them can
abbrev pub ClearsTo : Judged → Judged → ℕ → Bool → Type 0
ClearsTo old new to answer =
    MatchBool answer (IsReadTo old new to) (AreClear old.capacity (state_of old) to → ⊥)
