-- The words and the slots of a plain ring with a history. Positions are running byte counts, and C is the capacity of
-- the buffer.
use Rattle.std.specs.Prelude.{◌≡◌, ℕ, ◌+◌, ◌%◌, ◌<◌, ◌≤◌, List, [], ◌∷◌, ⊤, slice_index}
use Rattle.ring_layout.specs.{Marks.padding_kind, declared.message.Claim.Claim, History.span_of, Picture.claim_word}
use Rattle.ring_layout.specs.{Layout.head_index, Layout.tail_index, Places.index, Places.next_place, Places.end_of}
use Rattle.ring_snapshot.specs.{Marks.mark_at, Marks.run_of, Marks.HasMark, RingRecords.Lie}

-- A plain ring has a claim that comes after e, at this place: the marks of the claim and of the padding before it, and
-- the words of its body. A run that began before goes on up to `run`, and has no padding.
pub record HasClaim (C : ℕ) (words slots : List ℕ) (tail run e place : ℕ) (c : Claim) : Type 0 where
  pub padding : e < place → (run ≤ e) × (slice_index words (index C e) ≡ place + padding_kind)
  pub mark : HasMark C tail slots place (mark_at C words run place) c
  pub body : (k : ℕ) → k % 8 ≡ 0 → 0 < k → k < span_of c → slice_index slots (index C (place + k)) ≡ claim_word c k

-- the claims come after e, one after another, and those before e have a run up to `run`
abbrev pub HaveClaims : ℕ → List ℕ → List ℕ → ℕ → ℕ → ℕ → List Claim → Type 0
HaveClaims C words slots tail run e [] = ⊤
HaveClaims C words slots tail run e (c ∷ h) =
    let place = next_place C e (span_of c) in
    HasClaim C words slots tail run e place c
    × HaveClaims C words slots tail (run_of (mark_at C words run place)) (place + span_of c) h

-- the claims go from the head up to the tail
pub record ArePlain (C : ℕ) (words slots : List ℕ) (tail head : ℕ) (h : List Claim) : Type 0 where
  pub aligned : head % 8 ≡ 0
  pub ends : end_of C head h ≡ tail
  pub near : tail ≤ head + C
  pub claims : HaveClaims C words slots tail 0 head h

-- the words and the slots are those of a plain ring with these claims
abbrev pub IsPlain : ℕ → List ℕ → List ℕ → List Claim → Type 0
IsPlain C words slots h =
    ArePlain C words slots (slice_index words (tail_index C)) (slice_index words (head_index C)) h

-- the new words have these claims between the old head and the old tail
abbrev pub LiesBetween : ℕ → List ℕ → List ℕ → List Claim → Type 0
LiesBetween C old new h = Lie C new (slice_index old (tail_index C)) (slice_index old (head_index C)) h
