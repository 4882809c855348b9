-- What a read sees at the head and what it passes.
use Rattle.std.specs.Prelude.{◌≡◌, ◌≢◌, ◌⊎◌, ℕ, ◌+◌, ◌/◌, ◌<◌, ◌≤◌, List, [], ◌∷◌, length, slice_index, Option, Some, None}
use Rattle.ring_words.specs.{declared.read.head.Settled.Settled, Ring.Ring, Ring.Has, Ring.head_of}
use Rattle.ring_layout.specs.{declared.message.Claim.Claim, Places.room, Places.next_place, Headers.padding_type}
use Rattle.ring_layout.specs.declared.message.ClaimState.TheVariants.{Open, Committed, Aborted}
use Rattle.ring_layout.specs.{History.span_of, Layout.head_index}

-- the claim c is at the head
abbrev pub IsAtHead : Ring → Claim → Type 0
IsAtHead r c = next_place r.capacity (head_of r) (span_of c) ≡ head_of r

-- the history ends at the head, or an open claim is there
abbrev pub IsBlocked : Ring → List Claim → Type 0
IsBlocked r h = (h ≡ []) ⊎ ((c : Claim) × (rest : List Claim) × (h ≡ c ∷ rest) × (c.state ≡ Open) × IsAtHead r c)

-- at the head is padding up to the place of the claim c
pub record SeesPadding (r : Ring) (c : Claim) (s : Settled) : Type 0 where
  pub before : head_of r < next_place r.capacity (head_of r) (span_of c)
  pub len : head_of r + s.len ≡ next_place r.capacity (head_of r) (span_of c)
  pub type_id : s.type_id ≡ padding_type

-- at the head is the aborted claim c
pub record SeesAborted (r : Ring) (c : Claim) (s : Settled) : Type 0 where
  pub at_head : IsAtHead r c
  pub aborted : c.state ≡ Aborted
  pub len : s.len ≡ 8 + length c.message.body
  pub type_id : s.type_id ≡ padding_type

-- at the head is the committed claim c
pub record SeesCommitted (r : Ring) (c : Claim) (s : Settled) : Type 0 where
  pub at_head : IsAtHead r c
  pub committed : c.state ≡ Committed
  pub len : s.len ≡ 8 + length c.message.body
  pub type_id : s.type_id ≡ c.message.type_id

-- what the header at the head says of a history
abbrev pub Sees : Ring → List Claim → Option Settled → Type 0
Sees r h None = IsBlocked r h
Sees r h (Some s) = (c : Claim) × (rest : List Claim) × (h ≡ c ∷ rest)
    × (SeesPadding r c s ⊎ (SeesAborted r c s ⊎ SeesCommitted r c s))

-- padding at the head was passed up to the place of c, or c was
abbrev pub Leaves : Ring → List Claim → Settled → Ring → Type 0
Leaves old h s new = (c : Claim) × (rest : List Claim) × (h ≡ c ∷ rest)
    × ((SeesPadding old c s × Has new h × (head_of new ≡ next_place old.capacity (head_of old) (span_of c)))
    ⊎ ((SeesAborted old c s ⊎ SeesCommitted old c s) × Has new rest × (head_of new ≡ head_of old + span_of c)))

-- of the words outside the buffer only the head changes, and it does not pass the end of the buffer
pub record MovesHead (old new : Ring) : Type 0 where
  pub capacity : new.capacity ≡ old.capacity
  pub length : length new.words ≡ length old.words
  pub trailer : (i : ℕ) → old.capacity / 8 ≤ i → i ≢ head_index old.capacity
      → slice_index new.words i ≡ slice_index old.words i
  pub on : head_of old ≤ head_of new
  pub within : head_of new ≤ head_of old + room old.capacity (head_of old)
