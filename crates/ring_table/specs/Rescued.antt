-- What is left of a ring whose seats may be lost: its claims, each settled for good.
use Rattle.std.specs.Prelude.{◌≡◌, ℕ, ◌+◌, ◌-◌, ◌%◌, ◌^◌, ◌≤◌, ◌<◌, List, [], ◌∷◌, ◌++◌, length, slice_index, if◌then◌else◌, nat_lt, ◌==◌, ⊤, true}
use Rattle.ring_layout.specs.declared.message.ClaimState.TheVariants.{Open, Committed, Aborted}
use Rattle.ring_layout.specs.{Headers.padding_header, Layout.tail_index, Layout.head_index, Layout.ring_words}
use Rattle.ring_layout.specs.{Lists.total, Picture.IsPicture, Places.index, Places.max_position}
use Rattle.ring_table.specs.Staged.{Bodies, in_words, elsewhere, StagedClaim, Stage, Moved, Padded, Stored, ArePlaced, claim_end, staged_end, staged_span, staged_word_at, unplaced}
use Rattle.ring_table.specs.{Passing.AreSettled, Passing.placed_committed_of, Rule.IsLawful, Rule.IsService, Rule.Kept}
use Rattle.ring_table.specs.{Owners.OwnedHistory, Owners.all_of, Owners.owned_by, Marks.Keeps, Marks.KeepsMarks}
use Rattle.ring_table.specs.{Closed.restarted, declared.view.Key.Key, Views.View}
use mathlib.Core.Option.{Option}
use Rattle.std.specs.{Slots.slots_items, Slots.IsFull, declared.alloc.Global.Global}
use Rattle.atomic_table.specs.{Table.Final, Table.Seen, declared.owned.Closed.Closed}

-- 1 for a claim whose header is stored, and that is not settled
abbrev pub one_if_unsettled : Stage → ℕ
one_if_unsettled Moved = 0
one_if_unsettled Padded = 0
one_if_unsettled (Stored Open) = 1
one_if_unsettled (Stored Committed) = 0
one_if_unsettled (Stored Aborted) = 0

-- the number of claims that were claimed, and not settled
abbrev pub unsettled_count : List StagedClaim → ℕ
unsettled_count cs = total (λ (c : StagedClaim). one_if_unsettled c.stage) cs

-- the bytes of a claim that have no header, though the tail was moved
abbrev pub silent_of : Stage → ℕ → ℕ → ℕ
silent_of Moved all record_bytes = all
silent_of Padded all record_bytes = record_bytes
silent_of (Stored s) all record_bytes = 0

abbrev pub silent_bytes : List StagedClaim → ℕ
silent_bytes cs = total (λ (c : StagedClaim). silent_of c.stage (claim_end c - c.from) (staged_span c)) cs

-- the header that a word becomes: a header that is not stored that of an aborted record without bytes, that of an open
-- claim that of an aborted one, and one that is settled stays
abbrev pub settled_word : ℕ → ℕ
settled_word w =
    if w == 0 then padding_header 8
    else (if nat_lt (2 ^ 31) (w % 2 ^ 32) then padding_header (2 ^ 32 - w % 2 ^ 32) else w)

-- each claim is at its own place, without padding
abbrev pub AreTight : List StagedClaim → Type 0
AreTight [] = ⊤
AreTight (c ∷ cs) = (c.from ≡ c.place) × AreTight cs

-- the words show the claims cs from the head on, at whatever stages they are
pub record ShowsClaims (B : Bodies) (C : ℕ) (words : List ℕ) (cs : List StagedClaim) : Type 0 where
  pub aligned : slice_index words (head_index C) % 8 ≡ 0
  pub placed : ArePlaced C (slice_index words (head_index C)) cs
  pub tail_is : slice_index words (tail_index C) ≡ staged_end (slice_index words (head_index C)) cs
  pub limit : staged_end (slice_index words (head_index C)) cs ≤ max_position
  pub room : staged_end (slice_index words (head_index C)) cs ≤ slice_index words (head_index C) + C
  pub shows : (p : ℕ) → p % 8 ≡ 0 → slice_index words (head_index C) ≤ p → p < slice_index words (head_index C) + C
      → slice_index words (index C p) ≡ staged_word_at B cs p

-- The words show settled claims from the head on. The committed ones are those of cs, with their places, in their
-- order; `claims` claims of cs were not settled, and `silent` bytes had no header
pub record Settles (C head : ℕ) (cs : List StagedClaim) (words : List ℕ) (claims silent : ℕ) : Type 0 where
  pub now : List StagedClaim
  pub placed : ArePlaced C head now
  pub settled : AreSettled now
  pub tight : AreTight now
  pub messages : placed_committed_of now ≡ placed_committed_of cs
  pub ends : staged_end head now ≡ staged_end head cs
  pub picture : IsPicture (λ i. slice_index words i) C head (unplaced now)
  pub claims_is : claims ≡ unsettled_count cs
  pub silent_is : silent ≡ silent_bytes cs

-- what a table left from one seat that knew v, consumes and is at rest, whatever became of the other seats
pub record IsSaved (bodies : Bodies) (k : Key) (v : View) (closed : Closed ℕ Global) : Type 0 where
  pub consumes : v.consumes ≡ true
  pub rests : v.consumer.cleared ≡ v.consumer.head
  pub home : v.out ≡ []
  pub full : IsFull closed.words × IsFull closed.slots
  pub id : ℕ
  pub final : Final (Seen (λ s. Keeps bodies k s.words s.homes s.views) id v)
      (slots_items closed.words) (slots_items closed.slots)

-- the rule holds with this history of all claims, and with this number of draws
abbrev pub KeptWith : Bodies → ℕ → ℕ → OwnedHistory → ℕ → List ℕ → List (Option ℕ) → List View → Type 0
KeptWith in_words C start hist n words homes views =
    (r : Kept in_words C start words views) × (r.hist ≡ hist) × (r.drawn ≡ n)
KeptWith elsewhere C start hist n words homes views =
    (r : KeepsMarks C start words homes views) × (r.kept.hist ≡ hist) × (r.kept.drawn ≡ n)

-- The table that left this had this history and this number of draws: the rule held with them of its last state, in
-- which a seat knew v. What was not read of the history is in the words that the table left, or in its slots
pub record HadHistory (bodies : Bodies) (k : Key) (v : View) (closed : Closed ℕ Global) (hist : OwnedHistory)
    (drawn : ℕ) : Type 0 where
  pub id : ℕ
  pub final : Final (Seen (λ s. KeptWith bodies k.capacity k.start hist drawn s.words s.homes s.views) id v)
      (slots_items closed.words) (slots_items closed.slots)

-- What is left of a table whose other seats may be lost, which had this history and this number of draws, and one seat
-- of which knew v and consumes. v's own claims are its part of the history. The messages that v's consumer took are the
-- committed ones of those that it passed, which end at or below its head and are settled, and in the words the others
-- are settled, from the head on
pub record Rescues (C start : ℕ) (v : View) (hist : OwnedHistory) (drawn : ℕ) (words : List ℕ) (claims silent : ℕ)
    : Type 0 where
  pub lawful : IsLawful C start
  pub id : ℕ
  pub placed : ArePlaced C start (all_of hist)
  pub own : v.producer.claims ≡ owned_by id hist
  pub passed : List StagedClaim
  pub left : List StagedClaim
  pub whole : all_of hist ≡ passed ++ left
  pub settled : AreSettled passed
  pub messages : v.consumer.taken ≡ placed_committed_of passed
  pub below : staged_end start passed ≤ v.consumer.head
  pub ahead : ArePlaced C v.consumer.head (restarted v.consumer.head left)
  pub wide : length words ≡ ring_words C
  pub head_is : slice_index words (head_index C) ≡ v.consumer.head
  pub tail_is : slice_index words (tail_index C) ≡ staged_end v.consumer.head (restarted v.consumer.head left)
  pub aligned : v.consumer.head % 8 ≡ 0
  pub order : v.consumer.head ≤ slice_index words (tail_index C)
  pub room : slice_index words (tail_index C) ≤ v.consumer.head + C
  pub limit : slice_index words (tail_index C) ≤ max_position
  pub settles : Settles C v.consumer.head (restarted v.consumer.head left) words claims silent
  pub service : IsService C words v.consumer drawn
