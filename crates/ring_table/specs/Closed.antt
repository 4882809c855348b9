-- The words of a fresh ring, and those of a closed one.
use Rattle.std.specs.Prelude.{◌≡◌, ℕ, ◌/◌, ◌<◌, List, [], ◌∷◌, ◌++◌, length, slice_index, true}
use Rattle.std.specs.{Slots.slots_items, Slots.IsFull, declared.alloc.Global.Global}
use Rattle.atomic_table.specs.{Table.Final, Table.Seen, declared.owned.Closed.Closed}
use Rattle.ring_layout.specs.{Places.end_of, Picture.IsPicture, Refusals.all_shares}
use Rattle.ring_layout.specs.Layout.{ring_words, tail_index, head_cache_index, head_index, correlation_index, heartbeat_index, IsUnnamed}
use Rattle.ring_table.specs.{OpenClaims.open_count, Services.times_drawn, Services.once_below, Services.AreServed}
use Rattle.ring_table.specs.Staged.{Bodies, in_words, StagedClaim, unplaced, ArePlaced, staged_end}
use Rattle.ring_table.specs.{Passing.AreSettled, Passing.placed_committed_of, Marks.Keeps, declared.view.Key.Key}
use Rattle.ring_table.specs.{Views.View, Rule.IsLawful, Rule.IsMemory, Rule.IsService}

pub record IsFresh (C start : ℕ) (words : List ℕ) : Type 0 where
  pub wide : length words ≡ ring_words C
  pub tail : slice_index words (tail_index C) ≡ start
  pub cache : slice_index words (head_cache_index C) ≡ start
  pub head : slice_index words (head_index C) ≡ start
  pub correlation : slice_index words (correlation_index C) ≡ 0
  pub heartbeat : slice_index words (heartbeat_index C) ≡ 0
  pub records : (i : ℕ) → i < C / 8 → slice_index words i ≡ 0
  pub unnamed : (i : ℕ) → IsUnnamed C i → slice_index words i ≡ 0

-- a last seat: all others were joined into it, no claim is open, and no read is running
pub record IsLast (v : View) : Type 0 where
  pub all : v.producer.shares ≡ all_shares
  pub consumes : v.consumes ≡ true
  pub home : v.out ≡ []
  pub none_open : open_count v.producer.claims ≡ 0
  pub none_cleared : v.consumer.cleared ≡ v.consumer.head

-- what a table left whose last seat knew v
pub record IsLeft (bodies : Bodies) (k : Key) (v : View) (closed : Closed ℕ Global) : Type 0 where
  pub last : IsLast v
  pub full : IsFull closed.words × IsFull closed.slots
  pub id : ℕ
  pub final : Final (Seen (λ s. Keeps bodies k s.words s.homes s.views) id v)
      (slots_items closed.words) (slots_items closed.slots)

-- The words of a ring whose producers and consumer were joined into one seat, and that seat's view. It has all claims
-- and all draws
pub record IsClosed (C start : ℕ) (words : List ℕ) (v : View) : Type 0 where
  pub lawful : IsLawful C start
  pub drawn : ℕ
  pub memory : IsMemory in_words C start words v.producer.claims v.consumer
  pub service : IsService C words v.consumer drawn
  pub once : (x : ℕ) → times_drawn x v.producer ≡ once_below x drawn
  pub served : AreServed drawn v.consumer.heartbeats (v.producer.service ∷ v.producer.joined)
  pub sees_tail : v.producer.seen_tail ≡ staged_end start v.producer.claims

-- the padding before the first claim counts from the head on
abbrev pub restarted : ℕ → List StagedClaim → List StagedClaim
restarted head [] = []
restarted head (c ∷ cs) = record { from = head; place = c.place; message = c.message; stage = c.stage } ∷ cs

-- What a reader leaves: the first claims are settled, and the messages taken are their committed ones. The others keep
-- their places, from the head on, and the words are their picture
pub record LeavesRest (C : ℕ) (words : List ℕ) (v : View) : Type 0 where
  pub taken : List StagedClaim
  pub rest : List StagedClaim
  pub whole : v.producer.claims ≡ taken ++ rest
  pub settled : AreSettled taken
  pub messages : v.consumer.taken ≡ placed_committed_of taken
  pub placed : ArePlaced C v.consumer.head (restarted v.consumer.head rest)
  pub end_is : slice_index words (tail_index C) ≡ end_of C v.consumer.head (unplaced rest)
  pub picture : IsPicture (λ i. slice_index words i) C v.consumer.head (unplaced rest)
