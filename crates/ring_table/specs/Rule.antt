-- The rule of a shared ring, which holds between any two steps.
use Rattle.std.specs.Prelude.{◌≡◌, ℕ, ◌+◌, ◌%◌, ◌^◌, ◌≤◌, ◌<◌, List, [], ◌∷◌, true, length, slice_index, if◌then◌else◌, nat_lt}
use mathlib.Core.Option.{some}
use lib.ListN.{get_elem?}
use Rattle.ring_layout.specs.{Places.IsCapacity, Places.index, Places.max_position, Lists.total, Refusals.all_shares}
use Rattle.ring_layout.specs.Layout.{ring_words, tail_index, head_cache_index, head_index, correlation_index, heartbeat_index, IsUnnamed}
use Rattle.ring_table.specs.Staged.{Bodies, StagedClaim, ArePlaced, staged_end, staged_word_at}
use Rattle.ring_table.specs.Owners.{OwnedHistory, all_of, owned_by}
use Rattle.ring_table.specs.{Passing.Reaches, Services.times_drawn, Services.once_below, Services.AreServed}
use Rattle.ring_table.specs.Views.{ProducerView, ConsumerView, View}

-- a capacity and a start that a ring may have
pub record IsLawful (C start : ℕ) : Type 0 where
  pub capacity : IsCapacity C
  pub start_is : start % C ≡ 0

-- the word at the position p, which is 0 below what a running read has cleared
abbrev pub shown_word : Bodies → ℕ → List StagedClaim → ℕ → ℕ
shown_word B cleared claims p = if nat_lt p cleared then 0 else staged_word_at B claims p

-- The records, the tail and the head: the words show one history of claims, of which the consumer has passed the first
pub record IsMemory (B : Bodies) (C start : ℕ) (words : List ℕ) (claims : List StagedClaim)
    (consumer : ConsumerView) : Type 0 where
  pub wide : length words ≡ ring_words C
  pub placed : ArePlaced C start claims
  pub tail_is : slice_index words (tail_index C) ≡ staged_end start claims
  pub limit : staged_end start claims ≤ max_position
  pub room : staged_end start claims ≤ consumer.head + C
  pub head_is : slice_index words (head_index C) ≡ consumer.head
  pub took : Reaches consumer.head start claims consumer.taken
  pub passed : Reaches consumer.scan start claims consumer.got
  pub clears_from : consumer.head ≤ consumer.cleared
  pub clears_to : consumer.cleared ≤ consumer.scan
  pub clears_words : consumer.cleared % 8 ≡ 0
  pub shows : (p : ℕ) → p % 8 ≡ 0 → consumer.head ≤ p → p < consumer.head + C
      → slice_index words (index C p) ≡ shown_word B consumer.cleared claims p

-- the head cache, the correlation counter, which n ids were drawn from, and the heartbeat. The trailer's other words
-- are 0
pub record IsService (C : ℕ) (words : List ℕ) (consumer : ConsumerView) (n : ℕ) : Type 0 where
  pub cache : slice_index words (head_cache_index C) ≤ consumer.head
  pub correlation : slice_index words (correlation_index C) ≡ n % 2 ^ 64
  pub heartbeat : get_elem? (0 ∷ consumer.heartbeats) (length consumer.heartbeats)
      ≡ some (slice_index words (heartbeat_index C))
  pub unnamed : (i : ℕ) → IsUnnamed C i → slice_index words i ≡ 0

-- a producer with no share has claimed and drawn nothing
pub record IsIdle (p : ProducerView) : Type 0 where
  pub claims : p.claims ≡ []
  pub draws : (x : ℕ) → times_drawn x p ≡ 0

-- what the seat id knows of the history, which ends at `top`, of the consumer, whose seat is `reader`, and of n draws
pub record Knows (top : ℕ) (hist : OwnedHistory) (reader : ℕ) (consumer : ConsumerView) (n id : ℕ)
    (v : View) : Type 0 where
  pub claims : v.producer.claims ≡ owned_by id hist
  pub tail_seen : v.producer.seen_tail ≤ top
  pub head_seen : v.producer.seen_head ≤ consumer.head
  pub idle : v.producer.shares ≡ 0 → IsIdle v.producer
  pub served : AreServed n consumer.heartbeats (v.producer.service ∷ v.producer.joined)
  pub consumes : v.consumes ≡ true → (id ≡ reader) × (v.consumer ≡ consumer)

-- a producer has seen the tail as it is
pub record SeesTop (views : List View) (top : ℕ) : Type 0 where
  pub seat : ℕ
  pub view : View
  pub there : get_elem? views seat ≡ some view
  pub rich : 0 < view.producer.shares
  pub sees : view.producer.seen_tail ≡ top

abbrev pub shares_of : View → ℕ
shares_of v = v.producer.shares

-- the views of all seats: each knows its part, the shares are 65,536 in all, and each number below n was drawn once
pub record IsSeated (top : ℕ) (hist : OwnedHistory) (reader : ℕ) (consumer : ConsumerView) (n : ℕ)
    (views : List View) : Type 0 where
  pub each : (id : ℕ) (v : View) → get_elem? views id ≡ some v → Knows top hist reader consumer n id v
  pub nobody : (id : ℕ) → length views ≤ id → owned_by id hist ≡ []
  pub shares : total shares_of views ≡ all_shares
  pub latest : SeesTop views top
  pub once : (x : ℕ) → total (λ (v : View). times_drawn x v.producer) views ≡ once_below x n

-- There is one history of claims with their owners, one consumer and a number of draws: the words show them, and each
-- view is its seat's part
pub record Kept (B : Bodies) (C start : ℕ) (words : List ℕ) (views : List View) : Type 0 where
  pub lawful : IsLawful C start
  pub hist : OwnedHistory
  pub reader : ℕ
  pub consumer : ConsumerView
  pub drawn : ℕ
  pub memory : IsMemory B C start words (all_of hist) consumer
  pub service : IsService C words consumer drawn
  pub seated : IsSeated (staged_end start (all_of hist)) hist reader consumer drawn views
