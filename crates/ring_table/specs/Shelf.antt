-- What the slots have, if bodies lie in them: one slot for each word of the records, which begin with their headers.
use Rattle.std.specs.Prelude.{◌≡◌, ℕ, ◌+◌, ◌/◌, ◌%◌, ◌≤◌, ◌<◌, ◌⊎◌, List, [], ◌∷◌, ◌++◌, true, length, ⊤}
use mathlib.Core.Option.{Option, some}
use lib.ListN.{get_elem?}
use Rattle.ring_layout.specs.{Places.index, declared.message.Message.Message}
use Rattle.ring_table.specs.Staged.{Bodies, in_words, elsewhere, StagedClaim, PlacedMessage, IsStored, body_word, slot_bytes}
use Rattle.ring_table.specs.{Passing.IsSettled, Views.View, ProducerSteps.HasClaim}

-- the seat has the slot i out, which is one of this message's record
pub record IsOut (C i : ℕ) (v : View) : Type 0 where
  pub message : PlacedMessage
  pub at : ℕ
  pub out_is : v.out ≡ message ∷ []
  pub aligned : at % 8 ≡ 0
  pub inside : at < 8 + length message.message.body
  pub slot_is : index C (message.place + at) ≡ i

-- the message is an own claim that is not settled
pub record IsOwnOut (v : View) (m : PlacedMessage) : Type 0 where
  pub nth : ℕ
  pub claim : StagedClaim
  pub there : HasClaim v nth claim
  pub unsettled : IsSettled claim.stage → ⊥
  pub place : claim.place ≡ m.place
  pub long : length claim.message.body ≡ length m.message.body

-- the message is the last one that the read got, and is not cleared
pub record IsGotOut (v : View) (m : PlacedMessage) : Type 0 where
  pub consumes : v.consumes ≡ true
  pub front : List PlacedMessage
  pub got : v.consumer.got ≡ front ++ m ∷ []
  pub ahead : v.consumer.cleared ≤ m.place

-- what a seat has out: nothing, or one body
abbrev pub IsOneOut : View → Type 0
IsOneOut v = (v.out ≡ []) ⊎ ((m : PlacedMessage) × (v.out ≡ m ∷ []) × (IsOwnOut v m ⊎ IsGotOut v m))

-- of the slots of the message's record at this place, those at home have its words
abbrev pub HasRight : ℕ → List (Option ℕ) → ℕ → Message → Type 0
HasRight C homes place m = (at y : ℕ) → at % 8 ≡ 0 → at < 8 + length m.body
    → get_elem? homes (index C (place + at)) ≡ some (some y) → y ≡ body_word (slot_bytes m) at

-- a view has this claim, whose header is stored
pub record IsClaimOf (views : List View) (c : StagedClaim) : Type 0 where
  pub seat : ℕ
  pub view : View
  pub nth : ℕ
  pub there : get_elem? views seat ≡ some view
  pub has : HasClaim view nth c
  pub stored : IsStored c.stage

-- a view consumes, and its head is at or below p
pub record ReadsFrom (views : List View) (p : ℕ) : Type 0 where
  pub seat : ℕ
  pub view : View
  pub there : get_elem? views seat ≡ some view
  pub consumes : view.consumes ≡ true
  pub head : view.consumer.head ≤ p

-- a view consumes
pub record HasReader (views : List View) : Type 0 where
  pub seat : ℕ
  pub view : View
  pub there : get_elem? views seat ≡ some view
  pub consumes : view.consumes ≡ true

-- A slot that no seat has out is at home. Records from the head on have their words there
pub record IsShelf (C : ℕ) (homes : List (Option ℕ)) (views : List View) : Type 0 where
  pub wide : length homes ≡ C / 8
  pub home : (i : ℕ) → i < C / 8 → ((id : ℕ) (v : View) → get_elem? views id ≡ some v → IsOut C i v → ⊥)
      → (y : ℕ) × (get_elem? homes i ≡ some (some y))
  pub exact : (c : StagedClaim) → IsClaimOf views c → ReadsFrom views c.place
      → HasRight C homes c.place c.message
  pub outs : (id : ℕ) (v : View) → get_elem? views id ≡ some v → IsOneOut v
  pub reader : HasReader views

abbrev pub HasShelf : Bodies → ℕ → List (Option ℕ) → List View → Type 0
HasShelf in_words C homes views = ⊤
HasShelf elsewhere C homes views = IsShelf C homes views
