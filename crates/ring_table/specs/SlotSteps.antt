-- What the steps on slots say, if bodies lie in them.
use Rattle.std.specs.Prelude.{◌≡◌, ℕ, zero, suc, ℤ, ◌+◌, ◌*◌, ◌/◌, ◌≤◌, ◌<◌, ◌^◌, FitsSigned, List, [], ◌∷◌, ◌++◌, All, length}
use Rattle.std.specs.Int.{w32}
use mathlib.Core.Option.{some}
use lib.ListN.{get_elem?}
use Rattle.atomic_table.specs.{Seated.TableId, declared.shared.Seat.Seat}
use Rattle.ring_layout.specs.declared.message.ClaimState.{TheVariants.Open, ClaimState}
use Rattle.ring_layout.specs.{History.span, Places.IsCapacity, Places.index, Layout.ring_words}
use Rattle.ring_table.specs.Staged.{StagedClaim, PlacedMessage, Padded, Stored, body_word, slot_bytes, staged_span}
use Rattle.ring_table.specs.{Changes.stored_as, Changes.with_body, Passing.placed_message, Views.Key, Views.View}
use Rattle.ring_table.specs.{ProducerSteps.Mine, ProducerSteps.HasClaim, ProducerSteps.with_changed, Ranges.numbered}

-- the words of n bytes
abbrev pub words_of : ℕ → ℕ
words_of n = (n + 7) / 8

-- words that are those of the bytes, from their start
abbrev pub AreWordsOf : List ℕ → List ℕ → Type 0
AreWordsOf body ws = (i y : ℕ) → get_elem? ws i ≡ some y → body_word body (8 * i) ≡ y

-- n slots from the index i on, in order, and no other
pub record HasSlots (i n : ℕ) (held : List (ℕ × ℕ)) : Type 0 where
  pub values : List ℕ
  pub held_is : held ≡ numbered i values
  pub count : length values ≡ n

-- the slots from the index i on, in order, have the words of these bytes
pub record HasBody (i : ℕ) (body : List ℕ) (held : List (ℕ × ℕ)) : Type 0 where
  pub values : List ℕ
  pub held_is : held ≡ numbered i values
  pub words : AreWordsOf body values
  pub count : length values ≡ words_of (length body)

-- these messages have their bodies out
abbrev pub with_out : List PlacedMessage → View → View
with_out ms v = record v { out = ms }

-- the slots of the own claim at this word, whose mark is not stored, are taken
abbrev pub ReservesAt : ℕ → Mine → Mine → Type 0
ReservesAt word me me' = (k : ℕ) (c : StagedClaim) → HasClaim me.0 k c → c.stage ≡ Padded
    → index me.0.capacity c.place ≡ word → (me'.0 ≡ with_out (placed_message c ∷ []) me.0)
    × HasSlots word (words_of (8 + length c.message.body)) me'.1

-- the slots of the newest claim, whose header is not stored, are taken
abbrev pub ReservesBody : Mine → Mine → Type 0
ReservesBody me me' = (others : List StagedClaim) (c : StagedClaim) → me.0.producer.claims ≡ others ++ c ∷ []
    → c.stage ≡ Padded → (me'.0 ≡ with_out (placed_message c ∷ []) me.0)
    × HasSlots (index me.0.capacity c.place) (words_of (8 + length c.message.body)) me'.1

-- the mark of the own claim whose slots are out is stored, and they go home. The claim gets this state, and the type id
-- and the body that they have
abbrev pub StoresRecord : ClaimState → Mine → Mine → Type 0
StoresRecord s me me' = (me'.1 ≡ []) × ((m : PlacedMessage) (i : ℕ) (type_id : ℤ) (body : List ℕ)
    → me.0.out ≡ m ∷ [] → FitsSigned w32 type_id → 8 + length body < 2 ^ 31 → All (λ b. b < 256) body
    → HasBody i (slot_bytes (record { type_id = type_id; body = body })) me.1
    → me'.0 ≡ with_out [] (with_changed m.place (stored_as s type_id body) me.0))

-- the slots of the own open claim whose header has this word are taken
abbrev pub TakesBody : ℕ → Mine → Mine → Type 0
TakesBody word me me' = (k : ℕ) (c : StagedClaim) → HasClaim me.0 k c → c.stage ≡ Stored Open
    → index me.0.capacity c.place ≡ word
    → (me'.0 ≡ with_out (placed_message c ∷ []) me.0) × HasBody word (slot_bytes c.message) me'.1
    × All (λ b. b < 256) c.message.body

-- the own open claim whose body is out gets the body whose words the slots have, and they go home
abbrev pub GivesBody : Mine → Mine → Type 0
GivesBody me me' = (me'.1 ≡ []) × ((m : PlacedMessage) (i : ℕ) (body : List ℕ) → me.0.out ≡ m ∷ []
    → length body ≡ length m.message.body → All (λ b. b < 256) body
    → HasBody i (slot_bytes (record { type_id = m.message.type_id; body = body })) me.1
    → me'.0 ≡ with_out [] (with_changed m.place (with_body body) me.0))

-- the slots of the message that the read got last are taken
abbrev pub LendsBody : ℕ → Mine → Mine → Type 0
LendsBody word me me' = (front : List PlacedMessage) (m : PlacedMessage) → me.0.consumer.got ≡ front ++ m ∷ []
    → (me'.0 ≡ with_out (m ∷ []) me.0) × HasBody word (slot_bytes m.message) me'.1

-- the first k words of the body of m as loads of a log
abbrev pub body_loads : ℕ → PlacedMessage → ℕ → List (ℕ × ℕ)
body_loads C m zero = []
body_loads C m (suc k) = body_loads C m k ++ (index C (m.place + 8 + 8 * k), body_word m.message.body (8 * k)) ∷ []

-- they go home
abbrev pub ReturnsSlots : Mine → Mine → Type 0
ReturnsSlots me me' = (me'.1 ≡ []) × ((m : PlacedMessage) → me.0.out ≡ m ∷ [] → me'.0 ≡ with_out [] me.0)

-- they go home, and the log has the words of the body as if each was loaded
abbrev pub ReturnsBody : Mine → Mine → Type 0
ReturnsBody me me' = (me'.1 ≡ []) × ((m : PlacedMessage) → me.0.out ≡ m ∷ []
    → me'.0 ≡ record me.0 {
      out = [];
      log = me.0.log ++ body_loads me.0.capacity m (words_of (length m.message.body));
    })

-- the message that the read got last is at this place, and is not cleared
pub record HasLast (place : ℕ) (v : View) : Type 0 where
  pub front : List PlacedMessage
  pub message : PlacedMessage
  pub got : v.consumer.got ≡ front ++ message ∷ []
  pub place_is : message.place ≡ place
  pub ahead : v.consumer.cleared ≤ message.place

-- no header of the claim is stored
abbrev pub IsPadded : StagedClaim → Type 0
IsPadded c = c.stage ≡ Padded

abbrev pub IsOpen : StagedClaim → Type 0
IsOpen c = c.stage ≡ Stored Open

-- the claim is open, with a body of n bytes
pub record IsOpenOf (n : ℕ) (c : StagedClaim) : Type 0 where
  pub stage : c.stage ≡ Stored Open
  pub len_is : length c.message.body ≡ n

-- the body of the own open claim at this place is out, and the slots have the words of `body`
pub record IsTaken (C place : ℕ) (body : List ℕ) (me : Mine) : Type 0 where
  pub message : PlacedMessage
  pub out_is : me.0.out ≡ message ∷ []
  pub at : message.place ≡ place
  pub nth : ℕ
  pub claim : StagedClaim
  pub there : HasClaim me.0 nth claim
  pub stage : claim.stage ≡ Stored Open
  pub at_place : claim.place ≡ place
  pub type_is : claim.message.type_id ≡ message.message.type_id
  pub long : length claim.message.body ≡ length message.message.body
  pub same_length : length body ≡ length message.message.body
  pub bytes : All (λ b. b < 256) body
  pub slots : HasBody (index C place) (slot_bytes (record { type_id = message.message.type_id; body = body })) me.1

-- the slots of the own claim at this place, whose header is not stored, are out, and have the words of `body`, which
-- has the right span
pub record IsReserved (C place : ℕ) (type_id : ℤ) (body : List ℕ) (me : Mine) : Type 0 where
  pub nth : ℕ
  pub claim : StagedClaim
  pub there : HasClaim me.0 nth claim
  pub stage : claim.stage ≡ Padded
  pub at_place : claim.place ≡ place
  pub out_is : me.0.out ≡ placed_message claim ∷ []
  pub same_span : span (length body) ≡ staged_span claim
  pub bytes : All (λ b. b < 256) body
  pub slots : HasBody (index C place) (slot_bytes (record { type_id = type_id; body = body })) me.1

-- the body of the message that the read got last is out, and the slots have its words
pub record IsLent (C place : ℕ) (me : Mine) : Type 0 where
  pub last : HasLast place me.0
  pub out_is : me.0.out ≡ last.message ∷ []
  pub slots : HasBody (index C place) (slot_bytes last.message.message) me.1

-- the seat is one of this table, which is a ring of this capacity, and may have a body out
pub record IsHolderOf (id : TableId) (key : Key) (capacity : ℕ) (s : Seat ℕ View) : Type 0 where
  pub table_is : s.table_id ≡ id
  pub words_are : id.words ≡ ring_words capacity
  pub key_is : key.capacity ≡ capacity
  pub view_is : s.me.0.capacity ≡ capacity
  pub lawful : IsCapacity capacity

-- the same seat, of a ring of the same capacity
pub record IsSameHolder (old new : Seat ℕ View) : Type 0 where
  pub table : new.table_id ≡ old.table_id
  pub id : new.id ≡ old.id
  pub capacity : new.me.0.capacity ≡ old.me.0.capacity
