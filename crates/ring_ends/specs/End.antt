-- An end of a ring: a producer or a consumer with its ring, and what a call of it did.
use Rattle.std.specs.Prelude.{◌≡◌, ℕ, ℤ, List, length, Bool, true, Result, MatchResult, [], ◌∷◌, ◌++◌, take, IfOk, OnErr, OnOk}
use Rattle.atomic_table.specs.Seated.{TableId}
use Rattle.ring_layout.specs.declared.message.Message.{Message}
use Rattle.ring_words.specs.{Open.ClaimAt, declared.fault.ClaimFault.ClaimFault, declared.positions.Positions.Positions}
use Rattle.ring_table.specs.{RunBodies.messages_of, declared.runs.Outgoing.Outgoing, declared.view.View.View}
use Rattle.ring_rings.specs.Claiming.{AfterTries, Claims, Refuses, RefusesTry, Writes}
use Rattle.ring_rings.specs.{Joining.LoadsPositions, declared.ring.Producer.Producer, declared.fault.TryFault.TryFault}
use Rattle.ring_rings.specs.Ring.{message, received_in, sent_in, HasMessageAt}
use Rattle.ring_rings.specs.Seats.{view_of, IsOpenAt, KeepsOpen, MayClaim, OpensNoneAt}

pub record End : Type 0 where
  -- any number of producers write the ring
  pub many : Bool
  -- which ring it is
  pub table : TableId
  -- the bytes of the ring's buffer
  pub capacity : ℕ
  -- the position of the ring's first claim
  pub start : ℕ
  -- what the producer or the consumer knows
  pub view : View

-- Words of a caller ----------------------------------------------------------------

-- the messages that a producer committed, in the order of their claims
abbrev pub sent : End → List Message
sent p = sent_in p.view

-- the messages that a consumer received, the oldest first
abbrev pub received : End → List Message
received c = received_in c.view

abbrev pub shares : End → ℕ
shares p = p.view.producer.shares

-- both are ends of one ring: they differ at most in what they know
abbrev pub AreOfOneRing : End → End → Type 0
AreOfOneRing p q = q ≡ record p { view = q.view }

-- both are ends of rings of one table and one capacity
abbrev pub AreOfOneTable : End → End → Type 0
AreOfOneTable p q = (q.table ≡ p.table) × (q.capacity ≡ p.capacity)

-- the producer is the end's
pub record IsOfEnd (e : End) (p : Producer) : Type 0 where
  pub table : p.seat.table_id ≡ e.table
  pub capacity : p.seat.me.0.capacity ≡ e.capacity
  pub view : view_of p ≡ e.view
  pub sole : MayClaim e.many p

-- the claim in the producer's hands is one of its own, and open
abbrev pub IsOpenIn : End → ClaimAt → Type 0
IsOpenIn p t = IsOpenAt p.capacity p.view t

-- the producer's claim at this place has this message
abbrev pub HasMessage : End → ℕ → Message → Type 0
HasMessage p place m = HasMessageAt p.view place m

-- the call changed at most what the end knows. Its open claims and its shares stay, and no further claim is open
abbrev pub OpensNone : End → End → Type 0
OpensNone p q = AreOfOneRing p q × OpensNoneAt p.capacity p.view q.view

-- what was open stays open
abbrev pub KeepsClaims : End → End → Type 0
KeepsClaims p q = KeepsOpen p.capacity p.view q.view

-- What a call does -----------------------------------------------------------------

-- the call did this to what the end knows, and returned r; the rest stays
abbrev pub Does : {R : Type 0} → (View → R → View → Type 0) → End → R → End → Type 0
Does Call p r q = (q ≡ record p { view = q.view }) × Call p.view r q.view

-- the call did this, or was refused so
abbrev pub Either : {T F : Type 0} → (View → T → View → Type 0) → (View → F → View → Type 0)
    → View → Result T F → View → Type 0
Either Done Refused v r w = MatchResult r (λ x. Done v x w) (λ fault. Refused v fault w)

-- the message was sent, or nothing was
abbrev pub Sends : {F : Type 0} → ℤ → List ℕ → End → Result (Unit {0}) F → End → Type 0
Sends type_id body p r q = OnOk r (sent q ≡ sent p ++ message type_id body ∷ []) × OnErr r (sent q ≡ sent p)

-- these messages were sent in their order, as many of the first ones as the call says, or none
abbrev pub SendsFirst : {F : Type 0} → List Outgoing → End → Result ℕ F → End → Type 0
SendsFirst messages p r q =
    IfOk r (λ n. sent q ≡ sent p ++ messages_of (take n messages)) × OnErr r (sent q ≡ sent p)

-- a try to write
abbrev pub TriesWrite : Bool → ℕ → ℤ → List ℕ → View → Result (Unit {0}) TryFault → View → Type 0
TriesWrite many C type_id body = Either (λ v _ w. Writes many C type_id body v w) (RefusesTry many C type_id (length body))

-- a write of a producer that holds all shares
abbrev pub WritesAlone : Bool → ℕ → ℤ → List ℕ → View → Result (Unit {0}) ClaimFault → View → Type 0
WritesAlone many C type_id body =
    Either (λ v _ w. Writes many C type_id body v w) (Refuses many C type_id (length body))

-- a try to claim
abbrev pub TriesClaim : Bool → ℕ → ℤ → ℕ → View → Result ClaimAt TryFault → View → Type 0
TriesClaim many C type_id len = Either (Claims many C type_id len) (RefusesTry many C type_id len)

-- tries to write until none is Contended
abbrev pub WaitsToWrite : ℕ → ℤ → List ℕ → View → Result (Unit {0}) ClaimFault → View → Type 0
WaitsToWrite C type_id body = Either
    (λ v _ w. AfterTries C type_id (length body) v (λ u. Writes true C type_id body u w))
    (λ v fault w. AfterTries C type_id (length body) v (λ u. Refuses true C type_id (length body) u fault w))

-- tries to claim until none is Contended
abbrev pub WaitsToClaim : ℕ → ℤ → ℕ → View → Result ClaimAt ClaimFault → View → Type 0
WaitsToClaim C type_id len = Either
    (λ v t w. AfterTries C type_id len v (λ u. Claims true C type_id len u t w))
    (λ v fault w. AfterTries C type_id len v (λ u. Refuses true C type_id len u fault w))

-- these positions are loaded
abbrev pub LoadsThem : ℕ → View → Positions → View → Type 0
LoadsThem C v at w = LoadsPositions C v at.head at.tail w
