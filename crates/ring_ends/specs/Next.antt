-- What became of the next message of a ring. v is what the consumer knew before the call, and w is what it knows after.
use Rattle.std.specs.Prelude.{◌≡◌, ◌⊎◌, ℕ, ◌<◌, ◌≤◌, ◌%◌, ℤ, List, [], ◌∷◌, ◌++◌, length, take, Bool, true, false}
use Rattle.ring_layout.specs.{declared.message.Message.Message, History.overwritten}
use Rattle.ring_words.specs.declared.read.end.Stop.{Stop, TheVariants.Block, TheVariants.Unpublished}
use Rattle.ring_table.specs.declared.{claim.PlacedMessage.PlacedMessage, view.View.View}
use Rattle.ring_rings.specs.{Reading.IsAtRest, Reading.FoundUnsettled, Reading.IsNext, Ring.message}
use Rattle.ring_ends.specs.{End.received, End.End, declared.copying.NextMessage.NextMessage}
use Rattle.ring_ends.specs.declared.copying.NextMessage.TheVariants.{Copied, Nothing, TooLong}

-- Of what the consumer knows only the log, which is longer by these loads, and its own part change. The head does not
-- go back, the heartbeats stay, and nothing is left of a running read.
pub record ReadsOn (v w : View) : Type 0 where
  pub loads : List (ℕ × ℕ)
  pub view : w ≡ record v { log = v.log ++ loads; consumer = w.consumer }
  pub on : v.consumer.head ≤ w.consumer.head
  pub heartbeats : w.consumer.heartbeats ≡ v.consumer.heartbeats
  pub cleared : w.consumer.cleared ≡ w.consumer.head
  pub rest : IsAtRest w

-- Why nothing was taken -----------------------------------------------------------

-- the read came to the end of the buffer
pub record CameToEnd (v w : View) : Type 0 where
  pub on : v.consumer.head < w.consumer.head
  pub end : w.consumer.head % w.capacity ≡ 0

-- one read of up to this many messages that stopped so: none was asked for, no settled record was at the new head, or
-- it came to the end of the buffer
abbrev pub RanOut : ℕ → Stop → View → View → Type 0
RanOut limit stopped v w =
    (limit ≡ 0) ⊎ (((stopped ≡ Unpublished) × FoundUnsettled v w) ⊎ ((stopped ≡ Block) × CameToEnd v w))

-- two reads, each of which came to the end of the buffer
pub record CameTwice (v w : View) : Type 0 where
  pub between : ℕ
  pub on : v.consumer.head < between
  pub end : between % v.capacity ≡ 0
  pub further : between < w.consumer.head
  pub last : w.consumer.head % v.capacity ≡ 0

-- none was asked for, no settled record was at the new head, or from one end of the buffer to the next was no message
abbrev pub HadNone : ℕ → View → View → Type 0
HadNone limit v w = (limit ≡ 0) ⊎ (FoundUnsettled v w ⊎ CameTwice v w)

-- none was taken, for this reason
pub record TookNone (Why : View → View → Type 0) (v w : View) : Type 0 where
  pub taken : w.consumer.taken ≡ v.consumer.taken
  pub why : Why v w

-- One message that is taken --------------------------------------------------------

-- one message more was taken
pub record TookNext (v w : View) : Type 0 where
  pub message : PlacedMessage
  pub taken : w.consumer.taken ≡ v.consumer.taken ++ message ∷ []

-- one message more was taken, or none was
abbrev pub TakesOne : (View → View → Type 0) → View → Bool → View → Type 0
TakesOne Why v true w = TookNext v w
TakesOne Why v false w = TookNone Why v w

abbrev pub TakesNext : (View → View → Type 0) → View → Bool → View → Type 0
TakesNext Why v took w = ReadsOn v w × TakesOne Why v took w

-- one message more was received, or none was
abbrev pub ReceivesAny : End → Bool → End → Type 0
ReceivesAny c true d = (m : Message) × (received d ≡ received c ++ m ∷ [])
ReceivesAny c false d = received d ≡ received c

-- One message that is copied -------------------------------------------------------

-- the message has this type id and this length
pub record HasHead (m : Message) (type_id : ℤ) (len : ℕ) : Type 0 where
  pub type_is : type_id ≡ m.type_id
  pub len_is : len ≡ length m.body

-- the message has this head, and its body is at the front of the buffer, which was `before`
pub record IsAtFront (m : Message) (type_id : ℤ) (len : ℕ) (before after : List ℕ) : Type 0 where
  pub room : length m.body ≤ length before
  pub head : HasHead m type_id len
  pub buffer : after ≡ overwritten 0 m.body before

-- one message more was taken, and is at the front of the buffer
pub record Took (v w : View) (type_id : ℤ) (len : ℕ) (before after : List ℕ) : Type 0 where
  pub message : PlacedMessage
  pub taken : w.consumer.taken ≡ v.consumer.taken ++ message ∷ []
  pub front : IsAtFront message.message type_id len before after

-- the message at the new head is at the front of the buffer, and stays
pub record Shows (v w : View) (type_id : ℤ) (len : ℕ) (before after : List ℕ) : Type 0 where
  pub taken : w.consumer.taken ≡ v.consumer.taken
  pub message : Message
  pub next : IsNext v w message
  pub front : IsAtFront message type_id len before after

-- the message at the new head is longer than the buffer, and stays
pub record LeavesAtHead (v w : View) (type_id : ℤ) (len : ℕ) (buffer : List ℕ) : Type 0 where
  pub taken : w.consumer.taken ≡ v.consumer.taken
  pub message : Message
  pub next : IsNext v w message
  pub head : HasHead message type_id len
  pub short : length buffer < length message.body

-- a message was copied, and taken, or stays
abbrev pub CopiesIt : Bool → View → View → ℤ → ℕ → List ℕ → List ℕ → Type 0
CopiesIt true = Took
CopiesIt false = Shows

-- a message was copied, is too long, or was not there
abbrev pub CopiesOne : Bool → (View → View → Type 0) → List ℕ → List ℕ → View → NextMessage → View → Type 0
CopiesOne takes Why before after v (Copied type_id len) w = CopiesIt takes v w type_id len before after
CopiesOne takes Why before after v (TooLong type_id len) w =
    LeavesAtHead v w type_id len before × (after ≡ before)
CopiesOne takes Why before after v Nothing w = TookNone Why v w × (after ≡ before)

abbrev pub CopiesNext : Bool → (View → View → Type 0) → List ℕ → List ℕ → View → NextMessage → View → Type 0
CopiesNext takes Why before after v next w = ReadsOn v w × CopiesOne takes Why before after v next w

-- the message that is at the front of this buffer was received, or none was
abbrev pub ReceivesNext : List ℕ → End → NextMessage → End → Type 0
ReceivesNext buffer c (Copied type_id len) d = received d ≡ received c ++ message type_id (take len buffer) ∷ []
ReceivesNext buffer c (TooLong type_id len) d = received d ≡ received c
ReceivesNext buffer c Nothing d = received d ≡ received c
