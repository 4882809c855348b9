-- Commands, and the one encoding of each.
use Rattle.std.specs.Prelude.{◌≡◌, ℕ, ℤ, pos, ◌<◌, ◌≤◌, ◌^◌, List, ◌++◌, length, FitsSigned}
use Rattle.std.specs.{Borrow.Bor, Int.w32, Int.w64, declared.alloc.Global.Global, declared.vec.Vec.Vec}
use Rattle.ring_protocol.specs.declared.command.Command.{Command}
use Rattle.ring_protocol.specs.declared.command.Command.TheVariants as of
pub use Rattle.ring_protocol.specs.declared.command.Request.{Request}
pub use Rattle.ring_protocol.specs.declared.command.Request.TheVariants.{Allocate, Free, Set, AllocateOwned, Close}
use Rattle.ring_protocol.specs.Field.{u32_field, u64_field, i32_field, i64_field, sized_field, IsSized}

-- a command without the addresses of its key and its label
pub record Instruction : Type 0 where
  pub correlation : ℕ
  pub request : Request (List ℕ)

-- the command that asks for this, with a correlation id
abbrev pub with_id : ℕ → Request (List ℕ) → Instruction
with_id correlation r = record { correlation = correlation; request = r }

-- the same request with other texts
abbrev pub with_texts : {S T : Type 0} → (S → T) → Request S → Request T
with_texts text (Allocate type_id key label) = Allocate type_id (text key) (text label)
with_texts text (Free id) = Free id
with_texts text (Set id value) = Set id value
with_texts text (AllocateOwned type_id owner key label) = AllocateOwned type_id owner (text key) (text label)
with_texts text (Close owner) = Close owner

-- a request whose key and label are borrowed, as a client sends it, and a request that owns them
abbrev pub LentRequest : Type 0
LentRequest = Request (Bor (List ℕ))

abbrev pub OwnedRequest : Type 0
OwnedRequest = Request (Vec ℕ Global)

-- the content of a request, at any place of the key and the label in memory
abbrev pub content_of_request : LentRequest → Request (List ℕ)
content_of_request r = with_texts (λ text. text.now) r

abbrev pub content_of_owned : OwnedRequest → Request (List ℕ)
content_of_owned r = with_texts (λ text. text.items) r

-- the command of a request that a client sends
abbrev pub asked : LentRequest → ℕ → Instruction
asked r correlation = with_id correlation (content_of_request r)

-- the content of a command, at any place of its key and its label in memory
abbrev pub content_of : Command → Instruction
content_of (of.Allocate correlation type_id key label) =
    with_id correlation (Allocate type_id key.now label.now)
content_of (of.Free correlation id) = with_id correlation (Free id)
content_of (of.Set correlation id value) = with_id correlation (Set id value)
content_of (of.AllocateOwned correlation type_id owner key label) =
    with_id correlation (AllocateOwned type_id owner key.now label.now)
content_of (of.Close correlation owner) = with_id correlation (Close owner)

-- the type id of the message that encodes a command
abbrev pub request_type_id : Request (List ℕ) → ℤ
request_type_id (Allocate type_id key label) = pos 1
request_type_id (Free id) = pos 2
request_type_id (Set id value) = pos 3
request_type_id (AllocateOwned type_id owner key label) = pos 4
request_type_id (Close owner) = pos 5

abbrev pub type_id_of : Instruction → ℤ
type_id_of c = request_type_id c.request

-- the fields after the correlation id of a request, in this order
abbrev pub fields_of : Request (List ℕ) → List ℕ
fields_of (Allocate type_id key label) = i32_field type_id ++ sized_field key ++ sized_field label
fields_of (Free id) = u32_field id
fields_of (Set id value) = u32_field id ++ i64_field value
fields_of (AllocateOwned type_id owner key label) =
    i32_field type_id ++ u64_field owner ++ sized_field key ++ sized_field label
fields_of (Close owner) = u64_field owner

-- the body of a command
abbrev pub spelling_of : Instruction → List ℕ
spelling_of c = u64_field c.correlation ++ fields_of c.request

-- each field is in the range of its type
abbrev pub HasFields : Request (List ℕ) → Type 0
HasFields (Allocate type_id key label) = FitsSigned w32 type_id × IsSized key × IsSized label
HasFields (Free id) = id < 2 ^ 32
HasFields (Set id value) = (id < 2 ^ 32) × FitsSigned w64 value
HasFields (AllocateOwned type_id owner key label) =
    FitsSigned w32 type_id × (owner < 2 ^ 64) × IsSized key × IsSized label
HasFields (Close owner) = owner < 2 ^ 64

-- a command that has an encoding
abbrev pub HasSpelling : Instruction → Type 0
HasSpelling c = (c.correlation < 2 ^ 64) × HasFields c.request

-- the key and the label are at most as long as a length field can say
abbrev pub HasTextLengths : Request (List ℕ) → Type 0
HasTextLengths (Allocate type_id key label) = (length key < 2 ^ 32) × (length label < 2 ^ 32)
HasTextLengths (AllocateOwned type_id owner key label) = (length key < 2 ^ 32) × (length label < 2 ^ 32)
HasTextLengths r = Unit {0}

-- the key and the label are at most as long as those of a counter may be
abbrev pub HasLawfulTexts : Request (List ℕ) → Type 0
HasLawfulTexts (Allocate type_id key label) = (length key ≤ 112) × (length label ≤ 380)
HasLawfulTexts (AllocateOwned type_id owner key label) = (length key ≤ 112) × (length label ≤ 380)
HasLawfulTexts r = Unit {0}

-- a type id and a body are the encoding of a command
pub record Spells (type_id : ℤ) (body : List ℕ) (c : Instruction) : Type 0 where
  pub has_spelling : HasSpelling c
  pub of_type : type_id_of c ≡ type_id
  pub spelled : spelling_of c ≡ body

-- some command has the type id
abbrev pub IsCommandType : ℤ → Type 0
IsCommandType type_id = (c : Instruction) × (type_id_of c ≡ type_id)
