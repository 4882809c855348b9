-- The words that a call takes after its name.
use Rattle.std.specs.Prelude.{◌≡◌, ◌≢◌, ℕ, ℤ, List, [], ◌∷◌, codes}
use Rattle.ring_words.specs.declared.read.action.Action.{Action}
use Rattle.ring_scenario.specs.declared.lines.fault.LineFault.{LineFault, TheVariants.OutOfMemory}
use Rattle.ring_scenario.specs.declared.lines.{Words.Words, moment.Moment.Moment, name.Name.Name}
use Rattle.ring_scenario.specs.declared.lines.name.Name.TheVariants.{Write, Claim, Put, Commit, Abort, Read, Control, Positions, Correlation, Beat, Heartbeat, Transmit, Subscribe, Receive, Leave, Storm, Send, Allocate, Own, Free, Set, Close, Work, Listen, Hear, Counters, Owner, Watch, Peek, Unwatch}
use Rattle.ring_scenario.specs.Taking.{words_in}
use Rattle.ring_scenario.specs.Words.{SpellsActions, SpellsBytes, SpellsI32, SpellsI64, SpellsUnsigned}

-- the kinds of words
pub data Kind : Type 0 where
  signed_32 : Kind
  signed_64 : Kind
  unsigned_32 : Kind
  unsigned_64 : Kind
  moment : Kind
  bytes : Kind
  actions : Kind

-- what words of a kind spell
abbrev pub ValueOf : Kind → Type 0
ValueOf signed_32 = ℤ
ValueOf signed_64 = ℤ
ValueOf unsigned_32 = ℕ
ValueOf unsigned_64 = ℕ
ValueOf moment = Moment
ValueOf bytes = List ℕ
ValueOf actions = List Action

-- the word spells this value
abbrev pub Spells : (kind : Kind) → ValueOf kind → List ℕ → Type 0
Spells signed_32 n word = SpellsI32 word n
Spells signed_64 n word = SpellsI64 word n
Spells unsigned_32 n word = SpellsUnsigned 32 word n
Spells unsigned_64 n word = SpellsUnsigned 64 word n
Spells moment now word = SpellsUnsigned 64 word now.ms
Spells bytes body word = SpellsBytes word body
Spells actions letters word = SpellsActions word letters

-- the word spells something of this kind
abbrev pub IsOf : Kind → List ℕ → Type 0
IsOf kind word = (value : ValueOf kind) × Spells kind value word

-- a value for each of these kinds
abbrev pub Values : List Kind → Type 0
Values [] = Unit {0}
Values (kind ∷ kinds) = ValueOf kind × Values kinds

-- there are as many words as values, and each spells its value
abbrev pub AreSpelled : (kinds : List Kind) → Values kinds → List (List ℕ) → Type 0
AreSpelled [] values words = words ≡ []
AreSpelled (kind ∷ kinds) values words = (word : List ℕ) × (more : List (List ℕ)) × (words ≡ word ∷ more)
    × Spells kind values.0 word × AreSpelled kinds values.1 more

-- the next word is missing, or is not of this kind
abbrev pub HasNone : Kind → Words → Type 0
HasNone kind words =
    (word : List ℕ) (more : List (List ℕ)) → words_in words ≡ word ∷ more → IsOf kind word → ⊥

-- the first word of the lines that name a call, and the kinds of the words after it
abbrev pub syntax_of : Name → List ℕ × List Kind
syntax_of Write = (codes "write", signed_32 ∷ bytes ∷ [])
syntax_of Claim = (codes "claim", signed_32 ∷ unsigned_64 ∷ [])
syntax_of Put = (codes "put", unsigned_64 ∷ unsigned_64 ∷ bytes ∷ [])
syntax_of Commit = (codes "commit", unsigned_64 ∷ [])
syntax_of Abort = (codes "abort", unsigned_64 ∷ [])
syntax_of Read = (codes "read", unsigned_32 ∷ [])
syntax_of Control = (codes "control", unsigned_32 ∷ actions ∷ [])
syntax_of Positions = (codes "positions", [])
syntax_of Correlation = (codes "correlation", [])
syntax_of Beat = (codes "beat", unsigned_64 ∷ [])
syntax_of Heartbeat = (codes "heartbeat", [])
syntax_of Transmit = (codes "transmit", signed_32 ∷ bytes ∷ [])
syntax_of Subscribe = (codes "subscribe", [])
syntax_of Receive = (codes "receive", unsigned_64 ∷ [])
syntax_of Leave = (codes "leave", unsigned_64 ∷ [])
syntax_of Storm = (codes "storm", unsigned_32 ∷ unsigned_32 ∷ [])
syntax_of Send = (codes "send", signed_32 ∷ bytes ∷ [])
syntax_of Allocate = (codes "allocate", signed_32 ∷ bytes ∷ bytes ∷ [])
syntax_of Own = (codes "own", unsigned_64 ∷ signed_32 ∷ bytes ∷ bytes ∷ [])
syntax_of Free = (codes "free", unsigned_32 ∷ [])
syntax_of Set = (codes "set", unsigned_32 ∷ signed_64 ∷ [])
syntax_of Close = (codes "close", unsigned_64 ∷ [])
syntax_of Work = (codes "work", moment ∷ unsigned_32 ∷ [])
syntax_of Listen = (codes "listen", [])
syntax_of Hear = (codes "hear", unsigned_64 ∷ [])
syntax_of Counters = (codes "counters", [])
syntax_of Owner = (codes "owner", unsigned_32 ∷ [])
syntax_of Watch = (codes "watch", [])
syntax_of Peek = (codes "peek", unsigned_64 ∷ unsigned_32 ∷ [])
syntax_of Unwatch = (codes "unwatch", unsigned_64 ∷ [])

abbrev pub spelled : Name → List ℕ
spelled name = (syntax_of name).0

abbrev pub kinds_of : Name → List Kind
kinds_of name = (syntax_of name).1

-- the name of a call, and a value for each word after the name
abbrev pub Form : Type 0
Form = (name : Name) × Values (kinds_of name)

-- the words are the name of a form, and a word for each of its values
abbrev pub Spell : Form → List (List ℕ) → Type 0
Spell form words =
    (rest : List (List ℕ)) × (words ≡ spelled form.0 ∷ rest) × AreSpelled (kinds_of form.0) form.1 rest

-- The fault of a line whose words after its name must be of these kinds. The words spell no values of these kinds, or
-- memory ran out.
abbrev pub Refuses : List Kind → Words → LineFault → Type 0
Refuses kinds words fault =
    fault ≢ OutOfMemory → (values : Values kinds) → AreSpelled kinds values (words_in words) → ⊥
