-- Marks: the words of a ring whose bodies lie in slots. The word at the index of a position p is a mark if it is above
-- p, and otherwise says nothing. A mark is the end of the run of committed records, of the other record or of the
-- padding that begins at p, and its kind.
use Rattle.std.specs.Prelude.{◌≡◌, ◌≢◌, ◌⊎◌, ℕ, pos, ◌+◌, ◌-◌, ◌*◌, ◌/◌, ◌%◌, ◌^◌, ◌≤◌, ◌<◌, List, [], ◌∷◌, ◌++◌, length, slice_index, if◌then◌else◌, nat_lt, ◌==◌}
use mathlib.Core.Option.{Option}
use Rattle.ring_layout.specs.Marks.{committed_kind, padding_kind, open_kind, aborted_kind}
use Rattle.ring_layout.specs.Places.{index, rounded}
use Rattle.ring_table.specs.Staged.{Bodies, in_words, elsewhere, padding_word, PlacedMessage}
use Rattle.ring_table.specs.{Views.Key, Views.Run, Views.View, Views.with_run, Views.Logs, ConsumerSteps.LoadsHeader}
use Rattle.ring_table.specs.{Shelf.HasShelf, Shelf.IsShelf, ProducerSteps.Mine, SlotSteps.with_out, SlotSteps.IsLent}
use Rattle.ring_table.specs.Rule.{Kept}
use Rattle.ring_layout.specs.Headers.{committed_header, open_header, padding_header}

-- the kind of what has this header
unfoldable pub kind_of : ℕ → ℕ
kind_of h =
    if nat_lt (2 ^ 31) (h % 2 ^ 32) then open_kind
    else (if h / 2 ^ 32 == 2 ^ 32 - 2 then padding_kind
    else (if h / 2 ^ 32 == 2 ^ 32 - 1 then aborted_kind else committed_kind))

-- the bytes of what has this header
unfoldable pub bytes_of : ℕ → ℕ
bytes_of h = if nat_lt (2 ^ 31) (h % 2 ^ 32) then rounded (2 ^ 32 - h % 2 ^ 32) else rounded (h % 2 ^ 32)

-- the mark at the position p of what has this header
abbrev pub mark_of : ℕ → ℕ → ℕ
mark_of p h = p + bytes_of h + kind_of h

-- a record that is committed has this header
abbrev pub IsCommitted : ℕ → Type 0
IsCommitted h = (h ≢ 0) × (kind_of h ≡ committed_kind)

-- what a list has at the index of a position
abbrev pub at_position : ℕ → List ℕ → ℕ → ℕ
at_position C xs p = slice_index xs (index C p)

-- ---- runs: h p is the header at the position p, w p is the word there, and ends p is the end of the run of the
-- ---- committed record there

-- the record that ends at p is committed, and is of the same run
pub record Precedes (head : ℕ) (h ends : ℕ → ℕ) (p : ℕ) : Type 0 where
  pub at : ℕ
  pub whole : at % 8 ≡ 0
  pub from : head ≤ at
  pub below : at < p
  pub committed : IsCommitted (h at)
  pub meets : at + bytes_of (h at) ≡ p
  pub same : ends at ≡ ends p

-- The committed record at p is the last one of its run, or the next one is of this run too. The word is the mark of the
-- run, or no mark, if another record of the run comes before
pub record IsOfRun (C head : ℕ) (h ends w : ℕ → ℕ) (p : ℕ) : Type 0 where
  pub whole : ends p % 8 ≡ 0
  pub near : ends p ≤ head + C
  pub goes_on : (ends p ≡ p + bytes_of (h p)) ⊎ ((p + bytes_of (h p) < ends p)
      × IsCommitted (h (p + bytes_of (h p))) × (ends (p + bytes_of (h p)) ≡ ends p))
  pub mark : (w p ≡ ends p) ⊎ ((w p ≤ p) × Precedes head h ends p)

-- a committed record at p has the mark of a run
abbrev pub Begins : ℕ → ℕ → (ℕ → ℕ) → (ℕ → ℕ) → (ℕ → ℕ) → ℕ → Type 0
Begins C head h ends w p = p < head + C → IsCommitted (h p) → w p ≡ ends p

-- A read that has come to `scan` is in a run of committed records, of which it has passed those from `run.from` on, or
-- it is at the end of the run
pub record ReadsRun (C head scan : ℕ) (run : Run) (h ends w : ℕ → ℕ) : Type 0 where
  pub from : head ≤ run.from
  pub passed : run.from ≤ scan
  pub to : scan ≤ run.to
  pub near : run.to ≤ head + C
  pub whole : (run.from % 8 ≡ 0) × (scan % 8 ≡ 0)
  pub one : (p : ℕ) → p % 8 ≡ 0 → run.from ≤ p → p < scan → IsCommitted (h p) → ends p ≡ run.to
  pub ahead : scan < run.to → IsCommitted (h scan) × (ends scan ≡ run.to)
  pub begins : Begins C head h ends w run.from
  pub stops : scan ≡ run.to → Begins C head h ends w scan

-- ---- the rule

-- The words have the marks of what the headers show, from the head on. Words for which the headers show nothing are no
-- marks
pub record Encodes (C head : ℕ) (headers : List ℕ) (ends : ℕ → ℕ) (words : List ℕ) : Type 0 where
  pub wide : length words ≡ length headers
  pub trailer : (i : ℕ) → C / 8 ≤ i → slice_index words i ≡ slice_index headers i
  pub marks : (p : ℕ) → p % 8 ≡ 0 → head ≤ p → p < head + C → at_position C headers p ≢ 0
      → kind_of (at_position C headers p) ≢ committed_kind
      → at_position C words p ≡ mark_of p (at_position C headers p)
  pub runs : (p : ℕ) → p % 8 ≡ 0 → head ≤ p → p < head + C → IsCommitted (at_position C headers p)
      → IsOfRun C head (at_position C headers) ends (at_position C words) p
  pub none : (p : ℕ) → p % 8 ≡ 0 → head ≤ p → p < head + C → at_position C headers p ≡ 0
      → at_position C words p ≤ p

-- The rule of a ring whose bodies lie in slots: there are headers that keep the rule, and that the words encode. The
-- headers that a read has passed are cleared as the head is stored, and none before
pub record KeepsMarks (C start : ℕ) (words : List ℕ) (homes : List (Option ℕ)) (views : List View) : Type 0 where
  pub headers : List ℕ
  pub ends : ℕ → ℕ
  pub kept : Kept elsewhere C start headers views
  pub shelf : IsShelf C homes views
  pub none_cleared : kept.consumer.cleared ≡ kept.consumer.head
  pub encodes : Encodes C kept.consumer.head headers ends words
  pub reads : ReadsRun C kept.consumer.head kept.consumer.scan kept.consumer.run (at_position C headers) ends
      (at_position C words)

-- the rule
abbrev pub KeepsIn : Bodies → ℕ → ℕ → List ℕ → List (Option ℕ) → List View → Type 0
KeepsIn in_words C start words homes views = Kept in_words C start words views × HasShelf in_words C homes views
KeepsIn elsewhere C start words homes views = KeepsMarks C start words homes views

abbrev pub Keeps : Bodies → Key → List ℕ → List (Option ℕ) → List View → Type 0
Keeps B k words homes views = KeepsIn B k.capacity k.start words homes views

-- ---- what a mark n shows a read that has come to `scan` and got these messages

-- no record is settled there
abbrev pub IsQuiet : ℕ → ℕ → Type 0
IsQuiet scan n = (n ≤ scan) ⊎ (n % 8 ≡ open_kind)

-- the header is that of a message, whose slots are taken
abbrev pub TakesRecord : ℕ → ℕ → ℕ → Mine → Type 0
TakesRecord C scan header me = (lent : IsLent C scan me)
    × (header ≡ committed_header lent.last.message.message.type_id (length lent.last.message.message.body))
    × (header < 18446744073709551616)

-- The header is what the formats have there, which the log gets. That of a message is in the slots, which are taken, and
-- the read is in the run that ends at the mark
pub record LoadsMark (C scan : ℕ) (got : List PlacedMessage) (me : Mine) (n : ℕ) (me' : Mine) : Type 0 where
  pub header : ℕ
  pub loads : LoadsHeader C scan got (with_run me'.0.consumer.run me.0) header (with_out me.0.out me'.0)
  pub logs : Logs (index C scan) header me.0 me'.0
  pub quiet : IsQuiet scan n → (header ≡ 0) × (me'.1 ≡ me.1) × (me'.0.out ≡ me.0.out)
      × (me'.0.consumer.run ≡ record { from = scan; to = scan })
  pub passes : scan < n → n % 8 ≢ open_kind → n % 8 ≢ committed_kind
      → (header ≡ padding_header (n - n % 8 - scan)) × (me'.1 ≡ me.1) × (me'.0.out ≡ me.0.out)
      × (n - n % 8 - scan < 2 ^ 31) × (scan ≤ n - n % 8) × (me'.0.consumer.run ≡ record { from = scan; to = n - n % 8 })
  pub message : scan < n → n % 8 ≡ committed_kind → TakesRecord C scan header me'
      × (me'.0.consumer.run ≡ record { from = scan; to = n })

-- the run goes on at `scan`
pub record LoadsInRun (C scan : ℕ) (got : List PlacedMessage) (me me' : Mine) : Type 0 where
  pub header : ℕ
  pub loads : LoadsHeader C scan got (with_run me'.0.consumer.run me.0) header (with_out me.0.out me'.0)
  pub logs : Logs (index C scan) header me.0 me'.0
  pub message : TakesRecord C scan header me'
  pub run : me'.0.consumer.run ≡ me.0.consumer.run

-- ---- a read that stops inside a run: the rest of the run gets a mark of its own

-- from the position that the read has come to
abbrev pub SplitsAtScan : View → View → Type 0
SplitsAtScan v w = w ≡ with_run (record { from = v.consumer.scan; to = v.consumer.run.to }) v

-- from the last message that the read got
abbrev pub SplitsAtLast : View → View → Type 0
SplitsAtLast v w = (front : List PlacedMessage) (m : PlacedMessage) → v.consumer.got ≡ front ++ m ∷ []
    → w ≡ with_run (record { from = m.place; to = v.consumer.run.to }) v

-- a mark is at the position that the read has come to, if a record is committed there
abbrev pub MayStop : View → Type 0
MayStop v = (v.consumer.run.to ≤ v.consumer.scan) ⊎ (v.consumer.run.from ≡ v.consumer.scan)

-- ---- the headers of a table that was closed

-- the word w is the mark of the header h at p, or no mark if there is no header
pub record IsMarkOf (p w h : ℕ) : Type 0 where
  pub none : h ≡ 0 → w ≤ p
  pub mark : h ≢ 0 → w ≡ mark_of p h

-- The words have marks of these headers, and the slots have the headers of the committed records. No header is inside of
-- what another one shows
pub record ShowsRuns (C head : ℕ) (slots words headers : List ℕ) : Type 0 where
  pub ends : ℕ → ℕ
  pub encodes : Encodes C head headers ends words
  pub heads : (p : ℕ) → p % 8 ≡ 0 → head ≤ p → p < head + C → IsCommitted (at_position C headers p)
      → at_position C slots p ≡ at_position C headers p
  pub full : (p : ℕ) → p % 8 ≡ 0 → head ≤ p → p < head + C → at_position C headers p ≢ 0
      → 8 ≤ bytes_of (at_position C headers p)
  pub alone : (q p : ℕ) → q % 8 ≡ 0 → p % 8 ≡ 0 → head ≤ q → q < p → p < head + C → at_position C headers q ≢ 0
      → p < q + bytes_of (at_position C headers q) → at_position C headers p ≡ 0

-- each header has a mark of its own
abbrev pub AreMarked : ℕ → ℕ → List ℕ → List ℕ → Type 0
AreMarked C head words headers = (p : ℕ) → p % 8 ≡ 0 → head ≤ p → p < head + C
    → IsMarkOf p (at_position C words p) (at_position C headers p)

-- Before the position `at` the new words have a mark for each header, and from there on they are the old ones. Nothing
-- begins from there up to `next`, and from there up to `end` lies the rest of a run
pub record Spreads (C head : ℕ) (headers : List ℕ) (ends : ℕ → ℕ) (old new : List ℕ) (at next end : ℕ) : Type 0 where
  pub whole : (at % 8 ≡ 0) × (next % 8 ≡ 0)
  pub order : (head ≤ at) × (at ≤ next) × (next ≤ end)
  pub done : (p : ℕ) → p % 8 ≡ 0 → head ≤ p → p < at → p < head + C
      → IsMarkOf p (at_position C new p) (at_position C headers p)
  pub ahead : (p : ℕ) → p % 8 ≡ 0 → at ≤ p → p < head + C → at_position C new p ≡ at_position C old p
  pub between : (p : ℕ) → p % 8 ≡ 0 → at ≤ p → p < next → p < head + C → at_position C headers p ≡ 0
  pub goes_on : next < end → IsCommitted (at_position C headers next) × (ends next ≡ end) × (end ≤ head + C)
  pub begins : next ≡ end → Begins C head (at_position C headers) ends (at_position C old) next
  pub passed : (p : ℕ) → p % 8 ≡ 0 → head ≤ p → p < at → p < head + C → IsCommitted (at_position C headers p)
      → p + bytes_of (at_position C headers p) ≤ next

-- The header of what the mark w shows at the position p, if its first slot has y. An open claim counts as one with the
-- type id 1, whose body fills its record, since its slots may be out
unfoldable pub decoded : ℕ → ℕ → ℕ → ℕ
decoded p w y =
    if nat_lt p w then (if w % 8 == committed_kind then y
    else (if w % 8 == padding_kind then padding_word elsewhere (w - w % 8 - p)
    else (if w % 8 == aborted_kind then (2 ^ 32 - 1) * 2 ^ 32 + y % 2 ^ 32
    else open_header (pos 1) (w - w % 8 - p - 8)))) else 0

-- a mark at the position p is of some bytes
abbrev pub MayDecode : ℕ → ℕ → Type 0
MayDecode p w = p < w → (p + 8 ≤ w - w % 8) × (w - w % 8 - p < 2 ^ 31)

-- the new words have the headers that the old ones and the slots show, from the head on
abbrev pub IsDecoded : ℕ → ℕ → List ℕ → List ℕ → List ℕ → Type 0
IsDecoded C head slots old new = (p : ℕ) → p % 8 ≡ 0 → head ≤ p → p < head + C
    → slice_index new (index C p) ≡ decoded p (slice_index old (index C p)) (slice_index slots (index C p))
