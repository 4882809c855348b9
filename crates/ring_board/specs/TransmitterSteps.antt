-- The views that each step of the transmitter shows its seat.
use Rattle.std.specs.Prelude.{◌≡◌, ℕ, ◌+◌, ◌≤◌, if◌then◌else◌, nat_lt, nat_le, List, [], ◌∷◌, ◌++◌, pos}
use Rattle.ring_layout.specs.{Places.room, Places.max_position, Refusals.all_shares}
use Rattle.ring_board.specs.declared.shared.view.Stage.TheVariants.{Idle, Begun, Storing, Written, Shown}
use Rattle.ring_board.specs.declared.shared.view.{Record.Record, Draft.Draft, View.View, Stage.Stage}
use Rattle.ring_board.specs.{Records.end, Records.last_of, Records.message_in, Runs.AreRuns, Views.Sat, Views.at_stage}

-- the place of the record that comes next after e and ends at z
abbrev pub place_before : ℕ → ℕ → ℕ → ℕ
place_before C e z = if nat_le z (e + room C e) then e else e + room C e

abbrev pub draft : ℕ → ℕ → ℕ → List ℕ → Draft
draft b p z ws = record { before = b; place = p; end = z; words = ws }

abbrev pub drafted : Draft → Stage
drafted d = if nat_lt d.before d.place then Begun d else Storing d

-- a transmission begins that will end at z
abbrev pub after_intent : View → ℕ → View
after_intent v z = at_stage v (drafted (draft v.at (place_before v.capacity v.at z) z []))

abbrev pub after_padding : Stage → Stage
after_padding (Begun d) = Storing d
after_padding st = st

abbrev pub with_words : Draft → List ℕ → Draft
with_words d ws = record d { words = d.words ++ ws }

abbrev pub after_words : Stage → List ℕ → Stage
after_words (Storing d) ws = Storing (with_words d ws)
after_words st ws = st

-- the record that a draft becomes with this header
abbrev pub with_entry : Draft → ℕ → Record
with_entry d x = record { before = d.before; place = d.place; message = message_in x d.words }

abbrev pub after_header : Stage → ℕ → Stage
after_header (Storing d) x = Written (with_entry d x)
after_header st x = st

-- the record that is written and not yet sent, if there is one
abbrev pub record_at : Stage → Record
record_at (Written r) = r
record_at (Shown r) = r
record_at _ = record { before = 0; place = 0; message = record { type_id = pos 0; body = [] } }

abbrev pub after_latest : Stage → Stage
after_latest (Written r) = Shown r
after_latest st = st

-- the transmitter's view after this record was sent
abbrev pub sent_on : View → Record → View
sent_on v r = record v { stage = Idle; at = end r; sent = v.sent ++ r ∷ [] }

abbrev pub after_tail : View → Stage → View
after_tail v (Shown r) = sent_on v r
after_tail v st = v

abbrev pub StoresIntent : Sat → ℕ → Sat → Type 0
StoresIntent m x m' = m' ≡ (after_intent m.0 x, m.1)

abbrev pub StoresPadding : Sat → ℕ → Sat → Type 0
StoresPadding m x m' = m' ≡ (at_stage m.0 (after_padding m.0.stage), m.1)

abbrev pub StoresWord : Sat → ℕ → Sat → Type 0
StoresWord m x m' = m' ≡ (at_stage m.0 (after_words m.0.stage (x ∷ [])), m.1)

abbrev pub StoresHeader : Sat → ℕ → Sat → Type 0
StoresHeader m x m' = m' ≡ (at_stage m.0 (after_header m.0.stage x), m.1)

abbrev pub StoresLatest : Sat → ℕ → Sat → Type 0
StoresLatest m x m' = m' ≡ (at_stage m.0 (after_latest m.0.stage), m.1)

abbrev pub StoresTail : Sat → ℕ → Sat → Type 0
StoresTail m x m' = m' ≡ (after_tail m.0 m.0.stage, m.1)

-- the effect of a load of latest by the transmitter
abbrev pub Learns : Sat → ℕ → Sat → Type 0
Learns m x m' = (m' ≡ m) × (x ≡ last_of m.0.start m.0.sent) × AreRuns m.0.sent m.0.from m.0.copies
    × (m.0.shares ≤ all_shares) × (x ≤ max_position)
