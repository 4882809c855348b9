-- The views that each step of a receiver shows its seat.
use Rattle.std.specs.Prelude.{◌≡◌, ℕ, ◌+◌, ◌/◌, ◌%◌, ◌<◌, ◌≤◌, suc, if◌then◌else◌, nat_lt, List, [], ◌∷◌, ◌++◌, length, true, false, ◌⊎◌}
use mathlib.Core.Option.{some}
use lib.ListN.{get_elem?}
use Rattle.ring_layout.specs.{declared.message.Message.Message, History.span, Places.max_position}
use Rattle.ring_board.specs.declared.shared.view.Load.TheVariants.{Word, Intent, Tail, Latest}
use Rattle.ring_board.specs.declared.shared.view.Stage.TheVariants.{Resting, Sure, Headed, Padded, Again, Reading, Behind}
use Rattle.ring_board.specs.declared.shared.view.{Taken.Taken, View.View, Stage.Stage}
use Rattle.ring_board.specs.Records.{word_count, announced, body_len, is_padding, message_in, message_of}
use Rattle.ring_board.specs.{Views.Sat, Views.at_stage, Views.logged, Views.last_tail, Views.word_load, Bodies.AreRight}

abbrev pub tail_loaded : View → ℕ → View
tail_loaded v x = record v { stage = if nat_lt v.at x then Sure else Resting; log = v.log ++ Tail x ∷ [] }

abbrev pub LoadsTail : Sat → ℕ → Sat → Type 0
LoadsTail m x m' = (m' ≡ (tail_loaded m.0 x, m.1)) × (x ≤ max_position)

-- the place of the next header, which is the receiver's place, or after padding there
abbrev pub IsHeaderPlace : View → ℕ → Type 0
IsHeaderPlace v p = ((v.stage ≡ Sure) × (p ≡ v.at)) ⊎ ((w : ℕ) × (v.stage ≡ Padded w) × (p ≡ v.at + announced w))

-- a header was loaded at the index i
abbrev pub header_loaded : View → ℕ → Stage → ℕ → View
header_loaded v i Sure x = record v { stage = Headed x; log = v.log ++ word_load v i x ∷ [] }
header_loaded v i (Padded w) x =
    record v { stage = Again x; at = v.at + announced w; log = v.log ++ word_load v i x ∷ [] }
header_loaded v i st x = v

abbrev pub LoadsHeader : ℕ → Sat → ℕ → Sat → Type 0
LoadsHeader i m x m' = m' ≡ (header_loaded m.0 i m.0.stage x, m.1)

abbrev pub read_on : Stage → ℕ → Stage
read_on (Reading w ws) x = Reading w (ws ++ x ∷ [])
read_on st x = st

-- a word of a body was loaded at the index i
abbrev pub word_loaded : View → ℕ → ℕ → View
word_loaded v i x = record v { stage = read_on v.stage x; log = v.log ++ word_load v i x ∷ [] }

abbrev pub LoadsWord : ℕ → Sat → ℕ → Sat → Type 0
LoadsWord i m x m' = m' ≡ (word_loaded m.0 i x, m.1)

abbrev pub copy_of : View → Message → Taken
copy_of v m = record { place = v.at; message = m; count = v.count }

-- the receiver after a copy of this message
abbrev pub after_copy : View → Message → View
after_copy v m = record v {
  stage = Resting;
  at = v.at + span (length m.body);
  next = suc v.next;
  copies =
      v.copies ++ copy_of v m ∷ [];
}

-- a validation succeeded
abbrev pub passed : View → Stage → View
passed v (Headed w) = at_stage v (if is_padding w then Padded w else Reading w [])
passed v (Again w) = at_stage v (Reading w [])
passed v (Reading w ws) = after_copy v (message_in w ws)
passed v st = v

-- An intent was loaded. A place is valid if the intent is less than the capacity above it.
abbrev pub validated : View → ℕ → View
validated v x = logged (if nat_lt x (v.at + v.capacity) then passed v v.stage else at_stage v Behind) (Intent x)

-- a validated header at a place is of a message that fits the buffer there
pub record IsSound (C at w : ℕ) : Type 0 where
  pub message : (n : ℕ) × (announced w ≡ 8 + n) × (n ≤ C / 8) × (at % C + span n ≤ C) × (at + span n ≤ max_position)
  pub whole : at % 8 ≡ 0

abbrev pub IsSoundAt : View → Stage → Type 0
IsSoundAt v (Headed w) =
    (is_padding w ≡ false → IsSound v.capacity v.at w) × (is_padding w ≡ true → v.at + announced w ≤ max_position)
IsSoundAt v (Again w) = IsSound v.capacity v.at w
IsSoundAt v _ = Unit {0}

-- the header w of an entry was loaded, and is not yet validated
abbrev pub IsUnread : ℕ → Stage → Type 0
IsUnread w st = ((st ≡ Headed w) × (is_padding w ≡ false)) ⊎ (st ≡ Again w)

-- The parts that a load of the intent validates. These are a header of padding or of an entry, or all words of a body.
abbrev pub IsComplete : Stage → Type 0
IsComplete st = ((w : ℕ) × (st ≡ Headed w)) ⊎ (((w : ℕ) × IsUnread w st)
    ⊎ ((w : ℕ) × (ws : List ℕ) × (st ≡ Reading w ws) × (length ws ≡ word_count (body_len w))))

abbrev pub LoadsIntent : Sat → ℕ → Sat → Type 0
LoadsIntent m x m' = (m' ≡ (validated m.0 x, m.1)) × (x < m.0.at + m.0.capacity → IsSoundAt m.0 m.0.stage)

abbrev pub header_seen : Stage → ℕ
header_seen (Headed w) = w
header_seen (Again w) = w
header_seen _ = 0

-- an intent was loaded, to validate the header w of a record with this body, which is returned without its body
abbrev pub answered : View → ℕ → List ℕ → ℕ → View
answered v w body x =
    logged (if nat_lt x (v.at + v.capacity) then after_copy v (message_of w body) else at_stage v Behind) (Intent x)

abbrev pub AnswersEntry : Sat → ℕ → Sat → Type 0
AnswersEntry m x m' = (body : List ℕ) × (m' ≡ (answered m.0 (header_seen m.0.stage) body x, m.1))
    × (x < m.0.at + m.0.capacity → (length body ≡ body_len (header_seen m.0.stage))
    × IsSound m.0.capacity m.0.at (header_seen m.0.stage))

-- the receiver goes to the record at latest, which is the entry k of the list and is after the receiver's place
abbrev pub latest_loaded : View → ℕ → ℕ → View
latest_loaded v k x = record v { stage = Resting; at = x; next = k; count = suc v.count; log = v.log ++ Latest x ∷ [] }

abbrev pub LoadsLatest : Sat → ℕ → Sat → Type 0
LoadsLatest m x m' =
    (k : ℕ) × (m' ≡ (latest_loaded m.0 k x, m.1)) × (suc m.0.count ≤ x) × (x ≤ max_position) × (m.0.at < x)

-- ---- bodies of records that were returned

-- A word was loaded, and the tail was t. This is at least the last tail that was seen, and at least the end of any
-- record that was returned.
abbrev pub LoadsUnread : ℕ → Sat → ℕ → Sat → Type 0
LoadsUnread i m x m' = (t : ℕ) × (m' ≡ (logged m.0 (Word i t x), m.1)) × (last_tail m.0.log 0 ≤ t)
    × ((n : ℕ) (c : Taken) → get_elem? m.0.copies n ≡ some c → c.place + span (length c.message.body) ≤ t)

abbrev pub ChecksAnswered : Sat → ℕ → Sat → Type 0
ChecksAnswered m x m' = (m' ≡ (logged m.0 (Intent x), m.1)) × AreRight m.0 x
