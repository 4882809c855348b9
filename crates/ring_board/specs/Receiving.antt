-- The changes that a receiver's call makes to its seat.
use Rattle.std.specs.Prelude.{◌≡◌, ℕ, ◌+◌, ◌*◌, ◌%◌, ◌<◌, ◌≤◌, suc, ℤ, true, List, [], ◌∷◌, ◌++◌, length, take, ◌⊎◌}
use mathlib.Core.Option.{some}
use lib.ListN.{get_elem?}
use Rattle.ring_layout.specs.{History.span, Places.index, Places.max_position}
use Rattle.ring_board.specs.declared.{fault.Lapped.Lapped, board.RawRecord.RawRecord, receiver.found.Found.Found}
use Rattle.ring_board.specs.declared.shared.view.{View.View, Load.Load, Stage.Stage}
use Rattle.ring_board.specs.declared.shared.view.Load.TheVariants.{Word, Intent, Tail, Latest}
use Rattle.ring_board.specs.declared.shared.view.Stage.TheVariants.{Resting, Reading, Behind}
use Rattle.ring_board.specs.declared.receiver.found.Found.TheVariants.{Nothing, Entry, Missed}
use Rattle.ring_board.specs.{Records.announced, Records.is_padding, Records.bytes_of, Records.message_of, Views.Sat}
use Rattle.ring_board.specs.ReceiverSteps.{after_copy, IsSound, IsUnread}

-- a receiver of a broadcast buffer of capacity C rests at this place
abbrev pub RestsAt : ℕ → ℕ → Sat → Type 0
RestsAt C place m = (m.0.stage ≡ Resting) × (m.0.at ≡ place) × (m.0.capacity ≡ C) × (place ≤ max_position)

-- p is the receiver's place, or is after padding whose header is among these loads
abbrev pub ComesTo : View → List Load → ℕ → Type 0
ComesTo v loads p = (p ≡ v.at)
    ⊎ ((w : ℕ) × (t : ℕ) × (j : ℕ) × (get_elem? loads j ≡ some (Word (index v.capacity v.at) t w))
    × (is_padding w ≡ true) × (p ≡ v.at + announced w))

-- the validation at p failed, at the intent x
abbrev pub GotMiss : ℕ → ℕ → Sat → Sat → Type 0
GotMiss p x m m' = (loads : List Load)
    × (m' ≡ (record m.0 { stage = Behind; at = p; log = m.0.log ++ (loads ++ Intent x ∷ []) }, m.1))
    × ComesTo m.0 loads p × (p + m.0.capacity ≤ x)

-- the result of a look for the next entry
abbrev pub FoundIs : Found → Sat → Sat → Type 0
FoundIs (Nothing t) m m' = (m' ≡ (record m.0 { stage = Resting; log = m.0.log ++ Tail t ∷ [] }, m.1)) × (t ≤ m.0.at)
FoundIs (Entry p w) m m' = (loads : List Load)
    × (m' ≡ (record m.0 { stage = Reading w []; at = p; log = m.0.log ++ loads }, m.1)) × ComesTo m.0 loads p
    × IsSound m.0.capacity p w
FoundIs (Missed p x) m m' = GotMiss p x m m'

-- the result of going to the next entry, whose header is loaded and not yet validated
abbrev pub NearIs : Found → Sat → Sat → Type 0
NearIs (Nothing t) m m' = FoundIs (Nothing t) m m'
NearIs (Entry p w) m m' = (loads : List Load) × (st : Stage)
    × (m' ≡ (record m.0 { stage = st; at = p; log = m.0.log ++ loads }, m.1)) × IsUnread w st × ComesTo m.0 loads p
    × (p ≤ max_position)
NearIs (Missed p x) m m' = GotMiss p x m m'

-- this many words of a body were loaded after the header w, and their bytes are at the front of out
abbrev pub CopiedWords : ℕ → ℕ → List ℕ → Sat → Sat → Type 0
CopiedWords w count out m m' = (ws : List ℕ) × (loads : List Load)
    × (m' ≡ (record m.0 { stage = Reading w ws; log = m.0.log ++ loads }, m.1)) × (length ws ≡ count)
    × (take (8 * count) out ≡ bytes_of ws)

-- a body of len bytes was copied to the front of out, and validated
abbrev pub TookAll : ℕ → ℕ → List ℕ → Sat → Sat → Type 0
TookAll w len out m m' = (loads : List Load)
    × (m' ≡ (record (after_copy m.0 (message_of w (take len out))) { log = m.0.log ++ loads }, m.1))
    × (len ≤ length out)

-- the validation of a body failed at the intent x
abbrev pub FailedBody : ℕ → Sat → Sat → Type 0
FailedBody x m m' = (loads : List Load)
    × (m' ≡ (record m.0 { stage = Behind; log = m.0.log ++ (loads ++ Intent x ∷ []) }, m.1))
    × (m.0.at + m.0.capacity ≤ x)

-- a tail that was loaded is not beyond the place, and no other part changed
abbrev pub GotNothing : Sat → Sat → Type 0
GotNothing m m' = (t : ℕ) × (m' ≡ (record m.0 { stage = Resting; log = m.0.log ++ Tail t ∷ [] }, m.1)) × (t ≤ m.0.at)

-- A copy was made, of the record at the place or after padding there. The next place is the end of this record.
abbrev pub GotCopy : ℕ → ℤ → List ℕ → Sat → Sat → Type 0
GotCopy place type_id body m m' = (loads : List Load)
    × (m' ≡ (
      record m.0 {
        stage = Resting;
        at = place + span (length body);
        next = suc m.0.next;
        copies =
            m.0.copies ++ record {
              place = place;
              message = record { type_id = type_id; body = body };
              count = m.0.count;
            }
            ∷ [];
        log = m.0.log ++ loads;
      },
      m.1,
    ))
    × ComesTo m.0 loads place

-- The receiver was lapped at its place, or after padding there. The count rose by one. The new place is the latest one,
-- which was loaded after the intent that showed this. The bytes from the place at which it was lapped up to the new
-- place were missed.
abbrev pub GotLapped : Lapped → Sat → Sat → Type 0
GotLapped l m m' = (loads : List Load) × (k : ℕ) × (x : ℕ) × ComesTo m.0 loads l.place
    × (l.place + m.0.capacity ≤ l.intent) × (l.count ≡ suc m.0.count) × (l.place < x)
    × (m' ≡ (
      record m.0 {
        stage = Resting;
        at = x;
        next = k;
        count = suc m.0.count;
        log =
            m.0.log ++ (loads ++ (Intent l.intent ∷ Latest x ∷ []));
      },
      m.1,
    ))

-- A record was returned without its body. Its place, its type id and its length are those of the new copy. The copy has
-- the body that the transmitter gave the record.
abbrev pub GotRecord : RawRecord → Sat → Sat → Type 0
GotRecord r m m' = (body : List ℕ) × GotCopy r.place r.type_id body m m' × (length body ≡ r.len)

-- the place of a record in a buffer of C bytes
abbrev pub IsInBuffer : ℕ → RawRecord → Type 0
IsInBuffer C r = (r.place % 8 ≡ 0) × (r.place % C + span r.len ≤ C) × (r.place + span r.len ≤ max_position)
