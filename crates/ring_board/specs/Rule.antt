-- The rule of the broadcast buffer, which holds between any two steps.
use Rattle.std.specs.Prelude.{◌≡◌, ℕ, ◌+◌, ◌-◌, ◌*◌, ◌/◌, ◌%◌, ◌^◌, ◌<◌, ◌≤◌, suc, List, [], ◌∷◌, ◌++◌, length, take, slice_index, ◌⊎◌}
use mathlib.Core.Option.{some}
use lib.ListN.{get_elem?}
use Rattle.atomic_table.specs.Table.{State}
use Rattle.ring_layout.specs.{Places.index, Places.max_position, Headers.padding_header, Refusals.all_shares}
use Rattle.ring_layout.specs.Lists.{total}
use Rattle.ring_board.specs.Layout.{intent_index, tail_index, latest_index, board_words, IsUnnamed}
use Rattle.ring_board.specs.declared.shared.view.{Record.Record, Taken.Taken, View.View, Load.Load, Stage.Stage}
use Rattle.ring_board.specs.declared.shared.view.Load.TheVariants.{Word, Intent, Tail, Latest}
use Rattle.ring_board.specs.declared.shared.view.Stage.TheVariants.{Spent, Idle, Begun, Storing, Written, Shown, Resting, Sure, Headed, Padded, Again, Reading, Behind}
use Rattle.ring_board.specs.Records.{end, Lies, Follows, Chain, end_of, last_of, words_of_body, header_of, filled, stores, stores_of, last_at}
use Rattle.ring_board.specs.{Views.view_shares, Runs.IsCopy, Runs.AreAllRuns, Runs.AreRuns}

-- The transmitter ----------------------------------------------------------

-- the intent of a broadcast buffer that began at e
abbrev pub intent : ℕ → List Record → Stage → ℕ
intent e sent (Begun d) = d.end
intent e sent (Storing d) = d.end
intent e sent (Written r) = end r
intent e sent (Shown r) = end r
intent e sent _ = end_of e sent

abbrev pub latest : ℕ → List Record → Stage → ℕ
latest e sent (Shown r) = r.place
latest e sent _ = last_of e sent

-- the list with the record that latest shows
abbrev pub with_latest : List Record → Stage → List Record
with_latest sent (Shown r) = sent ++ r ∷ []
with_latest sent _ = sent

-- all stores in the buffer so far
abbrev pub so_far : List Record → Stage → List (ℕ × ℕ)
so_far sent (Storing d) = stores_of sent ++ filled d.before d.place d.words
so_far sent (Written r) = stores_of sent ++ stores r
so_far sent (Shown r) = stores_of sent ++ stores r
so_far sent _ = stores_of sent

-- the words have these stores
abbrev pub Stand : ℕ → List ℕ → List (ℕ × ℕ) → Type 0
Stand C ws xs = (j : ℕ) (x : ℕ × ℕ) → get_elem? xs j ≡ some x → slice_index ws (index C x.0) ≡ x.1

-- the point that the running transmission after e has reached
abbrev pub Running : ℕ → ℕ → List ℕ → Stage → Type 0
Running C e ws Idle = Unit {0}
Running C e ws (Begun d) = Lies C e d.before d.place d.end × (d.before < d.place) × (d.words ≡ [])
Running C e ws (Storing d) = Lies C e d.before d.place d.end × (d.place + 8 + 8 * length d.words ≤ d.end)
    × Stand C ws (filled d.before d.place d.words)
Running C e ws (Written r) = Follows C e r × Stand C ws (stores r)
Running C e ws (Shown r) = Follows C e r × Stand C ws (stores r)
Running C e ws _ = ⊥

-- Receivers ----------------------------------------------------------------

-- the next entry is at the place, or after a padding there, or is not yet sent
abbrev pub Before : ℕ → List Record → ℕ → ℕ → Type 0
Before e all at next = ((r : Record) × (get_elem? all next ≡ some r) × ((at ≡ r.place) ⊎ (at ≡ r.before)))
    ⊎ ((next ≡ length all) × (at ≡ end_of e all))

-- a first copy would be the entry at the place of subscribing
abbrev pub Fresh : ℕ → List Record → ℕ → ℕ → Type 0
Fresh e all at next =
    ((r : Record) × (get_elem? all next ≡ some r) × (at ≡ r.place)) ⊎ ((all ≡ []) × (next ≡ 0) × (at ≡ e))

-- the place of a receiver, and the relation of its last copy to that place
pub record Receives (e : ℕ) (sent all : List Record) (v : View) : Type 0 where
  pub before : Before e all v.at v.next
  pub climbs : v.from + v.count ≤ v.at
  pub past : (i : ℕ) (c : Taken) → get_elem? v.copies i ≡ some c → suc i ≡ length v.copies
      → (c.count ≤ v.count) × (c.place < v.at)
      × (c.count ≡ v.count → (k : ℕ) × (r : Record) × (v.next ≡ suc k) × (get_elem? sent k ≡ some r) × IsCopy r c)
  pub fresh : v.copies ≡ [] → v.count ≡ 0 → (v.at ≡ v.from) × Fresh e all v.at v.next

-- w is the word at the place of a record, or of the padding before it
abbrev pub IsHeader : Record → ℕ → ℕ → Type 0
IsHeader r at w = ((at ≡ r.place) × (w ≡ header_of r.message))
    ⊎ ((at ≡ r.before) × (r.before < r.place) × (w ≡ padding_header (r.place - r.before)))

module _ (C now : ℕ) (sent : List Record) (at next : ℕ) where
  abbrev pub Next : (Record → Type 0) → Type 0
  Next P = (r : Record) × (get_elem? sent next ≡ some r) × P r

  -- what a receiver has loaded is right, or the intent has passed its place
  abbrev pub Loaded : Stage → Type 0
  Loaded Resting = Unit {0}
  Loaded Sure = Next (λ r. (at ≡ r.place) ⊎ ((at ≡ r.before) × (r.before < r.place)))
  Loaded (Headed w) =
      Next (λ r. ((at ≡ r.place) ⊎ ((at ≡ r.before) × (r.before < r.place))) × (now < at + C → IsHeader r at w))
  Loaded (Padded w) = Next (λ r. (at ≡ r.before) × (r.before < r.place) × (w ≡ padding_header (r.place - r.before)))
  Loaded (Again w) = Next (λ r. (at ≡ r.place) × (now < at + C → w ≡ header_of r.message))
  Loaded (Reading w ws) = Next (λ r. (at ≡ r.place) × (w ≡ header_of r.message)
      × (now < at + C → ws ≡ take (length ws) (words_of_body r.message.body)))
  Loaded Behind = Next (λ r. at + C ≤ now)
  Loaded _ = ⊥

-- the knowledge of the seat j with the view v, if the seat `by` is the transmitter's and has the view `mine`
abbrev pub Knows : ℕ → ℕ → ℕ → View → ℕ → View → Stage → Type 0
Knows C e by mine j v Spent = Unit {0}
Knows C e by mine j v Idle = j ≡ by
Knows C e by mine j v (Begun d) = j ≡ by
Knows C e by mine j v (Storing d) = j ≡ by
Knows C e by mine j v (Written r) = j ≡ by
Knows C e by mine j v (Shown r) = j ≡ by
Knows C e by mine j v st = (v.capacity ≡ C) × Receives e mine.sent (with_latest mine.sent mine.stage) v
    × Loaded C (intent e mine.sent mine.stage) mine.sent v.at v.next st

-- What was loaded ----------------------------------------------------------

-- The value of a counter is not above the present one. A word of the buffer is the word of each position there that is
-- below the tail that was seen, or the intent has passed that position.
abbrev pub LoadOk : ℕ → ℕ → List Record → Stage → Load → Type 0
LoadOk C e sent st (Intent x) = x ≤ intent e sent st
LoadOk C e sent st (Tail x) = x ≤ end_of e sent
LoadOk C e sent st (Latest x) = x ≤ latest e sent st
LoadOk C e sent st (Word i t w) = (t ≤ end_of e sent)
    × ((k : ℕ) (r : Record) → get_elem? sent k ≡ some r → (j : ℕ) (y : ℕ × ℕ) → get_elem? (stores r) j ≡ some y
    → index C y.0 ≡ i → y.0 < t → intent e sent st < y.0 + C → w ≡ y.1)

abbrev pub Logged : ℕ → ℕ → List Record → Stage → List Load → Type 0
Logged C e sent st log = (i : ℕ) (l : Load) → get_elem? log i ≡ some l → LoadOk C e sent st l

-- The rule -----------------------------------------------------------------

-- a capacity and a start that a broadcast buffer may have
pub record IsLawful (C e : ℕ) : Type 0 where
  pub roomy : 256 ≤ C
  pub narrow : C ≤ 2 ^ 24
  pub whole : C % 64 ≡ 0
  pub aligned : e % C ≡ 0

-- The words of a broadcast buffer that began at e. They show the transmitted list and the transmission that is being
-- made. A word of the list stays the same until the intent has passed it.
pub record IsMemory (C e : ℕ) (sent : List Record) (st : Stage) (words : List ℕ) : Type 0 where
  pub wide : length words ≡ board_words C
  pub chain : Chain C e sent
  pub low : intent e sent st ≤ max_position
  pub intent_is : slice_index words (intent_index C) ≡ intent e sent st
  pub tail_is : slice_index words (tail_index C) ≡ end_of e sent
  pub latest_is : slice_index words (latest_index C) ≡ latest e sent st
  pub unnamed : (i : ℕ) → IsUnnamed C i → slice_index words i ≡ 0
  pub valid : (k : ℕ) (r : Record) → get_elem? sent k ≡ some r → (j : ℕ) (x : ℕ × ℕ) → get_elem? (stores r) j ≡ some x
      → intent e sent st < x.0 + C → slice_index words (index C x.0) ≡ x.1
  pub running : Running C (end_of e sent) words st
  pub exact : (i : ℕ) → i < C / 8 → slice_index words i ≡ last_at C (so_far sent st) i 0

-- the knowledge of the seat j, with its copies and its loads
pub record IsSeat (C e by : ℕ) (mine : View) (j : ℕ) (v : View) : Type 0 where
  pub knows : Knows C e by mine j v v.stage
  pub copies : AreRuns mine.sent v.from v.copies
  pub log : Logged C e mine.sent mine.stage v.log

-- The views of all seats. The seat `by` is the transmitter's, and `mine` is its view.
pub record IsSeated (C e by : ℕ) (mine : View) (views : List View) : Type 0 where
  pub here : get_elem? views by ≡ some mine
  pub capacity : mine.capacity ≡ C
  pub started : mine.start ≡ e
  pub behind : mine.at ≡ end_of e mine.sent
  pub each : (j : ℕ) (v : View) → get_elem? views j ≡ some v → IsSeat C e by mine j v
  pub joined : AreAllRuns mine.sent mine.heard
  pub shares : total view_shares views ≡ all_shares

-- a broadcast buffer of capacity C that began at e
pub record IsBoard (C e by : ℕ) (mine : View) (s : State (Unit {0}) View) : Type 0 where
  pub lawful : IsLawful C e
  pub memory : IsMemory C e mine.sent mine.stage s.words
  pub seated : IsSeated C e by mine s.views

abbrev pub Holds : ℕ → ℕ → State (Unit {0}) View → Type 0
Holds C e s = (by : ℕ) × (mine : View) × IsBoard C e by mine s

-- the view of a new broadcast buffer's transmitter
abbrev pub opening_view : ℕ → ℕ → View
opening_view C e = record {
  stage = Idle;
  shares = all_shares;
  capacity = C;
  start = e;
  sent = [];
  from = e;
  at =
      e;
  next = 0;
  count = 0;
  copies = [];
  log = [];
  heard = [];
}
