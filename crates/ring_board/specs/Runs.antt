-- The copies of receivers, as runs of a transmitted list.
use Rattle.std.specs.Prelude.{◌≡◌, ℕ, suc, ◌<◌, ◌≤◌, List}
use mathlib.Core.Option.{some}
use lib.ListN.{get_elem?}
use Rattle.ring_board.specs.declared.shared.view.{Record.Record, Taken.Taken, Joined.Joined}

-- a copy of this record
pub record IsCopy (r : Record) (c : Taken) : Type 0 where
  pub place : c.place ≡ r.place
  pub message : c.message ≡ r.message

-- two copies that follow each other are of neighbouring records if their counts are equal
pub record Neighbours (sent : List Record) (a b : Taken) : Type 0 where
  pub rises : a.place < b.place
  pub counts : a.count ≤ b.count
  pub joined : a.count ≡ b.count → (k : ℕ) × (r : Record) × (q : Record) × (get_elem? sent k ≡ some r)
      × (get_elem? sent (suc k) ≡ some q) × IsCopy r a × IsCopy q b

-- the copies of a receiver that subscribed at the place `from` are runs of the transmitted list
pub record AreRuns (sent : List Record) (from : ℕ) (copies : List Taken) : Type 0 where
  pub entries : (i : ℕ) (c : Taken) → get_elem? copies i ≡ some c
      → (k : ℕ) × (r : Record) × (get_elem? sent k ≡ some r) × IsCopy r c
  pub follow : (i : ℕ) (a b : Taken) → get_elem? copies i ≡ some a → get_elem? copies (suc i) ≡ some b
      → Neighbours sent a b
  pub first : (c : Taken) → get_elem? copies 0 ≡ some c → c.count ≡ 0 → c.place ≡ from

-- the copies of each of these receivers are runs of the transmitted list
abbrev pub AreAllRuns : List Record → List Joined → Type 0
AreAllRuns sent heard = (i : ℕ) (j : Joined) → get_elem? heard i ≡ some j → AreRuns sent j.from j.copies
