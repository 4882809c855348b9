-- A ring of one owner: its capacity, its words, and the histories of untaken claims that it has.
use Rattle.std.specs.Prelude.{◌≡◌, ℕ, ◌+◌, ◌%◌, ◌≤◌, List, length, slice_index, All}
use Rattle.ring_layout.specs.{declared.message.Claim.Claim, Layout.tail_index, Layout.head_index, Layout.ring_words}
use Rattle.ring_layout.specs.{History.IsMessage, Places.IsCapacity, Places.max_position, Places.end_of}
use Rattle.ring_layout.specs.Picture.{IsPicture}

pub record Ring : Type 0 where
  pub capacity : ℕ
  pub words : List ℕ

abbrev pub ring : ℕ → List ℕ → Ring
ring C words = record { capacity = C; words = words }

abbrev pub tail_of : Ring → ℕ
tail_of r = slice_index r.words (tail_index r.capacity)

abbrev pub head_of : Ring → ℕ
head_of r = slice_index r.words (head_index r.capacity)

-- the ring has the untaken history h: placed from the head it ends at the tail, and the words below C / 8 are its
-- picture
pub record Has (r : Ring) (h : List Claim) : Type 0 where
  pub lawful : All (λ c. IsMessage r.capacity c.message) h
  pub ends : end_of r.capacity (head_of r) h ≡ tail_of r
  pub picture : IsPicture (slice_index r.words) r.capacity (head_of r) h

-- what every ring meets
pub record IsRing (r : Ring) : Type 0 where
  pub capacity : IsCapacity r.capacity
  pub length : length r.words ≡ ring_words r.capacity
  pub aligned : head_of r % 8 ≡ 0
  pub order : head_of r ≤ tail_of r
  pub room : tail_of r ≤ head_of r + r.capacity
  pub limit : tail_of r ≤ max_position
  pub history : (h : List Claim) × Has r h

-- a ring whose head is at this position
pub record IsRingAt (r : Ring) (position : ℕ) : Type 0 where
  pub ring : IsRing r
  pub head : position ≡ head_of r
