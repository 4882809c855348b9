-- What a step asks of a seat, and leaves of it.
use Rattle.std.specs.Prelude.{◌≡◌, ℕ, []}
use Rattle.atomic_table.specs.{Seated.TableId, declared.shared.Seat.Seat}
use Rattle.ring_layout.specs.{Places.IsCapacity, Layout.ring_words}
use Rattle.ring_table.specs.Views.{Key, View}

-- the seat is one of this table, which is a ring of this capacity, and has no slots out
pub record IsSeatOf (id : TableId) (key : Key) (capacity : ℕ) (s : Seat ℕ View) : Type 0 where
  pub table_is : s.table_id ≡ id
  pub words_are : id.words ≡ ring_words capacity
  pub key_is : key.capacity ≡ capacity
  pub view_is : s.me.0.capacity ≡ capacity
  pub none : s.me.1 ≡ []
  pub home : s.me.0.out ≡ []
  pub lawful : IsCapacity capacity

-- the same seat, with the same slots, of a ring of the same capacity
pub record IsSameSeat (old new : Seat ℕ View) : Type 0 where
  pub table : new.table_id ≡ old.table_id
  pub id : new.id ≡ old.id
  pub slots : new.me.1 ≡ old.me.1
  pub capacity : new.me.0.capacity ≡ old.me.0.capacity
  pub out : new.me.0.out ≡ old.me.0.out
