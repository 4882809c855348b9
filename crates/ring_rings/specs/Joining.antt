-- The join of two producers, and the loads of one producer.
use Rattle.std.specs.Prelude.{◌≡◌, ℕ, ◌≤◌, [], ◌∷◌}
use Rattle.ring_layout.specs.Layout.{head_index, tail_index}
use Rattle.ring_table.specs.{declared.view.View.View, Views.with_producer_of}
use Rattle.ring_rings.specs.Claiming.{looked}

-- u has what v and w had, and a tail was loaded that is not below the ends that v and w have seen
pub record Joins (C : ℕ) (v w u : View) : Type 0 where
  pub tail : ℕ
  pub head : ℕ
  pub view : u ≡ looked ((tail_index C, tail) ∷ []) tail head (with_producer_of v w)
  pub later : v.producer.seen_tail ≤ tail
  pub later_too : w.producer.seen_tail ≤ tail

-- the head was loaded, and then a tail that is not below the greatest end seen
pub record LoadsPositions (C : ℕ) (v : View) (head tail : ℕ) (w : View) : Type 0 where
  pub view : w ≡ looked ((head_index C, head) ∷ (tail_index C, tail) ∷ []) tail head v
  pub later : v.producer.seen_tail ≤ tail
