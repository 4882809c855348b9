-- What is recorded.
use Rattle.std.specs.Prelude.{◌≤◌, ◌^◌, IsTrue}
use Rattle.std.specs.Int.{is_power_of_two}
use Rattle.ring_layout.specs.Places.{max_position}
use Rattle.ring_judge.specs.declared.format.kind.RingShape.{RingShape}
use Rattle.ring_judge.specs.declared.format.kind.Kind.{Kind, TheVariants.Queue, TheVariants.Broadcast, TheVariants.Ring}

-- a ring of this shape can be judged
pub record IsJudgeableShape (shape : RingShape) : Type 0 where
  pub power : IsTrue (is_power_of_two shape.capacity)
  pub most : shape.capacity ≤ 2 ^ 30
  pub start : shape.start ≤ max_position

-- if this is a ring, it can be judged
abbrev pub IsJudgeable : Kind → Type 0
IsJudgeable Queue = Unit {0}
IsJudgeable Broadcast = Unit {0}
IsJudgeable (Ring shape) = IsJudgeableShape shape
