-- Things that are kept by number, as a list that has None for a number without a thing.
use Rattle.std.specs.Prelude.{◌≡◌, ℕ, ◌-◌, ◌<◌, ◌≤◌, ◌++◌, ◌∷◌, List, [], length, Option, Some, None, slice_index_or, slice_set, is_some, vec_capacity, vec_len, count_by}
use Rattle.ring_ends.specs.declared.numbered.Numbered.{Numbered}

-- the thing that is kept under each number, less 1
abbrev pub held_in : {A : Type 0} → Numbered A → List (Option A)
held_in numbered = numbered.held.items

-- there is room for one more thing
abbrev pub HasRoomToHold : {A : Type 0} → Numbered A → Type 0
HasRoomToHold numbered = vec_len numbered.held < vec_capacity numbered.held

-- x is kept at this index
abbrev pub HasAt : {A : Type 0} → List (Option A) → ℕ → A → Type 0
HasAt held index x = slice_index_or held index None ≡ Some x

-- x is kept under this number
pub record IsHeld {A : Type 0} (held : List (Option A)) (number : ℕ) (x : A) : Type 0 where
  pub positive : 0 < number
  pub has : HasAt held (number - 1) x

-- no thing is kept under this number
abbrev pub IsFree : {A : Type 0} → List (Option A) → ℕ → Type 0
IsFree {A} held number = (x : A) → ¬ IsHeld held number x

-- the number was drawn, and no thing is kept under it
pub record IsVacant {A : Type 0} (held : List (Option A)) (number : ℕ) : Type 0 where
  pub positive : 0 < number
  pub drawn : number ≤ length held
  pub free : IsFree held number

-- x came, and is kept under the next number
pub record Comes {A : Type 0} (x : A) (old : List (Option A)) (next : ℕ) (new : List (Option A)) : Type 0 where
  pub held : new ≡ old ++ Some x ∷ []
  pub number : next ≡ length new

-- x was kept under this number, which is given up
pub record Goes {A : Type 0} (x : A) (old : List (Option A)) (number : ℕ) (new : List (Option A)) : Type 0 where
  pub here : IsHeld old number x
  pub given_up : new ≡ slice_set old (number - 1) None

-- `before` was kept under this number, and `after` is now. All other things are kept as they were.
pub record Stays {A : Type 0} (before after : A) (old : List (Option A)) (number : ℕ) (new : List (Option A))
    : Type 0 where
  pub here : IsHeld old number before
  pub others : new ≡ slice_set old (number - 1) (Some after)

-- the number of things that are kept
abbrev pub held_count : {A : Type 0} → List (Option A) → ℕ
held_count held = count_by is_some held

-- s after a step for each thing that is kept, in rising order of the numbers
abbrev pub in_turn : {A S : Type 0} → (A → S → S) → List (Option A) → S → S
in_turn step [] s = s
in_turn step (None ∷ held) s = in_turn step held s
in_turn step (Some x ∷ held) s = in_turn step held (step x s)
