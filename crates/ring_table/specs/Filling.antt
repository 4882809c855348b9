-- How far a body is in its slots.
use Rattle.std.specs.Prelude.{◌≡◌, ℕ, ◌+◌, ◌*◌, ◌<◌, List, ◌++◌, All, length, slice_index}
use Rattle.atomic_table.specs.declared.shared.Seat.{Seat}
use Rattle.ring_table.specs.Views.{View}
use Rattle.ring_table.specs.{Ranges.numbered, SlotSteps.AreWordsOf, SlotSteps.HasBody, Staged.body_word, Staged.headed}
use mathlib.Core.Option.{some}
use lib.ListN.{get_elem?}

-- k of n slots have the words of the body, and went after the others
pub record Filling (first k n : ℕ) (body : List ℕ) (held : List (ℕ × ℕ)) : Type 0 where
  pub left : List ℕ
  pub done : List ℕ
  pub held_is : held ≡ numbered (first + k) left ++ numbered first done
  pub gone : length done ≡ k
  pub count : length left + k ≡ n
  pub words : AreWordsOf body done

-- the bytes of the body lie in front
abbrev pub Begins : List ℕ → List ℕ → Type 0
Begins body bytes = (j : ℕ) → j < length body → slice_index bytes j ≡ slice_index body j

-- The slots of a header and of n words. The header and k words went after the others, and the k words were copied
pub record Copying (first k n : ℕ) (scratch : List ℕ) (before held : List (ℕ × ℕ)) : Type 0 where
  pub left : List ℕ
  pub done : List ℕ
  pub held_is : held ≡ numbered (first + (k + 1)) left ++ numbered first done
  pub before_is : before ≡ numbered first (done ++ left)
  pub gone : length done ≡ k + 1
  pub count : length left + k ≡ n
  pub copies : (h : ℕ) (body : List ℕ) → AreWordsOf (headed h body) (done ++ left) → All (λ b. b < 256) body
      → (j : ℕ) → j < length body → j < 8 * k → slice_index scratch j ≡ slice_index body j

-- the same seat with the same view
pub record IsSameTable (old new : Seat ℕ View) : Type 0 where
  pub table : new.table_id ≡ old.table_id
  pub id : new.id ≡ old.id
  pub view : new.me.0 ≡ old.me.0

-- the slots have the words of this body of n bytes
pub record Takes (first n : ℕ) (body : List ℕ) (held : List (ℕ × ℕ)) : Type 0 where
  pub has : HasBody first body held
  pub bytes : All (λ b. b < 256) body
  pub long : length body ≡ n

-- k of n slots have the words of the body `new` and went after the others, which have those of `old`
pub record Putting (first k n : ℕ) (old new : List ℕ) (held : List (ℕ × ℕ)) : Type 0 where
  pub left : List ℕ
  pub done : List ℕ
  pub held_is : held ≡ numbered (first + k) left ++ numbered first done
  pub gone : length done ≡ k
  pub count : length left + k ≡ n
  pub rest : (i y : ℕ) → get_elem? left i ≡ some y → body_word old (8 * (k + i)) ≡ y
  pub words : AreWordsOf new done
