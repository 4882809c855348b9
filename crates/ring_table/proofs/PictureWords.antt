-- Words that are copied.
use Rattle.std.proofs.Common.{◌≡◌, ℕ, zero, suc, ◌<◌, List, [], ◌∷◌, length, slice_index, get_or, sym}
use Rattle.atomic_table.proofs.Lists.{at_index}
use Rattle.std.proofs.Math.{Option.some, Option.some-injective, Option.some-ne-none, ListN.get_elem?}

pub read_at : (l : List ℕ) (i a : ℕ) → get_elem? l i ≡ some a → get_or l i 0 ≡ a
read_at [] i a e = absurd (some-ne-none a (sym e))
read_at (x ∷ xs) zero a e = some-injective x a e
read_at (x ∷ xs) (suc i) a e = read_at xs i a e

-- what is read at an index is there
pub value_at : (l : List ℕ) (i n : ℕ) → i < length l → n ≡ get_or l i n → slice_index l i ≡ n
value_at l i n lt is = read_at l i n (at_index l i n lt is)
