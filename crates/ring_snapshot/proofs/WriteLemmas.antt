-- The words that are written, and their bytes.
use Rattle.std.proofs.Common.{◌≡◌, ℕ, ◌+◌, ◌<◌, List, [], ◌∷◌, ◌++◌, length, take, slice_index, refl, sym, ap, ◌∙◌, arith, append-nil, ◌≤◌, Some, None, map, slice_get, w64, append_assoc}
use Rattle.std.specs.{List.range_with_len, Int.to_le_bytes}
use Rattle.std.proofs.lemmas.List.{take_more, FromFn.length-map-range_with_len, FromFn.get_or-map-range_with_len}
use Rattle.std.proofs.lemmas.Option.{slice_get_past, slice_get-get_or}
use Rattle.ring_board.specs.Records.{bytes_of}

bytes_of-append : (xs ys : List ℕ) → bytes_of (xs ++ ys) ≡ bytes_of xs ++ bytes_of ys
bytes_of-append [] ys = refl
bytes_of-append (x ∷ xs) ys = ap (λ l. to_le_bytes w64 x ++ l) (bytes_of-append xs ys)
    ∙ sym (append_assoc (to_le_bytes w64 x) (bytes_of xs) (bytes_of ys))

-- one word more
pub bytes_of-take : (ws : List ℕ) (k : ℕ) → k < length ws
    → bytes_of (take k ws) ++ to_le_bytes w64 (slice_index ws k) ≡ bytes_of (take (k + 1) ws)
bytes_of-take ws k less =
    sym (ap bytes_of (take_more ws k 0 less) ∙ bytes_of-append (take k ws) (slice_index ws k ∷ [])
    ∙ ap (λ l. bytes_of (take k ws) ++ l) (append-nil (to_le_bytes w64 (slice_index ws k))))

-- the words of a list that is made by index
pub at_index : (f : ℕ → ℕ) (n i : ℕ) → i < n → slice_get (map f (range_with_len 0 n)) i ≡ Some (f i)
at_index f n i less =
    slice_get-get_or (map f (range_with_len 0 n)) i 0 (omega (arith, length-map-range_with_len f 0 n, less))
    ∙ ap Some (get_or-map-range_with_len f 0 n i i 0 less (let none : 0 + i ≡ i = omega arith in none))

pub past_index : (f : ℕ → ℕ) (n i : ℕ) → n ≤ i → slice_get (map f (range_with_len 0 n)) i ≡ None
past_index f n i more =
    slice_get_past (map f (range_with_len 0 n)) i (omega (arith, length-map-range_with_len f 0 n, more))
