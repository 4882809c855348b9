-- Fields that are written one after the other.
use Rattle.std.proofs.Common.{◌≡◌, ℕ, ◌+◌, ◌≤◌, ◌<◌, List, [], ◌∷◌, ◌++◌, length, get_or, take, drop, sym, ap, ◌∙◌, arith, length-append, flat_map, take-append-drop, append-nil}
use Rattle.std.proofs.lemmas.List.{take_more, Concat.flat_map-append}

-- one field more
pub joined-more : {X : Type 0} (f : X → List ℕ) (xs : List X) (i : ℕ) (d : X) → i < length xs
    → flat_map f (take (i + 1) xs) ≡ flat_map f (take i xs) ++ f (get_or xs i d)
joined-more f xs i d lt =
    ap (flat_map f) (take_more xs i d lt)
    ∙ flat_map-append f (take i xs) (get_or xs i d ∷ [])
    ∙ ap (λ (t : List ℕ). flat_map f (take i xs) ++ t) (append-nil (f (get_or xs i d)))

-- the first fields are no longer than all of them
pub joined_front : {X : Type 0} (f : X → List ℕ) (xs : List X) (n : ℕ)
    → length (flat_map f (take n xs)) ≤ length (flat_map f xs)
joined_front f xs n =
    let whole : flat_map f xs ≡ flat_map f (take n xs) ++ flat_map f (drop n xs) =
    ap (flat_map f) (sym (take-append-drop n xs)) ∙ flat_map-append f (take n xs) (drop n xs) in
    omega (arith, ap length whole, length-append (flat_map f (take n xs)) (flat_map f (drop n xs)))

pub length-joined_more : {X : Type 0} (f : X → List ℕ) (xs : List X) (i : ℕ) (d : X) → i < length xs
    → length (flat_map f (take (i + 1) xs)) ≡ length (flat_map f (take i xs)) + length (f (get_or xs i d))
length-joined_more f xs i d lt =
    ap length (joined-more f xs i d lt) ∙ length-append (flat_map f (take i xs)) (f (get_or xs i d))
