-- Lists, and lists of lists.
use Rattle.std.proofs.Common.{◌≡◌, ℕ, ◌<◌, List, [], ◌∷◌, ◌++◌, length, get_or, set, Global, Vec, sym, ap, ◌∙◌, All}
use Rattle.std.proofs.lemmas.List.{get_or-map, map-set}
use Rattle.std.proofs.lemmas.List.Elements.{All-cons, All-head, All-nil, All-tail}
use Rattle.ring_judge.specs.Lists.{lists_of}

-- the lists of an element, with it changed
pub lists_of-set : {A : Type 0} (lists : List (Vec A Global)) (i : ℕ) (v : Vec A Global) (l : List A)
    → v.items ≡ l → lists_of (set lists i v) ≡ set (lists_of lists) i l
lists_of-set {A} lists i v l e =
    map-set (λ (u : Vec A Global). u.items) lists i v ∙ ap (set (lists_of lists) i) e

pub lists_of-at : {A : Type 0} (lists : List (Vec A Global)) (i : ℕ) (v : Vec A Global) → i < length lists
    → v ≡ get_or lists i v → get_or (lists_of lists) i [] ≡ v.items
lists_of-at {A} lists i v lt e = get_or-map (λ (u : Vec A Global). u.items) lists i v [] lt
    ∙ ap (λ (u : Vec A Global). u.items) (sym e)

-- ---- what is true of each element

pub all_later : {A : Type 0} (P : A → Type 0) (xs ys : List A) → All P (xs ++ ys) → All P ys
all_later P [] ys all = all
all_later P (x ∷ xs) ys all = all_later P xs ys (All-tail P x (xs ++ ys) all)

pub all_without : {A : Type 0} (P : A → Type 0) (xs : List A) (y : A) (ys : List A) → All P (xs ++ y ∷ ys)
    → All P (xs ++ ys)
all_without P [] y ys all = All-tail P y ys all
all_without P (x ∷ xs) y ys all = All-cons P x (xs ++ ys) (All-head P x (xs ++ y ∷ ys) all)
    (all_without P xs y ys (All-tail P x (xs ++ y ∷ ys) all))

pub all_front : {A : Type 0} (P : A → Type 0) (xs ys : List A) → All P (xs ++ ys) → All P xs
all_front P [] ys all = All-nil P
all_front P (x ∷ xs) ys all = All-cons P x xs (All-head P x (xs ++ ys) all)
    (all_front P xs ys (All-tail P x (xs ++ ys) all))
