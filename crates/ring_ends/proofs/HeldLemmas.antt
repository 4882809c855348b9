-- What is held by number: a list with None if nothing is.
use Rattle.std.proofs.Common.{◌≡◌, ◌≢◌, ℕ, suc, ◌+◌, ◌-◌, ◌<◌, ◌≤◌, IfNone, OnSome, List, [], ◌∷◌, ◌++◌, drop, length, set, slice_index_or, cond, is_some, refl, ap, Option, Some, None, sym, ◌∙◌, subst, arith, ◌⊎◌, inl, inr, get_or-set_same, get_or-set_other, drop-cons, count_by, drop-set-lt, length-append, length-set, set-set}
use Rattle.std.proofs.Math.{Logic.dite, Decide.ℕ_discrete}
use Rattle.std.proofs.lemmas.{Bool.cases_lt, List.Sums.sum_by-append, List.Sums.sum_by-set}
use Rattle.std.proofs.lemmas.List.{drop_all, get_or_append_left, get_or_push, get_or_past, set-get_or}
use Rattle.ring_ends.specs.Held.{Comes, Goes, HasAt, IsFree, IsVacant, Stays, in_turn}

module _ {A : Type 0} where
  -- what is held is in the list
  pub held_inside : (xs : List (Option A)) (k : ℕ) (t : A) → HasAt xs k t → k < length xs
  held_inside xs k t has =
      elim (cases_lt k (length xs)) as (λ _. k < length xs) [
        | inl inside ↦ inside
        | inr past ↦ let clash : None ≡ Some t = sym (get_or_past xs k None past) ∙ has in absurd cc
      ]

  -- what is held in the list with one more is held in the list, or is that one
  pub in_pushed : (xs : List (Option A)) (t s : A) (i : ℕ) → HasAt (xs ++ Some t ∷ []) i s
      → HasAt xs i s ⊎ ((i ≡ length xs) × (t ≡ s))
  in_pushed xs t s i has =
      elim (cases_lt i (length xs)) as (λ _. HasAt xs i s ⊎ ((i ≡ length xs) × (t ≡ s))) [
        | inl within ↦ inl (sym (get_or_append_left xs (Some t ∷ []) None i within) ∙ has)
        | inr past ↦
            elim (cases_lt (length xs) i) as (λ _. HasAt xs i s ⊎ ((i ≡ length xs) × (t ≡ s))) [
              | inl beyond ↦
                  let long : length (xs ++ Some t ∷ []) ≡ length xs + 1 = length-append xs (Some t ∷ []) in
                  let clash : None ≡ Some s =
                  sym (get_or_past (xs ++ Some t ∷ []) i None (omega (arith, long, beyond))) ∙ has in absurd cc
              | inr last ↦
                  let at : length xs ≡ i = omega (arith, past, last) in
                  let same : Some t ≡ Some s = sym (get_or_push xs (Some t) None i at) ∙ has in inr (sym at, cc)
            ]
      ]

  -- what is held after a change at the index k is what was put there, or was held elsewhere
  pub in_set : (xs : List (Option A)) (k : ℕ) (y : Option A) (s : A) (i : ℕ) → k < length xs → HasAt (set xs k y) i s
      → (y ≡ Some s) ⊎ ((i ≢ k) × HasAt xs i s)
  in_set xs k y s i inside has = dite (ℕ_discrete i k)
      (λ here. inl (sym (get_or-set_same xs k y None inside) ∙ subst (λ n. HasAt (set xs k y) n s) here has))
      (λ other. inr (other, sym (get_or-set_other xs k i y None other) ∙ has))

  abbrev one_if_some : Option A → ℕ
  one_if_some o = cond (is_some o) 1 0

  -- one more is held
  pub count_pushed : (xs : List (Option A)) (t : A) → count_by is_some (xs ++ Some t ∷ []) ≡ count_by is_some xs + 1
  count_pushed xs t = sum_by-append one_if_some xs (Some t ∷ [])

  -- what is held at the index k is changed, or taken
  pub count_set : (xs : List (Option A)) (k : ℕ) (y : Option A) (s : A) → HasAt xs k s
      → count_by is_some (set xs k y) + 1 ≡ count_by is_some xs + one_if_some y
  count_set xs k y s has =
      ap (λ o. count_by is_some (set xs k y) + one_if_some o) (sym has)
      ∙ sum_by-set one_if_some xs k y None (held_inside xs k s has)

  -- if nothing is held
  count_none : (xs : List (Option A)) → ((k : ℕ) → k < length xs → slice_index_or xs k None ≡ None)
      → count_by is_some xs ≡ 0
  count_none [] all = refl
  count_none (x ∷ xs) all =
      let first : one_if_some x ≡ 0 = ap one_if_some (all 0 (omega arith)) in
      let rest = count_none xs (λ k lt. all (suc k) (omega arith)) in
      let both = sum_by-append one_if_some (x ∷ []) xs in
      omega arith

  -- nothing is held below the index i
  abbrev pub AreGone : List (Option A) → ℕ → Type 0
  AreGone xs i = (k : ℕ) → k < i → slice_index_or xs k None ≡ None

  -- once nothing is held, all shares are back
  pub all_back : (xs : List (Option A)) (drawn i shares all : ℕ) → length xs ≡ drawn → drawn ≤ i → AreGone xs i
      → shares + count_by is_some xs ≡ all → shares ≡ all
  all_back xs drawn i shares all long past gone sum =
      let none = count_none xs (λ k lt. gone k (omega (arith, long, past, lt))) in omega (arith, sum)

  none_of : (o : Option A) → ((x : A) → o ≡ Some x → ⊥) → o ≡ None
  none_of None free = refl
  none_of (Some x) free = absurd (free x refl)

  -- the list from an index on
  front : (xs : List (Option A)) (n : ℕ) (o : Option A) → n < length xs → slice_index_or xs n None ≡ o
      → drop n xs ≡ o ∷ drop (n + 1) xs
  front xs n o inside has =
      let next : suc n ≡ n + 1 = omega arith in
      drop-cons xs n None inside ∙ ap (λ x. x ∷ drop (suc n) xs) has ∙ ap (λ m. o ∷ drop m xs) next

  -- nothing is held at the index of a number that is free
  none_at : (xs : List (Option A)) (n : ℕ) → IsFree xs (n + 1) → slice_index_or xs n None ≡ None
  none_at xs n free =
      let at : n + 1 - 1 ≡ n = omega arith in
      none_of (slice_index_or xs n None) (λ x has. free x
      (record { positive = omega arith; has = subst (λ i. HasAt xs i x) (sym at) has }))

  one_more_gone : (xs : List (Option A)) (i : ℕ) → AreGone xs i → slice_index_or xs i None ≡ None → AreGone xs (i + 1)
  one_more_gone xs i below here k lt =
      elim (cases_lt k i) as (λ _. slice_index_or xs k None ≡ None) [
        | inl before ↦ below k before
        | inr past ↦ let same : i ≡ k =
            omega (arith, past, lt) in subst (λ n. slice_index_or xs n None ≡ None) same here
      ]

  set_gone : (xs : List (Option A)) (i : ℕ) → i < length xs → AreGone xs i → AreGone (set xs i None) (i + 1)
  set_gone xs i inside below =
      one_more_gone (set xs i None) i (λ k lt. get_or-set_other xs i k None None (λ e. omega (arith, lt, e))
      ∙ below k lt) (get_or-set_same xs i None None inside)

  -- once what is held at the index i is given up, nothing is held up to there
  pub given_up : {U : Type 0} (r : Option U) (xs ys : List (Option A)) (i : ℕ) (P : Type 0) → IfNone r (ys ≡ xs)
      → OnSome r P → (P → ys ≡ set xs (i + 1 - 1) None) → IfNone r (IsFree xs (i + 1))
      → (i < length xs) × AreGone xs i → (length ys ≡ length xs) × AreGone ys (i + 1)
  given_up None xs ys i P same left took free gone =
      subst (λ l. (length l ≡ length xs) × AreGone l (i + 1)) (sym same)
      (refl, one_more_gone xs i gone.1 (none_at xs i free))
  given_up (Some u) xs ys i P same left took free gone =
      let at : i + 1 - 1 ≡ i = omega arith in
      subst (λ l. (length l ≡ length xs) × AreGone l (i + 1)) (sym (took left ∙ ap (λ n. set xs n None) at))
      (length-set xs i None, set_gone xs i gone.0 gone.1)

  -- a number from which something was taken
  pub vacated : (x : A) (old : List (Option A)) (number : ℕ) (new : List (Option A)) → Goes x old number new
      → IsVacant new number
  vacated x old number new goes =
      let positive = goes.here.positive in
      let inside = held_inside old (number - 1) x goes.here.has in
      let long = ap length goes.given_up ∙ length-set old (number - 1) None in
      let none : slice_index_or new (number - 1) None ≡ None =
      ap (λ l. slice_index_or l (number - 1) None) goes.given_up
      ∙ get_or-set_same old (number - 1) None None inside in
      record {
        positive = positive;
        drawn = omega (arith, positive, inside, long);
        free = λ y held. let clash : None ≡ Some y = sym none ∙ held.has in absurd cc;
      }

  -- what was taken is held again, or another in its place
  pub stays : (x y : A) (old : List (Option A)) (number : ℕ) (between new : List (Option A)) → Goes x old number between
      → new ≡ set between (number - 1) (Some y) → Stays x y old number new
  stays x y old number between new goes back =
      record {
        here = goes.here;
        others = back ∙ ap (λ l. set l (number - 1) (Some y)) goes.given_up
            ∙ set-set old (number - 1) None (Some y);
      }

  -- the same was held before
  pub stays_same : (x y : A) (old : List (Option A)) (number : ℕ) (new : List (Option A)) → Stays x y old number new
      → y ≡ x → new ≡ old
  stays_same x y old number new stay same =
      stay.others ∙ ap (λ z. set old (number - 1) (Some z)) same ∙ ap (λ o. set old (number - 1) o) (sym stay.here.has)
      ∙ set-get_or old (number - 1) None

  -- the sum of the shares stays, if one goes to what came
  pub sum_comes : (x : A) (old : List (Option A)) (next : ℕ) (new : List (Option A)) (shares left all : ℕ)
      → Comes x old next new → 0 < shares → left ≡ shares - 1 → shares + count_by is_some old ≡ all
      → left + count_by is_some new ≡ all
  sum_comes x old next new shares left all comes some less sum =
      let count = ap (count_by is_some) comes.held ∙ count_pushed old x in
      omega (arith, count, some, less, sum)

  -- the sum of the shares stays, if the one of what went comes back
  pub sum_goes : (x : A) (old : List (Option A)) (number : ℕ) (new : List (Option A)) (shares more all : ℕ)
      → Goes x old number new → more ≡ shares + 1 → shares + count_by is_some old ≡ all
      → more + count_by is_some new ≡ all
  sum_goes x old number new shares more all goes one sum =
      let count = ap (λ l. count_by is_some l + 1) goes.given_up ∙ count_set old (number - 1) None x goes.here.has in
      omega (arith, count, one, sum)

  -- the same number is held then
  pub count_stays : (x y : A) (old : List (Option A)) (number : ℕ) (new : List (Option A)) → Stays x y old number new
      → count_by is_some new ≡ count_by is_some old
  count_stays x y old number new stay =
      let same = count_set old (number - 1) (Some y) x stay.here.has in
      let is = ap (count_by is_some) stay.others in
      omega (arith, same, is)

  module _ (P : A → Type 0) where
    -- P holds of all that is held
    abbrev pub OfAll : List (Option A) → Type 0
    OfAll xs = (i : ℕ) (x : A) → HasAt xs i x → P x

    pub of_none : OfAll []
    of_none i x has = let clash : None ≡ Some x = sym (get_or_past [] i None (omega arith)) ∙ has in absurd cc

    pub of_pushed : (xs : List (Option A)) (t : A) → OfAll xs → P t → OfAll (xs ++ Some t ∷ [])
    of_pushed xs t all here i x has =
        elim (in_pushed xs t x i has) as (λ _. P x) [ inl before ↦ all i x before | inr last ↦ subst P last.1 here ]

    pub of_set : (xs : List (Option A)) (k : ℕ) (y : Option A) → OfAll xs → k < length xs → ((x : A) → y ≡ Some x → P x)
        → OfAll (set xs k y)
    of_set xs k y all inside here i x has =
        elim (in_set xs k y x i inside has) as (λ _. P x) [ inl put ↦ here x put | inr other ↦ all i x other.1 ]

    -- what is held after a number was given up
    pub of_goes : (x : A) (old : List (Option A)) (number : ℕ) (new : List (Option A)) → OfAll old
        → Goes x old number new → OfAll new
    of_goes x old number new all goes = subst OfAll (sym goes.given_up)
        (of_set old (number - 1) None all (held_inside old (number - 1) x goes.here.has) (λ y e. absurd cc))

    -- what is held if another is in the place of one
    pub of_stays : (x y : A) (old : List (Option A)) (number : ℕ) (new : List (Option A)) → OfAll old
        → Stays x y old number new → P y → OfAll new
    of_stays x y old number new all stay is =
        subst OfAll (sym stay.others) (of_set old (number - 1) (Some y) all
        (held_inside old (number - 1) x stay.here.has) (λ z e. let same : y ≡ z = cc in subst P same is))

    -- what is held once one more came
    pub of_comes : (x : A) (old : List (Option A)) (next : ℕ) (new : List (Option A)) → OfAll old → Comes x old next new
        → P x → OfAll new
    of_comes x old next new all comes is = subst OfAll (sym comes.held) (of_pushed old x all is)

-- What is given up in turn -----------------------------------------------------------

-- what was held below the index n is given up, each with its step, and what is left from there on comes to the same
pub record GoneTo {A S : Type 0} (step : A → S → S) (start : List (Option A)) (first : S) (drawn n : ℕ)
    (now : List (Option A)) (s : S) : Type 0 where
  pub counted : length now ≡ drawn
  pub none : AreGone now n
  pub rest : in_turn step (drop n now) s ≡ in_turn step start first

module _ {A S : Type 0} (step : A → S → S) (start : List (Option A)) (first : S) (drawn n : ℕ) (now : List (Option A))
    (s : S) (so_far : GoneTo step start first drawn n now s) where
  -- in the end nothing is held
  pub all_gone : drawn ≤ n → (count_by is_some now ≡ 0) × (s ≡ in_turn step start first)
  all_gone past =
      let counted = so_far.counted in (
        count_none now (λ k lt. so_far.none k (omega (arith, counted, past, lt))),
        sym (ap (λ l. in_turn step l s) (drop_all n now (omega (arith, counted, past)))) ∙ so_far.rest,
      )

  module _ (inside : n < drawn) (next : List (Option A)) (t : S) where
    here : n < length now
    here = let counted = so_far.counted in omega (arith, inside, counted)

    -- nothing is held at the index
    pub none_goes : next ≡ now → t ≡ s → IsFree now (n + 1) → GoneTo step start first drawn (n + 1) next t
    none_goes same is free =
        let none = none_at now n free in
        record {
          counted = ap length same ∙ so_far.counted;
          none = subst (λ l. AreGone l (n + 1)) (sym same) (one_more_gone now n so_far.none none);
          rest = ap (λ l. in_turn step (drop (n + 1) l) t) same ∙ ap (in_turn step (drop (n + 1) now)) is
              ∙ sym (ap (λ l. in_turn step l s) (front now n None here none)) ∙ so_far.rest;
        }

    -- what is held there is given up
    pub one_goes : (x : A) → Goes x now (n + 1) next → t ≡ step x s → GoneTo step start first drawn (n + 1) next t
    one_goes x goes is =
        let at : n + 1 - 1 ≡ n = omega arith in
        let has : HasAt now n x = subst (λ i. HasAt now i x) at goes.here.has in
        let held : next ≡ set now n None = goes.given_up ∙ ap (λ i. set now i None) at in
        let rest : drop (n + 1) next ≡ drop (n + 1) now =
        ap (λ l. drop (n + 1) l) held ∙ drop-set-lt (n + 1) now n None (omega arith) in
        record {
          counted = ap length held ∙ length-set now n None ∙ so_far.counted;
          none = subst (λ l. AreGone l (n + 1)) (sym held) (set_gone now n here so_far.none);
          rest = ap (λ l. in_turn step l t) rest ∙ ap (in_turn step (drop (n + 1) now)) is
              ∙ sym (ap (λ l. in_turn step l s) (front now n (Some x) here has)) ∙ so_far.rest;
        }
