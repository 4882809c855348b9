-- Where records lie: the slots of a record are side by side, and no two records from the head on share one.
use Rattle.std.proofs.Common.{◌≡◌, ℕ, zero, suc, ◌+◌, ◌-◌, ◌*◌, ◌/◌, ◌%◌, ◌≤◌, ◌<◌, ◌⊎◌, List, [], ◌∷◌, length, sym, refl, ap, ◌∙◌, subst, inl, inr, ⊎_elim, arith}
use Rattle.std.proofs.Math.{Option.Option, Option.some, Option.some-injective, Option.some-ne-none, ListN.get_elem?}
use Rattle.std.proofs.lemmas.Bool.{cases_lt}
use Rattle.ring_layout.specs.{History.span, Places.index, Places.next_place}
use Rattle.ring_layout.proofs.{Laps.mod_step, Laps.apart, PlaceLemmas.next_within}
use Rattle.ring_table.specs.Staged.{Bodies, StagedClaim, PlacedMessage, claim_end, staged_span, ArePlaced}
use Rattle.ring_table.specs.{Owners.OwnedHistory, Owners.all_of, Rule.Kept}
use Rattle.ring_table.specs.{Passing.Reaches, Passing.IsSettled, Passing.placed_message, Views.View, SlotSteps.words_of}
use Rattle.ring_table.proofs.{RangeLemmas.Outside, RangeLemmas.AreHome, ReachLemmas.none_of, ReachLemmas.shown_cases}
use Rattle.ring_table.proofs.StagedPlaces.{capacity_aligned, start_aligned, lies_in, places_aligned, one_at_position}

-- a record of n bytes is in the lap from the head on
pub record BodyIn (C head place n : ℕ) : Type 0 where
  pub some : 0 < C
  pub whole : C % 8 ≡ 0
  pub place8 : place % 8 ≡ 0
  pub from : head ≤ place
  pub to : place + span n ≤ head + C
  pub within : place % C + span n ≤ C

pub body_index : (C head place n i : ℕ) → BodyIn C head place n → i < words_of (8 + n)
    → index C (place + 8 * i) ≡ index C place + i
body_index C head place n i b h =
    let step : (place + 8 * i) % C ≡ place % C + 8 * i = mod_step C place (8 * i) (omega arith) in
    let x : ℕ = place % C in
    let last : (x + 8 * i) / 8 ≡ x / 8 + i = omega arith in
    ap (λ z. z / 8) step ∙ last

-- the words after the header
pub behind_header : (C head place n i : ℕ) → BodyIn C head place n → i < words_of n
    → index C (place + 8 + 8 * i) ≡ index C place + 1 + i
behind_header C head place n i b h =
    let whole : place + 8 + 8 * i ≡ place + 8 * (i + 1) = omega arith in
    let last : index C place + (i + 1) ≡ index C place + 1 + i = omega arith in
    ap (index C) whole ∙ body_index C head place n (i + 1) b (omega arith) ∙ last

-- its slots are below the number of slots
pub body_below : (C head place n i : ℕ) → BodyIn C head place n → i < words_of (8 + n) → index C place + i < C / 8
body_below C head place n i b h =
    let x : ℕ = place % C in
    omega arith

-- a slot is one of n from k on, or is outside
pub in_or_out : (k n j : ℕ) → ((i : ℕ) × (i < n) × (j ≡ k + i)) ⊎ Outside k n j
in_or_out k n j = ⊎_elim (λ (low : j < k). inr (inl low))
    (λ (from : k ≤ j). ⊎_elim (λ (h : j < k + n). inl (j - k, omega arith, omega arith))
    (λ (h : k + n ≤ j). inr (inr h)) (cases_lt j (k + n))) (cases_lt j k)

pub not_outside : (k n j i : ℕ) → i < n → j ≡ k + i → Outside k n j → ⊥
not_outside k n j i less is (inl h) = omega arith
not_outside k n j i less is (inr h) = omega arith

-- the values of a range of slots that are at home
at_each : (homes : List (Option ℕ)) (k y : ℕ) (ys : List ℕ) → get_elem? homes (k + 0) ≡ some (some y)
    → AreHome homes (suc k) ys → AreHome homes k (y ∷ ys)
at_each homes k y ys first more zero z e = first ∙ ap (λ (x : ℕ). some (some x)) (some-injective y z e)
at_each homes k y ys first more (suc i) z e =
    let is : suc k + i ≡ k + suc i = omega arith in
    ap (get_elem? homes) (sym is) ∙ more i z e

pub gathered : (homes : List (Option ℕ)) (k len : ℕ)
    → ((i : ℕ) → i < len → (y : ℕ) × (get_elem? homes (k + i) ≡ some (some y)))
    → (ys : List ℕ) × (length ys ≡ len) × AreHome homes k ys
gathered homes k zero each = ([], refl, λ i y e. absurd (some-ne-none y (sym e)))
gathered homes k (suc len) each =
    let first = each 0 (omega arith) in
    let more = gathered homes (suc k) len (λ i h.
    let t = each (suc i) (omega arith) in
    let is : suc k + i ≡ k + suc i = omega arith in
    (t.0, ap (get_elem? homes) is ∙ t.1)) in (
      first.0 ∷ more.0,
      ap suc more.1,
      at_each homes k first.0 more.0 first.1 more.2,
    )

-- a claim of the history is at this place, in the lap from the head on, and has a body of n bytes
pub record Lies (C head : ℕ) (h : OwnedHistory) (place n : ℕ) : Type 0 where
  pub nth : ℕ
  pub owned : ℕ × StagedClaim
  pub there : get_elem? h nth ≡ some owned
  pub place_is : owned.1.place ≡ place
  pub long : length owned.1.message.body ≡ n
  pub padded : owned.1.from ≤ place
  pub body : BodyIn C head place n

-- two records share no slot
pub one_slot : (C start head : ℕ) (h : OwnedHistory) → ArePlaced C start (all_of h) → (p n p' n' : ℕ)
    → Lies C head h p n → Lies C head h p' n' → (at at' : ℕ) → (at % 8 ≡ 0) × (at < 8 + n) → (at' % 8 ≡ 0) × (at' < 8 + n')
    → index C (p + at) ≡ index C (p' + at') → (p ≡ p') × (at ≡ at')
one_slot C start head h placed p n p' n' l l' at at' ok ok' same =
    let b = l.body in
    let b' = l'.body in
    let from = b.from in
    let to = b.to in
    let place8 = b.place8 in
    let q : ℕ = p + at in
    let q' : ℕ = p' + at' in
    let one : q ≡ q' = apart C head q q' (record { some = b.some; whole = b.whole })
    (record { whole = omega arith; from = omega arith; below = omega arith })
    (record { whole = omega arith; from = omega arith; below = omega arith }) same in
    let padded = l.padded in
    let place : l.owned.1.place ≡ p = l.place_is in
    let long : length l.owned.1.message.body ≡ n = l.long in
    let claims : l.owned ≡ l'.owned = one_at_position C start h l.nth l'.nth q l.owned l'.owned placed
    (record { there = l.there; from = omega arith; below = omega arith })
    (record { there = l'.there; from = omega arith; below = omega arith }) in
    let places : l.owned.1.place ≡ l'.owned.1.place = ap (λ (z : ℕ × StagedClaim). z.1.place) claims in
    (omega arith, omega arith)

-- a message that was passed is a settled claim of the history
pub record WasPassed (h : OwnedHistory) (m : PlacedMessage) : Type 0 where
  pub nth : ℕ
  pub owned : ℕ × StagedClaim
  pub there : get_elem? h nth ≡ some owned
  pub settled : IsSettled owned.1.stage
  pub is : placed_message owned.1 ≡ m

pub passed_claim : (s e : ℕ) (h : OwnedHistory) (got : List PlacedMessage) (k : ℕ) (m : PlacedMessage)
    → Reaches s e (all_of h) got → get_elem? got k ≡ some m → WasPassed h m
passed_claim s e [] got k m r g = none_of got k m r.1 g
passed_claim s e (y ∷ ys) got k m r g =
    ⊎_elim (λ a. none_of got k m a.1 g)
    (⊎_elim (λ a. none_of got k m a.2 g)
    (λ a.
    ⊎_elim
    (λ (same : placed_message y.1 ≡ m). record { nth = 0; owned = y; there = refl; settled = a.0; is = same })
    (λ (t : (k' : ℕ) × (get_elem? a.1.0 k' ≡ some m)).
    let p = passed_claim s (claim_end y.1) ys a.1.0 t.0 m a.1.2 t.1 in
    record { nth = suc p.nth; owned = p.owned; there = p.there; settled = p.settled; is = p.is })
    (shown_cases y.1.stage (placed_message y.1) m got a.1.0 k a.1.1 g))) r

-- a claim of the history lies from the head on if its place is not below
pub claim_lies : (B : Bodies) (C start : ℕ) (words : List ℕ) (views : List View) (r : Kept B C start words views)
    (nth : ℕ) (x : ℕ × StagedClaim) → get_elem? r.hist nth ≡ some x → r.consumer.head ≤ x.1.place
    → Lies C r.consumer.head r.hist x.1.place (length x.1.message.body)
claim_lies B C start words views r nth x there above =
    let law = r.lawful in
    let m = r.memory in
    let c8 = capacity_aligned C law.capacity in
    let l = lies_in C start r.hist nth x m.placed there in
    let place = l.place in
    let aligned = places_aligned C start r.hist nth x (omega arith) c8 (start_aligned C start law) m.placed there in
    let inside : next_place C x.1.from (staged_span x.1) % C + staged_span x.1 ≤ C =
    next_within C x.1.from (staged_span x.1) (omega arith) (omega arith) in
    record {
      nth = nth;
      owned = x;
      there = there;
      place_is = refl;
      long = refl;
      padded = l.padded;
      body = record {
        some = omega arith;
        whole = c8;
        place8 = aligned.1;
        from = above;
        to = omega arith;
        within = subst (λ z. z % C + staged_span x.1 ≤ C) (sym place) inside;
      };
    }
