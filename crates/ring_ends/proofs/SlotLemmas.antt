-- The slots of open claims.
use Rattle.std.proofs.Common.{◌≡◌, ◌≢◌, ℕ, suc, zero, ◌+◌, ◌<◌, ◌≤◌, eqb, ltb, nat_eq, Bool, true, false, List, [], ◌∷◌, ◌++◌, Option, Some, None, MatchOption, is_some, length, drop, set, take, slice_index_or, slice_set, refl, sym, ap, ◌∙◌, subst, arith, filter, HashMap, eqb-true, ltb-false, ltb-true, append-nil, get_or-set_other, get_or-set_same, length-append, length-set, set-set}
use Rattle.std.specs.HashMap.{get}
use Rattle.std.proofs.lemmas.{Bool.eqb-false, List.get_or_append_left, List.get_or_past, List.set-get_or}
use Rattle.ring_words.specs.Open.{ClaimAt}
use Rattle.ring_table.specs.declared.view.View.{View}
use Rattle.ring_rings.specs.{Holding.in_slots, Holding.AreApart, Holding.AreOpenAt, Seats.IsOpenAt, Seats.KeepsAllBut}
use Rattle.ring_ends.specs.Claims.{claim_numbered, has_numbered, without, IsNoNumber, IsSlotOf, LacksAt, TakesFrom}
use Rattle.ring_ends.specs.Slots.{AreNoted}
use Rattle.ring_ends.proofs.ClaimLemmas.{changed_open, numbered_by, numbered_one}
use Rattle.ring_rings.proofs.HoldingLemmas.{slot_has, slot_set, slots_append}

abbrev Slots : Type 0
Slots = List (Option ClaimAt)

-- The search ---------------------------------------------------------------------

-- no slot from this one on has the claim of this number
pub record IsNotFrom (number : ℕ) (slots : Slots) (end : ℕ) : Type 0 where
  pub none : (i : ℕ) → end ≤ i → LacksAt number slots i

module _ (number : ℕ) (slots : Slots) where
  pub past_slots : (i : ℕ) → length slots ≤ i → LacksAt number slots i
  past_slots i past = ap (has_numbered number) (get_or_past slots i None past)

  pub none_from_end : IsNotFrom number slots (length slots)
  none_from_end = record { none = past_slots }

  -- the one before does not have it
  pub one_before : (end : ℕ) → LacksAt number slots end → (later : ℕ) → later ≤ end + 1
      → IsNotFrom number slots later → IsNotFrom number slots end
  one_before end off later next after = record { none = λ i from. pick i from (eqb i end) refl }
    where
      pick : (i : ℕ) → end ≤ i → (b : Bool) → eqb i end ≡ b → LacksAt number slots i
      pick i from true is = subst (LacksAt number slots) (sym (eqb-true i end is)) off
      pick i from false is =
          let other : i ≢ end = eqb-false i end is in
          after.none i (omega (arith, from, next, other))

-- a slot that has the claim of a number is one of the slots
inside_slots : (number : ℕ) (slots : Slots) (i : ℕ) → has_numbered number (slice_index_or slots i None) ≡ true
    → i < length slots
inside_slots number [] i has = absurd cc
inside_slots number (o ∷ slots) zero has = omega arith
inside_slots number (o ∷ slots) (suc i) has = omega (arith, inside_slots number slots i has)

pub slot_found : (number : ℕ) (slots : Slots) (i : ℕ) → has_numbered number (slice_index_or slots i None) ≡ true
    → IsSlotOf number slots i
slot_found number slots i has = record { inside = inside_slots number slots i has; has = has }

-- no slot has it
none_numbered : (number : ℕ) (slots : Slots) → ((i : ℕ) → LacksAt number slots i)
    → IsNoNumber number (in_slots slots)
none_numbered number [] off = record { claim = refl; rest = refl }
none_numbered number (None ∷ slots) off = none_numbered number slots (λ i. off (suc i))
none_numbered number (Some t ∷ slots) off =
    let by = numbered_by false number t (in_slots slots) (off 0) in
    let later = none_numbered number slots (λ i. off (suc i)) in
    record { claim = by.0 ∙ later.claim; rest = by.1 ∙ ap (λ (ts : List ClaimAt). t ∷ ts) later.rest }

-- neither the first slots nor the others have it
pub slot_missing : (number : ℕ) (slots : Slots) (noted : ℕ) → ((i : ℕ) → i < noted → LacksAt number slots i)
    → ((i : ℕ) → noted ≤ i → LacksAt number slots i) → IsNoNumber number (in_slots slots)
slot_missing number slots noted first rest = none_numbered number slots (λ i. pick i (ltb i noted) refl)
  where
    pick : (i : ℕ) (b : Bool) → ltb i noted ≡ b → LacksAt number slots i
    pick i true is = first i (ltb-true i noted is)
    pick i false is = rest i (ltb-false i noted is)

-- what a search finds in the end, if the slot is not among the first
pub found_or_missing : (A B : Type 0) (C : ℕ → Type 0) (o : Option ℕ) → (A → B) → MatchOption o A C → MatchOption o B C
found_or_missing A B C None missing none = missing none
found_or_missing A B C (Some i) missing some = some

-- a slot that has a number has its claim
numbered_in : (number : ℕ) (o : Option ClaimAt) (t : ClaimAt) → o ≡ Some t → has_numbered number o ≡ true
    → t.place ≡ number
numbered_in number o t is has =
    eqb-true t.place number (subst (λ (x : Option ClaimAt). has_numbered number x ≡ true) is has)

module _ {S : Type 0} (slots : Slots) (map : HashMap ℕ ℕ S) (noted number : ℕ) (are : AreNoted slots map noted) where
  -- the map finds the claim of a number, if one of the first slots has it
  found_by_map : (i : ℕ) → i < noted → has_numbered number (slice_index_or slots i None) ≡ true
      → get nat_eq map number ≡ Some i
  found_by_map i front has = pick (slice_index_or slots i None) refl
    where
      pick : (o : Option ClaimAt) → slice_index_or slots i None ≡ o → get nat_eq map number ≡ Some i
      pick None is =
          let no : true ≡ false = sym has ∙ ap (has_numbered number) is in
          absurd cc
      pick (Some t) is =
          subst (λ q. get nat_eq map q ≡ Some i) (numbered_in number (slice_index_or slots i None) t is has)
          (are.finds i t front is)

  -- the first slots do not have it, if that which the map finds does not
  pub first_lack : (o : Option ℕ) → get nat_eq map number ≡ o → ((i : ℕ) → o ≡ Some i → LacksAt number slots i)
      → (i : ℕ) → i < noted → LacksAt number slots i
  first_lack o is off i front = pick (has_numbered number (slice_index_or slots i None)) refl
    where
      pick : (b : Bool) → has_numbered number (slice_index_or slots i None) ≡ b → LacksAt number slots i
      pick false has = has
      pick true has = off i (sym is ∙ found_by_map i front has)

-- One slot -----------------------------------------------------------------------

pub takes_from : (number : ℕ) (slots : Slots) (i : ℕ) (t : ClaimAt) → IsSlotOf number slots i
    → slice_index_or slots i None ≡ Some t → AreApart (in_slots slots)
    → TakesFrom number i t slots (slice_set slots i None)
takes_from number slots i t found is apart =
    let all = slot_has slots i t found.inside is in
    let numbered = numbered_in number (slice_index_or slots i None) t is found.has in
    let one = numbered_one number (in_slots (take i slots)) (in_slots (drop (suc i) slots)) t numbered
    (subst AreApart all apart) in
    record {
      inside = omega (arith, found.inside, length-set slots i None);
      takes = record {
        claim = ap (claim_numbered number) all ∙ one.claim;
        rest = slot_set slots i None found.inside ∙ one.rest ∙ sym (ap (without number) all);
      };
      back = set-set slots i None (Some t) ∙ ap (set slots i) (sym is) ∙ set-get_or slots i None;
    }

-- a claim is put back into its slot
module _ (number index : ℕ) (t u : ClaimAt) (old mid new : Slots) (taken : TakesFrom number index t old mid)
    (back : new ≡ slice_set mid index (Some u)) (same : u ≡ t) where
  pub put_back_same : in_slots new ≡ in_slots old
  put_back_same = ap in_slots (back ∙ ap (λ (v : ClaimAt). slice_set mid index (Some v)) same ∙ taken.back)

  pub put_back_open : (C : ℕ) (v w : View) → KeepsAllBut C t.place v w → IsOpenAt C w u → AreOpenAt C v (in_slots old)
      → AreOpenAt C w (in_slots new)
  put_back_open C v w keeps here are =
      subst (AreOpenAt C w) (sym put_back_same)
      (changed_open C v w (in_slots old) number t taken.takes.claim are keeps (subst (IsOpenAt C w) same here))

-- The map ------------------------------------------------------------------------

module _ {S : Type 0} (slots : Slots) (map : HashMap ℕ ℕ S) where
  -- it need not have any slot
  pub none_noted : AreNoted slots map 0
  none_noted = record { within = omega arith; finds = λ i t front is. absurd (omega (arith, front)) }

  module _ (noted : ℕ) (are : AreNoted slots map noted) where
    -- more slots
    pub noted_append : (more : Slots) → AreNoted (slots ++ more) map noted
    noted_append more = record {
      within = omega (arith, are.within, length-append slots more);
      finds = λ i t front is. are.finds i t front
          (sym (get_or_append_left slots more None i (omega (arith, front, are.within))) ∙ is);
    }

    -- the slot at the index k is changed, and the map has it there if it is one of the first
    pub noted_set : (k : ℕ) (o : Option ClaimAt) (left : ℕ) → left ≤ noted → k < length slots
        → ((t : ClaimAt) → k < left → o ≡ Some t → get nat_eq map t.place ≡ Some k) → AreNoted (set slots k o) map left
    noted_set k o left less inside here = record {
      within = omega (arith, less, are.within, length-set slots k o);
      finds = λ i t front is. pick i t front is (eqb i k) refl;
    }
      where
        pick : (i : ℕ) (t : ClaimAt) → i < left → slice_index_or (set slots k o) i None ≡ Some t → (b : Bool)
            → eqb i k ≡ b → get nat_eq map t.place ≡ Some i
        pick i t front is true same =
            let at : i ≡ k = eqb-true i k same in
            let its : o ≡ Some t =
            sym (get_or-set_same slots k o None inside)
            ∙ subst (λ j. slice_index_or (set slots k o) j None ≡ Some t) at is in
            subst (λ j. get nat_eq map t.place ≡ Some j) (sym at) (here t (subst (λ j. j < left) at front) its)
        pick i t front is false same =
            are.finds i t (omega (arith, front, less))
            (sym (get_or-set_other slots k i o None (eqb-false i k same)) ∙ is)

    -- the next slot is empty
    pub noted_empty : noted < length slots → slice_index_or slots noted None ≡ None → AreNoted slots map (noted + 1)
    noted_empty inside none = record {
      within = omega (arith, inside);
      finds = λ i t front is. pick i t front is (eqb i noted) refl;
    }
      where
        pick : (i : ℕ) (t : ClaimAt) → i < noted + 1 → slice_index_or slots i None ≡ Some t → (b : Bool)
            → eqb i noted ≡ b → get nat_eq map t.place ≡ Some i
        pick i t front is true same =
            let at = eqb-true i noted same in
            let no : None ≡ Some t = sym none ∙ subst (λ j. slice_index_or slots j None ≡ Some t) at is in
            absurd cc
        pick i t front is false same =
            let other : i ≢ noted = eqb-false i noted same in
            are.finds i t (omega (arith, front, other)) is

    -- the next slot has a claim, whose place is new to the map
    pub noted_claim : (u : ClaimAt) (more : HashMap ℕ ℕ S) → noted < length slots
        → slice_index_or slots noted None ≡ Some u → get nat_eq map u.place ≡ None
        → get nat_eq more u.place ≡ Some noted
        → ((q : ℕ) → nat_eq u.place q ≡ false → get nat_eq more q ≡ get nat_eq map q)
        → AreNoted slots more (noted + 1)
    noted_claim u more inside has absent here others = record {
      within = omega (arith, inside);
      finds = λ i t front is. pick i t front is (eqb i noted) refl;
    }
      where
        apart : (i : ℕ) (t : ClaimAt) → get nat_eq map t.place ≡ Some i → (b : Bool) → nat_eq u.place t.place ≡ b
            → get nat_eq more t.place ≡ Some i
        apart i t found true same =
            let at : u.place ≡ t.place = eqb-true u.place t.place same in
            let no : None ≡ Some i = sym absent ∙ subst (λ q. get nat_eq map q ≡ Some i) (sym at) found in
            absurd cc
        apart i t found false same = others t.place same ∙ found

        pick : (i : ℕ) (t : ClaimAt) → i < noted + 1 → slice_index_or slots i None ≡ Some t → (b : Bool)
            → eqb i noted ≡ b → get nat_eq more t.place ≡ Some i
        pick i t front is true same =
            let at : i ≡ noted = eqb-true i noted same in
            let its : Some u ≡ Some t = sym has ∙ subst (λ j. slice_index_or slots j None ≡ Some t) at is in
            let claim : u ≡ t = cc in
            subst (λ j. get nat_eq more t.place ≡ Some j) (sym at)
            (subst (λ (v : ClaimAt). get nat_eq more v.place ≡ Some noted) claim here)
        pick i t front is false same =
            let other : i ≢ noted = eqb-false i noted same in
            apart i t (are.finds i t (omega (arith, front, other)) is) (nat_eq u.place t.place) refl

-- All slots ----------------------------------------------------------------------

-- the last slot is empty
pub last_empty : (xs : Slots) → in_slots (xs ++ None ∷ []) ≡ in_slots xs
last_empty xs = slots_append xs (None ∷ []) ∙ append-nil (in_slots xs)

-- or it has a claim
pub last_claim : (xs : Slots) (t : ClaimAt) → in_slots (xs ++ Some t ∷ []) ≡ in_slots xs ++ t ∷ []
last_claim xs t = slots_append xs (Some t ∷ [])

-- without the empty ones
pub slots_filtered : (slots : Slots) → in_slots (filter is_some slots) ≡ in_slots slots
slots_filtered [] = refl
slots_filtered (None ∷ slots) = slots_filtered slots
slots_filtered (Some t ∷ slots) = ap (λ (ts : List ClaimAt). t ∷ ts) (slots_filtered slots)
