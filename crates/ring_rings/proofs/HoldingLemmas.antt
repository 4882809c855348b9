-- How the claims that the owner of a producer holds stay open, and apart.
use Rattle.std.proofs.Common.{◌≡◌, ◌≢◌, ℕ, suc, ◌<◌, List, [], ◌∷◌, ◌++◌, All, Option, Some, None, drop, length, set, take, slice_index_or, refl, sym, ap, ◌∙◌, subst}
use Rattle.std.proofs.lemmas.List.{set-get_or, set_split}
use Rattle.std.proofs.lemmas.List.Elements.{All-append, All-cons, All-head, All-nil, All-push, All-tail, All-weaker}
use Rattle.ring_words.specs.Open.{ClaimAt}
use Rattle.ring_table.specs.declared.view.View.{View}
use Rattle.ring_rings.specs.Holding.{in_slots, AreApart, AreOpenAt}
use Rattle.ring_rings.specs.Seats.{IsOpenAt, KeepsAllBut, KeepsBothOpen, KeepsOpen, LiesApartAt}

-- Slots --------------------------------------------------------------------------

module _ {A : Type 0} where
  pub slots_append : (xs ys : List (Option A)) → in_slots (xs ++ ys) ≡ in_slots xs ++ in_slots ys
  slots_append [] ys = refl
  slots_append (None ∷ xs) ys = slots_append xs ys
  slots_append (Some x ∷ xs) ys = ap (λ l. x ∷ l) (slots_append xs ys)

  -- the slot at the index k is changed
  pub slot_set : (xs : List (Option A)) (k : ℕ) (o : Option A) → k < length xs
      → in_slots (set xs k o) ≡ in_slots (take k xs) ++ in_slots (o ∷ drop (suc k) xs)
  slot_set xs k o inside = ap in_slots (set_split xs k o inside) ∙ slots_append (take k xs) (o ∷ drop (suc k) xs)

  -- it holds x
  pub slot_has : (xs : List (Option A)) (k : ℕ) (x : A) → k < length xs → slice_index_or xs k None ≡ Some x
      → in_slots xs ≡ in_slots (take k xs) ++ x ∷ in_slots (drop (suc k) xs)
  slot_has xs k x inside has =
      ap in_slots (sym (ap (λ o. set xs k o) (sym has) ∙ set-get_or xs k None)) ∙ slot_set xs k (Some x) inside

-- Lists of claims ----------------------------------------------------------------

-- what holds of all holds of those before one, of that one, and of those after it
pub all_parts : (R : ClaimAt → Type 0) (front : List ClaimAt) (t : ClaimAt) (back : List ClaimAt)
    → All R (front ++ t ∷ back) → All R front × R t × All R back
all_parts R [] t back all = (All-nil R, All-head R t back all, All-tail R t back all)
all_parts R (u ∷ us) t back all =
    let rest = all_parts R us t back (All-tail R u (us ++ t ∷ back) all) in
    (All-cons R u us (All-head R u (us ++ t ∷ back) all) rest.0, rest.1, rest.2)

-- the claims of two lists that lie at different places
apart_both : (P Q : ClaimAt → Type 0) (ts us : List ClaimAt) → All P ts → All Q us
    → ((t u : ClaimAt) → P t → Q u → t.place ≢ u.place) → AreApart ts → AreApart us → AreApart (ts ++ us)
apart_both P Q [] us all others off ts_apart us_apart = us_apart
apart_both P Q (t ∷ ts) us all others off ts_apart us_apart = (
  All-append (λ u. t.place ≢ u.place) ts us ts_apart.0
      (All-weaker Q (λ u. t.place ≢ u.place) (λ u is. off t u (All-head P t ts all) is) us others),
  apart_both P Q ts us (All-tail P t ts all) others off ts_apart.1 us_apart,
)

-- P turns into Q for all claims but the one that was changed or went
others : (P Q : ClaimAt → Type 0) (t : ClaimAt) → ((u : ClaimAt) → P u → u.place ≢ t.place → Q u)
    → (front back : List ClaimAt) → All P (front ++ t ∷ back) → AreApart (front ++ t ∷ back)
    → All Q front × All Q back × AreApart (front ++ back)
others P Q t keeps [] back all apart = (
  All-nil Q,
  λ k d lt. keeps (slice_index_or back k d) (All-tail P t back all k d lt) (λ same. apart.0 k d lt (sym same)),
  apart.1,
)
others P Q t keeps (u ∷ us) back all apart =
    let off = all_parts (λ x. u.place ≢ x.place) us t back apart.0 in
    let rest = others P Q t keeps us back (All-tail P u (us ++ t ∷ back) all) apart.1 in (
      All-cons Q u us (keeps u (All-head P u (us ++ t ∷ back) all) off.1) rest.0,
      rest.1,
      (All-append (λ x. u.place ≢ x.place) us back off.0 off.2, rest.2),
    )

-- Claims that are open -----------------------------------------------------------

module _ (C : ℕ) where
  pub still_open : (p q : View) (claims : List ClaimAt) → KeepsOpen C p q → AreOpenAt C p claims
      → AreOpenAt C q claims
  still_open p q claims keeps are =
      record { each = λ k d lt. keeps (slice_index_or claims k d) (are.each k d lt); apart = are.apart }

  pub one_more_open : (p q : View) (claims : List ClaimAt) (t : ClaimAt) → KeepsOpen C p q
      → IsOpenAt C q t → LiesApartAt C p t → AreOpenAt C p claims → AreOpenAt C q (claims ++ t ∷ [])
  one_more_open p q claims t keeps is_open off are = record {
    each = All-push (IsOpenAt C q) claims t (still_open p q claims keeps are).each is_open;
    apart = apart_both (IsOpenAt C p) (λ u. u ≡ t) claims (t ∷ []) are.each
        (All-cons (λ u. u ≡ t) t [] refl (All-nil (λ u. u ≡ t)))
        (λ s u is same. subst (λ x. s.place ≢ x.place) (sym same) (off s is)) are.apart
        (All-nil (λ u. t.place ≢ u.place), tt);
  }

  pub both_open : (p other q : View) (claims more : List ClaimAt) → KeepsBothOpen C p other q
      → AreOpenAt C p claims → AreOpenAt C other more → AreOpenAt C q (claims ++ more)
  both_open p other q claims more keeps are also = record {
    each = All-append (IsOpenAt C q) claims more (still_open p q claims keeps.first are).each
        (still_open other q more keeps.second also).each;
    apart = apart_both (IsOpenAt C p) (IsOpenAt C other) claims more are.each also.each keeps.apart
        are.apart also.apart;
  }

  -- the claim t, with those before it and those after it
  module _ (p q : View) (front back : List ClaimAt) (t : ClaimAt) (are : AreOpenAt C p (front ++ t ∷ back)) where
    pub one_open : IsOpenAt C p t
    one_open = (all_parts (IsOpenAt C p) front t back are.each).1

    -- it went
    pub one_less_open : KeepsAllBut C t.place p q → AreOpenAt C q (front ++ back)
    one_less_open keeps =
        let rest = others (IsOpenAt C p) (IsOpenAt C q) t keeps.claims front back are.each are.apart in
        record { each = All-append (IsOpenAt C q) front back rest.0 rest.1; apart = rest.2 }

    -- it was changed
    pub one_changed_open : KeepsAllBut C t.place p q → IsOpenAt C q t → AreOpenAt C q (front ++ t ∷ back)
    one_changed_open keeps here =
        let rest = others (IsOpenAt C p) (IsOpenAt C q) t keeps.claims front back are.each are.apart in
        record {
          each = All-append (IsOpenAt C q) front (t ∷ back) rest.0
              (All-cons (IsOpenAt C q) t back here rest.1);
          apart = are.apart;
        }
