-- The open claims of a producer: how they stay open.
use Rattle.std.proofs.Common.{◌≡◌, ◌≢◌, ℕ, ◌+◌, ℤ, Bool, true, false, cond, eqb, List, [], ◌∷◌, ◌++◌, append-nil, length, length-append, Result, Ok, Err, Some, refl, sym, ap, ◌∙◌, subst, arith, eq-eqb, eqb-true, ne_eqb}
use Rattle.ring_layout.specs.declared.message.ClaimState.{ClaimState, TheVariants.Aborted}
use Rattle.ring_words.specs.{Open.ClaimAt, declared.fault.PutRange.PutRange}
use Rattle.ring_table.specs.declared.{claim.StagedClaim.StagedClaim, claim.Stage.TheVariants.Stored, view.View.View}
use Rattle.ring_table.specs.{Changes.changed, Changes.staged, OpenClaims.one_if_open, OpenClaims.open_count}
use Rattle.ring_table.{specs.ProducerSteps.with_changed, proofs.LawLemmas.open_count-interleaved}
use Rattle.ring_rings.{specs.Bodies.put_at, specs.Bodies.PutsBytes, proofs.LeavingLemmas.gains_looked}
use Rattle.ring_rings.specs.{Claiming.claim_behind, Claiming.Claims, Holding.AreApart, Holding.AreOpenAt, Joining.Joins}
use Rattle.ring_rings.specs.Seats.{IsOpenAt, KeepsAllBut, KeepsBothOpen, KeepsOpen, OpensAt}
use Rattle.ring_rings.proofs.CountLemmas.{count_kept, open_count-more, settles_one}
use Rattle.ring_rings.proofs.HoldingLemmas.{all_parts, both_open, one_changed_open, one_less_open, one_more_open, one_open}
use Rattle.ring_ends.specs.{Claiming.AreAllOpen, Claims.aborted, Claims.claim_numbered, Claims.without, Claims.Takes}
use Rattle.ring_ends.specs.End.{Either}

-- Lists of claims ----------------------------------------------------------------

-- the head of a list, by what the test of its number says
pub numbered_by : (b : Bool) (number : ℕ) (t : ClaimAt) (ts : List ClaimAt) → eqb t.place number ≡ b
    → (claim_numbered number (t ∷ ts) ≡ cond b (Some t) (claim_numbered number ts))
    × (without number (t ∷ ts) ≡ cond b ts (t ∷ without number ts))
numbered_by b number t ts is = (
  ap (λ x. cond x (Some t) (claim_numbered number ts)) is,
  ap (λ x. cond x ts (t ∷ without number ts)) is,
)

some_same : (t u : ClaimAt) → Some t ≡ Some u → t ≡ u
some_same t u same = cc

-- the head of a list has this number, or not
has_number : (number : ℕ) (t : ClaimAt) (X : Type 0) → (eqb t.place number ≡ true → X)
    → (eqb t.place number ≡ false → X) → X
has_number number t X on off = pick (eqb t.place number) refl
  where
    pick : (b : Bool) → eqb t.place number ≡ b → X
    pick true is = on is
    pick false is = off is

-- the claim of a number, with those before it and those after it
pub record Numbered (number : ℕ) (t : ClaimAt) (claims : List ClaimAt) : Type 0 where
  pub front : List ClaimAt
  pub back : List ClaimAt
  pub place : t.place ≡ number
  pub all : claims ≡ front ++ t ∷ back
  pub rest : without number claims ≡ front ++ back

numbered : (number : ℕ) (claims : List ClaimAt) (t : ClaimAt) → claim_numbered number claims ≡ Some t
    → Numbered number t claims
numbered number [] t is = absurd cc
numbered number (u ∷ us) t is = has_number number u (Numbered number t (u ∷ us))
    (λ on. let by = numbered_by true number u us on in
    let same = some_same u t (sym by.0 ∙ is) in
    record {
      front = [];
      back = us;
      place = ap (λ (x : ClaimAt). x.place) (sym same) ∙ eqb-true u.place number on;
      all = ap (λ x. x ∷ us) same;
      rest = by.1;
    })
    (λ off. let by = numbered_by false number u us off in
    let more = numbered number us t (sym by.0 ∙ is) in
    record {
      front = u ∷ more.front;
      back = more.back;
      place = more.place;
      all = ap (λ l. u ∷ l) more.all;
      rest = by.1 ∙ ap (λ l. u ∷ l) more.rest;
    })

-- the claim of a number is the one of its number, if no other is at its place
pub numbered_one : (number : ℕ) (front back : List ClaimAt) (t : ClaimAt) → t.place ≡ number
    → AreApart (front ++ t ∷ back) → Takes number t (front ++ t ∷ back) (front ++ back)
numbered_one number [] back t is apart =
    let by = numbered_by true number t back (eq-eqb t.place number is) in record { claim = by.0; rest = sym by.1 }
numbered_one number (u ∷ us) back t is apart =
    let off = (all_parts (λ x. u.place ≢ x.place) us t back apart.0).1 in
    let by = numbered_by false number u (us ++ t ∷ back) (ne_eqb u.place number (λ same. off (same ∙ sym is))) in
    let later = numbered_one number us back t is apart.1 in
    record { claim = by.0 ∙ later.claim; rest = ap (λ l. u ∷ l) later.rest ∙ sym by.1 }

-- Claims that are open -----------------------------------------------------------

module _ (C : ℕ) where
  -- the claim of a number
  module _ (p q : View) (claims : List ClaimAt) (number : ℕ) (t : ClaimAt)
      (is : claim_numbered number claims ≡ Some t) (are : AreOpenAt C p claims) where
    split : Numbered number t claims
    split = numbered number claims t is

    parts : AreOpenAt C p (split.front ++ t ∷ split.back)
    parts = subst (AreOpenAt C p) split.all are

    pub number_is : t.place ≡ number
    number_is = split.place

    pub numbered_open : IsOpenAt C p t
    numbered_open = one_open C p q split.front split.back t parts

    pub without_open : KeepsAllBut C t.place p q → AreOpenAt C q (without number claims)
    without_open keeps =
        subst (AreOpenAt C q) (sym split.rest) (one_less_open C p q split.front split.back t parts keeps)

    pub changed_open : KeepsAllBut C t.place p q → IsOpenAt C q t → AreOpenAt C q claims
    changed_open keeps here =
        subst (AreOpenAt C q) (sym split.all) (one_changed_open C p q split.front split.back t parts keeps here)

-- All claims that are open --------------------------------------------------------

-- one claim fewer
length_without : (number : ℕ) (claims : List ClaimAt) (t : ClaimAt) → Numbered number t claims
    → length (without number claims) + 1 ≡ length claims
length_without number claims t split =
    let rest = ap length split.rest ∙ length-append split.front split.back in
    let all = ap length split.all ∙ length-append split.front (t ∷ split.back) in
    omega (arith, rest, all)

module _ (C : ℕ) (v w : View) (claims : List ClaimAt) where
  -- a claim was made
  pub all_more : (many : Bool) (type_id : ℤ) (len : ℕ) (t : ClaimAt) → Claims many C type_id len v t w
      → KeepsOpen C v w → OpensAt C v w t → AreAllOpen C v claims → AreAllOpen C w (claims ++ t ∷ [])
  all_more many type_id len t made keeps opened held =
      let c = claim_behind C made.tail type_id len in
      let gained = gains_looked c _ _ made.tail made.head v w made.view in
      let count = ap open_count gained.claims ∙ open_count-more v.producer.claims c in
      let was = held.all in
      let long = length-append claims (t ∷ []) in
      record {
        are = one_more_open C v w claims t keeps opened.is_open opened.apart held.are;
        all = omega (arith, count, was, long);
      }

  -- the claim of a number was settled
  pub all_less : (number : ℕ) (t : ClaimAt) (s : ClaimState) → one_if_open s ≡ 0 → claim_numbered number claims ≡ Some t
      → KeepsAllBut C t.place v w → w ≡ with_changed t.place (staged (Stored s)) v → AreAllOpen C v claims
      → AreAllOpen C w (without number claims)
  all_less number t s settled is keeps change held =
      let here = numbered_open C v w claims number t is held.are in
      let one = settles_one v t.place t.place t.type_id t.len s here.claim refl keeps.rising settled in
      let fewer = ap (λ (u : View). open_count u.producer.claims + 1) change in
      let was = held.all in
      let long = length_without number claims t (numbered number claims t is) in
      record {
        are = without_open C v w claims number t is held.are keeps;
        all = omega (arith, one, fewer, was, long);
      }

  -- the last claim was aborted
  pub all_last : (t : ClaimAt) → KeepsAllBut C t.place v w → w ≡ with_changed t.place (staged (Stored Aborted)) v
      → AreAllOpen C v (claims ++ t ∷ []) → AreAllOpen C w claims
  all_last t keeps change held =
      let here = one_open C v w claims [] t held.are in
      let one = settles_one v t.place t.place t.type_id t.len Aborted here.claim refl keeps.rising refl in
      let fewer = ap (λ (u : View). open_count u.producer.claims + 1) change in
      let was = held.all in
      let long = length-append claims (t ∷ []) in
      record {
        are = subst (AreOpenAt C w) (append-nil claims) (one_less_open C v w claims [] t held.are keeps);
        all = omega (arith, one, fewer, was, long);
      }

-- the open claims of two producers that were joined
pub all_both : (C : ℕ) (v other w : View) (claims more : List ClaimAt) → KeepsBothOpen C v other w → Joins C v other w
    → AreAllOpen C v claims → AreAllOpen C other more → AreAllOpen C w (claims ++ more)
all_both C v other w claims more keeps joins held also =
    let count = ap (λ (u : View). open_count u.producer.claims) joins.view
    ∙ open_count-interleaved v.producer.claims other.producer.claims in
    let mine = held.all in
    let its = also.all in
    let long = length-append claims more in
    record {
      are = both_open C v other w claims more keeps held.are also.are;
      all = omega (arith, count, mine, its, long);
    }

-- bytes that are put into a claim, or refused, open and settle none
pub put_count : (r : Result (Unit {0}) PutRange) (place offset : ℕ) (bytes : List ℕ) (v w : View)
    → Either (λ v _ w. PutsBytes place offset bytes v w) (λ v _ w. w ≡ v) v r w
    → open_count w.producer.claims ≡ open_count v.producer.claims
put_count (Ok x) place offset bytes v w put =
    ap (λ (u : View). open_count u.producer.claims) put.view
    ∙ count_kept (put_at offset bytes) place (λ c. refl) v.producer.claims
put_count (Err e) place offset bytes v w same = ap (λ (u : View). open_count u.producer.claims) same

-- Aborting ------------------------------------------------------------------------

-- the last one is aborted first
pub aborted_last : (ts : List ClaimAt) (t : ClaimAt) (cs : List StagedClaim)
    → aborted (ts ++ t ∷ []) cs ≡ aborted ts (changed t.place (staged (Stored Aborted)) cs)
aborted_last [] t cs = refl
aborted_last (u ∷ us) t cs = ap (changed u.place (staged (Stored Aborted))) (aborted_last us t cs)
