-- Open claims of a history: where they are, and what they keep when the history changes.
use Rattle.std.proofs.Common.{◌≡◌, ◌≢◌, ℕ, ℤ, ◌+◌, ◌%◌, ◌<◌, ◌≤◌, List, [], ◌∷◌, ◌++◌, length, replicate, refl, ap, sym, ◌∙◌, subst, arith, inl, inr, All, ◌==◌, eq-eqb, ne_eqb}
use Rattle.std.proofs.lemmas.Bool.{cond-true, cond-false}
use Rattle.std.proofs.lemmas.List.{length-replicate, Elements.All-head, Elements.All-tail}
use Rattle.ring_layout.specs.declared.message.{Claim.Claim, ClaimState.TheVariants.Open}
use Rattle.ring_layout.specs.History.{span, span_of}
use Rattle.ring_layout.specs.Places.{next_place, place_behind, end_after, end_of}
use Rattle.ring_layout.proofs.PlaceLemmas.{next_le, next_fixed, span_bounds, end_of_le}
use Rattle.ring_words.specs.Ring.{Ring, IsRing, head_of, tail_of}
use Rattle.ring_words.specs.Open.{ClaimAt, IsOpen, IsOpenClaim, IsOpenIn, fresh_claim}
use Rattle.ring_words.specs.{Change.AppendsClaim, Change.changed_at, Change.opened, Read.IsHeadAfter}

-- an open claim is between the start and the end
pub open_within : (C e : ℕ) (h : List Claim) (t : ClaimAt) → IsOpenIn C e h t
    → (e ≤ t.place) × (t.place + span t.len ≤ end_of C e h)
open_within C e [] t at = absurd at
open_within C e (c ∷ h) t at =
    let on = next_le C e (span_of c) in
    let rest = end_of_le C (end_after C e (span_of c)) h in
    elim at as (λ _. (e ≤ t.place) × (t.place + span t.len ≤ end_of C e (c ∷ h))) [
      | inl here ↦ let p = here.at_place in let n = here.len in (omega (arith, p), omega (arith, p, n))
      | inr there ↦ let w = open_within C (end_after C e (span_of c)) h t there in (omega (arith, w.0), w.1)
    ]

-- claims after it do not matter
pub open_append : (C e : ℕ) (h g : List Claim) (t : ClaimAt) → IsOpenIn C e h t → IsOpenIn C e (h ++ g) t
open_append C e [] g t at = absurd at
open_append C e (c ∷ h) g t at =
    elim at as (λ _. IsOpenIn C e (c ∷ (h ++ g)) t)
    [ inl here ↦ inl here | inr there ↦ inr (open_append C (end_after C e (span_of c)) h g t there) ]

-- the claim itself, after others
pub open_behind : (C e : ℕ) (h : List Claim) (c : Claim) (g : List Claim) (t : ClaimAt)
    → IsOpenClaim C (end_of C e h) c t → IsOpenIn C e (h ++ c ∷ g) t
open_behind C e [] c g t at = inl at
open_behind C e (x ∷ h) c g t at = inr (open_behind C (end_after C e (span_of x)) h c g t at)

-- it is in the history, between others
pub record Stands (C e : ℕ) (h : List Claim) (t : ClaimAt) : Type 0 where
  pub front : List Claim
  pub claim : Claim
  pub back : List Claim
  pub whole : h ≡ front ++ claim ∷ back
  pub is : IsOpenClaim C (end_of C e front) claim t

pub open_stands : (C e : ℕ) (h : List Claim) (t : ClaimAt) → IsOpenIn C e h t → Stands C e h t
open_stands C e [] t at = absurd at
open_stands C e (c ∷ h) t at =
    elim at as (λ _. Stands C e (c ∷ h) t) [
      | inl here ↦ record { front = []; claim = c; back = h; whole = refl; is = here }
      | inr there ↦
          let s = open_stands C (end_after C e (span_of c)) h t there in
          record { front = c ∷ s.front; claim = s.claim; back = s.back; whole = ap (λ l. c ∷ l) s.whole; is = s.is }
    ]

-- no claim after a place is changed
changed_at_past : (C e place : ℕ) (f : Claim → Claim) (h : List Claim) → place < e → changed_at C e place f h ≡ h
changed_at_past C e place f [] lt = refl
changed_at_past C e place f (c ∷ h) lt =
    let on = next_le C e (span_of c) in
    (λ i. cond-false (next_place C e (span_of c) == place) (f c) c
    (ne_eqb (next_place C e (span_of c)) place (λ z. omega arith)) i
    ∷ changed_at_past C (end_after C e (span_of c)) place f h (omega arith) i)

-- the claim at the place is changed, and no other
pub changed_at_there : (C e : ℕ) (front : List Claim) (c : Claim) (back : List Claim) (f : Claim → Claim)
    → changed_at C e (place_behind C e front c) f (front ++ c ∷ back) ≡ front ++ f c ∷ back
changed_at_there C e [] c back f =
    let place : ℕ = next_place C e (span_of c) in
    let bounds = span_bounds (length c.message.body) in
    (λ i. cond-true (place == place) (f c) c (eq-eqb place place refl) i
    ∷ changed_at_past C (end_after C e (span_of c)) place f back (omega arith) i)
changed_at_there C e (x ∷ front) c back f =
    let place : ℕ = place_behind C e (x ∷ front) c in
    let bounds = span_bounds (length x.message.body) in
    let far = end_of_le C (end_after C e (span_of x)) front in
    let on = next_le C (end_of C e (x ∷ front)) (span_of c) in
    (λ i. cond-false (next_place C e (span_of x) == place) (f x) x
    (ne_eqb (next_place C e (span_of x)) place (λ z. omega arith)) i
    ∷ changed_at_there C (end_after C e (span_of x)) front c back f i)

-- an open claim stays if another one is replaced by one of the same span, and if it is replaced itself and is still
-- this claim
pub open_replaced : (C e : ℕ) (front : List Claim) (c d : Claim) (back : List Claim) (t : ClaimAt)
    → span_of c ≡ span_of d
    → (IsOpenClaim C (end_of C e front) c t → IsOpenClaim C (end_of C e front) d t)
    → IsOpenIn C e (front ++ c ∷ back) t → IsOpenIn C e (front ++ d ∷ back) t
open_replaced C e [] c d back t same keeps at =
    elim at as (λ _. IsOpenIn C e (d ∷ back) t) [
      | inl here ↦ inl (keeps here)
      | inr there ↦
          inr (subst (λ (n : ℕ). IsOpenIn C (end_after C e n) back t) same there)
    ]
open_replaced C e (x ∷ front) c d back t same keeps at =
    elim at as (λ _. IsOpenIn C e (x ∷ (front ++ d ∷ back)) t) [
      | inl here ↦ inl here
      | inr there ↦ inr (open_replaced C (end_after C e (span_of x)) front c d back t same keeps there)
    ]

-- an open claim is not among the settled ones that were passed
pub open_left : (C e : ℕ) (passed rest : List Claim) (t : ClaimAt) → All (λ (x : Claim). x.state ≢ Open) passed
    → IsOpenIn C e (passed ++ rest) t → IsOpenIn C (end_of C e passed) rest t
open_left C e [] rest t settled at = at
open_left C e (c ∷ passed) rest t settled at =
    elim at as (λ _. IsOpenIn C (end_of C e (c ∷ passed)) rest t) [
      | inl here ↦ absurd (All-head (λ (x : Claim). x.state ≢ Open) c passed settled here.is_open)
      | inr there ↦ open_left C (end_after C e (span_of c)) passed rest t
          (All-tail (λ (x : Claim). x.state ≢ Open) c passed settled) there
    ]

-- it is where it was when padding before the first claim is passed
pub open_past_padding : (C e : ℕ) (c : Claim) (h : List Claim) (t : ClaimAt) → 0 < C → span_of c ≤ C
    → IsOpenIn C e (c ∷ h) t → IsOpenIn C (next_place C e (span_of c)) (c ∷ h) t
open_past_padding C e c h t some short at =
    let place = next_fixed C e (span_of c) some short in
    elim at as (λ _. IsOpenIn C (next_place C e (span_of c)) (c ∷ h) t) [
      | inl here ↦ inl record {
        at_place = place
            ∙ here.at_place;
        is_open = here.is_open;
        type_id = here.type_id;
        len = here.len;
      }
      | inr there ↦ inr (subst (λ (k : ℕ). IsOpenIn C (k + span_of c) h t) (sym place) there)
    ]

pub open_before_padding : (C e : ℕ) (c : Claim) (h : List Claim) (t : ClaimAt) → 0 < C → span_of c ≤ C
    → IsOpenIn C (next_place C e (span_of c)) (c ∷ h) t → IsOpenIn C e (c ∷ h) t
open_before_padding C e c h t some short at =
    let place = next_fixed C e (span_of c) some short in
    elim at as (λ _. IsOpenIn C e (c ∷ h) t) [
      | inl here ↦ inl record {
        at_place = sym place
            ∙ here.at_place;
        is_open = here.is_open;
        type_id = here.type_id;
        len = here.len;
      }
      | inr there ↦ inr (subst (λ (k : ℕ). IsOpenIn C (k + span_of c) h t) place there)
    ]

-- what a read leaves has the open claims that there were
pub open_after : (C e head : ℕ) (passed rest : List Claim) (t : ClaimAt) → 0 < C
    → All (λ (x : Claim). span_of x ≤ C) rest → All (λ (x : Claim). x.state ≢ Open) passed
    → IsHeadAfter C e passed rest head → IsOpenIn C e (passed ++ rest) t → IsOpenIn C head rest t
open_after C e head passed rest t some short settled is at =
    let left = open_left C e passed rest t settled at in
    elim is as (λ _. IsOpenIn C head rest t) [
      | inl same ↦ subst (λ (k : ℕ). IsOpenIn C k rest t) (sym same) left
      | inr placed ↦
          let c : Claim = placed.0 in
          let shorts = subst (λ (l : List Claim). All (λ (x : Claim). span_of x ≤ C) l) placed.2 short in
          let there = open_past_padding C (end_of C e passed) c placed.1 t some
          (All-head (λ (x : Claim). span_of x ≤ C) c placed.1 shorts)
          (subst (λ (l : List Claim). IsOpenIn C (end_of C e passed) l t) placed.2 left) in
          subst (λ (l : List Claim). IsOpenIn C head l t) (sym placed.2)
          (subst (λ (k : ℕ). IsOpenIn C k (c ∷ placed.1) t) (sym placed.3) there)
    ]

-- of a ring with the same capacity and head
open_same : (old new : Ring) (h : List Claim) (t : ClaimAt) → new.capacity ≡ old.capacity → head_of new ≡ head_of old
    → IsOpenIn old.capacity (head_of old) h t → IsOpenIn new.capacity (head_of new) h t
open_same old new h t c e at =
    let there : IsOpenIn old.capacity (head_of new) h t = subst (λ (k : ℕ). IsOpenIn old.capacity k h t) (sym e) at in
    subst (λ (k : ℕ). IsOpenIn k (head_of new) h t) (sym c) there

-- a claim is appended: the others stay open
pub appended_keeps : (old new : Ring) (c : Claim) → AppendsClaim old c new → (t : ClaimAt) → IsOpen old t → IsOpen new t
appended_keeps old new c a t o = record {
  index = o.index ∙ ap (λ n. t.place % n + 8) (sym a.capacity);
  history = o.history ++ c ∷ [];
  has = a.history o.history o.has;
  is_open = open_same old new (o.history ++ c ∷ []) t a.capacity a.head
      (open_append old.capacity (head_of old) o.history (c ∷ []) t o.is_open);
}

-- it is open itself
pub appended_is_open : (old new : Ring) (type_id : ℤ) (len : ℕ) → IsRing old → AppendsClaim old (opened type_id len) new
    → IsOpen new (fresh_claim old type_id len)
appended_is_open old new type_id len ok a =
    let h : List Claim = ok.history.0 in
    let c : Claim = opened type_id len in
    let zeros : List ℕ = replicate len 0 in
    let size : length zeros ≡ len = length-replicate len 0 in
    let t : ClaimAt = fresh_claim old type_id len in
    let there : next_place old.capacity (end_of old.capacity (head_of old) h) (span_of c) ≡ t.place =
    λ i. next_place old.capacity (ok.history.1.ends i) (span (size i)) in
    let it : IsOpenClaim old.capacity (end_of old.capacity (head_of old) h) c t =
    record { at_place = there; is_open = refl; type_id = refl; len = size } in
    record {
      index = ap (λ n. t.place % n + 8) (sym a.capacity);
      history = h ++ c ∷ [];
      has = a.history h ok.history.1;
      is_open =
          open_same old new (h ++ c ∷ []) t a.capacity a.head (open_behind old.capacity (head_of old) h c [] t it);
    }

-- and is at a place of its own
pub appended_apart : (old : Ring) (type_id : ℤ) (len : ℕ) (t : ClaimAt) → IsOpen old t
    → t.place ≢ (fresh_claim old type_id len).place
appended_apart old type_id len t o e =
    let w = open_within old.capacity (head_of old) o.history t o.is_open in
    omega (arith, w.1, o.has.ends, next_le old.capacity (tail_of old) (span len), span_bounds t.len, e)
