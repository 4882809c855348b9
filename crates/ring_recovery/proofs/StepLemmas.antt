-- The steps by which headers are tested and messages are found.
use Rattle.std.proofs.Common.{◌≡◌, ℕ, suc, ◌+◌, ◌-◌, ◌/◌, ◌%◌, ◌<◌, Bool, true, false, List, ◌∷◌, length, refl, sym, ap, ◌∙◌, subst, arith, eq-eqb, ne_eqb, Option, Some, None, Result, Ok, Err, if◌then◌else◌, IsOk}
use Rattle.std.proofs.{Math.Logic.dite, Math.Decide.ℕ_discrete, lemmas.Bool.cond-true, lemmas.Bool.cond-false}
use Rattle.ring_layout.specs.{Places.rounded, Lists.or_else, Refusals.IsRefusedBy}
use Rattle.ring_snapshot.specs.RingRecords.{positions_finding}
use Rattle.ring_snapshot.specs.declared.ring_finding.RingFinding.{RingFinding, TheVariants.BadBodies}
use Rattle.ring_recovery.specs.Headers.{all_headers, bytes_in, finding_of, found_at, head_of, header_finding, headers_between, headers_finding, headers_in, is_committed, message_at, messages_of, new_walk, tail_of}
use Rattle.ring_recovery.specs.declared.{mark.Found.Found, mark.Walk.Walk, message.RecoveredMessage.RecoveredMessage}

-- ---- the next position

module _ (found : Walk → ℕ → Found) (v : Walk) (n m p q : ℕ) (f : Found) (en : n ≡ m + 1) (eq : q ≡ p + 8)
    (is : found v p ≡ f) where
  header_is : (found v p).header ≡ f.header
  header_is = ap (λ (x : Found). x.header) is

  more : n ≡ suc m
  more = omega (arith, en)

  pub passes_zero : f.header ≡ 0 → headers_in found n v p ≡ headers_in found m f.walk q
  passes_zero none =
      ap (λ k. headers_in found k v p) more
      ∙ cond-true _ _ _ (eq-eqb (found v p).header 0 (header_is ∙ none))
      ∙ (λ i. headers_in found m (is i).walk (sym eq i))

  pub finds_header : (f.header ≡ 0 → ⊥) → headers_in found n v p ≡ (p, f.header) ∷ headers_in found m f.walk q
  finds_header some =
      ap (λ k. headers_in found k v p) more
      ∙ cond-false _ _ _ (ne_eqb (found v p).header 0 (λ z. some (sym header_is ∙ z)))
      ∙ (λ i. (p, (is i).header) ∷ headers_in found m (is i).walk (sym eq i))

-- ---- a finding

pub none_if_ok : {T F : Type 0} (x : Option F) (r : Result T F) (v : T) → r ≡ Ok v → IsRefusedBy x r → x ≡ None
none_if_ok None r v is refused = refl
none_if_ok (Some f) r v is refused = let clash : Err f ≡ Ok v = sym refused ∙ is in absurd cc

pub some_if_err : {T F : Type 0} (x : Option F) (r : Result T F) (f : F) → r ≡ Err f → IsRefusedBy x r → x ≡ Some f
some_if_err None r f is refused = let clash : false ≡ true = subst (λ s. IsOk s) is refused in absurd cc
some_if_err (Some g) r f is refused = let same : Err g ≡ Err f = sym refused ∙ is in cc

pub refused_by : {T F : Type 0} (x : Option F) (r : Result T F) (f : F) → x ≡ Some f → r ≡ Err f → IsRefusedBy x r
refused_by x r f some is = subst (λ y. IsRefusedBy y r) (sym some) is

pub not_refused_by : {T F : Type 0} (x : Option F) (v : T) → x ≡ None → IsRefusedBy {T = T} {F = F} x (Ok v)
not_refused_by {T} {F} x v none = subst (λ y. IsRefusedBy {T = T} {F = F} y (Ok v)) (sym none) refl

module _ (C tail end p w : ℕ) (hs : List (ℕ × ℕ)) (r : Result ℕ RingFinding)
    (refused : IsRefusedBy (header_finding C tail end p w) r) where
  pub goes_on : (e : ℕ) → r ≡ Ok e → e ≡ p + rounded (bytes_in w)
      → headers_finding C tail end ((p, w) ∷ hs) ≡ headers_finding C tail e hs
  goes_on e ok is =
      ap (λ x. or_else x (headers_finding C tail (p + rounded (bytes_in w)) hs))
      (none_if_ok (header_finding C tail end p w) r e ok refused)
      ∙ ap (λ k. headers_finding C tail k hs) (sym is)

  pub stops : (f : RingFinding) → r ≡ Err f → headers_finding C tail end ((p, w) ∷ hs) ≡ Some f
  stops f err =
      ap (λ x. or_else x (headers_finding C tail (p + rounded (bytes_in w)) hs))
      (some_if_err (header_finding C tail end p w) r f err refused)

-- ---- a message

one_more : {A : Type 0} (b : Bool) (x m : A) (xs : List A) → Some m ≡ (if b then Some x else None)
    → (if b then x ∷ xs else xs) ≡ m ∷ xs
one_more true x m xs e = cc
one_more false x m xs e = absurd cc

no_more : {A : Type 0} (b : Bool) (x : A) (xs : List A) → None ≡ (if b then Some x else None)
    → (if b then x ∷ xs else xs) ≡ xs
no_more true x xs e = absurd cc
no_more false x xs e = refl

module _ (C tail at : ℕ) (words slots : List ℕ) (v : Walk) (aligned : (at % 8 ≡ 0) × (tail % 8 ≡ 0))
    (before : at < tail) (o : Option RecoveredMessage) (f : Found) (there_is : f ≡ found_at C words slots v at)
    (is : o ≡ (if is_committed C tail at f.header then Some (message_at C slots at f.header) else None)) where
  less : (tail - at) / 8 ≡ (tail - (at + 8)) / 8 + 1
  less = omega (arith, aligned.0, aligned.1, before)

  at_zero : f.header ≡ 0 → o ≡ None
  at_zero none = is ∙ ap (λ w. if is_committed C tail at w then Some (message_at C slots at w) else None) none

  abbrev rest : List (ℕ × ℕ)
  rest = headers_between C words slots f.walk (at + 8) tail

  passed : f.header ≡ 0 → headers_between C words slots v at tail ≡ rest
  passed = passes_zero (found_at C words slots) v ((tail - at) / 8) ((tail - (at + 8)) / 8) at (at + 8) f less refl
      (sym there_is)

  found : (f.header ≡ 0 → ⊥) → headers_between C words slots v at tail ≡ (at, f.header) ∷ rest
  found = finds_header (found_at C words slots) v ((tail - at) / 8) ((tail - (at + 8)) / 8) at (at + 8) f less refl
      (sym there_is)

  pub finds_message : (m : RecoveredMessage) → o ≡ Some m
      → messages_of C slots tail (headers_between C words slots v at tail) ≡ m ∷ messages_of C slots tail rest
  finds_message m some = dite (ℕ_discrete f.header 0)
      (λ none. let clash : None ≡ Some m = sym (at_zero none) ∙ some in absurd cc)
      (λ there. ap (messages_of C slots tail) (found there)
      ∙ one_more (is_committed C tail at f.header) (message_at C slots at f.header) m (messages_of C slots tail rest)
      (sym some ∙ is))

  pub finds_none : o ≡ None
      → messages_of C slots tail (headers_between C words slots v at tail) ≡ messages_of C slots tail rest
  finds_none none = dite (ℕ_discrete f.header 0) (λ zero. ap (messages_of C slots tail) (passed zero))
      (λ there. ap (messages_of C slots tail) (found there)
      ∙ no_more (is_committed C tail at f.header) (message_at C slots at f.header) (messages_of C slots tail rest)
      (sym none ∙ is))

-- ---- the finding about the whole

pub finding_is : (C h t : ℕ) (words slots : List ℕ) (x : Option RingFinding) → length slots ≡ C / 8
    → h ≡ head_of C words → t ≡ tail_of C words → positions_finding C h t ≡ None
    → headers_finding C t h (headers_between C words slots new_walk h t) ≡ x → finding_of C words slots ≡ x
finding_is C h t words slots x wide head tail positions headers =
    ap (λ y. or_else y (or_else (positions_finding C (head_of C words) (tail_of C words))
    (headers_finding C (tail_of C words) (head_of C words) (all_headers C words slots))))
    (cond-true _ None (Some (BadBodies (length slots))) (eq-eqb (length slots) (C / 8) wide))
    ∙ (λ i. or_else (positions_finding C (sym head i) (sym tail i))
    (headers_finding C (sym tail i) (sym head i) (headers_between C words slots new_walk (sym head i) (sym tail i))))
    ∙ ap (λ y. or_else y (headers_finding C t h (headers_between C words slots new_walk h t))) positions
    ∙ headers
