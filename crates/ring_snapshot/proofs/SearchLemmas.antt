-- The steps of the tests whether words look like those of a ring or a broadcast buffer.
use Rattle.std.specs.Iterator.{YieldsFirst}
use Rattle.std.proofs.Common.{◌≡◌, ◌≢◌, ℕ, zero, suc, ◌+◌, ◌<◌, List, [], ◌∷◌, slice_index, refl, ap, sym, subst, ◌∙◌, arith, eq-eqb, true, false, ◌&&◌, Result, Ok, Err, IsOk, Option, Some, None, is_none, ne_eqb}
use Rattle.ring_layout.specs.Refusals.{IsRefusedBy}
use Rattle.ring_snapshot.specs.Search.{all_ok, are_zero}

-- ---- words that are 0

pub zero_goes : (words : List ℕ) (n m i j : ℕ) → n ≡ m + 1 → j ≡ i + 1 → slice_index words i ≡ 0
    → are_zero words n i ≡ are_zero words m j
zero_goes words zero m i j en ej e = absurd (omega (arith, en))
zero_goes words (suc n) m i j en ej e =
    ap (λ b. b && are_zero words n (i + 1)) (eq-eqb _ _ e)
    ∙ ap (λ k. are_zero words k (i + 1)) (let h : n ≡ m = omega (arith, en) in h)
    ∙ ap (are_zero words m) (sym ej)

pub zero_fails : (words : List ℕ) (n i : ℕ) → 0 < n → slice_index words i ≢ 0 → are_zero words n i ≡ false
zero_fails words zero i some ne = absurd (omega (arith, some))
zero_fails words (suc n) i some ne = ap (λ b. b && are_zero words n (i + 1)) (ne_eqb _ _ ne)

-- ---- entries that an iterator yields

pub yielded_ok : {S R F : Type 0} (rest : S → List (Result R F)) (s t : S) (next : Option (Result R F))
    (x : Result R F) {r : R} → next ≡ Some x → YieldsFirst rest s next t → x ≡ Ok r
    → all_ok (rest s) ≡ all_ok (rest t)
yielded_ok rest s t next x {r} some steps is =
    let here : rest s ≡ Ok r ∷ rest t = subst (λ y. YieldsFirst rest s y t) (some ∙ ap (λ z. Some z) is) steps in
    ap all_ok here

pub yielded_err : {S R F : Type 0} (rest : S → List (Result R F)) (s t : S) (next : Option (Result R F))
    (x : Result R F) {f : F} → next ≡ Some x → YieldsFirst rest s next t → x ≡ Err f → all_ok (rest s) ≡ false
yielded_err rest s t next x {f} some steps is =
    let here : rest s ≡ Err f ∷ rest t = subst (λ y. YieldsFirst rest s y t) (some ∙ ap (λ z. Some z) is) steps in
    ap all_ok here

pub yielded_none : {S R F : Type 0} (rest : S → List (Result R F)) (s t : S) (next : Option (Result R F))
    → next ≡ None → YieldsFirst rest s next t → all_ok (rest s) ≡ true
yielded_none rest s t next none steps =
    let here : (rest s ≡ []) × (rest t ≡ []) = subst (λ y. YieldsFirst rest s y t) none steps in
    ap all_ok here.0

-- ---- what a result says of a refusal

pub not_refused : {T F : Type 0} (refusal : Option F) (result : Result T F) {x : T} → IsRefusedBy refusal result
    → result ≡ Ok x → is_none refusal ≡ true
not_refused None result refused is = refl
not_refused (Some f) result {x} refused is = let clash : Err f ≡ Ok x = sym refused ∙ is in absurd cc

pub is_refused : {T F : Type 0} (refusal : Option F) (result : Result T F) {f : F} → IsRefusedBy refusal result
    → result ≡ Err f → is_none refusal ≡ false
is_refused None result {f} refused is = let clash : false ≡ true = subst (λ r. IsOk r) is refused in absurd cc
is_refused (Some g) result refused is = refl
