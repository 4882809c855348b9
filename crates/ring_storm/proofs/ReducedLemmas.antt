-- Numbers drawn, modulo 2^64: numbers below it are the same.
use Rattle.std.proofs.Common.{◌≡◌, ℕ, ◌<◌, ◌≤◌, ◌%◌, ◌^◌, List, [], ◌∷◌, ◌++◌, refl, ap, arith}
use Rattle.ring_layout.specs.Lists.{total}
use Rattle.ring_table.specs.{declared.view.Service.Service, Services.times}
use Rattle.ring_service.{specs.Asking.drawn_in, proofs.DrawLemmas.same_one}

abbrev pub reduced : List ℕ → List ℕ
reduced [] = []
reduced (d ∷ ds) = d % 2 ^ 64 ∷ reduced ds

pub reduced-append : (a b : List ℕ) → reduced (a ++ b) ≡ reduced a ++ reduced b
reduced-append [] b = refl
reduced-append (d ∷ a) b = ap (λ l. d % 2 ^ 64 ∷ l) (reduced-append a b)

same_reduced : (ds : List ℕ) → ((x : ℕ) → 1 ≤ times x ds → x < 2 ^ 64) → reduced ds ≡ ds
same_reduced [] low = refl
same_reduced (d ∷ ds) low =
    let mine = same_one d d refl in
    let small : d < 2 ^ 64 = low d (omega arith) in
    let same : d % 2 ^ 64 ≡ d = omega arith in
    let rest = same_reduced ds (λ x h. low x (omega arith)) in
    (λ i. same i ∷ rest i)

-- the same of each service
abbrev pub drawn_reduced : ℕ → List Service → ℕ
drawn_reduced x services = total (λ (s : Service). times x (reduced s.draws)) services

pub none_reduced : (ss : List Service) → ((x : ℕ) → 1 ≤ drawn_in x ss → x < 2 ^ 64) → (x : ℕ)
    → drawn_reduced x ss ≡ drawn_in x ss
none_reduced [] low x = refl
none_reduced (s ∷ ss) low x =
    let here = ap (times x) (same_reduced s.draws (λ y h. low y (omega arith))) in
    let rest = none_reduced ss (λ y h. low y (omega arith)) x in
    omega arith
