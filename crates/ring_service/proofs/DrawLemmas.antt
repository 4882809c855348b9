-- Numbers drawn: if each below some number was drawn once, there were that many draws.
use Rattle.std.proofs.Common.{◌≡◌, ◌∙◌, ◌⊎◌, ℕ, zero, suc, ◌+◌, ◌<◌, ◌≤◌, ◌==◌, Bool, true, false, cond, if◌then◌else◌, List, [], ◌∷◌, length, inl, inr, refl, sym, ap, arith, nat_lt, eq-eqb, lt-ltb, ltb-true, ne_eqb}
use Rattle.std.proofs.lemmas.Bool.{cases_eq}
use Rattle.ring_table.specs.{declared.view.Service.Service, Services.once_below, Services.times}
use Rattle.ring_layout.specs.Lists.{total}
use Rattle.ring_service.specs.Asking.{drawn_in}

-- the number of draws
abbrev pub draws_in : List Service → ℕ
draws_in services = total (λ (s : Service). length s.draws) services

-- 1 if the two are the same
abbrev pub is_same : ℕ → ℕ → ℕ
is_same d x = if d == x then 1 else 0

pub same_one : (d x : ℕ) → d ≡ x → is_same d x ≡ 1
same_one d x e = ap (λ b. cond b 1 0) (eq-eqb d x e)

not_same : (d x : ℕ) → (d ≡ x → ⊥) → is_same d x ≡ 0
not_same d x e = ap (λ b. cond b 1 0) (ne_eqb d x e)

-- Sums over the numbers below another --------------------------------------------

abbrev sum_below : (ℕ → ℕ) → ℕ → ℕ
sum_below f zero = 0
sum_below f (suc n) = sum_below f n + f n

sum_nothing : (n : ℕ) → sum_below (λ x. 0) n ≡ 0
sum_nothing zero = refl
sum_nothing (suc n) = let rest = sum_nothing n in omega arith

sum_both : (f g : ℕ → ℕ) (n : ℕ) → sum_below (λ x. f x + g x) n ≡ sum_below f n + sum_below g n
sum_both f g zero = refl
sum_both f g (suc n) = let rest = sum_both f g n in omega arith

sum_above : (d n : ℕ) → n ≤ d → sum_below (is_same d) n ≡ 0
sum_above d zero le = refl
sum_above d (suc n) le =
    let rest = sum_above d n (omega arith) in
    let here = not_same d n (λ e. omega arith) in
    omega arith

sum_one : (d n : ℕ) → d < n → sum_below (is_same d) n ≡ 1
sum_one d zero less = absurd (omega arith)
sum_one d (suc n) less = by (cases_eq d n) (sum_one d n)
  where
    by : (d ≡ n) ⊎ (d ≡ n → ⊥) → (d < n → sum_below (is_same d) n ≡ 1) → sum_below (is_same d) n + is_same d n ≡ 1
    by (inl e) h =
        let rest = sum_above d n (omega arith) in
        let here = same_one d n e in
        omega arith
    by (inr e) h =
        let below : d < n = omega arith in
        let rest = h below in
        let here = not_same d n e in
        omega arith

-- if all draws are below n, those of each number below n are all
sum_times : (n : ℕ) (ds : List ℕ) → ((x : ℕ) → 1 ≤ times x ds → x < n) → sum_below (λ x. times x ds) n ≡ length ds
sum_times n [] low = sum_nothing n
sum_times n (d ∷ ds) low =
    let mine = same_one d d refl in
    let here = sum_one d n (low d (omega arith)) in
    let rest = sum_times n ds (λ x h. low x (omega arith)) in
    sum_both (is_same d) (λ x. times x ds) n ∙ (omega arith)

sum_drawn : (n : ℕ) (ss : List Service) → ((x : ℕ) → 1 ≤ drawn_in x ss → x < n)
    → sum_below (λ x. drawn_in x ss) n ≡ draws_in ss
sum_drawn n [] low = sum_nothing n
sum_drawn n (s ∷ ss) low =
    let here = sum_times n s.draws (λ x h. low x (omega arith)) in
    let rest = sum_drawn n ss (λ x h. low x (omega arith)) in
    sum_both (λ x. times x s.draws) (λ x. drawn_in x ss) n ∙ (omega arith)

sum_once : (n m : ℕ) (f : ℕ → ℕ) → m ≤ n → ((x : ℕ) → f x ≡ once_below x n) → sum_below f m ≡ m
sum_once n zero f le once = refl
sum_once n (suc m) f le once =
    let rest = sum_once n m f (omega arith) once in
    let here : f m ≡ 1 = once m ∙ ap (λ b. cond b 1 0) (lt-ltb m n (omega arith)) in
    omega arith

-- Each once ------------------------------------------------------------------------

pub one_at_most : (x n : ℕ) → once_below x n ≤ 1
one_at_most x n = by (nat_lt x n)
  where
    by : (b : Bool) → cond b 1 0 ≤ 1
    by true = omega arith
    by false = omega arith

below : (x n : ℕ) → 1 ≤ once_below x n → x < n
below x n = by (nat_lt x n) (ltb-true x n)
  where
    by : (b : Bool) → (b ≡ true → x < n) → 1 ≤ cond b 1 0 → x < n
    by true e h = e refl
    by false e h = absurd (omega arith)

module _ (n : ℕ) (ss : List Service) (once : (x : ℕ) → drawn_in x ss ≡ once_below x n) where
  pub drawn_below : (x : ℕ) → 1 ≤ drawn_in x ss → x < n
  drawn_below x h = let same = once x in below x n (omega arith)

  -- the number of draws is n
  pub all_drawn : n ≡ draws_in ss
  all_drawn = sym (sum_once n n (λ x. drawn_in x ss) (omega arith) once) ∙ sum_drawn n ss drawn_below
