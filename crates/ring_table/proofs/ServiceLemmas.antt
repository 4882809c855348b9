-- Draws and heartbeats.
use Rattle.std.proofs.Common.{◌≡◌, ℕ, ◌+◌, ◌≤◌, List, [], ◌∷◌, ◌++◌, Bool, cond, eqb, inl, inr, ap, length, length-append, eq-eqb, ne_eqb, lt-ltb, le-ltb, arith}
use Rattle.std.proofs.Math.{Option.some, Logic.dite, Decide.ℕ_discrete, ListN.get_elem?}
use Rattle.std.proofs.lemmas.Bool.{cases_lt}
use Rattle.atomic_table.proofs.Lists.{at_longer}
use Rattle.ring_layout.{specs.Lists.total, proofs.Sums.total-append}
use Rattle.ring_table.specs.Services.{Service, times, times_drawn, once_below, AreRisingBelow, NeverGoBack, AreServed}
use Rattle.ring_table.specs.Views.{ProducerView, with_draw}

-- ---- draws

pub rising_more : (low n m : ℕ) (xs : List ℕ) → n ≤ m → AreRisingBelow low n xs → AreRisingBelow low m xs
rising_more low n m [] le h = omega arith
rising_more low n m (x ∷ xs) le h = (h.0, rising_more (x + 1) n m xs le h.1)

pub rising_append : (low n : ℕ) (xs : List ℕ) → AreRisingBelow low n xs → AreRisingBelow low (n + 1) (xs ++ n ∷ [])
rising_append low n [] h = (h, omega arith)
rising_append low n (x ∷ xs) h = (h.0, rising_append (x + 1) n xs h.1)

-- one more of the number n after those below n
once_below-more : (x n : ℕ) → once_below x (n + 1) ≡ once_below x n + cond (eqb n x) 1 0
once_below-more x n =
    let is : ℕ = once_below x (n + 1) in
    let was : ℕ = once_below x n in
    let one : ℕ = cond (eqb n x) 1 0 in
    let count = λ (b : Bool). let m : ℕ = cond b 1 0 in m in
    dite (ℕ_discrete n x)
    (λ e.
    let is_1 : is ≡ 1 = ap count (lt-ltb x (n + 1) (omega arith)) in
    let was_0 : was ≡ 0 = ap count (le-ltb x n (omega arith)) in
    let one_1 : one ≡ 1 = ap count (eq-eqb n x e) in
    let done : is ≡ was + one = omega arith in
    done)
    (λ ne.
    let one_0 : one ≡ 0 = ap count (ne_eqb n x ne) in
    elim (cases_lt x n) as (λ _. is ≡ was + one) [
      | inl below ↦
          let is_1 : is ≡ 1 = ap count (lt-ltb x (n + 1) (omega arith)) in
          let was_1 : was ≡ 1 = ap count (lt-ltb x n below) in
          omega arith
      | inr above ↦
          let is_0 : is ≡ 0 = ap count (le-ltb x (n + 1) (omega arith)) in
          let was_0 : was ≡ 0 = ap count (le-ltb x n above) in
          omega arith
    ])

pub times_drawn-more : (x n : ℕ) (p : ProducerView)
    → times_drawn x (with_draw n p) + once_below x n ≡ times_drawn x p + once_below x (n + 1)
times_drawn-more x n p =
    let rest : ℕ = total (λ (s : Service). times x s.draws) p.joined in
    let old : ℕ = times x p.service.draws in
    let one : ℕ = cond (eqb n x) 1 0 in
    let new : ℕ = times x (p.service.draws ++ n ∷ []) in
    let new_is : new ≡ old + (one + 0) = total-append (λ y. cond (eqb y x) 1 0) p.service.draws (n ∷ []) in
    let was : ℕ = once_below x n in
    let is : ℕ = once_below x (n + 1) in
    let step : is ≡ was + one = once_below-more x n in
    let done : new + rest + was ≡ old + rest + is = omega arith in
    done

-- ---- heartbeats

pub heartbeats_append : (low : ℕ) (stored : List ℕ) (xs : List (ℕ × ℕ)) (value : ℕ)
    → get_elem? (0 ∷ stored) (length stored) ≡ some value → NeverGoBack low stored xs
    → NeverGoBack low stored (xs ++ (length stored, value) ∷ [])
heartbeats_append low stored [] value last h = (h, last, omega arith)
heartbeats_append low stored (x ∷ xs) value last h = (h.0, h.1, heartbeats_append x.0 stored xs value last h.2)

pub heartbeats_more : (low : ℕ) (stored : List ℕ) (value : ℕ) (xs : List (ℕ × ℕ)) → NeverGoBack low stored xs
    → NeverGoBack low (stored ++ value ∷ []) xs
heartbeats_more low stored value [] h = omega (arith, length-append {A = ℕ} stored (value ∷ []))
heartbeats_more low stored value (x ∷ xs) h =
    (h.0, at_longer (0 ∷ stored) (value ∷ []) x.0 x.1 h.1, heartbeats_more x.0 stored value xs h.2)

-- ---- both

pub served_draw_more : (n : ℕ) (stored : List ℕ) (ss : List Service) → AreServed n stored ss
    → AreServed (n + 1) stored ss
served_draw_more n stored [] h = tt
served_draw_more n stored (s ∷ ss) h = (
  record { draws = rising_more 0 n (n + 1) s.draws (omega arith) h.0.draws; heartbeats = h.0.heartbeats },
  served_draw_more n stored ss h.1,
)

pub served_heartbeat_more : (n : ℕ) (stored : List ℕ) (value : ℕ) (ss : List Service) → AreServed n stored ss
    → AreServed n (stored ++ value ∷ []) ss
served_heartbeat_more n stored value [] h = tt
served_heartbeat_more n stored value (s ∷ ss) h = (
  record { draws = h.0.draws; heartbeats = heartbeats_more 0 stored value s.heartbeats h.0.heartbeats },
  served_heartbeat_more n stored value ss h.1,
)

pub served_append : (n : ℕ) (stored : List ℕ) (ss ts : List Service) → AreServed n stored ss → AreServed n stored ts
    → AreServed n stored (ss ++ ts)
served_append n stored [] ts h g = g
served_append n stored (s ∷ ss) ts h g = (h.0, served_append n stored ss ts h.1 g)
