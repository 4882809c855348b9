-- Where claims are placed.
use Rattle.std.proofs.Common.{◌≡◌, ℕ, ◌+◌, ◌-◌, ◌%◌, ◌<◌, ◌≤◌, List, [], ◌∷◌, ◌++◌, refl, ap, sym, ◌∙◌, arith, ◌⊎◌, inl, inr, le-leb}
use Rattle.std.proofs.lemmas.{Nat.mod_below, Bool.cases_lt, Bool.lt-leb, Bool.cond-true, Bool.cond-false}
use Rattle.ring_layout.specs.History.{Claim, span, span_of}
use Rattle.ring_layout.specs.Places.{room, next_place, end_after, end_of}
use Rattle.ring_layout.proofs.Laps.{mod_step, mod_room, mod_aligned}

-- a span stays if it fits, and otherwise goes to the next_place multiple of the capacity
pub next_cases : (c e a : ℕ) → ((a ≤ room c e) × (next_place c e a ≡ e))
    ⊎ ((room c e < a) × (next_place c e a ≡ e + room c e))
next_cases c e a =
    elim (cases_lt (room c e) a) as (λ _. ((a ≤ room c e) × (next_place c e a ≡ e))
    ⊎ ((room c e < a) × (next_place c e a ≡ e + room c e))) [
      | inl h ↦ inr (h, cond-false _ e (e + room c e) (lt-leb a (room c e) h))
      | inr h ↦ inl (h, cond-true _ e (e + room c e) (le-leb a (room c e) h))
    ]

pub next_le : (c e a : ℕ) → e ≤ next_place c e a
next_le c e a = elim (next_cases c e a) as (λ _. e ≤ next_place c e a) [ inl h ↦ omega arith | inr h ↦ omega arith ]

-- a span does not cross the end of the buffer
pub next_within : (c e a : ℕ) → 0 < c → a ≤ c → next_place c e a % c + a ≤ c
next_within c e a pos le =
    let below = mod_below e c pos in
    elim (next_cases c e a) as (λ _. next_place c e a % c + a ≤ c) [
      | inl h ↦ let same : next_place c e a % c ≡ e % c = ap (λ n. n % c) h.1 in omega arith
      | inr h ↦ let same : next_place c e a % c ≡ 0 = ap (λ n. n % c) h.1 ∙ mod_room c e pos in omega arith
    ]

pub next_aligned : (c e a : ℕ) → 0 < c → c % 8 ≡ 0 → e % 8 ≡ 0 → next_place c e a % 8 ≡ 0
next_aligned c e a pos c8 e8 =
    let below = mod_below e c pos in
    let m8 = mod_aligned c e c8 e8 in
    elim (next_cases c e a) as (λ _. next_place c e a % 8 ≡ 0) [ inl h ↦ omega arith | inr h ↦ omega arith ]

-- at its place a span stays
pub next_fixed : (c e a : ℕ) → 0 < c → a ≤ c → next_place c (next_place c e a) a ≡ next_place c e a
next_fixed c e a pos le =
    let within = next_within c e a pos le in
    elim (next_cases c (next_place c e a) a) as (λ _. next_place c (next_place c e a) a ≡ next_place c e a)
    [ inl h ↦ h.1 | inr h ↦ absurd (omega arith) ]

pub span_bounds : (n : ℕ) → (span n % 8 ≡ 0) × (8 + n ≤ span n) × (span n ≤ n + 15)
span_bounds n = (omega arith, omega arith, omega arith)

pub end_of-append : (c e : ℕ) (h g : List Claim) → end_of c e (h ++ g) ≡ end_of c (end_of c e h) g
end_of-append c e [] g = refl
end_of-append c e (x ∷ h) g = end_of-append c (end_after c e (span_of x)) h g

pub end_of_le : (c e : ℕ) (h : List Claim) → e ≤ end_of c e h
end_of_le c e [] = omega arith
end_of_le c e (x ∷ h) = omega (arith, next_le c e (span_of x), end_of_le c (end_after c e (span_of x)) h)

pub end_of_aligned : (c e : ℕ) (h : List Claim) → 0 < c → c % 8 ≡ 0 → e % 8 ≡ 0 → end_of c e h % 8 ≡ 0
end_of_aligned c e [] pos c8 e8 = e8
end_of_aligned c e (x ∷ h) pos c8 e8 =
    end_of_aligned c (end_after c e (span_of x)) h pos c8 (omega (arith, next_aligned c e (span_of x) pos c8 e8))

-- a later span ends no sooner
pub end_after_rises : (c tail later a : ℕ) → 0 < c → tail ≤ later → end_after c tail a ≤ end_after c later a
end_after_rises c tail later a pos le =
    let low = mod_below tail c pos in
    let on = next_le c later a in
    elim (next_cases c tail a) as (λ _. end_after c tail a ≤ end_after c later a) [
      | inl h ↦ omega arith
      | inr h ↦ elim (cases_lt later (tail + room c tail)) as (λ _. end_after c tail a ≤ end_after c later a) [
        | inr far ↦ omega arith
        | inl near ↦
            let whole : tail + (later - tail) ≡ later = omega arith in
            let lap : later % c ≡ tail % c + (later - tail) =
            ap (λ n. n % c) (sym whole) ∙ mod_step c tail (later - tail) (omega arith) in
            elim (next_cases c later a) as (λ _. end_after c tail a ≤ end_after c later a)
            [ inl k ↦ absurd (omega arith) | inr k ↦ omega arith ]
      ]
    ]
