-- Remainders by the capacity.
use Rattle.std.proofs.Common.{◌≡◌, ℕ, ◌+◌, ◌-◌, ◌*◌, ◌/◌, ◌%◌, ◌<◌, ◌≤◌, ap, sym, ◌∙◌, arith, ◌⊎◌, inl, inr}
use Rattle.std.proofs.lemmas.Nat.{mod-mul-add, div-add-mod', mod_below, Gcd.dvd_of_mod-eq-zero}
use Rattle.std.proofs.{Math.Nat.mod-mod_of_dvd, Math.Nat.add-mod_right, Math.Nat.mul-mod_left, lemmas.Bool.cases_lt}

-- a step that does not reach the next_place multiple of c
pub mod_step : (c p d : ℕ) → p % c + d < c → (p + d) % c ≡ p % c + d
mod_step c p d h =
    let split : p + d ≡ p / c * c + (p % c + d) = omega (arith, div-add-mod' p c) in
    ap (λ n. n % c) split ∙ mod-mul-add (p / c) c (p % c + d) h

-- a step to the next_place multiple of c
pub mod_room : (c p : ℕ) → 0 < c → (p + (c - p % c)) % c ≡ 0
mod_room c p h =
    let below = mod_below p c h in
    let split : p + (c - p % c) ≡ p / c * c + c = omega (arith, div-add-mod' p c) in
    ap (λ n. n % c) split ∙ add-mod_right (p / c * c) c ∙ mul-mod_left (p / c) c

-- a multiple of 8 stays one
pub mod_aligned : (c p : ℕ) → c % 8 ≡ 0 → p % 8 ≡ 0 → p % c % 8 ≡ 0
mod_aligned c p h k = mod-mod_of_dvd 8 {b = c} p (dvd_of_mod-eq-zero 8 {n = c} h) ∙ k

-- two positions of a window of c bytes with one remainder are one
pub same_place : (c p q : ℕ) → 0 < c → p % c ≡ q % c → p ≤ q → q < p + c → p ≡ q
same_place c p q pos e le lt =
    elim (cases_lt (p % c + (q - p)) c) as (λ _. p ≡ q) [
      | inl h ↦
          let step = mod_step c p (q - p) h in
          let whole : p + (q - p) ≡ q = omega arith in
          let same : q % c ≡ p % c + (q - p) = ap (λ n. n % c) (sym whole) ∙ step in
          omega arith
      | inr h ↦
          let below = mod_below p c pos in
          let split : q ≡ (p + (c - p % c)) + (p % c + (q - p) - c) = omega arith in
          let zero_there = mod_room c p pos in
          let step = mod_step c (p + (c - p % c)) (p % c + (q - p) - c) (omega arith) in
          let same : q % c ≡ p % c + (q - p) - c = ap (λ n. n % c) split ∙ step ∙ omega arith in
          omega arith
    ]

-- a lap of a buffer has some bytes, whole words
pub record IsLap (c : ℕ) : Type 0 where
  pub some : 0 < c
  pub whole : c % 8 ≡ 0

-- a word is at p, less than a lap after base
pub record IsInLap (c base p : ℕ) : Type 0 where
  pub whole : p % 8 ≡ 0
  pub from : base ≤ p
  pub below : p < base + c

-- n bytes from place on are whole words that do not cross the end of the buffer, and end less than a lap after base
pub record LieInLap (c base place n : ℕ) : Type 0 where
  pub whole : place % 8 ≡ 0
  pub words : n % 8 ≡ 0
  pub within : place % c + n ≤ c
  pub from : base ≤ place
  pub to : place + n ≤ base + c

-- the index of a word: words of one lap at one index are one
pub same_index : (c p q : ℕ) → IsLap c → p % 8 ≡ 0 → IsInLap c p q → p % c / 8 ≡ q % c / 8 → p ≡ q
same_index c p q lap p8 at e =
    let pm = mod_aligned c p lap.whole p8 in
    let qm = mod_aligned c q lap.whole at.whole in
    same_place c p q lap.some (omega arith) at.from at.below

-- so two words of a lap have two indices
pub apart : (c base p q : ℕ) → IsLap c → IsInLap c base p → IsInLap c base q → p % c / 8 ≡ q % c / 8 → p ≡ q
apart c base p q lap at there e =
    elim (cases_lt q p) as (λ _. p ≡ q) [
      | inl h ↦ sym (same_index c q p lap there.whole
          (record { whole = at.whole; from = omega arith; below = omega (arith, at.below, there.from) }) (sym e))
      | inr h ↦ same_index c p q lap at.whole
          (record { whole = there.whole; from = h; below = omega (arith, there.below, at.from) }) e
    ]

-- the index of a word of a record
pub index_step : (c place k : ℕ) → c % 8 ≡ 0 → place % 8 ≡ 0 → place % c + 8 * k < c
    → (place + 8 * k) % c / 8 ≡ place % c / 8 + k
index_step c place k c8 p8 h =
    let step = mod_step c place (8 * k) h in
    let m8 = mod_aligned c place c8 p8 in
    omega arith

-- a word outside a record has its index outside the record's
pub index_outside : (c base place n p : ℕ) → IsLap c → LieInLap c base place n → IsInLap c base p
    → (p < place) ⊎ (place + n ≤ p) → (p % c / 8 < place % c / 8) ⊎ (place % c / 8 + n / 8 ≤ p % c / 8)
index_outside c base place n p lap lies there out =
    let i : ℕ = p % c / 8 in
    let at : ℕ = place % c / 8 in
    let within = lies.within in
    elim (cases_lt i at) as (λ _. (i < at) ⊎ (at + n / 8 ≤ i)) [
      | inl h ↦ inl h
      | inr h ↦ elim (cases_lt i (at + n / 8)) as (λ _. (i < at) ⊎ (at + n / 8 ≤ i)) [
        | inl k ↦
            let step = index_step c place (i - at) lap.whole lies.whole (omega arith) in
            let inside : IsInLap c base (place + 8 * (i - at)) = record {
              whole = omega (arith, lies.whole);
              from = omega (arith, lies.from);
              below = omega (arith, lies.to, lies.words);
            } in
            let same : p ≡ place + 8 * (i - at) = apart c base p (place + 8 * (i - at)) lap there inside
            (omega arith) in
            elim out as (λ _. (i < at) ⊎ (at + n / 8 ≤ i))
            [ inl o ↦ absurd (omega arith) | inr o ↦ absurd (omega arith) ]
        | inr k ↦ inr k
      ]
    ]
