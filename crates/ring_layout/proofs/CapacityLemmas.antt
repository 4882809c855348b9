-- Valid capacities: multiples of 128, the test for them, and masks.
use Rattle.std.proofs.Common.{◌≡◌, ℕ, ◌+◌, ◌-◌, ◌*◌, ◌/◌, ◌%◌, ◌^◌, ◌<◌, ◌&&◌, nat_le, true, zero, suc, ap, sym, ◌∙◌, arith, inl, inr, IsTrue, bit_and, pow-add, div-add-mod', eqb-true, le-leb}
use Rattle.std.specs.Int.{is_power_of_two, IsPowerOfTwo, RustNames.count_ones}
use Rattle.std.proofs.lemmas.Nat.{and_mask, ones_cat, zero_from_ones, mod_below}
use Rattle.std.proofs.lemmas.Bool.{cases_eq, and_from}
use Rattle.ring_layout.specs.Places.{is_capacity, IsCapacity}

pub capacity_blocks : (c : ℕ) → IsCapacity c → c % 128 ≡ 0
unfolding count_ones
capacity_blocks c h =
    let one : count_ones c ≡ 1 = eqb-true (count_ones c) 1 h.power in
    let split = div-add-mod' c 128 in
    let parts = ones_cat 7 (c / 128) (c % 128) (mod_below c 128 (omega arith)) in
    let sum : count_ones (c / 128) + count_ones (c % 128) ≡ 1 = sym parts ∙ ap count_ones split ∙ one in
    elim (cases_eq (count_ones (c % 128)) 0) as (λ _. c % 128 ≡ 0) [
      | inl z ↦ zero_from_ones (c % 128) z
      | inr n ↦
          let high : c / 128 ≡ 0 = zero_from_ones (c / 128) (omega arith) in
          absurd (omega (arith, h.least))
    ]

pub lawful_test : (C : ℕ) → IsCapacity C → is_capacity C ≡ true
lawful_test C h =
    and_from (is_power_of_two C && nat_le 128 C) (nat_le C (2 ^ 24))
    (and_from (is_power_of_two C) (nat_le 128 C) h.power (le-leb 128 C h.least)) (le-leb C (2 ^ 24) h.most)

-- one bit makes a power of two
pub power_below : (n C : ℕ) → C < 2 ^ n → count_ones C ≡ 1 → IsPowerOfTwo C
unfolding count_ones
power_below zero C lt one = let none : C ≡ 0 = omega arith in absurd (omega (arith, sym (ap count_ones none) ∙ one))
power_below (suc n) C lt one =
    let two : 2 ^ (1 + n) ≡ 2 * 2 ^ n = pow-add 2 1 n in
    let parts = ones_cat 1 (C / 2) (C % 2) (mod_below C 2 (omega arith)) in
    let sum : count_ones (C / 2) + count_ones (C % 2) ≡ 1 = sym parts ∙ ap count_ones (div-add-mod' C 2) ∙ one in
    elim (cases_eq (C % 2) 0) as (λ _. IsPowerOfTwo C) [
      | inl even ↦
          let low : count_ones (C % 2) ≡ 0 = ap count_ones even in
          let half = power_below n (C / 2) (omega arith) (omega arith) in
          let next : 2 ^ (1 + half.0) ≡ 2 * 2 ^ half.0 = pow-add 2 1 half.0 in
          (1 + half.0, omega (arith, half.1, next))
      | inr odd ↦
          let bit : C % 2 ≡ 1 = omega arith in
          let low : count_ones (C % 2) ≡ 1 = ap count_ones bit in
          let high : C / 2 ≡ 0 = zero_from_ones (C / 2) (omega arith) in
          (0, omega arith)
    ]

-- the mask of a capacity gives the remainder
pub mask_is_mod : (C p : ℕ) → C < 2 ^ 32 → IsTrue (is_power_of_two C) → bit_and p (C - 1) ≡ p % C
mask_is_mod C p lt h =
    let power = power_below 32 C lt (eqb-true (count_ones C) 1 h) in
    ap (λ n. bit_and p (n - 1)) power.1 ∙ and_mask p power.0 ∙ sym (ap (λ n. p % n) power.1)
