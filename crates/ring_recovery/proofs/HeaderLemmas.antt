-- What a header says that a record has.
use Rattle.std.proofs.Common.{◌≡◌, ℕ, zero, suc, ◌+◌, ◌/◌, ◌%◌, ◌<◌, ◌≤◌, Bool, true, false, refl, sym, ap, ◌∙◌, arith, le-ltb, ℤ, pos, neg_ℤ, nat_abs, ◌≤ℤ◌, FitsSigned, int_lt, not, ◌&&◌, ◌||◌, None, w32}
use Rattle.std.proofs.lemmas.{Bool.cond-true, Bool.cond-false, Int.ints}
use Rattle.ring_layout.specs.{Headers.header, Places.room, Places.rounded}
use Rattle.ring_layout.proofs.HeaderLemmas.{len_of-header, type_of-header}
use Rattle.ring_snapshot.specs.RingRecords.{is_length, length_in, type_in}
use Rattle.ring_recovery.specs.Headers.{bytes_in, header_finding, is_committed, is_open, is_type}

-- the word is the header of a record of this length and this type id, which may be at the position p
pub record IsHeader (C tail p : ℕ) (len type_id : ℤ) (w : ℕ) : Type 0 where
  pub is : w ≡ header len type_id
  pub len_fits : FitsSigned w32 len
  pub type_fits : FitsSigned w32 type_id
  pub some : len ≡ pos 0 → ⊥
  pub inside : is_length C tail p (nat_abs len) ≡ true
  pub typed : is_type len type_id ≡ true

pub length_fits : (C tail at n : ℕ) → 8 ≤ n → n ≤ 8 + C / 8 → rounded n ≤ room C at → at + rounded n ≤ tail
    → is_length C tail at n ≡ true
length_fits C tail at n a b c d = grind (arith, a, b, c, d)

pub abs_neg : (n : ℕ) → nat_abs (neg_ℤ (pos n)) ≡ n
abs_neg zero = refl
abs_neg (suc n) = refl

pub neg_below : (n : ℕ) → 0 < n → int_lt (neg_ℤ (pos n)) (pos 0) ≡ true
neg_below zero h = absurd (omega arith)
neg_below (suc n) h = refl

pub neg_not_above : (n : ℕ) → int_lt (pos 0) (neg_ℤ (pos n)) ≡ false
neg_not_above zero = refl
neg_not_above (suc n) = refl

pub pos_above : (n : ℕ) → 0 < n → int_lt (pos 0) (pos n) ≡ true
pos_above n h = grind (arith, h)

pub not_negative : (n : ℕ) → int_lt (pos n) (pos 0) ≡ false
not_negative n = grind (arith)

-- a message's type id
pub type_above : (z : ℤ) → pos 1 ≤ℤ z → int_lt (pos 0) z ≡ true
type_above z h = grind (arith, ints)

module _ (C tail p : ℕ) (len type_id : ℤ) (w : ℕ) (h : IsHeader C tail p len type_id w) where
  pub len_is : length_in w ≡ len
  len_is = ap length_in h.is ∙ len_of-header len type_id h.len_fits

  pub type_is : type_in w ≡ type_id
  type_is = ap type_in h.is ∙ type_of-header len type_id h.len_fits h.type_fits

  pub not_zero : w ≡ 0 → ⊥
  not_zero z = h.some (sym len_is ∙ ap length_in z)

  pub bytes_are : bytes_in w ≡ nat_abs len
  bytes_are = ap nat_abs len_is

  pub fits : is_length C tail p (bytes_in w) ≡ true
  fits = ap (is_length C tail p) bytes_are ∙ h.inside

  pub no_finding : (end : ℕ) → end ≤ p → header_finding C tail end p w ≡ None
  no_finding end le =
      cond-false _ _ _ (λ i. le-ltb p end le i || not (fits i))
      ∙ cond-true _ _ _ ((λ i. is_type (len_is i) (type_is i)) ∙ h.typed)

  pub committed_is : (b : Bool) → (int_lt (pos 0) len && int_lt (pos 0) type_id) ≡ b
      → is_committed C tail p w ≡ (b && true)
  committed_is b is = λ i. (((λ j. int_lt (pos 0) (len_is j) && int_lt (pos 0) (type_is j)) ∙ is) i) && fits i

  pub open_is : is_open w ≡ int_lt len (pos 0)
  open_is = ap (λ z. int_lt z (pos 0)) len_is

-- a record that is inside the buffer ends at or below the end of the buffer
pub ends_inside : (C tail p n : ℕ) → is_length C tail p n ≡ true → (8 ≤ n) × (p % C + n ≤ C)
ends_inside C tail p n h = (grind (arith, h), grind (arith, h))
