-- What a header shows the read that loads it.
use Rattle.std.proofs.Common.{◌≡◌, ℕ, ◌+◌, ◌%◌, ◌^◌, ◌<◌, ℤ, pos, ◌≤ℤ◌, FitsSigned, List, [], ◌∷◌, ◌++◌, sym, refl, ap, ◌∙◌, subst, length, arith, w32}
use Rattle.std.specs.Int.{cast_unsigned}
use Rattle.ring_layout.specs.{History.IsMessage, Places.index, Places.rounded}
use Rattle.ring_layout.specs.Headers.{header, padding_header, padding_type, committed_header}
use Rattle.ring_table.{specs.Staged.PlacedMessage, proofs.HeaderReads.halves, proofs.HeaderReads.low_half}
use Rattle.ring_table.specs.{Views.View, ConsumerSteps.with_scan, ConsumerSteps.IsInside, ConsumerSteps.LoadsHeader}
use Rattle.ring_table.proofs.ConsumeLemmas.{not_positive, one_type_id, padding_bits}

module _ (C q : ℕ) (got : List PlacedMessage) (v : View) (cap : v.capacity ≡ C) where
  -- no header
  pub told_none : LoadsHeader v.capacity q got v 0 (with_scan (index C q) 0 q got v)
  told_none = record {
    capacity = refl;
    stays = record { producer = refl; out = refl; consumes = refl; head = refl; run = refl };
    padding = λ len some small e. let t = halves len padding_type small e in let len_is = t.0 in absurd (omega arith);
    message = λ len type_id some small fits other e. let t = halves len type_id small e in let len_is =
        t.0 in absurd (omega arith);
    unpublished = λ len type_id _ _ _ _. ap (λ c. with_scan (index c q) 0 q got v) (sym cap);
  }

  -- a header of a positive length is not one of a length that is not
  positive : (n : ℕ) → 0 < n % 2 ^ 32 → n % 2 ^ 32 < 2 ^ 31 → (len type_id : ℤ) → FitsSigned w32 len → len ≤ℤ pos 0
      → n ≡ header len type_id → ⊥
  positive n full small len type_id fits le e =
      let bits : n % 2 ^ 32 ≡ cast_unsigned w32 len = ap (λ k. k % 2 ^ 32) e ∙ low_half len type_id fits in
      let none = not_positive len fits le in
      none (omega arith, omega arith)

  -- padding of b bytes
  pub told_padding : (b : ℕ) → 0 < b → b < 2 ^ 31 → b % 8 ≡ 0 → IsInside C q b
      → LoadsHeader v.capacity q got v (padding_header b) (with_scan (index C q) (padding_header b) (q + b) got v)
  told_padding b full small b8 inside =
      let n : ℕ = padding_header b in
      let both = halves b padding_type small refl in
      let low : n % 2 ^ 32 ≡ b = both.0 in
      record {
        capacity = refl;
        stays = record { producer = refl; out = refl; consumes = refl; head = refl; run = refl };
        padding = λ len some small' e.
            let len_is = (halves len padding_type small' e).0 in
            let is : b ≡ rounded len = omega arith in
            record {
              view = λ i. with_scan (index (sym cap i) q) n (q + is i) got v;
              inside = subst (λ (z : ℕ × ℕ). IsInside z.0 q z.1) (λ i. (sym cap i, is i)) inside;
            };
        message = λ len type_id some small' fits other e.
            let t = halves len type_id small' e in
            absurd (other (padding_bits type_id fits (sym t.1 ∙ both.1)));
        unpublished = λ len type_id fits _ le e. absurd (positive n (omega arith) (omega arith) len type_id fits le e);
      }

  -- a message
  pub told_message : (m : PlacedMessage) (n b : ℕ) → m.place ≡ q → n ≡ committed_header m.message.type_id (length m.message.body)
      → IsMessage C m.message → 8 + length m.message.body < 2 ^ 31 → b ≡ rounded (8 + length m.message.body) → IsInside C q b
      → LoadsHeader v.capacity q got v n (with_scan (index C q) n (q + b) (got ++ m ∷ []) v)
  told_message m n b place n_is lawful small b_is inside =
      let both = halves (8 + length m.message.body) m.message.type_id small n_is in
      let low : n % 2 ^ 32 ≡ 8 + length m.message.body = both.0 in
      record {
        capacity = refl;
        stays = record { producer = refl; out = refl; consumes = refl; head = refl; run = refl };
        padding = λ len some small' e.
            let t = halves len padding_type small' e in
            let type_is : m.message.type_id ≡ padding_type =
            padding_bits m.message.type_id lawful.type_fits (sym both.1 ∙ t.1) in
            let one : pos 1 ≤ℤ padding_type = subst (λ z. pos 1 ≤ℤ z) type_is lawful.type_id in
            absurd (omega arith);
        message = λ len type_id some small' fits not_pad e.
            let t = halves len type_id small' e in
            let len_is : 8 + length m.message.body ≡ len = sym low ∙ t.0 in
            let types : m.message.type_id ≡ type_id =
            one_type_id m.message.type_id type_id lawful.type_fits fits (sym both.1 ∙ t.1) in
            let far : b ≡ rounded len = b_is ∙ ap rounded len_is in
            record {
              body = m.message.body;
              len_is = len_is;
              message = subst (λ (z : ℕ × ℤ). IsMessage z.0 (record { type_id = z.1; body = m.message.body }))
                  (λ i. (sym cap i, types i)) lawful;
              view = λ i. with_scan (index (sym cap i) q) n (q + far i)
                  (got ++ (record { place = place i; message = record { type_id = types i; body = m.message.body } }) ∷ []) v;
              inside = subst (λ (z : ℕ × ℕ). IsInside z.0 q z.1) (λ i. (sym cap i, far i)) inside;
            };
        unpublished = λ len type_id fits _ le e. absurd (positive n (omega arith) (omega arith) len type_id fits le e);
      }
