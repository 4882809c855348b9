use Rattle.std.proofs.Common.{◌≡◌, ℕ, ◌<◌, ◌&&◌, ◌∙◌, ap, sym, arith, inl, inr, nat_lt, bit_or, slice_index}
use Rattle.std.proofs.lemmas.{Bool.cases_lt, Bool.lt-ltb, Bool.le-ltb, Nat.or_lt, Nat.le_or_l, Nat.le_or_r}
use Rattle.std.proofs.lemmas.List.Folds.{list_all_more}
use Rattle.ring_counters.proofs.calls.allocate.is_ascii.Goals as goal

union_ascii : (a b : ℕ) → nat_lt (bit_or a b) 128 ≡ (nat_lt a 128 && nat_lt b 128)
union_ascii a b =
    elim (cases_lt a 128) as (λ _. nat_lt (bit_or a b) 128 ≡ (nat_lt a 128 && nat_lt b 128)) [
      | inl low ↦ rest low
      | inr high ↦ le-ltb (bit_or a b) 128 (omega (arith, le_or_l a b))
          ∙ sym (ap (λ x. x && nat_lt b 128) (le-ltb a 128 high))
    ]
  where
    rest : a < 128 → nat_lt (bit_or a b) 128 ≡ (nat_lt a 128 && nat_lt b 128)
    rest low =
        elim (cases_lt b 128) as (λ _. nat_lt (bit_or a b) 128 ≡ (nat_lt a 128 && nat_lt b 128)) [
          | inl less ↦ lt-ltb (bit_or a b) 128 (or_lt 7 a b low less)
              ∙ sym ((λ i. lt-ltb a 128 low i && lt-ltb b 128 less i))
          | inr high ↦ le-ltb (bit_or a b) 128 (omega (arith, le_or_r a b))
              ∙ sym ((λ i. lt-ltb a 128 low i && le-ltb b 128 high i))
        ]

pub loop-byte-preserved : goal.loop-byte-preserved
loop-byte-preserved c =
    let byte = slice_index c.args.label.now c.loop-byte.byte-index in
    union_ascii c.loop-byte.union byte
    ∙ ap (λ all. all && nat_lt byte 128) c.loop-byte.invariant
    ∙ sym (list_all_more (λ b. nat_lt b 128) c.args.label.now c.loop-byte.byte-index 0 c.loop-byte-test.true)
