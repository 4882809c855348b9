-- A consumer in a handle, by what its end's calls say.
use Rattle.std.proofs.Common.{◌≡◌, ◌≢◌, inl, inr, ℕ, ◌<◌, ℤ, pos, [], ◌∷◌, ◌++◌, arith, take, refl, sym, ap, ◌∙◌}
use Rattle.ring_rings.specs.Ring.{message}
use Rattle.ring_ends.specs.{declared.copying.NextMessage.NextMessage, End.received, Next.ReceivesNext}
use Rattle.ring_ends.specs.declared.copying.NextMessage.TheVariants.{Copied, Nothing, TooLong}
use Rattle.ring_handles.specs.Consuming.{next_code, next_out, Out, ReceivesOut}
use Rattle.ring_handles.specs.Side.{Reading}

digits : ℤ → ℕ
digits (pos n) = n
digits _ = 0

pub same_digits : (n m : ℕ) → pos n ≡ pos m → n ≡ m
unfolding digits
same_digits n m same = ap digits same

-- a code above 0 is not 0
pub not_zero : (code : ℤ) (n : ℕ) → 0 < n → code ≡ pos n → code ≢ pos 0
not_zero code n some is none = let same = same_digits n 0 (sym is ∙ none) in omega (arith, some, same)

pub received_out : (before after : Out) (r s : Reading) (code : ℤ) (next : NextMessage) → code ≡ next_code next
    → after ≡ next_out next before after.buffer → ReceivesNext after.buffer r.end next s.end
    → ReceivesOut after r s code
received_out before after r s code (Copied type_id len) is outs got = inl (
  is,
  (
    message after.type_id (take after.len after.buffer) ∷ [],
    refl,
    got ∙ ap (λ (o : Out). received r.end ++ message o.type_id (take o.len after.buffer) ∷ []) (sym outs),
  ),
)
received_out before after r s code (TooLong type_id len) is outs got = inr (not_zero code 106 (omega arith) is, got)
received_out before after r s code Nothing is outs got = inr (not_zero code 105 (omega arith) is, got)
