-- Receivers in handles, by what their ends' calls say.
use Rattle.std.proofs.Common.{◌≡◌, inl, inr, ℤ, [], ◌∷◌, ◌++◌, arith, sym, ap, subst, ◌∙◌, MatchOption, Option, Some, None, Result, Ok, Err}
use Rattle.ring_board.specs.{declared.board.RawRecord.RawRecord, declared.fault.Lapped.Lapped, Board.new_copy}
use Rattle.ring_board.specs.Seats.{place_of}
use Rattle.ring_ends.specs.BoardEnd.{copied, laps_of, CopiesInto, ReturnsOne}
use Rattle.ring_ends.specs.declared.receiver.Heard.{Heard}
use Rattle.ring_handles.specs.Boards.{heard_as, next_code, next_seen, CopiesOut, HeardOut, Listening, Seen, Watching}
use Rattle.ring_handles.{specs.Raw.raw_as, specs.Raw.ReturnsOut, proofs.ConsumerLemmas.not_zero}

-- what follows if there is a record
pub at_some : {A : Type 0} (P : Type 0) (Q : A → Type 0) (o : Option A) (x : A) → o ≡ Some x → Q x → MatchOption o P Q
at_some {A} P Q o x is q = subst (λ (r : Option A). MatchOption r P Q) (sym is) q

pub copies_out : (before after : HeardOut) (r s : Listening) (code : ℤ) (x : Result (Option Heard) Lapped)
    → code ≡ next_code x → after.seen ≡ next_seen heard_as x before.seen
    → CopiesInto before.buffer after.buffer r.end x s.end → CopiesOut before after r s code
copies_out before after r s code (Ok (Some h)) is outs got = inl (
  is,
  (
    h.place,
    got.0,
    got.1 ∙ ap (λ (o : Seen). o.len) (sym outs),
    got.2,
    got.3 ∙ ap (λ (o : Seen). copied r.end ++ new_copy h.place o.type_id got.0 (laps_of r.end) ∷ []) (sym outs),
  ),
)
copies_out before after r s code (Ok None) is outs got = inr (not_zero code 105 (omega arith) is, got)
copies_out before after r s code (Err lapped) is outs got = inr (not_zero code 13 (omega arith) is, got)

pub returns_out : (before after : Seen) (r s : Watching) (code : ℤ) (x : Result (Option RawRecord) Lapped)
    → code ≡ next_code x → after ≡ next_seen raw_as x before → ReturnsOne r.end x s.end → ReturnsOut after r s code
returns_out before after r s code (Ok (Some raw)) is outs got = inl (
  is,
  (
    place_of raw,
    got.0,
    got.1 ∙ ap (λ (o : Seen). o.len) (sym outs),
    got.2 ∙ ap (λ (o : Seen). copied r.end ++ new_copy (place_of raw) o.type_id got.0 (laps_of r.end) ∷ []) (sym outs),
  ),
)
returns_out before after r s code (Ok None) is outs got = inr (not_zero code 105 (omega arith) is, got)
returns_out before after r s code (Err lapped) is outs got = inr (not_zero code 13 (omega arith) is, got)
