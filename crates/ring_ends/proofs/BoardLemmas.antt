-- Ends of broadcast buffers.
use Rattle.std.proofs.Common.{Option, Result, Ok, Err, Some, None, ap}
use Rattle.ring_board.specs.{Views.Sat, declared.board.RawRecord.RawRecord, declared.fault.Lapped.Lapped}
use Rattle.ring_ends.specs.BoardEnd.{BoardEnd, Looks, ReturnsOne}

pub returns_one : (p q : BoardEnd Sat) (r : Result (Option RawRecord) Lapped) → Looks p.knows r q.knows
    → ReturnsOne p r q
returns_one p q (Ok None) got = ap (λ (m : Sat). m.0.copies) got.1
returns_one p q (Ok (Some raw)) got =
    (got.0.0, got.0.2, ap (λ (m : Sat). m.0.copies) got.0.1.1)
returns_one p q (Err l) got = ap (λ (m : Sat). m.0.copies) got.7
