-- What broadcast buffers and counters take back, and how a broadcast buffer ends: p is the transmitter before, q after,
-- c are the counters before, d after, r is a receiver or a reader, and the code is what is returned.
use Rattle.std.specs.Prelude.{◌≡◌, ◌≢◌, ℕ, ◌+◌, ℤ, MatchOption, None}
use Rattle.ring_board.specs.{Closing.close_refusal_of, Runs.AreAllRuns, Views.Sat}
use Rattle.ring_handles.specs.declared.counters.{CountersSide.CountersSide, ReaderSide.ReaderSide}
use Rattle.ring_handles.specs.declared.boards.TransmitterSide.{TransmitterSide}
use Rattle.ring_handles.specs.Boards.{lender_of, Hearing, Listening, Watching}
use Rattle.ring_ends.specs.BoardEnd.{heard_by, tail_in, transmitted, AreOfOneBoard, TakesIn}
use Rattle.ring_ends.specs.Counters.{TakesReader}
use Rattle.ring_layout.specs.declared.refusal_codes.TheConstants.{RECEIVERS_OUT}
use Rattle.ring_handles.specs.declared.code.TheConstants.{IN_USE, OTHER_RING}

-- Receivers ----------------------------------------------------------------------

-- a receiver that knows this was taken back, with its share, and its copies are runs of the transmitted list
abbrev pub TakesBack : TransmitterSide → Sat → TransmitterSide → Type 0
TakesBack p m q = (q ≡ record p { end = q.end }) × TakesIn p.end m q.end

-- if it has the same number, the receiver is of the transmitter's broadcast buffer
abbrev pub IsAtBoard : {M : Type 0} → TransmitterSide → Hearing M → Type 0
IsAtBoard p r = p.identity ≡ r.identity → AreOfOneBoard p.end r.end

-- the same, unless it is a conductor's
abbrev pub IsOfThisBoard : TransmitterSide → Listening → Type 0
IsOfThisBoard p r = MatchOption (lender_of r) (IsAtBoard p r) (λ _. Unit {0})

-- it has the same number, and was taken back
abbrev pub TakesWatcher : {M : Type 0} → TransmitterSide → Hearing M → TransmitterSide → Type 0
TakesWatcher p r q = (p.identity ≡ r.identity) × TakesBack p r.end.knows q

-- the same, and it is no conductor's
abbrev pub TakesListener : TransmitterSide → Listening → TransmitterSide → Type 0
TakesListener p r q = (lender_of r ≡ None) × TakesWatcher p r q

-- it is a conductor's, or the numbers differ
abbrev pub IsAstray : TransmitterSide → Listening → ℤ → Type 0
IsAstray p r code = (code ≡ OTHER_RING) × MatchOption (lender_of r) (p.identity ≢ r.identity) (λ _. Unit {0})

-- the numbers differ
abbrev pub IsRawAstray : TransmitterSide → Watching → ℤ → Type 0
IsRawAstray p r code = (code ≡ OTHER_RING) × (p.identity ≢ r.identity)

-- The end of a board -------------------------------------------------------------

-- the last transmission ended here, and what each receiver that was taken back copied are runs of the transmitted list
pub record BoardEndsAt (p : TransmitterSide) (tail : ℕ) : Type 0 where
  pub tail_is : tail ≡ tail_in p.end.knows
  pub runs : AreAllRuns (transmitted p.end) (heard_by p.end)

-- another handle holds the board: that of a receiver, if shares are missing
abbrev pub IsBoardKept : TransmitterSide → ℤ → Type 0
IsBoardKept p code = MatchOption (close_refusal_of p.end.knows.shares) (code ≡ IN_USE) (λ _. code ≡ RECEIVERS_OUT)

-- Readers ------------------------------------------------------------------------

-- if it has the same number and is no conductor's, the reader is of these counters
abbrev pub IsOfThese : CountersSide → ReaderSide → Type 0
IsOfThese c r = MatchOption r.end.lender
    (c.identity ≡ r.identity → r.end.values ≡ c.end.values) (λ _. Unit {0})

-- a reader of the same number, which is no conductor's, was taken back
pub record TakesLoads (c : CountersSide) (r : ReaderSide) (d : CountersSide) : Type 0 where
  pub own : r.end.lender ≡ None
  pub same : c.identity ≡ r.identity
  pub end : TakesReader c.end r.end d.end
  pub identity : d.identity ≡ c.identity

-- it is a conductor's, or the numbers differ
abbrev pub IsOfOthers : CountersSide → ReaderSide → ℤ → Type 0
IsOfOthers c r code =
    (code ≡ OTHER_RING) × MatchOption r.end.lender (c.identity ≢ r.identity) (λ _. Unit {0})
