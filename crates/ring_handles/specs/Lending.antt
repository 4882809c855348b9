-- What calls of readers of values do: c are the counters before, d after, r is the reader before, s after, and the code
-- is what is returned.
use Rattle.std.specs.Prelude.{◌≡◌, ◌⊎◌, ◌≤◌, ℕ, ℤ, Result}
use Rattle.ring_counters.specs.{declared.fault.BadId.BadId, Manager.shares_of}
use Rattle.ring_ends.specs.Counters.{Lends as LendsEnd, Loads}
use Rattle.ring_handles.specs.declared.counters.{CountersSide.CountersSide, ReaderSide.ReaderSide}
use Rattle.ring_handles.specs.Counting.{Tells}
use Rattle.ring_layout.specs.declared.refusal_codes.TheConstants.{BAD_ID, NO_SHARES, OUT_OF_MEMORY}

-- a share was moved to a reader of these counters, with their number
pub record Lends (c d : CountersSide) (r : ReaderSide) : Type 0 where
  pub end : LendsEnd c.end r.end d.end
  pub identity : (d.identity ≡ c.identity) × (r.identity ≡ c.identity)

-- why a reader is not made: the counters need their last share, or memory runs out
abbrev pub WhyNotLent : CountersSide → ℤ → Type 0
WhyNotLent c code = ((code ≡ NO_SHARES) × (shares_of c.end.manager ≤ 1)) ⊎ (code ≡ OUT_OF_MEMORY)

-- a value was loaded, and is put out; or there is no such id
abbrev pub SaysValue : ℕ → ℤ → ℤ → ReaderSide → ReaderSide → ℤ → Type 0
SaysValue id before value r s code = (x : Result ℤ BadId) × Tells (λ _. BAD_ID) x before value code
    × (s.identity ≡ r.identity) × Loads id r.end x s.end
