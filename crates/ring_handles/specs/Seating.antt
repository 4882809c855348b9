-- Seats that a conductor gives and takes back: c is the conductor before, d after, k is a client, r a receiver or a
-- reader, and the code is what is returned.
use Rattle.std.specs.Prelude.{◌≡◌, ◌≢◌, ◌⊎◌, ◌≤◌, ℤ, IfSome, Option, None, Some}
use Rattle.ring_service.specs.Conducting.{value_shares_of}
use Rattle.ring_ends.specs.declared.lending.Shared.{Shared}
use Rattle.ring_ends.specs.Conducting.{KeepsProducer, LastReplyShare, LendsValues, MayNotHire, SeatedConductor, TakesSeat, TakesValues}
use Rattle.ring_ends.specs.Conducting.{Hires as HiresEnd, LendsReceiver as LendsReceiverEnd, TakesClient as TakesClientEnd}
use Rattle.ring_handles.specs.{Boards.lender_of, Boards.Listening, Conducting.ByConductor}
use Rattle.ring_handles.specs.declared.{client.ClientSide.ClientSide, conductor.ConductorSide.ConductorSide}
use Rattle.ring_handles.specs.declared.{counters.ReaderSide.ReaderSide, identity.Identity.Identity}
use Rattle.ring_layout.specs.declared.refusal_codes.TheConstants.{NO_SHARES, OUT_OF_MEMORY}
use Rattle.ring_handles.specs.declared.code.TheConstants.{OTHER_RING}

-- Giving -------------------------------------------------------------------------

-- a share of the ring and one of the board were moved to a client, which has the conductor's number
abbrev pub Hires : ConductorSide → ConductorSide → ClientSide → Type 0
Hires c d k = (k.identity ≡ c.identity) × ByConductor (λ p q. HiresEnd p k.end q) c d

-- why a client is not made: ring or board has one share left, or memory runs out
abbrev pub IsUnhired : ConductorSide → ℤ → Type 0
IsUnhired c code = ((code ≡ NO_SHARES) × MayNotHire c.end) ⊎ (code ≡ OUT_OF_MEMORY)

-- a share of the board was moved to a receiver, which has the conductor's number, and was not lapped yet
abbrev pub LendsReceiver : ConductorSide → ConductorSide → Listening → Type 0
LendsReceiver c d r = (r.identity ≡ c.identity) × (r.lap ≡ None)
    × ByConductor (λ p q. LendsReceiverEnd p (record { end = r.end; lender = lender_of r }) q) c d

-- why a receiver is not made: the conductor needs its last share, or memory runs out
abbrev pub IsUnheard : ConductorSide → ℤ → Type 0
IsUnheard c code = ((code ≡ NO_SHARES) × LastReplyShare c.end) ⊎ (code ≡ OUT_OF_MEMORY)

-- a share of the values was moved to a reader, which has the conductor's number
abbrev pub LendsReader : ConductorSide → ConductorSide → ReaderSide → Type 0
LendsReader c d r = (r.identity ≡ c.identity) × ByConductor (λ p q. LendsValues p r.end q) c d

-- why a reader is not made: the conductor needs its last share, or memory runs out
abbrev pub WhyNotSeated : ConductorSide → ℤ → Type 0
WhyNotSeated c code = ((code ≡ NO_SHARES) × (value_shares_of c.end.conductor ≤ 1)) ⊎ (code ≡ OUT_OF_MEMORY)

-- Taking back --------------------------------------------------------------------

-- what has this number and this lender is this conductor's, and its end was taken back so
abbrev pub TakesOwn : Identity → Option Shared → (SeatedConductor → SeatedConductor → Type 0) → ConductorSide
    → ConductorSide → Type 0
TakesOwn identity lender Takes c d =
    (identity ≡ c.identity) × (lender ≡ Some c.end.shared) × ByConductor Takes c d

-- a client was taken back: its claims are the conductor's producer's
abbrev pub TakesClient : ConductorSide → ClientSide → ConductorSide → Type 0
TakesClient c k d = TakesOwn k.identity (Some k.end.shared) (λ p q. TakesClientEnd p k.end q) c d

-- a receiver of the replies was taken back
abbrev pub TakesReceiver : ConductorSide → Listening → ConductorSide → Type 0
TakesReceiver c r d =
    TakesOwn r.identity (lender_of r) (λ p q. TakesSeat p r.end.knows q × KeepsProducer p q) c d

-- a reader of the values was taken back
abbrev pub TakesReader : ConductorSide → ReaderSide → ConductorSide → Type 0
TakesReader c r d = TakesOwn r.identity r.end.lender (λ p q. TakesValues p r.end q) c d

-- what has this number and this lender is no conductor's, or that of one with another number
abbrev pub IsForeign : ConductorSide → Identity → Option Shared → ℤ → Type 0
IsForeign c identity lender code = (code ≡ OTHER_RING) × IfSome lender (λ _. identity ≢ c.identity)

-- if it is a conductor's of the same number, it is this one's
abbrev pub IsOfThisConductor : ConductorSide → Identity → Option Shared → Type 0
IsOfThisConductor c identity lender = IfSome lender (λ shared. identity ≡ c.identity → shared ≡ c.end.shared)
