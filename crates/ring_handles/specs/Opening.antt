-- What is made for handles: a new ring, broadcast buffer, counters, shared counter or conductor, and the code if it is
-- refused.
use Rattle.std.specs.Prelude.{◌≡◌, ◌⊎◌, ℕ, ℤ, [], MatchOption, Bool}
use Rattle.std.specs.declared.option.Option.{Option, TheVariants.None}
use Rattle.ring_layout.specs.Places.{is_board_capacity, is_capacity}
use Rattle.ring_layout.specs.Refusals.{all_shares, make_code, make_refusal_of}
use Rattle.ring_table.specs.declared.view.View.{View}
use Rattle.ring_rings.specs.Opening.{first_consumer, first_producer}
use Rattle.ring_board.specs.Rule.{opening_view}
use Rattle.ring_counters.specs.Manager.{registry_of, shares_of, writes_of}
use Rattle.ring_counters.specs.Registry.{fresh_registry, make_refusal_of as counters_refusal_of}
use Rattle.ring_counters.specs.Codes.{make_code as counters_code}
use Rattle.ring_handles.specs.declared.{counters.CountersSide.CountersSide, held.Held.Held, identity.Identity.Identity}
use Rattle.ring_handles.specs.{Adding.IsFirst, Conducting.IsNewConductor, Side.Reading, Side.Side}
use Rattle.ring_handles.specs.Kinds.{a_conductor, a_consumer, a_producer, a_transmitter, an_adder, some_counters, HoldsOne}
use Rattle.ring_layout.specs.declared.refusal_codes.TheConstants.{OUT_OF_MEMORY}
use Rattle.ring_handles.specs.declared.code.TheConstants.{DONE}

-- Rings -------------------------------------------------------------------------

-- a ring is refused with the refusal's code; if there is none it is made, unless memory runs out
abbrev pub IsMakeCode : ℕ → ℕ → ℤ → Type 0
IsMakeCode C start code =
    MatchOption (make_refusal_of (is_capacity C) C start) ((code ≡ DONE) ⊎ (code ≡ OUT_OF_MEMORY))
    (λ fault. code ≡ make_code fault)

-- a producer and the consumer of one ring, with its number, which know this
pub record ArePaired (many : Bool) (i : Identity) (C start : ℕ) (v w : View) (p : Side) (c : Reading) : Type 0 where
  pub producer : p ≡ record {
    many = many;
    table = p.table;
    identity = i;
    capacity = C;
    view = v;
    claims = [];
  }
  pub consumer : c ≡ record {
    end = record { many = many; table = p.table; capacity = C; start = start; view = w };
    identity = i;
    last = None;
  }

abbrev pub HoldPair : Bool → Identity → ℕ → ℕ → View → View → Option Held → Option Held → Type 0
HoldPair many i C start v w p c =
    HoldsOne a_producer (λ s. HoldsOne a_consumer (λ r. ArePaired many i C start v w s r) c) p

-- the producer holds all shares, and both are at the start
abbrev pub HoldFresh : Bool → Identity → ℕ → ℕ → Option Held → Option Held → Type 0
HoldFresh many i C start p c = HoldPair many i C start (first_producer C start) (first_consumer C start) p c

-- Boards ------------------------------------------------------------------------

-- a board is refused with the refusal's code; if there is none it is made, unless memory runs out
abbrev pub IsBoardCode : ℕ → ℕ → ℤ → Type 0
IsBoardCode C start code =
    MatchOption (make_refusal_of (is_board_capacity C) C start) ((code ≡ DONE) ⊎ (code ≡ OUT_OF_MEMORY))
    (λ fault. code ≡ make_code fault)

-- the transmitter holds all shares of a board on which nothing was transmitted
abbrev pub HoldNewBoard : Identity → ℕ → ℕ → Option Held → Type 0
HoldNewBoard i C start h =
    HoldsOne a_transmitter (λ p. p ≡ record {
      end = record { table = p.end.table; capacity = C; start = start; knows = opening_view C start };
      identity = i;
    }) h

-- Counters ----------------------------------------------------------------------

-- counters are refused with the refusal's code; if there is none they are made, unless memory runs out
abbrev pub IsCountersCode : ℕ → ℤ → Type 0
IsCountersCode count code =
    MatchOption (counters_refusal_of count) ((code ≡ DONE) ⊎ (code ≡ OUT_OF_MEMORY))
    (λ fault. code ≡ counters_code fault)

-- counters of which none was used, with all shares
pub record AreNew (i : Identity) (count reuse_ms : ℕ) (c : CountersSide) : Type 0 where
  pub identity : c.identity ≡ i
  pub registry : registry_of c.end.manager ≡ fresh_registry count reuse_ms
  pub writes : writes_of c.end.manager ≡ []
  pub shares : shares_of c.end.manager ≡ all_shares

abbrev pub HoldFreshCounters : Identity → ℕ → ℕ → Option Held → Type 0
HoldFreshCounters i count reuse_ms h = HoldsOne some_counters (AreNew i count reuse_ms) h

-- Shared counters ---------------------------------------------------------------

-- a shared counter is made, unless memory runs out
abbrev pub IsAdderCode : ℤ → Type 0
IsAdderCode code = (code ≡ DONE) ⊎ (code ≡ OUT_OF_MEMORY)

abbrev pub HoldFirstAdder : Identity → Option Held → Type 0
HoldFirstAdder i h = HoldsOne an_adder (IsFirst i) h

-- Conductors --------------------------------------------------------------------

-- a conductor of these sizes, to which nothing was sent
abbrev pub HoldNewConductor : Identity → ℕ → ℕ → ℕ → ℕ → Option Held → Type 0
HoldNewConductor i C R count reuse_ms h = HoldsOne a_conductor (IsNewConductor i C R count reuse_ms) h
