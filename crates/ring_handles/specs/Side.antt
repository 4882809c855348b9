-- A producer or a consumer with its ring, of either kind.
use Rattle.std.specs.Prelude.{◌≡◌, ℕ, List, Bool, true, false, Option, None, Some}
use Rattle.atomic_table.specs.Seated.{TableId}
use Rattle.ring_table.specs.{OpenClaims.open_count, declared.view.View.View}
use Rattle.ring_words.specs.Open.{ClaimAt}
use Rattle.ring_rings.specs.Closing.{close_refusal_of}
use Rattle.ring_rings.specs.{declared.fault.CloseFault.CloseFault, declared.ring.Producer.Producer, Seats.view_of}
use Rattle.ring_handles.specs.declared.identity.Identity.{Identity}
use Rattle.ring_ends.specs.{Claiming.NumberedClaims, End.Does, End.End, End.IsOfEnd}
use Rattle.ring_handles.specs.declared.ring.{AnyProducer.AnyProducer, AnyConsumer.AnyConsumer}
use Rattle.ring_handles.specs.declared.ring.AnyProducer.TheVariants as any
use Rattle.ring_handles.specs.declared.ring.AnyConsumer.TheVariants as reader

-- Numbers --------------------------------------------------------------------------

abbrev pub identity_of : ℕ → Identity
identity_of number = record { number = number }

-- Producers ----------------------------------------------------------------------

pub record Side : Type 0 where
  -- any number of producers write the ring
  pub many : Bool
  -- which ring it is
  pub table : TableId
  -- the ring's number
  pub identity : Identity
  -- the bytes of the ring's buffer
  pub capacity : ℕ
  -- what the producer knows
  pub view : View
  -- the claims that are open, the oldest first
  pub claims : List ClaimAt

-- a producer of a ring of this number
abbrev pub side : Identity → NumberedClaims → Side
side identity p = record {
  many = p.end.many;
  table = p.end.table;
  identity = identity;
  capacity = p.end.capacity;
  view = p.end.view;
  claims = p.claims;
}

-- the end and the claims of a producer of a ring of either kind
abbrev pub numbered_in : AnyProducer → NumberedClaims
numbered_in (any.Many p) = p
numbered_in (any.One p) = p

-- a producer of a ring of either kind and of this number
abbrev pub side_in : Identity → AnyProducer → Side
side_in identity p = side identity (numbered_in p)

-- the producer is of its kind
abbrev pub IsOfKind : AnyProducer → Type 0
IsOfKind (any.Many p) = p.end.many ≡ true
IsOfKind (any.One p) = p.end.many ≡ false

-- the producer that knows this
abbrev pub knowing : View → Side → Side
knowing v s = record s { view = v }

-- where their numbers are the same, both are producers of one ring
abbrev pub AreOfOneRing : Side → Side → Type 0
AreOfOneRing p other = p.identity ≡ other.identity → (p.table ≡ other.table) × (p.capacity ≡ other.capacity)

-- Consumers ----------------------------------------------------------------------

-- why a producer that knows this is not all that may write its ring
abbrev pub close_refusal : View → Option CloseFault
close_refusal v = close_refusal_of (open_count v.producer.claims) v.producer.shares

-- the end of a consumer of a ring of either kind
abbrev pub consumer_in : AnyConsumer → End
consumer_in (reader.Many c) = c
consumer_in (reader.One c) = c

-- the consumer is of its kind
abbrev pub IsReaderOfKind : AnyConsumer → Type 0
IsReaderOfKind (reader.Many c) = c.many ≡ true
IsReaderOfKind (reader.One c) = c.many ≡ false

-- a producer that was taken in is of the consumer's ring
abbrev pub IsLastOf : End → Option Producer → Type 0
IsLastOf c None = Unit {0}
IsLastOf c (Some p) = IsOfEnd (record c { view = view_of p }) p

pub record Reading : Type 0 where
  -- the consumer with its ring
  pub end : End
  -- the ring's number
  pub identity : Identity
  -- what the ring's producer knows, if it was taken in
  pub last : Option View

-- The call did this to the end, and P holds of what it returned. The rest of the consumer stays.
abbrev pub ByEnd : {R : Type 0} → (R → Type 0) → (View → R → View → Type 0) → Reading → Reading → Type 0
ByEnd {R} P Call r s = (x : R) × P x × (s ≡ record r { end = s.end }) × Does Call r.end x s.end

-- if their numbers are the same, the producer is of the consumer's ring
abbrev pub IsOfThisRing : Reading → Side → Type 0
IsOfThisRing r p = r.identity ≡ p.identity → (r.end.table ≡ p.table) × (r.end.capacity ≡ p.capacity)
