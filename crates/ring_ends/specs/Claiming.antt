-- A producer that keeps its open claims, which calls name by number. The number of a claim is its place.
use Rattle.std.specs.Prelude.{◌≡◌, ◌⊎◌, ℕ, ◌+◌, ◌<◌, ℤ, List, ◌∷◌, ◌++◌, [], length, MatchOption, MatchResult, OnErr, OnOk, Result, Ok, Err}
use Rattle.ring_layout.specs.declared.message.ClaimState.{ClaimState}
use Rattle.ring_words.specs.Open.{ClaimAt}
use Rattle.ring_table.specs.{declared.claim.Stage.TheVariants.Stored, declared.view.View.View, OpenClaims.open_count}
use Rattle.ring_table.specs.{Changes.staged, ProducerSteps.with_changed, Views.with_claims}
use Rattle.ring_rings.specs.{Bodies.PutsBytes, Joining.Joins}
use Rattle.ring_rings.specs.{Claiming.Claims, Claiming.RefusesTry, Holding.AreOpenAt, Ring.SendsClaimedAt}
use Rattle.ring_ends.specs.{Claims.aborted, Claims.claim_numbered, Claims.without, declared.claiming.Claimed.Claimed}
use Rattle.ring_ends.specs.End.{sent, Does, End, OpensNone}
use Rattle.ring_ends.specs.declared.claiming.ClaimRefused.{ClaimRefused, TheVariants.NoMemory, TheVariants.Refused}
use Rattle.ring_ends.specs.declared.claiming.NumberFault.{NumberFault, TheVariants.NoClaim, TheVariants.PutRange}

pub record NumberedClaims : Type 0 where
  pub end : End
  -- the open claims, the oldest first
  pub claims : List ClaimAt

-- the claims are open ones of a producer with this view, at different places, and no other claim of it is open
pub record AreAllOpen (C : ℕ) (v : View) (claims : List ClaimAt) : Type 0 where
  pub are : AreOpenAt C v claims
  pub all : open_count v.producer.claims ≡ length claims

-- a claim was made and is kept, and its number is its place
pub record Keeps (type_id : ℤ) (len : ℕ) (p : NumberedClaims) (claimed : Claimed) (q : NumberedClaims) : Type 0 where
  pub claim : ClaimAt
  pub number : claimed.number ≡ claim.place
  pub index : claimed.index ≡ claim.index
  pub does : Does (Claims p.end.many p.end.capacity type_id len) p.end claim q.end
  pub kept : q.claims ≡ p.claims ++ claim ∷ []

-- a claim was refused, or memory to keep it ran out
abbrev pub KeepsNone : ℤ → ℕ → NumberedClaims → ClaimRefused → NumberedClaims → Type 0
KeepsNone type_id len p (Refused fault) q =
    (q.claims ≡ p.claims) × Does (RefusesTry p.end.many p.end.capacity type_id len) p.end fault q.end
KeepsNone type_id len p NoMemory q = q ≡ p

-- the result of a try to claim
abbrev pub TriesToKeep : ℤ → ℕ → NumberedClaims → Result Claimed ClaimRefused → NumberedClaims → Type 0
TriesToKeep type_id len p r q =
    MatchResult r (λ claimed. Keeps type_id len p claimed q) (λ fault. KeepsNone type_id len p fault q)

-- the call did this to the end, and the claims are as before
abbrev pub OfEnd : {R : Type 0} → (End → R → End → Type 0) → NumberedClaims → R → NumberedClaims → Type 0
OfEnd Call p r q = (q.claims ≡ p.claims) × Call p.end r q.end

-- the claims are as before, and so is the end but for what it knows. No further claim is open
abbrev pub KeepsNumbered : NumberedClaims → NumberedClaims → Type 0
KeepsNumbered p q = (q.claims ≡ p.claims) × OpensNone p.end q.end

-- the claim of this number is open, and P holds of it; otherwise the call returns NoClaim, and nothing changed
abbrev pub WithClaim : ℕ → (ClaimAt → Type 0) → NumberedClaims → Result (Unit {0}) NumberFault → NumberedClaims
    → Type 0
WithClaim number P p r q = MatchOption (claim_numbered number p.claims) ((r ≡ Err NoClaim) × (q ≡ p)) P

-- bytes were put into the claim of this number, or are not inside it
abbrev pub Puts : ℕ → ℕ → List ℕ → NumberedClaims → Result (Unit {0}) NumberFault → NumberedClaims → Type 0
Puts number offset bytes p r q = WithClaim number (λ t.
    ((r ≡ Ok tt) × (q.claims ≡ p.claims) × Does (λ v _ w. PutsBytes t.place offset bytes v w) p.end r q.end)
    ⊎ ((r ≡ Err PutRange) × (t.len < offset + length bytes) × (q ≡ p))) p r q

-- the claim of this number was settled
abbrev pub Settles : ClaimState → ℕ → NumberedClaims → Result (Unit {0}) NumberFault → NumberedClaims → Type 0
Settles state number p r q = WithClaim number (λ t. (r ≡ Ok tt) × (q.claims ≡ without number p.claims)
    × Does (λ v _ w. w ≡ with_changed t.place (staged (Stored state)) v) p.end r q.end) p r q

-- the message of the claim of this number was sent, or nothing was
abbrev pub SendsNumbered : ℕ → NumberedClaims → Result (Unit {0}) NumberFault → NumberedClaims → Type 0
SendsNumbered number p r q =
    OnOk r (SendsClaimedAt number p.end.view q.end.view) × OnErr r (sent q.end ≡ sent p.end)

-- the view of a producer after these claims were aborted
abbrev pub aborted_view : List ClaimAt → View → View
aborted_view claims v = with_claims (aborted claims v.producer.claims) v

-- another producer was joined, with its shares and its open claims
abbrev pub TakesIn : NumberedClaims → NumberedClaims → NumberedClaims → Type 0
TakesIn p other q = (q.claims ≡ p.claims ++ other.claims)
    × Does (λ v (r : Unit {0}) w. Joins p.end.capacity v other.end.view w) p.end tt q.end
