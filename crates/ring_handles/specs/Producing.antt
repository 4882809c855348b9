-- What a producer's calls do: p is the producer before, q after, and the code is what is returned.
use Rattle.std.specs.Prelude.{◌≡◌, ◌≢◌, ◌⊎◌, ℕ, ◌+◌, ◌<◌, ℤ, List, [], ◌∷◌, ◌++◌, length, MatchOption, Bool, true, false, Result, Ok, Err}
use Rattle.ring_layout.specs.declared.message.ClaimState.{ClaimState}
use Rattle.ring_words.specs.Open.{ClaimAt}
use Rattle.ring_rings.specs.declared.fault.TryFault.{TryFault}
use Rattle.ring_rings.specs.{Joining.Joins, Joining.LoadsPositions, Ring.message, Ring.sent_in, Ring.SendsClaimedAt}
use Rattle.ring_table.specs.declared.{claim.Stage.TheVariants.Stored, view.View.View}
use Rattle.ring_table.specs.{Changes.changed, Changes.staged, ServiceSteps.DrawsId, ServiceSteps.LoadsHeartbeat}
use Rattle.ring_table.specs.Views.{producer_alone, with_claims, without_share}
use Rattle.ring_rings.specs.{Bodies.PutsBytes, Claiming.Claims, Claiming.RefusesTry, Claiming.Writes, Claiming.try_code}
use Rattle.ring_ends.specs.Claims.{aborted, claim_numbered, without}
use Rattle.ring_ends.specs.declared.claiming.NumberFault.{NumberFault, TheVariants.NoClaim, TheVariants.PutRange}
use Rattle.ring_handles.specs.Side.{Side, knowing}
use Rattle.ring_layout.specs.declared.refusal_codes.TheConstants.{NO_SHARES, OUT_OF_MEMORY, PUT_RANGE}
use Rattle.ring_handles.specs.declared.code.TheConstants.{DONE, NO_CLAIM, OTHER_RING, WRONG_HANDLE}

-- it was refused with this number, and nothing changed
abbrev pub Declined : ℤ → Side → Side → ℤ → Type 0
Declined number p q code = (code ≡ number) × (q ≡ p)

-- a try of a producer was refused, of one of many or the only one, and this is the refusal's code
pub record IsRefused (many : Bool) (capacity : ℕ) (type_id : ℤ) (len : ℕ) (v w : View) (code : ℤ) : Type 0 where
  pub fault : TryFault
  pub code_is : code ≡ try_code fault
  pub refused : RefusesTry many capacity type_id len v fault w

-- What was sent --------------------------------------------------------------------

-- after code DONE this message was sent, and after another code none was
abbrev pub SendsOut : ℤ → List ℕ → View → View → ℤ → Type 0
SendsOut type_id body v w code = ((code ≡ DONE) × (sent_in w ≡ sent_in v ++ message type_id body ∷ []))
    ⊎ ((code ≢ DONE) × (sent_in w ≡ sent_in v))

-- the same of the message of the claim of this number, which in the list is between those of its neighbours
abbrev pub SendsClaim : ℕ → View → View → ℤ → Type 0
SendsClaim number v w code = ((code ≡ DONE) × SendsClaimedAt number v w)
    ⊎ ((code ≢ DONE) × (sent_in w ≡ sent_in v))

-- no message was sent
abbrev pub SendsNone : View → View → Type 0
SendsNone v w = sent_in w ≡ sent_in v

-- Writing ------------------------------------------------------------------------

-- 0 says that the message was written, and another code why it was refused
pub record Wrote (type_id : ℤ) (body : List ℕ) (p q : Side) (code : ℤ) : Type 0 where
  pub side : q ≡ knowing q.view p
  pub written : ((code ≡ DONE) × Writes p.many p.capacity type_id body p.view q.view)
      ⊎ IsRefused p.many p.capacity type_id (length body) p.view q.view code

-- Claims -------------------------------------------------------------------------

-- the producer with these open claims
abbrev pub holding : List ClaimAt → Side → Side
holding claims p = record p { claims = claims }

-- a claim was made, and its number is its place
pub record MadeClaim (type_id : ℤ) (len : ℕ) (p q : Side) (number : ℕ) : Type 0 where
  pub claim : ClaimAt
  pub made : Claims p.many p.capacity type_id len p.view claim q.view
  pub side : q ≡ holding (p.claims ++ claim ∷ []) (knowing q.view p)
  pub number_is : number ≡ claim.place

-- it was refused, and the number out is as it was
pub record ClaimRefused (type_id : ℤ) (len : ℕ) (p q : Side) (before number : ℕ) (code : ℤ) : Type 0 where
  pub refused : IsRefused p.many p.capacity type_id len p.view q.view code
  pub side : q ≡ knowing q.view p
  pub number_is : number ≡ before

-- a claim was made, or refused, or memory to keep it ran out
abbrev pub Claimed : ℤ → ℕ → ℕ → ℕ → Side → Side → ℤ → Type 0
Claimed type_id len before number p q code = ((code ≡ DONE) × MadeClaim type_id len p q number)
    ⊎ (ClaimRefused type_id len p q before number code ⊎ (Declined OUT_OF_MEMORY p q code × (number ≡ before)))

-- the claim of this number is open, and P holds; otherwise NO_CLAIM
abbrev pub WithClaim : ℕ → (ClaimAt → Type 0) → Side → Side → ℤ → Type 0
WithClaim number P p q code = MatchOption (claim_numbered number p.claims) (Declined NO_CLAIM p q code) P

-- the code of a call that names a claim by its number
abbrev pub number_code : Result (Unit {0}) NumberFault → ℤ
number_code (Ok x) = DONE
number_code (Err NoClaim) = NO_CLAIM
number_code (Err PutRange) = PUT_RANGE

-- bytes were put into the claim of this number, or are not inside it
abbrev pub Put : ℕ → ℕ → List ℕ → Side → Side → ℤ → Type 0
Put number offset bytes p q code =
    WithClaim number (λ t. ((code ≡ DONE) × (q ≡ knowing q.view p) × PutsBytes t.place offset bytes p.view q.view)
    ⊎ ((t.len < offset + length bytes) × Declined PUT_RANGE p q code)) p q code

-- the producer whose claim t of this number was settled so
abbrev pub settling : ClaimState → ℕ → ClaimAt → Side → Side
settling state number t p = holding (without number p.claims)
    (knowing (with_claims (changed t.place (staged (Stored state)) p.view.producer.claims) p.view) p)

-- the claim of this number was settled
abbrev pub Settled : ClaimState → ℕ → Side → Side → ℤ → Type 0
Settled state number p q code = WithClaim number (λ t. (code ≡ DONE) × (q ≡ settling state number t p)) p q code

-- the producer whose open claims were all aborted
abbrev pub closing : Side → Side
closing p = holding [] (knowing (with_claims (aborted p.claims p.view.producer.claims) p.view) p)

-- What producers load and draw ---------------------------------------------------

-- what a look at the positions puts out
pub record Positions : Type 0 where
  pub head : ℕ
  pub tail : ℕ

abbrev pub positions : ℕ → ℕ → Positions
positions head tail = record { head = head; tail = tail }

abbrev pub Positioned : Positions → Side → Side → ℤ → Type 0
Positioned at p q code =
    (code ≡ DONE) × (q ≡ knowing q.view p) × LoadsPositions p.capacity p.view at.head at.tail q.view

abbrev pub Drew : ℕ → Side → Side → ℤ → Type 0
Drew id p q code = (code ≡ DONE) × (q ≡ knowing q.view p) × DrawsId p.view id q.view

abbrev pub HeardBeat : ℕ → Side → Side → ℤ → Type 0
HeardBeat value p q code = (code ≡ DONE) × (q ≡ knowing q.view p) × LoadsHeartbeat p.capacity p.view value q.view

abbrev pub Counted : ℕ → Side → Side → ℤ → Type 0
Counted shares p q code = (code ≡ DONE) × (q ≡ p) × (shares ≡ p.view.producer.shares)

-- Splitting and joining ----------------------------------------------------------

-- the other producer of the ring, with one share
abbrev pub other_of : Side → Side
other_of p = record {
  many = true;
  table = p.table;
  identity = p.identity;
  capacity = p.capacity;
  view = producer_alone p.view;
  claims = [];
}

-- a share was moved to another producer
pub record Splits (p q other : Side) : Type 0 where
  pub many : p.many ≡ true
  pub shares : p.view.producer.shares ≢ 1
  pub left : q ≡ knowing (without_share p.view) p
  pub right : other ≡ other_of p

-- why a producer is not split: its ring has one producer, it has one share, or memory runs out
abbrev pub WhyNotSplit : Side → ℤ → Type 0
WhyNotSplit p code = ((code ≡ WRONG_HANDLE) × (p.many ≡ false))
    ⊎ (((code ≡ NO_SHARES) × (p.view.producer.shares ≡ 1)) ⊎ (code ≡ OUT_OF_MEMORY))

-- the other one, which has the same number, was taken in, with its shares and its open claims
pub record TakesIn (p other q : Side) : Type 0 where
  pub identity : p.identity ≡ other.identity
  pub view : Joins p.capacity p.view other.view q.view
  pub rest : q ≡ holding (p.claims ++ other.claims) (knowing q.view p)

-- why it was not: a ring has one producer; otherwise the numbers differ; otherwise memory runs out
abbrev pub IsApart : Side → Side → ℤ → Type 0
IsApart p other code = ((code ≡ WRONG_HANDLE) × ((p.many ≡ false) ⊎ (other.many ≡ false)))
    ⊎ ((p.many ≡ true) × (other.many ≡ true)
    × (((code ≡ OTHER_RING) × (p.identity ≢ other.identity))
    ⊎ ((code ≡ OUT_OF_MEMORY) × (p.identity ≡ other.identity))))
