-- The effects of lines of the ring, with the text that they print.
use Rattle.std.specs.Prelude.{◌≡◌, ℕ, ℤ, List, [], ◌++◌, Result, Ok, Err, MatchResult, None}
use Rattle.ring_layout.specs.declared.message.ClaimState.{ClaimState}
use Rattle.ring_words.specs.declared.fault.{ClaimFault.ClaimFault, PutRange.PutRange}
use Rattle.ring_words.specs.declared.read.{action.Action.Action, end.ReadEnd.ReadEnd}
use Rattle.ring_rings.specs.Reading.{Controls, EndsAt, ReadsTo}
use Rattle.ring_rings.specs.declared.fault.TryFault.TheVariants as try
use Rattle.ring_ends.specs.Claims.{claim_numbered}
use Rattle.ring_ends.specs.Claiming.{Keeps, KeepsNone, OfEnd, Puts, Settles}
use Rattle.ring_ends.specs.{End.Does, End.End, End.Sends, End.WritesAlone, Held.Comes, Held.IsHeld, Held.held_in}
use Rattle.ring_ends.specs.declared.claiming.{ClaimRefused.TheVariants.Refused, NumberFault.NumberFault}
use Rattle.ring_ends.specs.declared.claiming.NumberFault.TheVariants as number
use Rattle.ring_scenario.specs.Printing.{Printed, Prints, unprinted}
use Rattle.ring_scenario.specs.RefusalTexts.{claim_refused, put_refused}
use Rattle.ring_scenario.specs.Texts.{answer_text, claimed_text, done_text, ok_text, read_text}
use Rattle.ring_scenario.specs.declared.ring.{RunRing.RunRing, Claimed.Claimed}

-- all of a ring is as it was, except its producer
abbrev pub KeepsButProducing : RunRing → RunRing → Type 0
KeepsButProducing old new = (new.consumer ≡ old.consumer) × (new.places ≡ old.places)

-- all of a ring is as it was, except its consumer
abbrev pub KeepsButReading : RunRing → RunRing → Type 0
KeepsButReading old new = (new.producer ≡ old.producer) × (new.places ≡ old.places)

-- no claim of this number is open
abbrev pub HasNoClaim : RunRing → ℕ → Type 0
HasNoClaim r number =
    (place : ℕ) → IsHeld (held_in r.places) number place → claim_numbered place r.producer.claims ≡ None

-- the producer's end made this call, and printed its result
pub record CallsLine {R : Type 0} (Call : End → R → End → Type 0) (print : R → List ℕ) (old new : RunRing)
    (text : List ℕ) : Type 0 where
  pub result : R
  pub calls : OfEnd Call old.producer result new.producer
  pub rest : KeepsButProducing old new
  pub prints : text ≡ print result

-- a message was written, or refused
pub record WritesLine (type_id : ℤ) (body : List ℕ) (old new : RunRing) (text : List ℕ) : Type 0 where
  pub written : Result (Unit {0}) ClaimFault
  pub sent : OfEnd (Sends type_id body) old.producer written new.producer
  pub wrote : OfEnd (Does (WritesAlone old.producer.end.many old.producer.end.capacity type_id body)) old.producer
      written new.producer
  pub rest : KeepsButProducing old new
  pub prints : text ≡ done_text claim_refused written

-- a claim was made, which has the next number
pub record MakesNumber (type_id : ℤ) (len : ℕ) (old : RunRing) (claimed : Claimed) (new : RunRing) : Type 0 where
  pub place : ℕ
  pub keeps : Keeps type_id len old.producer (record { number = place; index = claimed.index }) new.producer
  pub comes : Comes place (held_in old.places) claimed.number (held_in new.places)

-- the result of a try to claim
abbrev pub ClaimsNumber : ℤ → ℕ → RunRing → Result Claimed ClaimFault → RunRing → Type 0
ClaimsNumber type_id len old tried new = MatchResult tried (λ claimed. MakesNumber type_id len old claimed new)
    (λ fault. KeepsNone type_id len old.producer (Refused (try.Refused fault)) new.producer
    × (held_in new.places ≡ held_in old.places))

-- room was claimed, or refused
pub record ClaimsLine (type_id : ℤ) (len : ℕ) (old new : RunRing) (text : List ℕ) : Type 0 where
  pub tried : Result Claimed ClaimFault
  pub claimed : ClaimsNumber type_id len old tried new
  pub consumer : new.consumer ≡ old.consumer
  pub prints : text ≡ answer_text claimed_text claim_refused tried

-- the result of the producer's call, if the claim was open
abbrev pub of_open : Result (Unit {0}) PutRange → Result (Unit {0}) NumberFault
of_open (Ok x) = Ok tt
of_open (Err fault) = Err number.PutRange

-- the result of a try to put bytes into the claim of this number, which was open
pub record PutsNumber (number offset : ℕ) (bytes : List ℕ) (old : RunRing) (tried : Result (Unit {0}) PutRange)
    (new : RunRing) : Type 0 where
  pub place : ℕ
  pub numbered : IsHeld (held_in old.places) number place
  pub put : Puts place offset bytes old.producer (of_open tried) new.producer

-- bytes were put into the claim of this number, or refused
pub record PutsLine (number offset : ℕ) (bytes : List ℕ) (old new : RunRing) (text : List ℕ) : Type 0 where
  pub tried : Result (Unit {0}) PutRange
  pub put : PutsNumber number offset bytes old tried new
  pub rest : KeepsButProducing old new
  pub prints : text ≡ done_text put_refused tried

-- the claim of this number, which was open, was settled
pub record SettlesNumber (state : ClaimState) (number : ℕ) (old new : RunRing) : Type 0 where
  pub place : ℕ
  pub numbered : IsHeld (held_in old.places) number place
  pub settled : Settles state place old.producer (Ok tt) new.producer

abbrev pub SettlesLine : ClaimState → ℕ → RunRing → RunRing → List ℕ → Type 0
SettlesLine state number old new text =
    SettlesNumber state number old new × KeepsButProducing old new × (text ≡ ok_text)

-- at most `limit` messages were read, and each was printed
pub record ReadsLine (limit : ℕ) (old new : RunRing) (text : List ℕ) : Type 0 where
  pub end : ReadEnd
  pub printed : Printed
  pub reads : Does (λ v r w. ReadsTo Prints limit v w (unprinted []) printed r) old.consumer end new.consumer
  pub ends : EndsAt limit old.consumer.view new.consumer.view end
  pub rest : KeepsButReading old new
  pub prints : text ≡ printed.text ++ read_text end

-- At most `limit` messages were read, and each was printed. The read followed these actions, one for each message.
pub record ControlsLine (limit : ℕ) (actions : List Action) (old new : RunRing) (text : List ℕ) : Type 0 where
  pub end : ReadEnd
  pub printed : Printed
  pub controls : Does (λ v r w. Controls Prints limit v w (unprinted actions) printed r) old.consumer end new.consumer
  pub ends : EndsAt limit old.consumer.view new.consumer.view end
  pub rest : KeepsButReading old new
  pub prints : text ≡ printed.text ++ read_text end
