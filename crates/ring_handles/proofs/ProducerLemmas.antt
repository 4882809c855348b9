-- A producer in a handle, by what its calls say.
use Rattle.std.proofs.Common.{◌≡◌, ◌⊎◌, inl, inr, ℕ, ◌+◌, ◌<◌, pos, List, length, MatchOption, Option, None, Some, Result, Ok, Err, ◌≢◌, arith, ap, refl, ◌∙◌}
use Rattle.ring_layout.specs.declared.message.ClaimState.{ClaimState}
use Rattle.ring_words.specs.Open.{ClaimAt}
use Rattle.ring_rings.specs.{Bodies.PutsBytes, Claiming.try_code}
use Rattle.ring_ends.specs.{Claims.claim_numbered, Claims.without, End.AreOfOneRing, End.End}
use Rattle.ring_ends.specs.declared.claiming.NumberFault.{NumberFault, TheVariants.NoClaim, TheVariants.PutRange}
use Rattle.ring_ends.specs.Claiming.{NumberedClaims, Puts, Settles, SendsNumbered}
use Rattle.ring_rings.specs.declared.fault.TryFault.{TryFault, TheVariants.Refused, TheVariants.Contended}
use Rattle.ring_words.specs.declared.fault.ClaimFault.TheVariants.{BadType, TooLong, PositionLimit, InsufficientCapacity}
use Rattle.ring_handles.proofs.ConsumerLemmas.{not_zero}
use Rattle.ring_handles.specs.Producing.{holding, number_code, Declined, Put, SendsClaim, Settled}
use Rattle.ring_handles.specs.{Side.knowing, Side.side, declared.identity.Identity.Identity}

-- what follows if there is a claim of a number, and if there is none
of_claim : {A B : Type 0} {P Q : ClaimAt → Type 0} → (A → B) → ((t : ClaimAt) → P t → Q t) → (o : Option ClaimAt)
    → MatchOption o A P → MatchOption o B Q
of_claim none some None a = none a
of_claim none some (Some t) x = some t x

-- a refused try has a code above 0
pub refused_code : (fault : TryFault) → try_code fault ≢ pos 0
refused_code (Refused (BadType a)) = not_zero (pos 4) 4 (omega arith) refl
refused_code (Refused (TooLong a b)) = not_zero (pos 5) 5 (omega arith) refl
refused_code (Refused (PositionLimit a)) = not_zero (pos 6) 6 (omega arith) refl
refused_code (Refused (InsufficientCapacity a b)) = not_zero (pos 7) 7 (omega arith) refl
refused_code (Contended a b) = not_zero (pos 8) 8 (omega arith) refl

-- what was sent, by the code of a call that commits a claim
pub sends_claim : (number : ℕ) (p q : NumberedClaims) (r : Result (Unit {0}) NumberFault) → SendsNumbered number p r q
    → SendsClaim number p.end.view q.end.view (number_code r)
sends_claim number p q (Ok x) sends = inl (refl, sends.0)
sends_claim number p q (Err NoClaim) sends = inr (not_zero (pos 104) 104 (omega arith) refl, sends.1)
sends_claim number p q (Err PutRange) sends = inr (not_zero (pos 9) 9 (omega arith) refl, sends.1)

module _ (i : Identity) (p q : NumberedClaims) where
  -- what became of the producer, by its end and its claims
  pub side_is : (claims : List ClaimAt) → AreOfOneRing p.end q.end → q.claims ≡ claims
      → side i q ≡ holding claims (knowing q.end.view (side i p))
  side_is claims same kept = ap (λ (e : End). side i (record { end = e; claims = q.claims })) same
      ∙ ap (λ cs. holding cs (knowing q.end.view (side i p))) kept

  pub put_is : (number offset : ℕ) (bytes : List ℕ) (r : Result (Unit {0}) NumberFault) → Puts number offset bytes p r q
      → Put number offset bytes (side i p) (side i q) (number_code r)
  put_is number offset bytes r puts = of_claim (λ none. (ap number_code none.0, ap (side i) none.1))
      (λ t both. elim both as (λ _. ((number_code r ≡ pos 0) × (side i q ≡ knowing q.end.view (side i p))
      × PutsBytes t.place offset bytes p.end.view q.end.view)
      ⊎ ((t.len < offset + length bytes) × Declined (pos 9) (side i p) (side i q) (number_code r))) [
        | inl did ↦ inl (ap number_code did.0, side_is p.claims did.2.0 did.1, did.2.1)
        | inr past ↦ inr (past.1, (ap number_code past.0, ap (side i) past.2))
      ]) (claim_numbered number p.claims) puts

  pub settled_is : (state : ClaimState) (number : ℕ) (r : Result (Unit {0}) NumberFault) → Settles state number p r q
      → Settled state number (side i p) (side i q) (number_code r)
  settled_is state number r settles = of_claim (λ none. (ap number_code none.0, ap (side i) none.1))
      (λ t did. (
        ap number_code did.0,
        side_is (without number p.claims) did.2.0 did.1
            ∙ ap (λ v. holding (without number p.claims) (knowing v (side i p))) did.2.1,
      )) (claim_numbered number p.claims) settles
