-- Records that are committed together, as one run.
use Rattle.std.specs.Prelude.{◌≡◌, ℕ, ◌+◌, ◌-◌, List, [], ◌∷◌, ◌++◌, ⊤, length, replicate}
use Rattle.ring_layout.specs.declared.message.{Message.Message, ClaimState.TheVariants.Committed}
use Rattle.ring_layout.specs.{History.IsMessage, History.span, Places.index}
use Rattle.ring_table.specs.Staged.{StagedClaim, Padded, Stored, claim_end, slot_bytes, staged_span}
use Rattle.ring_table.specs.{Passing.placed_message, ProducerSteps.Mine, SlotSteps.with_out, SlotSteps.HasBody}
use Rattle.ring_table.specs.Views.{with_claims}

-- the bytes that the slots of a message's record have, with zeros up to its end
abbrev pub padded_bytes : Message → List ℕ
padded_bytes m = slot_bytes m ++ replicate (span (length m.body) - (8 + length m.body)) 0

-- those of records one after another
abbrev pub run_slots : List Message → List ℕ
run_slots [] = []
run_slots (m ∷ ms) = padded_bytes m ++ run_slots ms

-- the bytes that these records take
abbrev pub run_bytes : List Message → ℕ
run_bytes [] = 0
run_bytes (m ∷ ms) = span (length m.body) + run_bytes ms

-- the committed claims of these messages, one after another from the position p on
abbrev pub run_claims : ℕ → List Message → List StagedClaim
run_claims p [] = []
run_claims p (m ∷ ms) = (record { from = p; place = p; message = m; stage = Stored Committed })
    ∷ run_claims (p + span (length m.body)) ms

-- messages that a ring of this capacity may have
abbrev pub AreMessages : ℕ → List Message → Type 0
AreMessages C [] = ⊤
AreMessages C (m ∷ ms) = IsMessage C m × AreMessages C ms

-- The mark of a run is stored in place of the newest claim, whose slots are out and have the records of the run. They go
-- home
abbrev pub StoresRun : Mine → Mine → Type 0
StoresRun me me' = (me'.1 ≡ []) × ((others : List StagedClaim) (c : StagedClaim) (i : ℕ) (ms : List Message)
    → me.0.producer.claims ≡ others ++ c ∷ [] → me.0.out ≡ placed_message c ∷ []
    → AreMessages me.0.capacity ms → HasBody i (run_slots ms) me.1
    → me'.0 ≡ with_out [] (with_claims (others ++ run_claims c.place ms) me.0))

-- The newest claim is at this place, has no padding and no header, and its slots are out, with the records of a run that
-- fills it
pub record HasRun (C place end : ℕ) (ms : List Message) (me : Mine) : Type 0 where
  pub others : List StagedClaim
  pub claim : StagedClaim
  pub claims : me.0.producer.claims ≡ others ++ claim ∷ []
  pub stage : claim.stage ≡ Padded
  pub plain : claim.from ≡ claim.place
  pub at_place : claim.place ≡ place
  pub out_is : me.0.out ≡ placed_message claim ∷ []
  pub first : Message
  pub rest : List Message
  pub messages : ms ≡ first ∷ rest
  pub are : AreMessages C ms
  pub bytes : run_bytes ms ≡ staged_span claim
  pub end_is : end ≡ claim_end claim
  pub slots : HasBody (index C place) (run_slots ms) me.1
