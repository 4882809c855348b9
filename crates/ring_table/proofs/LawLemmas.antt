-- Claims put together, counted, and changed.
use Rattle.std.proofs.Common.{◌≡◌, ◌≢◌, ℕ, zero, suc, ◌+◌, ◌≤◌, ◌<◌, List, [], ◌∷◌, ◌++◌, cond, sym, refl, ap, ◌∙◌, subst, inl, inr, lt-ltb, le-ltb, arith}
use Rattle.std.proofs.Math.{Option.some, Option.some-injective, Option.some-ne-none, ListN.get_elem?}
use Rattle.std.proofs.lemmas.Bool.{cases_lt}
use Rattle.ring_layout.specs.declared.message.ClaimState.TheVariants.{Open, Committed, Aborted}
use Rattle.ring_table.specs.Staged.{StagedClaim, Stage, Moved, Padded, Stored, stage_state, claim_end, AreAbove, AreRising, AreStored, IsStored}
use Rattle.ring_table.specs.Changes.{changed}
use Rattle.ring_table.specs.{Owners.insert_claim, Owners.interleaved, Passing.IsSettled, Passing.AreSettled}
use Rattle.ring_table.specs.{ProducerSteps.EndBelow, OpenClaims.one_if_open, OpenClaims.open_count, OpenClaims.AreBelow}
use Rattle.ring_table.proofs.HistoryLemmas.{changed_at_place, changed_at_other}

-- ---- a claim at the end

insert_claim-append : (c y : StagedClaim) (l : List StagedClaim) → y.place < c.place
    → insert_claim y (l ++ c ∷ []) ≡ insert_claim y l ++ c ∷ []
insert_claim-append c y [] lt = ap (λ b. cond b (y ∷ c ∷ []) (c ∷ insert_claim y [])) (lt-ltb y.place c.place lt)
insert_claim-append c y (d ∷ ds) lt =
    elim (cases_lt y.place d.place) as (λ _. insert_claim y (d ∷ (ds ++ c ∷ [])) ≡ insert_claim y (d ∷ ds) ++ c ∷ []) [
      | inl before ↦
          let first = lt-ltb y.place d.place before in
          ap (λ b. cond b (y ∷ d ∷ (ds ++ c ∷ [])) (d ∷ insert_claim y (ds ++ c ∷ []))) first
          ∙ sym (ap (λ b. cond b (y ∷ d ∷ ds) (d ∷ insert_claim y ds) ++ c ∷ []) first)
      | inr behind ↦
          let later = le-ltb y.place d.place behind in
          ap (λ b. cond b (y ∷ d ∷ (ds ++ c ∷ [])) (d ∷ insert_claim y (ds ++ c ∷ []))) later
          ∙ ap (λ l. d ∷ l) (insert_claim-append c y ds lt)
          ∙ sym (ap (λ b. cond b (y ∷ d ∷ ds) (d ∷ insert_claim y ds) ++ c ∷ []) later)
    ]

insert_claim_last : (c : StagedClaim) (l : List StagedClaim) → AreBelow c.place l → insert_claim c l ≡ l ++ c ∷ []
insert_claim_last c [] below = refl
insert_claim_last c (d ∷ ds) below =
    ap (λ b. cond b (c ∷ d ∷ ds) (d ∷ insert_claim c ds)) (le-ltb c.place d.place (omega arith))
    ∙ ap (λ l. d ∷ l) (insert_claim_last c ds below.1)

-- a claim after all others that joins one producer's claims is at the end of the whole
pub interleaved-append_left : (c : StagedClaim) (xs ys : List StagedClaim) → AreBelow c.place ys
    → interleaved (xs ++ c ∷ []) ys ≡ interleaved xs ys ++ c ∷ []
interleaved-append_left c xs [] below = refl
interleaved-append_left c xs (y ∷ ys) below =
    ap (insert_claim y) (interleaved-append_left c xs ys below.1) ∙ insert_claim-append c y (interleaved xs ys) below.0

pub interleaved-append_right : (c : StagedClaim) (xs ys : List StagedClaim) → AreBelow c.place xs → AreBelow c.place ys
    → interleaved xs (ys ++ c ∷ []) ≡ interleaved xs ys ++ c ∷ []
interleaved-append_right c xs [] below_x below_y = insert_claim_last c xs below_x
interleaved-append_right c xs (y ∷ ys) below_x below_y =
    ap (insert_claim y) (interleaved-append_right c xs ys below_x below_y.1)
    ∙ insert_claim-append c y (interleaved xs ys) below_y.0

-- the claim that was made last may change alone
pub changed_newest : (from : ℕ) (cs : List StagedClaim) (c : StagedClaim) (f : StagedClaim → StagedClaim)
    → EndBelow from cs → from ≤ c.place → changed c.place f (cs ++ c ∷ []) ≡ cs ++ f c ∷ []
changed_newest from [] c f ends le = ap (λ d. d ∷ []) (changed_at_place c.place f c refl)
changed_newest from (d ∷ ds) c f ends le =
    let end_of_d : claim_end d ≤ from = ends 0 d refl in
    λ i. changed_at_other c.place f d (λ e. omega arith) i ∷ changed_newest from ds c f (λ k. ends (suc k)) le i

-- ---- open claims

count_of : StagedClaim → ℕ
count_of c = one_if_open (stage_state c.stage)

insert_count : (c : StagedClaim) (l : List StagedClaim) → open_count (insert_claim c l) ≡ count_of c + open_count l
unfolding count_of
insert_count c [] = refl
insert_count c (d ∷ ds) =
    elim (cases_lt c.place d.place) as (λ _. open_count (insert_claim c (d ∷ ds)) ≡ count_of c + open_count (d ∷ ds)) [
      | inl before ↦ ap (λ b. open_count (cond b (c ∷ d ∷ ds) (d ∷ insert_claim c ds))) (lt-ltb c.place d.place before)
      | inr behind ↦
          let one : ℕ = count_of c in
          let here : ℕ = count_of d in
          let rest : ℕ = open_count ds in
          let deep : ℕ = open_count (insert_claim c ds) in
          let deeper : deep ≡ one + rest = insert_count c ds in
          let sum : here + deep ≡ one + (here + rest) = omega arith in
          ap (λ b. open_count (cond b (c ∷ d ∷ ds) (d ∷ insert_claim c ds))) (le-ltb c.place d.place behind) ∙ sum
    ]

-- a join adds the open claims of both
pub open_count-interleaved : (xs ys : List StagedClaim) → open_count (interleaved xs ys) ≡ open_count xs + open_count ys
unfolding count_of
open_count-interleaved xs [] = let all : ℕ = open_count xs in let done : all ≡ all + 0 = omega arith in done
open_count-interleaved xs (y ∷ ys) =
    let one : ℕ = count_of y in
    let x : ℕ = open_count xs in
    let rest : ℕ = open_count ys in
    let both : ℕ = open_count (interleaved xs ys) in
    let deeper : both ≡ x + rest = open_count-interleaved xs ys in
    let sum : one + both ≡ x + (one + rest) = omega arith in
    insert_count y (interleaved xs ys) ∙ sum

-- a change at a place before all claims changes none
pub changed_none : (p : ℕ) (f : StagedClaim → StagedClaim) (cs : List StagedClaim) → AreAbove p cs → changed p f cs ≡ cs
changed_none p f [] above = refl
changed_none p f (c ∷ cs) above =
    λ i. changed_at_other p f c (λ e. omega arith) i ∷ changed_none p f cs above.1 i

pub above_at : (p : ℕ) (cs : List StagedClaim) (k : ℕ) (c : StagedClaim) → AreAbove p cs → get_elem? cs k ≡ some c
    → p < c.place
above_at p [] k c above e = absurd (some-ne-none c (sym e))
above_at p (d ∷ ds) zero c above e = subst (λ (z : StagedClaim). p < z.place) (some-injective d c e) above.0
above_at p (d ∷ ds) (suc k) c above e = above_at p ds k c above.1 e

-- if places rise, a change changes one claim, so the open claims change by that one
pub open_count-changed : (f : StagedClaim → StagedClaim) (cs : List StagedClaim) (k : ℕ) (c : StagedClaim)
    → AreRising cs → get_elem? cs k ≡ some c
    → open_count (changed c.place f cs) + one_if_open (stage_state c.stage)
    ≡ open_count cs + one_if_open (stage_state (f c).stage)
open_count-changed f [] k c rising e = absurd (some-ne-none c (sym e))
open_count-changed f (d ∷ ds) zero c rising e =
    let same : d ≡ c = some-injective d c e in
    let alone : changed d.place f (d ∷ ds) ≡ f d ∷ ds =
    λ i. changed_at_place d.place f d refl i ∷ changed_none d.place f ds rising.0 i in
    subst (λ (z : StagedClaim). open_count (changed z.place f (d ∷ ds)) + one_if_open (stage_state z.stage)
    ≡ open_count (d ∷ ds) + one_if_open (stage_state (f z).stage)) same
    (let old : ℕ = one_if_open (stage_state d.stage) in
    let new : ℕ = one_if_open (stage_state (f d).stage) in
    let rest : ℕ = open_count ds in
    let after : ℕ = open_count (changed d.place f (d ∷ ds)) in
    let after_is : after ≡ new + rest = ap open_count alone in
    let sum : after + old ≡ (old + rest) + new = omega arith in
    sum)
open_count-changed f (d ∷ ds) (suc k) c rising e =
    let above = above_at d.place ds k c rising.0 e in
    let other : d.place ≢ c.place = λ same. omega arith in
    let here : ℕ = one_if_open (stage_state d.stage) in
    let old : ℕ = one_if_open (stage_state c.stage) in
    let new : ℕ = one_if_open (stage_state (f c).stage) in
    let rest : ℕ = open_count ds in
    let deep : ℕ = open_count (changed c.place f ds) in
    let deeper : deep + old ≡ rest + new = open_count-changed f ds k c rising.1 e in
    let sum : here + deep + old ≡ here + rest + new = omega arith in
    ap (λ (z : StagedClaim). one_if_open (stage_state z.stage) + deep + old) (changed_at_other c.place f d other) ∙ sum

-- if no claim is open, all are settled, and their headers are stored
pub none_open : (cs : List StagedClaim) → open_count cs ≡ 0 → AreSettled cs × AreStored cs
none_open [] e = (tt, tt)
none_open (c ∷ cs) e =
    let here : ℕ = one_if_open (stage_state c.stage) in
    let rest : ℕ = open_count cs in
    let none_here : here ≡ 0 = omega arith in
    let none_there : rest ≡ 0 = omega arith in
    let t = none_open cs none_there in
    let settled = by_stage c.stage none_here in
    ((settled.0, t.0), (settled.1, t.1))
  where
    by_stage : (t : Stage) → one_if_open (stage_state t) ≡ 0 → IsSettled t × IsStored t
    by_stage Moved e = absurd (omega arith)
    by_stage Padded e = absurd (omega arith)
    by_stage (Stored Open) e = absurd (omega arith)
    by_stage (Stored Committed) e = (tt, tt)
    by_stage (Stored Aborted) e = (tt, tt)
