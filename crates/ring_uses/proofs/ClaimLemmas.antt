-- The message of a claim.
use Rattle.std.proofs.Common.{◌≡◌, ◌∙◌, ◌+◌, ◌<◌, ℕ, zero, suc, List, [], ◌∷◌, ◌++◌, length, replicate, sym, ap, subst, arith, append-nil}
use Rattle.std.proofs.Math.{Option.some, Option.some-injective, Option.some-ne-none, ListN.get_elem?}
use Rattle.std.proofs.lemmas.List.{drop_all, length-replicate}
use Rattle.ring_layout.specs.{declared.message.Message.Message, History.overwritten}
use Rattle.ring_words.specs.Open.{ClaimAt}
use Rattle.ring_table.specs.{declared.claim.StagedClaim.StagedClaim, Staged.AreAbove, Staged.AreRising}
use Rattle.ring_rings.specs.Ring.{SendsClaimedAt}
use Rattle.ring_ends.specs.End.{sent, End, HasMessage}

-- two claims at one place are one, if places rise
above_at : (q : ℕ) (cs : List StagedClaim) (k : ℕ) (c : StagedClaim) → AreAbove q cs → get_elem? cs k ≡ some c
    → q < c.place
above_at q [] k c above e = absurd (some-ne-none c (sym e))
above_at q (d ∷ ds) zero c above e = subst (λ (z : StagedClaim). q < z.place) (some-injective d c e) above.0
above_at q (d ∷ ds) (suc k) c above e = above_at q ds k c above.1 e

one_at : (cs : List StagedClaim) (k j : ℕ) (c d : StagedClaim) → AreRising cs → get_elem? cs k ≡ some c
    → get_elem? cs j ≡ some d → c.place ≡ d.place → c ≡ d
one_at [] k j c d rising at at' same = absurd (some-ne-none c (sym at))
one_at (e ∷ es) zero zero c d rising at at' same = sym (some-injective e c at) ∙ some-injective e d at'
one_at (e ∷ es) zero (suc j) c d rising at at' same =
    let lt = above_at e.place es j d rising.0 at' in
    let here : e.place ≡ c.place = ap (λ (z : StagedClaim). z.place) (some-injective e c at) in
    absurd (omega arith)
one_at (e ∷ es) (suc k) zero c d rising at at' same =
    let lt = above_at e.place es k c rising.0 at in
    let here : e.place ≡ d.place = ap (λ (z : StagedClaim). z.place) (some-injective e d at') in
    absurd (omega arith)
one_at (e ∷ es) (suc k) (suc j) c d rising at at' same = one_at es k j c d rising.1 at at' same

-- what a claim that is committed sends is the message that it has
pub commit_sends : (old new : End) (t : ClaimAt) (m : Message) → AreRising old.view.producer.claims
    → HasMessage old t.place m → SendsClaimedAt t.place old.view new.view → sent old ≡ [] → sent new ≡ m ∷ []
commit_sends old new t m rising has sends none = by sends.before sends.after (sym sends.was ∙ none) sends.is
  where
    same : sends.message ≡ m
    same =
        let one = one_at old.view.producer.claims sends.claimed.nth has.nth sends.claimed.claim has.claim rising
        sends.claimed.there has.there (sends.claimed.at_place ∙ sym has.at_place) in
        sym sends.claimed.holds ∙ ap (λ (c : StagedClaim). c.message) one ∙ has.holds

    by : (before after : List Message) → before ++ after ≡ [] → sent new ≡ before ++ sends.message ∷ after
        → sent new ≡ m ∷ []
    by [] [] none is = is ∙ ap (λ x. x ∷ []) same
    by [] (x ∷ after) none is = (let l = ap length none in absurd (omega (arith, l)))
    by (x ∷ before) after none is = (let l = ap length none in absurd (omega (arith, l)))

-- bytes put over as many zeros are all
pub all_put : (bytes : List ℕ) → overwritten 0 bytes (replicate (length bytes) 0) ≡ bytes
all_put bytes =
    let n = length bytes in
    ap (λ l. bytes ++ l) (drop_all (0 + n) (replicate n 0) (let l : length (replicate {A = ℕ} n 0) ≡ n = length-replicate n 0 in omega (arith, l))) ∙ append-nil bytes
