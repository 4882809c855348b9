-- What the last state of a closed ring says.
use Rattle.ring_table.specs.Staged.{Bodies, in_words, StagedClaim, AreStored, staged_word_at, staged_end}
use Rattle.std.proofs.Common.{◌≡◌, ◌≢◌, ℕ, ◌≤◌, List, ◌∷◌, cond, true, sym, ap, ◌∙◌, subst, ⊎_elim, length, le-ltb, arith}
use Rattle.std.proofs.Math.{Option.some, ListN.get_elem?}
use Rattle.ring_layout.{specs.Places.end_of, specs.Picture.word_at, proofs.Sums.total-sole, specs.Refusals.all_shares}
use Rattle.ring_table.specs.{Owners.OwnedHistory, Owners.all_of, Closed.IsClosed, Closed.restarted, Closed.LeavesRest}
use Rattle.ring_table.specs.Services.{times_drawn, once_below, AreServed}
use Rattle.ring_table.{specs.Views.ConsumerView, specs.Views.View, proofs.ListLemmas.there_or_past}
use Rattle.ring_table.specs.Rule.{IsLawful, IsMemory, IsService, IsIdle, Kept}
use Rattle.ring_table.proofs.{OwnerLemmas.owned_by-sole, StepLemmas.others_poor, StepLemmas.sole_sees_top}
use Rattle.ring_table.proofs.RestLemmas.{end_of-claims_of, staged_word_at-claims_of, splits, stored_rest, claims_of-restarted}

-- what the last state says, of any ring
pub record Closes (B : Bodies) (C start : ℕ) (words : List ℕ) (v : View) : Type 0 where
  pub lawful : IsLawful C start
  pub hist : OwnedHistory
  pub claims_are : v.producer.claims ≡ all_of hist
  pub drawn : ℕ
  pub memory : IsMemory B C start words (all_of hist) v.consumer
  pub service : IsService C words v.consumer drawn
  pub once : (x : ℕ) → times_drawn x v.producer ≡ once_below x drawn
  pub served : AreServed drawn v.consumer.heartbeats (v.producer.service ∷ v.producer.joined)
  pub sees_tail : v.producer.seen_tail ≡ staged_end start (all_of hist)

module _ (B : Bodies) (C start : ℕ) (words : List ℕ) (views : List View) (r : Kept B C start words views) (id : ℕ)
    (v : View) (at : get_elem? views id ≡ some v) (all : v.producer.shares ≡ all_shares) where
  -- the other seats have neither claims nor draws
  pub idle : (j : ℕ) (u : View) → j ≢ id → get_elem? views j ≡ some u → IsIdle u.producer
  idle j u ne there = (r.seated.each j u there).idle (others_poor views id j v u r.seated.shares at all ne there)

  -- so all claims are its own
  pub all_own : v.producer.claims ≡ all_of r.hist
  all_own = (r.seated.each id v at).claims ∙ owned_by-sole id r.hist (λ j ne. ⊎_elim
      (λ (t : (u : View) × (get_elem? views j ≡ some u)). sym (r.seated.each j t.0 t.1).claims ∙ (idle j t.0 ne t.1).claims)
      (λ (past : length views ≤ j). r.seated.nobody j past) (there_or_past views j))

  pub closes : v.consumes ≡ true → Closes B C start words v
  closes consumes =
      let own = r.seated.each id v at in
      let mine = (own.consumes consumes).1 in
      record {
        lawful = r.lawful;
        hist = r.hist;
        claims_are = all_own;
        drawn = r.drawn;
        memory = subst (λ (z : ConsumerView). IsMemory B C start words (all_of r.hist) z) (sym mine) r.memory;
        service = subst (λ (z : ConsumerView). IsService C words z r.drawn) (sym mine) r.service;
        once = λ x. sym (total-sole (λ (z : View). times_drawn x z.producer) views id v at
            (λ j u ne there. (idle j u ne there).draws x)) ∙ r.seated.once x;
        served = subst (λ (z : ConsumerView). AreServed r.drawn z.heartbeats (v.producer.service ∷ v.producer.joined))
            (sym mine) own.served;
        sees_tail = sole_sees_top views id v (staged_end start (all_of r.hist)) r.seated.shares r.seated.latest at all;
      }

-- bodies lie in words
pub closed_words : (C start : ℕ) (words : List ℕ) (v : View) → Closes in_words C start words v → IsClosed C start words v
closed_words C start words v k = record {
  lawful = k.lawful;
  drawn = k.drawn;
  memory = subst (λ (z : List StagedClaim). IsMemory in_words C start words z v.consumer) (sym k.claims_are) k.memory;
  service = k.service;
  once = k.once;
  served = k.served;
  sees_tail = k.sees_tail ∙ ap (staged_end start) (sym k.claims_are);
}

pub leaves_rest : (C start : ℕ) (words : List ℕ) (v : View) → IsClosed C start words v → AreStored v.producer.claims
    → v.consumer.cleared ≡ v.consumer.head → LeavesRest C words v
leaves_rest C start words v closed stored none_cleared =
    let m = closed.memory in
    let head : ℕ = v.consumer.head in
    let t = splits in_words C head start v.producer.claims v.consumer.taken closed.lawful.capacity.least m.placed m.took in
    let left : List StagedClaim = restarted head t.rest in
    let left_stored : AreStored left = stored_rest head t.taken t.rest (subst AreStored t.whole stored) in
    let same = claims_of-restarted head t.rest in
    record {
      taken = t.taken;
      rest = t.rest;
      whole = t.whole;
      settled = t.settled;
      messages = t.messages;
      placed = t.placed;
      end_is = m.tail_is ∙ sym t.ends ∙ sym (end_of-claims_of C head left t.placed) ∙ ap (end_of C head) same;
      picture = λ p p8 p0 p1.
          m.shows p p8 p0 p1 ∙ ap (λ b. cond b 0 (staged_word_at in_words v.producer.claims p))
          (le-ltb p v.consumer.cleared (omega arith))
          ∙ t.words p p0 ∙ staged_word_at-claims_of C head left p t.placed left_stored
          ∙ ap (λ l. word_at C head l p) same;
    }
