-- What steps and seats leave of claims and of the read, as the shelf asks it.
use Rattle.std.proofs.Common.{◌≡◌, ◌≢◌, ℕ, zero, suc, ◌≤◌, ◌<◌, ◌⊎◌, List, [], ◌∷◌, ◌++◌, Bool, true, false, cond, ltb, set, slice_index, sym, refl, ap, ◌∙◌, subst, inl, inr, ⊎_elim, arith}
use Rattle.std.proofs.Math.{Option.Option, Option.some, Option.some-injective, Option.some-ne-none, Decide.ℕ_discrete}
use Rattle.std.proofs.{Math.Logic.dite, Math.ListN.get_elem?, lemmas.Bool.false≢true}
use Rattle.atomic_table.specs.Table.{State, carried_after, keeps, Allows, Splits, Joins}
use Rattle.ring_table.specs.Staged.{Bodies, in_words, elsewhere, StagedClaim, IsStored, AreRising}
use Rattle.ring_table.specs.{Changes.changed, Changes.changed_at, Changes.fresh_stage, Rule.Kept, Shelf.HasShelf}
use Rattle.ring_table.specs.{Owners.insert_claim, Owners.interleaved, ProducerSteps.Mine, ProducerSteps.HasClaim}
use Rattle.ring_table.specs.Views.{View, without_consumer, consumer_alone, with_consumer_of, without_share, producer_alone, with_producer_of, with_claims, with_claim, spent}
use Rattle.ring_table.proofs.{ListLemmas.at_more, LoadLemmas.Ok}
use Rattle.ring_table.proofs.{HistoryLemmas.changed_at_place, HistoryLemmas.changed_at_other, LawLemmas.above_at}
use Rattle.ring_table.proofs.ShelfLemmas.{IsAsWas, HasWas, CarriesOn, CarriesIn, stepped_shelf, parted_shelf, met_shelf}

-- ---- views

has_same : (v : View) (k : ℕ) (c : StagedClaim) → HasClaim v k c → IsStored c.stage → HasWas v c
has_same v k c has stored = record {
  nth = k;
  claim = c;
  has = has;
  was = record { stored = stored; place = refl; message = refl };
}

-- claims, the seat's kind and the head are as they were
pub carries_same : {v w : View} → w.producer.claims ≡ v.producer.claims → w.consumes ≡ v.consumes
    → w.consumer.head ≡ v.consumer.head → CarriesOn v w
carries_same {v} {w} claims kind head = record {
  carries = record {
    claims = λ k c has stored. has_same v k c (subst (λ l. get_elem? l k ≡ some c) claims has) stored;
    reads = λ consumes. (sym kind ∙ consumes, omega arith);
  };
  stays = λ consumes. kind ∙ consumes;
}

-- and the head rises
pub carries_on : {v w : View} → w.producer.claims ≡ v.producer.claims → w.consumes ≡ v.consumes
    → v.consumer.head ≤ w.consumer.head → CarriesOn v w
carries_on {v} {w} claims kind head = record {
  carries = record {
    claims = λ k c has stored. has_same v k c (subst (λ l. get_elem? l k ≡ some c) claims has) stored;
    reads = λ consumes. (sym kind ∙ consumes, head);
  };
  stays = λ consumes. kind ∙ consumes;
}

unstored : (b : Bool) → IsStored (fresh_stage b) → ⊥
unstored true stored = stored
unstored false stored = stored

-- a claim is made
pub carries_claim : (v : View) (c : StagedClaim) (b : Bool) (tail : ℕ) → c.stage ≡ fresh_stage b
    → CarriesOn v (with_claim c tail v)
carries_claim v c b tail fresh = record {
  carries = record {
    claims = λ k d has stored. ⊎_elim
        (λ was. has_same v k d was stored)
        (λ t. absurd (unstored b (subst IsStored (ap (λ (z : StagedClaim). z.stage) (sym t.1) ∙ fresh) stored)))
        (at_more v.producer.claims c d k has);
    reads = λ consumes. (consumes, omega arith);
  };
  stays = λ consumes. consumes;
}

pub was_changed : (p : ℕ) (f : StagedClaim → StagedClaim) (cs : List StagedClaim) (k : ℕ) (c : StagedClaim)
    → get_elem? (changed p f cs) k ≡ some c
    → (d : StagedClaim) × (get_elem? cs k ≡ some d) × (changed_at p f d ≡ c)
was_changed p f [] k c e = absurd (some-ne-none c (sym e))
was_changed p f (d ∷ ds) zero c e = (d, refl, some-injective (changed_at p f d) c e)
was_changed p f (d ∷ ds) (suc k) c e = was_changed p f ds k c e

-- an own claim is changed, which keeps its place and body if its header is stored
pub carries_changed : (v : View) (p : ℕ) (f : StagedClaim → StagedClaim)
    → ((k : ℕ) (d : StagedClaim) → HasClaim v k d → d.place ≡ p → IsStored (f d).stage → IsAsWas d (f d))
    → CarriesOn v (with_claims (changed p f v.producer.claims) v)
carries_changed v p f keeps_it = record {
  carries = record {
    claims = λ k c has stored.
        let t = was_changed p f v.producer.claims k c has in
        dite (ℕ_discrete t.0.place p)
        (λ here.
        let is : f t.0 ≡ c = sym (changed_at_place p f t.0 here) ∙ t.2 in record {
          nth = k;
          claim = t.0;
          has = t.1;
          was = subst (IsAsWas t.0) is (keeps_it k t.0 t.1 here (subst (λ (z : StagedClaim). IsStored z.stage) (sym is)
              stored));
        })
        (λ other. has_same v k c (t.1 ∙ ap some (sym (changed_at_other p f t.0 other) ∙ t.2)) stored);
    reads = λ consumes. (consumes, omega arith);
  };
  stays = λ consumes. consumes;
}

-- of claims whose places rise, there is one at each place
pub one_claim : (cs : List StagedClaim) (j k : ℕ) (c d : StagedClaim) → AreRising cs → get_elem? cs j ≡ some c
    → get_elem? cs k ≡ some d → c.place ≡ d.place → c ≡ d
one_claim [] j k c d rising at_j at_k same = absurd (some-ne-none c (sym at_j))
one_claim (x ∷ xs) zero zero c d rising at_j at_k same = sym (some-injective x c at_j) ∙ some-injective x d at_k
one_claim (x ∷ xs) zero (suc k) c d rising at_j at_k same =
    let above : x.place < d.place = above_at x.place xs k d rising.0 at_k in
    let is : x.place ≡ c.place = ap (λ (z : StagedClaim). z.place) (some-injective x c at_j) in
    absurd (omega arith)
one_claim (x ∷ xs) (suc j) zero c d rising at_j at_k same =
    let above : x.place < c.place = above_at x.place xs j c rising.0 at_j in
    let is : x.place ≡ d.place = ap (λ (z : StagedClaim). z.place) (some-injective x d at_k) in
    absurd (omega arith)
one_claim (x ∷ xs) (suc j) (suc k) c d rising at_j at_k same = one_claim xs j k c d rising.1 at_j at_k same

-- ---- two producers

of_insert : (y : StagedClaim) (l : List StagedClaim) (k : ℕ) (c : StagedClaim) → get_elem? (insert_claim y l) k ≡ some c
    → (c ≡ y) ⊎ ((j : ℕ) × (get_elem? l j ≡ some c))
of_insert y [] zero c e = inl (sym (some-injective y c e))
of_insert y [] (suc k) c e = absurd (some-ne-none c (sym e))
of_insert y (d ∷ ds) k c e = pick (ltb y.place d.place) d (λ j f. of_insert y ds j c f) k e
  where
    pick : (b : Bool) (d : StagedClaim)
        → ((j : ℕ) → get_elem? (insert_claim y ds) j ≡ some c → (c ≡ y) ⊎ ((i : ℕ) × (get_elem? ds i ≡ some c)))
        → (k : ℕ) → get_elem? (cond b (y ∷ d ∷ ds) (d ∷ insert_claim y ds)) k ≡ some c
        → (c ≡ y) ⊎ ((i : ℕ) × (get_elem? (d ∷ ds) i ≡ some c))
    pick true d more zero e = inl (sym (some-injective y c e))
    pick true d more (suc k) e = inr (k, e)
    pick false d more zero e = inr (0, e)
    pick false d more (suc k) e = ⊎_elim (λ (t : c ≡ y). inl t)
        (λ (t : (i : ℕ) × (get_elem? ds i ≡ some c)). inr (suc t.0, t.1)) (more k e)

of_both : (xs ys : List StagedClaim) (k : ℕ) (c : StagedClaim) → get_elem? (interleaved xs ys) k ≡ some c
    → ((j : ℕ) × (get_elem? xs j ≡ some c)) ⊎ ((j : ℕ) × (get_elem? ys j ≡ some c))
of_both xs [] k c e = inl (k, e)
of_both xs (y ∷ ys) k c e = ⊎_elim (λ (t : c ≡ y). inr (0, ap some (sym t)))
    (λ (t : (j : ℕ) × (get_elem? (interleaved xs ys) j ≡ some c)). ⊎_elim
    (λ (t' : (j : ℕ) × (get_elem? xs j ≡ some c)). inl t')
    (λ (t' : (j : ℕ) × (get_elem? ys j ≡ some c)). inr (suc t'.0, t'.1)) (of_both xs ys t.0 c t.1))
    (of_insert y (interleaved xs ys) k c e)

-- ---- the rule

abbrev pub Holds : Bodies → ℕ → ℕ → State ℕ View → Type 0
Holds B C start s = Kept B C start s.words s.views × HasShelf B C s.homes s.views

step_shelf : (B : Bodies) (C : ℕ) (homes : List (Option ℕ)) (views : List View) (id : ℕ) (v w : View)
    → get_elem? views id ≡ some v → v.out ≡ [] → w.out ≡ [] → CarriesIn B v w → HasShelf B C homes views
    → HasShelf B C homes (set views id w)
step_shelf in_words C homes views id v w at none none' carries s = tt
step_shelf elsewhere C homes views id v w at none none' carries s =
    stepped_shelf C homes views s id v at none w none' carries

-- a step that takes and gives no slots keeps the whole rule
pub lift : (B : Bodies) (C start slots id : ℕ) (me : Mine) (i : ℕ) (f : ℕ → ℕ) (told : ℕ → Mine → Type 0)
    → me.0.out ≡ [] → ((n : ℕ) (me' : Mine) → told n me' → (s : State ℕ View) → Ok B C start s
    → get_elem? s.views id ≡ some me.0 → (me'.1 ≡ me.1) × (me'.0.out ≡ me.0.out) × CarriesIn B me.0 me'.0)
    → Allows (Ok B C start) slots id me i f told → Allows (Holds B C start) slots id me i f told
lift B C start slots id me i f told none carries allows s r wide at small =
    let t = allows s r.0 wide at small in
    let n : ℕ = slice_index s.words i in
    let c = carries n (t.0, carried_after me.1 t.1) t.4 s r.0 at in (
      t.0,
      keeps,
      tt,
      (t.3, step_shelf B C s.homes s.views id me.0 t.0 at none (c.1 ∙ none) c.2 r.1),
      subst (λ (held : List (ℕ × ℕ)). told n (t.0, held)) c.0 t.4,
    )

module _ (B : Bodies) (C : ℕ) (homes : List (Option ℕ)) (views : List View) (id : ℕ) (v : View)
    (at : get_elem? views id ≡ some v) (none : v.out ≡ []) where
  nothing_claimed : (k : ℕ) (c : StagedClaim) → get_elem? [] k ≡ some c → ⊥
  nothing_claimed k c has = some-ne-none c (sym has)

  consumer_parts : (B : Bodies) → HasShelf B C homes views
      → HasShelf B C homes (set views id (without_consumer v) ++ consumer_alone v ∷ [])
  consumer_parts in_words s = tt
  consumer_parts elsewhere s = parted_shelf C homes views s id v at none (without_consumer v) (consumer_alone v)
      none refl
      (record {
        claims = λ k c has stored. has_same v k c has stored;
        reads = λ consumes. absurd (false≢true consumes);
      })
      (record {
        claims = λ k c has stored. absurd (nothing_claimed k c has);
        reads = λ consumes. (consumes, omega arith);
      })
      (λ consumes. inr consumes)

  producer_parts : (B : Bodies) → HasShelf B C homes views
      → HasShelf B C homes (set views id (without_share v) ++ producer_alone v ∷ [])
  producer_parts in_words s = tt
  producer_parts elsewhere s = parted_shelf C homes views s id v at none (without_share v) (producer_alone v) none refl
      (record {
        claims = λ k c has stored. has_same v k c has stored;
        reads = λ consumes. (consumes, omega arith);
      })
      (record {
        claims = λ k c has stored. absurd (nothing_claimed k c has);
        reads = λ consumes. absurd (false≢true consumes);
      })
      (λ consumes. inl consumes)

  module _ (other : ℕ) (w : View) (ne : other ≢ id) (none_w : w.out ≡ []) where
    consumer_meets : (B : Bodies) → w.consumes ≡ true → get_elem? (set views id (with_consumer_of v w)) other ≡ some w
        → HasShelf B C homes views → HasShelf B C homes (set (set views id (with_consumer_of v w)) other spent)
    consumer_meets in_words is there s = tt
    consumer_meets elsewhere is there s = met_shelf C homes views s id v at none other w (with_consumer_of v w) spent ne
        there none_w none
        (record {
          claims = λ k c has stored. inl (has_same v k c has stored);
          reads = λ consumes. inr (consumes, omega arith);
          first = λ _. is;
          second = λ _. is;
        })
        refl nothing_claimed (λ consumes. false≢true consumes)

    producer_meets : (B : Bodies) → w.consumes ≡ false → get_elem? (set views id (with_producer_of v w)) other ≡ some w
        → HasShelf B C homes views → HasShelf B C homes (set (set views id (with_producer_of v w)) other spent)
    producer_meets in_words is_not there s = tt
    producer_meets elsewhere is_not there s = met_shelf C homes views s id v at none other w (with_producer_of v w) spent ne
        there none_w none
        (record {
          claims = λ k c has stored. ⊎_elim
              (λ (t : (j : ℕ) × (get_elem? v.producer.claims j ≡ some c)). inl (has_same v t.0 c t.1 stored))
              (λ (t : (j : ℕ) × (get_elem? w.producer.claims j ≡ some c)). inr (has_same w t.0 c t.1 stored))
              (of_both v.producer.claims w.producer.claims k c has);
          reads = λ consumes. inl (consumes, omega arith);
          first = λ consumes. consumes;
          second = λ consumes. absurd (false≢true (sym is_not ∙ consumes));
        })
        refl nothing_claimed (λ consumes. false≢true consumes)

module _ (B : Bodies) (C start id : ℕ) (v : View) (none : v.out ≡ []) where
  pub lift_consumer_split : Splits (λ (s : State ℕ View). Kept B C start s.words s.views) id v
      (without_consumer v) (consumer_alone v) → Splits (Holds B C start) id v (without_consumer v) (consumer_alone v)
  lift_consumer_split splits s r at = (splits s r.0 at, consumer_parts B C s.homes s.views id v at none B r.1)

  pub lift_producer_split : Splits (λ (s : State ℕ View). Kept B C start s.words s.views) id v
      (without_share v) (producer_alone v) → Splits (Holds B C start) id v (without_share v) (producer_alone v)
  lift_producer_split splits s r at = (splits s r.0 at, producer_parts B C s.homes s.views id v at none B r.1)

  pub lift_consumer_join : (other : ℕ) (w : View) → w.out ≡ [] → w.consumes ≡ true
      → Joins (λ (s : State ℕ View). Kept B C start s.words s.views) id v other w (with_consumer_of v w) spent
      → Joins (Holds B C start) id v other w (with_consumer_of v w) spent
  lift_consumer_join other w none_w is joins s r at ne there =
      (joins s r.0 at ne there, consumer_meets B C s.homes s.views id v at none other w ne none_w B is there r.1)

  pub lift_producer_join : (other : ℕ) (w : View) → w.out ≡ [] → w.consumes ≡ false
      → Joins (λ (s : State ℕ View). Kept B C start s.words s.views) id v other w (with_producer_of v w) spent
      → Joins (Holds B C start) id v other w (with_producer_of v w) spent
  lift_producer_join other w none_w is_not joins s r at ne there =
      (joins s r.0 at ne there, producer_meets B C s.homes s.views id v at none other w ne none_w B is_not there r.1)
