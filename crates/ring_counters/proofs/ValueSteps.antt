-- Each step on the values keeps their rule.
use Rattle.std.proofs.Common.{◌≡◌, ◌≢◌, ℕ, ℤ, zero, suc, ◌+◌, ◌-◌, ◌^◌, ◌<◌, Bool, true, false, true≢false, cond, eqb, List, [], ◌∷◌, ◌++◌, length, set, replicate, refl, sym, ap, ◌∙◌, subst, ⊎_elim, arith, slice_index, append-nil, append_assoc, get_or-set_same, get_or-set_other, FitsSigned, pos, w64, length-set}
use Rattle.std.{specs.Int.cast_signed, specs.Int.cast_unsigned, proofs.lemmas.Bool.Decides.eqb_tells}
use Rattle.std.proofs.lemmas.{List.length-replicate, List.set-get_or, Int.to_z-of_z, Int.of_z-to_z}
use Rattle.std.proofs.Math.{Option.some, Option.some-ne-none, Option.some-injective, ListN.get_elem?}
use Rattle.atomic_table.specs.Table.{State, keeps, Allows, Splits, Joins}
use Rattle.atomic_table.proofs.Lists.{at_snoc, set_else}
use Rattle.ring_counters.specs.declared.values.view.{ValueWrite.ValueWrite, ValueLoad.ValueLoad, ValuesView.ValuesView}
use Rattle.ring_counters.specs.Views.{value_write, value_load, values_view}
use Rattle.ring_layout.specs.{Lists.Begins, Lists.total, Refusals.all_shares}
use Rattle.ring_layout.proofs.{ListLemmas.each_set, Sums.total-set, Sums.total-append, Sums.total-least}
use Rattle.ring_counters.specs.ValueWrites.{value_from, value_after, AreLoads}
use Rattle.ring_counters.specs.ValuesRule.{KnowsWrites, ValuesRule}
use Rattle.ring_counters.specs.ValueSteps.{Loads, LearnsLoads, WritesValue}

-- ---- values after writes

value_from-snoc : (before : ℤ) (id : ℕ) (ws : List ValueWrite) (w : ValueWrite)
    → value_from before id (ws ++ w ∷ []) ≡ cond (eqb w.id id) w.value (value_from before id ws)
value_from-snoc before id [] w = refl
value_from-snoc before id (x ∷ ws) w = value_from-snoc (cond (eqb x.id id) x.value before) id ws w

-- one more write changes the value of its id and of no other
pub value_after-snoc : (id : ℕ) (ws : List ValueWrite) (w : ValueWrite)
    → value_after id (ws ++ w ∷ []) ≡ cond (eqb w.id id) w.value (value_after id ws)
value_after-snoc id ws w = value_from-snoc (pos 0) id ws w

longer : (xs ys : List ValueWrite) (w : ValueWrite) → Begins xs ys → Begins xs (ys ++ w ∷ [])
longer xs ys w b = (b.0 ++ w ∷ [], ap (λ l. l ++ w ∷ []) b.1 ∙ append_assoc xs b.0 (w ∷ []))

same_as : (xs ys : List ValueWrite) → xs ≡ ys → Begins xs ys
same_as xs ys e = ([], sym e ∙ sym (append-nil xs))

from_none : (ys : List ValueWrite) → Begins [] ys
from_none ys = (ys, refl)

loads_longer : (made : List ValueWrite) (ls : List ValueLoad) (all : List ValueWrite) (w : ValueWrite)
    → AreLoads made ls all → AreLoads made ls (all ++ w ∷ [])
loads_longer made [] all w h = longer made all w h
loads_longer made (l ∷ ls) all w h = (h.0, h.1, loads_longer l.after ls all w h.2)

-- one more load, after all writes
loads_snoc : (made : List ValueWrite) (ls : List ValueLoad) (all : List ValueWrite) (id : ℕ) → AreLoads made ls all
    → AreLoads made (ls ++ value_load id (value_after id all) all ∷ []) all
loads_snoc made [] all id h = (h, refl, same_as all all refl)
loads_snoc made (l ∷ ls) all id h = (h.0, h.1, loads_snoc l.after ls all id h.2)

-- ---- views

index_set : (xs : List ℕ) (i j v : ℕ) → i < length xs → slice_index (set xs i v) j ≡ cond (eqb i j) v (slice_index xs j)
index_set xs i j v h =
    ⊎_elim
    (λ (t : (eqb i j ≡ true) × (i ≡ j)). subst (λ k. slice_index (set xs i v) k ≡ v) t.1 (get_or-set_same xs i v 0 h)
    ∙ sym (ap (λ b. cond b v (slice_index xs j)) t.0))
    (λ (f : (eqb i j ≡ false) × (i ≢ j)). get_or-set_other xs i j v 0 (λ e. f.1 (sym e))
    ∙ sym (ap (λ b. cond b v (slice_index xs j)) f.0))
    (eqb_tells i j)

not_writer : false ≡ true → ⊥
not_writer e = true≢false (sym e)

-- the words stay, and the views follow
reseat : (count : ℕ) (words : List ℕ) (views views' : List ValuesView) (r : ValuesRule count words views)
    → total (λ (v : ValuesView). v.shares) views' ≡ all_shares
    → ((by : ℕ) (v : ValuesView) → get_elem? views' by ≡ some v → KnowsWrites r.writer r.all by v)
    → ValuesRule count words views'
reseat count words views views' r shares each = record {
  writer = r.writer;
  all = r.all;
  wide = r.wide;
  shares = shares;
  fits = r.fits;
  shows = r.shows;
  each = each;
}

-- a seat that is not the writer has seen some of the writes, and loaded none
knows_begun : (writer : ℕ) (all : List ValueWrite) (by shares : ℕ) (seen : List ValueWrite) → Begins seen all
    → KnowsWrites writer all by (values_view false shares seen seen [])
knows_begun writer all by shares seen begins =
    record { writes = λ y. absurd (not_writer y); seen = begins; loads = begins }

-- a load leaves the words as they are
module _ (count : ℕ) (s : State (Unit {0}) ValuesView) (r : ValuesRule count s.words s.views) (id by : ℕ)
    (v w : ValuesView) (at : get_elem? s.views by ≡ some v) (same : w.shares ≡ v.shares)
    (fits : KnowsWrites r.writer r.all by w) where
  loaded_rule : ValuesRule count (set s.words id (slice_index s.words id)) (set s.views by w)
  loaded_rule =
      let words : set s.words id (slice_index s.words id) ≡ s.words = set-get_or s.words id 0 in
      let p = total-set (λ (v : ValuesView). v.shares) s.views by v w at in
      let total = r.shares in
      subst (λ l. ValuesRule count l (set s.views by w)) (sym words)
      (reseat count s.words s.views (set s.views by w) r (omega arith)
      (each_set (KnowsWrites r.writer r.all) s.views by w fits (λ j u _ e. r.each j u e)))

pub loads : (count slots by id : ℕ) (v : ValuesView) (carried : List (ℕ × Unit {0})) → id < count
    → Allows (λ s. ValuesRule count s.words s.views) slots by (v, carried) id (λ n. n)
    (λ n w. Loads id v n w.0 × (w.1 ≡ carried))
loads count slots by id v carried inside s r homes at small =
    let all = r.all in
    let h = r.each by v at in
    let w = values_view v.writes v.shares all v.made (v.loads ++ value_load id (value_after id all) all ∷ []) in
    let found : cast_signed w64 (slice_index s.words id) ≡ value_after id all =
    ap (cast_signed w64) (r.shows id inside) ∙ to_z-of_z w64 (value_after id all) (r.fits id) in (
      w,
      keeps,
      tt,
      loaded_rule count s r id by v w at refl
          (record {
            writes = λ y. ((h.writes y).0, refl);
            seen = same_as all all refl;
            loads = loads_snoc v.made v.loads all id h.loads;
          }),
      (record { after = all; view = refl; value = found; later = h.seen }, refl),
    )

pub learns : (count slots by : ℕ) (v : ValuesView) (carried : List (ℕ × Unit {0})) → v.writes ≡ true
    → Allows (λ s. ValuesRule count s.words s.views) slots by (v, carried) 0 (λ n. n)
    (λ n w. LearnsLoads v w.0 × (w.1 ≡ carried))
learns count slots by v carried writes s r homes at small =
    let h = r.each by v at in
    let most = total-least (λ (v : ValuesView). v.shares) s.views by v at in
    let total = r.shares in (
      v,
      keeps,
      tt,
      loaded_rule count s r 0 by v v at refl h,
      (
        record {
          view = refl;
          loads = subst (λ l. AreLoads v.made v.loads l) (sym (h.writes writes).1) h.loads;
          shares = omega arith;
        },
        refl,
      ),
    )

pub stores : (count slots by id word : ℕ) (v : ValuesView) (carried : List (ℕ × Unit {0})) → id < count → word < 2 ^ 64
    → FitsSigned w64 (cast_signed w64 word) → v.writes ≡ true
    → Allows (λ s. ValuesRule count s.words s.views) slots by (v, carried) id (λ _. word)
    (λ _ w. WritesValue id word v w.0 × (w.1 ≡ carried))
stores count slots by id word v carried inside whole signed writes s r homes at small =
    let all = r.all in
    let h = r.each by v at in
    let mine = h.writes writes in
    let new : ValueWrite = value_write id (cast_signed w64 word) in
    let more : List ValueWrite = all ++ new ∷ [] in
    let w = values_view v.writes v.shares (v.seen ++ new ∷ []) v.made v.loads in
    let p = total-set (λ (v : ValuesView). v.shares) s.views by v w at in
    let total = r.shares in
    let size = r.wide in (
      w,
      keeps,
      tt,
      record {
        writer = r.writer;
        all = more;
        wide = length-set s.words id word ∙ size;
        shares = omega arith;
        fits = λ k. subst (FitsSigned w64) (sym (value_after-snoc k all new))
            (either_fits (eqb id k) (cast_signed w64 word) (value_after k all) signed (r.fits k));
        shows = λ k less.
            index_set s.words id k word (omega arith)
            ∙ (λ i. cond (eqb id k) (sym (of_z-to_z w64 word whole) i) (r.shows k less i))
            ∙ either_word (eqb id k) (cast_signed w64 word) (value_after k all)
            ∙ sym (ap (cast_unsigned w64) (value_after-snoc k all new));
        each = each_set (KnowsWrites r.writer more) s.views by w
            (record {
              writes = λ _. (mine.0, ap (λ l. l ++ new ∷ []) mine.1);
              seen = same_as (v.seen ++ new ∷ []) more (ap (λ l. l ++ new ∷ []) mine.1);
              loads = loads_longer v.made v.loads all new h.loads;
            })
            (λ j u apart e. let f = r.each j u e in
            record {
              writes = λ y. absurd (apart ((f.writes y).0 ∙ sym mine.0));
              seen = longer u.seen all new f.seen;
              loads = loads_longer u.made u.loads all new f.loads;
            });
      },
      (refl, refl),
    )
  where
    either_fits : (b : Bool) (x y : ℤ) → FitsSigned w64 x → FitsSigned w64 y → FitsSigned w64 (cond b x y)
    either_fits true x y f g = f
    either_fits false x y f g = g

    either_word : (b : Bool) (x y : ℤ) → cond b (cast_unsigned w64 x) (cast_unsigned w64 y)
        ≡ cast_unsigned w64 (cond b x y)
    either_word true x y = refl
    either_word false x y = refl

pub splits : (count by : ℕ) (v : ValuesView) → 1 < v.shares
    → Splits (λ (s : State (Unit {0}) ValuesView). ValuesRule count s.words s.views) by v
    (values_view v.writes (v.shares - 1) v.seen v.made v.loads) (values_view false 1 v.seen v.seen [])
splits count by v two s r at =
    let w = values_view v.writes (v.shares - 1) v.seen v.made v.loads in
    let new = values_view false 1 v.seen v.seen [] in
    let h = r.each by v at in
    let p = total-set (λ (v : ValuesView). v.shares) s.views by v w at in
    let q = total-append (λ (v : ValuesView). v.shares) (set s.views by w) (new ∷ []) in
    let total = r.shares in
    let mine : KnowsWrites r.writer r.all by w = record { writes = h.writes; seen = h.seen; loads = h.loads } in
    let kept = each_set (KnowsWrites r.writer r.all) s.views by w mine (λ j u _ e. r.each j u e) in
    reseat count s.words s.views (set s.views by w ++ new ∷ []) r (omega arith)
    (λ j u e. ⊎_elim (λ was. kept j u was)
    (λ (is : new ≡ u). subst (KnowsWrites r.writer r.all j) is (knows_begun r.writer r.all j 1 v.seen h.seen))
    (at_snoc (set s.views by w) new u j e))

pub joins : (count by : ℕ) (v : ValuesView) (other : ℕ) (u : ValuesView)
    → Joins (λ (s : State (Unit {0}) ValuesView). ValuesRule count s.words s.views) by v other u
    (values_view v.writes (v.shares + u.shares) v.seen u.made u.loads) (values_view false 0 [] [] [])
joins count by v other u s r at apart there =
    let w = values_view v.writes (v.shares + u.shares) v.seen u.made u.loads in
    let spent = values_view false 0 [] [] [] in
    let was : get_elem? s.views other ≡ some u = sym (set_else s.views by other w apart) ∙ there in
    let h = r.each by v at in
    let k = r.each other u was in
    let mid = set s.views by w in
    let p = total-set (λ (v : ValuesView). v.shares) s.views by v w at in
    let q = total-set (λ (v : ValuesView). v.shares) mid other u spent there in
    let total = r.shares in
    let kept = each_set (KnowsWrites r.writer r.all) s.views by w
    (record { writes = h.writes; seen = h.seen; loads = k.loads }) (λ j x _ e. r.each j x e) in
    reseat count s.words s.views (set mid other spent) r (omega arith)
    (each_set (KnowsWrites r.writer r.all) mid other spent (knows_begun r.writer r.all other 0 [] (from_none r.all))
    (λ j x _ e. kept j x e))

pub begins : (count : ℕ) → ValuesRule count (replicate count 0) (values_view true all_shares [] [] [] ∷ [])
begins count = record {
  writer = 0;
  all = [];
  wide = length-replicate count 0;
  shares = refl;
  fits = λ id. record { sfits = omega arith };
  shows = λ id less. zeros count id;
  each = one;
}
  where
    zeros : (n i : ℕ) → slice_index (replicate n 0) i ≡ 0
    zeros zero i = refl
    zeros (suc n) zero = refl
    zeros (suc n) (suc i) = zeros n i

    one : (by : ℕ) (v : ValuesView) → get_elem? (values_view true all_shares [] [] [] ∷ []) by ≡ some v
        → KnowsWrites 0 [] by v
    one zero v e = subst (KnowsWrites 0 [] 0) (some-injective _ _ e)
        (record { writes = λ _. (refl, refl); seen = from_none []; loads = from_none [] })
    one (suc by) v e = absurd (some-ne-none v (sym e))
