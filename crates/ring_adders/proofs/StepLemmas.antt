-- Each step on the sum keeps the rule.
use Rattle.std.proofs.Common.{◌≡◌, ◌≢◌, ℕ, ℤ, zero, suc, ◌+◌, ◌-◌, ◌^◌, ◌%◌, ◌<◌, List, [], ◌∷◌, ◌++◌, set, refl, sym, ap, ◌∙◌, subst, ⊎_elim, arith, slice_index, append-nil, append_assoc, get_or-set_same, w64, length-set}
use Rattle.std.specs.Int.{cast_signed, cast_unsigned}
use Rattle.std.proofs.Math.{Nat.mod-add-mod, Option.some, Option.some-ne-none, Option.some-injective, ListN.get_elem?}
use Rattle.std.proofs.lemmas.{List.set-get_or, Int.of_z-to_z}
use Rattle.atomic_table.specs.Table.{State, keeps, Allows, Splits, Joins}
use Rattle.atomic_table.proofs.Lists.{at_snoc, set_else}
use Rattle.ring_layout.{specs.Lists.Begins, specs.Lists.total, specs.Refusals.all_shares, proofs.ListLemmas.each_set}
use Rattle.ring_layout.proofs.Sums.{total-set, total-append, total-least, total-sole, total-zero}
use Rattle.ring_adders.specs.{declared.view.AdderView.AdderView, SumRule.KnowsAdds, SumRule.SumRule, Views.adder_view}
use Rattle.ring_adders.specs.{Steps.Adds, Steps.Loads, Sums.patterns, Sums.sum_word}

abbrev shares_of : AdderView → ℕ
shares_of v = v.shares

abbrev sum_by : AdderView → ℕ
sum_by v = patterns v.added

-- ---- lists and sums

longer : (xs ys : List ℤ) (n : ℤ) → Begins xs ys → Begins xs (ys ++ n ∷ [])
longer xs ys n b = (b.0 ++ n ∷ [], ap (λ l. l ++ n ∷ []) b.1 ∙ append_assoc xs b.0 (n ∷ []))

itself : (xs : List ℤ) → Begins xs xs
itself xs = ([], sym (append-nil xs))

patterns-snoc : (xs : List ℤ) (word : ℕ) → word < 2 ^ 64
    → patterns (xs ++ cast_signed w64 word ∷ []) ≡ patterns xs + word
patterns-snoc xs word whole =
    let both = total-append (cast_unsigned w64) xs (cast_signed w64 word ∷ []) in
    let last : cast_unsigned w64 (cast_signed w64 word) ≡ word = of_z-to_z w64 word whole in
    let front : ℕ = patterns xs in
    both ∙ (let done : front + (cast_unsigned w64 (cast_signed w64 word) + 0) ≡ front + word = omega arith in done)

-- one more amount is added to the word
sum_word-snoc : (xs : List ℤ) (word found : ℕ) → word < 2 ^ 64 → found ≡ sum_word xs
    → (found + word) % 2 ^ 64 ≡ sum_word (xs ++ cast_signed w64 word ∷ [])
sum_word-snoc xs word found whole is =
    ap (λ n. (n + word) % 2 ^ 64) is
    ∙ mod-add-mod (patterns xs) (2 ^ 64) word
    ∙ ap (λ n. n % 2 ^ 64) (sym (patterns-snoc xs word whole))

-- ---- shares

-- an adder that has all shares leaves none to others
others_poor : (views : List AdderView) (id j : ℕ) (v u : AdderView) → total shares_of views ≡ all_shares
    → get_elem? views id ≡ some v → v.shares ≡ all_shares → j ≢ id → get_elem? views j ≡ some u → u.shares ≡ 0
others_poor views id j v u sum at all ne there =
    let spent = adder_view 0 [] [] in
    let left : ℕ = total shares_of (set views id spent) in
    let whole : ℕ = total shares_of views in
    let exchange : left + v.shares ≡ whole + 0 = total-set shares_of views id v spent at in
    let whole_is : whole ≡ all_shares = sum in
    let none : left ≡ 0 = omega arith in
    total-zero shares_of (set views id spent) j u none (set_else views id j spent ne ∙ there)

-- and what it added sums up to all that was added
all_added : (words : List ℕ) (views : List AdderView) (r : SumRule words views) (id : ℕ) (v : AdderView)
    → get_elem? views id ≡ some v → v.shares ≡ all_shares → patterns r.all ≡ patterns v.added
all_added words views r id v at all =
    sym r.sums
    ∙ total-sole sum_by views id v at
    (λ j u ne there. ap patterns ((r.each j u there).none (others_poor views id j v u r.shares at all ne there)))

-- ---- the steps

-- the words stay, and the views follow
reseat : (words : List ℕ) (views views' : List AdderView) (r : SumRule words views)
    → total sum_by views' ≡ patterns r.all → total shares_of views' ≡ all_shares
    → ((by : ℕ) (v : AdderView) → get_elem? views' by ≡ some v → KnowsAdds r.all v) → SumRule words views'
reseat words views views' r sums shares each = record {
  all = r.all;
  wide = r.wide;
  word = r.word;
  sums = sums;
  shares = shares;
  each = each;
}

pub adds : (slots by word : ℕ) (v : AdderView) (carried : List (ℕ × Unit {0})) → word < 2 ^ 64 → 0 < v.shares
    → Allows (λ s. SumRule s.words s.views) slots by (v, carried) 0 (λ n. (n + word) % 2 ^ 64)
    (λ n w. Adds word v n w.0 × (w.1 ≡ carried))
adds slots by word v carried whole some_left s r homes at small =
    let all = r.all in
    let h = r.each by v at in
    let amount = cast_signed w64 word in
    let more : List ℤ = all ++ amount ∷ [] in
    let w = adder_view v.shares (v.added ++ amount ∷ []) more in
    let size = r.wide in
    let found = slice_index s.words 0 in
    let p = total-set shares_of s.views by v w at in
    let q = total-set sum_by s.views by v w at in
    let shares = r.shares in
    let sums = r.sums in
    let mine = patterns-snoc v.added word whole in
    let everyone = patterns-snoc all word whole in (
      w,
      keeps,
      tt,
      record {
        all = more;
        wide = length-set s.words 0 ((found + word) % 2 ^ 64) ∙ size;
        word = get_or-set_same s.words 0 ((found + word) % 2 ^ 64) 0 (omega arith)
            ∙ sum_word-snoc all word found whole r.word;
        sums = omega arith;
        shares = omega arith;
        each = each_set (λ _. KnowsAdds more) s.views by w
            (record { seen = itself more; none = λ z. absurd (omega arith) })
            (λ j u _ e. let f = r.each j u e in record { seen = longer u.seen all amount f.seen; none = f.none });
      },
      (record { before = all; later = h.seen; sum = r.word; view = refl }, refl),
    )

pub loads : (slots by : ℕ) (v : AdderView) (carried : List (ℕ × Unit {0}))
    → Allows (λ s. SumRule s.words s.views) slots by (v, carried) 0 (λ n. n) (λ n w. Loads v n w.0 × (w.1 ≡ carried))
loads slots by v carried s r homes at small =
    let all = r.all in
    let h = r.each by v at in
    let w = adder_view v.shares v.added all in
    let p = total-set shares_of s.views by v w at in
    let q = total-set sum_by s.views by v w at in
    let most = total-least shares_of s.views by v at in
    let shares = r.shares in
    let sums = r.sums in
    let same : set s.words 0 (slice_index s.words 0) ≡ s.words = set-get_or s.words 0 0 in (
      w,
      keeps,
      tt,
      subst (λ l. SumRule l (set s.views by w)) (sym same)
          (reseat s.words s.views (set s.views by w) r (omega arith) (omega arith)
          (each_set (λ _. KnowsAdds all) s.views by w (record { seen = itself all; none = h.none })
          (λ j u _ e. r.each j u e))),
      (
        record {
          all = all;
          later = h.seen;
          sum = r.word;
          total = λ whole. r.word ∙ ap (λ n. n % 2 ^ 64) (all_added s.words s.views r by v at whole);
          shares = omega arith;
          view = refl;
        },
        refl,
      ),
    )

pub splits : (by : ℕ) (v : AdderView) → 1 < v.shares
    → Splits (λ (s : State (Unit {0}) AdderView). SumRule s.words s.views) by v
    (adder_view (v.shares - 1) v.added v.seen) (adder_view 1 [] v.seen)
splits by v two s r at =
    let w = adder_view (v.shares - 1) v.added v.seen in
    let new = adder_view 1 [] v.seen in
    let h = r.each by v at in
    let p = total-set shares_of s.views by v w at in
    let q = total-set sum_by s.views by v w at in
    let p' = total-append shares_of (set s.views by w) (new ∷ []) in
    let q' = total-append sum_by (set s.views by w) (new ∷ []) in
    let shares = r.shares in
    let sums = r.sums in
    let kept = each_set (λ _. KnowsAdds r.all) s.views by w
    (record { seen = h.seen; none = λ z. absurd (omega arith) }) (λ j u _ e. r.each j u e) in
    reseat s.words s.views (set s.views by w ++ new ∷ []) r (omega arith) (omega arith)
    (λ j u e. ⊎_elim (λ was. kept j u was)
    (λ (is : new ≡ u). subst (KnowsAdds r.all) is (record { seen = h.seen; none = λ z. refl }))
    (at_snoc (set s.views by w) new u j e))

pub joins : (by : ℕ) (v : AdderView) (other : ℕ) (u : AdderView) → 0 < v.shares
    → Joins (λ (s : State (Unit {0}) AdderView). SumRule s.words s.views) by v other u
    (adder_view (v.shares + u.shares) (v.added ++ u.added) v.seen) (adder_view 0 [] [])
joins by v other u some_left s r at apart there =
    let w = adder_view (v.shares + u.shares) (v.added ++ u.added) v.seen in
    let spent = adder_view 0 [] [] in
    let h = r.each by v at in
    let mid = set s.views by w in
    let p = total-set shares_of s.views by v w at in
    let q = total-set sum_by s.views by v w at in
    let p' = total-set shares_of mid other u spent there in
    let q' = total-set sum_by mid other u spent there in
    let both = total-append (cast_unsigned w64) v.added u.added in
    let shares = r.shares in
    let sums = r.sums in
    let kept = each_set (λ _. KnowsAdds r.all) s.views by w
    (record { seen = h.seen; none = λ z. absurd (omega arith) }) (λ j x _ e. r.each j x e) in
    reseat s.words s.views (set mid other spent) r (omega arith) (omega arith)
    (each_set (λ _. KnowsAdds r.all) mid other spent (record { seen = (r.all, refl); none = λ z. refl })
    (λ j x _ e. kept j x e))

pub begins : SumRule (0 ∷ []) (adder_view all_shares [] [] ∷ [])
begins = record { all = []; wide = refl; word = refl; sums = refl; shares = refl; each = one }
  where
    one : (by : ℕ) (v : AdderView) → get_elem? (adder_view all_shares [] [] ∷ []) by ≡ some v → KnowsAdds [] v
    one zero v e = subst (KnowsAdds []) (some-injective _ _ e) (record { seen = ([], refl); none = λ z. refl })
    one (suc by) v e = absurd (some-ne-none v (sym e))
