-- The places of claims.
use Rattle.ring_table.specs.{Staged.Bodies, Owners.OwnedHistory, Owners.all_of, Rule.IsLawful}
use Rattle.std.proofs.Common.{◌≡◌, ℕ, zero, suc, ◌/◌, ◌%◌, ◌≤◌, ◌<◌, List, [], ◌∷◌, cond, sym, refl, ap, ◌∙◌, subst, arith, lt-ltb, le-ltb}
use Rattle.std.proofs.Math.{Option.some, Option.some-injective, Option.some-ne-none, Nat.mod-mod_of_dvd}
use Rattle.std.proofs.{Math.ListN.get_elem?, lemmas.Nat.mod_below, lemmas.Nat.Gcd.dvd_of_mod-eq-zero}
use Rattle.ring_layout.specs.{History.IsMessage, Places.IsCapacity, Places.index, Places.next_place}
use Rattle.ring_layout.proofs.{PlaceLemmas.next_le, PlaceLemmas.next_aligned, CapacityLemmas.capacity_blocks}
use Rattle.ring_table.specs.Staged.{StagedClaim, staged_span, claim_end, staged_word, staged_word_at, ArePlaced, staged_end}

pub capacity_aligned : (C : ℕ) → IsCapacity C → C % 8 ≡ 0
capacity_aligned C cap = let b = capacity_blocks C cap in omega arith

-- a position has an index of the buffer
pub inside_buffer : (C p : ℕ) → IsCapacity C → index C p < C / 8
inside_buffer C p cap =
    let least = cap.least in
    let c8 = capacity_aligned C cap in
    let low = mod_below p C (omega arith) in
    omega arith

pub start_aligned : (C start : ℕ) → IsLawful C start → start % 8 ≡ 0
start_aligned C start law =
    let c8 = capacity_aligned C law.capacity in
    sym (mod-mod_of_dvd 8 {b = C} start (dvd_of_mod-eq-zero 8 {n = C} c8)) ∙ ap (λ n. n % 8) law.start_is

pub end_le : (C e : ℕ) (cs : List StagedClaim) → ArePlaced C e cs → e ≤ staged_end e cs
end_le C e [] h = omega arith
end_le C e (c ∷ cs) h =
    let rest = end_le C (claim_end c) cs h.1 in
    let on = next_le C e (staged_span c) in
    omega arith

-- the place of a claim of a history
pub record LiesIn (C e : ℕ) (cs : List StagedClaim) (c : StagedClaim) : Type 0 where
  pub above : e ≤ c.from
  pub padded : c.from ≤ c.place
  pub below : claim_end c ≤ staged_end e cs
  pub place : c.place ≡ next_place C c.from (staged_span c)
  pub message : IsMessage C c.message

pub lies_in : (C e : ℕ) (h : OwnedHistory) (i : ℕ) (x : ℕ × StagedClaim) → ArePlaced C e (all_of h)
    → get_elem? h i ≡ some x → LiesIn C e (all_of h) x.1
lies_in C e [] i x h at = absurd (some-ne-none x (sym at))
lies_in C e (y ∷ ys) zero x h at =
    let here = h.0 in
    let on = next_le C e (staged_span y.1) in
    let rest = end_le C (claim_end y.1) (all_of ys) h.1 in
    let from : y.1.from ≡ e = here.from in
    let place : y.1.place ≡ next_place C e (staged_span y.1) = here.place in
    subst (λ (z : ℕ × StagedClaim). LiesIn C e (all_of (y ∷ ys)) z.1) (some-injective y x at) record {
      above = omega arith;
      padded = omega arith;
      below = rest;
      place = place ∙ ap (λ k. next_place C k (staged_span y.1)) (sym from);
      message = here.message;
    }
lies_in C e (y ∷ ys) (suc i) x h at =
    let there = lies_in C (claim_end y.1) ys i x h.1 at in
    let on = next_le C e (staged_span y.1) in
    let place : y.1.place ≡ next_place C e (staged_span y.1) = h.0.place in
    record {
      above = omega arith;
      padded = there.padded;
      below = there.below;
      place = there.place;
      message =
          there.message;
    }

-- after the claims there is 0
pub nothing_behind : (B : Bodies) → (C e : ℕ) (cs : List StagedClaim) (p : ℕ) → ArePlaced C e cs → staged_end e cs ≤ p
    → staged_word_at B cs p ≡ 0
nothing_behind B C e [] p h le = refl
nothing_behind B C e (c ∷ cs) p h le =
    let far = end_le C (claim_end c) cs h.1 in
    ap (λ b. cond b (staged_word B c p) (staged_word_at B cs p)) (le-ltb p (claim_end c) (omega arith))
    ∙ nothing_behind B C (claim_end c) cs p h.1 le

-- a word inside a claim is that claim's
pub word_of_claim : (B : Bodies) → (C e : ℕ) (h : OwnedHistory) (i : ℕ) (x : ℕ × StagedClaim) (p : ℕ) → ArePlaced C e (all_of h)
    → get_elem? h i ≡ some x → x.1.from ≤ p → p < claim_end x.1 → staged_word_at B (all_of h) p ≡ staged_word B x.1 p
word_of_claim B C e [] i x p h at lo hi = absurd (some-ne-none x (sym at))
word_of_claim B C e (y ∷ ys) zero x p h at lo hi =
    let same : y ≡ x = some-injective y x at in
    let near : p < claim_end y.1 = subst (λ (z : ℕ × StagedClaim). p < claim_end z.1) (sym same) hi in
    ap (λ b. cond b (staged_word B y.1 p) (staged_word_at B (all_of ys) p)) (lt-ltb p (claim_end y.1) near)
    ∙ ap (λ (z : ℕ × StagedClaim). staged_word B z.1 p) same
word_of_claim B C e (y ∷ ys) (suc i) x p h at lo hi =
    let there = lies_in C (claim_end y.1) ys i x h.1 at in
    ap (λ b. cond b (staged_word B y.1 p) (staged_word_at B (all_of ys) p)) (le-ltb p (claim_end y.1) (omega arith))
    ∙ word_of_claim B C (claim_end y.1) ys i x p h.1 at lo hi

-- the claim of this number covers the position p
pub record Covers (h : OwnedHistory) (i : ℕ) (x : ℕ × StagedClaim) (p : ℕ) : Type 0 where
  pub there : get_elem? h i ≡ some x
  pub from : x.1.from ≤ p
  pub below : p < claim_end x.1

-- claims share no position
pub one_at_position : (C e : ℕ) (h : OwnedHistory) (i j p : ℕ) (x y : ℕ × StagedClaim) → ArePlaced C e (all_of h)
    → Covers h i x p → Covers h j y p → x ≡ y
one_at_position C e [] i j p x y h a b = absurd (some-ne-none x (sym a.there))
one_at_position C e (z ∷ zs) zero zero p x y h a b = sym (some-injective z x a.there) ∙ some-injective z y b.there
one_at_position C e (z ∷ zs) zero (suc j) p x y h a b =
    let above = (lies_in C (claim_end z.1) zs j y h.1 b.there).above in
    let same : claim_end z.1 ≡ claim_end x.1 =
    ap (λ (k : ℕ × StagedClaim). claim_end k.1) (some-injective z x a.there) in
    absurd (omega (arith, above, same, a.below, b.from))
one_at_position C e (z ∷ zs) (suc i) zero p x y h a b =
    let above = (lies_in C (claim_end z.1) zs i x h.1 a.there).above in
    let same : claim_end z.1 ≡ claim_end y.1 =
    ap (λ (k : ℕ × StagedClaim). claim_end k.1) (some-injective z y b.there) in
    absurd (omega (arith, above, same, b.below, a.from))
one_at_position C e (z ∷ zs) (suc i) (suc j) p x y h a b =
    one_at_position C (claim_end z.1) zs i j p x y h.1 (record { there = a.there; from = a.from; below = a.below })
    (record { there = b.there; from = b.from; below = b.below })

-- so they share no place
pub one_at_place : (C e : ℕ) (h : OwnedHistory) (i j : ℕ) (x y : ℕ × StagedClaim) → ArePlaced C e (all_of h)
    → get_elem? h i ≡ some x → get_elem? h j ≡ some y → x.1.place ≡ y.1.place → x ≡ y
one_at_place C e h i j x y placed a b same =
    let x_pad = (lies_in C e h i x placed a).padded in
    let y_pad = (lies_in C e h j y placed b).padded in
    one_at_position C e h i j x.1.place x y placed (record { there = a; from = x_pad; below = omega arith })
    (record { there = b; from = omega arith; below = omega arith })

-- ---- multiples of 8

-- claims are placed one after the other, from a multiple of 8 on
pub record StandFrom (C e : ℕ) (cs : List StagedClaim) : Type 0 where
  pub whole : e % 8 ≡ 0
  pub placed : ArePlaced C e cs

pub claim_aligned : (C e : ℕ) (c : StagedClaim) → 0 < C → C % 8 ≡ 0 → e % 8 ≡ 0
    → c.place ≡ next_place C e (staged_span c) → (c.place % 8 ≡ 0) × (claim_end c % 8 ≡ 0)
claim_aligned C e c pos c8 e8 is =
    let place : ℕ = c.place in
    let aligned : place % 8 ≡ 0 = ap (λ k. k % 8) is ∙ next_aligned C e (staged_span c) pos c8 e8 in
    (aligned, omega arith)

pub end_aligned : (C e : ℕ) (cs : List StagedClaim) → 0 < C → C % 8 ≡ 0 → e % 8 ≡ 0 → ArePlaced C e cs
    → staged_end e cs % 8 ≡ 0
end_aligned C e [] pos c8 e8 h = e8
end_aligned C e (c ∷ cs) pos c8 e8 h =
    end_aligned C (claim_end c) cs pos c8 (claim_aligned C e c pos c8 e8 h.0.place).1 h.1

pub places_aligned : (C e : ℕ) (h : OwnedHistory) (i : ℕ) (x : ℕ × StagedClaim) → 0 < C → C % 8 ≡ 0 → e % 8 ≡ 0
    → ArePlaced C e (all_of h) → get_elem? h i ≡ some x → (x.1.from % 8 ≡ 0) × (x.1.place % 8 ≡ 0)
places_aligned C e [] i x pos c8 e8 h at = absurd (some-ne-none x (sym at))
places_aligned C e (y ∷ ys) zero x pos c8 e8 h at =
    subst (λ (z : ℕ × StagedClaim). (z.1.from % 8 ≡ 0) × (z.1.place % 8 ≡ 0)) (some-injective y x at)
    (ap (λ k. k % 8) h.0.from ∙ e8, (claim_aligned C e y.1 pos c8 e8 h.0.place).0)
places_aligned C e (y ∷ ys) (suc i) x pos c8 e8 h at =
    places_aligned C (claim_end y.1) ys i x pos c8 (claim_aligned C e y.1 pos c8 e8 h.0.place).1 h.1 at
