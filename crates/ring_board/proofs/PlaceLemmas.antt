-- Positions and their indices, and lists of records that are one after the other.
use Rattle.std.proofs.Common.{◌≡◌, ◌≢◌, ℕ, zero, suc, ◌+◌, ◌-◌, ◌/◌, ◌%◌, ◌<◌, ◌≤◌, ◌⊎◌, List, [], ◌∷◌, ◌++◌, length, refl, sym, ap, ◌∙◌, subst, inl, inr, ⊎_elim, arith, le-leb}
use Rattle.std.proofs.lemmas.{Bool.cases_lt, Bool.lt-leb, Bool.cond-true, Bool.cond-false, Nat.mod_below}
use Rattle.std.proofs.Math.{Option.some, Option.some-injective, Option.some-ne-none, ListN.get_elem?}
use Rattle.ring_layout.{specs.Places.index, specs.Places.room, proofs.Laps.IsLap, proofs.Laps.same_index}
use Rattle.ring_layout.proofs.PlaceLemmas.{next_cases, next_le, next_within, next_aligned}
use Rattle.ring_board.specs.{declared.shared.view.Record.Record, TransmitterSteps.place_before}
use Rattle.ring_board.specs.Records.{end, Lies, Follows, Chain, end_of, last_of}

-- the capacity of a broadcast buffer is a lap of whole words
pub board_lap : (C : ℕ) → 256 ≤ C → C % 64 ≡ 0 → IsLap C
board_lap C roomy whole = record { some = omega arith; whole = omega arith }

-- a later position with the same index is a lap further
pub a_lap_on : (a b C : ℕ) → IsLap C → a % 8 ≡ 0 → b % 8 ≡ 0 → a < b → index C a ≡ index C b → a + C ≤ b
a_lap_on a b C lap a8 b8 lt e = ⊎_elim
    (λ near. let same : a ≡ b =
    same_index C a b lap a8 (record { whole = b8; from = omega arith; below = near }) e in
    absurd (omega arith)) (λ far. far) (cases_lt b (a + C))

pub apart : (a b C : ℕ) → IsLap C → a % 8 ≡ 0 → b % 8 ≡ 0 → a < b → b < a + C → index C a ≢ index C b
apart a b C lap a8 b8 lt near e = let far = a_lap_on a b C lap a8 b8 lt e in omega arith

pub index_below : (C p : ℕ) → 256 ≤ C → C % 64 ≡ 0 → index C p < C / 8
index_below C p roomy whole = let lt = mod_below p C (omega arith) in omega arith

module _ (C e b p z : ℕ) (l : Lies C e b p z) (roomy : 256 ≤ C) (whole : C % 64 ≡ 0) where
  pub lies_cases : ((p ≡ b) × (z ≤ b + room C b)) ⊎ ((p ≡ b + room C b) × (room C b < z - p))
  lies_cases = let so = l.some_room in ⊎_elim
      (λ t. let at : p ≡ b = l.lies ∙ t.1 in let fits =
      t.0 in inl (at, (let z' : z ≤ b + room C b = omega arith in z')))
      (λ t. inr (l.lies ∙ t.1, t.0)) (next_cases C b (z - p))

  pub lies_after : b ≤ p
  lies_after = let f = l.lies in let n = next_le C b (z - p) in omega arith

  pub lies_near : z ≤ b + C
  lies_near = let s = l.short in let so = l.some_room in let below = mod_below b C (omega arith) in
      ⊎_elim (λ t. let a = t.1 in let c : z ≤ b + C = omega arith in c)
      (λ t. let a = t.0 in let d = t.1 in let c : z ≤ b + C = omega arith in
      c) lies_cases

  pub lies_inside : p % C + (z - p) ≤ C
  lies_inside = let s = l.short in let w = next_within C b (z - p) (omega arith) (omega arith) in let m =
      ap (λ (x : ℕ). x % C) l.lies in omega arith

  pub lies_whole : p % 8 ≡ 0
  lies_whole = let w = next_aligned C b (z - p) (omega arith) (omega arith) l.begins_whole in let m =
      ap (λ (x : ℕ). x % 8) l.lies in omega arith

  -- padding is shorter than what comes after it
  pub lies_needed : b < p → p < b + (z - p)
  lies_needed lt = ⊎_elim (λ t. let a = t.0 in absurd (omega arith))
      (λ t. let a = t.0 in let d = t.1 in let c : p < b + (z - p) = omega arith in
      c) lies_cases

  pub lies_before : place_before C b z ≡ p
  lies_before = let so = l.some_room in ⊎_elim
      (λ t. cond-true _ b (b + room C b) (le-leb z (b + room C b) t.1) ∙ sym t.0)
      (λ t. let a = t.0 in cond-false _ b (b + room C b) (lt-leb z (b + room C b) (omega arith)) ∙ sym t.0) lies_cases

-- Lists of records ---------------------------------------------------------

pub chain_snoc : (C e : ℕ) (l : List Record) (r : Record) → Chain C e l → Follows C (end_of e l) r
    → Chain C e (l ++ r ∷ [])
chain_snoc C e [] r c f = (f, tt)
chain_snoc C e (x ∷ xs) r c f = (c.0, chain_snoc C (end x) xs r c.1 f)

pub end_snoc : (e : ℕ) (l : List Record) (r : Record) → end_of e (l ++ r ∷ []) ≡ end r
end_snoc e [] r = refl
end_snoc e (x ∷ xs) r = end_snoc (end x) xs r

pub last_snoc : (e : ℕ) (l : List Record) (r : Record) → last_of e (l ++ r ∷ []) ≡ r.place
last_snoc e [] r = refl
last_snoc e (x ∷ xs) r = last_snoc x.place xs r

last_moves : (l : List Record) (k : ℕ) (r : Record) (d e : ℕ) → get_elem? l k ≡ some r → last_of d l ≡ last_of e l
last_moves [] k r d e at = absurd (some-ne-none r (sym at))
last_moves (x ∷ xs) k r d e at = refl

module _ (C : ℕ) (roomy : 256 ≤ C) (whole : C % 64 ≡ 0) where
  pub chain_rises : (e : ℕ) (l : List Record) → Chain C e l → e ≤ end_of e l
  chain_rises e [] c = omega arith
  chain_rises e (x ∷ xs) c =
      let f = c.0.fits in let g = lies_after C e x.before x.place (end x) f roomy whole in let b = f.begins in let so =
      f.some_room in
      let i = chain_rises (end x) xs c.1 in omega arith

  -- an entry is between the start and the end, and its successor after it
  pub chain_at : (e : ℕ) (l : List Record) → Chain C e l → (k : ℕ) (r : Record) → get_elem? l k ≡ some r
      → Follows C r.before r × (e ≤ r.before) × (end r ≤ end_of e l)
  chain_at e [] c k r at = absurd (some-ne-none r (sym at))
  chain_at e (x ∷ xs) c zero r at = let f : Follows C e x = c.0 in let b : x.before ≡ e = f.fits.begins in
      subst (λ (y : Record). Follows C y.before y × (e ≤ y.before) × (end y ≤ end_of (end x) xs))
      (some-injective x r at)
      (subst (λ (d : ℕ). Follows C d x) (sym b) f, omega arith, chain_rises (end x) xs c.1)
  chain_at e (x ∷ xs) c (suc k) r at = let i = chain_at (end x) xs c.1 k r at in let f : Follows C e x = c.0 in
      let b : x.before ≡ e = f.fits.begins in
      let g = lies_after C e x.before x.place (end x) f.fits roomy whole in let so = f.fits.some_room in let o =
      i.1 in (i.0, omega arith, i.2)

  pub chain_next : (e : ℕ) (l : List Record) → Chain C e l → (k : ℕ) (r q : Record) → get_elem? l k ≡ some r
      → get_elem? l (suc k) ≡ some q
      → q.before ≡ end r
  chain_next e [] c k r q at on = absurd (some-ne-none r (sym at))
  chain_next e (x ∷ []) c zero r q at on = absurd (some-ne-none q (sym on))
  chain_next e (x ∷ y ∷ l) c zero r q at on = let b : y.before ≡ end x = c.1.0.fits.begins in
      subst (λ (z : Record). q.before ≡ end z) (some-injective x r at)
      (subst (λ (z : Record). z.before ≡ end x) (some-injective y q on) b)
  chain_next e (x ∷ xs) c (suc k) r q at on = chain_next (end x) xs c.1 k r q at on

  pub chain_last : (e : ℕ) (l : List Record) → Chain C e l → (k : ℕ) (r : Record) → get_elem? l k ≡ some r
      → suc k ≡ length l
      → (end_of e l ≡ end r) × (last_of e l ≡ r.place)
  chain_last e [] c k r at is = absurd (some-ne-none r (sym at))
  chain_last e (x ∷ []) c zero r at is =
      let s : x ≡ r = some-injective x r at in (ap end s, ap (λ (z : Record). z.place) s)
  chain_last e (x ∷ y ∷ l) c zero r at is = absurd (omega arith)
  chain_last e (x ∷ xs) c (suc k) r at is = let i = chain_last (end x) xs c.1 k r at (omega arith) in
      (i.0, last_moves xs k r x.place (end x) at ∙ i.1)

  -- the last place is not beyond the end
  pub last_low : (e : ℕ) (l : List Record) → Chain C e l → last_of e l ≤ end_of e l
  last_low e [] c = omega arith
  last_low e (x ∷ xs) c =
      let f = c.0.fits in let a = lies_after C e x.before x.place (end x) f roomy whole in let so = f.some_room in
      let i = chain_rises (end x) xs c.1 in
      let j = last_low (end x) xs c.1 in ⊎_elim (λ g. omega arith) (λ g. omega arith) (last_or x.place (end x) xs)
    where
      last_or : (p q : ℕ) (l : List Record) → (last_of p l ≡ last_of q l) ⊎ ((last_of p l ≡ p) × (l ≡ []))
      last_or p q [] = inr (refl, refl)
      last_or p q (y ∷ ys) = inl refl
