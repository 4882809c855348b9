-- The word at an index is that of the greatest position stored there.
use Rattle.std.proofs.Common.{◌≡◌, ◌≢◌, ℕ, zero, suc, ◌+◌, ◌%◌, ◌<◌, ◌≤◌, ◌⊎◌, eqb, cond, Bool, List, [], ◌∷◌, ◌++◌, get_or, refl, sym, ap, ◌∙◌, subst, inl, inr, ⊎_elim, arith, eq-eqb, ne_eqb}
use Rattle.std.proofs.lemmas.Bool.{cases_lt}
use Rattle.std.proofs.Math.{Decide.ℕ_discrete, Option.some, Option.some-injective, Option.some-ne-none, ListN.get_elem?}
use Rattle.atomic_table.specs.Table.{Final, Seen}
use Rattle.ring_layout.specs.Places.{index}
use Rattle.ring_board.specs.declared.shared.view.{Record.Record, View.View, Stage.Stage, Stage.TheVariants.Idle}
use Rattle.ring_board.specs.Layout.{intent_index, tail_index, latest_index, board_words}
use Rattle.ring_board.specs.Records.{end, Chain, stores, stores_of, last_at, IsNewestAt, IsBoardWord}
use Rattle.ring_board.specs.{Rule.Holds, Rule.intent, Rule.latest, Rule.so_far, Runs.AreAllRuns, Closing.IsClosed}
use Rattle.ring_board.proofs.PlaceLemmas.{board_lap, apart, lies_after, lies_near, lies_whole}
use Rattle.ring_board.proofs.{StoreLemmas.stores_where, StoreLemmas.at_joined, SeatLemmas.owner}

-- of two stores with one index the later one has no lower position
abbrev Rising : ℕ → List (ℕ × ℕ) → Type 0
Rising C [] = Unit {0}
Rising C (x ∷ xs) =
    ((j : ℕ) (y : ℕ × ℕ) → get_elem? xs j ≡ some y → index C y.0 ≡ index C x.0 → x.0 ≤ y.0) × Rising C xs

abbrev Chosen : ℕ → List (ℕ × ℕ) → ℕ → ℕ → ℕ → Type 0
Chosen C xs i w v =
    ((x : ℕ × ℕ) × IsNewestAt C xs i v x) ⊎ (((j : ℕ) (y : ℕ × ℕ) → get_elem? xs j ≡ some y
    → index C y.0 ≢ i) × (v ≡ w))

none_else : (C i : ℕ) (x : ℕ × ℕ) (xs : List (ℕ × ℕ)) → index C x.0 ≢ i
    → ((j : ℕ) (y : ℕ × ℕ) → get_elem? xs j ≡ some y → index C y.0 ≢ i)
    → (j : ℕ) (y : ℕ × ℕ) → get_elem? (x ∷ xs) j ≡ some y → index C y.0 ≢ i
none_else C i x xs ne rest zero y e = subst (λ (z : ℕ × ℕ). index C z.0 ≢ i) (some-injective x y e) ne
none_else C i x xs ne rest (suc j) y e = rest j y e

with_head : (C i : ℕ) (x z : ℕ × ℕ) (xs : List (ℕ × ℕ)) → (index C x.0 ≡ i → x.0 ≤ z.0)
    → ((j : ℕ) (y : ℕ × ℕ) → get_elem? xs j ≡ some y → index C y.0 ≡ i → y.0 ≤ z.0) → (j : ℕ) (y : ℕ × ℕ)
    → get_elem? (x ∷ xs) j ≡ some y
    → index C y.0 ≡ i → y.0 ≤ z.0
with_head C i x z xs h rest zero y e = subst (λ (u : ℕ × ℕ). index C u.0 ≡ i → u.0 ≤ z.0) (some-injective x y e) h
with_head C i x z xs h rest (suc j) y e = rest j y e

-- the newest of the rest is the newest of all, if the first is not above it
newest_behind : (C : ℕ) (x z : ℕ × ℕ) (xs : List (ℕ × ℕ)) (i w : ℕ) → IsNewestAt C xs i w z
    → (index C x.0 ≡ i → x.0 ≤ z.0)
    → IsNewestAt C (x ∷ xs) i w z
newest_behind C x z xs i w h first = let at = h.stored in record {
  stored = (suc at.0, at.1);
  at_index = h.at_index;
  word = h.word;
  greatest = with_head C i x z xs first h.greatest;
}

chosen_on : (C : ℕ) (x : ℕ × ℕ) (xs : List (ℕ × ℕ)) (i w : ℕ) → Rising C (x ∷ xs) → Dec (index C x.0 ≡ i)
    → ((u : ℕ) → Chosen C xs i u (last_at C xs i u)) → Chosen C (x ∷ xs) i w (last_at C (x ∷ xs) i w)
chosen_on C x xs i w r (yes is) ih = let same : cond (eqb (index C x.0) i) x.1 w ≡ x.1 = ap (λ (b : Bool). cond b x.1 w)
    (eq-eqb (index C x.0) i is) in
    subst (λ (u : ℕ). Chosen C (x ∷ xs) i w (last_at C xs i u)) (sym same) (⊎_elim
    (λ t. let h = t.1 in let a = h.stored in
    inl (t.0, newest_behind C x t.0 xs i _ h (λ _. r.0 a.0 t.0 a.1 (h.at_index ∙ sym is))))
    (λ t. inl (
      x,
      record {
        stored = (0, refl);
        at_index = is;
        word = t.1;
        greatest = with_head C i x x xs (λ _. omega arith)
            (λ j y e g. absurd (t.0 j y e g));
      },
    )) (ih x.1))
chosen_on C x xs i w r (no ne) ih =
    let same : cond (eqb (index C x.0) i) x.1 w ≡ w = ap (λ (b : Bool). cond b x.1 w) (ne_eqb (index C x.0) i ne) in
    subst (λ (u : ℕ). Chosen C (x ∷ xs) i w (last_at C xs i u)) (sym same) (⊎_elim
    (λ t. inl (t.0, newest_behind C x t.0 xs i _ t.1 (λ is. absurd (ne is))))
    (λ t. inr (none_else C i x xs ne t.0, t.1)) (ih w))

chosen : (C : ℕ) (xs : List (ℕ × ℕ)) (i w : ℕ) → Rising C xs → Chosen C xs i w (last_at C xs i w)
chosen C [] i w r = inr ((λ j y e. absurd (some-ne-none y (sym e))), refl)
chosen C (x ∷ xs) i w r = chosen_on C x xs i w r (ℕ_discrete (index C x.0) i) (λ u. chosen C xs i u r.1)

rising_joined : (C : ℕ) (l m : List (ℕ × ℕ)) → Rising C l → Rising C m
    → ((i j : ℕ) (x y : ℕ × ℕ) → get_elem? l i ≡ some x → get_elem? m j ≡ some y → x.0 ≤ y.0) → Rising C (l ++ m)
rising_joined C [] m a b h = b
rising_joined C (x ∷ xs) m a b h = (
  (λ j y e same. ⊎_elim (λ t. a.0 j y t same) (λ t. h 0 t.0 x y refl t.1) (at_joined xs m j y e)),
  rising_joined C xs m a.1 b
      (λ i j u y e f. h (suc i) j u y e f),
)

module _ (C : ℕ) (roomy : 256 ≤ C) (whole : C % 64 ≡ 0) where
  -- stores within one lap
  rising_window : (b : ℕ) (l : List (ℕ × ℕ))
      → ((j : ℕ) (x : ℕ × ℕ) → get_elem? l j ≡ some x → (b ≤ x.0) × (x.0 < b + C) × (x.0 % 8 ≡ 0)) → Rising C l
  rising_window b [] h = tt
  rising_window b (x ∷ xs) h = (
    (λ j y e same. ⊎_elim (λ lt. let hy = h (suc j) y e in let hx = h 0 x refl in let p = hy.0 in let q = hx.1 in
        absurd (apart y.0 x.0 C (board_lap C roomy whole) hy.2 hx.2 lt (omega arith) same)) (λ le. le)
        (cases_lt y.0 x.0)),
    rising_window b xs
        (λ j y e. h (suc j) y e),
  )

  module _ (e : ℕ) (r : Record) (rs : List Record) (c : Chain C e (r ∷ rs)) where
    stored_at : (j : ℕ) (x : ℕ × ℕ) → get_elem? (stores r) j ≡ some x → (r.before ≤ x.0) × (x.0 < end r) × (x.0 % 8 ≡ 0)
    stored_at j x on = let f = c.0.fits in
        stores_where r j x f.begins_whole (lies_whole C e r.before r.place (end r) f roomy whole)
        (lies_after C e r.before r.place (end r) f roomy whole) on

  stores_after : (e : ℕ) (l : List Record) → Chain C e l → (j : ℕ) (y : ℕ × ℕ) → get_elem? (stores_of l) j ≡ some y
      → e ≤ y.0
  stores_after e [] c j y g = absurd (some-ne-none y (sym g))
  stores_after e (r ∷ rs) c j y g =
      let f = c.0.fits in let a = lies_after C e r.before r.place (end r) f roomy whole in let b = f.begins in
      ⊎_elim (λ t. let w = (stored_at e r rs c j y t).0 in omega arith)
      (λ t. let i = stores_after (end r) rs c.1 t.0 y t.1 in let so = f.some_room in
      omega arith) (at_joined (stores r) (stores_of rs) j y g)

  rising_stores : (e : ℕ) (l : List Record) → Chain C e l → Rising C (stores_of l)
  rising_stores e [] c = tt
  rising_stores e (r ∷ rs) c = let f = c.0.fits in let near = lies_near C e r.before r.place (end r) f roomy whole in
      rising_joined C (stores r) (stores_of rs)
      (rising_window r.before (stores r) (λ j x g. let w = stored_at e r rs c j x g in let p = w.0 in
      let q = w.1 in (omega arith, omega arith, w.2))) (rising_stores (end r) rs c.1)
      (λ i j x y g k. let w = (stored_at e r rs c i x g).1 in let v = stores_after (end r) rs c.1 j y k in omega arith)

  picture_is : (e : ℕ) (l : List Record) → Chain C e l → (i : ℕ)
      → IsBoardWord C (stores_of l) i (last_at C (stores_of l) i 0)
  picture_is e l c i = chosen C (stores_of l) i 0 (rising_stores e l c)

-- what a closed broadcast buffer contains, and what copies its words
pub closed_as : (C e id : ℕ) (me : View) (ws : List ℕ) (xs : List (Unit {0})) → me.stage ≡ Idle
    → Final (Seen (Holds C e) id me) ws xs
    → (256 ≤ C) × (C % 64 ≡ 0) × IsClosed C e me.sent ws × AreAllRuns me.sent me.heard
closed_as C e id me ws xs eq f =
    let s = f.0 in let h = owner C e s f.1.0 id me Idle (λ by mine k. k) f.1.1 eq in let is = f.2 in (
      h.lawful.roomy,
      h.lawful.whole,
      subst (IsClosed C e me.sent) is (record {
        places = h.memory.chain;
        words = λ i lt. subst (IsBoardWord C (stores_of me.sent) i)
            (sym (h.memory.exact i lt ∙ ap (λ (st : Stage). last_at C (so_far me.sent st) i 0) eq))
            (picture_is C h.lawful.roomy h.lawful.whole e me.sent h.memory.chain i);
        intent = h.memory.intent_is ∙ ap (λ (st : Stage). intent e me.sent st) eq;
        tail = h.memory.tail_is;
        latest = h.memory.latest_is ∙ ap (λ (st : Stage). latest e me.sent st) eq;
        unnamed = h.memory.unnamed;
      }),
      h.seated.joined,
    )

pub closed_copy : (C e : ℕ) (sent : List Record) (ws ws' : List ℕ)
    → ((i : ℕ) → i < board_words C → get_or ws' i 0 ≡ get_or ws i 0)
    → IsClosed C e sent ws → IsClosed C e sent ws'
closed_copy C e sent ws ws' same h = record {
  places = h.places;
  words = λ i lt. subst (IsBoardWord C (stores_of sent) i) (sym (same i (omega arith))) (h.words i lt);
  intent = same (intent_index C) (omega arith) ∙ h.intent;
  tail = same (tail_index C) (omega arith) ∙ h.tail;
  latest = same (latest_index C) (omega arith) ∙ h.latest;
  unnamed = λ i is. same i is.1 ∙ h.unnamed i is;
}

pub read_at : (l : List ℕ) (i a : ℕ) → get_elem? l i ≡ some a → get_or l i 0 ≡ a
read_at [] i a e = absurd (some-ne-none a (sym e))
read_at (x ∷ xs) zero a e = some-injective x a e
read_at (x ∷ xs) (suc i) a e = read_at xs i a e
