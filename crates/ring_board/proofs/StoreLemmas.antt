-- What a transmission stores, and where.
use Rattle.std.proofs.Common.{◌≡◌, ℕ, zero, suc, ◌+◌, ◌-◌, ◌*◌, ◌/◌, ◌%◌, ◌<◌, ◌≤◌, ◌⊎◌, eqb, ltb, cond, Bool, List, [], ◌∷◌, ◌++◌, length, get_or, set, refl, sym, ap, ◌∙◌, inl, inr, ⊎_elim, arith, append_assoc, eq-eqb, ne_eqb, get_or-set_other, get_or-set_same, ltb-true}
use Rattle.std.proofs.{lemmas.Bool.cond_both, Math.Logic.dite}
use Rattle.std.proofs.Math.{Decide.ℕ_discrete, Option.some, Option.some-injective, Option.some-ne-none, ListN.get_elem?}
use Rattle.atomic_table.proofs.Lists.{at_snoc}
use Rattle.ring_layout.specs.{Places.index, Headers.padding_header}
use Rattle.ring_board.{specs.declared.shared.view.Record.Record, proofs.PlaceLemmas.index_below}
use Rattle.ring_board.specs.Records.{end, placed_words, gap, filled, stores, stores_of, last_at, words_of_body, header_of}

pub append_nil : {A : Type 0} (l : List A) → l ++ [] ≡ l
append_nil [] = refl
append_nil (x ∷ xs) = ap (λ m. x ∷ m) (append_nil xs)

pub last_at_snoc : (C : ℕ) (l : List (ℕ × ℕ)) (y : ℕ × ℕ) (i w : ℕ)
    → last_at C (l ++ y ∷ []) i w ≡ cond (eqb (index C y.0) i) y.1 (last_at C l i w)
last_at_snoc C [] y i w = refl
last_at_snoc C (x ∷ xs) y i w = last_at_snoc C xs y i (cond (eqb (index C x.0) i) x.1 w)

-- a store of w at the position p, after the others
pub stores_one : (C : ℕ) (ws : List ℕ) (l : List (ℕ × ℕ)) (p w : ℕ) → 256 ≤ C → C % 64 ≡ 0 → C / 8 ≤ length ws
    → ((i : ℕ) → i < C / 8 → get_or ws i 0 ≡ last_at C l i 0)
    → (i : ℕ) → i < C / 8 → get_or (set ws (index C p) w) i 0 ≡ last_at C (l ++ (p, w) ∷ []) i 0
stores_one C ws l p w roomy whole wide old i h = let lt = index_below C p roomy whole in dite (ℕ_discrete (index C p) i)
    (λ e. (ap (λ (k : ℕ). get_or (set ws k w) i 0) e ∙ get_or-set_same ws i w 0 (omega arith))
    ∙ sym (last_at_snoc C l (p, w) i 0 ∙ ap (λ (b : Bool). cond b w (last_at C l i 0)) (eq-eqb (index C p) i e)))
    (λ ne. get_or-set_other ws (index C p) i w 0 (λ e. ne (sym e))
    ∙ (old i h ∙ sym (last_at_snoc C l (p, w) i 0
    ∙ ap (λ (b : Bool). cond b w (last_at C l i 0)) (ne_eqb (index C p) i ne))))

pub placed_snoc : (p : ℕ) (ws : List ℕ) (w : ℕ)
    → placed_words p (ws ++ w ∷ []) ≡ placed_words p ws ++ (p + 8 * length ws, w) ∷ []
placed_snoc p [] w = ap (λ (q : ℕ). (q, w) ∷ []) (let e : p ≡ p + 8 * 0 = omega arith in e)
placed_snoc p (x ∷ xs) w =
    ap (λ l. (p, x) ∷ l) (placed_snoc (p + 8) xs w ∙ ap (λ (q : ℕ). placed_words (p + 8) xs ++ (q, w) ∷ [])
    (let e : p + 8 + 8 * length xs ≡ p + 8 * suc (length xs) = omega arith in
    e))

pub stores_of_snoc : (l : List Record) (r : Record) → stores_of (l ++ r ∷ []) ≡ stores_of l ++ stores r
stores_of_snoc [] r = append_nil (stores r)
stores_of_snoc (x ∷ xs) r =
    ap (λ m. stores x ++ m) (stores_of_snoc xs r) ∙ sym (append_assoc (stores x) (stores_of xs) (stores r))

pub at_joined : {A : Type 0} (l m : List A) (j : ℕ) (x : A) → get_elem? (l ++ m) j ≡ some x
    → (get_elem? l j ≡ some x) ⊎ ((i : ℕ) × (get_elem? m i ≡ some x))
at_joined [] m j x e = inr (j, e)
at_joined (y ∷ ys) m zero x e = inl e
at_joined (y ∷ ys) m (suc j) x e = at_joined ys m j x e

pub at_behind : {A : Type 0} (l m : List A) (j : ℕ) (x : A) → get_elem? m j ≡ some x
    → get_elem? (l ++ m) (length l + j) ≡ some x
at_behind [] m j x e = ap (get_elem? m) (let f : 0 + j ≡ j = omega arith in f) ∙ e
at_behind (y ∷ ys) m j x e =
    ap (get_elem? (y ∷ (ys ++ m))) (let f : suc (length ys) + j ≡ suc (length ys + j) = omega arith in
    f) ∙ at_behind ys m j x e

placed_where : (p : ℕ) (ws : List ℕ) (j : ℕ) (x : ℕ × ℕ) → p % 8 ≡ 0 → get_elem? (placed_words p ws) j ≡ some x
    → (p ≤ x.0) × (x.0 < p + 8 * length ws) × (x.0 % 8 ≡ 0)
placed_where p [] j x p8 e = absurd (some-ne-none x (sym e))
placed_where p (w ∷ ws) zero x p8 e =
    let s = ap (λ (y : ℕ × ℕ). y.0) (some-injective (p, w) x e) in (omega arith, omega arith, omega arith)
placed_where p (w ∷ ws) (suc j) x p8 e =
    let i = placed_where (p + 8) ws j x (omega arith) e in let a = i.0 in let b = i.1 in
    (omega arith, omega arith, i.2)

pub placed_at : (p : ℕ) (ws : List ℕ) (j : ℕ) → j < length ws
    → get_elem? (placed_words p ws) j ≡ some (p + 8 * j, get_or ws j 0)
placed_at p [] j h = absurd (omega arith)
placed_at p (w ∷ ws) zero h = ap (λ (q : ℕ). some (q, w)) (let e : p ≡ p + 8 * 0 = omega arith in e)
placed_at p (w ∷ ws) (suc j) h = placed_at (p + 8) ws j (omega arith)
    ∙ ap (λ (q : ℕ). some (q, get_or ws j 0)) (let e : p + 8 + 8 * j ≡ p + 8 * suc j = omega arith in
    e)

gap_where : (b p j : ℕ) (x : ℕ × ℕ) → get_elem? (gap b p) j ≡ some x → (x.0 ≡ b) × (b < p)
gap_where b p j x =
    cond_both (ltb b p) ((b, padding_header (p - b)) ∷ []) [] (λ l. get_elem? l j ≡ some x → (x.0 ≡ b) × (b < p))
    (λ t e. (one j e, ltb-true b p t)) (λ _ e. absurd (some-ne-none x (sym e)))
  where
    one : (i : ℕ) → get_elem? ((b, padding_header (p - b)) ∷ []) i ≡ some x → x.0 ≡ b
    one zero e = ap (λ (y : ℕ × ℕ). y.0) (sym (some-injective (b, padding_header (p - b)) x e))
    one (suc i) e = absurd (some-ne-none x (sym e))

pub filled_where : (b p : ℕ) (ws : List ℕ) (j : ℕ) (x : ℕ × ℕ) → b % 8 ≡ 0 → p % 8 ≡ 0
    → get_elem? (filled b p ws) j ≡ some x
    → (((x.0 ≡ b) × (b < p)) ⊎ ((p < x.0) × (x.0 < p + 8 + 8 * length ws))) × (x.0 % 8 ≡ 0)
filled_where b p ws j x b8 p8 e =
    ⊎_elim (λ h. let g = gap_where b p j x h in let s = g.0 in (inl g, (let z : x.0 % 8 ≡ 0 = omega arith in z)))
    (λ h. let w = placed_where (p + 8) ws h.0 x (omega arith) h.1 in let c = w.0 in let d = w.1 in
    (inr (omega arith, omega arith), w.2)) (at_joined (gap b p) (placed_words (p + 8) ws) j x e)

-- the number of words of a body
pub words_long : (k : ℕ) (bytes : List ℕ) → length (Rattle.ring_board.specs.Records.first_words k bytes) ≡ k
words_long zero bytes = refl
words_long (suc k) bytes = ap suc (words_long k (Rattle.std.proofs.Common.drop 8 bytes))

pub stores_where : (r : Record) (j : ℕ) (x : ℕ × ℕ) → r.before % 8 ≡ 0 → r.place % 8 ≡ 0 → r.before ≤ r.place
    → get_elem? (stores r) j ≡ some x
    → (r.before ≤ x.0) × (x.0 < end r) × (x.0 % 8 ≡ 0)
stores_where r j x b8 p8 le e =
    let body : List ℕ = r.message.body in let long = words_long ((length body + 7) / 8) body in
    ⊎_elim (λ h. let f = filled_where r.before r.place (words_of_body body) j x b8 p8 h in
    ⊎_elim (λ t. let a = t.0 in let b = t.1 in (omega arith, (let z : x.0 < end r = omega arith in z), f.1))
    (λ t. let a = t.0 in let b = t.1 in
    (omega arith, (let z : x.0 < end r = omega arith in z), f.1)) f.0)
    (λ h. let s =
    ap (λ (y : ℕ × ℕ). y.0) h in (
      omega arith,
      (let z : x.0 < end r = omega arith in z),
      (let z : x.0 % 8 ≡ 0 = omega arith in z),
    ))
    (at_snoc (filled r.before r.place (words_of_body body)) (r.place, header_of r.message) x j e)
