-- What is in the words of a closed broadcast buffer: each store that a later lap has not covered.
use Rattle.std.proofs.Common.{◌≡◌, ℕ, zero, suc, ◌+◌, ◌-◌, ◌*◌, ◌/◌, ◌%◌, ◌<◌, ◌≤◌, cond, ltb, eqb, List, [], ◌∷◌, ◌++◌, length, drop, get_or, slice_index, refl, ap, sym, ◌∙◌, subst, ⊎_elim, arith, eq-eqb, ne_eqb, w64, lt-ltb, le-ltb, ltb-true, drop-drop}
use Rattle.std.specs.Int.{from_le_bytes}
use Rattle.std.proofs.lemmas.Bool.{cond_both, cond-true, cond-false}
use Rattle.std.proofs.Math.{Option.some, Option.some-injective, Option.some-ne-none, ListN.get_elem?}
use Rattle.ring_layout.specs.{Places.index, Headers.padding_header}
use Rattle.ring_layout.proofs.{Laps.same_index, Laps.index_step, PlaceLemmas.span_bounds}
use Rattle.ring_board.specs.{declared.shared.view.Record.Record, Closing.IsClosed}
use Rattle.ring_board.specs.Records.{end, Follows, Chain, end_of, first_words, words_of_body, word_count, header_of, placed_words, gap, filled, stores, stores_of}
use Rattle.ring_board.proofs.PlaceLemmas.{index_below, lies_after, lies_inside, lies_whole, chain_rises, chain_at}
use Rattle.ring_board.proofs.StoreLemmas.{at_joined, at_behind, stores_where, words_long}
use Rattle.ring_board.proofs.LookLemmas.{gap_at, header_at, word_at}

-- ---- the word of a position

gap_is : (b p j : ℕ) (x : ℕ × ℕ) → get_elem? (gap b p) j ≡ some x → (b < p) × ((b, padding_header (p - b)) ≡ x)
gap_is b p j x =
    cond_both (ltb b p) ((b, padding_header (p - b)) ∷ []) []
    (λ l. get_elem? l j ≡ some x → (b < p) × ((b, padding_header (p - b)) ≡ x))
    (λ t e. (ltb-true b p t, one j e)) (λ _ e. absurd (some-ne-none x (sym e)))
  where
    one : (i : ℕ) → get_elem? ((b, padding_header (p - b)) ∷ []) i ≡ some x → (b, padding_header (p - b)) ≡ x
    one zero e = some-injective (b, padding_header (p - b)) x e
    one (suc i) e = absurd (some-ne-none x (sym e))

placed_is : (p : ℕ) (ws : List ℕ) (j : ℕ) (x : ℕ × ℕ) → get_elem? (placed_words p ws) j ≡ some x
    → (i : ℕ) × (x.0 ≡ p + 8 * i) × (x.1 ≡ get_or ws i 0)
placed_is p [] j x e = absurd (some-ne-none x (sym e))
placed_is p (w ∷ ws) zero x e =
    let s = ap (λ (y : ℕ × ℕ). y.0) (some-injective (p, w) x e) in
    (0, omega (arith, s), ap (λ (y : ℕ × ℕ). y.1) (sym (some-injective (p, w) x e)))
placed_is p (w ∷ ws) (suc j) x e =
    let i = placed_is (p + 8) ws j x e in let at = i.1 in (suc i.0, omega (arith, at), i.2)

-- the word that a transmission stores at a position
abbrev store_at : Record → ℕ → ℕ
store_at r q = cond (ltb q r.place) (padding_header (r.place - r.before))
    (cond (eqb q r.place) (header_of r.message) (get_or (words_of_body r.message.body) ((q - (r.place + 8)) / 8) 0))

store_is : (r : Record) (j : ℕ) (x : ℕ × ℕ) → get_elem? (stores r) j ≡ some x → x.1 ≡ store_at r x.0
store_is r j x on =
    ⊎_elim (λ f. ⊎_elim in_gap in_body
    (at_joined (gap r.before r.place) (placed_words (r.place + 8) (words_of_body r.message.body)) j x f))
    (λ h. in_header h.0 h.1)
    (at_joined (filled r.before r.place (words_of_body r.message.body)) ((r.place, header_of r.message) ∷ []) j x on)
  where
    in_gap : get_elem? (gap r.before r.place) j ≡ some x → x.1 ≡ store_at r x.0
    in_gap e = let g = gap_is r.before r.place j x e in
        subst (λ (y : ℕ × ℕ). y.1 ≡ store_at r y.0) g.1 (sym (cond-true _ _ _ (lt-ltb r.before r.place g.0)))

    in_header : (i : ℕ) → get_elem? ((r.place, header_of r.message) ∷ []) i ≡ some x → x.1 ≡ store_at r x.0
    in_header (suc i) e = absurd (some-ne-none x (sym e))
    in_header zero e = subst (λ (y : ℕ × ℕ). y.1 ≡ store_at r y.0) (some-injective (r.place, header_of r.message) x e)
        (sym (cond-false _ _ _ (le-ltb r.place r.place (omega arith))
        ∙ cond-true _ _ _ (eq-eqb r.place r.place refl)))

    in_body : (i : ℕ) × (get_elem? (placed_words (r.place + 8) (words_of_body r.message.body)) i ≡ some x)
        → x.1 ≡ store_at r x.0
    in_body h =
        let p = placed_is (r.place + 8) (words_of_body r.message.body) h.0 x h.1 in let at = p.1 in
        p.2 ∙ ap (λ k. get_or (words_of_body r.message.body) k 0)
        (let e : p.0 ≡ (x.0 - (r.place + 8)) / 8 = omega (arith, at) in e)
        ∙ sym (cond-false _ _ _ (le-ltb x.0 r.place (omega (arith, at)))
        ∙ cond-false _ _ _ (ne_eqb x.0 r.place (λ z. omega (arith, at, z))))

-- the word that a list's transmissions store at a position
abbrev sent_at : List Record → ℕ → ℕ
sent_at [] q = 0
sent_at (r ∷ rs) q = cond (ltb q (end r)) (store_at r q) (sent_at rs q)

at_front : (l m : List (ℕ × ℕ)) (j : ℕ) (x : ℕ × ℕ) → get_elem? l j ≡ some x → get_elem? (l ++ m) j ≡ some x
at_front [] m j x e = absurd (some-ne-none x (sym e))
at_front (y ∷ ys) m zero x e = e
at_front (y ∷ ys) m (suc j) x e = at_front ys m j x e

stores_in : (l : List Record) (k : ℕ) (r : Record) → get_elem? l k ≡ some r → (j : ℕ) (x : ℕ × ℕ)
    → get_elem? (stores r) j ≡ some x
    → (i : ℕ) × (get_elem? (stores_of l) i ≡ some x)
stores_in [] k r on j x at = absurd (some-ne-none r (sym on))
stores_in (a ∷ l) zero r on j x at = (
  j,
  at_front (stores a) (stores_of l) j x
      (subst (λ (q : Record). get_elem? (stores q) j ≡ some x) (sym (some-injective a r on)) at),
)
stores_in (a ∷ l) (suc k) r on j x at =
    let i = stores_in l k r on j x at in
    (length (stores a) + i.0, at_behind (stores a) (stores_of l) i.0 x i.1)

module _ (C : ℕ) (roomy : 256 ≤ C) (whole : C % 64 ≡ 0) where
  store_bounds : (e : ℕ) (r : Record) → Follows C e r → (j : ℕ) (x : ℕ × ℕ) → get_elem? (stores r) j ≡ some x
      → (e ≤ x.0) × (x.0 < end r) × (x.0 % 8 ≡ 0)
  store_bounds e r f j x on =
      let g = f.fits in let b = g.begins in
      let w = stores_where r j x g.begins_whole (lies_whole C e r.before r.place (end r) g roomy whole)
      (lies_after C e r.before r.place (end r) g roomy whole) on in
      let low = w.0 in (omega (arith, low, b), w.1, w.2)

  all_bounds : (e : ℕ) (l : List Record) → Chain C e l → (j : ℕ) (y : ℕ × ℕ) → get_elem? (stores_of l) j ≡ some y
      → (e ≤ y.0) × (y.0 < end_of e l) × (y.0 % 8 ≡ 0)
  all_bounds e [] c j y on = absurd (some-ne-none y (sym on))
  all_bounds e (r ∷ rs) c j y on =
      let f = c.0.fits in let a = lies_after C e r.before r.place (end r) f roomy whole in let b = f.begins in
      let so = f.some_room in
      ⊎_elim (λ t. let s = store_bounds e r c.0 j y t in let up = chain_rises C roomy whole (end r) rs c.1 in
      let high = s.1 in (s.0, omega (arith, high, up), s.2))
      (λ t. let i = all_bounds (end r) rs c.1 t.0 y t.1 in let low = i.0 in (omega (arith, low, a, b, so), i.1, i.2))
      (at_joined (stores r) (stores_of rs) j y on)

  all_are : (e : ℕ) (l : List Record) → Chain C e l → (j : ℕ) (y : ℕ × ℕ) → get_elem? (stores_of l) j ≡ some y
      → y.1 ≡ sent_at l y.0
  all_are e [] c j y on = absurd (some-ne-none y (sym on))
  all_are e (r ∷ rs) c j y on =
      ⊎_elim (λ t. store_is r j y t ∙ sym (cond-true _ _ _ (lt-ltb y.0 (end r) ((store_bounds e r c.0 j y t).1))))
      (λ t. all_are (end r) rs c.1 t.0 y t.1
      ∙ sym (cond-false _ _ _ (le-ltb y.0 (end r) ((all_bounds (end r) rs c.1 t.0 y t.1).0))))
      (at_joined (stores r) (stores_of rs) j y on)

  -- ---- what is there

  module _ (e : ℕ) (sent : List Record) (ws : List ℕ) (closed : IsClosed C e sent ws) (k : ℕ) (r : Record)
      (on : get_elem? sent k ≡ some r) where
    stands : (j : ℕ) (x : ℕ × ℕ) → get_elem? (stores r) j ≡ some x → end_of e sent ≤ x.0 + C
        → slice_index ws (index C x.0) ≡ x.1
    stands j x at near =
        let i = stores_in sent k r on j x at in
        let b = all_bounds e sent closed.places i.0 x i.1 in
        ⊎_elim (λ n. let y = n.0 in let h = n.1 in let s = h.stored in
        let by = all_bounds e sent closed.places s.0 y s.1 in let high = by.1 in
        let same : x.0 ≡ y.0 = same_index C x.0 y.0
        (record { some = omega (arith, roomy); whole = omega (arith, whole) }) b.2
        (record { whole = by.2; from = h.greatest i.0 x i.1 refl; below = omega (arith, high, near) })
        (sym h.at_index) in
        h.word ∙ all_are e sent closed.places s.0 y s.1 ∙ ap (sent_at sent) (sym same)
        ∙ sym (all_are e sent closed.places i.0 x i.1))
        (λ none. absurd (none.0 i.0 x i.1 refl))
        (closed.words (index C x.0) (index_below C x.0 roomy whole))

    pub padding_stands : r.before < r.place → end_of e sent ≤ r.before + C
        → slice_index ws (index C r.before) ≡ padding_header (r.place - r.before)
    padding_stands lt near = stands 0 (r.before, padding_header (r.place - r.before)) (gap_at r lt) near

    pub header_stands : end_of e sent ≤ r.place + C → slice_index ws (index C r.place) ≡ header_of r.message
    header_stands near =
        stands (length (filled r.before r.place (words_of_body r.message.body))) (r.place, header_of r.message)
        (header_at r) near

    pub body_stands : end_of e sent ≤ r.place + C → (j : ℕ) → 8 * j < length r.message.body
        → slice_index ws (r.place % C / 8 + 1 + j) ≡ from_le_bytes w64 (drop (8 * j) r.message.body)
    body_stands near j lt =
        let n : ℕ = length r.message.body in
        let f = (chain_at C roomy whole e sent closed.places k r on).0.fits in
        let inside = lies_inside C r.before r.before r.place (end r) f roomy whole in
        let p8 = lies_whole C r.before r.before r.place (end r) f roomy whole in
        let b = span_bounds n in
        let long = words_long (word_count n) r.message.body in
        let few : j < length (words_of_body r.message.body) = omega (arith, long, lt) in
        let step = index_step C r.place (j + 1) (omega (arith, whole)) p8 (omega (arith, inside, b, lt)) in
        let there : r.place % C / 8 + 1 + j ≡ index C (r.place + 8 + 8 * j) =
        (let e' : r.place % C / 8 + 1 + j ≡ index C (r.place + 8 * (j + 1)) = omega (arith, step) in e')
        ∙ ap (index C) (let e' : r.place + 8 * (j + 1) ≡ r.place + 8 + 8 * j = omega arith in e') in
        ap (slice_index ws) there
        ∙ stands (length (gap r.before r.place) + j) (r.place + 8 + 8 * j, get_or (words_of_body r.message.body) j 0)
        (word_at r j few) (omega (arith, near))
        ∙ first_at (word_count n) j r.message.body (omega (arith, lt))
      where
        first_at : (m i : ℕ) (bytes : List ℕ) → i < m
            → get_or (first_words m bytes) i 0 ≡ from_le_bytes w64 (drop (8 * i) bytes)
        first_at zero i bytes h = absurd (omega (arith, h))
        first_at (suc m) zero bytes h = refl
        first_at (suc m) (suc i) bytes h =
            first_at m i (drop 8 bytes) (omega (arith, h))
            ∙ ap (from_le_bytes w64) (drop-drop (8 * i) 8 bytes
            ∙ ap (λ q. drop q bytes) (let e' : 8 + 8 * i ≡ 8 * suc i = omega arith in e'))
