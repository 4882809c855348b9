-- A walk over the marks of a ring, whose committed records are in runs, finds the headers of its claims.
use Rattle.std.proofs.Common.{◌≡◌, ◌≢◌, ◌⊎◌, ℕ, zero, suc, ◌+◌, ◌*◌, ◌%◌, ◌≤◌, ◌<◌, true, false, List, ◌∷◌, length, set, length-set, refl, sym, ap, ◌∙◌, subst, inl, inr, ⊎_elim, lt-ltb, le-ltb, eq-eqb, ne_eqb, ltb, leb, eqb, arith, not, ◌&&◌, ◌==◌, if◌then◌else◌, le-leb}
use Rattle.std.proofs.Math.{Logic.dite, Decide.ℕ_discrete}
use Rattle.std.proofs.lemmas.Bool.{and_from, and_left, and_right, cases_lt, cond-true, cond-false, lt-leb}
use Rattle.ring_layout.specs.{Marks.committed_kind, Layout.ring_words, Places.IsCapacity, Places.index}
use Rattle.ring_table.specs.Marks.{at_position, bytes_of, decoded, kind_of, mark_of, IsCommitted, IsOfRun, Precedes, ShowsRuns, Spreads}
use Rattle.ring_table.specs.Staged.{elsewhere, ArePlaced, staged_word_at}
use Rattle.ring_table.specs.declared.claim.StagedClaim.{StagedClaim}
use Rattle.ring_table.proofs.{DecodeLemmas.all_filled_out, DecodeLemmas.kind_is_committed, StagedPlaces.inside_buffer}
use Rattle.ring_table.proofs.MarkWords.{few_of, whole_bytes}
use Rattle.ring_table.proofs.SpreadLemmas.{spreads_first, spreads_in, spreads_over, spreads_past}
use Rattle.ring_recovery.specs.Headers.{found_at, header_of_mark, headers_in, is_stray, mark_in, new_walk, shows, walk_after}
use Rattle.ring_recovery.{specs.declared.mark.Found.Found, specs.declared.mark.Walk.Walk, proofs.ScanLemmas.listed}
use Rattle.ring_recovery.proofs.MarkLemmas.{HaveRecords, committed_there, header_low, header_shown, none_there, other_there, shows_committed}

-- ---- one word

not_stray : (v : Walk) (p w : ℕ) → (v.end ≤ p) ⊎ ((w ≤ p) ⊎ (w ≡ v.end)) → is_stray v p w ≡ false
not_stray v p w (inl over) =
    and_left (ltb p v.end && ltb p w) (not (eqb w v.end)) (and_left (ltb p v.end) (ltb p w) (le-ltb p v.end over))
not_stray v p w (inr (inl low)) =
    and_left (ltb p v.end && ltb p w) (not (eqb w v.end)) (and_right (ltb p v.end) (ltb p w) (le-ltb p w low))
not_stray v p w (inr (inr same)) =
    and_right (ltb p v.end && ltb p w) (not (eqb w v.end)) (ap not (eq-eqb w v.end same))

mark_of_run : (v : Walk) (p w : ℕ) → w ≤ p → v.next ≡ p → mark_in v p w ≡ v.end
mark_of_run v p w low here = cond-true _ _ _ (and_from (leb w p) (eqb v.next p) (le-leb w p low) (eq-eqb v.next p here))

own_mark : (v : Walk) (p w : ℕ) → (p < w) ⊎ (v.next ≢ p) → mark_in v p w ≡ w
own_mark v p w (inl above) = cond-false _ _ _ (and_left (leb w p) (eqb v.next p) (lt-leb w p above))
own_mark v p w (inr ne) = cond-false _ _ _ (and_right (leb w p) (eqb v.next p) (ne_eqb v.next p ne))

mark_low : (v : Walk) (p w : ℕ) → w ≤ p → (v.next ≡ p → v.end ≤ p) → mark_in v p w ≤ p
mark_low v p w low over = dite (ℕ_discrete v.next p)
    (λ here. let is = mark_of_run v p w low here in let le = over here in omega arith)
    (λ ne. let is = own_mark v p w (inr ne) in omega arith)

walk_kept : (v : Walk) (p m y : ℕ) → (m ≤ p) ⊎ (m % 8 ≢ committed_kind) → walk_after v p m y ≡ v
walk_kept v p m y (inl low) = cond-false _ _ _ (and_left (ltb p m && eqb (m % 8) committed_kind) (shows p m y)
    (and_left (ltb p m) (eqb (m % 8) committed_kind) (le-ltb p m low)))
walk_kept v p m y (inr other) = cond-false _ _ _ (and_left (ltb p m && eqb (m % 8) committed_kind) (shows p m y)
    (and_right (ltb p m) (eqb (m % 8) committed_kind) (ne_eqb (m % 8) committed_kind other)))

walk_moved : (v : Walk) (p m y : ℕ) → p < m → m % 8 ≡ committed_kind → shows p m y ≡ true
    → walk_after v p m y ≡ record { next = p + bytes_of y; end = m }
walk_moved v p m y above kind is =
    cond-true _ _ _ (and_from (ltb p m && eqb (m % 8) committed_kind) (shows p m y)
    (and_from (ltb p m) (eqb (m % 8) committed_kind) (lt-ltb p m above) (eq-eqb (m % 8) committed_kind kind)) is)

-- ---- all words

module _ (C head : ℕ) (words slots headers : List ℕ) (r : ShowsRuns C head slots words headers) (cs : List StagedClaim)
    (cap : IsCapacity C) (head8 : head % 8 ≡ 0) (placed : ArePlaced C head cs) (have : HaveRecords C slots cs)
    (wide : length words ≡ ring_words C)
    (are : (p : ℕ) → p % 8 ≡ 0 → head ≤ p → p < head + C
    → at_position C headers p ≡ staged_word_at elsewhere cs p) where
  abbrev h : ℕ → ℕ
  h = at_position C headers

  abbrev w : ℕ → ℕ
  w = at_position C words

  abbrev y : ℕ → ℕ
  y = at_position C slots

  abbrev found : Walk → ℕ → Found
  found = found_at C words slots

  abbrev shown : ℕ → ℕ
  shown p = staged_word_at elsewhere (all_filled_out cs) p

  -- The walk v has come to the position `at`. Nothing begins from there up to `next`, and up to `end` lies the rest of
  -- a run
  record Walks (v : Walk) (at : ℕ) : Type 0 where
    new : List ℕ
    long : length new ≡ ring_words C
    next : ℕ
    end : ℕ
    spread : Spreads C head headers r.ends words new at next end
    is : ((v.next ≡ next) × (v.end ≡ end)) ⊎ ((v.next ≤ at) × (v.end ≤ at) × (next ≡ at) × (end ≡ at))

  module _ (v : Walk) (at : ℕ) (k : Walks v at) (near : at < head + C) where
    s : Spreads C head headers r.ends words k.new at k.next k.end
    s = k.spread

    at8 : at % 8 ≡ 0
    at8 = s.whole.0

    low : head ≤ at
    low = s.order.0

    is_claimed : h at ≡ staged_word_at elsewhere cs at
    is_claimed = are at at8 low near

    -- what begins there begins where the walk says
    here : h at ≢ 0 → k.next ≡ at
    here some = ⊎_elim (λ (over : at < k.next). absurd (some (s.between at at8 (omega arith) over near)))
        (λ (le : k.next ≤ at). let order = s.order.1 in omega arith) (cases_lt at k.next)

    -- the run is over, if no committed record begins there
    over : k.next ≡ at → (IsCommitted (h at) → ⊥) → k.end ≤ at
    over same none = ⊎_elim
        (λ (more : k.next < k.end). absurd (none (subst (λ z. IsCommitted (h z)) same (s.goes_on more).0)))
        (λ (le : k.end ≤ k.next). omega arith) (cases_lt k.next k.end)

    walk_over : v.next ≡ at → (IsCommitted (h at) → ⊥) → v.end ≤ at
    walk_over same none = ⊎_elim
        (λ (is : (v.next ≡ k.next) × (v.end ≡ k.end)).
        let le = over (sym is.0 ∙ same) none in let end = is.1 in omega arith)
        (λ z. z.1) k.is

    -- no committed record begins there
    passes : k.next ≡ at → (IsCommitted (h at) → ⊥) → Walks v (at + 8)
    passes same none = record {
      new = k.new;
      long = k.long;
      next = at + 8;
      end = at + 8;
      spread = spreads_past C head cap slots words headers r k.new at k.next k.end s near same none;
      is = ⊎_elim
          (λ (is : (v.next ≡ k.next) × (v.end ≡ k.end)).
          let le = over same none in
          let next = is.0 in
          let end = is.1 in inr (omega arith, omega arith, refl, refl))
          (λ z. let next = z.0 in let end = z.1 in inr (omega arith, omega arith, refl, refl)) k.is;
    }

    -- nothing begins there
    module _ (none : h at ≡ 0) where
      quiet : IsCommitted (h at) → ⊥
      quiet is = is.0 none

      low_word : w at ≤ at
      low_word = r.encodes.none at at8 low near none

      low_mark : mark_in v at (w at) ≤ at
      low_mark = mark_low v at (w at) low_word (λ same. walk_over same quiet)

      zero_header : (found v at).header ≡ shown at
      zero_header =
          cond-false _ _ _ (not_stray v at (w at) (inr (inl low_word)))
          ∙ header_low at (mark_in v at (w at)) (y at) low_mark
          ∙ sym (none_there C head slots cs cap head8 placed have at at8 (sym is_claimed ∙ none))

      zero_walks : Walks (found v at).walk (at + 8)
      zero_walks = subst (λ x. Walks x (at + 8)) (sym (walk_kept v at (mark_in v at (w at)) (y at) (inl low_mark)))
          (⊎_elim
          (λ (inside : at < k.next). record {
            new = k.new;
            long = k.long;
            next = k.next;
            end = k.end;
            spread = spreads_over C head cap slots words headers r k.new at k.next k.end s near inside;
            is = ⊎_elim (λ (is : (v.next ≡ k.next) × (v.end ≡ k.end)). inl is)
                (λ z. let same = z.2 in absurd (omega arith)) k.is;
          })
          (λ (le : k.next ≤ at). let order = s.order.1 in passes (omega arith) quiet) (cases_lt at k.next))

    -- what begins there is not committed
    module _ (some : h at ≢ 0) (kind : kind_of (h at) ≢ committed_kind) where
      other : IsCommitted (h at) → ⊥
      other is = kind is.1

      its_mark : w at ≡ mark_of at (h at)
      its_mark = r.encodes.marks at at8 low near some kind

      high : at < w at
      high = let long = r.full at at8 low near some in let is = its_mark in omega arith

      mark_is : mark_in v at (w at) ≡ w at
      mark_is = own_mark v at (w at) (inl high)

      other_kind : mark_in v at (w at) % 8 ≢ committed_kind
      other_kind e =
          let is = its_mark in
          let same = mark_is in
          let eight = whole_bytes (h at) in
          let few = few_of (h at) in kind (omega arith)

      run_over : v.end ≤ at
      run_over = ⊎_elim
          (λ (is : (v.next ≡ k.next) × (v.end ≡ k.end)).
          let le = over (here some) other in let end = is.1 in omega arith) (λ z. z.1) k.is

      other_header : (found v at).header ≡ shown at
      other_header =
          cond-false _ _ _ (not_stray v at (w at) (inl run_over))
          ∙ ap (λ m. header_of_mark at m (y at)) (mark_is ∙ its_mark ∙ ap (mark_of at) is_claimed)
          ∙ other_there C head slots cs cap head8 placed have at at8 (λ z. some (is_claimed ∙ z))
          (λ z. kind (ap kind_of is_claimed ∙ z))

      other_walks : Walks (found v at).walk (at + 8)
      other_walks = subst (λ x. Walks x (at + 8))
          (sym (walk_kept v at (mark_in v at (w at)) (y at) (inr other_kind))) (passes (here some) other)

    -- a committed record begins there
    module _ (is : IsCommitted (h at)) where
      abbrev e : ℕ
      e = r.ends at

      o : IsOfRun C head h r.ends w at
      o = r.encodes.runs at at8 low near is

      long : 8 ≤ bytes_of (h at)
      long = r.full at at8 low near is.0

      above : at + bytes_of (h at) ≤ e
      above = ⊎_elim (λ (last : e ≡ at + bytes_of (h at)). omega arith)
          (λ (more : (at + bytes_of (h at) < e) × IsCommitted (h (at + bytes_of (h at)))
          × (r.ends (at + bytes_of (h at)) ≡ e)). let less = more.0 in omega arith) o.goes_on

      abbrev Reads : Type 0
      Reads = (mark_in v at (w at) ≡ e) × (is_stray v at (w at) ≡ false)

      -- by its own mark
      marked : w at ≡ e → (v.end ≤ at) ⊎ (v.end ≡ e) → Reads
      marked same where_to =
          let ends = above in
          let full = long in (
            own_mark v at (w at) (inl (omega arith)) ∙ same,
            not_stray v at (w at) (⊎_elim (λ le. inl le) (λ end. inr (inr (same ∙ sym end))) where_to),
          )

      begins : k.next ≡ k.end → w at ≡ e
      begins done = subst (λ z. z < head + C → IsCommitted (h z) → w z ≡ r.ends z) (here is.0) (s.begins done) near is

      reads : Reads
      reads = ⊎_elim
          (λ (same : (v.next ≡ k.next) × (v.end ≡ k.end)). ⊎_elim
          (λ (more : k.next < k.end).
          let end : v.end ≡ e = same.1 ∙ sym (subst (λ z. r.ends z ≡ k.end) (here is.0) (s.goes_on more).1) in
          ⊎_elim (λ (own : w at ≡ e). marked own (inr end))
          (λ (inner : (w at ≤ at) × Precedes head h r.ends at). (
            mark_of_run v at (w at) inner.0 (same.0 ∙ here is.0) ∙ end,
            not_stray v at (w at) (inr (inl inner.0)),
          )) o.mark)
          (λ (le : k.end ≤ k.next).
          let order = s.order.2 in
          let at_it = here is.0 in
          let end = same.1 in marked (begins (omega arith)) (inl (omega arith))) (cases_lt k.next k.end))
          (λ z. marked (begins (z.2 ∙ sym z.3)) (inl z.1)) k.is

      head_is : y at ≡ h at
      head_is = r.heads at at8 low near is

      decodes : decoded at e (y at) ≡ y at
      decodes = let ends = above in let full = long in kind_is_committed at e (y at) (omega arith) o.whole

      its : shows at e (y at) ≡ true
      its =
          let ends = above in
          let far = o.near in
          let most = cap.most in
          let bytes = ap bytes_of head_is in
          let full = long in
          shows_committed at e (y at) (omega arith) (omega arith) o.whole (omega arith, ap kind_of head_is ∙ is.1)

      committed_header : (found v at).header ≡ shown at
      committed_header =
          let ends = above in
          let full = long in
          cond-false _ _ _ reads.1 ∙ ap (λ m. header_of_mark at m (y at)) reads.0
          ∙ header_shown at e (y at) (omega arith) (ap (shows at e) decodes ∙ its) ∙ decodes
          ∙ committed_there C head slots cs cap head8 placed have at at8 (λ z. is.0 (is_claimed ∙ z))
          (sym (ap kind_of is_claimed) ∙ is.1)

      committed_walks : Walks (found v at).walk (at + 8)
      committed_walks =
          let ends = above in
          let full = long in
          let inside = inside_buffer C at cap in
          let wide_new = k.long in
          let m : ℕ = at + bytes_of (y at) in
          subst (λ x. Walks x (at + 8))
          (sym (ap (λ z. walk_after v at z (y at)) reads.0 ∙ walk_moved v at e (y at) (omega arith) o.whole its))
          (record {
            new = set k.new (index C at) m;
            long = length-set k.new (index C at) m ∙ k.long;
            next = m;
            end = e;
            spread = spreads_in C head cap slots words headers r k.new at k.next k.end s near (here is.0) is
                (omega arith) e m refl (ap (λ z. at + bytes_of z) head_is);
            is = inl (refl, refl);
          })

    step : ((found v at).header ≡ shown at) × Walks (found v at).walk (at + 8)
    step = dite (ℕ_discrete (h at) 0) (λ none. (zero_header none, zero_walks none))
        (λ some. dite (ℕ_discrete (kind_of (h at)) committed_kind)
        (λ kind. (committed_header (some, kind), committed_walks (some, kind)))
        (λ kind. (other_header some kind, other_walks some kind)))

  from_there : (n : ℕ) (v : Walk) (p : ℕ) → Walks v p → p + 8 * n ≤ head + C
      → headers_in found n v p ≡ listed shown n p
  from_there zero v p k room = refl
  from_there (suc n) v p k room =
      let s = step v p k (omega arith) in
      let rest = from_there n (found v p).walk (p + 8) s.1 (omega arith) in
      λ i. if s.0 i == 0 then rest i else ((p, s.0 i) ∷ rest i)

  -- from the head on
  pub all_found : (n : ℕ) → 8 * n ≤ C → headers_in found n new_walk head ≡ listed shown n head
  all_found n room = from_there n new_walk head (record {
    new = words;
    long = wide;
    next = head;
    end = head;
    spread = spreads_first C head cap slots words headers r head8;
    is = inr (omega arith, omega arith, refl, refl);
  }) (omega arith)
