-- The words encode headers as both change.
use Rattle.std.proofs.Common.{◌≡◌, ◌≢◌, ◌⊎◌, ℕ, ◌+◌, ◌-◌, ◌/◌, ◌%◌, ◌≤◌, ◌<◌, List, cond, eqb, set, get_or, slice_index, sym, refl, ap, ◌∙◌, subst, inl, inr, ⊎_elim, length, length-set, get_or-set_other, get_or-set_same, eq-eqb, ne_eqb, arith}
use Rattle.std.proofs.Math.{Logic.dite, Decide.ℕ_discrete, Nat.add-mod_right}
use Rattle.std.proofs.lemmas.Bool.{cases_lt, cond-true, cond-false}
use Rattle.ring_layout.specs.{Marks.committed_kind, Places.index}
use Rattle.ring_table.specs.{Staged.elsewhere, Rule.IsLawful, Views.Run, Views.no_run}
use Rattle.ring_table.specs.Marks.{at_position, bytes_of, kind_of, mark_of, Begins, Encodes, IsCommitted, IsOfRun, Precedes, ReadsRun}
use Rattle.ring_table.proofs.{MemoryLemmas.not_inside, MemoryLemmas.one_position, MarkWords.whole_bytes}

-- the ends with this one at q
abbrev pub end_set : ℕ → ℕ → (ℕ → ℕ) → ℕ → ℕ
end_set q e ends p = cond (eqb p q) e (ends p)

pub end_here : (q e : ℕ) (ends : ℕ → ℕ) (p : ℕ) → p ≡ q → end_set q e ends p ≡ e
end_here q e ends p same = cond-true _ e (ends p) (eq-eqb p q same)

pub end_else : (q e : ℕ) (ends : ℕ → ℕ) (p : ℕ) → p ≢ q → end_set q e ends p ≡ ends p
end_else q e ends p other = cond-false _ e (ends p) (ne_eqb p q other)

-- Headers, ends and words change from b up to t alone. No record was committed there
pub record Rewrites (C head : ℕ) (h ends w h' ends' w' : ℕ → ℕ) (b t : ℕ) : Type 0 where
  pub none_was : (p : ℕ) → p % 8 ≡ 0 → b ≤ p → p < t → IsCommitted (h p) → ⊥
  pub headers_stay : (p : ℕ) → p % 8 ≡ 0 → head ≤ p → p < head + C → (p < b) ⊎ (t ≤ p) → h' p ≡ h p
  pub words_stay : (p : ℕ) → p % 8 ≡ 0 → head ≤ p → p < head + C → (p < b) ⊎ (t ≤ p) → w' p ≡ w p
  pub ends_stay : (p : ℕ) → p % 8 ≡ 0 → head ≤ p → p < head + C → (p < b) ⊎ (t ≤ p) → ends' p ≡ ends p
  pub first : IsCommitted (h' b) → w' b ≡ ends' b

module _ (C head : ℕ) (h ends w h' ends' w' : ℕ → ℕ) (b t : ℕ) (r : Rewrites C head h ends w h' ends' w' b t) where
  -- a committed record is not there
  beside : (p : ℕ) → p % 8 ≡ 0 → IsCommitted (h p) → (p < b) ⊎ (t ≤ p)
  beside p p8 is = ⊎_elim (λ (low : p < b). inl low)
      (λ (on : b ≤ p). ⊎_elim (λ (less : p < t). absurd (r.none_was p p8 on less is)) (λ (far : t ≤ p). inr far)
      (cases_lt p t)) (cases_lt p b)

  pub of_run_beside : (p : ℕ) → p % 8 ≡ 0 → head ≤ p → p < head + C → IsCommitted (h p) → IsOfRun C head h ends w p
      → IsOfRun C head h' ends' w' p
  of_run_beside p p8 p0 p1 is o =
      let away = beside p p8 is in
      let header : h' p ≡ h p = r.headers_stay p p8 p0 p1 away in
      let end : ends' p ≡ ends p = r.ends_stay p p8 p0 p1 away in
      let word : w' p ≡ w p = r.words_stay p p8 p0 p1 away in
      let near = o.near in
      let q : ℕ = p + bytes_of (h p) in
      let eight = whole_bytes (h p) in
      let next : p + bytes_of (h' p) ≡ q = ap (λ z. p + bytes_of z) header in
      record {
        whole = ap (λ z. z % 8) end ∙ o.whole;
        near = omega arith;
        goes_on = ⊎_elim
            (λ (last : ends p ≡ q). inl (end ∙ last ∙ sym next))
            (λ (more : (q < ends p) × IsCommitted (h q) × (ends q ≡ ends p)).
            let before = more.0 in
            let away' = beside q (omega arith) more.1 in
            let same_header = r.headers_stay q (omega arith) (omega arith) (omega arith) away' in
            let same_end = r.ends_stay q (omega arith) (omega arith) (omega arith) away' in
            inr (subst (λ z. (z < ends' p) × IsCommitted (h' z) × (ends' z ≡ ends' p)) (sym next)
            (omega arith, subst IsCommitted (sym same_header) more.1, same_end ∙ more.2 ∙ sym end)))
            o.goes_on;
        mark = ⊎_elim
            (λ (marked : w p ≡ ends p). inl (word ∙ marked ∙ sym end))
            (λ (inside : (w p ≤ p) × Precedes head h ends p).
            let none = inside.0 in
            let pre = inside.1 in
            let below = pre.below in
            let from = pre.from in
            let away' = beside pre.at pre.whole pre.committed in
            let same_header = r.headers_stay pre.at pre.whole pre.from (omega arith) away' in
            let same_end = r.ends_stay pre.at pre.whole pre.from (omega arith) away' in
            inr (
              omega arith,
              record {
                at = pre.at;
                whole = pre.whole;
                from = pre.from;
                below = pre.below;
                committed = subst IsCommitted (sym same_header) pre.committed;
                meets = ap (λ z. pre.at + bytes_of z) same_header ∙ pre.meets;
                same = same_end ∙ pre.same ∙ sym end;
              },
            ))
            o.mark;
      }

  -- what a read knows stays, if it has not come there
  pub reads_beside : (scan : ℕ) (run : Run) → scan ≤ b → b % 8 ≡ 0 → ReadsRun C head scan run h ends w
      → ReadsRun C head scan run h' ends' w'
  reads_beside scan run le b8 d =
      let from = d.from in
      let passed = d.passed in
      let to = d.to in
      let near = d.near in
      let from8 = d.whole.0 in
      let scan8 = d.whole.1 in
      let at = λ (q : ℕ) (q8 : q % 8 ≡ 0) (q0 : head ≤ q) (qs : q ≤ scan) (was : Begins C head h ends w q).
      let now : Begins C head h' ends' w' q = λ below is. ⊎_elim
      (λ (low : q < b). r.words_stay q q8 q0 below (inl low)
      ∙ was below (subst IsCommitted (r.headers_stay q q8 q0 below (inl low)) is)
      ∙ sym (r.ends_stay q q8 q0 below (inl low)))
      (λ (on : b ≤ q).
      let same : b ≡ q = omega arith in
      subst (λ z. IsCommitted (h' z) → w' z ≡ ends' z) same r.first is) (cases_lt q b) in now in
      record {
        from = from;
        passed = passed;
        to = to;
        near = near;
        whole = d.whole;
        one = λ p p8 p0 p1 is.
            let away : (p < b) ⊎ (t ≤ p) = inl (omega arith) in
            r.ends_stay p p8 (omega arith) (omega arith) away
            ∙ d.one p p8 p0 p1 (subst IsCommitted (r.headers_stay p p8 (omega arith) (omega arith) away) is);
        ahead = λ more.
            let a = d.ahead more in
            let away = beside scan scan8 a.0 in (
              subst IsCommitted (sym (r.headers_stay scan scan8 (omega arith) (omega arith) away)) a.0,
              r.ends_stay scan scan8 (omega arith) (omega arith) away ∙ a.1,
            );
        begins = at run.from from8 (omega arith) (omega arith) d.begins;
        stops = λ done. at scan scan8 (omega arith) (omega arith) (d.stops done);
      }

module _ (C start : ℕ) (law : IsLawful C start) (head : ℕ) (headers : List ℕ) (ends : ℕ → ℕ) (words : List ℕ)
    (e : Encodes C head headers ends words) where
  -- no position has the index of a word of the trailer
  pub trailer_away : (xs : List ℕ) (i x : ℕ) → C / 8 ≤ i → (p : ℕ)
      → at_position C (set xs i x) p ≡ at_position C xs p
  trailer_away xs i x far p = get_or-set_other xs i (index C p) x 0
      (λ same. not_inside elsewhere C start law p i far (sym same))

  -- a word of the trailer changes in both
  pub encodes_trailer : (i x : ℕ) → C / 8 ≤ i → i < length headers
      → Encodes C head (set headers i x) ends (set words i x)
  encodes_trailer i x far inside =
      let wide = e.wide in
      let header = trailer_away headers i x far in
      let word = trailer_away words i x far in
      record {
        wide = length-set words i x ∙ wide ∙ sym (length-set headers i x);
        trailer = λ j from. dite (ℕ_discrete j i)
            (λ same. subst (λ z. get_or (set words i x) z 0 ≡ get_or (set headers i x) z 0) (sym same)
            (get_or-set_same words i x 0 (omega arith) ∙ sym (get_or-set_same headers i x 0 inside)))
            (λ other. get_or-set_other words i j x 0 other ∙ e.trailer j from
            ∙ sym (get_or-set_other headers i j x 0 other));
        marks = λ p p8 p0 p1 some kind. word p
            ∙ e.marks p p8 p0 p1 (λ z. some (header p ∙ z)) (λ z. kind (ap kind_of (header p) ∙ z))
            ∙ ap (mark_of p) (sym (header p));
        runs = λ p p8 p0 p1 is. subst (λ (z : (ℕ → ℕ) × (ℕ → ℕ)). IsOfRun C head z.0 ends z.1 p)
            (λ k. ((λ q. sym (header q) k), (λ q. sym (word q) k)))
            (e.runs p p8 p0 p1 (subst IsCommitted (header p) is));
        none = λ p p8 p0 p1 zero. subst (λ k. k ≤ p) (sym (word p)) (e.none p p8 p0 p1 (sym (header p) ∙ zero));
      }

  pub reads_trailer : (i x y : ℕ) → C / 8 ≤ i → (scan : ℕ) (run : Run)
      → ReadsRun C head scan run (at_position C headers) ends (at_position C words)
      → ReadsRun C head scan run (at_position C (set headers i x)) ends (at_position C (set words i y))
  reads_trailer i x y far scan run d =
      subst (λ (z : (ℕ → ℕ) × (ℕ → ℕ)). ReadsRun C head scan run z.0 ends z.1)
      (λ k. ((λ q. sym (trailer_away headers i x far q) k), (λ q. sym (trailer_away words i y far q) k))) d

  -- what is there from b up to t
  pub record Fills (headers' words' : List ℕ) (ends' : ℕ → ℕ) (b t : ℕ) : Type 0 where
    pub wide : length words' ≡ length headers'
    pub trailer : (i : ℕ) → C / 8 ≤ i → slice_index words' i ≡ slice_index headers' i
    pub marks : (p : ℕ) → p % 8 ≡ 0 → b ≤ p → p < t → at_position C headers' p ≢ 0
        → kind_of (at_position C headers' p) ≢ committed_kind → at_position C words' p ≡ mark_of p (at_position C headers' p)
    pub runs : (p : ℕ) → p % 8 ≡ 0 → b ≤ p → p < t → IsCommitted (at_position C headers' p)
        → IsOfRun C head (at_position C headers') ends' (at_position C words') p
    pub none : (p : ℕ) → p % 8 ≡ 0 → b ≤ p → p < t → at_position C headers' p ≡ 0 → at_position C words' p ≤ p

  pub encodes_rewritten : (headers' words' : List ℕ) (ends' : ℕ → ℕ) (b t : ℕ)
      → Rewrites C head (at_position C headers) ends (at_position C words) (at_position C headers') ends'
      (at_position C words') b t
      → Fills headers' words' ends' b t → Encodes C head headers' ends' words'
  encodes_rewritten headers' words' ends' b t r f =
      let h = at_position C headers in
      let h' = at_position C headers' in
      let by_case = λ (p : ℕ) (P : Type 0) (out : (p < b) ⊎ (t ≤ p) → P) (within : b ≤ p → p < t → P).
      let it : P = ⊎_elim (λ (low : p < b). out (inl low))
      (λ (on : b ≤ p). ⊎_elim (λ (less : p < t). within on less) (λ (far : t ≤ p). out (inr far)) (cases_lt p t))
      (cases_lt p b) in it in
      record {
        wide = f.wide;
        trailer = f.trailer;
        marks = λ p p8 p0 p1 some kind. by_case p (at_position C words' p ≡ mark_of p (h' p))
            (λ away.
            let header : h' p ≡ h p = r.headers_stay p p8 p0 p1 away in
            r.words_stay p p8 p0 p1 away ∙ e.marks p p8 p0 p1 (λ z. some (header ∙ z))
            (λ z. kind (ap kind_of header ∙ z)) ∙ ap (mark_of p) (sym header))
            (λ on less. f.marks p p8 on less some kind);
        runs = λ p p8 p0 p1 is. by_case p (IsOfRun C head h' ends' (at_position C words') p)
            (λ away.
            let was = subst IsCommitted (r.headers_stay p p8 p0 p1 away) is in
            of_run_beside C head h ends (at_position C words) h' ends' (at_position C words') b t r p p8 p0 p1 was
            (e.runs p p8 p0 p1 was))
            (λ on less. f.runs p p8 on less is);
        none = λ p p8 p0 p1 zero. by_case p (at_position C words' p ≤ p)
            (λ away.
            let none = e.none p p8 p0 p1 (sym (r.headers_stay p p8 p0 p1 away) ∙ zero) in
            let same = r.words_stay p p8 p0 p1 away in omega arith)
            (λ on less. f.none p p8 on less zero);
      }

  -- a header is stored at the position q, and its mark in the words
  module _ (q x m : ℕ) (q8 : q % 8 ≡ 0) (from : head ≤ q) (below : q < head + C)
      (inside : index C q < length headers) (full : x ≢ 0) (is : m ≡ mark_of q x) (near : q + bytes_of x ≤ head + C)
      (none : IsCommitted (at_position C headers q) → ⊥) where
    abbrev pub mark_end : ℕ → ℕ
    mark_end = end_set q (q + bytes_of x) ends

    away : (p : ℕ) → p % 8 ≡ 0 → head ≤ p → p < head + C → (p < q) ⊎ (q + 8 ≤ p) → p ≢ q
    away p p8 p0 p1 far same = ⊎_elim (λ (low : p < q). omega arith) (λ (high : q + 8 ≤ p). omega arith) far

    kept_else : (xs : List ℕ) (y p : ℕ) → p % 8 ≡ 0 → head ≤ p → p < head + C → (p < q) ⊎ (q + 8 ≤ p)
        → at_position C (set xs (index C q) y) p ≡ at_position C xs p
    kept_else xs y p p8 p0 p1 far = get_or-set_other xs (index C q) (index C p) y 0
        (λ same. away p p8 p0 p1 far
        (one_position elsewhere C start law head p q (record { whole = p8; from = p0; below = p1 })
        (record { whole = q8; from = from; below = below }) same))

    header_now : at_position C (set headers (index C q) x) q ≡ x
    header_now = get_or-set_same headers (index C q) x 0 inside

    word_now : at_position C (set words (index C q) m) q ≡ m
    word_now = let wide = e.wide in get_or-set_same words (index C q) m 0 (omega arith)

    -- the mark of a committed record is its end
    plain : kind_of x ≡ committed_kind → m ≡ q + bytes_of x
    plain kind = is ∙ omega arith

    first_marked : IsCommitted (at_position C (set headers (index C q) x) q)
        → at_position C (set words (index C q) m) q ≡ mark_end q
    first_marked committed =
        word_now ∙ plain (ap kind_of (sym header_now) ∙ committed.1) ∙ sym (end_here q (q + bytes_of x) ends q refl)

    pub rewrites_mark : Rewrites C head (at_position C headers) ends (at_position C words)
        (at_position C (set headers (index C q) x)) mark_end (at_position C (set words (index C q) m)) q (q + 8)
    rewrites_mark = record {
      none_was = λ p p8 on less committed.
          let same : p ≡ q = omega arith in
          none (subst (λ z. IsCommitted (at_position C headers z)) same committed);
      headers_stay = kept_else headers x;
      words_stay = kept_else words m;
      ends_stay = λ p p8 p0 p1 far. end_else q (q + bytes_of x) ends p (away p p8 p0 p1 far);
      first = first_marked;
    }

    pub encodes_mark : Encodes C head (set headers (index C q) x) mark_end (set words (index C q) m)
    encodes_mark =
        let i : ℕ = index C q in
        let h' = at_position C (set headers i x) in
        let w' = at_position C (set words i m) in
        let here = λ (P : ℕ → Type 0) (p : ℕ) (p8 : p % 8 ≡ 0) (on : q ≤ p) (less : p < q + 8) (it : P q).
        let same : q ≡ p = omega arith in
        let goal : P p = subst P same it in goal in
        let eight = whole_bytes x in
        encodes_rewritten (set headers i x) (set words i m) mark_end q (q + 8) rewrites_mark (record {
          wide = length-set words i m ∙ e.wide ∙ sym (length-set headers i x);
          trailer = λ j far.
              let ne : j ≢ i = λ same. not_inside elsewhere C start law q j far same in
              get_or-set_other words i j m 0 ne ∙ e.trailer j far ∙ sym (get_or-set_other headers i j x 0 ne);
          marks = λ p p8 on less some kind. here (λ z. w' z ≡ mark_of z (h' z)) p p8 on less
              (word_now ∙ is ∙ ap (mark_of q) (sym header_now));
          runs = λ p p8 on less. here (λ z. IsCommitted (h' z) → IsOfRun C head h' mark_end w' z) p p8 on less
              (λ committed.
              let end : mark_end q ≡ q + bytes_of x = end_here q (q + bytes_of x) ends q refl in
              record {
                whole = ap (λ z. z % 8) end ∙ omega arith;
                near = omega arith;
                goes_on = inl (end ∙ ap (λ z. q + bytes_of z) (sym header_now));
                mark = inl (first_marked committed);
              });
          none = λ p p8 on less. here (λ z. h' z ≡ 0 → w' z ≤ z) p p8 on less
              (λ zero. absurd (full (sym header_now ∙ zero)));
        })

  -- The head goes up to `to`, which is the end of each record before it. No run has records on both sides of it. The
  -- headers before it go away, and the words stay
  module _ (to : ℕ) (headers' : List ℕ) (up : head ≤ to) (below : to ≤ head + C) (to8 : to % 8 ≡ 0)
      (wide : length headers' ≡ length headers)
      (trailer : (i : ℕ) → C / 8 ≤ i → slice_index headers' i ≡ slice_index headers i)
      (same : (p : ℕ) → p % 8 ≡ 0 → to ≤ p → p < head + C → at_position C headers' p ≡ at_position C headers p)
      (zeros : (p : ℕ) → p % 8 ≡ 0 → head ≤ p → p < to → at_position C headers' p ≡ 0)
      (near : (p : ℕ) → p % 8 ≡ 0 → head ≤ p → p < to → mark_of p (at_position C headers p) ≤ p + C) (c8 : C % 8 ≡ 0)
      (begins : Begins C head (at_position C headers) ends (at_position C words) to)
      (bound : (p : ℕ) → p % 8 ≡ 0 → head ≤ p → p < to → at_position C headers p ≢ 0
      → p + bytes_of (at_position C headers p) ≤ to) where
    -- a position past the old lap has the index of the one a lap before
    lap : (xs : List ℕ) (p : ℕ) → head + C ≤ p → at_position C xs p ≡ at_position C xs (p - C)
    lap xs p far =
        let back : p - C + C ≡ p = omega arith in
        ap (λ (z : ℕ). slice_index xs (z / 8)) (ap (λ (z : ℕ). z % C) (sym back) ∙ add-mod_right (p - C) C)

    -- no mark of the old lap is above the position a lap later
    old : (p : ℕ) → p % 8 ≡ 0 → head ≤ p → p < to → at_position C words p ≤ p + C
    old p p8 p0 p1 =
        let x : ℕ = at_position C headers p in
        let w : ℕ = at_position C words p in
        dite (ℕ_discrete x 0)
        (λ zero. let none = e.none p p8 p0 (omega arith) zero in omega arith)
        (λ some. dite (ℕ_discrete (kind_of x) committed_kind)
        (λ kind.
        let o = e.runs p p8 p0 (omega arith) (some, kind) in
        let top = o.near in
        ⊎_elim (λ (marked : w ≡ ends p). omega arith)
        (λ (inside : (w ≤ p) × Precedes head (at_position C headers) ends p). let none = inside.0 in omega arith) o.mark)
        (λ kind. subst (λ k. k ≤ p + C) (sym (e.marks p p8 p0 (omega arith) some kind)) (near p p8 p0 p1)))

    gone : (p : ℕ) → p % 8 ≡ 0 → to ≤ p → p < to + C → head + C ≤ p → at_position C headers' p ≡ 0
    gone p p8 p0 p1 far = lap headers' p far ∙ zeros (p - C) (omega arith) (omega arith) (omega arith)

    -- a record from `to` on is of a run that begins there or later
    later : (p : ℕ) → p % 8 ≡ 0 → to ≤ p → p < head + C → IsCommitted (at_position C headers p)
        → IsOfRun C head (at_position C headers) ends (at_position C words) p
        → IsOfRun C to (at_position C headers') ends (at_position C words) p
    later p p8 p0 p1 is o =
        let h = at_position C headers in
        let x : ℕ = h p in
        let q : ℕ = p + bytes_of x in
        let header : at_position C headers' p ≡ x = same p p8 p0 p1 in
        let next : p + bytes_of (at_position C headers' p) ≡ q = ap (λ z. p + bytes_of z) header in
        let top = o.near in
        let eight = whole_bytes x in
        record {
          whole = o.whole;
          near = omega arith;
          goes_on = ⊎_elim (λ (last : ends p ≡ q). inl (last ∙ sym next))
              (λ (more : (q < ends p) × IsCommitted (h q) × (ends q ≡ ends p)).
              let less = more.0 in
              inr (subst (λ z. (z < ends p) × IsCommitted (at_position C headers' z) × (ends z ≡ ends p)) (sym next)
              (more.0, subst IsCommitted (sym (same q (omega arith) (omega arith) (omega arith))) more.1, more.2)))
              o.goes_on;
          mark = ⊎_elim (λ (marked : at_position C words p ≡ ends p). inl marked)
              (λ (inside : (at_position C words p ≤ p) × Precedes head h ends p).
              let none = inside.0 in
              let pre = inside.1 in
              let under = pre.below in
              let meets = pre.meets in
              ⊎_elim
              (λ (early : pre.at < to).
              let far = bound pre.at pre.whole pre.from early pre.committed.0 in
              let here : p ≡ to = omega arith in
              let marked = subst (λ z. at_position C words z ≡ ends z) (sym here)
              (begins (omega arith) (subst (λ z. IsCommitted (h z)) here is)) in
              inl marked)
              (λ (on : to ≤ pre.at).
              let there = same pre.at pre.whole on (omega arith) in
              inr (
                none,
                record {
                  at = pre.at;
                  whole = pre.whole;
                  from = on;
                  below = pre.below;
                  committed = subst IsCommitted (sym there) pre.committed;
                  meets = ap (λ z. pre.at + bytes_of z) there ∙ pre.meets;
                  same = pre.same;
                },
              ))
              (cases_lt pre.at to))
              o.mark;
        }

    pub encodes_risen : Encodes C to headers' ends words
    encodes_risen = record {
      wide = e.wide ∙ sym wide;
      trailer = λ i far. e.trailer i far ∙ sym (trailer i far);
      marks = λ p p8 p0 p1 there kind. ⊎_elim
          (λ (in_lap : p < head + C).
          let s = same p p8 p0 in_lap in
          e.marks p p8 (omega arith) in_lap (λ z. there (s ∙ z)) (λ z. kind (ap kind_of s ∙ z))
          ∙ ap (mark_of p) (sym s))
          (λ (far : head + C ≤ p). absurd (there (gone p p8 p0 p1 far)))
          (cases_lt p (head + C));
      runs = λ p p8 p0 p1 is. ⊎_elim
          (λ (in_lap : p < head + C).
          let was = subst IsCommitted (same p p8 p0 in_lap) is in
          later p p8 p0 in_lap was (e.runs p p8 (omega arith) in_lap was))
          (λ (far : head + C ≤ p). absurd (is.0 (gone p p8 p0 p1 far)))
          (cases_lt p (head + C));
      none = λ p p8 p0 p1 zero. ⊎_elim
          (λ (in_lap : p < head + C). e.none p p8 (omega arith) in_lap (sym (same p p8 p0 in_lap) ∙ zero))
          (λ (far : head + C ≤ p).
          let back : p - C + C ≡ p = omega arith in
          let was = old (p - C) (omega arith) (omega arith) (omega arith) in
          let same_word = lap words p far in omega arith)
          (cases_lt p (head + C));
    }

    -- a read that begins at the new head knows of no run
    pub reads_risen : 0 < C → ReadsRun C to to (no_run to) (at_position C headers') ends (at_position C words)
    reads_risen pos =
        let marked : Begins C to (at_position C headers') ends (at_position C words) to = λ p1 is. ⊎_elim
        (λ (in_lap : to < head + C). begins in_lap (subst IsCommitted (same to to8 (omega arith) in_lap) is))
        (λ (far : head + C ≤ to). absurd (is.0 (gone to to8 (omega arith) (omega arith) far)))
        (cases_lt to (head + C)) in
        record {
          from = omega arith;
          passed = omega arith;
          to = omega arith;
          near = omega arith;
          whole = (to8, to8);
          one = λ p p8 p0 p1 is. absurd (omega arith);
          ahead = λ more. absurd (omega arith);
          begins = marked;
          stops = λ _. marked;
        }
