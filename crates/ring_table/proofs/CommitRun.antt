-- The mark of a run is stored: the rule with marks.
use Rattle.std.proofs.Common.{◌≡◌, ◌≢◌, ◌⊎◌, ℕ, ◌+◌, ◌/◌, ◌%◌, ◌≤◌, ◌<◌, List, [], ◌∷◌, ◌++◌, cond, ltb, set, slice_index, sym, refl, ap, ◌∙◌, subst, inl, inr, ⊎_elim, length, length-set, get_or-set_other, get_or-set_same, lt-ltb, le-ltb, arith}
use Rattle.std.proofs.Math.{Option.Option, Option.some, Logic.dite, Decide.ℕ_discrete, ListN.get_elem?}
use Rattle.std.proofs.lemmas.Bool.{cases_lt, cond-true, cond-false}
use Rattle.atomic_table.specs.Table.{State, Allows, homes_after}
use Rattle.ring_layout.specs.declared.message.{Message.Message, ClaimState.TheVariants.Committed}
use Rattle.ring_layout.specs.{Headers.committed_header, History.span, Places.index}
use Rattle.ring_table.specs.Staged.{elsewhere, StagedClaim, AreRising, Stored, claim_end}
use Rattle.ring_table.specs.{Passing.placed_message, Rule.IsLawful, Ranges.gives_first, Shelf.IsShelf}
use Rattle.ring_table.specs.{Views.View, Views.with_claims, ProducerSteps.Mine, SlotSteps.with_out, SlotSteps.HasBody}
use Rattle.ring_table.specs.Marks.{at_position, bytes_of, kind_of, IsCommitted, IsOfRun, KeepsMarks}
use Rattle.ring_table.specs.Runs.{run_bytes, run_claims, run_slots, AreMessages, StoresRun}
use Rattle.ring_table.proofs.{DecodeLemmas.inner_word, RangeLemmas.valid_gives, SlotCalls.header_of_claim}
use Rattle.ring_table.proofs.EncodeLemmas.{Fills, Rewrites, encodes_rewritten, reads_beside}
use Rattle.ring_table.proofs.{HomeLemmas.home_kept, HomeLemmas.none_left, RunShelf.homes_are, RunShelf.run_shelf}
use Rattle.ring_table.proofs.{LoadLemmas.stands, MarkWords.whole_bytes, StoreLemmas.rising, RunSlots.one_held}
use Rattle.ring_table.proofs.MarkSteps.{Marked, remarked, rests_after, rests_same, with_headers}
use Rattle.ring_table.proofs.MemoryLemmas.{index_inside, not_inside, one_position}
use Rattle.ring_table.proofs.RunClaims.{first_committed, first_word_is, run_inside, run_word, some_span}
use Rattle.ring_table.proofs.RunKept.{FillsRun, RunWords, blank_there, its, kept_now}

-- the headers of the records of a run in these words
abbrev pub run_headers : ℕ → ℕ → List Message → List ℕ → List ℕ
run_headers C p [] hs = hs
run_headers C p (m ∷ ms) hs =
    set (run_headers C (p + span (length m.body)) ms hs) (index C p) (committed_header m.type_id (length m.body))

module _ (C start : ℕ) (law : IsLawful C start) (head : ℕ) where
  headers_wide : (p : ℕ) (ms : List Message) (hs : List ℕ) → length (run_headers C p ms hs) ≡ length hs
  headers_wide p [] hs = refl
  headers_wide p (m ∷ ms) hs = length-set (run_headers C (p + span (length m.body)) ms hs) (index C p) (committed_header m.type_id (length m.body))
      ∙ headers_wide (p + span (length m.body)) ms hs

  headers_trailer : (p : ℕ) (ms : List Message) (hs : List ℕ) (i : ℕ) → C / 8 ≤ i
      → slice_index (run_headers C p ms hs) i ≡ slice_index hs i
  headers_trailer p [] hs i far = refl
  headers_trailer p (m ∷ ms) hs i far =
      get_or-set_other (run_headers C (p + span (length m.body)) ms hs) (index C p) i (committed_header m.type_id (length m.body)) 0
      (not_inside elsewhere C start law p i far)
      ∙ headers_trailer (p + span (length m.body)) ms hs i far

  -- what is at the position q
  headers_else : (p : ℕ) (ms : List Message) (hs : List ℕ) (q : ℕ) → p % 8 ≡ 0 → head ≤ p → p + run_bytes ms ≤ head + C
      → q % 8 ≡ 0 → head ≤ q → q < head + C → (q < p) ⊎ (p + run_bytes ms ≤ q)
      → at_position C (run_headers C p ms hs) q ≡ at_position C hs q
  headers_else p [] hs q p8 p0 p1 q8 q0 q1 away = refl
  headers_else p (m ∷ ms) hs q p8 p0 p1 q8 q0 q1 away =
      let a : ℕ = span (length m.body) in
      let some = some_span m in
      let ne : q ≢ p = λ same. ⊎_elim (λ (low : q < p). omega arith) (λ (far : p + (a + run_bytes ms) ≤ q). omega arith) away in
      get_or-set_other (run_headers C (p + a) ms hs) (index C p) (index C q) (committed_header m.type_id (length m.body)) 0
      (λ same. ne (one_position elsewhere C start law head q p (record { whole = q8; from = q0; below = q1 })
      (record { whole = p8; from = p0; below = omega arith }) same))
      ∙ headers_else (p + a) ms hs q (omega arith) (omega arith) (omega arith) q8 q0 q1
      (⊎_elim (λ (low : q < p). inl (omega arith)) (λ (far : p + (a + run_bytes ms) ≤ q). inr (omega arith)) away)

  headers_in : (p : ℕ) (ms : List Message) (hs : List ℕ) (q : ℕ) → p % 8 ≡ 0 → head ≤ p → p + run_bytes ms ≤ head + C
      → q % 8 ≡ 0 → p ≤ q → q < p + run_bytes ms → length hs ≡ C / 8 + 96
      → ((z : ℕ) → z % 8 ≡ 0 → p ≤ z → z < p + run_bytes ms → at_position C hs z ≡ 0) → C ≤ 16777216
      → at_position C (run_headers C p ms hs) q ≡ run_word p ms q
  headers_in p [] hs q p8 p0 p1 q8 low less wide zeros most = absurd (omega arith)
  headers_in p (m ∷ ms) hs q p8 p0 p1 q8 low less wide zeros most =
      let a : ℕ = span (length m.body) in
      let some = some_span m in
      let rest : List ℕ = run_headers C (p + a) ms hs in
      let long = headers_wide (p + a) ms hs in
      let inside = index_inside elsewhere C start law p in
      let h : ℕ = committed_header m.type_id (length m.body) in
      dite (ℕ_discrete q p)
      (λ same. subst (λ z. at_position C (set rest (index C p) h) z ≡ run_word p (m ∷ ms) z) (sym same)
      (get_or-set_same rest (index C p) h 0 (omega arith) ∙ sym (first_word_is C most p m ms)))
      (λ ne.
      get_or-set_other rest (index C p) (index C q) h 0
      (λ same. ne (one_position elsewhere C start law head q p (record { whole = q8; from = omega arith; below = omega arith })
      (record { whole = p8; from = p0; below = omega arith }) same))
      ∙ ⊎_elim
      (λ (near : q < p + a).
      headers_else (p + a) ms hs q (omega arith) (omega arith) (omega arith) q8 (omega arith) (omega arith) (inl near)
      ∙ zeros q q8 low less
      ∙ sym (cond-true _ _ _ (lt-ltb q (p + a) near)
      ∙ inner_word (record { from = p; place = p; message = m; stage = Stored Committed }) q low ne))
      (λ (far : p + a ≤ q).
      headers_in (p + a) ms hs q (omega arith) (omega arith) (omega arith) q8 far (omega arith) wide
      (λ z z8 z0 z1. zeros z z8 (omega arith) (omega arith)) most
      ∙ sym (cond-false _ _ _ (le-ltb q (p + a) far)))
      (cases_lt q (p + a)))

-- the ends with this one from b up to it
abbrev pub run_end : ℕ → ℕ → (ℕ → ℕ) → ℕ → ℕ
run_end b t ends p = cond (ltb p b) (ends p) (cond (ltb p t) t (ends p))

end_inside : (b t : ℕ) (ends : ℕ → ℕ) (p : ℕ) → b ≤ p → p < t → run_end b t ends p ≡ t
end_inside b t ends p low less = cond-false _ _ _ (le-ltb p b low) ∙ cond-true _ _ _ (lt-ltb p t less)

end_outside : (b t : ℕ) (ends : ℕ → ℕ) (p : ℕ) → (p < b) ⊎ (t ≤ p) → run_end b t ends p ≡ ends p
end_outside b t ends p away = ⊎_elim (λ (low : p < b). cond-true _ _ _ (lt-ltb p b low))
    (λ (far : t ≤ p). ⊎_elim (λ (low : p < b). cond-true _ _ _ (lt-ltb p b low))
    (λ (on : b ≤ p). cond-false _ _ _ (le-ltb p b on) ∙ cond-false _ _ _ (le-ltb p t far)) (cases_lt p b)) away

module _ (C start : ℕ) (s : State ℕ View) (k : KeepsMarks C start s.words s.homes s.views) (id : ℕ) (v : View)
    (at : get_elem? s.views id ≡ some v) (others : List StagedClaim) (c : StagedClaim) (m : Message) (ms : List Message)
    (f : FillsRun C v others c m ms) where
  abbrev head : ℕ
  head = k.kept.consumer.head

  abbrev b : ℕ
  b = c.place

  abbrev t : ℕ
  t = claim_end c

  abbrev headers_now : List ℕ
  headers_now = run_headers C c.place (m ∷ ms) k.headers

  abbrev words_now : List ℕ
  words_now = set s.words (index C c.place) (claim_end c)

  abbrev ends_now : ℕ → ℕ
  ends_now = run_end c.place (claim_end c) k.ends

  -- where the claim lies
  record Here : Type 0 where
    pub b8 : c.place % 8 ≡ 0
    pub scan : k.kept.consumer.scan ≤ c.place
    pub low : k.kept.consumer.head ≤ c.place
    pub top : claim_end c ≤ k.kept.consumer.head + C
    pub less : c.place < claim_end c
    pub end : c.place + run_bytes (m ∷ ms) ≡ claim_end c
    pub t8 : claim_end c % 8 ≡ 0
    pub blank : (p : ℕ) → p % 8 ≡ 0 → c.place ≤ p → p < claim_end c → at_position C k.headers p ≡ 0

  here : Here
  here =
      let r = k.kept in
      let mine = its C start k.headers s.views r id v at others c m ms f in
      let st = stands elsewhere C start k.headers s.views r id v (length others) c mine in
      let mem = r.memory in
      let scan = st.behind_scan in
      let from = mem.clears_from in
      let to = mem.clears_to in
      let room = mem.room in
      let below = st.lies.below in
      let b8 = st.place_aligned in
      let bytes = f.bytes in
      record {
        b8 = b8;
        scan = scan;
        low = omega arith;
        top = omega arith;
        less = omega arith;
        end = omega arith;
        t8 = omega arith;
        blank = λ p p8 on less.
            let plain = f.plain in
            header_of_claim C start (with_headers C start s k.headers) r id v (length others) c mine p p8 (omega arith)
            (omega arith) less ∙ blank_there C start k.headers s.views r id v at others c m ms f p on;
      }

  run_words : RunWords C start k.headers s.views k.kept id v at others c m ms f headers_now
  run_words =
      let h = here in
      let r = k.kept in
      let end = h.end in
      let top = h.top in
      record {
        wide = headers_wide C start r.lawful head c.place (m ∷ ms) k.headers;
        trailer = headers_trailer C start r.lawful head c.place (m ∷ ms) k.headers;
        outside = λ p p8 p0 p1 away. headers_else C start r.lawful head c.place (m ∷ ms) k.headers p h.b8 h.low (omega arith)
            p8 p0 p1 (⊎_elim (λ (low : p < c.place). inl low) (λ (far : claim_end c ≤ p). inr (omega arith)) away);
        inside = λ p p8 on less. headers_in C start r.lawful head c.place (m ∷ ms) k.headers p h.b8 h.low (omega arith) p8 on
            (omega arith) r.memory.wide (λ z z8 z0 z1. h.blank z z8 z0 (omega arith)) r.lawful.capacity.most;
      }

  word_now : at_position C words_now c.place ≡ claim_end c
  word_now =
      let inside = index_inside elsewhere C start k.kept.lawful c.place in
      let long = k.kept.memory.wide in
      let wide = k.encodes.wide in
      get_or-set_same s.words (index C c.place) (claim_end c) 0 (omega arith)

  word_else : (p : ℕ) → p % 8 ≡ 0 → head ≤ p → p < head + C → p ≢ c.place → at_position C words_now p ≡ at_position C s.words p
  word_else p p8 p0 p1 ne =
      let h = here in
      let low = h.low in
      let less = h.less in
      let top = h.top in
      get_or-set_other s.words (index C c.place) (index C p) (claim_end c) 0
      (λ same. ne (one_position elsewhere C start k.kept.lawful head p c.place (record { whole = p8; from = p0; below = p1 })
      (record { whole = h.b8; from = h.low; below = omega arith }) same))

  -- another word of the run is no mark
  quiet_word : (p : ℕ) → p % 8 ≡ 0 → c.place ≤ p → p < claim_end c → p ≢ c.place → at_position C words_now p ≤ p
  quiet_word p p8 on less ne =
      let h = here in
      let low = h.low in
      let top = h.top in
      let same = word_else p p8 (omega arith) (omega arith) ne in
      let none = k.encodes.none p p8 (omega arith) (omega arith) (h.blank p p8 on less) in
      omega arith

  rewrites : Rewrites C head (at_position C k.headers) k.ends (at_position C s.words) (at_position C headers_now) ends_now
      (at_position C words_now) c.place (claim_end c)
  rewrites =
      let h = here in
      record {
        none_was = λ p p8 on less committed. committed.0 (h.blank p p8 on less);
        headers_stay = run_words.outside;
        words_stay = λ p p8 p0 p1 away.
            let some_way = h.less in
            word_else p p8 p0 p1 (λ same. ⊎_elim (λ (low : p < c.place). omega arith) (λ (far : claim_end c ≤ p). omega arith) away);
        ends_stay = λ p p8 p0 p1 away. end_outside c.place (claim_end c) k.ends p away;
        first = λ _. word_now ∙ sym (end_inside c.place (claim_end c) k.ends c.place (omega arith) h.less);
      }

  of_run : (p : ℕ) → p % 8 ≡ 0 → c.place ≤ p → p < claim_end c → IsCommitted (at_position C headers_now p)
      → IsOfRun C head (at_position C headers_now) ends_now (at_position C words_now) p
  of_run p p8 on less committed =
      let h = here in
      let w = run_word c.place (m ∷ ms) in
      let h' = at_position C headers_now in
      let end = h.end in
      let top = h.top in
      let now : h' p ≡ w p = run_words.inside p p8 on less in
      let i = run_inside C k.kept.lawful.capacity.most c.place (m ∷ ms) p h.b8 f.are on (omega arith)
      (λ none. committed.0 (now ∙ none)) in
      let bytes : p + bytes_of (h' p) ≡ p + bytes_of (w p) = ap (λ z. p + bytes_of z) now in
      let end_p : ends_now p ≡ claim_end c = end_inside c.place (claim_end c) k.ends p on less in
      let eight = whole_bytes (w p) in
      record {
        whole = ap (λ z. z % 8) end_p ∙ h.t8;
        near = omega arith;
        goes_on = ⊎_elim (λ (last : p + bytes_of (w p) ≡ c.place + run_bytes (m ∷ ms)). inl (end_p ∙ sym end ∙ sym last ∙ sym bytes))
            (λ (more : (p + bytes_of (w p) < c.place + run_bytes (m ∷ ms)) × IsCommitted (w (p + bytes_of (w p)))).
            let below = more.0 in
            let there : h' (p + bytes_of (w p)) ≡ w (p + bytes_of (w p)) =
            run_words.inside (p + bytes_of (w p)) (omega arith) (omega arith) (omega arith) in
            inr (subst (λ z. (z < ends_now p) × IsCommitted (h' z) × (ends_now z ≡ ends_now p)) (sym bytes) (
              omega arith,
              subst IsCommitted (sym there) more.1,
              end_inside c.place (claim_end c) k.ends (p + bytes_of (w p)) (omega arith) (omega arith) ∙ sym end_p,
            )))
            i.next;
        mark = ⊎_elim
            (λ (first : p ≡ c.place). inl (subst (λ z. at_position C words_now z ≡ ends_now z) (sym first)
            (word_now ∙ sym (end_inside c.place (claim_end c) k.ends c.place (omega arith) h.less))))
            (λ (pre : (r : ℕ) × (r % 8 ≡ 0) × (c.place ≤ r) × (r < p) × IsCommitted (w r) × (r + bytes_of (w r) ≡ p)).
            let from = pre.2 in
            let under = pre.3 in
            let low = h.low in
            let there : h' pre.0 ≡ w pre.0 = run_words.inside pre.0 pre.1 pre.2 (omega arith) in
            inr (
              quiet_word p p8 on less (λ same. omega arith),
              record {
                at = pre.0;
                whole = pre.1;
                from = omega arith;
                below = pre.3;
                committed = subst IsCommitted (sym there) pre.4;
                meets = ap (λ z. pre.0 + bytes_of z) there ∙ pre.5;
                same = end_inside c.place (claim_end c) k.ends pre.0 pre.2 (omega arith) ∙ sym end_p;
              },
            ))
            i.before;
      }

  fills : Fills C start k.kept.lawful head k.headers k.ends s.words k.encodes headers_now words_now ends_now c.place (claim_end c)
  fills =
      let h = here in
      let r = k.kept in
      let end = h.end in
      let first = first_committed C r.lawful.capacity.most c.place m ms f.are.0 in
      record {
        wide = length-set s.words (index C c.place) (claim_end c) ∙ k.encodes.wide
            ∙ sym (headers_wide C start r.lawful head c.place (m ∷ ms) k.headers);
        trailer = λ i far. get_or-set_other s.words (index C c.place) i (claim_end c) 0
            (not_inside elsewhere C start r.lawful c.place i far) ∙ k.encodes.trailer i far
            ∙ sym (headers_trailer C start r.lawful head c.place (m ∷ ms) k.headers i far);
        marks = λ p p8 on less full kind.
            let now = run_words.inside p p8 on less in
            let i = run_inside C r.lawful.capacity.most c.place (m ∷ ms) p h.b8 f.are on (omega arith) (λ none. full (now ∙ none)) in
            absurd (kind (ap kind_of now ∙ i.committed.1));
        runs = of_run;
        none = λ p p8 on less zero. quiet_word p p8 on less
            (λ same. first.0.0 (ap (run_word c.place (m ∷ ms)) (sym same) ∙ sym (run_words.inside p p8 on less) ∙ zero));
      }

  module _ (out : v.out ≡ placed_message c ∷ []) (held : List (ℕ × ℕ))
      (has : HasBody (index C c.place) (run_slots (m ∷ ms)) held) where
    abbrev mid : View
    mid = with_claims (others ++ run_claims c.place (m ∷ ms)) v

    abbrev w : View
    w = with_out [] mid

    pub marks_now : KeepsMarks C start words_now (homes_after s.homes held (gives_first has.values)) (set s.views id w)
    marks_now =
        let h = here in
        let r = k.kept in
        let kept = home_kept C start s headers_now id v at mid
        (kept_now C start k.headers s.views r id v at others c m ms f headers_now run_words) in
        let shelf = subst (λ hs. IsShelf C hs (set s.views id w))
        (sym (homes_are C start k.headers s.homes s.views r k.shelf id v at others c m ms f out held has))
        (run_shelf C start k.headers s.homes s.views r k.shelf id v at others c m ms f out held has) in
        let after = rests_after C start k.headers headers_now s.homes s.views r k.shelf id v w at
        (rests_same {v = v} {w = w} refl refl) kept in
        remarked C start words_now headers_now ends_now (homes_after s.homes held (gives_first has.values)) (set s.views id w)
        r.consumer kept shelf k.none_cleared after
        (encodes_rewritten C start r.lawful head k.headers k.ends s.words k.encodes headers_now words_now ends_now c.place
        (claim_end c) rewrites fills)
        (reads_beside C head (at_position C k.headers) k.ends (at_position C s.words) _ _ _ c.place (claim_end c) rewrites
        r.consumer.scan r.consumer.run h.scan h.b8 k.reads)

-- the last claims of one list are one
pub last_one : (xs ys : List StagedClaim) (c d : StagedClaim) → xs ++ c ∷ [] ≡ ys ++ d ∷ [] → (xs ≡ ys) × (c ≡ d)
last_one [] [] c d e = (refl, mathlib.Core.Option.some-injective c d (ap (λ (l : List StagedClaim). get_elem? l 0) e))
last_one [] (y ∷ ys) c d e = absurd (no_more ys d (ap rest_of e))
  where
    rest_of : List StagedClaim → List StagedClaim
    rest_of [] = []
    rest_of (z ∷ zs) = zs

    no_more : (l : List StagedClaim) (d : StagedClaim) → [] ≡ l ++ d ∷ [] → ⊥
    no_more [] d e = mathlib.Core.Option.some-ne-none d (sym (ap (λ (l : List StagedClaim). get_elem? l 0) e))
    no_more (z ∷ zs) d e = mathlib.Core.Option.some-ne-none z (sym (ap (λ (l : List StagedClaim). get_elem? l 0) e))
last_one (x ∷ xs) [] c d e = absurd (no_more xs c (sym (ap rest_of e)))
  where
    rest_of : List StagedClaim → List StagedClaim
    rest_of [] = []
    rest_of (z ∷ zs) = zs

    no_more : (l : List StagedClaim) (d : StagedClaim) → [] ≡ l ++ d ∷ [] → ⊥
    no_more [] d e = mathlib.Core.Option.some-ne-none d (sym (ap (λ (l : List StagedClaim). get_elem? l 0) e))
    no_more (z ∷ zs) d e = mathlib.Core.Option.some-ne-none z (sym (ap (λ (l : List StagedClaim). get_elem? l 0) e))
last_one (x ∷ xs) (y ∷ ys) c d e =
    let first : x ≡ y = mathlib.Core.Option.some-injective x y (ap (λ (l : List StagedClaim). get_elem? l 0) e) in
    let rest = last_one xs ys c d (ap rest_of e) in
    ((λ i. first i ∷ rest.0 i), rest.1)
  where
    rest_of : List StagedClaim → List StagedClaim
    rest_of [] = []
    rest_of (z ∷ zs) = zs

module _ (C start : ℕ) where
  pub commits_run : (slots id : ℕ) (me : Mine) → me.0.capacity ≡ C → (others : List StagedClaim) (c : StagedClaim) (m : Message)
      (ms : List Message) → FillsRun C me.0 others c m ms → me.0.out ≡ placed_message c ∷ []
      → HasBody (index C c.place) (run_slots (m ∷ ms)) me.1
      → Allows (Marked C start) slots id me (index C c.place) (λ _. claim_end c)
      (λ _ me'. StoresRun me me' × AreRising me.0.producer.claims)
  commits_run slots id me cap others c m ms f out has s k wide at small =
      let v : View = me.0 in (
        with_out [] (with_claims (others ++ run_claims c.place (m ∷ ms)) v),
        gives_first has.values,
        valid_gives s.homes me.1 has.values,
        marks_now C start s k id v at others c m ms f out me.1 has,
        (
          (
            none_left C start me (index C c.place) (run_slots (m ∷ ms)) has,
            λ others' c' i' ms' claims' out' are' has'.
                let one = last_one others others' c c' (sym f.claims ∙ claims') in
                let same : m ∷ ms ≡ ms' = one_held C k.kept.lawful.capacity.most (m ∷ ms) ms' (index C c.place) i' me.1 f.are
                (subst (λ z. AreMessages z ms') cap are') has has' in
                λ x. with_out [] (with_claims (one.0 x ++ run_claims (one.1 x).place (same x)) v),
          ),
          rising elsewhere C start k.headers s.views k.kept id v at,
        ),
      )
