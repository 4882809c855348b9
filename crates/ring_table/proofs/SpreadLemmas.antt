-- Each record of a run gets a mark of its own.
use Rattle.std.proofs.Common.{◌≡◌, ◌≢◌, ◌⊎◌, ℕ, ◌+◌, ◌%◌, ◌^◌, ◌≤◌, ◌<◌, List, set, sym, ap, ◌∙◌, subst, ⊎_elim, length, get_or-set_other, get_or-set_same, arith}
use Rattle.std.proofs.{Math.Logic.dite, Math.Decide.ℕ_discrete, lemmas.Bool.cases_lt}
use Rattle.ring_layout.specs.{Marks.committed_kind, Places.IsCapacity, Places.index, Places.rounded}
use Rattle.ring_layout.proofs.Laps.{apart}
use Rattle.ring_table.specs.Marks.{at_position, bytes_of, kind_of, AreMarked, IsCommitted, IsMarkOf, Precedes, ShowsRuns, Spreads}
use Rattle.ring_table.proofs.MarkWords.{bytes_plain, few_of, kind_open, whole_bytes}
use Rattle.ring_table.proofs.StagedPlaces.{capacity_aligned}

-- the bytes of a committed record are those of the length in its header
pub committed_bytes : (h : ℕ) → kind_of h ≡ committed_kind → bytes_of h ≡ rounded (h % 2 ^ 32)
committed_bytes h kind = ⊎_elim (λ (above : 2 ^ 31 < h % 2 ^ 32). let other = kind_open h above in absurd (omega arith))
    (λ (le : h % 2 ^ 32 ≤ 2 ^ 31). bytes_plain h le) (cases_lt (2 ^ 31) (h % 2 ^ 32))

module _ (C head : ℕ) (cap : IsCapacity C) (slots old headers : List ℕ) (r : ShowsRuns C head slots old headers) where
  abbrev h : ℕ → ℕ
  h = at_position C headers

  abbrev w : ℕ → ℕ
  w = at_position C old

  -- a run ends above its records
  above : (p : ℕ) → p % 8 ≡ 0 → head ≤ p → p < head + C → IsCommitted (h p) → p + bytes_of (h p) ≤ r.ends p
  above p p8 p0 p1 is = ⊎_elim (λ (last : r.ends p ≡ p + bytes_of (h p)). omega arith)
      (λ (more : (p + bytes_of (h p) < r.ends p) × IsCommitted (h (p + bytes_of (h p)))
      × (r.ends (p + bytes_of (h p)) ≡ r.ends p)). let less = more.0 in omega arith) (r.encodes.runs p p8 p0 p1 is).goes_on

  pub spreads_first : head % 8 ≡ 0 → Spreads C head headers r.ends old old head head head
  spreads_first head8 = record {
    whole = (head8, head8);
    order = (omega arith, omega arith, omega arith);
    done = λ p p8 p0 p1 _. absurd (omega arith);
    ahead = λ p p8 p0 p1. λ _. at_position C old p;
    between = λ p p8 p0 p1 _. absurd (omega arith);
    goes_on = λ more. absurd (omega arith);
    begins = λ _ below is. ⊎_elim (λ (marked : w head ≡ r.ends head). marked)
        (λ (inside : (w head ≤ head) × Precedes head h r.ends head).
        let from = inside.1.from in
        let under = inside.1.below in absurd (omega arith))
        (r.encodes.runs head head8 (omega arith) below is).mark;
    passed = λ p p8 p0 p1 _ is. absurd (omega arith);
  }

  pub spreads_all : (new : List ℕ) (at next end : ℕ) → Spreads C head headers r.ends old new at next end
      → head + C ≤ at → AreMarked C head new headers
  spreads_all new at next end s far p p8 p0 p1 = s.done p p8 p0 (omega arith) p1

  module _ (new : List ℕ) (at next end : ℕ) (s : Spreads C head headers r.ends old new at next end) (near : at < head + C) where
    at8 : at % 8 ≡ 0
    at8 = s.whole.0

    on : head ≤ at
    on = s.order.0

    -- the word there is as before
    here_was : at_position C new at ≡ w at
    here_was = s.ahead at at8 (omega arith) near

    -- nothing begins there
    pub spreads_over : at < next → Spreads C head headers r.ends old new (at + 8) next end
    spreads_over less =
        let at8 = s.whole.0 in
        let next8 = s.whole.1 in
        let low = s.order.0 in
        let mid = s.order.1 in
        let zero : h at ≡ 0 = s.between at at8 (omega arith) less near in
        record {
          whole = (omega arith, next8);
          order = (omega arith, omega arith, s.order.2);
          done = λ p p8 p0 p1 p2. dite (ℕ_discrete p at)
              (λ same. subst (λ z. IsMarkOf z (at_position C new z) (h z)) (sym same) (record {
                none = λ _. let none = r.encodes.none at at8 low near zero in let was = here_was in omega arith;
                mark = λ full. absurd (full zero);
              }))
              (λ ne. s.done p p8 p0 (omega arith) p2);
          ahead = λ p p8 p0 p1. s.ahead p p8 (omega arith) p1;
          between = λ p p8 p0 p1 p2. s.between p p8 (omega arith) p1 p2;
          goes_on = s.goes_on;
          begins = s.begins;
          passed = λ p p8 p0 p1 p2 is. dite (ℕ_discrete p at)
              (λ same. absurd (is.0 (ap h same ∙ zero)))
              (λ ne. s.passed p p8 p0 (omega arith) p2 is);
        }

    -- what begins there is no committed record, and has its mark, or nothing begins there
    pub spreads_past : next ≡ at → (IsCommitted (h at) → ⊥) → Spreads C head headers r.ends old new (at + 8) (at + 8) (at + 8)
    spreads_past here none =
        let at8 = s.whole.0 in
        let low = s.order.0 in
        let was = here_was in
        record {
          whole = (omega arith, omega arith);
          order = (omega arith, omega arith, omega arith);
          done = λ p p8 p0 p1 p2. dite (ℕ_discrete p at)
              (λ same. subst (λ z. IsMarkOf z (at_position C new z) (h z)) (sym same) (record {
                none = λ zero. let old_none = r.encodes.none at at8 low near zero in omega arith;
                mark = λ full. was ∙ r.encodes.marks at at8 low near full (λ kind. none (full, kind));
              }))
              (λ ne. s.done p p8 p0 (omega arith) p2);
          ahead = λ p p8 p0 p1. s.ahead p p8 (omega arith) p1;
          between = λ p p8 p0 p1 p2. absurd (omega arith);
          goes_on = λ more. absurd (omega arith);
          begins = λ _ below is. ⊎_elim (λ (marked : w (at + 8) ≡ r.ends (at + 8)). marked)
              (λ (inside : (w (at + 8) ≤ at + 8) × Precedes head h r.ends (at + 8)).
              let pre = inside.1 in
              let meets = pre.meets in
              let under = pre.below in
              let whole = pre.whole in
              let is_pre = pre.committed in
              dite (ℕ_discrete pre.at at)
              (λ same. absurd (none (subst (λ z. IsCommitted (h z)) same is_pre)))
              (λ ne. let stop = s.passed pre.at pre.whole pre.from (omega arith) (omega arith) is_pre in absurd (omega arith)))
              (r.encodes.runs (at + 8) (omega arith) (omega arith) below is).mark;
          passed = λ p p8 p0 p1 p2 is. dite (ℕ_discrete p at)
              (λ same. absurd (none (subst (λ z. IsCommitted (h z)) same is)))
              (λ ne. let stop = s.passed p p8 p0 (omega arith) p2 is in omega arith);
        }

    -- a committed record begins there, of the run that ends at e
    pub spreads_in : next ≡ at → IsCommitted (h at) → index C at < length new → (e m : ℕ) → r.ends at ≡ e → m ≡ at + bytes_of (h at)
        → Spreads C head headers r.ends old (set new (index C at) m) (at + 8) m e
    spreads_in here is inside e m end mark =
        let at8 = s.whole.0 in
        let low = s.order.0 in
        let full = r.full at at8 low near is.0 in
        let eight = whole_bytes (h at) in
        let o = r.encodes.runs at at8 low near is in
        let top = o.near in
        let over = above at at8 low near is in
        let kind = is.1 in
        let c8 = capacity_aligned C cap in
        let least = cap.least in
        let word_now : at_position C (set new (index C at) m) at ≡ m = get_or-set_same new (index C at) m 0 inside in
        let else_where = λ (p : ℕ) (p8 : p % 8 ≡ 0) (p0 : head ≤ p) (p1 : p < head + C) (ne : p ≢ at).
        let it : at_position C (set new (index C at) m) p ≡ at_position C new p =
        get_or-set_other new (index C at) (index C p) m 0 (λ same. ne (apart C head p at
        (record { some = omega arith; whole = c8 }) (record { whole = p8; from = p0; below = p1 })
        (record { whole = at8; from = low; below = near }) same)) in it in
        record {
          whole = (omega arith, omega arith);
          order = (omega arith, omega arith, omega arith);
          done = λ p p8 p0 p1 p2. dite (ℕ_discrete p at)
              (λ same. subst (λ z. IsMarkOf z (at_position C (set new (index C at) m) z) (h z)) (sym same) (record {
                none = λ zero. absurd (is.0 zero);
                mark = λ _. word_now ∙ omega arith;
              }))
              (λ ne. subst (λ z. IsMarkOf p z (h p)) (sym (else_where p p8 p0 p2 ne)) (s.done p p8 p0 (omega arith) p2));
          ahead = λ p p8 p0 p1. else_where p p8 (omega arith) p1 (λ same. omega arith) ∙ s.ahead p p8 (omega arith) p1;
          between = λ p p8 p0 p1 p2. r.alone at p at8 p8 low (omega arith) p2 is.0 (omega arith);
          goes_on = λ more. ⊎_elim (λ (last : r.ends at ≡ at + bytes_of (h at)). absurd (omega arith))
              (λ (go : (at + bytes_of (h at) < r.ends at) × IsCommitted (h (at + bytes_of (h at)))
              × (r.ends (at + bytes_of (h at)) ≡ r.ends at)).
              (subst (λ z. IsCommitted (h z)) (sym mark) go.1, ap r.ends mark ∙ go.2 ∙ end, omega arith)) o.goes_on;
          begins = λ done below is_far. ⊎_elim (λ (marked : w m ≡ r.ends m). marked)
              (λ (inner : (w m ≤ m) × Precedes head h r.ends m).
              let pre = inner.1 in
              let meets = pre.meets in
              let under = pre.below in
              let same_end = pre.same in
              let is_pre = pre.committed in
              let over_m = above m (omega arith) (omega arith) below is_far in
              let full_m = r.full m (omega arith) (omega arith) below is_far.0 in
              dite (ℕ_discrete pre.at at)
              (λ same. let also = ap r.ends same in absurd (omega arith))
              (λ ne. ⊎_elim
              (λ (early : pre.at < at).
              let stop = s.passed pre.at pre.whole pre.from early (omega arith) is_pre in absurd (omega arith))
              (λ (late : at ≤ pre.at).
              absurd (is_pre.0 (r.alone at pre.at at8 pre.whole low (omega arith) (omega arith) is.0 (omega arith))))
              (cases_lt pre.at at)))
              (r.encodes.runs m (omega arith) (omega arith) below is_far).mark;
          passed = λ p p8 p0 p1 p2 is_p. dite (ℕ_discrete p at)
              (λ same. let also = ap (λ z. z + bytes_of (h z)) same in omega arith)
              (λ ne. let stop = s.passed p p8 p0 (omega arith) p2 is_p in omega arith);
        }

    -- what the word there says, if the walk is not in a run
    pub mark_committed : next ≡ at → at < w at → w at % 8 ≡ committed_kind → next ≡ end → IsCommitted (h at) × (r.ends at ≡ w at)
    mark_committed here some_mark kind done =
        let at8 = s.whole.0 in
        let low = s.order.0 in
        let full : h at ≢ 0 = λ zero. let none = r.encodes.none at at8 low near zero in omega arith in
        dite (ℕ_discrete (kind_of (h at)) committed_kind)
        (λ is. ((full, is), sym (subst (λ z. z < head + C → IsCommitted (h z) → w z ≡ r.ends z) here (s.begins done) near (full, is))))
        (λ no.
        let mark = r.encodes.marks at at8 low near full no in
        let eight = whole_bytes (h at) in
        let few = few_of (h at) in absurd (omega arith))

    pub mark_other : next ≡ at → (w at ≤ at) ⊎ (w at % 8 ≢ committed_kind) → next ≡ end → IsCommitted (h at) → ⊥
    mark_other here no_mark done is =
        let at8 = s.whole.0 in
        let low = s.order.0 in
        let marked : w at ≡ r.ends at =
        subst (λ z. z < head + C → IsCommitted (h z) → w z ≡ r.ends z) here (s.begins done) near is in
        let over = above at at8 low near is in
        let full = r.full at at8 low near is.0 in
        let whole = (r.encodes.runs at at8 low near is).whole in
        ⊎_elim (λ (le : w at ≤ at). omega arith) (λ (kind : w at % 8 ≢ committed_kind). kind (omega arith)) no_mark
