-- The claims of a run in the place of one claim.
use Rattle.std.proofs.Common.{◌≡◌, ◌≢◌, ◌⊎◌, ℕ, ◌+◌, ◌-◌, ◌%◌, ◌^◌, ◌≤◌, ◌<◌, List, [], ◌∷◌, ◌++◌, cond, eqb, true, false, sym, refl, ap, ◌∙◌, subst, inl, inr, ⊎_elim, length, eq-eqb, ne_eqb, le-leb, lt-ltb, le-ltb, arith}
use Rattle.std.proofs.Math.{Option.some-injective, Option.some-ne-none, Logic.dite, Decide.ℕ_discrete, ListN.get_elem?}
use Rattle.std.proofs.lemmas.Bool.{cases_lt, cond-true, cond-false}
use Rattle.ring_layout.specs.declared.message.{Message.Message, ClaimState.TheVariants.Committed}
use Rattle.ring_layout.specs.{Headers.committed_header, History.IsMessage, History.span, Places.next_place, Places.room}
use Rattle.ring_layout.proofs.Laps.{mod_step}
use Rattle.ring_table.specs.Staged.{Bodies, elsewhere, StagedClaim, PlacedMessage, Moved, Stored, ArePlaced, claim_end, staged_end, staged_word_at}
use Rattle.ring_table.specs.{Owners.OwnedHistory, Owners.all_of, Owners.owned_by, Passing.IsSettled, Passing.Reaches}
use Rattle.ring_table.specs.Marks.{bytes_of, kind_of, IsCommitted}
use Rattle.ring_table.{specs.Runs.run_bytes, specs.Runs.run_claims, specs.Runs.AreMessages, proofs.StagedPlaces.end_le}
use Rattle.ring_table.proofs.{DecodeLemmas.inner_word, MarkWords.shows_claim, StagedWords.staged_word-header}

-- ---- two lists of claims, one after the other

pub all_of-both : (xs ys : OwnedHistory) → all_of (xs ++ ys) ≡ all_of xs ++ all_of ys
all_of-both [] ys = refl
all_of-both (x ∷ xs) ys = ap (λ l. x.1 ∷ l) (all_of-both xs ys)

pub owned_by-both : (id : ℕ) (xs ys : OwnedHistory) → owned_by id (xs ++ ys) ≡ owned_by id xs ++ owned_by id ys
owned_by-both id [] ys = refl
owned_by-both id (x ∷ xs) ys =
    elim (eqb x.0 id) as (λ b. cond b (x.1 ∷ owned_by id (xs ++ ys)) (owned_by id (xs ++ ys))
    ≡ cond b (x.1 ∷ owned_by id xs) (owned_by id xs) ++ owned_by id ys)
    [ true ↦ ap (λ l. x.1 ∷ l) (owned_by-both id xs ys) | false ↦ owned_by-both id xs ys ]

pub ends_both : (e : ℕ) (xs ys : List StagedClaim) → staged_end e (xs ++ ys) ≡ staged_end (staged_end e xs) ys
ends_both e [] ys = refl
ends_both e (x ∷ xs) ys = ends_both (claim_end x) xs ys

pub placed_front : (C e : ℕ) (xs ys : List StagedClaim) → ArePlaced C e (xs ++ ys) → ArePlaced C e xs
placed_front C e [] ys h = tt
placed_front C e (x ∷ xs) ys h = (h.0, placed_front C (claim_end x) xs ys h.1)

pub placed_back : (C e : ℕ) (xs ys : List StagedClaim) → ArePlaced C e (xs ++ ys) → ArePlaced C (staged_end e xs) ys
placed_back C e [] ys h = h
placed_back C e (x ∷ xs) ys h = placed_back C (claim_end x) xs ys h.1

pub placed_both : (C e : ℕ) (xs ys : List StagedClaim) → ArePlaced C e xs → ArePlaced C (staged_end e xs) ys
    → ArePlaced C e (xs ++ ys)
placed_both C e [] ys h k = k
placed_both C e (x ∷ xs) ys h k = (h.0, placed_both C (claim_end x) xs ys h.1 k)

pub word_before : (B : Bodies) (e p : ℕ) (xs ys : List StagedClaim) → e ≤ p → p < staged_end e xs
    → staged_word_at B (xs ++ ys) p ≡ staged_word_at B xs p
word_before B e p [] ys low less = absurd (omega arith)
word_before B e p (x ∷ xs) ys low less = ⊎_elim
    (λ (near : p < claim_end x). cond-true _ _ _ (lt-ltb p (claim_end x) near) ∙ sym (cond-true _ _ _ (lt-ltb p (claim_end x) near)))
    (λ (far : claim_end x ≤ p). cond-false _ _ _ (le-ltb p (claim_end x) far) ∙ word_before B (claim_end x) p xs ys far less
    ∙ sym (cond-false _ _ _ (le-ltb p (claim_end x) far)))
    (cases_lt p (claim_end x))

pub word_after : (B : Bodies) (C e p : ℕ) (xs ys : List StagedClaim) → ArePlaced C e xs → staged_end e xs ≤ p
    → staged_word_at B (xs ++ ys) p ≡ staged_word_at B ys p
word_after B C e p [] ys h le = refl
word_after B C e p (x ∷ xs) ys h le =
    let far = end_le C (claim_end x) xs h.1 in
    cond-false _ _ _ (le-ltb p (claim_end x) (omega arith)) ∙ word_after B C (claim_end x) p xs ys h.1 le

-- ---- claims of one seat

abbrev pub tagged : ℕ → List StagedClaim → OwnedHistory
tagged id [] = []
tagged id (c ∷ cs) = (id, c) ∷ tagged id cs

pub all_of-tagged : (id : ℕ) (cs : List StagedClaim) → all_of (tagged id cs) ≡ cs
all_of-tagged id [] = refl
all_of-tagged id (c ∷ cs) = ap (λ l. c ∷ l) (all_of-tagged id cs)

pub owned_by-tagged : (id : ℕ) (cs : List StagedClaim) → owned_by id (tagged id cs) ≡ cs
owned_by-tagged id [] = refl
owned_by-tagged id (c ∷ cs) =
    cond-true _ _ _ (eq-eqb id id refl) ∙ ap (λ l. c ∷ l) (owned_by-tagged id cs)

pub owned_by-tagged_other : (j id : ℕ) (cs : List StagedClaim) → j ≢ id → owned_by j (tagged id cs) ≡ []
owned_by-tagged_other j id [] ne = refl
owned_by-tagged_other j id (c ∷ cs) ne =
    cond-false _ _ _ (ne_eqb id j (λ e. ne (sym e))) ∙ owned_by-tagged_other j id cs ne

-- a history around the newest claim of a seat
pub record Parted (id : ℕ) (h : OwnedHistory) (others : List StagedClaim) (c : StagedClaim) : Type 0 where
  pub front : OwnedHistory
  pub back : OwnedHistory
  pub whole : h ≡ front ++ (id, c) ∷ back
  pub before : owned_by id front ≡ others
  pub after : owned_by id back ≡ []

first_claim : (x y : StagedClaim) (xs ys : List StagedClaim) → x ∷ xs ≡ y ∷ ys → (x ≡ y) × (xs ≡ ys)
first_claim x y xs ys e =
    (some-injective x y (ap (λ (l : List StagedClaim). get_elem? l 0) e), ap rest_of e)
  where
    rest_of : List StagedClaim → List StagedClaim
    rest_of [] = []
    rest_of (z ∷ zs) = zs

pub parted : (id : ℕ) (h : OwnedHistory) (others : List StagedClaim) (c : StagedClaim) → owned_by id h ≡ others ++ c ∷ []
    → Parted id h others c
parted id [] others c e = none others e
  where
    none : (l : List StagedClaim) → [] ≡ l ++ c ∷ [] → Parted id [] others c
    none [] e = absurd (some-ne-none c (sym (ap (λ (l : List StagedClaim). get_elem? l 0) e)))
    none (x ∷ l) e = absurd (some-ne-none x (sym (ap (λ (l : List StagedClaim). get_elem? l 0) e)))
parted id (x ∷ xs) others c e = dite (ℕ_discrete x.0 id)
    (λ is. mine (λ os e'. parted id xs os c e') others is (sym (cond-true _ (x.1 ∷ owned_by id xs) (owned_by id xs) (eq-eqb x.0 id is)) ∙ e))
    (λ ne.
    let not_mine = cond-false _ (x.1 ∷ owned_by id xs) (owned_by id xs) (ne_eqb x.0 id ne) in
    let p = parted id xs others c (sym not_mine ∙ e) in
    record {
      front = x ∷ p.front;
      back = p.back;
      whole = ap (λ l. x ∷ l) p.whole;
      before = cond-false _ (x.1 ∷ owned_by id p.front) (owned_by id p.front) (ne_eqb x.0 id ne) ∙ p.before;
      after = p.after;
    })
  where
    mine : ((os : List StagedClaim) → owned_by id xs ≡ os ++ c ∷ [] → Parted id xs os c) → (l : List StagedClaim) → x.0 ≡ id → x.1 ∷ owned_by id xs ≡ l ++ c ∷ [] → Parted id (x ∷ xs) l c
    mine rec [] is e =
        let t = first_claim x.1 c (owned_by id xs) [] e in
        record {
          front = [];
          back = xs;
          whole = λ i. (is i, t.0 i) ∷ xs;
          before = refl;
          after = t.1;
        }
    mine rec (o ∷ os) is e =
        let t = first_claim x.1 o (owned_by id xs) (os ++ c ∷ []) e in
        let p = rec os t.1 in
        record {
          front = x ∷ p.front;
          back = p.back;
          whole = ap (λ l. x ∷ l) p.whole;
          before = cond-true _ (x.1 ∷ owned_by id p.front) (owned_by id p.front) (eq-eqb x.0 id is)
              ∙ (λ i. t.0 i ∷ p.before i);
          after = p.after;
        }

-- ---- a reader that has not passed the claim

pub reach_replaced : (s e : ℕ) (front : List StagedClaim) (c d : StagedClaim) (back back' : List StagedClaim)
    (got : List PlacedMessage) → (IsSettled c.stage → ⊥) → (d.place ≡ c.place) × (d.stage ≢ Moved)
    → Reaches s e (front ++ c ∷ back) got → Reaches s e (front ++ d ∷ back') got
reach_replaced s e [] c d back back' got un same r = ⊎_elim (λ a. inl a)
    (⊎_elim (λ a. inr (inl (a.0 ∙ sym same.0, same.1, a.2))) (λ a. absurd (un a.0))) r
reach_replaced s e (x ∷ xs) c d back back' got un same r = ⊎_elim (λ a. inl a)
    (⊎_elim (λ a. inr (inl a))
    (λ a. inr (inr (a.0, (a.1.0, a.1.1, reach_replaced s (claim_end x) xs c d back back' a.1.0 un same a.1.2))))) r

-- ---- the claims of a run

pub some_span : (m : Message) → 8 ≤ span (length m.body)
some_span m = omega arith

pub run_ends : (p : ℕ) (ms : List Message) → staged_end p (run_claims p ms) ≡ p + run_bytes ms
run_ends p [] = omega arith
run_ends p (m ∷ ms) = run_ends (p + span (length m.body)) ms ∙ omega arith

pub run_whole : (ms : List Message) → run_bytes ms % 8 ≡ 0
run_whole [] = refl
run_whole (m ∷ ms) = let rest = run_whole ms in omega arith

pub run_placed : (C p : ℕ) (ms : List Message) → 0 < C → p % C + run_bytes ms ≤ C → AreMessages C ms
    → ArePlaced C p (run_claims p ms)
run_placed C p [] pos fits are = tt
run_placed C p (m ∷ ms) pos fits are =
    let a : ℕ = span (length m.body) in
    let here : next_place C p a ≡ p = cond-true _ p (p + room C p) (le-leb a (C - p % C) (omega arith)) in (
      record { from = refl; place = sym here; message = are.0 },
      rest (λ q fits'. run_placed C q ms pos fits' are.1) ms refl (omega arith),
    )
  where
    rest : ((q : ℕ) → q % C + run_bytes ms ≤ C → ArePlaced C q (run_claims q ms)) → (ns : List Message) → ns ≡ ms
        → p % C + (span (length m.body) + run_bytes ns) ≤ C
        → ArePlaced C (p + span (length m.body)) (run_claims (p + span (length m.body)) ms)
    rest rec [] is fits = subst (λ l. ArePlaced C (p + span (length m.body)) (run_claims (p + span (length m.body)) l)) is tt
    rest rec (n ∷ ns) is fits =
        let some = some_span n in
        let bytes = ap run_bytes is in
        let step : (p + span (length m.body)) % C ≡ p % C + span (length m.body) = mod_step C p (span (length m.body)) (omega arith) in
        rec (p + span (length m.body)) (omega arith)

-- ---- the words of a run

-- what follows a record of a run that begins at p0 and ends at `end`, and what comes before it
pub record IsInside (p0 end : ℕ) (w : ℕ → ℕ) (q : ℕ) : Type 0 where
  pub committed : IsCommitted (w q)
  pub next : (q + bytes_of (w q) ≡ end) ⊎ ((q + bytes_of (w q) < end) × IsCommitted (w (q + bytes_of (w q))))
  pub before : (q ≡ p0) ⊎ ((r : ℕ) × (r % 8 ≡ 0) × (p0 ≤ r) × (r < q) × IsCommitted (w r) × (r + bytes_of (w r) ≡ q))

abbrev pub run_word : ℕ → List Message → ℕ → ℕ
run_word p ms q = staged_word_at elsewhere (run_claims p ms) q

module _ (C : ℕ) (most : C ≤ 2 ^ 24) where
  pub first_word_is : (p : ℕ) (m : Message) (ms : List Message) → run_word p (m ∷ ms) p ≡ committed_header m.type_id (length m.body)
  first_word_is p m ms =
      let some = some_span m in
      cond-true _ _ _ (lt-ltb p (p + span (length m.body)) (omega arith))
      ∙ staged_word-header elsewhere (record { from = p; place = p; message = m; stage = Stored Committed }) p refl

  pub first_committed : (p : ℕ) (m : Message) (ms : List Message) → IsMessage C m
      → IsCommitted (run_word p (m ∷ ms) p) × (bytes_of (run_word p (m ∷ ms) p) ≡ span (length m.body))
  first_committed p m ms is =
      let word = first_word_is p m ms in
      let s = shows_claim C m Committed most is in
      (((λ none. s.some (sym word ∙ none)), ap kind_of word ∙ s.kind_is), ap bytes_of word ∙ s.bytes_is)

  pub run_inside : (p : ℕ) (ms : List Message) (q : ℕ) → p % 8 ≡ 0 → AreMessages C ms → p ≤ q → q < p + run_bytes ms
      → run_word p ms q ≢ 0 → IsInside p (p + run_bytes ms) (run_word p ms) q
  run_inside p [] q p8 are low less full = absurd (omega arith)
  run_inside p (m ∷ ms) q p8 are low less full =
      let a : ℕ = span (length m.body) in
      let c : StagedClaim = record { from = p; place = p; message = m; stage = Stored Committed } in
      let first = first_committed p m ms are.0 in
      let w = run_word p (m ∷ ms) in
      let later = λ (z : ℕ) (far : p + a ≤ z).
      let it : w z ≡ run_word (p + a) ms z = cond-false _ _ _ (le-ltb z (p + a) far) in it in
      ⊎_elim
      (λ (near : q < p + a). dite (ℕ_discrete q p)
      (λ same.
      let committed = subst (λ z. IsCommitted (w z)) (sym same) first.0 in
      let bytes : q + bytes_of (w q) ≡ p + a = (λ i. same i + bytes_of (w (same i))) ∙ ap (λ z. p + z) first.1 in
      record {
        committed = committed;
        next = after ms are.1 bytes;
        before = inl same;
      })
      (λ ne. absurd (full (cond-true _ _ _ (lt-ltb q (p + a) near) ∙ inner_word c q low ne))))
      (λ (far : p + a ≤ q).
      let word = later q far in
      let t = run_inside (p + a) ms q (omega arith) are.1 far (omega arith) (λ none. full (word ∙ none)) in
      let bytes : q + bytes_of (w q) ≡ q + bytes_of (run_word (p + a) ms q) = ap (λ z. q + bytes_of z) word in
      let all : p + a + run_bytes ms ≡ p + (a + run_bytes ms) = omega arith in
      record {
        committed = subst IsCommitted (sym word) t.committed;
        next = ⊎_elim (λ (last : q + bytes_of (run_word (p + a) ms q) ≡ p + a + run_bytes ms). inl (bytes ∙ last ∙ all))
            (λ (more : (q + bytes_of (run_word (p + a) ms q) < p + a + run_bytes ms)
            × IsCommitted (run_word (p + a) ms (q + bytes_of (run_word (p + a) ms q)))).
            let below = more.0 in
            inr (
              omega arith,
              subst (λ z. IsCommitted (w z)) (sym bytes)
                  (subst IsCommitted (sym (later (q + bytes_of (run_word (p + a) ms q)) (omega arith))) more.1),
            ))
            t.next;
        before = ⊎_elim
            (λ (here : q ≡ p + a). inr (p, p8, omega arith, omega arith, first.0, ap (λ z. p + z) first.1 ∙ sym here))
            (λ (b : (r : ℕ) × (r % 8 ≡ 0) × (p + a ≤ r) × (r < q) × IsCommitted (run_word (p + a) ms r)
            × (r + bytes_of (run_word (p + a) ms r) ≡ q)).
            let from = b.2 in
            let there = later b.0 b.2 in
            inr (b.0, b.1, omega arith, b.3, subst IsCommitted (sym there) b.4, ap (λ z. b.0 + bytes_of z) there ∙ b.5))
            t.before;
      })
      (cases_lt q (p + a))
    where
      after : (ns : List Message) → AreMessages C ns → q + bytes_of (run_word p (m ∷ ns) q) ≡ p + span (length m.body)
          → (q + bytes_of (run_word p (m ∷ ns) q) ≡ p + (span (length m.body) + run_bytes ns))
          ⊎ ((q + bytes_of (run_word p (m ∷ ns) q) < p + (span (length m.body) + run_bytes ns))
          × IsCommitted (run_word p (m ∷ ns) (q + bytes_of (run_word p (m ∷ ns) q))))
      after [] are bytes = inl (omega arith)
      after (n ∷ ns) are bytes =
          let a : ℕ = span (length m.body) in
          let some = some_span n in
          inr (
            omega arith,
            subst (λ z. IsCommitted (run_word p (m ∷ n ∷ ns) z)) (sym bytes)
                (subst IsCommitted (sym (cond-false _ _ _ (le-ltb (p + a) (p + a) (omega arith)))) (first_committed (p + a) n ns are.0).0),
          )
