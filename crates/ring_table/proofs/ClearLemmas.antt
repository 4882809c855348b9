-- The consumer clears what it has passed, and stores the head.
use Rattle.ring_table.specs.{Staged.Bodies, Staged.PlacedMessage, Staged.staged_word_at, Rule.Kept, ProducerSteps.Mine}
use Rattle.std.proofs.Common.{◌≡◌, ℕ, ◌+◌, ◌-◌, ◌/◌, ◌%◌, ◌≤◌, ◌<◌, List, [], ◌∷◌, ◌++◌, cond, ltb, true, set, get_or, slice_index, sym, refl, ap, ◌∙◌, subst, ⊎_elim, lt-ltb, le-ltb, length-set, get_or-set_other, get_or-set_same, arith}
use Rattle.std.proofs.Math.{Option.some, Logic.dite, Decide.ℕ_discrete, Nat.add-mod_right, ListN.get_elem?}
use Rattle.std.proofs.lemmas.Bool.{cases_lt}
use Rattle.atomic_table.specs.Table.{State, keeps, Allows}
use Rattle.ring_layout.specs.{Places.index, Layout.tail_index, Layout.head_index}
use Rattle.ring_table.specs.{Owners.OwnedHistory, Owners.all_of, Passing.Reaches}
use Rattle.ring_table.specs.Views.{ConsumerView, View, with_consumer, cleared_to, stands_at}
use Rattle.ring_table.specs.ConsumerSteps.{LoadsPassed, ClearsWord, StoresHead, StoresHeadBefore}
use Rattle.ring_table.proofs.StagedPlaces.{capacity_aligned, start_aligned, nothing_behind}
use Rattle.ring_table.proofs.ReachLemmas.{reach_bounds, reach_aligned, back_before_last}
use Rattle.ring_table.proofs.MemoryLemmas.{index_inside, not_inside, one_position}
use Rattle.ring_table.proofs.{LoadLemmas.Ok, LoadLemmas.May, LoadLemmas.sees, ConsumeLemmas.consumed}

-- ---- the last of a list

drop_last : List PlacedMessage → List PlacedMessage
drop_last [] = []
drop_last (x ∷ []) = []
drop_last (x ∷ y ∷ ys) = x ∷ drop_last (y ∷ ys)

last_or : PlacedMessage → List PlacedMessage → PlacedMessage
last_or d [] = d
last_or d (x ∷ xs) = last_or x xs

front_is : (g : List PlacedMessage) (m : PlacedMessage) → drop_last (g ++ m ∷ []) ≡ g
unfolding drop_last
front_is [] m = refl
front_is (x ∷ []) m = refl
front_is (x ∷ y ∷ ys) m = ap (λ l. x ∷ l) (front_is (y ∷ ys) m)

last_is : (d : PlacedMessage) (g : List PlacedMessage) (m : PlacedMessage) → last_or d (g ++ m ∷ []) ≡ m
unfolding last_or
last_is d [] m = refl
last_is d (x ∷ xs) m = last_is x xs m

pub one_end : (g g' : List PlacedMessage) (m m' : PlacedMessage) → g ++ m ∷ [] ≡ g' ++ m' ∷ [] → (g ≡ g') × (m ≡ m')
one_end g g' m m' e = (
  sym (front_is g m) ∙ (ap drop_last e ∙ front_is g' m'),
  sym (last_is m g m)
      ∙ (ap (last_or m) e ∙ last_is m g' m'),
)

module _ (B : Bodies) (C start : ℕ) where
  -- what is 0 shows the same once it is cleared
  same_shown : (p cleared to x : ℕ) → cleared ≤ to → (cleared ≤ p → p < to → x ≡ 0)
      → cond (ltb p cleared) 0 x ≡ cond (ltb p to) 0 x
  same_shown p cleared to x on bare = ⊎_elim
      (λ (a : p < cleared). ap (λ b. cond b 0 x) (lt-ltb p cleared a ∙ sym (lt-ltb p to (omega arith))))
      (λ (a : cleared ≤ p). ap (λ b. cond b 0 x) (le-ltb p cleared a)
      ∙ ⊎_elim
      (λ (z : p < to). bare a z ∙ sym (ap (λ b. cond b 0 x) (lt-ltb p to z)))
      (λ (z : to ≤ p). sym (ap (λ b. cond b 0 x) (le-ltb p to z)))
      (cases_lt p to))
      (cases_lt p cleared)

  -- the next words that the read has passed, up to a position, are those to clear, and only the first is not 0
  pub record Sweeps (hist : OwnedHistory) (c : ConsumerView) (to : ℕ) : Type 0 where
    pub on : c.cleared + 8 ≤ to
    pub passed : to ≤ c.scan
    pub whole : to % 8 ≡ 0
    pub bare : (p : ℕ) → p % 8 ≡ 0 → c.cleared < p → p < to → staged_word_at B (all_of hist) p ≡ 0

  -- that word becomes 0
  pub sweeps_at : (s : State ℕ View) (r : Ok B C start s) (id : ℕ) (v : View) → get_elem? s.views id ≡ some v
      → v.consumes ≡ true → (to : ℕ) → Sweeps r.hist r.consumer to
      → Kept B C start (set s.words (index C v.consumer.cleared) 0)
      (set s.views id (with_consumer (cleared_to to v.consumer) v))
  sweeps_at s r id v at consumes to sweep =
      let mine = ((r.seated.each id v at).consumes consumes).1 in
      let h : OwnedHistory = r.hist in
      let law = r.lawful in
      let m = r.memory in
      let least = law.capacity.least in
      let q : ℕ = v.consumer.cleared in
      let head : ℕ = r.consumer.head in
      let q_is : q ≡ r.consumer.cleared = ap (λ (z : ConsumerView). z.cleared) mine in
      let from = m.clears_from in
      let eight = m.clears_words in
      let room = m.room in
      let bounds = reach_bounds C r.consumer.scan start (all_of h) r.consumer.got m.placed m.passed in
      let below_top = bounds.1 in
      let on = sweep.on in
      let passed = sweep.passed in
      let inside = index_inside B C start law q in
      let wide = m.wide in
      let now : ConsumerView = cleared_to to r.consumer in
      subst (λ (c : ConsumerView). Kept B C start (set s.words (index C q) 0) (set s.views id (with_consumer c v)))
      (ap (cleared_to to) (sym mine))
      (consumed B C start s.words s.views r id v at consumes (index C q) 0 now v.log
      (record {
        wide = length-set s.words (index C q) 0 ∙ m.wide;
        placed = m.placed;
        tail_is = get_or-set_other s.words (index C q) (tail_index C) 0 0
            (not_inside B C start law q (tail_index C) (omega arith)) ∙ m.tail_is;
        limit = m.limit;
        room = m.room;
        head_is = get_or-set_other s.words (index C q) (head_index C) 0 0
            (not_inside B C start law q (head_index C) (omega arith)) ∙ m.head_is;
        took = m.took;
        passed = m.passed;
        clears_from = omega arith;
        clears_to = passed;
        clears_words = sweep.whole;
        shows = λ p p8 p0 p1. dite (ℕ_discrete p q)
            (λ e. ap (λ k. get_or (set s.words (index C q) 0) (index C k) 0) e
            ∙ get_or-set_same s.words (index C q) 0 0 (omega arith)
            ∙ sym (ap (λ b. cond b 0 (staged_word_at B (all_of h) p)) (lt-ltb p to (omega arith))))
            (λ ne. get_or-set_other s.words (index C q) (index C p) 0 0
            (λ e. ne (one_position B C start law head p q (record { whole = p8; from = p0; below = p1 })
            (record { whole = omega arith; from = omega arith; below = omega arith }) e))
            ∙ m.shows p p8 p0 p1 ∙ same_shown p r.consumer.cleared to (staged_word_at B (all_of h) p) (omega arith)
            (λ lo hi. sweep.bare p p8 (omega arith) hi));
      })
      (record {
        cache = λ e. omega arith;
        correlation = λ e. omega arith;
        heartbeat = λ e. omega arith;
        unnamed = λ j un. not_inside B C start law q j un.behind;
      })
      (record { rises = omega arith; same = refl }))

  -- the next word that the read has passed becomes 0
  pub clears_at : (s : State ℕ View) (r : Ok B C start s) (id : ℕ) (v : View) → get_elem? s.views id ≡ some v
      → v.consumes ≡ true → v.consumer.cleared < v.consumer.scan
      → Kept B C start (set s.words (index C v.consumer.cleared) 0)
      (set s.views id (with_consumer (cleared_to (v.consumer.cleared + 8) v.consumer) v))
  clears_at s r id v at consumes more =
      let mine = ((r.seated.each id v at).consumes consumes).1 in
      let law = r.lawful in
      let m = r.memory in
      let least = law.capacity.least in
      let eight = m.clears_words in
      let q_is : v.consumer.cleared ≡ r.consumer.cleared = ap (λ (z : ConsumerView). z.cleared) mine in
      let scan_is : v.consumer.scan ≡ r.consumer.scan = ap (λ (z : ConsumerView). z.scan) mine in
      let scan8 = reach_aligned C r.consumer.scan start (all_of r.hist) r.consumer.got (omega arith)
      (capacity_aligned C law.capacity) (start_aligned C start law) m.placed m.passed in
      sweeps_at s r id v at consumes (v.consumer.cleared + 8) (record {
        on = omega arith;
        passed = omega arith;
        whole = omega arith;
        bare = λ p p8 lo hi. absurd (omega arith);
      })

  pub clears_word : (slots id : ℕ) (me : Mine) → me.0.consumes ≡ true → me.0.consumer.cleared < me.0.consumer.scan
      → Allows (Ok B C start) slots id me (index C me.0.consumer.cleared) (λ _. 0)
      (λ _ me'. (me'.1 ≡ me.1) × ClearsWord me.0 me'.0)
  clears_word slots id me consumes more s r wide at small = (
    with_consumer (cleared_to (me.0.consumer.cleared + 8) me.0.consumer) me.0,
    keeps,
    tt,
    clears_at s r id me.0 at consumes more,
    (refl, refl),
  )

  pub loads_passed : (slots id : ℕ) (me : Mine) → me.0.consumes ≡ true → me.0.consumer.cleared < me.0.consumer.scan
      → Allows (Ok B C start) slots id me (index C me.0.consumer.cleared) (λ n. n)
      (λ n me'. (me'.1 ≡ me.1) × LoadsPassed me.0 n me'.0)
  loads_passed slots id me consumes more s r wide at small =
      let v : View = me.0 in
      let i : ℕ = index C v.consumer.cleared in
      let n : ℕ = slice_index s.words i in
      let own = r.seated.each id v at in
      let on : View = with_consumer (cleared_to (v.consumer.cleared + 8) v.consumer) v in
      let step : May B C start s i id me (λ me'. (me'.1 ≡ me.1) × LoadsPassed v n me'.0) n =
      dite (ℕ_discrete n 0)
      (λ zero.
      let told : LoadsPassed v n on = record { zero = λ _. refl; other = λ no. absurd (no zero) } in (
        on,
        keeps,
        tt,
        subst (λ x. Kept B C start (set s.words i x) (set s.views id on)) (sym zero)
            (clears_at s r id v at consumes more),
        (refl, told),
      ))
      (λ other.
      let told : LoadsPassed v n v = record { zero = λ zero. absurd (other zero); other = λ _. refl } in (
        v,
        keeps,
        tt,
        sees B C start s.words s.views r id i v at v.producer.seen_tail v.producer.seen_head v.log
            (omega arith) own.tail_seen own.head_seen,
        (refl, told),
      )) in step

  -- the head goes to q, which was reached with the messages got and up to which the words are cleared
  pub stores_head_at : (q : ℕ) (got : List PlacedMessage) (s : State ℕ View) (r : Ok B C start s) (id : ℕ) (v : View)
      → get_elem? s.views id ≡ some v → v.consumes ≡ true → Reaches q start (all_of r.hist) got → r.consumer.cleared ≡ q
      → Kept B C start (set s.words (head_index C) q) (set s.views id (with_consumer (stands_at q got v.consumer) v))
  stores_head_at q got s r id v at consumes reaches all =
      let h : OwnedHistory = r.hist in
      let law = r.lawful in
      let m = r.memory in
      let head : ℕ = r.consumer.head in
      let i : ℕ = head_index C in
      let from = m.clears_from in
      let room = m.room in
      let wide = m.wide in
      let mine = ((r.seated.each id v at).consumes consumes).1 in
      let bounds = reach_bounds C q start (all_of h) got m.placed reaches in
      let now : ConsumerView = stands_at q got r.consumer in
      subst (λ (c : ConsumerView). Kept B C start (set s.words i q) (set s.views id (with_consumer c v)))
      (ap (stands_at q got) (sym mine))
      (consumed B C start s.words s.views r id v at consumes i q now v.log
      (record {
        wide = length-set s.words i q ∙ m.wide;
        placed = m.placed;
        tail_is = get_or-set_other s.words i (tail_index C) q 0 (omega arith) ∙ m.tail_is;
        limit = m.limit;
        room = omega arith;
        head_is = get_or-set_same s.words i q 0 (omega arith);
        took = reaches;
        passed = reaches;
        clears_from = omega arith;
        clears_to = omega arith;
        clears_words = omega arith;
        shows = λ p p8 p0 p1. get_or-set_other s.words i (index C p) q 0
            (λ e. not_inside B C start law p i (omega arith) (sym e))
            ∙ ⊎_elim
            (λ (near : p < head + C). m.shows p p8 (omega arith) near
            ∙ ap (λ b. cond b 0 (staged_word_at B (all_of h) p)) (le-ltb p r.consumer.cleared (omega arith)))
            -- one lap on from words that were cleared
            (λ (far : head + C ≤ p).
            let back : ℕ = p - C in
            let lap : back + C ≡ p = omega arith in
            let c8 = capacity_aligned C law.capacity in
            ap (λ z. get_or s.words (index C z) 0) (sym lap)
            ∙ ap (λ (z : ℕ). get_or s.words (z / 8) 0) (add-mod_right back C)
            ∙ m.shows back (omega arith) (omega arith) (omega arith)
            ∙ ap (λ z. cond z 0 (staged_word_at B (all_of h) back)) (lt-ltb back r.consumer.cleared (omega arith))
            ∙ sym (nothing_behind B C start (all_of h) p m.placed (omega arith)))
            (cases_lt p (head + C))
            ∙ sym (ap (λ b. cond b 0 (staged_word_at B (all_of h) p)) (le-ltb p q p0));
      })
      (record {
        cache = λ e. omega arith;
        correlation = λ e. omega arith;
        heartbeat = λ e. omega arith;
        unnamed = λ j un. un.not_head;
      })
      (record { rises = omega arith; same = refl }))

  pub stores_head : (slots id : ℕ) (me : Mine) (head : ℕ) → me.0.consumes ≡ true → me.0.consumer.scan ≡ head
      → me.0.consumer.cleared ≡ head
      → Allows (Ok B C start) slots id me (head_index C) (λ _. head) (λ _ me'. (me'.1 ≡ me.1) × StoresHead me.0 me'.0)
  stores_head slots id me head consumes scan all s r wide at small =
      let v : View = me.0 in
      let mine = ((r.seated.each id v at).consumes consumes).1 in
      let cleared : v.consumer.cleared ≡ r.consumer.cleared = ap (λ (z : ConsumerView). z.cleared) mine in
      let w : View = with_consumer (stands_at v.consumer.scan v.consumer.got v.consumer) v in (
        w,
        keeps,
        tt,
        subst (λ q. Kept B C start (set s.words (head_index C) q) (set s.views id w)) scan
            (stores_head_at v.consumer.scan v.consumer.got s r id v at consumes
            (subst (λ (z : ConsumerView). Reaches z.scan start (all_of r.hist) z.got) (sym mine) r.memory.passed)
            (sym cleared ∙ all ∙ sym scan)),
        (refl, refl),
      )

  pub stores_head_before : (slots id : ℕ) (me : Mine) (head : ℕ) (front : List PlacedMessage) (last : PlacedMessage)
      → me.0.consumes ≡ true → me.0.consumer.got ≡ front ++ last ∷ [] → last.place ≡ head
      → me.0.consumer.cleared ≡ head
      → Allows (Ok B C start) slots id me (head_index C) (λ _. head)
      (λ _ me'. (me'.1 ≡ me.1) × StoresHeadBefore me.0 me'.0)
  stores_head_before slots id me head front last consumes got place all s r wide at small =
      let v : View = me.0 in
      let mine = ((r.seated.each id v at).consumes consumes).1 in
      let cleared : v.consumer.cleared ≡ r.consumer.cleared = ap (λ (z : ConsumerView). z.cleared) mine in
      let reaches =
      subst (λ (z : ConsumerView). Reaches z.scan start (all_of r.hist) z.got) (sym mine) r.memory.passed in
      let w : View = with_consumer (stands_at last.place front v.consumer) v in (
        w,
        keeps,
        tt,
        subst (λ q. Kept B C start (set s.words (head_index C) q) (set s.views id w)) place
            (stores_head_at last.place front s r id v at consumes
            (back_before_last v.consumer.scan start (all_of r.hist) front last
            (subst (Reaches v.consumer.scan start (all_of r.hist)) got reaches)) (sym cleared ∙ all ∙ sym place)),
        (
          refl,
          λ front' last' got'. let same = one_end front front' last last' (sym got ∙ got') in λ i. with_consumer
              (stands_at (same.1 i).place (same.0 i) v.consumer) v,
        ),
      )
