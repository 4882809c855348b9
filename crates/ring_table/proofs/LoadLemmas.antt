-- A producer's loads keep the rule.
use Rattle.ring_table.specs.{Staged.in_words, Staged.Bodies, Owners.OwnedHistory, Owners.all_of, Passing.IsSettled}
use Rattle.std.proofs.Common.{◌≡◌, ℕ, ◌+◌, ◌%◌, ◌≤◌, List, cond, set, get_or, slice_index, sym, refl, ap, ◌∙◌, subst, le-ltb, arith}
use Rattle.std.proofs.{Math.Option.some, Math.ListN.get_elem?, lemmas.List.set-get_or}
use Rattle.atomic_table.specs.Table.{State, keeps, Allows, Act, Valid, stepped, carried_after}
use Rattle.ring_layout.{specs.Places.index, specs.Layout.tail_index, specs.Layout.head_index, proofs.Sums.total-least}
use Rattle.ring_table.specs.Staged.{StagedClaim, Moved, IsStored, AreRising, staged_word_at, staged_end}
use Rattle.ring_table.specs.{Services.times_drawn, Services.once_below, Rule.Knows, Rule.Kept, Rule.shares_of}
use Rattle.ring_table.specs.Views.{Logs, View, logged, with_producer, with_tail, with_head}
use Rattle.ring_table.specs.ProducerSteps.{Mine, IsPosition, EndBelow, LoadsTail, LoadsHead, HasClaim, LoadsOwn}
use Rattle.ring_table.proofs.StagedPlaces.{capacity_aligned, start_aligned, lies_in, LiesIn, end_aligned, places_aligned, word_of_claim}
use Rattle.ring_table.proofs.{StagedWords.staged_word-in_words, OwnerLemmas.rising_owned_by, MemoryLemmas.head_bounds}
use Rattle.ring_table.proofs.{HistoryLemmas.owned_at, ReachLemmas.not_passed, KnowLemmas.knows_seeing}
use Rattle.ring_table.proofs.StepLemmas.{sole_sees_top, sees_top_after, becomes}

module _ (B : Bodies) (C start : ℕ) where
  abbrev pub Ok : State ℕ View → Type 0
  Ok s = Kept B C start s.words s.views

  -- what a step may do with the number found there
  abbrev pub May : State ℕ View → ℕ → ℕ → Mine → (Mine → Type 0) → ℕ → Type 0
  May s i id me then value = (w : View) × (a : Act ℕ) × Valid s.homes me.1 a × Ok (stepped s i value id me.1 w a)
      × then (w, carried_after me.1 a)

  -- the words stay, and one view changes
  pub looked : (words : List ℕ) (views : List View) (r : Kept B C start words views) (id i : ℕ) (v w : View)
      → get_elem? views id ≡ some v
      → Knows (staged_end start (all_of r.hist)) r.hist r.reader r.consumer r.drawn id w
      → w.producer.shares ≡ v.producer.shares → v.producer.seen_tail ≤ w.producer.seen_tail
      → ((x : ℕ) → times_drawn x w.producer ≡ times_drawn x v.producer)
      → Kept B C start (set words i (slice_index words i)) (set views id w)
  looked words views r id i v w at knows rich later drawn =
      let top : ℕ = staged_end start (all_of r.hist) in
      subst (λ l. Kept B C start l (set views id w)) (sym (set-get_or words i 0))
      (becomes B C start words views r id v at words r.hist r.consumer r.drawn w (record {
        memory = r.memory;
        service = r.service;
        steps = record {
          own = knows;
          others = λ j u ne k. k;
          shares = rich;
          outside = λ j ne. refl;
          latest = sees_top_after views id v w top top at (λ above. omega arith) refl (λ e. omega arith)
              r.seated.latest;
          drawn = λ x. ap (λ (k : ℕ). k + once_below x r.drawn) (drawn x);
        };
      }))

  -- a seat loads, and sees a later tail or head
  pub sees : (words : List ℕ) (views : List View) (r : Kept B C start words views) (id i : ℕ) (v : View)
      → get_elem? views id ≡ some v → (tail head : ℕ) (log : List (ℕ × ℕ)) → v.producer.seen_tail ≤ tail
      → tail ≤ staged_end start (all_of r.hist) → head ≤ r.consumer.head
      → Kept B C start (set words i (slice_index words i))
      (set views id (record v { producer = record v.producer { seen_tail = tail; seen_head = head }; log = log }))
  sees words views r id i v at tail head log later t h =
      looked words views r id i v _ at (knows_seeing (r.seated.each id v at) tail head log t h) refl later (λ x. refl)

  -- the claims of a view end at or below the tail
  pub end_below : (words : List ℕ) (views : List View) (r : Kept B C start words views) (id : ℕ) (v : View)
      → get_elem? views id ≡ some v → (old : ℕ) → old ≡ staged_end start (all_of r.hist)
      → EndBelow old v.producer.claims
  end_below words views r id v at old old_is k c has =
      let own = owned_at id r.hist k c (subst (λ l. get_elem? l k ≡ some c) (r.seated.each id v at).claims has) in
      let below = (lies_in C start r.hist own.0 (id, c) r.memory.placed own.1).below in
      omega arith

  -- the tail is a position
  pub tail_position : (s : State ℕ View) → Ok s → IsPosition (slice_index s.words (tail_index C))
  tail_position s r =
      let least = r.lawful.capacity.least in
      let is = r.memory.tail_is in
      let limit = r.memory.limit in
      let aligned : staged_end start (all_of r.hist) % 8 ≡ 0 = end_aligned C start (all_of r.hist) (omega arith)
      (capacity_aligned C r.lawful.capacity) (start_aligned C start r.lawful) r.memory.placed in
      record { aligned = omega arith; limit = omega arith }

  pub loads_tail : (slots id : ℕ) (me : Mine) → me.0.capacity ≡ C
      → Allows Ok slots id me (tail_index C) (λ n. n)
      (λ n me'. (me'.1 ≡ me.1) × LoadsTail me.0.capacity me.0 n me'.0 × Logs (tail_index C) n me.0 me'.0)
  loads_tail slots id me cap s r wide at small =
      let v : View = me.0 in
      let n : ℕ = slice_index s.words (tail_index C) in
      let top : ℕ = staged_end start (all_of r.hist) in
      let is : n ≡ top = r.memory.tail_is in
      let k = r.seated.each id v at in
      let tail_seen = k.tail_seen in
      let head_seen = k.head_seen in
      let bounds = head_bounds B C start r.lawful s.words r.consumer (all_of r.hist) r.memory in
      let head_below = bounds.1 in (
        logged (tail_index C) n (with_producer (with_tail n v.producer) v),
        keeps,
        tt,
        sees s.words s.views r id (tail_index C) v at n v.producer.seen_head _ (omega arith) (omega arith) k.head_seen,
        (
          refl,
          record {
            view = ap (λ c. logged (tail_index c) n (with_producer (with_tail n v.producer) v)) (sym cap);
            later = omega arith;
            above_head = omega arith;
            position = tail_position s r;
            sole = λ all. is ∙ sym (sole_sees_top s.views id v top r.seated.shares r.seated.latest at all);
            rising = subst AreRising (sym k.claims) (rising_owned_by C start id r.hist r.memory.placed);
            behind = end_below s.words s.views r id v at n is;
            shares = subst (λ z. v.producer.shares ≤ z) r.seated.shares (total-least shares_of s.views id v at);
          },
          refl,
        ),
      )

  pub loads_head : (slots id : ℕ) (me : Mine) → me.0.capacity ≡ C
      → Allows Ok slots id me (head_index C) (λ n. n)
      (λ n me'. (me'.1 ≡ me.1) × LoadsHead me.0.capacity me.0 n me'.0 × Logs (head_index C) n me.0 me'.0)
  loads_head slots id me cap s r wide at small =
      let v : View = me.0 in
      let n : ℕ = slice_index s.words (head_index C) in
      let top : ℕ = staged_end start (all_of r.hist) in
      let head : ℕ = r.consumer.head in
      let is : n ≡ head = r.memory.head_is in
      let k = r.seated.each id v at in
      let tail_seen = k.tail_seen in
      let bounds = head_bounds B C start r.lawful s.words r.consumer (all_of r.hist) r.memory in
      let aligned = bounds.2 in
      let limit = r.memory.limit in (
        logged (head_index C) n (with_producer (with_head n v.producer) v),
        keeps,
        tt,
        sees s.words s.views r id (head_index C) v at v.producer.seen_tail n _ (omega arith) k.tail_seen (omega arith),
        (
          refl,
          record {
            view = ap (λ c. logged (head_index c) n (with_producer (with_head n v.producer) v)) (sym cap);
            later = omega arith;
            near = omega arith;
            position = record { aligned = omega arith; limit = omega arith };
            sole = λ all. let e = sole_sees_top s.views id v top r.seated.shares r.seated.latest at all in omega arith;
          },
          refl,
        ),
      )

  -- the view with this number is v, and has a claim that is not settled
  pub record HasUnsettled (views : List View) (id : ℕ) (v : View) (k : ℕ) (c : StagedClaim) : Type 0 where
    pub seat : get_elem? views id ≡ some v
    pub claim : HasClaim v k c
    pub unsettled : IsSettled c.stage → ⊥

  -- the place of such a claim
  pub record Stands (words : List ℕ) (views : List View) (r : Kept B C start words views) (id : ℕ)
      (c : StagedClaim) : Type 0 where
    pub nth : ℕ
    pub there : get_elem? r.hist nth ≡ some (id, c)
    pub lies : LiesIn C start (all_of r.hist) c
    pub behind_scan : r.consumer.scan ≤ c.place
    pub padding_behind : c.stage ≡ Moved → r.consumer.scan ≤ c.from
    pub from_aligned : c.from % 8 ≡ 0
    pub place_aligned : c.place % 8 ≡ 0

  pub stands : (words : List ℕ) (views : List View) (r : Kept B C start words views) (id : ℕ) (v : View) (k : ℕ)
      (c : StagedClaim) → HasUnsettled views id v k c → Stands words views r id c
  stands words views r id v k c has =
      let own = owned_at id r.hist k c
      (subst (λ l. get_elem? l k ≡ some c) (r.seated.each id v has.seat).claims has.claim) in
      let behind = not_passed C r.consumer.scan start r.hist r.consumer.got own.0
      (id, c) r.memory.placed r.memory.passed own.1 has.unsettled in
      let aligned = places_aligned C start r.hist own.0 (id, c) (omega arith) (capacity_aligned C r.lawful.capacity)
      (start_aligned C start r.lawful) r.memory.placed own.1 in
      record {
        nth = own.0;
        there = own.1;
        lies = lies_in C start r.hist own.0 (id, c) r.memory.placed own.1;
        behind_scan = behind.0;
        padding_behind = behind.1;
        from_aligned = aligned.0;
        place_aligned = aligned.1;
      }

module _ (C start : ℕ) where
  pub loads_own : (slots id i : ℕ) (me : Mine) → me.0.capacity ≡ C
      → Allows (Ok in_words C start) slots id me i (λ n. n) (λ n me'. (me'.1 ≡ me.1) × (me'.0 ≡ logged i n me.0) × LoadsOwn i me.0 n
      × AreRising me.0.producer.claims)
  loads_own slots id i me cap s r wide at small =
      let v : View = me.0 in
      let n : ℕ = slice_index s.words i in
      let k = r.seated.each id v at in
      let h : OwnedHistory = r.hist in
      let m = r.memory in (
        logged i n v,
        keeps,
        tt,
        sees in_words C start s.words s.views r id i v at v.producer.seen_tail v.producer.seen_head _
            (omega arith) k.tail_seen k.head_seen,
        (
          refl,
          refl,
          (λ nth c o has is_open o8 lt same.
              let st = stands in_words C start s.words s.views r id v nth c
              (record { seat = at; claim = has; unsettled = λ z. subst IsSettled is_open z }) in
              let p : ℕ = c.place + 8 + o in (
                ap (λ z. get_or s.words z 0) (sym same ∙ ap (λ z. index z p) cap)
                    ∙ m.shows p (omega arith) (omega arith) (omega arith)
                    ∙ ap (λ b. cond b 0 (staged_word_at in_words (all_of h) p)) (le-ltb p r.consumer.cleared (omega arith))
                    ∙ word_of_claim in_words C start h st.nth (id, c) p m.placed st.there (omega arith) (omega arith)
                    ∙ staged_word-in_words c p o (subst IsStored (sym is_open) tt) refl,
                st.lies.message.bytes,
              )),
          subst AreRising (sym k.claims) (rising_owned_by C start id h m.placed),
        ),
      )
