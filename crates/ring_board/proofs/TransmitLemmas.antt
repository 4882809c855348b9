-- What each store of the transmitter leaves of the rule.
use Rattle.std.proofs.Common.{◌⊎◌, ◌≡◌, ◌≢◌, ℕ, ◌+◌, ◌-◌, ◌*◌, ◌/◌, ◌%◌, ◌^◌, ◌<◌, ◌≤◌, cond, ltb, Bool, List, [], ◌∷◌, ◌++◌, length, get_or, set, refl, sym, ap, ◌∙◌, subst, ⊎_elim, arith, length-set, length-append, get_or-set_other, get_or-set_same, append_assoc, inl, inr, ltb-true, lt-ltb}
use Rattle.std.proofs.{lemmas.Bool.cond_both, Math.Option.some, Math.Option.some-ne-none, Math.ListN.get_elem?}
use Rattle.atomic_table.{specs.Table.keeps, specs.Table.stepped, proofs.Lists.at_longer, proofs.Lists.at_snoc}
use Rattle.ring_layout.specs.{declared.message.Message.Message, Places.index, Places.max_position}
use Rattle.ring_layout.specs.{History.IsMessage, History.span, Headers.padding_header}
use Rattle.ring_board.specs.declared.shared.view.{Record.Record, Draft.Draft, View.View, Stage.Stage}
use Rattle.ring_board.specs.declared.shared.view.Stage.TheVariants.{Idle, Begun, Storing, Written, Shown}
use Rattle.ring_board.specs.Records.{end, Lies, end_of, last_of, placed_words, gap, filled, stores, stores_of, last_at, words_of_body, header_of, message_in}
use Rattle.ring_board.{specs.Layout.IsUnnamed, specs.Views.at_stage, proofs.ByteLemmas.message_back}
use Rattle.ring_board.specs.Rule.{LoadOk, intent, latest, with_latest, so_far, Stand, Running, Receives, Knows, IsBoard, Holds}
use Rattle.ring_board.specs.TransmitterSteps.{sent_on, place_before, draft, after_intent, with_words, with_entry}
use Rattle.ring_board.proofs.PlaceLemmas.{board_lap, lies_after, lies_near, lies_whole, a_lap_on, apart, index_below, chain_at, chain_snoc, end_snoc, last_snoc, last_low}
use Rattle.ring_board.proofs.StoreLemmas.{append_nil, stores_one, placed_snoc, stores_of_snoc, filled_where, stores_where}
use Rattle.ring_board.proofs.SeatLemmas.{St, runs_more, receives_more, sent_more, loads_rise, loads_sent, knows_moves, staged_alike, sent_alike, rebuilt}

-- one more store, apart from those
stand_on : (C : ℕ) (ws : List ℕ) (xs : List (ℕ × ℕ)) (p w : ℕ) → index C p < length ws
    → ((j : ℕ) (x : ℕ × ℕ) → get_elem? xs j ≡ some x → index C x.0 ≢ index C p) → Stand C ws xs
    → Stand C (set ws (index C p) w) (xs ++ (p, w) ∷ [])
stand_on C ws xs p w lt other old j x e =
    ⊎_elim (λ at. get_or-set_other ws (index C p) (index C x.0) w 0 (other j x at) ∙ old j x at)
    (λ is. subst (λ (y : ℕ × ℕ). get_or (set ws (index C p) w) (index C y.0) 0 ≡ y.1) is
    (get_or-set_same ws (index C p) w 0 lt))
    (at_snoc xs (p, w) x j e)

module _ (C : ℕ) (roomy : 256 ≤ C) (whole : C % 64 ≡ 0) (ws ws' : List ℕ)
    (same : (i : ℕ) → i < C / 8 → get_or ws' i 0 ≡ get_or ws i 0) where
  stand_kept : (xs : List (ℕ × ℕ)) → Stand C ws xs → Stand C ws' xs
  stand_kept xs old j x e = same (index C x.0) (index_below C x.0 roomy whole) ∙ old j x e

-- what a draft becomes when its header is stored
pub written_as : (C : ℕ) (d : Draft) (m : Message) (x : ℕ) → C ≤ 2 ^ 24 → IsMessage C m → words_of_body m.body ≡ d.words
    → x ≡ header_of m
    → with_entry d x ≡ record { before = d.before; place = d.place; message = m }
written_as C d m x narrow lawful words num =
    let F : Message → Record = λ (q : Message). record { before = d.before; place = d.place; message = q } in
    (λ k. F (message_in (num k) (sym words k))) ∙ ap F (message_back C m narrow lawful)

module _ (C e : ℕ) where
  module _ (s : St) (id : ℕ) (me : View) (h : IsBoard C e id me s) where
    abbrev Kept : ℕ → ℕ → View → Type 0
    Kept i x w = IsBoard C e id w record { words = set s.words i x; homes = s.homes; views = set s.views id w }

    -- the words without a name stay
    unnamed_kept : (j x : ℕ) → j < C / 8 + 3 → (i : ℕ) → IsUnnamed C i → get_or (set s.words j x) i 0 ≡ 0
    unnamed_kept j x few i is =
        get_or-set_other s.words j i x 0 (λ e. let behind = is.0 in omega arith) ∙ h.memory.unnamed i is

    -- a word's position after what was sent, and before the intent
    record IsFree (p : ℕ) : Type 0 where
      pub whole : p % 8 ≡ 0
      pub after : end_of e me.sent ≤ p
      pub below : p < intent e me.sent me.stage

    -- at the stage st the intent and the record at latest are as they are, and one store more was made
    record StoresMore (st : Stage) (p x : ℕ) : Type 0 where
      pub intends : intent e me.sent st ≡ intent e me.sent me.stage
      pub latest_is : latest e me.sent st ≡ latest e me.sent me.stage
      pub shows : with_latest me.sent st ≡ with_latest me.sent me.stage
      pub grows : so_far me.sent st ≡ so_far me.sent me.stage ++ (p, x) ∷ []

    -- a store into the buffer
    word_stored_at : (st : Stage) (p x : ℕ) → IsFree p → StoresMore st p x
        → Running C (end_of e me.sent) (set s.words (index C p) x) st
        → Knows C e id (at_stage me st) id (at_stage me st) st → Kept (index C p) x (at_stage me st)
    word_stored_at st p x free more running mine =
        let p8 = free.whole in let after = free.after in let below = free.below in
        let i = more.intends in let l = more.latest_is in let sh = more.shows in let grows = more.grows in
        let wide = h.memory.wide in let roomy = h.lawful.roomy in let whole = h.lawful.whole in
        let lt : index C p < C / 8 = index_below C p roomy whole in
        let out : (c : ℕ) → C / 8 ≤ c → get_or (set s.words (index C p) x) c 0 ≡ get_or s.words c 0 =
        λ c le. get_or-set_other s.words
        (index C p) c x 0 (λ e. omega arith) in
        rebuilt C e s id me (at_stage me st) h (set s.words (index C p) x) (record {
          wide = length-set s.words (index C p) x ∙ wide;
          chain = h.memory.chain;
          low = subst (λ (y : ℕ). y ≤ max_position) (sym i) h.memory.low;
          intent_is = out (C / 8) (omega arith) ∙ (h.memory.intent_is ∙ sym i);
          tail_is = out (C / 8 + 1) (omega arith) ∙ h.memory.tail_is;
          latest_is = out (C / 8 + 2) (omega arith) ∙ (h.memory.latest_is ∙ sym l);
          unnamed = unnamed_kept (index C p) x (omega arith);
          valid = λ k r at j y on now. let c = chain_at C roomy whole e me.sent h.memory.chain k r at in let f =
              c.0.fits in
              let b = stores_where r j y f.begins_whole (lies_whole C r.before r.before r.place (end r) f roomy whole)
              (lies_after C r.before r.before r.place (end r) f roomy whole) on in
              let c2 = c.2 in let b1 = b.1 in
              let now' : intent e me.sent me.stage < y.0 + C = subst (λ (u : ℕ). u < y.0 + C) i now in
              get_or-set_other s.words (index C p) (index C y.0) x 0
              (λ same. let far = a_lap_on y.0 p C (board_lap C roomy whole) b.2 p8 (omega arith) same in
              omega arith) ∙ h.memory.valid k r at j y on now';
          running = running;
          exact =
              λ c lt. stores_one C s.words (so_far me.sent me.stage) p x roomy whole (omega arith) h.memory.exact c lt
              ∙ ap (λ (l : List (ℕ × ℕ)). last_at C l c 0) (sym grows);
        }) h.seated.behind mine
        (λ j v. knows_moves C e id me (at_stage me st) (λ u. subst
        (λ (l : List Record). Receives e me.sent l u) (sym sh))
        (λ k r at. at)
        (subst (λ (y : ℕ). intent e me.sent me.stage ≤ y) (sym i) (omega arith)) j v v.stage)
        (λ v u. u) (loads_rise C e me.sent me.stage st
        (subst (λ (y : ℕ). intent e me.sent me.stage ≤ y) (sym i) (omega arith))
        (subst (λ (y : ℕ). latest e me.sent me.stage ≤ y) (sym l) (omega arith))) (staged_alike me st)

    module _ (d : Draft) (eq : me.stage ≡ Storing d) where
      ran : Lies C (end_of e me.sent) d.before d.place d.end × (d.place + 8 + 8 * length d.words ≤ d.end)
          × Stand C s.words
          (filled d.before d.place d.words)
      ran = subst (Running C (end_of e me.sent) s.words) eq h.memory.running

      abbrev drawn : List (ℕ × ℕ)
      drawn = filled d.before d.place d.words

      p_whole : d.place % 8 ≡ 0
      p_whole = lies_whole C (end_of e me.sent) d.before d.place d.end ran.0 h.lawful.roomy h.lawful.whole

      -- a position of the record that is not yet stored is apart from what is
      drawn_apart : (p : ℕ) → p % 8 ≡ 0 → d.place ≤ p → p < d.end
          → (p ≡ d.place) ⊎ (d.place + 8 + 8 * length d.words ≤ p) → (j : ℕ) (y : ℕ × ℕ)
          → get_elem? drawn j ≡ some y → index C y.0 ≢ index C p
      drawn_apart p p8 from to fresh j y on =
          let l = ran.0 in let roomy = h.lawful.roomy in let whole = h.lawful.whole in
          let a = lies_after C (end_of e me.sent) d.before d.place d.end l roomy whole in
          let near = lies_near C (end_of e me.sent) d.before d.place d.end l roomy whole in let so = ran.1 in
          let w = filled_where d.before d.place d.words j y l.begins_whole p_whole on in
          ⊎_elim (λ (c : (y.0 ≡ d.before) × (d.before < d.place)). let f = c.0 in let g = c.1 in
          apart y.0 p C (board_lap C roomy whole) w.1 p8 (omega arith) (omega arith))
          (λ (c : (d.place < y.0) × (y.0 < d.place + 8 + 8 * length d.words)). let f = c.0 in let g = c.1 in
          ⊎_elim (λ (is : p ≡ d.place). λ same. apart p y.0 C (board_lap C roomy whole) p8 w.1 (omega arith)
          (omega arith)
          (sym same))
          (λ (past : d.place + 8 + 8 * length d.words ≤ p). apart y.0 p C (board_lap C roomy whole) w.1 p8 (omega arith)
          (omega arith)) fresh) w.0

      pub word_stored : (x : ℕ) → d.place + 8 + 8 * length d.words < d.end
          → Kept (index C (d.place + 8 + 8 * length d.words)) x (at_stage me (Storing (with_words d (x ∷ []))))
      word_stored x room = let p : ℕ = d.place + 8 + 8 * length d.words in let l = ran.0 in let roomy =
          h.lawful.roomy in let whole = h.lawful.whole in
          let a = lies_after C (end_of e me.sent) d.before d.place d.end l roomy whole in let b = l.begins in
          let p8 = p_whole in let z8 = l.ends_whole in let wide = h.memory.wide in let lt : index C p < C / 8 =
          index_below C p roomy whole in
          let d' : Draft = with_words d (x ∷ []) in
          let grow : filled d.before d.place d'.words ≡ drawn ++ (p, x) ∷ [] = ap (λ m. gap d.before d.place ++ m)
          (placed_snoc (d.place + 8) d.words x) ∙ sym
          (append_assoc (gap d.before d.place) (placed_words (d.place + 8) d.words) ((p, x) ∷ [])) in
          let long : length d'.words ≡ length d.words + 1 = length-append d.words (x ∷ []) in
          word_stored_at (Storing d') p x
          (record {
            whole = omega arith;
            after = omega arith;
            below = subst (λ (u : Stage). p < intent e me.sent u) (sym eq) room;
          })
          (record {
            intends = ap (intent e me.sent) (sym eq);
            latest_is = ap (latest e me.sent) (sym eq);
            shows = ap (with_latest me.sent) (sym eq);
            grows = ap (λ m. stores_of me.sent ++ m) grow ∙ (sym (append_assoc (stores_of me.sent) drawn ((p, x) ∷ []))
                ∙ ap (λ (u : Stage). so_far me.sent u ++ (p, x) ∷ []) (sym eq));
          }) (
            l,
            omega arith,
            subst (Stand C (set s.words (index C p) x)) (sym grow)
                (stand_on C s.words drawn p x (omega arith)
                (drawn_apart p (omega arith) (omega arith) room (inr (omega arith))) ran.2),
          ) refl

      abbrev record_of : Message → Record
      record_of m = record { before = d.before; place = d.place; message = m }

      pub header_stored : (m : Message) → IsMessage C m → words_of_body m.body ≡ d.words
          → d.place + span (length m.body) ≡ d.end
          → Kept (index C d.place) (header_of m) (at_stage me (Written (record_of m)))
      header_stored m lawful is full =
          let p : ℕ = d.place in let x : ℕ = header_of m in let r : Record = record_of m in let l = ran.0 in
          let roomy = h.lawful.roomy in let whole = h.lawful.whole in let a =
          lies_after C (end_of e me.sent) d.before d.place d.end l roomy whole in
          let b = l.begins in let so = l.some_room in let wide = h.memory.wide in let lt : index C p < C / 8 =
          index_below C p roomy whole in
          let same : filled d.before d.place (words_of_body m.body) ≡ drawn = ap (filled d.before d.place) is in
          word_stored_at (Written r) p x
          (record {
            whole = p_whole;
            after = omega arith;
            below = subst (λ (u : Stage). p < intent e me.sent u) (sym eq) (omega arith);
          })
          (record {
            intends = full ∙ ap (intent e me.sent) (sym eq);
            latest_is = ap (latest e me.sent) (sym eq);
            shows = ap (with_latest me.sent) (sym eq);
            grows = ap (λ m. stores_of me.sent ++ (m ++ (p, x) ∷ [])) same
                ∙ (sym (append_assoc (stores_of me.sent) drawn ((p, x) ∷ []))
                ∙ ap (λ (u : Stage). so_far me.sent u ++ (p, x) ∷ []) (sym eq));
          }) (
            record {
              fits = subst (λ (u : ℕ). Lies C (end_of e me.sent) d.before d.place u) (sym full) l;
              lawful =
                  lawful;
            },
            subst (λ (m : List (ℕ × ℕ)). Stand C (set s.words (index C p) x) (m ++ (p, x) ∷ [])) (sym same)
                (stand_on C s.words drawn p x (omega arith)
                (drawn_apart p p_whole (omega arith) (omega arith) (inl refl)) ran.2),
          ) refl

    pub padding_stored : (d : Draft) → me.stage ≡ Begun d
        → Kept (index C d.before) (padding_header (d.place - d.before)) (at_stage me (Storing d))
    padding_stored d eq =
        let run = subst (Running C (end_of e me.sent) s.words) eq h.memory.running in let p : ℕ = d.before in
        let x : ℕ = padding_header (d.place - d.before) in let l = run.0 in let lt0 = run.1 in let roomy =
        h.lawful.roomy in let whole = h.lawful.whole in
        let b = l.begins in let so = l.some_room in let wide = h.memory.wide in let lt : index C p < C / 8 =
        index_below C p roomy whole in
        let none = ap length run.2 in
        let is : filled d.before d.place d.words ≡ (p, x) ∷ [] =
        ap (λ (c : Bool). cond c ((p, x) ∷ []) [] ++ placed_words (d.place + 8) d.words)
        (lt-ltb d.before d.place lt0) ∙ ap (λ (ws : List ℕ). (p, x) ∷ placed_words (d.place + 8) ws) run.2 in
        word_stored_at (Storing d) p x
        (record {
          whole = l.begins_whole;
          after = omega arith;
          below = subst (λ (u : Stage). p < intent e me.sent u) (sym eq) (omega arith);
        })
        (record {
          intends = ap (intent e me.sent) (sym eq);
          latest_is = ap (latest e me.sent) (sym eq);
          shows = ap (with_latest me.sent) (sym eq);
          grows = ap (λ m. stores_of me.sent ++ m) is ∙ ap (λ (u : Stage). so_far me.sent u ++ (p, x) ∷ []) (sym eq);
        }) (
          l,
          omega arith,
          subst (Stand C (set s.words (index C p) x)) (sym is)
              (stand_on C s.words [] p x (omega arith) (λ j y on. absurd (some-ne-none y (sym on)))
              (λ j y on. absurd (some-ne-none y (sym on)))),
        ) refl

    -- Stores into the trailer
    module _ (k x : ℕ) where
      inner : (i : ℕ) → i < C / 8 → get_or (set s.words (C / 8 + k) x) i 0 ≡ get_or s.words i 0
      inner i lt = get_or-set_other s.words (C / 8 + k) i x 0 (λ e. omega arith)

      outer : (c : ℕ) → c ≢ k → get_or (set s.words (C / 8 + k) x) (C / 8 + c) 0 ≡ get_or s.words (C / 8 + c) 0
      outer c ne = get_or-set_other s.words (C / 8 + k) (C / 8 + c) x 0 (λ e. ne (omega arith))

      here : k < 3 → get_or (set s.words (C / 8 + k) x) (C / 8 + k) 0 ≡ x
      here lt = let wide = h.memory.wide in get_or-set_same s.words (C / 8 + k) x 0 (omega arith)

      outer_0 : k ≢ 0 → get_or (set s.words (C / 8 + k) x) (C / 8) 0 ≡ get_or s.words (C / 8) 0
      outer_0 ne = get_or-set_other s.words (C / 8 + k) (C / 8) x 0 (λ e. ne (omega arith))

    -- at the stage st the intent is z, and no store of the record was made
    record Intends (st : Stage) (z : ℕ) : Type 0 where
      pub intends : intent e me.sent st ≡ z
      pub latest_is : latest e me.sent st ≡ last_of e me.sent
      pub shows : with_latest me.sent st ≡ me.sent
      pub stored : so_far me.sent st ≡ stores_of me.sent

    intent_stored_as : (st : Stage) (z : ℕ) → me.stage ≡ Idle → (z ≤ max_position) × (end_of e me.sent ≤ z)
        → Intends st z
        → Running C (end_of e me.sent) (set s.words (C / 8 + 0) z) st
        → Knows C e id (at_stage me st) id (at_stage me st) st
        → Kept (C / 8 + 0) z (at_stage me st)
    intent_stored_as st z eq lies new running mine =
        let low = lies.0 in let later = lies.1 in
        let i = new.intends in let l = new.latest_is in let sh = new.shows in let grows = new.stored in
        let roomy = h.lawful.roomy in let whole = h.lawful.whole in
        let ws : List ℕ = set s.words (C / 8 + 0) z in
        let risen : intent e me.sent me.stage ≤ intent e me.sent st =
        subst (λ (y : ℕ). intent e me.sent me.stage ≤ y) (sym i)
        (subst (λ (u : Stage). intent e me.sent u ≤ z) (sym eq) later) in
        rebuilt C e s id me (at_stage me st) h ws (record {
          wide = length-set s.words (C / 8 + 0) z ∙ h.memory.wide;
          chain = h.memory.chain;
          low = subst (λ (y : ℕ). y ≤ max_position) (sym i) low;
          intent_is = ap (λ (c : ℕ). get_or ws c 0) (let g : C / 8 ≡ C / 8 + 0 = omega arith in g)
              ∙ (here 0 z (omega arith) ∙ sym i);
          tail_is = outer 0 z 1 (λ e. omega arith) ∙ h.memory.tail_is;
          latest_is = outer 0 z 2 (λ e. omega arith) ∙ (h.memory.latest_is ∙ (ap (latest e me.sent) eq ∙ sym l));
          unnamed = unnamed_kept (C / 8 + 0) z (omega arith);
          valid = λ k r at j y on now. let now' : z < y.0 + C = subst (λ (u : ℕ). u < y.0 + C) i now in
              inner 0 z (index C y.0) (index_below C y.0 roomy whole)
              ∙ h.memory.valid k r at j y on (subst (λ (u : Stage). intent e me.sent u < y.0 + C) (sym eq)
              (omega arith));
          running = running;
          exact = λ c lt. inner 0 z c lt
              ∙ (h.memory.exact c lt ∙ ap (λ (l : List (ℕ × ℕ)). last_at C l c 0) (ap (so_far me.sent) eq ∙ sym grows));
        }) h.seated.behind mine
        (λ j v. knows_moves C e id me (at_stage me st)
        (λ u. subst (λ (l : List Record). Receives e me.sent l u) (ap (with_latest me.sent) eq ∙ sym sh))
        (λ k r at. at) risen j v v.stage)
        (λ v u. u) (loads_rise C e me.sent me.stage st risen (let same = ap (latest e me.sent) eq in omega arith))
        (staged_alike me st)

    pub intent_stored : (z : ℕ) → me.stage ≡ Idle → z ≤ max_position
        → Lies C (end_of e me.sent) me.at (place_before me.capacity me.at z) z
        → Kept (C / 8 + 0) z (after_intent me z)
    intent_stored z eq low l = let p : ℕ = place_before me.capacity me.at z in let d : Draft =
        draft me.at p z [] in let roomy = h.lawful.roomy in
        let a = lies_after C (end_of e me.sent) me.at p z l roomy h.lawful.whole in
        let b = l.begins in let so = l.some_room in let later : end_of e me.sent ≤ z = omega arith in
        cond_both (ltb me.at p) (Begun d) (Storing d) (λ (st : Stage). Kept (C / 8 + 0) z (at_stage me st))
        (λ t. intent_stored_as (Begun d) z eq (low, later)
        (record { intends = refl; latest_is = refl; shows = refl; stored = refl }) (l, ltb-true me.at p t, refl) refl)
        (λ f. let none : filled me.at p [] ≡ [] =
        ap (λ (c : Bool). cond c ((me.at, padding_header (p - me.at)) ∷ []) [] ++ []) f in
        intent_stored_as (Storing d) z eq (low, later)
        (record {
          intends = refl;
          latest_is = refl;
          shows = refl;
          stored = ap (λ m. stores_of me.sent ++ m) none ∙ append_nil (stores_of me.sent);
        }) (
          l,
          omega arith,
          subst (Stand C (set s.words (C / 8 + 0) z)) (sym none)
              (λ j y on. absurd (some-ne-none y (sym on))),
        ) refl)

    pub latest_stored : (r : Record) → me.stage ≡ Written r → Kept (C / 8 + 2) r.place (at_stage me (Shown r))
    latest_stored r eq =
        let run = subst (Running C (end_of e me.sent) s.words) eq h.memory.running in let x : ℕ = r.place in
        let ws : List ℕ = set s.words (C / 8 + 2) x in let roomy = h.lawful.roomy in let whole = h.lawful.whole in
        let same : intent e me.sent me.stage ≡ end r = ap (intent e me.sent) eq in
        rebuilt C e s id me (at_stage me (Shown r)) h ws (record {
          wide = length-set s.words (C / 8 + 2) x ∙ h.memory.wide;
          chain = h.memory.chain;
          low = subst (λ (u : ℕ). u ≤ max_position) same h.memory.low;
          intent_is = outer_0 2 x (λ e. omega arith) ∙ (h.memory.intent_is ∙ same);
          tail_is = outer 2 x 1 (λ e. omega arith) ∙ h.memory.tail_is;
          latest_is = here 2 x (omega arith);
          unnamed = unnamed_kept (C / 8 + 2) x (omega arith);
          valid = λ k q at j y on now. inner 2 x (index C y.0) (index_below C y.0 roomy whole)
              ∙ h.memory.valid k q at j y on (subst (λ (u : ℕ). u < y.0 + C) (sym same) now);
          running = (run.0, stand_kept C roomy whole s.words ws (inner 2 x) (stores r) run.1);
          exact =
              λ c lt. inner 2 x c lt ∙ (h.memory.exact c lt ∙ ap (λ (u : Stage). last_at C (so_far me.sent u) c 0) eq);
        }) h.seated.behind refl
        (λ j v. knows_moves C e id me (at_stage me (Shown r))
        (λ u k. receives_more C e me.sent r roomy whole h.lawful.aligned run.0 u
        (subst (λ (l : Stage). Receives e me.sent (with_latest me.sent l) u) eq k)) (λ k r at. at) (let le = same in
        omega arith) j v v.stage)
        (λ v u. u) (loads_rise C e me.sent me.stage (Shown r) (let le = same in
        omega arith) (subst (λ (u : Stage). latest e me.sent u ≤ r.place) (sym eq)
        (let low = last_low C roomy whole e me.sent h.memory.chain in
        let a = lies_after C (end_of e me.sent) r.before r.place (end r) run.0.fits roomy whole in let b =
        run.0.fits.begins in omega arith))) (staged_alike me (Shown r))

    pub tail_stored : (r : Record) → me.stage ≡ Shown r → Kept (C / 8 + 1) (end r) (sent_on me r)
    tail_stored r eq =
        let run = subst (Running C (end_of e me.sent) s.words) eq h.memory.running in let x : ℕ = end r in
        let ws : List ℕ = set s.words (C / 8 + 1) x in let roomy = h.lawful.roomy in let whole =
        h.lawful.whole in let all : List Record = me.sent ++ r ∷ [] in
        let ends : end_of e all ≡ end r = end_snoc e me.sent r in
        let was : intent e me.sent me.stage ≡ end r = ap (intent e me.sent) eq in
        let same : intent e me.sent me.stage ≡ end_of e all = was ∙ sym ends in
        rebuilt C e s id me (sent_on me r) h ws (record {
          wide = length-set s.words (C / 8 + 1) x ∙ h.memory.wide;
          chain = chain_snoc C e me.sent r h.memory.chain run.0;
          low = subst (λ (u : ℕ). u ≤ max_position) same h.memory.low;
          intent_is = outer_0 1 x (λ e. omega arith) ∙ (h.memory.intent_is ∙ same);
          tail_is = here 1 x (omega arith) ∙ sym ends;
          latest_is = outer 1 x 2 (λ e. omega arith)
              ∙ (h.memory.latest_is ∙ (ap (λ (u : Stage). latest e me.sent u) eq ∙ sym (last_snoc e me.sent r)));
          unnamed = unnamed_kept (C / 8 + 1) x (omega arith);
          valid = λ k q at j y on now. inner 1 x (index C y.0) (index_below C y.0 roomy whole) ∙
              ⊎_elim (λ old. h.memory.valid k q old j y on (subst (λ (u : ℕ). u < y.0 + C) (sym same) now))
              (λ is. run.1 j y (subst (λ (v : Record). get_elem? (stores v) j ≡ some y) (sym is) on))
              (at_snoc me.sent r q k at);
          running = tt;
          exact =
              λ c lt. inner 1 x c lt ∙ (h.memory.exact c lt ∙ (ap (λ (u : Stage). last_at C (so_far me.sent u) c 0) eq
              ∙ ap (λ (l : List (ℕ × ℕ)). last_at C l c 0) (sym (stores_of_snoc me.sent r))));
        }) (sym ends) refl
        (λ j v. knows_moves C e id me (sent_on me r) (λ u k. sent_more e me.sent (me.sent ++ r ∷ []) r u
        (subst (λ (l : Stage). Receives e me.sent (with_latest me.sent l) u) eq k))
        (λ k q at. at_longer me.sent (r ∷ []) k q at) (let le = same in
        omega arith) j v v.stage)
        (λ v u. runs_more me.sent r v.from v.copies u)
        (λ l k. loads_sent C e me.sent r roomy whole run.0 l (subst (λ (u : Stage). LoadOk C e me.sent u l) eq k))
        (sent_alike me r)

  -- The steps
  pub moved : (s : St) (id : ℕ) (cs : List (ℕ × (Unit {0}))) (i j x y : ℕ) (w v : View) → i ≡ j → x ≡ y → w ≡ v
      → IsBoard C e id v record { words = set s.words j y; homes = s.homes; views = set s.views id v }
      → Holds C e (stepped s i x id cs w keeps)
  moved s id cs i j x y w v is num same h = subst (λ
      (q : ℕ × ℕ × View). Holds C e record { words = set s.words q.0 q.1; homes = s.homes; views = set s.views id q.2 })
      (λ k. (sym is k, sym num k, sym same k)) (id, v, h)
