-- The steps that give a body's slots back keep the rule.
use Rattle.std.proofs.Common.{◌≡◌, ◌≢◌, ℕ, ℤ, FitsSigned, ◌+◌, ◌/◌, ◌^◌, ◌≤◌, ◌<◌, List, [], ◌∷◌, ◌++◌, true, set, map, slice_index, sym, refl, ap, ◌∙◌, subst, ⊎_elim, length, append-nil, arith, All, w32}
use Rattle.std.proofs.Math.{Option.some, Logic.dite, Decide.ℕ_discrete, ListN.get_elem?}
use Rattle.std.proofs.lemmas.List.{length-replicate}
use Rattle.atomic_table.specs.Table.{State, Allows, homes_after, carried_after}
use Rattle.atomic_table.proofs.Lists.{at_set, set_here}
use Rattle.ring_layout.specs.declared.message.{ClaimState.ClaimState, ClaimState.TheVariants.Open, Message.Message}
use Rattle.ring_layout.specs.{Headers.committed_header, Headers.header_of, Places.index}
use Rattle.ring_layout.proofs.{HeaderLemmas.pattern_below, ListLemmas.at_below}
use Rattle.ring_table.specs.Staged.{elsewhere, StagedClaim, PlacedMessage, Padded, Stored, AreRising, body_word, slot_bytes}
use Rattle.ring_table.specs.Changes.{blank, changed, stored_as, with_body}
use Rattle.ring_table.specs.{Passing.IsSettled, Passing.placed_message, Shelf.IsClaimOf, Shelf.IsShelf}
use Rattle.ring_table.specs.Views.{View, with_claims}
use Rattle.ring_table.specs.{ProducerSteps.Mine, ProducerSteps.HasClaim, ProducerSteps.with_changed, Rule.Kept}
use Rattle.ring_table.specs.Ranges.{numbered, values_of, gives_first, laid}
use Rattle.ring_table.specs.SlotSteps.{words_of, AreWordsOf, HasBody, with_out, StoresRecord, GivesBody, ReturnsBody, ReturnsSlots, body_loads}
use Rattle.ring_table.proofs.RangeLemmas.{values_numbered, carried_gives, valid_gives, homes_gives}
use Rattle.ring_table.proofs.{HistoryLemmas.changed_at_place, HistoryLemmas.changed_at_other, HeaderWords.one_committed}
use Rattle.ring_table.proofs.{StagedPlaces.one_at_place, OutLemmas.set_twice, OutLemmas.outed, OutLemmas.loaded}
use Rattle.ring_table.proofs.{StagedWords.staged_word-header, StagedWords.staged_word-stored_as, StoreBodies.gives_body}
use Rattle.ring_table.proofs.{LoadLemmas.Ok, FillLemmas.same_body, FillLemmas.word_there}
use Rattle.ring_table.proofs.{StoreLemmas.FillsClaim, StoreLemmas.header_step, StoreLemmas.rising, BodyPlaces.Lies}
use Rattle.ring_table.proofs.{CarryLemmas.Holds, CarryLemmas.was_changed, CarryLemmas.one_claim, SlotLemmas.gives_shelf}
use Rattle.ring_table.proofs.OutPlaces.{own_lies, got_lies, in_history, one_out}
use Rattle.ring_table.proofs.SlotBytes.{first_word_of, length_slot, small_slot, slot_one}

-- claims of a view that has them as before
same_claims : (views : List View) (id : ℕ) (v w : View) (c : StagedClaim) → get_elem? views id ≡ some v
    → w.producer.claims ≡ v.producer.claims → IsClaimOf (set views id w) c → IsClaimOf views c
same_claims views id v w c at claims of = ⊎_elim
    (λ (t : (of.seat ≡ id) × (w ≡ of.view)). record {
      seat = id;
      view = v;
      nth = of.nth;
      there = at;
      has = subst (λ l. get_elem? l of.nth ≡ some c) (ap (λ (z : View). z.producer.claims) (sym t.1) ∙ claims) of.has;
      stored = of.stored;
    })
    (λ (t : (of.seat ≢ id) × (get_elem? views of.seat ≡ some of.view)). record {
      seat = of.seat;
      view = of.view;
      nth = of.nth;
      there = t.1;
      has = of.has;
      stored = of.stored;
    })
    (at_set views id of.seat w of.view of.there)

module _ (C start : ℕ) where
  -- the slots go home, and the log gets these loads
  abbrev ReturnsWith : List (ℕ × ℕ) → Mine → Mine → Type 0
  ReturnsWith loads me me' = (me'.1 ≡ []) × (me'.0 ≡ record me.0 { out = []; log = me.0.log ++ loads })

  returns_with : (slots id : ℕ) (me : Mine) → me.0.capacity ≡ C → me.0.consumes ≡ true
      → (front : List PlacedMessage) (m : PlacedMessage) → me.0.consumer.got ≡ front ++ m ∷ []
      → me.0.consumer.cleared ≤ m.place → me.0.out ≡ m ∷ [] → HasBody (index C m.place) (slot_bytes m.message) me.1
      → (loads : List (ℕ × ℕ))
      → Allows (Holds elsewhere C start) slots id me (index C m.place) (λ n. n) (λ n me'. ReturnsWith loads me me')
  returns_with slots id me cap consumes front m got ahead out has loads_more s r wide at small =
      let v : View = me.0 in
      let g = got_lies C start s.words s.homes s.views r.0 r.1 id v front m at consumes got ahead in
      let p = g.passed in
      let l = g.lies in
      let i : ℕ = index C m.place in
      let ws : List ℕ = has.values in
      let carried : me.1 ≡ numbered i ws ++ [] = has.held_is ∙ sym (append-nil (numbered i ws)) in
      let homes_are : homes_after s.homes me.1 (gives_first ws) ≡ laid i (map some ws) s.homes =
      ap (λ h. homes_after s.homes h (gives_first ws)) carried ∙ homes_gives s.homes i ws [] in
      let long = length_slot m.message in
      let loads : List (ℕ × ℕ) = v.log ++ loads_more in
      let w : View = record v { out = []; log = loads } in (
        w,
        gives_first ws,
        valid_gives s.homes me.1 ws,
        (
          loaded C start s i (set s.views id w) (outed elsewhere C start s.words s.views r.0 id v at [] loads),
          subst (λ hs. IsShelf C hs (set s.views id w)) (sym homes_are)
              (gives_shelf C start s.words s.homes s.views r.0 r.1 id v w at refl refl m ws (record {
                was = out;
                now = refl;
                old = λ k c has_it stored ne. has_it;
                right = λ c of same.
                    let have : IsClaimOf s.views c = same_claims s.views id v w c at refl of in
                    let h = in_history C start s.words s.homes s.views r.0 r.1 have.seat have.view have.nth c
                    have.there have.has in
                    let place : p.owned.1.place ≡ m.place = ap (λ (z : PlacedMessage). z.place) p.is in
                    let one : (have.seat, c) ≡ p.owned =
                    one_at_place C start r.0.hist h.nth p.nth (have.seat, c) p.owned r.0.memory.placed h.there p.there
                    (same ∙ sym place) in
                    let messages : m.message ≡ c.message =
                    ap (λ (z : PlacedMessage). z.message) (sym p.is)
                    ∙ ap (λ (z : ℕ × StagedClaim). z.1.message) (sym one) in (
                      subst (λ (b : Message). AreWordsOf (slot_bytes b) ws) messages has.words,
                      ap (λ (b : Message). words_of (8 + length b.body)) (sym messages),
                    );
              }) l (has.count ∙ ap words_of long)),
        ),
        (
          ap (λ h. carried_after h (gives_first ws)) carried ∙ carried_gives i ws [],
          refl,
        ),
      )

  pub returns_body : (slots id : ℕ) (me : Mine) → me.0.capacity ≡ C → me.0.consumes ≡ true
      → (front : List PlacedMessage) (m : PlacedMessage) → me.0.consumer.got ≡ front ++ m ∷ []
      → me.0.consumer.cleared ≤ m.place → me.0.out ≡ m ∷ [] → HasBody (index C m.place) (slot_bytes m.message) me.1
      → Allows (Holds elsewhere C start) slots id me (index C m.place) (λ n. n) (λ n me'. ReturnsBody me me')
  returns_body slots id me cap consumes front m got ahead out has s r wide at small =
      let t = returns_with slots id me cap consumes front m got ahead out has
      (body_loads C m (words_of (length m.message.body))) s r wide at small in (
        t.0,
        t.1,
        t.2,
        t.3,
        (
          t.4.0,
          λ m' out'.
              let one : m ≡ m' = one_out m m' me.0.out out out' in
              t.4.1 ∙ λ x. record me.0 {
                out = [];
                log = me.0.log ++ body_loads (sym cap x) (one x) (words_of (length (one x).message.body));
              },
        ),
      )

  pub returns_slots : (slots id : ℕ) (me : Mine) → me.0.capacity ≡ C → me.0.consumes ≡ true
      → (front : List PlacedMessage) (m : PlacedMessage) → me.0.consumer.got ≡ front ++ m ∷ []
      → me.0.consumer.cleared ≤ m.place → me.0.out ≡ m ∷ [] → HasBody (index C m.place) (slot_bytes m.message) me.1
      → Allows (Holds elsewhere C start) slots id me (index C m.place) (λ n. n) (λ n me'. ReturnsSlots me me')
  returns_slots slots id me cap consumes front m got ahead out has s r wide at small =
      let t = returns_with slots id me cap consumes front m got ahead out has [] s r wide at small in (
        t.0,
        t.1,
        t.2,
        t.3,
        (t.4.0, λ m' out'. t.4.1 ∙ ap (λ l. record me.0 { out = []; log = l }) (append-nil me.0.log)),
      )

  -- the own claim c, whose body is out as that of m, becomes f of itself, with the body whose words the slots have
  record GoesHome (me : Mine) (k : ℕ) (c : StagedClaim) (m : PlacedMessage) (f : StagedClaim → StagedClaim)
      (now : Message) : Type 0 where
    pub has : HasClaim me.0 k c
    pub unsettled : IsSettled c.stage → ⊥
    pub out_is : me.0.out ≡ m ∷ []
    pub place_is : c.place ≡ m.place
    pub long : length c.message.body ≡ length m.message.body
    pub keeps : (d : StagedClaim) → (f d).place ≡ d.place
    pub message_is : (f c).message ≡ now
    pub many : words_of (8 + length now.body) ≡ words_of (8 + length m.message.body)
    pub held : HasBody (index C c.place) (slot_bytes now) me.1

  -- the slots go home
  home_shelf : (s : State ℕ View) (r : Ok elsewhere C start s) → IsShelf C s.homes s.views → (id : ℕ) (me : Mine)
      → get_elem? s.views id ≡ some me.0 → (k : ℕ) (c : StagedClaim) (m : PlacedMessage)
      (f : StagedClaim → StagedClaim) (now : Message) → (g : GoesHome me k c m f now)
      → IsShelf C (homes_after s.homes me.1 (gives_first g.held.values))
      (set s.views id (with_out [] (with_claims (changed c.place f me.0.producer.claims) me.0)))
  home_shelf s r shelf id me at k c m f now g =
      let v : View = me.0 in
      let l = own_lies C start s.words s.homes s.views r shelf id v k c at g.has g.unsettled in
      let l_m : Lies C r.consumer.head r.hist m.place (length m.message.body) =
      subst (λ (z : ℕ × ℕ). Lies C r.consumer.head r.hist z.0 z.1) (λ x. (g.place_is x, g.long x)) l in
      let i : ℕ = index C c.place in
      let ws : List ℕ = g.held.values in
      let carried : me.1 ≡ numbered i ws ++ [] = g.held.held_is ∙ sym (append-nil (numbered i ws)) in
      let homes_are : homes_after s.homes me.1 (gives_first ws) ≡ laid (index C m.place) (map some ws) s.homes =
      ap (λ h. homes_after s.homes h (gives_first ws)) carried ∙ homes_gives s.homes i ws []
      ∙ ap (λ p. laid (index C p) (map some ws) s.homes) g.place_is in
      let w : View = with_out [] (with_claims (changed c.place f v.producer.claims) v) in
      let own : (k' : ℕ) (c' : StagedClaim) → HasClaim w k' c' → c'.place ≡ m.place → c' ≡ f c = λ k' c' has' same.
      let d = was_changed c.place f v.producer.claims k' c' has' in
      dite (ℕ_discrete d.0.place c.place)
      (λ here.
      let one : c ≡ d.0 = one_claim v.producer.claims k k' c d.0 (rising elsewhere C start s.words s.views r id v at)
      g.has d.1 (sym here) in
      sym d.2 ∙ changed_at_place c.place f d.0 here ∙ ap f (sym one))
      (λ there. absurd (there (ap (λ (z : StagedClaim). z.place)
      (sym (changed_at_other c.place f d.0 there) ∙ d.2) ∙ same ∙ sym g.place_is))) in
      subst (λ hs. IsShelf C hs (set s.views id w)) (sym homes_are)
      (gives_shelf C start s.words s.homes s.views r shelf id v w at refl refl m ws (record {
        was = g.out_is;
        now = refl;
        old = λ k' c' has' stored ne.
            let d = was_changed c.place f v.producer.claims k' c' has' in
            dite (ℕ_discrete d.0.place c.place)
            (λ here. absurd (ne (ap (λ (z : StagedClaim). z.place)
            (sym d.2 ∙ changed_at_place c.place f d.0 here) ∙ g.keeps d.0 ∙ here ∙ g.place_is)))
            (λ there. d.1 ∙ ap some (sym (changed_at_other c.place f d.0 there) ∙ d.2));
        right = λ c' of same. ⊎_elim
            (λ (t : (of.seat ≡ id) × (w ≡ of.view)).
            let one : c' ≡ f c = own of.nth c' (subst (λ (z : View). HasClaim z of.nth c') (sym t.1) of.has) same in
            let messages : c'.message ≡ now = ap (λ (z : StagedClaim). z.message) one ∙ g.message_is in (
              subst (λ (b : Message). AreWordsOf (slot_bytes b) ws) (sym messages) g.held.words,
              ap (λ (b : Message). words_of (8 + length b.body)) messages ∙ g.many,
            ))
            (λ (t : (of.seat ≢ id) × (get_elem? s.views of.seat ≡ some of.view)).
            let h = in_history C start s.words s.homes s.views r shelf of.seat of.view of.nth c' t.1 of.has in
            let mine = in_history C start s.words s.homes s.views r shelf id v k c at g.has in
            let one : (of.seat, c') ≡ (id, c) =
            one_at_place C start r.hist h.nth mine.nth (of.seat, c') (id, c) r.memory.placed h.there
            mine.there (same ∙ sym g.place_is) in
            absurd (t.0 (ap (λ (z : ℕ × StagedClaim). z.0) one)))
            (at_set s.views id of.seat w of.view of.there);
      }) l_m (g.held.count ∙ ap words_of (length_slot now) ∙ g.many))

  -- the rule but for the slots, once nothing is out
  pub home_kept : (s : State ℕ View) (words : List ℕ) (id : ℕ) (v : View) → get_elem? s.views id ≡ some v → (mid : View)
      → Kept elsewhere C start words (set s.views id mid)
      → Kept elsewhere C start words (set s.views id (with_out [] mid))
  home_kept s words id v at mid kept =
      subst (λ l. Kept elsewhere C start words l) (set_twice s.views id mid (with_out [] mid))
      (outed elsewhere C start words (set s.views id mid) kept id mid
      (set_here s.views id mid (at_below s.views id v at)) [] mid.log)

  -- no slot is left
  pub none_left : (me : Mine) (i : ℕ) (body : List ℕ) → (held : HasBody i body me.1)
      → carried_after me.1 (gives_first held.values) ≡ []
  none_left me i body held =
      ap (λ h. carried_after h (gives_first held.values))
      (held.held_is ∙ sym (append-nil (numbered i held.values))) ∙ carried_gives i held.values []

  -- one list of slots has the words of one body of this length
  one_body : (me : Mine) (i i' : ℕ) (a b : Message) → HasBody i (slot_bytes a) me.1 → HasBody i' (slot_bytes b) me.1
      → length a.body ≡ length b.body → All (λ b. b < 256) a.body → All (λ b. b < 256) b.body → a.body ≡ b.body
  one_body me i i' a b held held' lengths bytes bytes' =
      let slots_are : numbered i held.values ≡ numbered i' held'.values = sym held.held_is ∙ held'.held_is in
      let values : held.values ≡ held'.values = sym (values_numbered i held.values) ∙ ap values_of slots_are
      ∙ values_numbered i' held'.values in
      slot_one a b (same_body (slot_bytes a) (slot_bytes b) held.values
      (length_slot a ∙ ap (λ n. 8 + n) lengths ∙ sym (length_slot b)) (small_slot a bytes) (small_slot b bytes') held.words
      (subst (AreWordsOf (slot_bytes b)) (sym values) held'.words) held.count)

  pub gives_it : (slots id : ℕ) (me : Mine) → me.0.capacity ≡ C → (k : ℕ) (c : StagedClaim) (m : PlacedMessage)
      (body : List ℕ) → HasClaim me.0 k c → c.stage ≡ Stored Open → me.0.out ≡ m ∷ [] → c.place ≡ m.place
      → (c.message.type_id ≡ m.message.type_id) × (length c.message.body ≡ length m.message.body)
      → length body ≡ length c.message.body → All (λ b. b < 256) body
      → HasBody (index C c.place) (slot_bytes (record { type_id = m.message.type_id; body = body })) me.1
      → Allows (Holds elsewhere C start) slots id me (index C c.place) (λ n. n)
      (λ n me'. GivesBody me me' × AreRising me.0.producer.claims)
  gives_it slots id me cap k c m body has is out places likes long bytes held s r wide at small =
      let v : View = me.0 in
      let longs = likes.1 in
      let now : Message = record { type_id = m.message.type_id; body = body } in
      let i : ℕ = index C c.place in
      let f : StagedClaim → StagedClaim = with_body body in
      let mid : View = with_claims (changed c.place f v.producer.claims) v in
      let t = gives_body C start slots id me cap k c body has is long bytes s r.0 wide at small in
      let mid_is : t.0 ≡ mid = t.4.1 k c has is (ap (λ z. index z c.place) cap) in (
        with_out [] mid,
        gives_first held.values,
        valid_gives s.homes me.1 held.values,
        (
          home_kept s (set s.words i (slice_index s.words i)) id v at mid
              (subst (λ (z : View). Kept elsewhere C start (set s.words i (slice_index s.words i)) (set s.views id z))
              mid_is t.3),
          home_shelf s r.0 r.1 id me at k c m f now (record {
            has = has;
            unsettled = λ z. subst IsSettled is z;
            out_is = out;
            place_is = places;
            long = longs;
            keeps = λ d. refl;
            message_is = λ x. record { type_id = likes.0 x; body = body };
            many = ap (λ z. words_of (8 + z)) (long ∙ longs);
            held = held;
          }),
        ),
        (
          (
            none_left me i (slot_bytes now) held,
            λ m' i' body' out' long' bytes' held'.
                let messages : m ≡ m' = one_out m m' v.out out out' in
                let equal : body ≡ body' = one_body me i i' now
                (record { type_id = m'.message.type_id; body = body' }) held held'
                (long ∙ longs ∙ ap (λ (z : PlacedMessage). length z.message.body) messages ∙ sym long') bytes bytes' in
                λ x. with_out [] (with_changed ((places ∙ ap (λ (z : PlacedMessage). z.place) messages) x)
                (with_body (equal x)) v),
          ),
          rising elsewhere C start s.words s.views r.0 id v at,
        ),
      )

  -- one list of slots has the record of one message
  one_record : (me : Mine) (i i' : ℕ) (a b : Message) → HasBody i (slot_bytes a) me.1 → HasBody i' (slot_bytes b) me.1
      → FitsSigned w32 a.type_id → FitsSigned w32 b.type_id → 8 + length a.body < 2 ^ 31 → 8 + length b.body < 2 ^ 31
      → (a.type_id ≡ b.type_id) × (length a.body ≡ length b.body)
  one_record me i i' a b held held' fits fits' small small' =
      let slots_are : numbered i held.values ≡ numbered i' held'.values = sym held.held_is ∙ held'.held_is in
      let values : held.values ≡ held'.values = sym (values_numbered i held.values) ∙ ap values_of slots_are
      ∙ values_numbered i' held'.values in
      let long = length_slot a in
      let count = held.count in
      let y = word_there held.values 0 (omega arith) in
      let words : body_word (slot_bytes a) 0 ≡ body_word (slot_bytes b) 0 =
      held.words 0 y.0 y.1 ∙ sym (held'.words 0 y.0 (ap (λ l. get_elem? l 0) (sym values) ∙ y.1)) in
      let h = pattern_below a.type_id fits in
      let h' = pattern_below b.type_id fits' in
      one_committed a.type_id (length a.body) b.type_id (length b.body) fits small fits' small'
      (sym (first_word_of (committed_header a.type_id (length a.body)) a.body (omega arith)) ∙ words
      ∙ first_word_of (committed_header b.type_id (length b.body)) b.body (omega arith))

  -- the one header of a claim is stored, with which it gets this state
  pub stores_record : (u : ClaimState) (slots id : ℕ) (me : Mine) → me.0.capacity ≡ C → (k : ℕ) (c : StagedClaim)
      (type_id : ℤ) (body : List ℕ) (value : ℕ)
      → value ≡ header_of (record { message = record { type_id = type_id; body = body }; state = u }) → HasClaim me.0 k c
      → c.stage ≡ Padded → me.0.out ≡ placed_message c ∷ [] → FillsClaim C c type_id (length body)
      → All (λ b. b < 256) body → HasBody (index C c.place) (slot_bytes (record { type_id = type_id; body = body })) me.1
      → Allows (Holds elsewhere C start) slots id me (index C c.place) (λ _. value)
      (λ _ me'. StoresRecord u me me' × AreRising me.0.producer.claims)
  stores_record u slots id me cap k c type_id body value value_is has is out fills bytes held s r wide at small =
      let v : View = me.0 in
      let i : ℕ = index C c.place in
      let n : ℕ = length body in
      let m : PlacedMessage = placed_message c in
      let now : Message = record { type_id = type_id; body = body } in
      let f : StagedClaim → StagedClaim = stored_as u type_id body in
      let mid : View = with_claims (changed c.place f v.producer.claims) v in
      let lawful = fills.lawful in
      let same_span = fills.span_is in
      let zeros : length (blank type_id n).body ≡ n = length-replicate n 0 in
      let short : n ≤ C / 8 = omega (arith, lawful.short) in
      let t = header_step elsewhere C start Padded (λ z. z) f slots id me cap k c value has is (λ place8. record {
        may = record {
          from = refl;
          place = refl;
          same_span = same_span;
          message = λ _. record {
            type_id = lawful.type_id;
            type_fits = lawful.type_fits;
            short = short;
            bytes = bytes;
          };
        };
        goes = λ _ e. cc;
        word = staged_word-header elsewhere (f c) c.place refl ∙ sym value_is;
        others = λ p p8 ne. staged_word-stored_as u c type_id body p p8 place8 ne is;
      }) s r.0 wide at small in
      let mid_is : t.0 ≡ mid = t.4.1 k c has is (ap (λ z. index z c.place) cap) in (
        with_out [] mid,
        gives_first held.values,
        valid_gives s.homes me.1 held.values,
        (
          home_kept s (set s.words i value) id v at mid
              (subst (λ (z : View). Kept elsewhere C start (set s.words i value) (set s.views id z)) mid_is t.3),
          home_shelf s r.0 r.1 id me at k c m f now (record {
            has = has;
            unsettled = λ z. subst IsSettled is z;
            out_is = out;
            place_is = refl;
            long = refl;
            keeps = λ d. refl;
            message_is = refl;
            many = omega arith;
            held = held;
          }),
        ),
        (
          (
            none_left me i (slot_bytes now) held,
            λ m' i' type_id' body' out' fits' small' bytes' held'.
                let messages : m ≡ m' = one_out m m' v.out out out' in
                let one = one_record me i i' now (record { type_id = type_id'; body = body' }) held held'
                lawful.type_fits fits' (omega arith) small' in
                let equal : body ≡ body' = one_body me i i' now (record { type_id = type_id'; body = body' }) held held' one.1
                bytes bytes' in
                λ x. with_out [] (with_changed (messages x).place (stored_as u (one.0 x) (equal x)) v),
          ),
          rising elsewhere C start s.words s.views r.0 id v at,
        ),
      )
