-- A producer's stores into its claims keep the rule.
use Rattle.ring_table.specs.{Staged.Bodies, Changes.blank, Changes.staged, Changes.with_header, Changes.changed}
use Rattle.std.proofs.Common.{◌≡◌, ◌≢◌, ℕ, ◌-◌, ◌/◌, ◌%◌, ◌^◌, ◌≤◌, ◌<◌, ◌⊎◌, ℤ, List, set, sym, refl, ap, ◌∙◌, subst, inl, inr, ⊎_elim, length, arith}
use Rattle.std.proofs.Math.{Option.some, Logic.dite, Decide.ℕ_discrete, ListN.get_elem?}
use Rattle.std.proofs.lemmas.List.{length-replicate}
use Rattle.atomic_table.specs.Table.{keeps, Allows}
use Rattle.ring_layout.specs.declared.message.ClaimState.{ClaimState, TheVariants.Open}
use Rattle.ring_layout.specs.{History.IsMessage, History.span, Places.index, Headers.header_of, Headers.open_header}
use Rattle.ring_table.specs.Staged.{StagedClaim, Stage, Moved, Padded, Stored, claim_of, claim_end, staged_span, masked_padding, masked_record, padding_word, staged_word, staged_word_at, staged_end, AreRising}
use Rattle.ring_table.specs.{Owners.OwnedHistory, Owners.all_of, Owners.edited_one, Owners.edited, Passing.IsSettled}
use Rattle.ring_table.specs.{Views.View, Views.with_claims, Rule.Kept}
use Rattle.ring_table.specs.ProducerSteps.{Mine, HasClaim, Changes, StoresPadding, StoresClaimed, StoresSettled}
use Rattle.ring_table.proofs.StagedPlaces.{word_of_claim, one_at_place, one_at_position}
use Rattle.ring_table.proofs.StagedWords.{staged_word-header, staged_word-padding, staged_word-staged, staged_word-opened}
use Rattle.ring_table.proofs.HistoryLemmas.{MayReplace, MayReplaceAt, owned_by-edited, owned_by-edited_other, edited_one_here, get-edited, staged_end-edited, placed_edited}
use Rattle.ring_table.proofs.{OwnerLemmas.rising_owned_by, LoadLemmas.HasUnsettled, LoadLemmas.Ok, LoadLemmas.stands}
use Rattle.ring_table.proofs.{ReachLemmas.Unsettled, HeaderWords.one_type, HeaderWords.one_length}
use Rattle.ring_table.proofs.{KnowLemmas.knows_after, StepLemmas.sees_top_after, StepLemmas.becomes}
use Rattle.ring_table.proofs.MemoryLemmas.{memory_edited, service_elsewhere, one_position, index_inside}

-- a word of a claim's record is at q, or one of the padding before it while only the tail was moved
pub record IsWordOf (c : StagedClaim) (q : ℕ) : Type 0 where
  pub whole : q % 8 ≡ 0
  pub from : c.from ≤ q
  pub below : q < claim_end c
  pub late : (c.place ≤ q) ⊎ (c.stage ≡ Moved)

-- a claim d may be in the place of c once the word at q has this value, and no other word changes
pub record Rewords (B : Bodies) (C : ℕ) (c d : StagedClaim) (q value : ℕ) : Type 0 where
  pub may : MayReplace C c d
  pub goes : c.stage ≢ Moved → d.stage ≢ Moved
  pub word : staged_word B d q ≡ value
  pub others : (p : ℕ) → p % 8 ≡ 0 → p ≢ q → staged_word B d p ≡ staged_word B c p

-- a message of this type id and length has the span of the claim
pub record FillsClaim (C : ℕ) (c : StagedClaim) (type_id : ℤ) (n : ℕ) : Type 0 where
  pub most : C ≤ 2 ^ 24
  pub span_is : span n ≡ staged_span c
  pub lawful : IsMessage C (blank type_id n)

-- a claim at the stage t, which is not settled, shows as much at the stage u, which is not Moved
record MayFollow (t u : Stage) : Type 0 where
  pub unsettled : IsSettled t → ⊥
  pub stays : u ≢ Moved
  pub paddings : (word : ℕ) → masked_padding u word ≡ masked_padding t word
  pub records : (word : ℕ) → masked_record u word ≡ masked_record t word

module _ (B : Bodies) (C start : ℕ) where
  -- a word of an own claim that is not settled is stored
  pub edits : (words : List ℕ) (views : List View) (r : Kept B C start words views) (id : ℕ) (v : View) (k : ℕ)
      (c : StagedClaim) → HasUnsettled B C start views id v k c → (f : StagedClaim → StagedClaim) (q value : ℕ)
      → IsWordOf c q → Rewords B C c (f c) q value
      → Kept B C start (set words (index C q) value) (set views id (with_claims (changed c.place f v.producer.claims) v))
  edits words views r id v k c has f q value is edit =
      let at = has.seat in
      let may = edit.may in
      let h : OwnedHistory = r.hist in
      let p : ℕ = c.place in
      let h' : OwnedHistory = edited id p f h in
      let w : View = with_claims (changed p f v.producer.claims) v in
      let st = stands B C start words views r id v k c has in
      let lo = is.from in
      let hi = is.below in
      let below = st.lies.below in
      let behind = st.behind_scan in
      let m = r.memory in
      let from = m.clears_from in
      let to = m.clears_to in
      let room = m.room in
      let top : ℕ = staged_end start (all_of h) in
      -- c is the only claim at its place
      let only = λ (P : StagedClaim → Type 0) (own : P c) (j : ℕ) (x : ℕ × StagedClaim) (there : get_elem? h j ≡ some x)
      (e : x.1.place ≡ p). subst (λ (z : ℕ × StagedClaim). P z.1)
      (sym (one_at_place C start h j st.nth x (id, c) m.placed there st.there e)) own in
      let may_all : MayReplaceAt C p f h = only (λ d. MayReplace C d (f d)) may in
      let un_all : Unsettled p f h =
      only (λ d. (IsSettled d.stage → ⊥) × (d.stage ≢ Moved → (f d).stage ≢ Moved)) (has.unsettled, edit.goes) in
      let low : r.consumer.scan ≤ q = ⊎_elim (λ (a : p ≤ q). omega arith)
      (λ (a : c.stage ≡ Moved). let padding = st.padding_behind a in omega arith) is.late in
      let tops : staged_end start (all_of h') ≡ top = staged_end-edited id p f C start h may_all in
      let placed' = placed_edited id p f C start h may_all m.placed in
      let is_here = edited_one_here id p f c refl in
      let word_now : staged_word_at B (all_of h') q ≡ value =
      word_of_claim B C start h' st.nth (edited_one id p f (id, c)) q placed'
      (get-edited id p f h st.nth (id, c) st.there)
      (subst (λ (z : StagedClaim). z.from ≤ q) (sym is_here) (let same = may.from in omega arith))
      (subst (λ (z : StagedClaim). q < claim_end z) (sym is_here)
      (let place = may.place in omega arith))
      ∙ ap (λ (z : StagedClaim). staged_word B z q) is_here ∙ edit.word in
      let inside = index_inside B C start r.lawful q in
      becomes B C start words views r id v at (set words (index C q) value) h' r.consumer r.drawn w (record {
        memory = memory_edited B C start r.lawful words r.consumer h m id p f q value is.whole low (omega arith) (record {
          may = may_all;
          unsettled = un_all;
          word = word_now;
          others = only (λ d. (i : ℕ) → i % 8 ≡ 0 → i ≢ q → staged_word B (f d) i ≡ staged_word B d i) edit.others;
        });
        service = service_elsewhere B C start r.lawful words r.consumer r.drawn r.service (index C q) value (record {
          cache = λ e. omega arith;
          correlation = λ e. omega arith;
          heartbeat = λ e. omega arith;
          unnamed = λ j un e. omega arith;
        }) r.consumer (record { rises = omega arith; same = refl });
        steps = record {
          own =
              (let own = r.seated.each id v at in
              record {
                claims = ap (changed p f) own.claims ∙ sym (owned_by-edited id p f h);
                tail_seen = subst (λ n. v.producer.seen_tail ≤ n) (sym tops) own.tail_seen;
                head_seen = own.head_seen;
                idle = λ none. record {
                  claims = ap (changed p f) (own.idle none).claims;
                  draws = (own.idle none).draws;
                };
                served = own.served;
                consumes = own.consumes;
              });
          others = λ j u ne knows. knows_after knows (omega arith) (owned_by-edited_other id p f j h ne);
          shares = refl;
          outside = λ j ne. owned_by-edited_other id p f j h ne;
          latest = sees_top_after views id v w top (staged_end start (all_of h')) at (λ rich. rich) tops
              (λ e. e ∙ sym tops) r.seated.latest;
          drawn = λ x. refl;
        };
      })

  pub rising : (words : List ℕ) (views : List View) (r : Kept B C start words views) (id : ℕ) (v : View)
      → get_elem? views id ≡ some v → AreRising v.producer.claims
  rising words views r id v at =
      subst AreRising (sym (r.seated.each id v at).claims) (rising_owned_by C start id r.hist r.memory.placed)

  -- two claims of a view that are not settled and have a word with one index at positions of theirs are at one place
  pub same_place : (words : List ℕ) (views : List View) (r : Kept B C start words views) (id : ℕ) (v : View) (k k' : ℕ)
      (c c' : StagedClaim) → HasUnsettled B C start views id v k c → HasUnsettled B C start views id v k' c' → (q q' : ℕ)
      → IsWordOf c q → IsWordOf c' q' → index C q' ≡ index C q → (c'.place ≡ c.place) × (q' ≡ q)
  same_place words views r id v k k' c c' has has' q q' is is' same =
      let st = stands B C start words views r id v k c has in
      let st' = stands B C start words views r id v k' c' has' in
      let lo = is.from in
      let hi = is.below in
      let m = r.memory in
      let from = m.clears_from in
      let below = st.lies.below in
      let low : r.consumer.scan ≤ q = ⊎_elim (λ (a : c.place ≤ q). omega arith)
      (λ (a : c.stage ≡ Moved). let padding = st.padding_behind a in omega arith) is.late in
      let low' : r.consumer.scan ≤ q' = ⊎_elim (λ (a : c'.place ≤ q'). omega arith)
      (λ (a : c'.stage ≡ Moved). let padding = st'.padding_behind a in omega arith) is'.late in
      let one : q' ≡ q = one_position B C start r.lawful r.consumer.head q' q
      (record { whole = is'.whole; from = omega arith; below = omega arith })
      (record { whole = is.whole; from = omega arith; below = omega arith }) same in (
        ap (λ (z : ℕ × StagedClaim). z.1.place)
            (one_at_position C start r.hist st'.nth st.nth q (id, c') (id, c) m.placed
            (record { there = st'.there; from = omega arith; below = omega arith })
            (record { there = st.there; from = lo; below = hi })),
        one,
      )

  -- the header of a claim that is not settled is a word of its record
  pub header_lies : (words : List ℕ) (views : List View) (r : Kept B C start words views) (id : ℕ) (v : View) (k : ℕ)
      (c : StagedClaim) → HasUnsettled B C start views id v k c → IsWordOf c c.place
  header_lies words views r id v k c has =
      let st = stands B C start words views r id v k c has in
      let padded = st.lies.padded in
      record { whole = st.place_aligned; from = padded; below = omega arith; late = inl (omega arith) }

  -- the header of a claim at the stage t is stored, and it is f of the claim from then on
  pub header_step : (t : Stage) → (IsSettled t → ⊥) → (f : StagedClaim → StagedClaim) → (slots id : ℕ) (me : Mine)
      → me.0.capacity ≡ C → (k : ℕ) (c : StagedClaim) (value : ℕ) → HasClaim me.0 k c → c.stage ≡ t
      → (c.place % 8 ≡ 0 → Rewords B C c (f c) c.place value)
      → Allows (Ok B C start) slots id me (index C c.place) (λ _. value)
      (λ _ me'. (me'.1 ≡ me.1) × Changes t (λ d. d.place) f (index C c.place) me.0 me'.0
      × AreRising me.0.producer.claims)
  header_step t un f slots id me cap k c value has is edit s r wide at small =
      let v : View = me.0 in
      let mine : HasUnsettled B C start s.views id v k c =
      record { seat = at; claim = has; unsettled = λ z. un (subst IsSettled is z) } in
      let header = header_lies s.words s.views r id v k c mine in (
        with_claims (changed c.place f v.producer.claims) v,
        keeps,
        tt,
        edits s.words s.views r id v k c mine f c.place value header (edit header.whole),
        (
          refl,
          (λ k' c' has' is' same.
              let other : HasUnsettled B C start s.views id v k' c' =
              record { seat = at; claim = has'; unsettled = λ z. un (subst IsSettled is' z) } in
              ap (λ p. with_claims (changed p f v.producer.claims) v)
              (sym (same_place s.words s.views r id v k k' c c' mine other c.place c'.place header
              (header_lies s.words s.views r id v k' c' other) (ap (λ z. index z c'.place) (sym cap) ∙ same)).0)),
          rising s.words s.views r id v at,
        ),
      )

  -- the stage alone changes
  stage_step : (t u : Stage) → MayFollow t u → (slots id : ℕ) (me : Mine) → me.0.capacity ≡ C
      → (k : ℕ) (c : StagedClaim) (value : ℕ) → HasClaim me.0 k c → c.stage ≡ t
      → value ≡ masked_record u (header_of (claim_of (staged u c)))
      → Allows (Ok B C start) slots id me (index C c.place) (λ _. value)
      (λ _ me'. (me'.1 ≡ me.1) × Changes t (λ d. d.place) (staged u) (index C c.place) me.0 me'.0
      × AreRising me.0.producer.claims)
  stage_step t u on slots id me cap k c value has is value_is =
      header_step t on.unsettled (staged u) slots id me cap k c value has is (λ place8. record {
        may = record { from = refl; place = refl; same_span = refl; message = λ m. m };
        goes = λ _. on.stays;
        word = staged_word-header B (staged u c) c.place refl ∙ sym value_is;
        others = λ p p8 ne. staged_word-staged B c u p p8 place8 ne
            (λ word. on.records word ∙ ap (λ z. masked_record z word) (sym is))
            (λ _. on.paddings (padding_word B (c.place - c.from))
            ∙ ap (λ z. masked_padding z (padding_word B (c.place - c.from))) (sym is));
      })

  pub settles : (u : ClaimState) (slots id : ℕ) (me : Mine) → me.0.capacity ≡ C → (k : ℕ) (c : StagedClaim) (value : ℕ)
      → HasClaim me.0 k c → c.stage ≡ Stored Open → value ≡ header_of (record { message = c.message; state = u })
      → Allows (Ok B C start) slots id me (index C c.place) (λ _. value)
      (λ _ me'. (me'.1 ≡ me.1) × StoresSettled u (index C c.place) me.0 me'.0 × AreRising me.0.producer.claims)
  settles u = stage_step (Stored Open) (Stored u)
      (record { unsettled = λ z. z; stays = λ e. cc; paddings = λ _. refl; records = λ _. refl })

  pub pads : (slots id : ℕ) (me : Mine) → me.0.capacity ≡ C → (k : ℕ) (c : StagedClaim) (value : ℕ) → HasClaim me.0 k c
      → c.stage ≡ Moved → c.from < c.place → value ≡ padding_word B (c.place - c.from)
      → Allows (Ok B C start) slots id me (index C c.from) (λ _. value)
      (λ _ me'. (me'.1 ≡ me.1) × StoresPadding (index C c.from) me.0 me'.0 × AreRising me.0.producer.claims)
  pads slots id me cap k c value has is wraps value_is s r wide at small =
      let v : View = me.0 in
      let mine : HasUnsettled B C start s.views id v k c =
      record { seat = at; claim = has; unsettled = λ z. subst IsSettled is z } in
      let st = stands B C start s.words s.views r id v k c mine in
      let place8 = st.place_aligned in
      let padding : IsWordOf c c.from =
      record { whole = st.from_aligned; from = omega arith; below = omega arith; late = inr is } in (
        with_claims (changed c.place (staged Padded) v.producer.claims) v,
        keeps,
        tt,
        edits s.words s.views r id v k c mine (staged Padded) c.from value padding (record {
          may = record { from = refl; place = refl; same_span = refl; message = λ m. m };
          goes = λ _ e. cc;
          word = staged_word-padding B (staged Padded c) c.from refl wraps ∙ sym value_is;
          others = λ p p8 ne. dite (ℕ_discrete p c.place)
              (λ e. staged_word-header B (staged Padded c) p e
              ∙ sym (staged_word-header B c p e ∙ ap (λ z. masked_record z (header_of (claim_of c))) is))
              (λ other. staged_word-staged B c Padded p p8 place8 other
              (λ word. ap (λ z. masked_record z word) (sym is)) (λ e. absurd (ne e)));
        }),
        (
          refl,
          (λ k' c' has' is' same.
              let other : HasUnsettled B C start s.views id v k' c' =
              record { seat = at; claim = has'; unsettled = λ z. subst IsSettled is' z } in
              let st' = stands B C start s.words s.views r id v k' c' other in
              ap (λ p. with_claims (changed p (staged Padded) v.producer.claims) v)
              (sym (same_place s.words s.views r id v k k' c c' mine other c.from c'.from padding
              (record { whole = st'.from_aligned; from = omega arith; below = omega arith; late = inr is' })
              (ap (λ z. index z c'.from) (sym cap) ∙ same)).0)),
          rising s.words s.views r id v at,
        ),
      )

  -- the claimed header fixes type id and length
  pub opens : (slots id : ℕ) (me : Mine) → me.0.capacity ≡ C → (k : ℕ) (c : StagedClaim) (type_id : ℤ) (n value : ℕ)
      → value ≡ open_header type_id n → HasClaim me.0 k c → c.stage ≡ Padded → FillsClaim C c type_id n
      → Allows (Ok B C start) slots id me (index C c.place) (λ _. value)
      (λ _ me'. (me'.1 ≡ me.1) × StoresClaimed (index C c.place) value me.0 me'.0 × AreRising me.0.producer.claims)
  opens slots id me cap k c type_id n value value_is has is fills s r wide at small =
      let lawful = fills.lawful in
      let zeros : length (blank type_id n).body ≡ n = length-replicate n 0 in
      let short : n ≤ C / 8 = omega (arith, lawful.short) in
      let t = header_step Padded (λ z. z) (with_header type_id n) slots id me cap k c value has is (λ place8. record {
        may = record { from = refl; place = refl; same_span = ap span zeros ∙ fills.span_is; message = λ _. lawful };
        goes = λ _ e. cc;
        word = staged_word-header B (with_header type_id n c) c.place refl ∙ ap (open_header type_id) zeros
            ∙ sym value_is;
        others = λ p p8 ne. staged_word-opened B c type_id n p p8 place8 ne is;
      }) s r wide at small in (
        t.0,
        t.1,
        t.2,
        t.3,
        (
          t.4.0,
          (λ type_id' n' fits' small' same.
              let same' = sym value_is ∙ same in
              let types = one_type type_id n type_id' n' lawful.type_fits (omega arith) fits' small' same' in
              let lengths = one_length type_id n type_id' n' (omega arith) small' same' in
              subst (λ (z : ℤ × ℕ). Changes Padded (λ d. d.place) (with_header z.0 z.1) (index C c.place) me.0 t.0)
              (λ i. (types i, lengths i)) t.4.1),
          t.4.2,
        ),
      )
