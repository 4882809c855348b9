-- Whose body a seat has out, and where it lies.
use Rattle.std.proofs.Common.{◌≡◌, ◌≢◌, ℕ, ◌+◌, ◌*◌, ◌≤◌, ◌<◌, ◌⊎◌, List, [], ◌∷◌, ◌++◌, true, sym, refl, ap, ◌∙◌, subst, inl, inr, ⊎_elim, length, arith}
use Rattle.std.proofs.Math.{Option.Option, Option.some, Option.some-injective, Option.some-ne-none, ListN.get_elem?}
use Rattle.atomic_table.proofs.Lists.{at_last}
use Rattle.ring_layout.specs.Places.{index}
use Rattle.ring_table.specs.{Staged.elsewhere, Staged.StagedClaim, Staged.PlacedMessage, Views.ConsumerView, Views.View}
use Rattle.ring_table.specs.{Passing.IsSettled, Rule.Kept, SlotSteps.words_of}
use Rattle.ring_table.specs.{ProducerSteps.HasClaim, Shelf.IsOwnOut, Shelf.IsGotOut, Shelf.ReadsFrom, Shelf.IsShelf}
use Rattle.ring_table.proofs.{HistoryLemmas.owned_at, StagedPlaces.one_at_place, StepLemmas.one_view, LoadLemmas.stands}
use Rattle.ring_table.proofs.BodyPlaces.{Lies, WasPassed, body_index, body_below, one_slot, passed_claim, claim_lies}

-- ---- lists

pub one_out : (m m' : PlacedMessage) (l : List PlacedMessage) → l ≡ m ∷ [] → l ≡ m' ∷ [] → m ≡ m'
one_out m m' l e e' = some-injective m m' (ap (λ (z : List PlacedMessage). get_elem? z 0) (sym e ∙ e'))

pub no_out : {A : Type 0} (m : PlacedMessage) (l : List PlacedMessage) → l ≡ [] → l ≡ m ∷ [] → A
no_out m l bare e = absurd (some-ne-none m (ap (λ (z : List PlacedMessage). get_elem? z 0) (sym e ∙ bare)))

pub same_value : (h : Option (Option ℕ)) (x y : ℕ) → h ≡ some (some x) → h ≡ some (some y) → x ≡ y
same_value h x y e e' = some-injective x y (some-injective (some x) (some y) (sym e ∙ e'))

module _ (C start : ℕ) (words : List ℕ) (homes : List (Option ℕ)) (views : List View)
    (r : Kept elsewhere C start words views) (s : IsShelf C homes views) where
  -- the history's claim of which one of a view is
  pub record InHistory (id : ℕ) (c : StagedClaim) : Type 0 where
    pub nth : ℕ
    pub there : get_elem? r.hist nth ≡ some (id, c)

  pub in_history : (id : ℕ) (v : View) (k : ℕ) (c : StagedClaim) → get_elem? views id ≡ some v → HasClaim v k c
      → InHistory id c
  in_history id v k c at has =
      let own = owned_at id r.hist k c (subst (λ l. get_elem? l k ≡ some c) (r.seated.each id v at).claims has) in
      record { nth = own.0; there = own.1 }

  -- where a body lies that is out, and whose it is
  pub record OutLies (id : ℕ) (v : View) (m : PlacedMessage) : Type 0 where
    pub nth : ℕ
    pub owned : ℕ × StagedClaim
    pub there : get_elem? r.hist nth ≡ some owned
    pub place_is : owned.1.place ≡ m.place
    pub lies : Lies C r.consumer.head r.hist m.place (length m.message.body)
    pub whose : ((owned.0 ≡ id) × (IsSettled owned.1.stage → ⊥)) ⊎ ((v.consumes ≡ true) × IsSettled owned.1.stage)

  unsettled_lies : (id : ℕ) (v : View) (k : ℕ) (c : StagedClaim) → get_elem? views id ≡ some v → HasClaim v k c
      → (IsSettled c.stage → ⊥)
      → (h : InHistory id c) × Lies C r.consumer.head r.hist c.place (length c.message.body)
  unsettled_lies id v k c at has un =
      let st = stands elsewhere C start words views r id v k c
      (record { seat = at; claim = has; unsettled = un }) in
      let scan = st.behind_scan in
      let from = r.memory.clears_from in (
        record { nth = st.nth; there = st.there },
        claim_lies elsewhere C start words views r st.nth (id, c) st.there (omega arith),
      )

  pub own_lies : (id : ℕ) (v : View) (k : ℕ) (c : StagedClaim) → get_elem? views id ≡ some v → HasClaim v k c
      → (IsSettled c.stage → ⊥) → Lies C r.consumer.head r.hist c.place (length c.message.body)
  own_lies id v k c at has un = (unsettled_lies id v k c at has un).1

  -- the last message that the read got
  pub record GotLies (m : PlacedMessage) : Type 0 where
    pub passed : WasPassed r.hist m
    pub lies : Lies C r.consumer.head r.hist m.place (length m.message.body)

  pub got_lies : (id : ℕ) (v : View) (front : List PlacedMessage) (m : PlacedMessage) → get_elem? views id ≡ some v
      → v.consumes ≡ true → v.consumer.got ≡ front ++ m ∷ [] → v.consumer.cleared ≤ m.place → GotLies m
  got_lies id v front m at consumes got ahead =
      let mine = ((r.seated.each id v at).consumes consumes).1 in
      let cleared : v.consumer.cleared ≡ r.consumer.cleared = ap (λ (z : ConsumerView). z.cleared) mine in
      let is : r.consumer.got ≡ front ++ m ∷ [] = ap (λ (z : ConsumerView). z.got) (sym mine) ∙ got in
      let there : get_elem? r.consumer.got (length front) ≡ some m =
      ap (λ l. get_elem? l (length front)) is ∙ at_last front m (length front) refl in
      let p = passed_claim r.consumer.scan start r.hist r.consumer.got (length front) m r.memory.passed there in
      let place : p.owned.1.place ≡ m.place = ap (λ (z : PlacedMessage). z.place) p.is in
      record {
        passed = p;
        lies = subst (λ (z : PlacedMessage). Lies C r.consumer.head r.hist z.place (length z.message.body)) p.is
            (claim_lies elsewhere C start words views r p.nth p.owned p.there (omega arith));
      }

  out_lies : (id : ℕ) (v : View) (m : PlacedMessage) → get_elem? views id ≡ some v → v.out ≡ m ∷ [] → OutLies id v m
  out_lies id v m at out = ⊎_elim (λ (bare : v.out ≡ []). no_out m v.out bare out)
      (λ (t : (m' : PlacedMessage) × (v.out ≡ m' ∷ []) × (IsOwnOut v m' ⊎ IsGotOut v m')).
      subst (OutLies id v) (one_out t.0 m v.out t.1 out) (⊎_elim
      (λ (o : IsOwnOut v t.0).
      let h = unsettled_lies id v o.nth o.claim at o.there o.unsettled in
      record {
        nth = h.0.nth;
        owned = (id, o.claim);
        there = h.0.there;
        place_is = o.place;
        lies = subst (λ (z : ℕ × ℕ). Lies C r.consumer.head r.hist z.0 z.1) (λ i. (o.place i, o.long i)) h.1;
        whose = inl (refl, o.unsettled);
      })
      (λ (o : IsGotOut v t.0).
      let g = got_lies id v o.front t.0 at o.consumes o.got o.ahead in
      record {
        nth = g.passed.nth;
        owned = g.passed.owned;
        there = g.passed.there;
        place_is = ap (λ (z : PlacedMessage). z.place) g.passed.is;
        lies = g.lies;
        whose = inr (o.consumes, g.passed.settled);
      }) t.2))
      (s.outs id v at)

  -- no seat has a body at this place out
  abbrev pub NoneAt : ℕ → Type 0
  NoneAt place = (j : ℕ) (u : View) (m : PlacedMessage) → get_elem? views j ≡ some u → u.out ≡ m ∷ [] → m.place ≢ place

  pub none_at_own : (id : ℕ) (v : View) (k : ℕ) (c : StagedClaim) → get_elem? views id ≡ some v → v.out ≡ []
      → HasClaim v k c → (IsSettled c.stage → ⊥) → NoneAt c.place
  none_at_own id v k c at bare has un j u m there out same =
      let o = out_lies j u m there out in
      let h = in_history id v k c at has in
      let one : o.owned ≡ (id, c) =
      one_at_place C start r.hist o.nth h.nth o.owned (id, c) r.memory.placed o.there h.there (o.place_is ∙ same) in
      ⊎_elim
      (λ (t : (o.owned.0 ≡ j) × (IsSettled o.owned.1.stage → ⊥)).
      let seats : j ≡ id = sym t.0 ∙ ap (λ (z : ℕ × StagedClaim). z.0) one in
      let is : u ≡ v = one_view views j id u v there at seats in
      no_out m u.out (ap (λ (z : View). z.out) is ∙ bare) out)
      (λ (t : (u.consumes ≡ true) × IsSettled o.owned.1.stage).
      un (subst (λ (z : ℕ × StagedClaim). IsSettled z.1.stage) one t.1))
      o.whose

  pub none_at_got : (id : ℕ) (v : View) (m : PlacedMessage) → get_elem? views id ≡ some v → v.out ≡ []
      → v.consumes ≡ true → WasPassed r.hist m → NoneAt m.place
  none_at_got id v m at bare consumes p j u m' there out same =
      let o = out_lies j u m' there out in
      let place : p.owned.1.place ≡ m.place = ap (λ (z : PlacedMessage). z.place) p.is in
      let one : o.owned ≡ p.owned =
      one_at_place C start r.hist o.nth p.nth o.owned p.owned r.memory.placed o.there p.there
      (o.place_is ∙ same ∙ sym place) in
      ⊎_elim
      (λ (t : (o.owned.0 ≡ j) × (IsSettled o.owned.1.stage → ⊥)).
      t.1 (subst (λ (z : ℕ × StagedClaim). IsSettled z.1.stage) (sym one) p.settled))
      (λ (t : (u.consumes ≡ true) × IsSettled o.owned.1.stage).
      let seats : j ≡ id = ((r.seated.each j u there).consumes t.0).0 ∙ sym ((r.seated.each id v at).consumes consumes).0
      in
      let is : u ≡ v = one_view views j id u v there at seats in
      no_out m' u.out (ap (λ (z : View). z.out) is ∙ bare) out)
      o.whose

  -- the slots of such a body are at home
  pub all_home : (place n : ℕ) → Lies C r.consumer.head r.hist place n → NoneAt place → (i : ℕ) → i < words_of (8 + n)
      → (y : ℕ) × (get_elem? homes (index C place + i) ≡ some (some y))
  all_home place n l alone i less =
      let k : ℕ = index C place in
      s.home (k + i) (body_below C r.consumer.head place n i l.body less) (λ j u there o.
      let out = out_lies j u o.message there o.out_is in
      let slot : index C (o.message.place + o.at) ≡ index C (place + 8 * i) =
      o.slot_is ∙ sym (body_index C r.consumer.head place n i l.body less) in
      let one = one_slot C start r.consumer.head r.hist r.memory.placed o.message.place
      (length o.message.message.body) place n out.lies l o.at (8 * i) (o.aligned, o.inside)
      (omega arith, omega arith) slot in
      alone j u o.message there o.out_is one.0)

  -- the head of the reader is the rule's
  pub reads_from : (p : ℕ) → r.consumer.head ≤ p → ReadsFrom views p
  reads_from p above =
      let d = s.reader in
      let mine = ((r.seated.each d.seat d.view d.there).consumes d.consumes).1 in
      let heads : d.view.consumer.head ≡ r.consumer.head = ap (λ (z : ConsumerView). z.head) mine in
      record { seat = d.seat; view = d.view; there = d.there; consumes = d.consumes; head = omega arith }

  pub reads_above : (p : ℕ) → ReadsFrom views p → r.consumer.head ≤ p
  reads_above p d =
      let mine = ((r.seated.each d.seat d.view d.there).consumes d.consumes).1 in
      let heads : d.view.consumer.head ≡ r.consumer.head = ap (λ (z : ConsumerView). z.head) mine in
      omega arith
