-- The steps that take a body's slots keep the rule.
use Rattle.std.proofs.Common.{◌≡◌, ℕ, zero, suc, ◌+◌, ◌*◌, ◌≤◌, ◌<◌, List, [], ◌∷◌, ◌++◌, true, cond, set, slice_index, sym, refl, ap, ◌∙◌, subst, inl, inr, ⊎_elim, length, length-append, append-nil, eq-eqb, ne_eqb, arith, All}
use Rattle.std.proofs.Math.{Option.Option, Option.some, Option.some-injective, Option.some-ne-none, Decide.ℕ_discrete}
use Rattle.std.proofs.{Math.Logic.dite, Math.ListN.get_elem?, lemmas.List.set-get_or}
use Rattle.atomic_table.{specs.Table.State, specs.Table.Allows, specs.Table.carried_after, proofs.Lists.at_last}
use Rattle.ring_layout.specs.{declared.message.ClaimState.TheVariants.Open, Places.index}
use Rattle.ring_layout.proofs.ListLemmas.{at_below}
use Rattle.ring_table.specs.Staged.{Bodies, elsewhere, StagedClaim, PlacedMessage, Padded, Stored, IsStored, AreRising, staged_end, body_word, slot_bytes}
use Rattle.ring_table.specs.{Owners.OwnedHistory, Owners.all_of, Owners.owned_by, Ranges.numbered, Ranges.takes_from}
use Rattle.ring_table.specs.{Passing.IsSettled, Passing.placed_message, ProducerSteps.Mine, ProducerSteps.HasClaim}
use Rattle.ring_table.{specs.Views.View, specs.Rule.Kept, specs.Shelf.IsClaimOf, proofs.KnowLemmas.knows_on}
use Rattle.ring_table.specs.SlotSteps.{words_of, HasBody, HasSlots, with_out, ReservesAt, ReservesBody, TakesBody, LendsBody}
use Rattle.ring_table.proofs.{RangeLemmas.carried_takes, RangeLemmas.valid_takes, SlotLemmas.takes_shelf}
use Rattle.ring_table.proofs.{ListLemmas.there_or_past, LoadLemmas.Ok, LoadLemmas.HasUnsettled, LoadLemmas.stands}
use Rattle.ring_table.proofs.{ReachLemmas.stored_of, CarryLemmas.Holds, CarryLemmas.one_claim, SlotBytes.length_slot}
use Rattle.ring_table.proofs.{StepLemmas.sees_top_after, StepLemmas.becomes, BodyPlaces.body_index, BodyPlaces.gathered}
use Rattle.ring_table.proofs.{StoreLemmas.rising, StoreLemmas.same_place, StoreLemmas.header_lies, ClearLemmas.one_end}
use Rattle.ring_table.proofs.OutPlaces.{own_lies, got_lies, none_at_own, none_at_got, all_home, reads_from}

-- ---- views and lists

pub set_twice : (views : List View) (id : ℕ) (v w : View) → set (set views id v) id w ≡ set views id w
set_twice [] id v w = refl
set_twice (x ∷ xs) zero v w = refl
set_twice (x ∷ xs) (suc id) v w = ap (λ l. x ∷ l) (set_twice xs id v w)

-- a claim of the history is its owner's
pub has_owned : (h : OwnedHistory) (n j : ℕ) (c : StagedClaim) → get_elem? h n ≡ some (j, c)
    → (k : ℕ) × (get_elem? (owned_by j h) k ≡ some c)
has_owned [] n j c e = absurd (some-ne-none (j, c) (sym e))
has_owned (x ∷ xs) zero j c e =
    let is : x ≡ (j, c) = some-injective x (j, c) e in (
      0,
      ap (λ b. get_elem? (cond b (x.1 ∷ owned_by j xs) (owned_by j xs)) 0)
          (eq-eqb x.0 j (ap (λ (z : ℕ × StagedClaim). z.0) is))
          ∙ ap (λ (z : ℕ × StagedClaim). some z.1) is,
    )
has_owned (x ∷ xs) (suc n) j c e =
    let t = has_owned xs n j c e in
    dite (ℕ_discrete x.0 j)
    (λ own. (
      suc t.0,
      ap (λ b. get_elem? (cond b (x.1 ∷ owned_by j xs) (owned_by j xs)) (suc t.0))
          (eq-eqb x.0 j own) ∙ t.1,
    ))
    (λ other. (
      t.0,
      ap (λ b. get_elem? (cond b (x.1 ∷ owned_by j xs) (owned_by j xs)) t.0)
          (ne_eqb x.0 j other) ∙ t.1,
    ))

-- the last claim of a list is one
one_newest : (xs ys : List StagedClaim) (c d : StagedClaim) → xs ++ c ∷ [] ≡ ys ++ d ∷ [] → c ≡ d
one_newest xs ys c d e =
    let more : length xs + 1 ≡ length ys + 1 = sym (length-append xs (c ∷ [])) ∙ (ap length e ∙ length-append ys (d ∷ []))
    in some-injective c d
    (sym (at_last xs c (length xs) refl) ∙ (ap (λ l. get_elem? l (length xs)) e ∙ at_last ys d (length xs) (omega arith)))

-- one view has another body out
pub outed : (B : Bodies) (C start : ℕ) (words : List ℕ) (views : List View) (r : Kept B C start words views) (id : ℕ)
    (v : View) → get_elem? views id ≡ some v → (ms : List PlacedMessage) (log : List (ℕ × ℕ))
    → Kept B C start words (set views id (record v { out = ms; log = log }))
outed B C start words views r id v at ms log =
    let top : ℕ = staged_end start (all_of r.hist) in
    let k = r.seated.each id v at in
    becomes B C start words views r id v at words r.hist r.consumer r.drawn (record v { out = ms; log = log }) (record {
      memory = r.memory;
      service = r.service;
      steps = record {
        own = knows_on k refl (omega arith) k.served k.consumes;
        others = λ j u ne knows. knows;
        shares = refl;
        outside = λ j ne. refl;
        latest = sees_top_after views id v (record v { out = ms; log = log }) top top at (λ rich. rich) refl (λ e. e) r.seated.latest;
        drawn = λ x. refl;
      };
    })

-- slots that were taken are all that a seat has that had none
has_slots : (i n : ℕ) (ys : List ℕ) (carried : List (ℕ × ℕ)) → carried ≡ [] → length ys ≡ n
    → HasSlots i n (carried_after carried (takes_from i ys))
has_slots i n ys carried none count = record {
  values = ys;
  held_is = carried_takes carried i ys ∙ ap (λ l. numbered i ys ++ l) none ∙ append-nil (numbered i ys);
  count = count;
}

-- the values of slots that were taken are the body's words
has_body : (C i : ℕ) (body ys : List ℕ) (homes : List (Option ℕ)) (carried : List (ℕ × ℕ)) → carried ≡ []
    → length ys ≡ words_of (length body)
    → ((j y : ℕ) → j < words_of (length body) → get_elem? ys j ≡ some y → body_word body (8 * j) ≡ y)
    → HasBody i body (carried_after carried (takes_from i ys))
has_body C i body ys homes carried none count words = record {
  values = ys;
  held_is = carried_takes carried i ys ∙ ap (λ l. numbered i ys ++ l) none ∙ append-nil (numbered i ys);
  words = λ j y e. let less = at_below ys j y e in words j y (omega arith) e;
  count = count;
}

module _ (C start : ℕ) where
  -- the rule after a load and a take or a give
  pub loaded : (s : State ℕ View) (i : ℕ) (views : List View) → Kept elsewhere C start s.words views
      → Kept elsewhere C start (set s.words i (slice_index s.words i)) views
  loaded s i views k = subst (λ l. Kept elsewhere C start l views) (sym (set-get_or s.words i 0)) k

  -- the own claim at this word
  own_claim : (s : State ℕ View) (r : Ok elsewhere C start s) (id : ℕ) (v : View) → get_elem? s.views id ≡ some v
      → v.capacity ≡ C → (k : ℕ) (c : StagedClaim) → HasClaim v k c → (IsSettled c.stage → ⊥)
      → (k' : ℕ) (c' : StagedClaim) → HasClaim v k' c' → (IsSettled c'.stage → ⊥)
      → index v.capacity c'.place ≡ index C c.place → c ≡ c'
  own_claim s r id v at cap k c has un k' c' has' un' same =
      let mine : HasUnsettled elsewhere C start s.views id v k c =
      record { seat = at; claim = has; unsettled = un } in
      let other : HasUnsettled elsewhere C start s.views id v k' c' =
      record { seat = at; claim = has'; unsettled = un' } in
      let places = (same_place elsewhere C start s.words s.views r id v k k' c c' mine other c.place c'.place
      (header_lies elsewhere C start s.words s.views r id v k c mine)
      (header_lies elsewhere C start s.words s.views r id v k' c' other)
      (ap (λ z. index z c'.place) (sym cap) ∙ same)).0 in
      one_claim v.producer.claims k k' c c' (rising elsewhere C start s.words s.views r id v at) has has' (sym places)

  pub takes_body : (slots id : ℕ) (me : Mine) → me.0.capacity ≡ C → me.0.out ≡ [] → me.1 ≡ [] → (k : ℕ)
      (c : StagedClaim) → HasClaim me.0 k c → c.stage ≡ Stored Open
      → Allows (Holds elsewhere C start) slots id me (index C c.place) (λ n. n)
      (λ n me'. TakesBody (index C c.place) me me' × AreRising me.0.producer.claims)
  takes_body slots id me cap none empty k c has is s r wide at small =
      let v : View = me.0 in
      let un : IsSettled c.stage → ⊥ = λ z. subst IsSettled is z in
      let l = own_lies C start s.words s.homes s.views r.0 r.1 id v k c at has un in
      let alone = none_at_own C start s.words s.homes s.views r.0 r.1 id v k c at none has un in
      let n : ℕ = length c.message.body in
      let i : ℕ = index C c.place in
      let home = all_home C start s.words s.homes s.views r.0 r.1 c.place n l alone in
      let right : (j y : ℕ) → j < words_of (8 + n) → get_elem? s.homes (i + j) ≡ some (some y)
      → body_word (slot_bytes c.message) (8 * j) ≡ y = λ j y less e.
      sym (r.1.exact c (record {
        seat = id;
        view = v;
        nth = k;
        there = at;
        has = has;
        stored = subst IsStored (sym is) tt;
      }) (reads_from C start s.words s.homes s.views r.0 r.1 c.place l.body.from) (8 * j) y (omega arith) (omega arith)
      (ap (get_elem? s.homes) (body_index C r.0.consumer.head c.place n j l.body less) ∙ e)) in
      let ys = gathered s.homes i (words_of (8 + n)) home in
      let long = length_slot c.message in
      let m : PlacedMessage = placed_message c in
      let w : View = with_out (m ∷ []) v in
      let body : HasBody i (slot_bytes c.message) (carried_after me.1 (takes_from i ys.0)) =
      has_body C i (slot_bytes c.message) ys.0 s.homes me.1 empty (ys.1 ∙ ap words_of (sym long))
      (λ j y less e. right j y (subst (λ z. j < words_of z) long less) (ys.2 j y e)) in (
        w,
        takes_from i ys.0,
        valid_takes s.homes me.1 i ys.0 ys.2,
        (
          loaded s i (set s.views id w) (outed elsewhere C start s.words s.views r.0 id v at (m ∷ []) v.log),
          takes_shelf C start s.words s.homes s.views r.0 r.1 id v w at refl refl m me.1 ys.0 (record {
            was = none;
            now = refl;
            kind = inl (record { nth = k; claim = c; there = has; unsettled = un; place = refl; long = refl });
            claims = λ k' c' has' stored. inr has';
          }) l.body ys.1,
        ),
        (
          λ k' c' has' is' same.
              let one : c ≡ c' = own_claim s r.0 id v at cap k c has un k' c' has' (λ z. subst IsSettled is' z) same in (
                (λ x. with_out (placed_message (one x) ∷ []) v),
                subst (λ (z : StagedClaim). HasBody i (slot_bytes z.message) (carried_after me.1
                    (takes_from i ys.0))) one body,
                subst (λ (z : StagedClaim). All (λ b. b < 256) z.message.body) one
                    (stands elsewhere C start s.words s.views r.0 id v k c
                    (record { seat = at; claim = has; unsettled = un })).lies.message.bytes,
              ),
          rising elsewhere C start s.words s.views r.0 id v at,
        ),
      )

  -- whatever word is loaded
  pub reserves_body : (slots id word : ℕ) (me : Mine) → me.0.capacity ≡ C → me.0.out ≡ [] → me.1 ≡ []
      → (others : List StagedClaim) (c : StagedClaim) → me.0.producer.claims ≡ others ++ c ∷ [] → c.stage ≡ Padded
      → Allows (Holds elsewhere C start) slots id me word (λ n. n)
      (λ n me'. ReservesBody me me' × AreRising me.0.producer.claims)
  reserves_body slots id word me cap none empty others c newest is s r wide at small =
      let v : View = me.0 in
      let k : ℕ = length others in
      let has : HasClaim v k c = ap (λ l. get_elem? l k) newest ∙ at_last others c k refl in
      let un : IsSettled c.stage → ⊥ = λ z. subst IsSettled is z in
      let l = own_lies C start s.words s.homes s.views r.0 r.1 id v k c at has un in
      let alone = none_at_own C start s.words s.homes s.views r.0 r.1 id v k c at none has un in
      let n : ℕ = length c.message.body in
      let i : ℕ = index C c.place in
      let ys = gathered s.homes i (words_of (8 + n))
      (all_home C start s.words s.homes s.views r.0 r.1 c.place n l alone) in
      let m : PlacedMessage = placed_message c in
      let w : View = with_out (m ∷ []) v in (
        w,
        takes_from i ys.0,
        valid_takes s.homes me.1 i ys.0 ys.2,
        (
          loaded s word (set s.views id w) (outed elsewhere C start s.words s.views r.0 id v at (m ∷ []) v.log),
          takes_shelf C start s.words s.homes s.views r.0 r.1 id v w at refl refl m me.1 ys.0 (record {
            was = none;
            now = refl;
            kind = inl (record { nth = k; claim = c; there = has; unsettled = un; place = refl; long = refl });
            claims = λ k' c' has' stored. inr has';
          }) l.body ys.1,
        ),
        (
          λ others' c' newest' is'.
              let one : c ≡ c' = one_newest others others' c c' (sym newest ∙ newest') in
              let here : i ≡ index v.capacity c'.place = λ x. index (sym cap x) (one x).place in (
                (λ x. with_out (placed_message (one x) ∷ []) v),
                subst (λ z. HasSlots z (words_of (8 + length c'.message.body)) (carried_after me.1
                    (takes_from i ys.0))) here
                    (has_slots i (words_of (8 + length c'.message.body)) ys.0 me.1 empty
                    (ys.1 ∙ ap (λ (z : StagedClaim). words_of (8 + length z.message.body)) one)),
              ),
          rising elsewhere C start s.words s.views r.0 id v at,
        ),
      )

  pub lends_body : (slots id : ℕ) (me : Mine) → me.0.capacity ≡ C → me.0.out ≡ [] → me.1 ≡ [] → me.0.consumes ≡ true
      → (front : List PlacedMessage) (m : PlacedMessage) → me.0.consumer.got ≡ front ++ m ∷ []
      → me.0.consumer.cleared ≤ m.place
      → Allows (Holds elsewhere C start) slots id me (index C m.place) (λ n. n)
      (λ n me'. LendsBody (index C m.place) me me')
  lends_body slots id me cap none empty consumes front m got ahead s r wide at small =
      let v : View = me.0 in
      let g = got_lies C start s.words s.homes s.views r.0 r.1 id v front m at consumes got ahead in
      let p = g.passed in
      let l = g.lies in
      let alone = none_at_got C start s.words s.homes s.views r.0 r.1 id v m at none consumes p in
      let n : ℕ = length m.message.body in
      let i : ℕ = index C m.place in
      let home = all_home C start s.words s.homes s.views r.0 r.1 m.place n l alone in
      let owner = has_owned r.0.hist p.nth p.owned.0 p.owned.1 p.there in
      let of : IsClaimOf s.views p.owned.1 = ⊎_elim
      (λ (t : (u : View) × (get_elem? s.views p.owned.0 ≡ some u)). record {
        seat = p.owned.0;
        view = t.0;
        nth = owner.0;
        there = t.1;
        has = subst (λ h. get_elem? h owner.0 ≡ some p.owned.1) (sym (r.0.seated.each p.owned.0 t.0 t.1).claims) owner.1;
        stored = stored_of p.owned.1.stage p.settled;
      })
      (λ (past : length s.views ≤ p.owned.0). absurd (some-ne-none p.owned.1
      (sym owner.1 ∙ ap (λ h. get_elem? h owner.0) (r.0.seated.nobody p.owned.0 past))))
      (there_or_past s.views p.owned.0) in
      let right : (j y : ℕ) → j < words_of (8 + n) → get_elem? s.homes (i + j) ≡ some (some y)
      → body_word (slot_bytes m.message) (8 * j) ≡ y = λ j y less e.
      let long : length p.owned.1.message.body ≡ n = ap (λ (z : PlacedMessage). length z.message.body) p.is in
      let place : p.owned.1.place ≡ m.place = ap (λ (z : PlacedMessage). z.place) p.is in
      ap (λ (z : PlacedMessage). body_word (slot_bytes z.message) (8 * j)) (sym p.is)
      ∙ sym (r.1.exact p.owned.1 of (reads_from C start s.words s.homes s.views r.0 r.1 p.owned.1.place
      (let from = l.body.from in omega arith)) (8 * j) y (omega arith) (omega arith)
      (ap (get_elem? s.homes) (ap (λ q. index C (q + 8 * j)) place
      ∙ body_index C r.0.consumer.head m.place n j l.body less) ∙ e)) in
      let ys = gathered s.homes i (words_of (8 + n)) home in
      let long_it = length_slot m.message in
      let w : View = with_out (m ∷ []) v in
      let body : HasBody i (slot_bytes m.message) (carried_after me.1 (takes_from i ys.0)) =
      has_body C i (slot_bytes m.message) ys.0 s.homes me.1 empty (ys.1 ∙ ap words_of (sym long_it))
      (λ j y less e. right j y (subst (λ z. j < words_of z) long_it less) (ys.2 j y e)) in (
        w,
        takes_from i ys.0,
        valid_takes s.homes me.1 i ys.0 ys.2,
        (
          loaded s i (set s.views id w) (outed elsewhere C start s.words s.views r.0 id v at (m ∷ []) v.log),
          takes_shelf C start s.words s.homes s.views r.0 r.1 id v w at refl refl m me.1 ys.0 (record {
            was = none;
            now = refl;
            kind = inr (record { consumes = consumes; front = front; got = got; ahead = ahead });
            claims = λ k' c' has' stored. inr has';
          }) l.body ys.1,
        ),
        λ front' m' got'.
            let same = one_end front front' m m' (sym got ∙ got') in (
              (λ x. with_out (same.1 x ∷ []) v),
              subst (λ (z : PlacedMessage). HasBody i (slot_bytes z.message) (carried_after me.1
                  (takes_from i ys.0))) same.1 body,
            ),
      )

  -- the load is of the word at the claim's place
  pub reserves_at : (slots id : ℕ) (me : Mine) → me.0.capacity ≡ C → me.0.out ≡ [] → me.1 ≡ [] → (k : ℕ)
      (c : StagedClaim) → HasClaim me.0 k c → c.stage ≡ Padded
      → Allows (Holds elsewhere C start) slots id me (index C c.place) (λ n. n)
      (λ n me'. ReservesAt (index C c.place) me me' × AreRising me.0.producer.claims)
  reserves_at slots id me cap none empty k c has is s r wide at small =
      let v : View = me.0 in
      let un : IsSettled c.stage → ⊥ = λ z. subst IsSettled is z in
      let l = own_lies C start s.words s.homes s.views r.0 r.1 id v k c at has un in
      let alone = none_at_own C start s.words s.homes s.views r.0 r.1 id v k c at none has un in
      let n : ℕ = length c.message.body in
      let i : ℕ = index C c.place in
      let ys = gathered s.homes i (words_of (8 + n))
      (all_home C start s.words s.homes s.views r.0 r.1 c.place n l alone) in
      let m : PlacedMessage = placed_message c in
      let w : View = with_out (m ∷ []) v in (
        w,
        takes_from i ys.0,
        valid_takes s.homes me.1 i ys.0 ys.2,
        (
          loaded s i (set s.views id w) (outed elsewhere C start s.words s.views r.0 id v at (m ∷ []) v.log),
          takes_shelf C start s.words s.homes s.views r.0 r.1 id v w at refl refl m me.1 ys.0 (record {
            was = none;
            now = refl;
            kind = inl (record { nth = k; claim = c; there = has; unsettled = un; place = refl; long = refl });
            claims = λ k' c' has' stored. inr has';
          }) l.body ys.1,
        ),
        (
          λ k' c' has' is' same.
              let one : c ≡ c' = own_claim s r.0 id v at cap k c has un k' c' has' (λ z. subst IsSettled is' z) same in (
                (λ x. with_out (placed_message (one x) ∷ []) v),
                has_slots i (words_of (8 + length c'.message.body)) ys.0 me.1 empty
                    (ys.1 ∙ ap (λ (z : StagedClaim). words_of (8 + length z.message.body)) one),
              ),
          rising elsewhere C start s.words s.views r.0 id v at,
        ),
      )
