-- The marks of claims are stored that have no slots out.
use Rattle.std.proofs.Common.{◌≡◌, ℕ, ◌+◌, ◌-◌, ◌%◌, ◌^◌, ◌≤◌, ◌<◌, [], sym, refl, ap, subst, length, arith}
use Rattle.atomic_table.specs.Table.{Allows}
use Rattle.ring_layout.specs.declared.message.ClaimState.{ClaimState, TheVariants.Open}
use Rattle.ring_layout.specs.{Headers.header_of, History.span, Places.index}
use Rattle.ring_table.specs.Staged.{elsewhere, StagedClaim, Moved, Padded, Stored, IsStored, AreRising, padding_word}
use Rattle.ring_table.specs.{Changes.staged, Passing.IsSettled, Views.View}
use Rattle.ring_table.specs.ProducerSteps.{Mine, HasClaim, StoresPadding, StoresSettled}
use Rattle.ring_table.proofs.{LoadLemmas.stands, CarryLemmas.lift, CarryLemmas.carries_changed, CarryLemmas.one_claim}
use Rattle.ring_table.proofs.{StoreLemmas.pads, StoreLemmas.settles, SlotCalls.lies_ahead, SlotCalls.padding_ahead}
use Rattle.ring_table.proofs.{ShelfLemmas.CarriesOn, MarkSteps.Marked, MarkSteps.lift_mark, MarkSteps.rests_as}
use Rattle.ring_table.proofs.MarkWords.{Shows, shows_claim, state_kind, few_kinds}

module _ (C start : ℕ) where
  -- an open claim gets the state u
  pub settled_mark : (u : ClaimState) (slots id : ℕ) (me : Mine) → me.0.capacity ≡ C → me.0.out ≡ [] → (k : ℕ)
      (c : StagedClaim) (mark : ℕ) → HasClaim me.0 k c → c.stage ≡ Stored Open → C ≤ 2 ^ 24
      → mark ≡ (c.place + (span (length c.message.body) + state_kind u)) % 2 ^ 64
      → Allows (Marked C start) slots id me (index C c.place) (λ _. mark)
      (λ _ me'. (me'.1 ≡ me.1) × StoresSettled u (index C c.place) me.0 me'.0 × AreRising me.0.producer.claims)
  settled_mark u slots id me cap none k c mark has is most mark_is s m wide at small =
      let v : View = me.0 in
      let st = stands elsewhere C start m.headers s.views m.kept id v k c
      (record { seat = at; claim = has; unsettled = λ z. subst IsSettled is z }) in
      let h : ℕ = header_of (record { message = c.message; state = u }) in
      let shows : Shows h (span (length c.message.body)) (state_kind u) = shows_claim C c.message u most st.lies.message in
      let few = few_kinds u in
      lift_mark C start slots id me c.place h mark
      (λ me'. (me'.1 ≡ me.1) × StoresSettled u (index C c.place) me.0 me'.0 × AreRising me.0.producer.claims)
      (lies_ahead C start id v k c has (λ z. subst IsSettled is z) (span (length c.message.body)) (state_kind u) mark h shows
      (omega arith) refl mark_is)
      shows.some
      (λ me' t. rests_as (t.1 k c has is (ap (λ z. index z c.place) cap)) refl refl)
      (lift elsewhere C start slots id me (index C c.place) (λ _. h)
      (λ _ me'. (me'.1 ≡ me.1) × StoresSettled u (index C c.place) me.0 me'.0 × AreRising me.0.producer.claims) none
      (λ _ me' t _ _ _.
      let told = t.1 k c has is (ap (λ z. index z c.place) cap) in (
        t.0,
        ap (λ (z : View). z.out) told,
        subst (CarriesOn v) (sym told) (carries_changed v c.place (staged (Stored u)) (λ j d has' here _.
            let one : c ≡ d = one_claim v.producer.claims k j c d t.2 has has' (sym here) in record {
              stored = subst (λ (z : StagedClaim). IsStored z.stage) one (subst IsStored (sym is) tt);
              place = refl;
              message = refl;
            })),
      ))
      (settles elsewhere C start u slots id me cap k c h has is refl)) s m wide at small

  -- padding
  pub padding_stored : (slots id : ℕ) (me : Mine) → me.0.capacity ≡ C → me.0.out ≡ [] → (k : ℕ) (c : StagedClaim)
      (mark : ℕ) → HasClaim me.0 k c → c.stage ≡ Moved → c.from < c.place → mark ≡ (c.place + 1) % 2 ^ 64
      → Allows (Marked C start) slots id me (index C c.from) (λ _. mark)
      (λ _ me'. (me'.1 ≡ me.1) × StoresPadding (index C c.from) me.0 me'.0 × AreRising me.0.producer.claims)
  padding_stored slots id me cap none k c mark has is wraps mark_is =
      let v : View = me.0 in
      let n : ℕ = c.place - c.from in
      lift_mark C start slots id me c.from (padding_word elsewhere n) mark
      (λ me'. (me'.1 ≡ me.1) × StoresPadding (index C c.from) me.0 me'.0 × AreRising me.0.producer.claims)
      (padding_ahead C start id v k c has is wraps mark mark_is)
      (λ e. omega arith)
      (λ me' t. rests_as (t.1 k c has is (ap (λ z. index z c.from) cap)) refl refl)
      (lift elsewhere C start slots id me (index C c.from) (λ _. padding_word elsewhere n)
      (λ _ me'. (me'.1 ≡ me.1) × StoresPadding (index C c.from) me.0 me'.0 × AreRising me.0.producer.claims) none
      (λ _ me' t _ _ _.
      let told = t.1 k c has is (ap (λ z. index z c.from) cap) in (
        t.0,
        ap (λ (z : View). z.out) told,
        subst (CarriesOn v) (sym told) (carries_changed v c.place (staged Padded) (λ _ _ _ _ stored. absurd stored)),
      ))
      (pads elsewhere C start slots id me cap k c (padding_word elsewhere n) has is wraps refl))
