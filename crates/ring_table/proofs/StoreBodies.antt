-- The steps that change the body of an own open claim keep the rule: a word of it is stored, or it lies in slots.
use Rattle.ring_table.specs.{Staged.in_words, Staged.elsewhere, Owners.all_of, Passing.IsSettled}
use Rattle.std.proofs.Common.{◌≡◌, ℕ, ◌+◌, ◌^◌, ◌<◌, List, cond, slice_index, sym, refl, ap, ◌∙◌, subst, inl, length, le-ltb, arith, All}
use Rattle.atomic_table.specs.Table.{keeps, stepped, Allows}
use Rattle.ring_layout.specs.{declared.message.ClaimState.TheVariants.Open, History.span, Headers.header_of}
use Rattle.ring_layout.specs.Places.{index}
use Rattle.ring_table.specs.Staged.{StagedClaim, Stored, claim_of, masked_record, staged_word_at, AreRising, IsStored}
use Rattle.ring_table.specs.{Changes.with_body, Changes.with_body_word, Changes.changed, Views.View, Views.with_claims}
use Rattle.ring_table.specs.ProducerSteps.{Mine, HasClaim, Changes, StoresBody, IsWordOfBody}
use Rattle.ring_table.proofs.{StagedPlaces.word_of_claim, LoadLemmas.HasUnsettled, LoadLemmas.Ok, LoadLemmas.stands}
use Rattle.ring_table.proofs.BodyWords.{length-with_word, body_word-with_word, bytes_of-with_word}
use Rattle.ring_table.proofs.StagedWords.{header_of-with_body, staged_word-header, staged_word-with_body, staged_word-in_words, staged_word-written}
use Rattle.ring_table.proofs.StoreLemmas.{IsWordOf, edits, header_step, rising, same_place}

-- where bodies lie elsewhere, an own open claim may have another body of the same length, since no word shows it. The
-- step loads the claim's header
module _ (C start : ℕ) where
  pub gives_body : (slots id : ℕ) (me : Mine) → me.0.capacity ≡ C → (k : ℕ) (c : StagedClaim) (body : List ℕ)
      → HasClaim me.0 k c → c.stage ≡ Stored Open → length body ≡ length c.message.body → All (λ b. b < 256) body
      → Allows (Ok elsewhere C start) slots id me (index C c.place) (λ n. n)
      (λ _ me'. (me'.1 ≡ me.1)
      × Changes (Stored Open) (λ d. d.place) (with_body body) (index C c.place) me.0 me'.0
      × AreRising me.0.producer.claims)
  gives_body slots id me cap k c body has is long bytes s r wide at small =
      let v : View = me.0 in
      let mine : HasUnsettled elsewhere C start s.views id v k c =
      record { seat = at; claim = has; unsettled = λ z. subst IsSettled is z } in
      let st = stands elsewhere C start s.words s.views r id v k c mine in
      let m = r.memory in
      let place8 = st.place_aligned in
      let from = m.clears_from in
      let p : ℕ = c.place in
      let value : ℕ = header_of (claim_of c) in
      let found : slice_index s.words (index C p) ≡ value =
      m.shows p place8 (omega arith) (omega arith)
      ∙ ap (λ t. cond t 0 (staged_word_at elsewhere (all_of r.hist) p)) (le-ltb p r.consumer.cleared (omega arith))
      ∙ word_of_claim elsewhere C start r.hist st.nth (id, c) p m.placed st.there (omega arith) (omega arith)
      ∙ staged_word-header elsewhere c p refl
      ∙ ap (λ t. masked_record t value) is in
      let t = header_step elsewhere C start (Stored Open) (λ z. z) (with_body body) slots id me cap k c value has is
      (λ p8. record {
        may = record {
          from = refl;
          place = refl;
          same_span = ap span long;
          message = λ l. record {
            type_id = l.type_id;
            type_fits = l.type_fits;
            short = (omega arith);
            bytes = bytes;
          };
        };
        goes = λ stays. stays;
        word = staged_word-header elsewhere (with_body body c) p refl
            ∙ ap (masked_record c.stage) (header_of-with_body c body long) ∙ ap (λ t. masked_record t value) is;
        others = λ q q8 ne. staged_word-with_body c body q q8 p8 ne;
      }) s r wide at small in (
        t.0,
        t.1,
        t.2,
        subst (λ (n : ℕ). Ok elsewhere C start (stepped s (index C p) n id me.1 t.0 t.1)) (sym found) t.3,
        t.4,
      )

module _ (C start : ℕ) where
  pub puts : (slots id : ℕ) (me : Mine) → me.0.capacity ≡ C → (k : ℕ) (c : StagedClaim) (o value : ℕ)
      → HasClaim me.0 k c → IsWordOfBody o value c → value < 2 ^ 64
      → Allows (Ok in_words C start) slots id me (index C (c.place + 8 + o)) (λ _. value)
      (λ _ me'. (me'.1 ≡ me.1) × StoresBody (index C (c.place + 8 + o)) value me.0 me'.0
      × AreRising me.0.producer.claims)
  puts slots id me cap k c o value has takes below_64 s r wide at small =
      let v : View = me.0 in
      let mine : HasUnsettled in_words C start s.views id v k c =
      record { seat = at; claim = has; unsettled = λ z. subst IsSettled takes.stage z } in
      let st = stands in_words C start s.words s.views r id v k c mine in
      let padded = st.lies.padded in
      let place8 = st.place_aligned in
      let q : ℕ = c.place + 8 + o in
      let n : ℕ = length c.message.body in
      let o8 = takes.aligned in
      let lt : o < n = takes.inside in
      let long = length-with_word o value c.message.body (omega arith) in
      let word : IsWordOf c q =
      record { whole = omega arith; from = omega arith; below = omega arith; late = inl (omega arith) } in (
        with_claims (changed c.place (with_body_word o value) v.producer.claims) v,
        keeps,
        tt,
        edits in_words C start s.words s.views r id v k c mine (with_body_word o value) q value word (record {
          may = record {
            from = refl;
            place = refl;
            same_span = ap span long;
            message = λ m. record {
              type_id = m.type_id;
              type_fits = m.type_fits;
              short = (omega arith);
              bytes = bytes_of-with_word c.message.body o value m.bytes;
            };
          };
          goes = λ stays. stays;
          word = staged_word-in_words (with_body_word o value c) q o (subst IsStored (sym takes.stage) tt) refl
              ∙ body_word-with_word c.message.body o value lt below_64 takes.zeros;
          others = λ p p8 ne. staged_word-written in_words c o value p (omega arith) place8 o8 p8 ne;
        }),
        (
          refl,
          (λ k' c' o' has' is' o8' lt' same.
              let other : HasUnsettled in_words C start s.views id v k' c' =
              record { seat = at; claim = has'; unsettled = λ z. subst IsSettled is' z } in
              let st' = stands in_words C start s.words s.views r id v k' c' other in
              let n' : ℕ = length c'.message.body in
              let q' : ℕ = c'.place + 8 + o' in
              let one = same_place in_words C start s.words s.views r id v k k' c c' mine other q q' word
              (record { whole = omega arith; from = omega arith; below = omega arith; late = inl (omega arith) })
              (ap (λ z. index z q') (sym cap) ∙ same) in
              let places : c'.place ≡ c.place = one.0 in
              let offsets : o ≡ o' = omega arith in
              λ i. with_claims (changed (sym places i) (with_body_word (offsets i) value) v.producer.claims) v),
          rising in_words C start s.words s.views r id v at,
        ),
      )
