-- A message that a turn of a read finds and shows.
use Rattle.std.proofs.Common.{◌≡◌, ℕ, ℤ, pos, ◌+◌, ◌/◌, ◌≤◌, ◌^◌, List, [], ◌∷◌, ◌++◌, length, Bool, FitsSigned, ap, sym, ◌∙◌, subst, arith, w32, append_assoc}
use Rattle.std.{specs.Int.cast_signed, specs.Int.cast_unsigned, proofs.lemmas.Int.to_z-of_z}
use Rattle.ring_layout.specs.{History.span, Headers.header, Places.index, declared.message.Message.Message}
use Rattle.ring_words.specs.{Controlled.heard, Controlled.heeded, declared.read.action.Action.Action}
use Rattle.ring_table.specs.declared.{claim.PlacedMessage.PlacedMessage, view.Run.Run, view.View.View}
use Rattle.ring_table.specs.Views.{scanned, with_consumer, with_run}
use Rattle.ring_rings.specs.Reading.{body_loads, record_loads}
use Rattle.ring_rings.specs.ReadingSteps.{FindsOne, HasBodyAt, HasComeNear, HasGotLast, HasLastAt, IsPassed, LoadsWholeBody, ShowsOne}

module _ (v : View) (run : Run) {C scan : ℕ} {got : List PlacedMessage} {w : View} {type_id : ℤ} {len : ℕ}
    (f : FindsOne C scan got (with_run run v) type_id len w) where
  -- it is the last one that the read has got
  pub found_last : HasGotLast f.message w
  found_last = (got, ap (λ (z : View). z.consumer.got) f.view, f.lawful.bytes)

  -- its type id, as the code passes it on
  pub found_type : f.message.message.type_id ≡ cast_signed w32 (cast_unsigned w32 type_id)
  found_type = f.type_is ∙ sym (to_z-of_z w32 type_id (subst (FitsSigned w32) f.type_is f.lawful.type_fits))

  pub found_here : HasLastAt scan len w
  found_here = record { message = f.message; got = found_last; at = f.place; len_is = f.len_is }

  pub found_body : HasComeNear C scan v → HasBodyAt C w.consumer.head scan len
  found_body near =
      let heads = ap (λ (z : View). z.consumer.head) f.view in
      let short = f.lawful.short in
      let inside = f.passed.inside.within in
      let few = f.len_is in
      let on = near.on in
      record { on = omega arith; limit = near.limit; few = omega arith; inside = omega arith }

  pub found_few : C ≤ 2 ^ 24 → len ≤ 18446744073709551600
  found_few most =
      let short = f.lawful.short in
      let few = f.len_is in
      omega arith

  -- the run of the read is as it was found
  pub shown_run : (x : View) → LoadsWholeBody C f.message w x → x.consumer.run ≡ run
  shown_run x loads = ap (λ (z : View). z.consumer.run) loads ∙ ap (λ (z : View). z.consumer.run) f.view

  pub shows_one : {S : Type 0} (step : S → Message → S → Action → Type 0) (heeds : Bool) (s t : S) (a b : Action) (n : ℕ)
      (x : View) → LoadsWholeBody C f.message w x → step s f.message.message t b → a ≡ heard heeds b → n ≡ span len
      → ShowsOne (heeded heeds step) C scan got (with_run x.consumer.run v) s n a x t
  shows_one step heeds s t a b n x loads shown heard_is bytes =
      let m : PlacedMessage = f.message in
      let size : n ≡ span (length m.message.body) = bytes ∙ ap span (sym f.len_is) in
      let u : View = with_run run v in
      let head : ℕ × ℕ = (index C scan, header (pos (8 + len)) type_id) in
      let loaded : ℕ × ℕ = (index C m.place, header (pos (8 + length m.message.body)) m.message.type_id) in
      let same : head ≡ loaded = λ k. (index C (sym f.place k), header (pos (8 + sym f.len_is k)) (sym f.type_is k)) in
      let count : ℕ = (length m.message.body + 7) / 8 in
      let view : x ≡ with_consumer (scanned (scan + n) (got ++ m ∷ []) u.consumer) (record u { log = u.log ++ record_loads C m }) =
      loads ∙ ap (λ (z : View). record z { log = z.log ++ body_loads C m count }) f.view
      ∙ (λ k. with_consumer (scanned (scan + sym bytes k) (got ++ m ∷ []) u.consumer)
      (record u { log = append_assoc u.log (same k ∷ []) (body_loads C m count) k })) in
      subst (λ z. ShowsOne (heeded heeds step) C scan got (with_run z v) s n a x t) (sym (shown_run x loads)) (record {
        message = m;
        place = f.place;
        shown = (b, shown, heard_is);
        lawful = f.lawful;
        bytes = size;
        passed = subst (λ z. IsPassed C scan z) (sym bytes) f.passed;
        view = view;
      })
