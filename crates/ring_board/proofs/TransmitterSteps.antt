-- Each step of the transmitter keeps the rule.
use Rattle.std.proofs.Common.{◌≡◌, ℕ, ◌+◌, ◌-◌, ◌*◌, ◌/◌, ◌<◌, ◌≤◌, [], ◌∷◌, length, refl, sym, ap, ◌∙◌, subst, arith}
use Rattle.atomic_table.specs.Table.{keeps, Allows}
use Rattle.ring_layout.specs.{declared.message.Message.Message, Places.index, Places.max_position}
use Rattle.ring_layout.specs.{History.IsMessage, History.span, Headers.padding_header}
use Rattle.ring_board.specs.declared.shared.view.{Record.Record, Draft.Draft, View.View, Stage.Stage}
use Rattle.ring_board.specs.declared.shared.view.Stage.TheVariants.{Idle, Begun, Storing, Written, Shown}
use Rattle.ring_board.specs.Records.{end, Lies, end_of, filled, words_of_body, header_of}
use Rattle.ring_board.{specs.Rule.Holds, specs.Views.Sat, specs.Views.at_stage, proofs.SeatLemmas.owner}
use Rattle.ring_board.specs.TransmitterSteps.{sent_on, place_before, after_intent, with_words, after_padding, after_words, with_entry, after_header, after_latest, after_tail, StoresIntent, StoresPadding, StoresWord, StoresHeader, StoresLatest, StoresTail}
use Rattle.ring_board.proofs.TransmitLemmas.{moved, padding_stored, word_stored, header_stored, intent_stored, latest_stored, tail_stored, written_as}

module _ (C e : ℕ) where
  module _ (slots id : ℕ) (me : Sat) (i x : ℕ) where
    pub stores_intent : me.0.stage ≡ Idle → i ≡ C / 8 → x ≤ max_position
        → Lies C me.0.at me.0.at (place_before C me.0.at x) x
        → Allows (Holds C e) slots id me i (λ _. x) (λ _. StoresIntent me x)
    stores_intent eq is low l s b _ at _ = let h = owner C e s b id me.0 Idle (λ by mine k. k) at eq in
        let l' : Lies C (end_of e me.0.sent) me.0.at (place_before me.0.capacity me.0.at x) x = subst
        (λ (q : ℕ × ℕ). Lies C q.0 me.0.at (place_before q.1 me.0.at x) x)
        (λ k. (h.seated.behind k, sym h.seated.capacity k)) l in (
          after_intent me.0 x,
          keeps,
          tt,
          moved C e s id me.1 i (C / 8 + 0) x x (after_intent me.0 x) (after_intent me.0 x)
              (let g : i ≡ C / 8 + 0 = omega arith in
              g) refl refl (intent_stored C e s id me.0 h x eq low l'),
          refl,
        )

    pub stores_padding : (d : Draft) → me.0.stage ≡ Begun d → i ≡ index C d.before
        → x ≡ padding_header (d.place - d.before)
        → Allows (Holds C e) slots id me i (λ _. x) (λ _. StoresPadding me x)
    stores_padding d eq is num s b _ at _ = let h = owner C e s b id me.0 (Begun d) (λ by mine k. k) at eq in
        let w : View = at_stage me.0 (after_padding me.0.stage) in (
          w,
          keeps,
          tt,
          moved C e s id me.1 i (index C d.before) x (padding_header (d.place - d.before)) w
              (at_stage me.0 (Storing d)) is num
              (ap (λ (u : Stage). at_stage me.0 (after_padding u)) eq) (padding_stored C e s id me.0 h d eq),
          refl,
        )

    pub stores_word : (d : Draft) → me.0.stage ≡ Storing d → i ≡ index C (d.place + 8 + 8 * length d.words)
        → d.place + 8 + 8 * length d.words < d.end
        → Allows (Holds C e) slots id me i (λ _. x) (λ _. StoresWord me x)
    stores_word d eq is room s b _ at _ = let h = owner C e s b id me.0 (Storing d) (λ by mine k. k) at eq in
        let w : View = at_stage me.0 (after_words me.0.stage (x ∷ [])) in (
          w,
          keeps,
          tt,
          moved C e s id me.1 i (index C (d.place + 8 + 8 * length d.words)) x x w
              (at_stage me.0 (Storing (with_words d (x ∷ [])))) is refl
              (ap (λ (u : Stage). at_stage me.0 (after_words u (x ∷ []))) eq) (word_stored C e s id me.0 h d eq x room),
          refl,
        )

    pub stores_header : (d : Draft) (m : Message) → me.0.stage ≡ Storing d → i ≡ index C d.place → IsMessage C m
        → (words_of_body m.body ≡ d.words) × (d.place + span (length m.body) ≡ d.end) → x ≡ header_of m
        → Allows (Holds C e) slots id me i (λ _. x) (λ _. StoresHeader me x)
    stores_header d m eq is lawful filled num s b _ at _ =
        let words = filled.0 in
        let full = filled.1 in
        let h = owner C e s b id me.0 (Storing d) (λ by mine k. k) at eq in
        let w : View = at_stage me.0 (after_header me.0.stage x) in
        let held : with_entry d x ≡ record { before = d.before; place = d.place; message = m } =
        written_as C d m x h.lawful.narrow lawful words num in (
          w,
          keeps,
          tt,
          moved C e s id me.1 i (index C d.place) x (header_of m) w
              (at_stage me.0 (Written (record { before = d.before; place = d.place; message = m }))) is num
              (ap (λ (u : Stage). at_stage me.0 (after_header u x)) eq
              ∙ ap (λ (r : Record). at_stage me.0 (Written r)) held)
              (header_stored C e s id me.0 h d eq m lawful words full),
          refl,
        )

    pub stores_latest : (r : Record) → me.0.stage ≡ Written r → i ≡ C / 8 + 2 → x ≡ r.place
        → Allows (Holds C e) slots id me i (λ _. x) (λ _. StoresLatest me x)
    stores_latest r eq is num s b _ at _ = let h = owner C e s b id me.0 (Written r) (λ by mine k. k) at eq in
        let w : View = at_stage me.0 (after_latest me.0.stage) in (
          w,
          keeps,
          tt,
          moved C e s id me.1 i (C / 8 + 2) x r.place w (at_stage me.0 (Shown r)) is num
              (ap (λ (u : Stage). at_stage me.0 (after_latest u)) eq)
              (latest_stored C e s id me.0 h r eq),
          refl,
        )

    pub stores_tail : (r : Record) → me.0.stage ≡ Shown r → i ≡ C / 8 + 1 → x ≡ end r
        → Allows (Holds C e) slots id me i (λ _. x) (λ _. StoresTail me x)
    stores_tail r eq is num s b _ at _ =
        let h = owner C e s b id me.0 (Shown r) (λ by mine k. k) at eq in let w : View = after_tail me.0 me.0.stage in (
          w,
          keeps,
          tt,
          moved C e s id me.1 i (C / 8 + 1) x (end r) w (sent_on me.0 r) is num (ap (after_tail me.0) eq)
              (tail_stored C e s id me.0 h r eq),
          refl,
        )
