-- Each step of a receiver keeps the rule.
use Rattle.std.proofs.Common.{◌≡◌, ℕ, ◌+◌, ◌*◌, ◌<◌, List, [], ◌∷◌, ◌++◌, length, get_or, refl, sym, ap, ◌∙◌, subst, ⊎_elim, arith}
use Rattle.std.proofs.Math.{Option.some, ListN.get_elem?}
use Rattle.atomic_table.specs.Table.{keeps, stepped, Allows}
use Rattle.ring_layout.specs.Places.{index}
use Rattle.ring_board.specs.declared.shared.view.{View.View, Stage.Stage}
use Rattle.ring_board.specs.declared.shared.view.Stage.TheVariants.{Resting, Sure, Headed, Padded, Again, Reading, Behind}
use Rattle.ring_board.specs.{Layout.intent_index, Layout.tail_index, Layout.latest_index, Views.Sat, Views.word_load}
use Rattle.ring_board.specs.Records.{end_of, word_count, announced, body_len}
use Rattle.ring_board.specs.Rule.{intent, Knows, Holds}
use Rattle.ring_board.specs.ReceiverSteps.{tail_loaded, LoadsTail, header_loaded, LoadsHeader, read_on, word_loaded, LoadsWord, IsSound, IsHeaderPlace, IsComplete, validated, IsUnread, LoadsIntent, header_seen, answered, AnswersEntry, latest_loaded, LoadsLatest}
use Rattle.ring_board.proofs.{SeatLemmas.St, ShownLemmas.intent_after}
use Rattle.ring_board.proofs.LookLemmas.{knows, tail_keeps, header_keeps, header_behind_keeps, word_keeps}
use Rattle.ring_board.proofs.ValidateLemmas.{header_intent_keeps, behind_intent_keeps, entry_keeps, copy_intent_keeps, sound_now, latest_keeps}

module _ (C e slots id : ℕ) (me : Sat) (i : ℕ) where
  -- a load of the word i keeps the rule, and says this
  abbrev MayLoad : (Sat → ℕ → Sat → Type 0) → Type 0
  MayLoad Tells = Allows (Holds C e) slots id me i (λ y. y) (Tells me)

  -- it is the word that the log names
  abbrev MayLoadAt : (ℕ → ℕ) → (Sat → ℕ → Sat → Type 0) → Type 0
  MayLoadAt word Tells = MayLoad (λ m x m'. Tells m x m' × (i ≡ word m.0.capacity))

  abbrev Kept : St → View → Type 0
  Kept s u = Holds C e (stepped s i (get_or s.words i 0) id me.1 u keeps)

  retarget : (s : St) (u w : View) → w ≡ u → Kept s u → Kept s w
  retarget s u w is b = subst (Kept s) (sym is) b

  -- the index of a counter's word, by the capacity that the seat knows
  named : (word : ℕ → ℕ) → me.0.capacity ≡ C → i ≡ word C → i ≡ word me.0.capacity
  named word size is = is ∙ sym (ap word size)

  pub loads_tail : me.0.stage ≡ Resting → i ≡ tail_index C → MayLoadAt tail_index LoadsTail
  loads_tail eq is s b _ at _ = let h = b.2 in let x : ℕ = get_or s.words i 0 in
      let found : x ≡ end_of e b.1.sent = ap (λ (j : ℕ). get_or s.words j 0) is ∙ h.memory.tail_is in
      let le = intent_after C e h.lawful.roomy h.lawful.whole s.words b.1.sent b.1.stage h.memory.running in let low =
      h.memory.low in
      let size = (knows C e s b.0 b.1 h id me.0 at Resting eq).0 in (
        tail_loaded me.0 x,
        keeps,
        tt,
        tail_keeps C e s b.0 b.1 h id me.0 at eq x i me.1 found,
        ((refl, omega arith), named tail_index size is),
      )

  header_there : me.0.stage ≡ Sure → i ≡ index C me.0.at → MayLoad (LoadsHeader i)
  header_there eq is s b _ at _ = let x : ℕ = get_or s.words i 0 in (
    header_loaded me.0 i me.0.stage x,
    keeps,
    tt,
    retarget s (header_loaded me.0 i Sure x) (header_loaded me.0 i me.0.stage x)
        (ap (λ (st : Stage). header_loaded me.0 i st x) eq)
        (header_keeps C e s b.0 b.1 b.2 id me.0 at eq x i me.1 is refl),
    refl,
  )

  header_behind : (w : ℕ) → me.0.stage ≡ Padded w → i ≡ index C (me.0.at + announced w) → MayLoad (LoadsHeader i)
  header_behind w eq is s b _ at _ = let x : ℕ = get_or s.words i 0 in (
    header_loaded me.0 i me.0.stage x,
    keeps,
    tt,
    retarget s (header_loaded me.0 i (Padded w) x) (header_loaded me.0 i me.0.stage x)
        (ap (λ (st : Stage). header_loaded me.0 i st x) eq)
        (header_behind_keeps C e s b.0 b.1 b.2 id me.0 at w eq x i me.1 is refl),
    refl,
  )

  pub loads_header : (p : ℕ) → IsHeaderPlace me.0 p → i ≡ index C p → MayLoad (LoadsHeader i)
  loads_header p place is = ⊎_elim (λ t. header_there t.0 (is ∙ ap (index C) t.1))
      (λ t. header_behind t.0 t.1 (is ∙ ap (index C) t.2)) place

  pub loads_word : (w : ℕ) (ws : List ℕ) → me.0.stage ≡ Reading w ws → length ws < word_count (body_len w)
      → i ≡ index C (me.0.at + 8 + 8 * length ws) → MayLoad (LoadsWord i)
  loads_word w ws eq more is s b _ at _ = let x : ℕ = get_or s.words i 0 in let u : View = word_loaded me.0 i x in (
    u,
    keeps,
    tt,
    retarget s (record me.0 { stage = Reading w (ws ++ x ∷ []); log = me.0.log ++ word_load me.0 i x ∷ [] }) u
        (ap (λ (st : Stage). record me.0 { stage = read_on st x; log = me.0.log ++ word_load me.0 i x ∷ [] }) eq)
        (word_keeps C e s b.0 b.1 b.2 id me.0 at w ws eq more x i me.1 is refl),
    refl,
  )

  intent_found : (s : St) (b : Holds C e s) → i ≡ intent_index C → get_or s.words i 0 ≡ intent e b.1.sent b.1.stage
  intent_found s b is = ap (λ (j : ℕ). get_or s.words j 0) is ∙ b.2.memory.intent_is

  -- a load of the intent, if the rule holds of the seat once it is validated
  checks : i ≡ intent_index C → (st : Stage) → me.0.stage ≡ st
      → ((by : ℕ) (mine : View) → Knows C e by mine id me.0 st → me.0.capacity ≡ C)
      → ((s : St) (b : Holds C e s) → get_elem? s.views id ≡ some me.0
      → get_or s.words i 0 ≡ intent e b.1.sent b.1.stage
      → Kept s (validated me.0 (get_or s.words i 0))) → MayLoadAt intent_index LoadsIntent
  checks is st eq sized kept s b _ at _ = let x : ℕ = get_or s.words i 0 in let f = intent_found s b is in
      let size = sized b.0 b.1 (knows C e s b.0 b.1 b.2 id me.0 at st eq) in (
        validated me.0 x,
        keeps,
        tt,
        kept s b at f,
        (
          (refl, λ lt. sound_now C e s b.0 b.1 b.2 id me.0 at x f lt me.0.stage (b.2.seated.each id me.0 at).knows),
          named intent_index size is,
        ),
      )

  checks_header : (w : ℕ) → me.0.stage ≡ Headed w → i ≡ intent_index C → MayLoadAt intent_index LoadsIntent
  checks_header w eq is = checks is (Headed w) eq (λ by mine k. k.0)
      (λ s b at. header_intent_keeps C e s b.0 b.1 b.2 id me.0 at w eq (get_or s.words i 0) i me.1)

  -- the header of an entry, at the place or after padding
  checks_entry : (w : ℕ) → IsUnread w me.0.stage → i ≡ intent_index C → MayLoadAt intent_index LoadsIntent
  checks_entry w un is = ⊎_elim (λ t. checks_header w t.0 is) (λ t. checks is (Again w) t (λ by mine k. k.0)
      (λ s b at. behind_intent_keeps C e s b.0 b.1 b.2 id me.0 at w t (get_or s.words i 0) i me.1)) un

  checks_copy : (w : ℕ) (ws : List ℕ) → me.0.stage ≡ Reading w ws → length ws ≡ word_count (body_len w)
      → i ≡ intent_index C
      → MayLoadAt intent_index LoadsIntent
  checks_copy w ws eq long is = checks is (Reading w ws) eq (λ by mine k. k.0)
      (λ s b at. copy_intent_keeps C e s b.0 b.1 b.2 id me.0 at w ws eq long (get_or s.words i 0) i me.1)

  pub loads_intent : IsComplete me.0.stage → i ≡ intent_index C → MayLoadAt intent_index LoadsIntent
  loads_intent loaded is = ⊎_elim (λ t. checks_header t.0 t.1 is)
      (λ r. ⊎_elim (λ t. checks_entry t.0 t.1 is) (λ t. checks_copy t.0 t.1 t.2 t.3 is) r) loaded

  pub answers_entry : (w : ℕ) → IsUnread w me.0.stage → i ≡ intent_index C → MayLoadAt intent_index AnswersEntry
  answers_entry w un is s b _ at _ = let x : ℕ = get_or s.words i 0 in let f = intent_found s b is in
      let seen : header_seen me.0.stage ≡ w = ⊎_elim (λ t. ap header_seen t.0) (λ t. ap header_seen t) un in
      let size : me.0.capacity ≡ C = ⊎_elim (λ t. (knows C e s b.0 b.1 b.2 id me.0 at (Headed w) t.0).0)
      (λ t. (knows C e s b.0 b.1 b.2 id me.0 at (Again w) t).0) un in
      let a = entry_keeps C e s b.0 b.1 b.2 id me.0 at w un x i me.1 f in (
        answered me.0 w a.0 x,
        keeps,
        tt,
        a.1,
        (
          (
            a.0,
            ap (λ (y : ℕ). (answered me.0 y a.0 x, me.1)) (sym seen),
            subst (λ (y : ℕ). x < me.0.at + me.0.capacity → (length a.0 ≡ body_len y) × IsSound me.0.capacity me.0.at y)
                (sym seen) a.2,
          ),
          named intent_index size is,
        ),
      )

  pub loads_latest : me.0.stage ≡ Behind → i ≡ latest_index C → MayLoadAt latest_index LoadsLatest
  loads_latest eq is s b _ at _ = let x : ℕ = get_or s.words i 0 in
      let size = (knows C e s b.0 b.1 b.2 id me.0 at Behind eq).0 in
      let k = latest_keeps C e s b.0 b.1 b.2 id me.0 at eq x i me.1
      (ap (λ (j : ℕ). get_or s.words j 0) is ∙ b.2.memory.latest_is) in
      (latest_loaded me.0 k.0 x, keeps, tt, k.1, ((k.0, refl, k.2, k.3, k.4), named latest_index size is))
