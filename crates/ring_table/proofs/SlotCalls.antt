-- The steps on slots as the functions call them.
use Rattle.std.proofs.Common.{◌≡◌, ℕ, ◌+◌, ◌-◌, ◌/◌, ◌%◌, ◌^◌, ◌≤◌, ◌<◌, cond, refl, sym, ap, ◌∙◌, subst, ⊎_elim, le-ltb, arith}
use Rattle.std.proofs.{Math.Option.some, Math.ListN.get_elem?, lemmas.Nat.mod_below}
use Rattle.atomic_table.specs.{Seated.TableId, Table.State, Table.Allows, declared.shared.Seat.Seat}
use Rattle.ring_layout.specs.{Marks.padding_kind, Places.IsCapacity, Places.index, History.IsMessage}
use Rattle.ring_layout.specs.{Layout.head_index, Layout.ring_words, declared.message.Message.Message, Headers.header_of}
use Rattle.ring_layout.proofs.PlaceLemmas.{next_cases}
use Rattle.ring_layout.specs.declared.message.ClaimState.TheVariants.{Open, Committed, Aborted}
use Rattle.ring_table.specs.Staged.{elsewhere, padding_word, StagedClaim, Stage, Moved, Padded, Stored, claim_end, stage_state, staged_span, masked_padding, masked_record, staged_word, staged_word_at}
use Rattle.ring_table.specs.{Owners.all_of, Passing.IsSettled, Rule.Kept, Views.Key, Views.View, SlotSteps.IsSameHolder}
use Rattle.ring_table.specs.{Marks.at_position, Marks.IsCommitted, ProducerSteps.Mine, ProducerSteps.HasClaim}
use Rattle.ring_table.proofs.StagedPlaces.{capacity_aligned, word_of_claim}
use Rattle.ring_table.proofs.{StagedWords.staged_word-header, StagedWords.staged_word-padding, CarryLemmas.Holds}
use Rattle.ring_table.proofs.LoadLemmas.{HasUnsettled, stands}
use Rattle.ring_table.proofs.MarkWords.{Shows, shows_claim, shows_mark, shows_padding}
use Rattle.ring_table.proofs.MarkSteps.{LiesAhead, Marked, Rests, lift_load}

pub holder : {old new : Seat ℕ View} → new.table_id ≡ old.table_id → new.id ≡ old.id
    → new.me.0.capacity ≡ old.me.0.capacity → IsSameHolder old new
holder table id capacity = record { table = table; id = id; capacity = capacity }

module _ {id : TableId} {key : Key} {capacity : ℕ} {seat : Seat ℕ View} (table : seat.table_id ≡ id)
    (words : id.words ≡ ring_words capacity) (key_is : key.capacity ≡ capacity) (lawful : IsCapacity capacity) where
  -- a load whose number says nothing, at a word of the trailer in the code and at a record's in the lemma
  pub slot_load_anywhere : (i word q : ℕ) → word < 96 → i ≡ capacity / 8 + word → (told : Mine → Type 0)
      → ((me' : Mine) → told me' → Rests seat.me.0 me'.0)
      → Allows (Holds elsewhere capacity key.start) id.slots seat.id seat.me (index capacity q) (λ n. n) (λ _. told)
      → (seat.table_id ≡ id) × (i < id.words)
      × Allows (Marked key.capacity key.start) id.slots seat.id seat.me i (λ n. n) (λ _. told)
  slot_load_anywhere i word q inside is told rests allows =
      let least = lawful.least in
      let c8 = capacity_aligned capacity lawful in
      let low = mod_below q capacity (omega arith) in (
        table,
        omega arith,
        subst (λ z. Allows (Marked z key.start) id.slots seat.id seat.me i (λ n. n) (λ _. told)) (sym key_is)
            (lift_load capacity key.start id.slots seat.id seat.me (index capacity q) i told (omega arith) rests allows),
      )

  -- at the word of a record, whose position is p in the code and q in the lemma
  pub slot_load : (i p q : ℕ) → i ≡ index capacity p → q ≡ p → (told : ℕ → Mine → Type 0)
      → ((me' : Mine) → told (index capacity q) me' → Rests seat.me.0 me'.0)
      → Allows (Holds elsewhere capacity key.start) id.slots seat.id seat.me (index capacity q) (λ n. n)
      (λ _. told (index capacity q))
      → (seat.table_id ≡ id) × (i < id.words)
      × Allows (Marked key.capacity key.start) id.slots seat.id seat.me i (λ n. n) (λ _. told i)
  slot_load i p q is at told rests allows =
      let there : i ≡ index capacity q = is ∙ ap (index capacity) (sym at) in
      let least = lawful.least in
      let c8 = capacity_aligned capacity lawful in
      let low = mod_below q capacity (omega arith) in (
        table,
        omega arith,
        subst (λ (z : ℕ × ℕ). Allows (Marked z.0 key.start) id.slots seat.id seat.me z.1 (λ n. n) (λ _. told z.1))
            (λ k. (sym key_is k, sym there k))
            (lift_load capacity key.start id.slots seat.id seat.me (index capacity q) (index capacity q)
            (told (index capacity q)) (omega arith) rests allows),
      )

  -- the head is stored
  pub head_step : (i : ℕ) → i ≡ capacity / 8 + 48 → (value : ℕ) (told : ℕ → Mine → Type 0)
      → Allows (Marked capacity key.start) id.slots seat.id seat.me (head_index capacity) (λ _. value) told
      → (seat.table_id ≡ id) × (i < id.words)
      × Allows (Marked key.capacity key.start) id.slots seat.id seat.me i (λ _. value) told
  head_step i is value told allows = (
    table,
    omega arith,
    subst (λ (z : ℕ × ℕ). Allows (Marked z.0 key.start) id.slots seat.id seat.me z.1 (λ _. value) told)
        (λ k. (sym key_is k, sym is k)) allows,
  )

  -- a step of the rule with marks at the word of a record
  pub mark_step : (i p q : ℕ) → i ≡ index capacity p → q ≡ p → (f : ℕ → ℕ) (told : ℕ → ℕ → Mine → Type 0)
      → Allows (Marked capacity key.start) id.slots seat.id seat.me (index capacity q) f (told (index capacity q))
      → (seat.table_id ≡ id) × (i < id.words)
      × Allows (Marked key.capacity key.start) id.slots seat.id seat.me i f (told i)
  mark_step i p q is at f told allows =
      let there : i ≡ index capacity q = is ∙ ap (index capacity) (sym at) in
      let least = lawful.least in
      let c8 = capacity_aligned capacity lawful in
      let low = mod_below q capacity (omega arith) in (
        table,
        omega arith,
        subst (λ (z : ℕ × ℕ). Allows (Marked z.0 key.start) id.slots seat.id seat.me z.1 f (told z.1))
            (λ k. (sym key_is k, sym there k)) allows,
      )

-- a header of an own claim, from where the read has come to on, is the claim's
pub header_of_claim : (C start : ℕ) (s : State ℕ View) (r : Kept elsewhere C start s.words s.views) (id : ℕ) (v : View) (k : ℕ)
    (c : StagedClaim) (has : HasUnsettled elsewhere C start s.views id v k c) (q : ℕ) → q % 8 ≡ 0 → r.consumer.scan ≤ q
    → c.from ≤ q → q < claim_end c → at_position C s.words q ≡ staged_word elsewhere c q
header_of_claim C start s r id v k c has q q8 scan from below =
    let st = stands elsewhere C start s.words s.views r id v k c has in
    let m = r.memory in
    let low = m.clears_from in
    let to = m.clears_to in
    let room = m.room in
    let top = st.lies.below in
    m.shows q q8 (omega arith) (omega arith)
    ∙ ap (λ b. cond b 0 (staged_word_at elsewhere (all_of r.hist) q)) (le-ltb q r.consumer.cleared (omega arith))
    ∙ word_of_claim elsewhere C start r.hist st.nth (id, c) q m.placed st.there from below

-- the header of a claim that is not settled is not that of a committed record
unsettled_none : (t : Stage) (C : ℕ) (m : Message) → (IsSettled t → ⊥) → C ≤ 2 ^ 24 → IsMessage C m
    → IsCommitted (masked_record t (header_of (record { message = m; state = stage_state t }))) → ⊥
unsettled_none Moved C m un most is committed = committed.0 refl
unsettled_none Padded C m un most is committed = committed.0 refl
unsettled_none (Stored Open) C m un most is committed =
    let kind = (shows_claim C m Open most is).kind_is in
    let other = committed.1 in omega arith
unsettled_none (Stored Committed) C m un most is committed = un tt
unsettled_none (Stored Aborted) C m un most is committed = un tt

-- where the mark of an own claim that is not settled lies, and which it is: the code wraps, though no position is so far
pub lies_ahead : (C start id : ℕ) (v : View) (k : ℕ) (c : StagedClaim) → HasClaim v k c → (IsSettled c.stage → ⊥)
    → (bytes kind mark h : ℕ) → Shows h bytes kind → kind < 8 → bytes ≡ staged_span c
    → mark ≡ (c.place + (bytes + kind)) % 2 ^ 64
    → (s : State ℕ View) (r : Kept elsewhere C start s.words s.views) → get_elem? s.views id ≡ some v
    → LiesAhead C s.words r.consumer c.place h mark
lies_ahead C start id v k c has un bytes kind mark h shows few span_is is s r at =
    let mine : HasUnsettled elsewhere C start s.views id v k c =
    record { seat = at; claim = has; unsettled = un } in
    let st = stands elsewhere C start s.words s.views r id v k c mine in
    let scan = st.behind_scan in
    let m = r.memory in
    let to = m.clears_to in
    let room = m.room in
    let limit = m.limit in
    let below = st.lies.below in
    let padded = st.lies.padded in
    let mark_is = shows_mark c.place h bytes kind shows in
    let bytes_are = shows.bytes_is in
    let end : claim_end c ≡ c.place + bytes = omega arith in
    record {
      whole = st.place_aligned;
      from = scan;
      below = omega arith;
      mark_is = omega arith;
      near = omega arith;
      none = λ committed. unsettled_none c.stage C c.message un r.lawful.capacity.most st.lies.message
          (subst IsCommitted (header_of_claim C start s r id v k c mine c.place st.place_aligned scan padded (omega arith)
          ∙ staged_word-header elsewhere c c.place refl) committed);
    }

-- the same of the padding before an own claim
pub padding_ahead : (C start id : ℕ) (v : View) (k : ℕ) (c : StagedClaim) → HasClaim v k c → c.stage ≡ Moved
    → c.from < c.place → (mark : ℕ) → mark ≡ (c.place + 1) % 2 ^ 64
    → (s : State ℕ View) (r : Kept elsewhere C start s.words s.views) → get_elem? s.views id ≡ some v
    → LiesAhead C s.words r.consumer c.from (padding_word elsewhere (c.place - c.from)) mark
padding_ahead C start id v k c has moved some_way mark is s r at =
    let mine : HasUnsettled elsewhere C start s.views id v k c =
    record { seat = at; claim = has; unsettled = λ z. subst IsSettled moved z } in
    let st = stands elsewhere C start s.words s.views r id v k c mine in
    let m = r.memory in
    let to = m.clears_to in
    let room = m.room in
    let limit = m.limit in
    let below = st.lies.below in
    let behind = st.padding_behind moved in
    let from8 = st.from_aligned in
    let place8 = st.place_aligned in
    let most = r.lawful.capacity.most in
    let n : ℕ = c.place - c.from in
    let top = st.lies.place in
    let near = next_cases C c.from (staged_span c) in
    let short = st.lies.message.short in
    let small : n < 2 ^ 31 = ⊎_elim (λ z. let here = z.0 in omega arith) (λ z. let far = z.0 in omega arith) near in
    let shows = shows_padding n (omega arith) small (omega arith) in
    let bytes_are = shows.bytes_is in
    let mark_is = shows_mark c.from (padding_word elsewhere n) n padding_kind shows in
    record {
      whole = from8;
      from = behind;
      below = omega arith;
      mark_is = omega arith;
      near = omega arith;
      none = λ committed. committed.0 (header_of_claim C start s r id v k c mine c.from from8 behind (omega arith) (omega arith)
          ∙ staged_word-padding elsewhere c c.from refl some_way
          ∙ ap (λ t. masked_padding t (padding_word elsewhere n)) moved);
    }
