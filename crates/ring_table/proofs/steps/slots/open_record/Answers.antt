use Rattle.std.proofs.Common.{◌≡◌, ℕ, ◌+◌, ◌%◌, ◌^◌, ◌<◌, List, length, ap, ◌∙◌, sym, subst, refl, arith}
use Rattle.std.proofs.lemmas.List.{length-replicate}
use Rattle.ring_layout.specs.{Marks.open_kind, Headers.header_of, History.IsMessage, History.span, Places.index}
use Rattle.ring_layout.specs.declared.message.{ClaimState.TheVariants.Open, Message.Message}
use Rattle.ring_table.specs.{Staged.AreRising, Staged.slot_bytes, SlotSteps.StoresRecord, SlotSteps.HasBody, Views.View}
use Rattle.ring_table.specs.{Changes.blank, Passing.IsSettled}
use Rattle.ring_table.proofs.{MarkSteps.lift_mark, MarkSteps.rests_as, MarkWords.Shows, MarkWords.shows_claim}
use Rattle.ring_table.proofs.{SlotCalls.lies_ahead, SlotCalls.mark_step, SlotCalls.holder, HomeLemmas.stores_record}
use Rattle.ring_table.proofs.steps.slots.open_record.Goals as goal

pub store-requires : goal.store-requires
store-requires c =
    let s = c.requires.seat in
    let b = c.requires.body in
    let body : List ℕ = b.0 in
    let long : length body ≡ c.args.wanted.len = b.1 in
    let t = b.2 in
    let m : Message = record { type_id = c.args.wanted.type_id; body = body } in
    let h : ℕ = header_of (record { message = m; state = Open }) in
    let lawful : IsMessage c.args.capacity (blank c.args.wanted.type_id (length body)) =
    subst (λ n. IsMessage c.args.capacity (blank c.args.wanted.type_id n)) (sym long) c.requires.message in
    let zeros = length-replicate {A = ℕ} (length body) 0 in
    let short = lawful.short in
    let most = s.lawful.most in
    let is_message : IsMessage c.args.capacity m = record {
      type_id = lawful.type_id;
      type_fits = lawful.type_fits;
      short = omega arith;
      bytes = t.bytes;
    } in
    let small : 8 + length body < 2 ^ 31 = omega arith in
    let shows : Shows h (span (length body)) open_kind = shows_claim c.args.capacity m Open s.lawful.most is_message in
    mark_step s.table_is s.words_are s.key_is s.lawful _ c.args.place _ c.word_index.ensures t.at_place
    (λ _. c.record_mark-mark.result)
    (λ _ _ me'. StoresRecord Open c.args.producer.now.me me' × AreRising c.args.producer.now.me.0.producer.claims)
    (lift_mark c.args.capacity c.args.ring.now.key.start _ _ c.args.producer.now.me t.claim.place h
    c.record_mark-mark.result
    (λ me'. StoresRecord Open c.args.producer.now.me me' × AreRising c.args.producer.now.me.0.producer.claims)
    (lies_ahead c.args.capacity c.args.ring.now.key.start _ c.args.producer.now.me.0 t.nth t.claim t.there
    (λ z. subst IsSettled t.stage z) (span (length body)) open_kind c.record_mark-mark.result h shows (omega arith) t.same_span
    (c.record_mark-mark.ensures ∙ λ i. (sym t.at_place i + (span (sym long i) + open_kind)) % 2 ^ 64))
    shows.some
    (λ me' r. rests_as (r.0.1 _ _ c.args.wanted.type_id body t.out_is c.requires.message.type_fits small t.bytes t.slots)
    refl refl)
    (stores_record c.args.capacity c.args.ring.now.key.start Open _ _ c.args.producer.now.me s.view_is t.nth t.claim
    c.args.wanted.type_id body h refl t.there t.stage t.out_is
    (record { most = s.lawful.most; span_is = t.same_span; lawful = lawful })
    t.bytes
    (subst (λ p. HasBody (index c.args.capacity p) (slot_bytes m) c.args.producer.now.me.1) (sym t.at_place) t.slots)))

pub returns-clause-seat : goal.returns-clause-seat
returns-clause-seat c =
    let e = c.store.ensures in
    let s = c.requires.seat in
    let b = c.requires.body in
    let long : length b.0 ≡ c.args.wanted.len = b.1 in
    let t = b.2 in
    let zeros = length-replicate {A = ℕ} c.args.wanted.len 0 in
    let small : 8 + length b.0 < 2 ^ 31 = omega arith in
    holder e.0 e.1 (ap (λ (v : View). v.capacity) (e.2.0.1 _ _ c.args.wanted.type_id b.0 t.out_is
    c.requires.message.type_fits small t.bytes t.slots))
