use Rattle.std.proofs.Common.{◌≡◌, ℕ, ◌+◌, ◌/◌, List, get_or, length, sym, ap, ◌∙◌, subst, take, arith, take_all}
use Rattle.std.proofs.lemmas.List.{length-replicate, Elements.All-get_or}
use Rattle.ring_table.specs.{Filling.Filling, Runs.run_bytes, Runs.run_slots, Staged.headed}
use Rattle.ring_table.specs.RunBodies.{messages_of, IsSendable, LiesAt, Outgoing}
use Rattle.ring_table.proofs.{FillLemmas.fill_end, HeaderCalls.packs_recorded, RunSlots.length_run}
use Rattle.ring_table.proofs.RunFill.{are_more, bytes_more, bytes_upto, lies_in, no_message}
use Rattle.ring_table.proofs.runs.fill_run.Goals as goal

pub fill_record-requires-clause-more : goal.fill_record-requires-clause-more
fill_record-requires-clause-more c =
    let os : List Outgoing = c.args.messages.now in
    let i : ℕ = c.loop-message.message-index in
    let next = bytes_more os i c.loop-message-test.true in
    let upto = bytes_upto os (i + 1) in
    let here = c.loop-message.invariant.2 in
    let all = c.requires.count in omega arith

pub fill_record-requires-clause-filling : goal.fill_record-requires-clause-filling
fill_record-requires-clause-filling c =
    let os : List Outgoing = c.args.messages.now in
    let i : ℕ = c.loop-message.message-index in
    let o : Outgoing = get_or os i no_message in
    let one = All-get_or (IsSendable c.args.capacity) os i no_message c.loop-message-test.true c.requires.messages in
    let header_is = packs_recorded c.committed_header-header.result (length o.body.now) o.type_id one.type_fits
    c.committed_header-header.ensures in (
      run_slots (messages_of os),
      subst (λ (z : ℕ × ℕ). LiesAt z.0 (headed z.1 o.body.now) (run_slots (messages_of os)))
          (λ x. (c.loop-message.invariant.2 x, sym header_is x)) (lies_in os i c.loop-message-test.true),
      c.loop-message.invariant.0,
    )

pub loop-message-preserved : goal.loop-message-preserved
loop-message-preserved c =
    let os : List Outgoing = c.args.messages.now in
    let i : ℕ = c.loop-message.message-index in
    let o : Outgoing = get_or os i no_message in
    let inv = c.loop-message.invariant in
    let e = c.fill_record.ensures in
    let s = e.seat in
    let one = All-get_or (IsSendable c.args.capacity) os i no_message c.loop-message-test.true c.requires.messages in
    let header_is = packs_recorded c.committed_header-header.result (length o.body.now) o.type_id one.type_fits
    c.committed_header-header.ensures in
    let lies = subst (λ (z : ℕ × ℕ). LiesAt z.0 (headed z.1 o.body.now) (run_slots (messages_of os)))
    (λ x. (inv.2 x, sym header_is x)) (lies_in os i c.loop-message-test.true) in
    let count : (8 + length o.body.now + 7) / 8 ≡ c.div_ceil.result + 1 = omega arith in
    let next = bytes_more os i c.loop-message-test.true in
    let here = inv.2 in
    let zeros = length-replicate {A = ℕ} (length o.body.now) 0 in
    let short = one.short in (
      subst (λ n. Filling c.args.first (c.loop-message.k + n) c.args.count (run_slots (messages_of os))
          c.fill_record.new.seat.me.1) count (e.filling (run_slots (messages_of os)) lies inv.0),
      record { table = s.table ∙ inv.1.table; id = s.id ∙ inv.1.id; view = s.view ∙ inv.1.view },
      omega arith,
      are_more os i c.loop-message-test.true c.args.capacity inv.3
          (record { type_id = one.type_id; type_fits = one.type_fits; short = omega arith; bytes = e.bytes }),
    )

pub returns-clause-has : goal.returns-clause-has
returns-clause-has c =
    let os : List Outgoing = c.args.messages.now in
    let i : ℕ = c.loop-message.message-index in
    let all : take i os ≡ os = take_all i os (omega arith) in
    let here = ap (λ l. run_bytes (messages_of l)) (sym all) ∙ c.loop-message.invariant.2 in
    let count = c.requires.count in
    let long = length_run (messages_of os) in
    fill_end c.args.first c.loop-message.k c.args.count (run_slots (messages_of os)) c.loop-message.seat.me.1
    (omega arith) (omega arith) c.loop-message.invariant.0
