use Rattle.std.proofs.Common.{◌≡◌, ℕ, List, take, ap, ◌∙◌, arith, length, length-set}
use Rattle.ring_layout.specs.declared.message.Message.{Message}
use Rattle.ring_table.specs.RunBodies.{messages_of}
use Rattle.ring_handles.specs.{Batch.span_in, WritingBatch.word_at}
use Rattle.ring_handles.proofs.WritingLemmas.{body_length, gathers_more, next_record}
use Rattle.ring_handles.proofs.writing_batch.gather.Goals as goal

pub message_at-message-requires-clause-inside : goal.message_at-message-requires-clause-inside
message_at-message-requires-clause-inside c =
    (next_record c.args.records.now c.args.start (messages_of (take c.loop-gathered.gathered.count c.loop-gathered.chunk))
    c.loop-gathered.gathered.end c.loop-gathered.invariant.0 c.requires.rest c.if-gathered-records.true).1.inside

pub message_at-message-requires-clause-type_id : goal.message_at-message-requires-clause-type_id
message_at-message-requires-clause-type_id c =
    (next_record c.args.records.now c.args.start (messages_of (take c.loop-gathered.gathered.count c.loop-gathered.chunk))
    c.loop-gathered.gathered.end c.loop-gathered.invariant.0 c.requires.rest c.if-gathered-records.true).1.type_id

pub loop-gathered-preserved : goal.loop-gathered-preserved
loop-gathered-preserved c =
    let inv = c.loop-gathered.invariant in
    let bytes : List ℕ = c.args.records.now in
    let at : ℕ = c.loop-gathered.gathered.end in
    let k : ℕ = c.loop-gathered.gathered.count in
    let less = c.if-gathered-records.true in
    let room = c.loop-gathered-test.true in
    let next = next_record bytes c.args.start (messages_of (take k c.loop-gathered.chunk)) at inv.0 c.requires.rest less in
    let inside = next.1.inside in
    let is = c.message_at-message.ensures in
    let size = length-set c.loop-gathered.chunk k c.message_at-message.result in
    let more = inv.3 in
    let most = inv.4 in
    let long : length c.message_at-message.result.body.now ≡ word_at bytes at =
    ap (λ (m : Message). length m.body) is ∙ body_length bytes at (word_at bytes at) inside in
    let span : c.span_in.result ≡ span_in (word_at bytes at) = c.span_in.ensures ∙ ap (λ (n : ℕ). span_in n) long in (
      gathers_more bytes c.args.start at c.span_in.result c.loop-gathered.chunk k c.message_at-message.result room less
          inv.0 is c.span_in.ensures inside,
      omega arith,
      size ∙ inv.2,
      omega arith,
      omega arith,
      omega arith,
    )
