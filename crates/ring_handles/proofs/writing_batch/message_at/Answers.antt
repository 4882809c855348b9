use Rattle.std.proofs.Common.{◌≡◌, ◌+◌, ◌-◌, pos, drop, take, to_z, w32, ap, ◌∙◌, arith}
use Rattle.std.proofs.lemmas.Int.{to_z_pos}
use Rattle.ring_handles.specs.WritingBatch.{word_at}
use Rattle.ring_handles.proofs.writing_batch.message_at.Goals as goal

pub returns : goal.returns
returns c =
    let is = c.word_at.ensures in
    let long : (c.args.at + 16 + c.word_at.result) - (c.args.at + 16) ≡ word_at c.args.records.now c.args.at = omega arith in
    let type_is : to_z w32 c.word_at-type_id.result ≡ pos (word_at c.args.records.now (c.args.at + 8)) =
    to_z_pos w32 c.word_at-type_id.result (omega arith) ∙ ap pos c.word_at-type_id.ensures in
    λ i. record { type_id = type_is i; body = take (long i) (drop (c.args.at + 16) c.args.records.now) }
