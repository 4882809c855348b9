use Rattle.std.proofs.Common.{◌∙◌, ap, w32, arith}
use Rattle.std.proofs.lemmas.Int.{to_z-of_z}
use Rattle.ring_protocol.specs.Reading.{reply_of}
use Rattle.ring_protocol.proofs.{ReadReplies.found, ReadReplies.bad_is, ReadReplies.spelled_again, Written.are_bytes}
use Rattle.ring_protocol.proofs.reply.decode.decode_reply.Goals as goal

pub returns-clause-found : goal.returns-clause-found
returns-clause-found c =
    let read =
    c.reply_in.ensures ∙ ap (λ t. reply_of t c.args.body.now) (to_z-of_z w32 c.args.type_id c.ranges.type_id) in
    found c.args.type_id c.args.body.now c.reply_in.result
    (are_bytes c.args.body.now (λ i. omega (arith, c.type_inv.body i))) read

pub returns-clause-only : goal.returns-clause-only
returns-clause-only c = λ r s.
    let read =
    c.reply_in.ensures ∙ ap (λ t. reply_of t c.args.body.now) (to_z-of_z w32 c.args.type_id c.ranges.type_id) in
    read ∙ spelled_again c.args.type_id c.args.body.now r s

pub returns-clause-bad : goal.returns-clause-bad
returns-clause-bad c =
    let read =
    c.reply_in.ensures ∙ ap (λ t. reply_of t c.args.body.now) (to_z-of_z w32 c.args.type_id c.ranges.type_id) in
    bad_is c.args.type_id c.args.body.now c.reply_in.result read
