use Rattle.std.proofs.Common.{◌∙◌, ap, w32, arith}
use Rattle.std.proofs.lemmas.Int.{to_z-of_z}
use Rattle.ring_protocol.specs.Reading.{command_of}
use Rattle.ring_protocol.proofs.{ReadCommands.found, ReadCommands.only, ReadCommands.bad_is, Written.are_bytes}
use Rattle.ring_protocol.proofs.command.decode.decode_command.Goals as goal

pub returns-clause-found : goal.returns-clause-found
returns-clause-found c =
    let read = c.command_in.ensures ∙ ap (λ t. command_of t c.args.body.now)
    (to_z-of_z w32 c.args.type_id c.ranges.type_id) in
    found c.args.type_id c.args.body.now c.command_in.result
    (are_bytes c.args.body.now (λ i. omega (arith, c.type_inv.body i))) read

pub returns-clause-only : goal.returns-clause-only
returns-clause-only c =
    let read = c.command_in.ensures ∙ ap (λ t. command_of t c.args.body.now)
    (to_z-of_z w32 c.args.type_id c.ranges.type_id) in
    only c.args.type_id c.args.body.now c.command_in.result read

pub returns-clause-bad : goal.returns-clause-bad
returns-clause-bad c =
    let read = c.command_in.ensures ∙ ap (λ t. command_of t c.args.body.now)
    (to_z-of_z w32 c.args.type_id c.ranges.type_id) in
    bad_is c.args.type_id c.args.body.now c.command_in.result read
