use Rattle.std.proofs.Common.{◌∙◌, refl, ap, length}
use Rattle.ring_rings.specs.Claiming.{RefusesTry, Writes}
use Rattle.ring_protocol.proofs.Written.{command_bytes}
use Rattle.ring_service.proofs.AskingLemmas.{too_long, encoded, of_type, written_as, refused_as}
use Rattle.ring_service.proofs.ServiceLemmas.{sends_command}
use Rattle.ring_service.proofs.client.Client.send_as.Goals as goal

pub returns-in_default-clause-refused : goal.returns-in_default-clause-refused
returns-in_default-clause-refused g c = (
  too_long c.args.request c.args.correlation _ _ _ (ap length c.as_mut_slice.ensures.value ∙ c.args.self.now.wide)
      c.encode_request.ensures c.in_default.is,
  refl,
)

pub returns-in-Ok-clause-sent : goal.returns-in-Ok-clause-sent
returns-in-Ok-clause-sent g c = (
  encoded c.args.request c.args.correlation _ _ _ (ap length c.as_mut_slice.ensures.value ∙ c.args.self.now.wide)
      c.in-Some.ensures,
  written_as (Writes g.K.Kind.many) _ _ _ _ _ _ _ (of_type _ _ c.type_id.ensures)
      (command_bytes _ _ _ _ c.in-Some.ensures) c.in-Ok.ensures.written,
)

pub returns-in-Err-clause-refused : goal.returns-in-Err-clause-refused
returns-in-Err-clause-refused g c = (
  encoded c.args.request c.args.correlation _ _ _ (ap length c.as_mut_slice.ensures.value ∙ c.args.self.now.wide)
      c.in-Some.ensures,
  refl,
  refused_as (RefusesTry g.K.Kind.many) _ _ _ _ _ _ _ _ (of_type _ _ c.type_id.ensures)
      (ap length (command_bytes _ _ _ _ c.in-Some.ensures)) c.in-Err.ensures.refused,
)

pub returns-in-Ok-clause-sends : goal.returns-in-Ok-clause-sends
returns-in-Ok-clause-sends g c = (
  sends_command _ _ _ _ _ (of_type _ _ c.type_id.ensures) (command_bytes _ _ _ _ c.in-Some.ensures)
      c.in-Ok.ensures.sent.0,
  tt,
)
