use Rattle.std.proofs.Common.{refl, inl}
use Rattle.std.proofs.lemmas.Result.{err_from_is_err_and}
use Rattle.ring_rings.proofs.RefusalLemmas.{refusal_is}
use Rattle.ring_rings.proofs.kind.OneToOneKind.try_move.Goals as goal

pub returns-in_err-test_request-clause-told : goal.returns-in_err-test_request-clause-told
returns-in_err-test_request-clause-told g c =
    let fault = c.in_err-test_request.field-0.0 in
    let refused = refusal_is _ c.test_request.result fault c.test_request.ensures c.in_err-test_request.was in
    let t = err_from_is_err_and c.from_residual.result c.from_residual.ensures.1 in
    rw t.1 (rw t.2 (inl (refused, refl)))
