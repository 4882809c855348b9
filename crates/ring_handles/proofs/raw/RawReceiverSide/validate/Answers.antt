use Rattle.std.proofs.Common.{◌≡◌, ap, rules, subst, to_z, w32, if◌then◌else◌, Some}
use Rattle.ring_board.specs.Bodies.{IsRight, Validated}
use Rattle.ring_ends.specs.BoardEnd.{DoesAt}
use Rattle.ring_handles.{specs.Boards.latest_of, specs.Boards.Watching, proofs.ReceiverLemmas.at_some}
use Rattle.ring_layout.specs.declared.refusal_codes.TheConstants.{LAPPED}
use Rattle.ring_handles.specs.declared.code.TheConstants.{DONE}
use Rattle.ring_handles.proofs.raw.RawReceiverSide.validate.Goals.{then-validate, else-validate}
use Rattle.ring_handles.proofs.raw.RawReceiverSide.validate.Goals as goal

pub returns-after-validate : goal.returns-after-validate
returns-after-validate c =
    let raw = c.in-Some.raw in
    let new = c.validate.new.self in
    let is : latest_of c.args.self.now ≡ Some raw = search rules in
    let code = elim c.if-validate.branch as (λ _. to_z w32 c.if-validate.result-bits
    ≡ (if c.validate.result then DONE else LAPPED)) [
      | then-validate w ↦ search rules
      | else-validate w ↦ search rules
    ] in
    at_some _ _ _ raw is (record {
      valid = c.validate.result;
      looked = (
        ap (λ (r : Watching). record r { end = new }) c.self.view_is,
        subst (λ (r : Watching). DoesAt (λ m x n. Validated raw x m n) r.end c.validate.result new) c.self.view_is
            c.validate.ensures.does,
      );
      code_is = code;
      right =
          λ valid. subst (λ (r : Watching). IsRight r.end.knows.0 raw) c.self.view_is (c.validate.ensures.right valid);
    })
