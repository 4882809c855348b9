use Rattle.std.proofs.Common.{◌∙◌, ◌++◌, ◌∷◌, [], ap, subst, sym, w32}
use Rattle.std.proofs.lemmas.Int.{to_z-of_z}
use Rattle.ring_ends.{specs.Claims.claims_in, proofs.ClaimLemmas.all_more, proofs.EndLemmas.open_of}
use Rattle.ring_ends.specs.Claiming.{AreAllOpen, Keeps, KeepsNone, NumberedClaims}
use Rattle.ring_ends.specs.declared.claiming.{Claimed.Claimed, ClaimRefused.TheVariants.Refused}
use Rattle.ring_ends.proofs.claiming.NumberedEnd.claim.Goals as goal

pub invariant_of-self-in-Ok-try_claim : goal.invariant_of-self-in-Ok-try_claim
invariant_of-self-in-Ok-try_claim g c =
    let p = c.self.inside.end in
    let q = c.try_claim.new.self in
    let made = c.in-Ok-try_claim in
    let held = c.keep.ensures ∙ ap (λ l. l ++ made.claim ∷ []) c.reserve.ensures.same in
    open_of p q _ made.ensures.does.0
    (subst (AreAllOpen p.capacity q.view) (sym held)
    (all_more p.capacity p.view q.view (claims_in c.self.inside.claims) _ _ _ made.claim made.ensures.does.1
    c.try_claim.ensures.keeps.claims made.ensures.opened c.self.invariant))

pub returns-in-Ok-try_claim-clause-does : goal.returns-in-Ok-try_claim-clause-does
returns-in-Ok-try_claim-clause-does g c =
    let made = c.in-Ok-try_claim in
    let held = c.keep.ensures ∙ ap (λ l. l ++ made.claim ∷ []) c.reserve.ensures.same in
    let new : NumberedClaims = record { end = c.try_claim.new.self; claims = claims_in c.keep.new.self } in
    let claimed : Claimed = record { number = c.place.result; index = c.index.result } in
    subst (λ (p : NumberedClaims). Keeps c.args.type_id c.args.len p claimed new) c.self.view_is
    (record {
      claim = made.claim;
      number = c.place.ensures;
      index = c.index.ensures;
      does = rw (to_z-of_z w32 c.args.type_id c.ranges.type_id) at made.ensures.does;
      kept = held;
    })

pub returns-in-Err-clause-does : goal.returns-in-Err-clause-does
returns-in-Err-clause-does g c =
    let new : NumberedClaims = record { end = c.try_claim.new.self; claims = claims_in c.reserve.new.self } in
    subst (λ (p : NumberedClaims). KeepsNone c.args.type_id c.args.len p (Refused c.in-Err.fault) new) c.self.view_is
    (c.reserve.ensures.same, rw (to_z-of_z w32 c.args.type_id c.ranges.type_id) at c.in-Err.ensures.does)
