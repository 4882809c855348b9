use Rattle.std.proofs.Common.{Option, Some, None, ap, ◌∙◌, MatchOption}
use Rattle.ring_recorder.proofs.producer.claim_room.Goals as goal

match_map : {A : Type 0} (o : Option A) (P Q : A → Type 0) → ((a : A) → P a → Q a) → MatchOption o (Unit {0}) P
    → MatchOption o (Unit {0}) Q
match_map None P Q f its = tt
match_map (Some a) P Q f its = f a its

-- a claim that is held stays open, and is at another place than the new claim
pub returns-in-Ok-clause-held : goal.returns-in-Ok-clause-held
returns-in-Ok-clause-held g c = let tried = c.in-Ok.ensures in let others = c.filled.ensures.others in
    match_map c.loop.held _ _ (λ it its. let apart = tried.opened.apart it.claim its in (
      others.claims it.claim (tried.keeps.claims it.claim its) apart,
      λ e. apart (e ∙ ap (λ x. x.place) c.filled.ensures.same),
    )) c.loop.invariant.held
