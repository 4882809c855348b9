-- What was received and what is left are as many as the committed messages of the claims.
use Rattle.std.proofs.Common.{◌≡◌, ◌≢◌, ◌∙◌, ℕ, ◌+◌, List, [], ◌∷◌, ◌++◌, length, length-append, ap, subst, arith}
use Rattle.std.proofs.lemmas.List.Elements.{All-cons, All-nil}
use Rattle.ring_layout.specs.{declared.message.Claim.Claim, History.committed_of}
use Rattle.ring_layout.specs.declared.message.ClaimState.TheVariants.{Open, Committed, Aborted}
use Rattle.ring_words.specs.{Drain.AllSettled, Ring.Ring, Ring.Has}
use Rattle.ring_table.specs.declared.{claim.StagedClaim.StagedClaim, view.View.View}
use Rattle.ring_table.specs.declared.claim.Stage.{Stage, TheVariants.Moved, TheVariants.Padded, TheVariants.Stored}
use Rattle.ring_table.specs.Passing.{AreSettled, IsSettled, placed_committed_of}
use Rattle.ring_table.specs.Staged.{claim_of, unplaced, stage_state}
use Rattle.ring_rings.specs.Closing.{HandsOut}
use Rattle.ring_rings.proofs.{ReceivedLemmas.lengths, SentLemmas.placed_committed_of-append, SentLemmas.same_committed}

not_open : (stage : Stage) → IsSettled stage → stage_state stage ≢ Open
not_open Moved h e = absurd h
not_open Padded h e = absurd h
not_open (Stored Open) h e = absurd h
not_open (Stored Committed) h e = absurd cc
not_open (Stored Aborted) h e = absurd cc

settled_behind : (a b : List StagedClaim) → AreSettled (a ++ b) → AreSettled b
settled_behind [] b h = h
settled_behind (c ∷ a) b h = settled_behind a b h.1

pub all_settled : (cs : List StagedClaim) → AreSettled cs → AllSettled (unplaced cs)
all_settled [] h = All-nil (λ (d : Claim). d.state ≢ Open)
all_settled (c ∷ cs) h = All-cons (λ (d : Claim). d.state ≢ Open) (claim_of c) (unplaced cs) (not_open c.stage h.0)
    (all_settled cs h.1)

-- if no claim is open, what was received and what a closed ring shows are all committed messages
pub drained : (C start : ℕ) (p r : View) (rest : Ring) → HandsOut C start p r rest → AreSettled p.producer.claims
    → (count : ℕ) → ((h : List Claim) → Has rest h → AllSettled h → count ≡ length (committed_of h))
    → length r.consumer.taken + count ≡ length (placed_committed_of p.producer.claims)
drained C start p r rest out settled count drains =
    let took = ap length out.messages in
    let here = all_settled out.left (settled_behind out.passed out.left (subst AreSettled out.whole settled)) in
    let left = drains (unplaced out.left) out.has here ∙ (ap length (same_committed out.left)
    ∙ lengths (placed_committed_of out.left)) in
    let all = ap (λ l. length (placed_committed_of l)) out.whole
    ∙ (ap length (placed_committed_of-append out.passed out.left)
    ∙ length-append (placed_committed_of out.passed) (placed_committed_of out.left)) in
    omega arith
