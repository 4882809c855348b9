-- What the messages of a ring that ended add up to.
use Rattle.std.proofs.Common.{◌≡◌, ℕ, ◌+◌, List, ◌++◌, length, length-append, nat_lt, if◌then◌else◌, sym, ap, ◌∙◌, arith, Option, Some, None, MatchOption}
use Rattle.ring_layout.specs.{History.committed_of, declared.message.Claim.Claim, declared.message.Message.Message}
use Rattle.ring_words.specs.{Drain.AllSettled, Ring.Has}
use Rattle.ring_table.specs.{Passing.placed_committed_of, Staged.Bodies, Staged.unplaced}
use Rattle.ring_table.specs.declared.{claim.PlacedMessage.PlacedMessage, claim.StagedClaim.StagedClaim, view.View.View}
use Rattle.ring_rings.proofs.ReceivedLemmas.{lengths}
use Rattle.ring_rings.specs.{Reading.at_rest, Reading.messages_of, Rescuing.IsRescued, declared.rescue.Rescued.Rescued}
use Rattle.ring_rings.proofs.SentLemmas.{messages_of-append, placed_committed_of-append}
use Rattle.ring_service.{specs.declared.finishing.fault.FinishFault.FinishFault, proofs.FinishLemmas.all_settled}
use Rattle.ring_ends.specs.declared.finishing.StopFault.{StopFault, TheVariants.InUse, TheVariants.Refused}
use Rattle.ring_handles.specs.Finishing.{LeavesCommitted}

-- of two parts that are all together, the second has what the first lacks
pub rest_counts : (received all : List PlacedMessage) (rest : List Message) (count : ℕ)
    → messages_of received ++ rest ≡ messages_of all → length received + count ≡ length all → count ≡ length rest
rest_counts received all rest count whole counted =
    let first = lengths received in
    let both = lengths all in
    let parts = length-append (messages_of received) rest in
    let sum = ap length whole in
    omega arith

-- if open claims are no reason to refuse, there is none
pub none_is_open : {F : Type 0} (open_claims : ℕ) (fault : F) (others : Option F)
    → (if nat_lt 0 open_claims then Some fault else others) ≡ None → open_claims ≡ 0
none_is_open open_claims fault others e = grind arith

-- a conductor that does not finish since shares are not back leaves what it leaves without them
pub leaves_without : (A B : Type 0) (refusal : Option FinishFault) (reason : StopFault) (fault : FinishFault)
    → reason ≡ Refused fault → MatchOption refusal (reason ≡ InUse) (λ why. reason ≡ Refused why) → B
    → MatchOption refusal A (λ _. B)
leaves_without A B None reason fault is told b = absurd cc
leaves_without A B (Some why) reason fault is told b = b

-- what a ring with lost producers leaves is what its rest has
pub leaves_committed : (B : Bodies) (C start : ℕ) (v : View) (out : Rescued) → IsRescued B C start v out → (count : ℕ)
    → ((h : List Claim) → Has out.rest h → AllSettled h → count ≡ length (committed_of h))
    → LeavesCommitted C start (at_rest v) count
leaves_committed B C start v out rescued count drains =
    let r = rescued.each rescued.hist rescued.drawn rescued.had in
    let rest = messages_of (placed_committed_of r.left) in
    let here = all_settled r.now r.done in
    record {
      hist = rescued.hist;
      id = r.id;
      own = r.own;
      unread = record {
        ordered = r.ordered;
        rest = rest;
        left_is = drains (unplaced r.now) r.has here ∙ ap length (r.unread (unplaced r.now) r.has);
        whole = ap (λ (ms : List PlacedMessage). messages_of ms ++ rest) r.messages
            ∙ sym (messages_of-append (placed_committed_of r.passed) (placed_committed_of r.left))
            ∙ sym (ap messages_of (placed_committed_of-append r.passed r.left))
            ∙ sym (ap (λ (cs : List StagedClaim). messages_of (placed_committed_of cs)) r.whole);
      };
    }
