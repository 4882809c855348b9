-- What a storm counts.
use Rattle.std.proofs.Common.{◌≡◌, ℕ, ◌+◌, ◌*◌, ◌≤◌, List, [], ◌∷◌, ◌++◌, ◌/◌, ◌<◌, length, length-append, max, refl, sym, ap, ◌∙◌, subst, inl, inr, arith, append-nil}
use Rattle.std.{specs.Int.IsPowerOfTwo, proofs.lemmas.List.length-replicate, proofs.lemmas.Bool.cases_lt}
use Rattle.ring_layout.specs.{declared.message.Claim.Claim, declared.message.Message.Message, History.committed_of}
use Rattle.ring_layout.specs.declared.message.ClaimState.TheVariants.{Open, Committed, Aborted}
use Rattle.ring_words.specs.{Drain.AllSettled, Ring.Ring, Ring.Has}
use Rattle.ring_table.specs.declared.claim.{PlacedMessage.PlacedMessage, StagedClaim.StagedClaim}
use Rattle.ring_table.specs.declared.claim.Stage.{Stage, TheVariants.Moved, TheVariants.Padded, TheVariants.Stored}
use Rattle.ring_table.specs.{declared.view.View.View, declared.view.Service.Service, OpenClaims.open_count}
use Rattle.ring_table.specs.{Passing.placed_committed_of, Passing.placed_message, Passing.shown_at, Services.once_below}
use Rattle.ring_table.{specs.Staged.unplaced, proofs.LawLemmas.none_open}
use Rattle.ring_rings.specs.{Closing.HandsOut, Reading.messages_of, Ring.sent_in, Ring.IsWhole}
use Rattle.ring_board.specs.{declared.shared.view.Joined.Joined, declared.shared.view.Record.Record, Runs.AreAllRuns}
use Rattle.ring_counters.specs.{declared.values.view.ValueWrite.ValueWrite, Counter.unused_counter}
use Rattle.ring_counters.specs.Registry.{Registry, count_of, fresh_registry, live_of}
use Rattle.ring_service.specs.{declared.conductor.Work.Work, Fold.Ledger, Fold.fold_of, Fold.at_moment, Fold.served}
use Rattle.ring_storm.specs.declared.plan.{StormPlan.StormPlan, StormReport.StormReport}
use Rattle.ring_service.specs.{Applied.applied, Account.IsFoldOf, Account.messages_in, Conducting.Works}
use Rattle.ring_service.specs.Asking.{drawn_in}
use Rattle.ring_storm.{specs.Turns.AreAllTurns, proofs.TurnLemmas.nothing}
use Rattle.ring_storm.specs.Storming.{IsBoardFor, IsPlan, IsReportBy, all_commands, counters_after, storm_counters, sum_of}
use Rattle.ring_protocol.specs.Reading.{command_of}
use Rattle.ring_rings.proofs.{SentLemmas.messages_of-append, ReceivedLemmas.lengths}
use Rattle.ring_service.proofs.{FinishLemmas.drained, SizeLemmas.reads, DrawLemmas.all_drawn}
use Rattle.ring_storm.proofs.{LiveLemmas.storm_live, SumLemmas.all_draws, SumLemmas.storm_own, SumLemmas.storm_sum}

-- The counters -----------------------------------------------------------------

fold_counters : (l : Ledger) (ms : List Message) → (fold_of l (at_moment 0 ms)).registry ≡ counters_after l.registry ms
fold_counters l [] = refl
fold_counters l (m ∷ ms) = fold_counters (served l 0 m) ms

counters_after-append : (r : Registry) (a b : List Message)
    → counters_after r (a ++ b) ≡ counters_after (counters_after r a) b
counters_after-append r [] b = refl
counters_after-append r (m ∷ a) b = counters_after-append (applied 0 r m).registry a b

module _ (p : StormPlan) (limit : ℕ) (v w : View) (l k : Ledger) (done : Work)
    (works : Works 0 limit v w l k done) where
  -- the counters are still those of the messages taken
  pub work_counters : l.registry ≡ storm_counters p (messages_of v.consumer.taken)
      → k.registry ≡ storm_counters p (messages_of w.consumer.taken)
  work_counters before =
      let old = messages_of v.consumer.taken in
      let new = messages_of works.messages in
      let after : k.registry ≡ counters_after l.registry new =
      ap (λ (x : Ledger). x.registry) works.folded ∙ fold_counters l new in
      let all : messages_of w.consumer.taken ≡ old ++ new =
      ap messages_of works.received ∙ messages_of-append v.consumer.taken works.messages in
      after ∙ (ap (λ r. counters_after r new) before
      ∙ (sym (counters_after-append (fresh_registry p.clients 0) old new) ∙ sym (ap (storm_counters p) all)))

-- The number of counters -------------------------------------------------------

after_count : (r : Registry) (ms : List Message) → count_of (counters_after r ms) ≡ count_of r
after_count r [] = refl
after_count r (m ∷ ms) = after_count (applied 0 r m).registry ms ∙ (reads 0 r (command_of m.type_id m.body)).count

-- there is one for each client
pub storm_count : (p : StormPlan) (ms : List Message) → count_of (storm_counters p ms) ≡ p.clients
storm_count p ms = after_count (fresh_registry p.clients 0) ms ∙ length-replicate p.clients unused_counter

-- What is left -----------------------------------------------------------------

one_at_most : (stage : Stage) (m : PlacedMessage) → length (shown_at stage m) ≤ 1
one_at_most Moved m = omega arith
one_at_most Padded m = omega arith
one_at_most (Stored Open) m = omega arith
one_at_most (Stored Committed) m = omega arith
one_at_most (Stored Aborted) m = omega arith

few_committed : (cs : List StagedClaim) → length (placed_committed_of cs) ≤ length cs
few_committed [] = omega arith
few_committed (c ∷ cs) =
    let here = shown_at c.stage (placed_message c) in
    let one = one_at_most c.stage (placed_message c) in
    let others = few_committed cs in
    let both = length-append here (placed_committed_of cs) in
    omega arith

-- what a storm that took all commands has, once it finished: v and w are what producer and conductor knew of the ring
pub record Ended (p : StormPlan) (v w : View) (rest : Ring) (counters : Registry) (sent : List Record)
    (heard : List Joined) (services : List Service) : Type 0 where
  pub lawful : IsPlan p
  pub out : HandsOut p.ring 0 v w rest
  pub whole : IsWhole (sent_in v) (messages_of w.consumer.taken) rest
  pub settled : open_count v.producer.claims ≡ 0
  pub few : length v.producer.claims ≤ all_commands p
  pub done : all_commands p ≤ length w.consumer.taken
  pub turns : AreAllTurns p.commands p.clients v.producer.claims heard services
  pub drawn : ℕ
  pub once : (x : ℕ) → drawn_in x services ≡ once_below x drawn
  pub runs : AreAllRuns sent heard
  pub counters_are : counters ≡ storm_counters p (messages_of w.consumer.taken)
  pub writes : List ValueWrite
  pub folded : ∥ IsFoldOf (messages_of w.consumer.taken) counters writes (messages_in sent) ∥₁

module _ (p : StormPlan) (v w : View) (rest : Ring) (counters : Registry) (sent : List Record)
    (heard : List Joined) (services : List Service) (ended : Ended p v w rest counters sent heard services) where
  -- nothing is left, so that the messages taken are those of the claims
  all_taken : messages_of w.consumer.taken ≡ messages_of (placed_committed_of v.producer.claims)
  all_taken =
      let out = ended.out in
      let left = ended.whole.unread in
      let whole = ended.whole.all in
      let both = ap length whole in
      let sum = length-append (messages_of w.consumer.taken) left in
      let took = lengths w.consumer.taken in
      let committed = lengths (placed_committed_of v.producer.claims) in
      let few = few_committed v.producer.claims in
      let most = ended.few in
      let least = ended.done in
      let none = nothing left (omega arith) in
      sym (append-nil (messages_of w.consumer.taken))
      ∙ (sym (ap (λ l. messages_of w.consumer.taken ++ l) none) ∙ whole)

  report_of : (r : StormReport) → r.received ≡ length w.consumer.taken → r.seen ≡ all_commands p
      → ((h : List Claim) → Has rest h → AllSettled h → r.left ≡ length (committed_of h))
      → r.live ≡ length (live_of counters) → r.sum ≡ sum_of (live_of counters)
      → IsReportBy p r v.producer.claims (messages_of w.consumer.taken) sent heard services counters ended.writes
  report_of r received seen left live sum =
      let all = drained p.ring 0 v w rest ended.out (none_open v.producer.claims ended.settled).0 r.left left in
      let few = few_committed v.producer.claims in
      let most = ended.few in
      let least = ended.done in
      let messages = messages_of w.consumer.taken in
      let lawful = ended.lawful in
      let draws = all_drawn ended.drawn services ended.once
      ∙ all_draws p.commands p.clients v.producer.claims heard services ended.turns in
      let folded = subst (λ r. ∥ IsFoldOf messages r ended.writes (messages_in sent) ∥₁) ended.counters_are
      ended.folded in
      let claimed = subst (λ ms. ∥ IsFoldOf ms (storm_counters p messages) ended.writes (messages_in sent) ∥₁)
      all_taken folded in
      record {
        received = omega arith;
        left = omega arith;
        seen = seen;
        ordered = ended.out.ordered;
        turns = ended.turns;
        once = λ x. ended.once x ∙ ap (once_below x) draws;
        taken = lengths w.consumer.taken ∙ sym received;
        whole = all_taken;
        runs = ended.runs;
        folded = ended.folded;
        counters = ended.counters_are;
        live = live;
        clients = live ∙ (ap (λ c. length (live_of c)) ended.counters_are
            ∙ (ap (λ ms. length (live_of (storm_counters p ms))) all_taken
            ∙ storm_live p v.producer.claims heard services lawful.commands.0 lawful.clients.1 ended.turns));
        sum = sum;
        own = storm_own p.clients p.commands v.producer.claims heard services sent lawful.clients.1 lawful.commands.0
            lawful.commands.1 ended.turns ended.runs ended.drawn ended.once (storm_counters p messages) ended.writes
            (storm_count p messages) claimed;
        total = sum ∙ (ap (λ c. sum_of (live_of c)) ended.counters_are
            ∙ storm_sum p.clients p.commands v.producer.claims heard services sent lawful.clients.1 lawful.commands.0
            lawful.commands.1 ended.turns ended.runs ended.drawn ended.once (storm_counters p messages) ended.writes
            (storm_count p messages) claimed);
      }

  -- the report of a storm that took all commands
  pub reported : (r : StormReport) (n m : ℕ) → n ≡ length w.consumer.taken → m ≡ all_commands p
      → (r.received ≡ n) × (r.seen ≡ m)
      → ((h : List Claim) → Has rest h → AllSettled h → r.left ≡ length (committed_of h))
      → r.live ≡ length (live_of counters) → r.sum ≡ sum_of (live_of counters)
      → IsReportBy p r v.producer.claims (messages_of w.consumer.taken) sent heard services counters ended.writes
  reported r n m n_is m_is counts left live sum = report_of r (counts.0 ∙ n_is) (counts.1 ∙ m_is) left live sum

-- what is handed out, at the capacity and the start that are known
pub handed_at : (C start n : ℕ) (v w : View) (rest : Ring) → C ≡ n → start ≡ 0
    → HandsOut C start v w rest → HandsOut n 0 v w rest
handed_at C start n v w rest same begins out =
    subst (λ k. HandsOut k 0 v w rest) same (subst (λ s. HandsOut C s v w rest) begins out)

-- The broadcast buffer ---------------------------------------------------------

pub board_for : (p : StormPlan) (all n C : ℕ) → all ≡ all_commands p → C ≡ max n 256 → IsPowerOfTwo n → 24 * all + 1 ≤ n
    → n / 2 < max 1 (24 * all + 1) → IsBoardFor p C
board_for p all n C all_is C_is power low up = elim (cases_lt n 256) as (λ _. IsBoardFor p C) [
  | inl small ↦
      let same : C ≡ 256 = omega arith in
      record { power = (8, same); least = omega arith; room = omega arith; tight = inl same }
  | inr great ↦
      let same : C ≡ n = omega arith in
      record {
        power = subst IsPowerOfTwo (sym same) power;
        least = omega arith;
        room = omega arith;
        tight =
            inr (omega arith);
      }
]
