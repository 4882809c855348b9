-- A controlled read by the conductor's handler is work.
use Rattle.std.proofs.Common.{◌≡◌, ◌∙◌, ℕ, List, ◌++◌, All, ◌+◌, ◌*◌, ◌<◌, ◌≤◌, ◌⊎◌, length, length-append, sym, ap, subst, inl, inr, arith}
use Rattle.ring_words.specs.{declared.read.end.ReadEnd.ReadEnd, declared.read.end.Stop.Stop, Controlled.GoesOn}
use Rattle.ring_words.specs.declared.read.end.Stop.TheVariants.{Limit, Block, Unpublished, Action}
use Rattle.ring_words.specs.Read.{stop_of}
use Rattle.ring_layout.specs.Handles.{Handles}
use Rattle.ring_table.specs.declared.view.View.{View}
use Rattle.ring_rings.specs.Reading.{Controls, WentOn, Broke, Aborts, EndsAt, ReadsStoring, last_after, messages_of, stored_from}
use Rattle.ring_service.specs.declared.conductor.{working.Serving.Serving, Work.Work}
use Rattle.ring_service.specs.declared.conductor.WorkStop.TheVariants as work
use Rattle.ring_service.specs.{Fold.Ledger, Serving.IsSameHandler, Serving.ActsOn, Serving.IsAtEnd, Serving.ledger_of}
use Rattle.ring_service.specs.Conducting.{IsCutOff, IsReadOut, Works, work_stop}
use Rattle.ring_rings.proofs.ReceivedLemmas.{lengths}
use Rattle.ring_service.proofs.FoldLemmas.{Folds, folded, left, never_breaks, no_commits, answered}

is_unpublished : (stop : Stop) → work_stop stop ≡ work.Unpublished → stop ≡ Unpublished
is_unpublished Limit e = cc
is_unpublished Block e = cc
is_unpublished Unpublished e = cc
is_unpublished Action e = cc

module _ (limit : ℕ) (v w : View) (s t : Serving) (end : ReadEnd) where
  broke_off : Broke ActsOn limit v w s t end → ⊥
  broke_off broke =
      let ms = messages_of broke.reads.reads.messages in
      never_breaks s t ms broke.before
      (subst (λ actions. Handles ActsOn s ms actions t) broke.broke broke.reads.reads.handled)

  folds_on : (on : WentOn ActsOn limit v w s t end) → Folds s (messages_of on.reads.reads.messages) t
  folds_on on = folded s t (messages_of on.reads.reads.messages) on.reads.reads.actions on.reads.reads.handled on.went_on

  folds_off : (off : Aborts ActsOn limit v w s t end) → Folds s (messages_of off.reads.reads.messages) t
  folds_off off =
      let ms = messages_of off.reads.reads.messages in
      left s off.before t off.message ms (folded s off.before ms off.reads.reads.actions off.reads.reads.handled off.went_on)
      off.aborted

  -- the handler is the same afterwards
  pub stays : Controls ActsOn limit v w s t end → IsSameHandler s t
  stays (inl on) = (folds_on on).0
  stays (inr (inl broke)) = absurd (broke_off broke)
  stays (inr (inr off)) = (folds_off off).0

-- what a read and its report have in common
pub record Reported (limit : ℕ) (v w : View) (end : ReadEnd) (done : Work) : Type 0 where
  pub messages : done.messages ≡ end.messages
  pub stopped : done.stopped ≡ work_stop end.stopped
  pub ends : EndsAt limit v w end

module _ (limit : ℕ) (v w : View) (s t : Serving) (end : ReadEnd) (done : Work) (r : Reported limit v w end done) where
  abbrev Done : Type 0
  Done = Works s.now limit v w (ledger_of s) (ledger_of t) done

  -- whatever the read ended by
  told : {u : Serving} (stores : ReadsStoring ActsOn limit v w s u end.messages) → All GoesOn stores.reads.actions
      → Folds s (messages_of stores.reads.messages) t
      → IsReadOut limit v w done ⊎ IsCutOff limit v w (ledger_of t).board done → Done
  told {u} stores on f stops = let reads = stores.reads in record {
    messages = reads.messages;
    counted = r.messages ∙ reads.counted;
    few = subst (λ n. n ≤ limit) reads.counted r.ends.within;
    received = reads.taken;
    moves = reads.moves;
    heads = stores.heads
        ∙ ap (λ (ends : List ℕ). v.consumer.heads
        ++ (ends ++ stored_from (last_after v.consumer.head ends) w.consumer.head))
        (no_commits s u reads.messages reads.actions reads.handled on);
    tight = λ e. reads.tight (sym r.messages ∙ e);
    folded = f.1;
    had_room = f.2;
    stops = stops;
    blocked = λ e. r.ends.blocked (is_unpublished end.stopped (sym r.stopped ∙ e));
  }

  pub worked : Controls ActsOn limit v w s t end → Done
  worked (inl on) = told on.reads on.went_on (folds_on limit v w s t end on) (inl (record {
    bytes = end.bytes;
    moved = r.ends.bytes;
    stopped = r.stopped ∙ ap work_stop (on.stopped
        ∙ ap (λ n. stop_of w.capacity limit n w.consumer.head end.bytes) (sym r.messages));
  }))
  worked (inr (inl broke)) = absurd (broke_off limit v w s t end broke)
  worked (inr (inr off)) = let a = off.aborted in told off.reads off.went_on (folds_off limit v w s t end off) (inr (record {
    stopped = r.stopped ∙ ap work_stop off.stopped;
    command = off.message;
    next = off.next;
    before_limit = subst (λ n. n < limit) (sym r.messages) off.before_limit;
    before_end = off.before_end;
    full = subst (λ l. IsAtEnd l.board) (sym a.1) a.2;
  }))

-- What follows for the number of commands taken ------------------------------

module _ (now limit : ℕ) (v w : View) (l k : Ledger) (done : Work) (works : Works now limit v w l k done) where
  pub took : (n : ℕ) → n ≡ length v.consumer.taken → n + done.messages ≡ length w.consumer.taken
  took n old =
      let counted = works.counted in
      let all : length w.consumer.taken ≡ length v.consumer.taken + length works.messages =
      ap length works.received ∙ length-append v.consumer.taken works.messages in
      omega arith

  pub took_room : (n : ℕ) → 8 * n ≤ l.board.at → 8 * (n + done.messages) ≤ k.board.at
  took_room n old =
      let counted = works.counted in
      let same = lengths works.messages in
      let on = answered l now (messages_of works.messages) in
      let end = ap (λ (x : Ledger). x.board.at) works.folded in
      omega arith
