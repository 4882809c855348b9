-- What is left of a run's cycles leads to the whole run.
use Rattle.std.proofs.Common.{◌≡◌, ◌≢◌, ℕ, ◌+◌, ◌<◌, ◌≤◌, List, [], ◌∷◌, length, drop, get_or, refl, subst, inl, inr, arith}
use Rattle.std.proofs.lemmas.List.{drop_all, drop_more}
use Rattle.ring_table.specs.declared.view.View.{View}
use Rattle.ring_service.specs.{declared.conductor.Cycle.Cycle, declared.conductor.Work.Work, Conducting.Works}
use Rattle.ring_service.specs.declared.conductor.WorkStop.{WorkStop, TheVariants.BoardEnd, TheVariants.Limit}
use Rattle.ring_service.specs.{Fold.Ledger, Running.Runs, Running.report}
use Rattle.ring_layout.specs.Lists.{Begins}
use Rattle.ring_service.proofs.AccountLemmas.{runs_grow, runs_heard}

-- with this many messages so far, a run of these cycles makes one of all
abbrev pub Leads : List Cycle → View → Ledger → List Cycle → WorkStop → ℕ → View → Ledger → Type 0
Leads cycles v l cs last n u j = (w : View) (k : Ledger) (others : Work) → Runs cs last u w j k others
    → Runs cycles Limit v w l k (report (n + others.messages) others.stopped)

module _ (cycles : List Cycle) (v : View) (l : Ledger) where
  counted_as : (w : View) (k : Ledger) (m n : ℕ) (stopped : WorkStop) → m ≡ n
      → Runs cycles Limit v w l k (report m stopped) → Runs cycles Limit v w l k (report n stopped)
  counted_as w k m n stopped e r = subst (λ (x : ℕ). Runs cycles Limit v w l k (report x stopped)) e r

  module _ (c : Cycle) (cs : List Cycle) (last : WorkStop) (n : ℕ) (u y : View) (j z : Ledger) (first : Work)
      (leads : Leads cycles v l (c ∷ cs) last n u j) (works : Works c.now c.limit u y j z first) where
    leads_on : first.stopped ≢ BoardEnd → Leads cycles v l cs first.stopped (n + first.messages) y z
    leads_on on w k others r =
        counted_as w k (n + (first.messages + others.messages)) (n + first.messages + others.messages) others.stopped
        (omega arith)
        (leads w k (report (first.messages + others.messages) others.stopped)
        (y, z, first, works, inr (on, (others, r, refl))))

  leads_out : (last : WorkStop) (n : ℕ) (u : View) (j : Ledger) → Leads cycles v l [] last n u j
      → Runs cycles Limit v u l j (report n last)
  leads_out last n u j leads =
      counted_as u j (n + 0) n last (omega arith) (leads u j (report 0 last) (refl, refl, refl))

-- After the first i cycles -------------------------------------------------------

-- means a cycle after the last
abbrev idle : Cycle
idle = record { now = 0; limit = 0 }

module _ (cycles : List Cycle) (v : View) (l : Ledger) (i : ℕ) (last : WorkStop) (n : ℕ) (u : View) (j : Ledger)
    (leads : Leads cycles v l (drop i cycles) last n u j) where
  -- if they are all
  module _ (out : length cycles ≤ i) where
    pub runs_out : Runs cycles Limit v u l j (report n last)
    runs_out =
        leads_out cycles v l last n u j (subst (λ (cs : List Cycle). Leads cycles v l cs last n u j)
        (drop_all i cycles out) leads)

    pub grows_out : Begins l.board.sent j.board.sent
    grows_out = runs_grow cycles Limit v u l j (report n last) runs_out

    pub heard_out : j.board.heard ≡ l.board.heard
    heard_out = runs_heard cycles Limit v u l j (report n last) runs_out

  -- and one more
  module _ (less : i < length cycles) (y : View) (z : Ledger) (first : Work)
      (works : Works (get_or cycles i idle).now (get_or cycles i idle).limit u y j z first) where
    next : Leads cycles v l (get_or cycles i idle ∷ drop (i + 1) cycles) last n u j
    next = subst (λ (cs : List Cycle). Leads cycles v l cs last n u j) (drop_more cycles i idle less) leads

    pub leads_next : first.stopped ≢ BoardEnd
        → Leads cycles v l (drop (i + 1) cycles) first.stopped (n + first.messages) y z
    leads_next on = leads_on cycles v l (get_or cycles i idle) (drop (i + 1) cycles) last n u y j z first next works on

    -- which came to the end of the broadcast buffer
    module _ (stop : first.stopped ≡ BoardEnd) where
      runs_stopped : Runs cycles Limit v y l z (report (n + first.messages) first.stopped)
      runs_stopped = next y z first (y, z, first, works, inl (stop, refl, refl, refl))

      pub grows_stopped : Begins l.board.sent z.board.sent
      grows_stopped = runs_grow cycles Limit v y l z (report (n + first.messages) first.stopped) runs_stopped

      pub heard_stopped : z.board.heard ≡ l.board.heard
      heard_stopped = runs_heard cycles Limit v y l z (report (n + first.messages) first.stopped) runs_stopped
