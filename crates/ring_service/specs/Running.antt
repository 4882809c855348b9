-- Several calls of `do_work`, one after another.
use Rattle.std.specs.Prelude.{◌≡◌, ◌≢◌, ◌⊎◌, ℕ, ◌+◌, List, [], ◌∷◌}
use Rattle.ring_table.specs.declared.view.View.{View}
use Rattle.ring_service.specs.declared.conductor.{Cycle.Cycle, WorkStop.WorkStop, WorkStop.TheVariants.BoardEnd}
use Rattle.ring_service.specs.{declared.conductor.Work.Work, Fold.Ledger, Conducting.Works}

abbrev pub report : ℕ → WorkStop → Work
report messages stopped = record { messages = messages; stopped = stopped }

-- A call was made for each cycle, up to a cycle that reached the end of the broadcast buffer. The report has the sum of
-- the messages and the last stop, or `last` if there is no cycle.
abbrev pub Runs : List Cycle → WorkStop → View → View → Ledger → Ledger → Work → Type 0
Runs [] last v w l k done = (w ≡ v) × (k ≡ l) × (done ≡ report 0 last)
Runs (c ∷ cs) last v w l k done =
    (u : View) × (j : Ledger) × (first : Work) × Works c.now c.limit v u l j first
    × (((first.stopped ≡ BoardEnd) × (w ≡ u) × (k ≡ j) × (done ≡ first))
    ⊎ ((first.stopped ≢ BoardEnd) × ((others : Work) × Runs cs first.stopped u w j k others
    × (done ≡ report (first.messages + others.messages) others.stopped))))
