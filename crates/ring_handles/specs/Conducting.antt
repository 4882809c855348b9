-- What calls of conductors do: c is the conductor before, d after, and the code is what is returned.
use Rattle.std.specs.Prelude.{◌≡◌, ◌⊎◌, ℕ, ℤ, pos, MatchOption}
use Rattle.ring_counters.specs.declared.manager.CountersManager.{CountersManager}
use Rattle.ring_service.specs.declared.conductor.{Work.Work, WorkStop.WorkStop}
use Rattle.ring_service.specs.declared.conductor.WorkStop.TheVariants.{Limit, Block, Unpublished, BoardEnd}
use Rattle.ring_service.specs.Conducting.{manager_in}
use Rattle.ring_ends.specs.declared.conductor.ConductorFault.{ConductorFault}
use Rattle.ring_ends.specs.declared.conductor.ConductorFault.TheVariants.{BadCapacity, BadCount, OutOfMemory}
use Rattle.ring_ends.specs.Conducting.{sizes_refusal, Beats, IsNew, SeatedConductor, TakesCommands}
use Rattle.ring_handles.specs.{Counting.AtMoment, declared.conductor.ConductorSide.ConductorSide}
use Rattle.ring_handles.specs.declared.identity.Identity.{Identity}
use Rattle.ring_layout.specs.declared.refusal_codes.TheConstants.{BAD_CAPACITY, BAD_COUNT, OUT_OF_MEMORY}
use Rattle.ring_handles.specs.declared.code.TheConstants.{DONE}

-- the call did this to the end, and the number stays
abbrev pub ByConductor : (SeatedConductor → SeatedConductor → Type 0) → ConductorSide → ConductorSide → Type 0
ByConductor Call c d = (d.identity ≡ c.identity) × Call c.end d.end

-- Making -------------------------------------------------------------------------

-- the number of the reason why no conductor was made
abbrev pub conductor_code : ConductorFault → ℤ
conductor_code BadCapacity = BAD_CAPACITY
conductor_code BadCount = BAD_COUNT
conductor_code OutOfMemory = OUT_OF_MEMORY

-- sizes are refused with the number of the refusal; if there is none a conductor is made, unless memory runs out
abbrev pub IsConductorCode : ℕ → ℕ → ℕ → ℤ → Type 0
IsConductorCode C R count code =
    MatchOption (sizes_refusal C R count) ((code ≡ DONE) ⊎ (code ≡ OUT_OF_MEMORY)) (λ fault. code ≡ conductor_code fault)

-- a new conductor of these sizes, with this number
abbrev pub IsNewConductor : Identity → ℕ → ℕ → ℕ → ℕ → ConductorSide → Type 0
IsNewConductor i C R count reuse_ms c = (c.identity ≡ i) × IsNew C R count reuse_ms c.end

-- Work ---------------------------------------------------------------------------

-- the number of why it stopped
abbrev pub stop_number : WorkStop → ℤ
stop_number Limit = pos 0
stop_number Block = pos 1
stop_number Unpublished = pos 2
stop_number BoardEnd = pos 3

-- what a call of work puts out: how many commands were taken, and the number of why it stopped
pub record Report : Type 0 where
  pub messages : ℕ
  pub stopped : ℤ

abbrev pub report_out : ℕ → ℤ → Report
report_out messages stopped = record { messages = messages; stopped = stopped }

abbrev pub reported : Work → Report
reported work = report_out work.messages (stop_number work.stopped)

-- the moment is above 2^62, and nothing changed; otherwise commands were taken, and the work is reported
abbrev pub Worked : ℕ → ℕ → Report → Report → ConductorSide → ConductorSide → ℤ → Type 0
Worked now limit before after c d code = AtMoment now ((d ≡ c) × (after ≡ before))
    ((code ≡ DONE) × (work : Work) × (after ≡ reported work)
    × ByConductor (λ p q. TakesCommands now limit p work q) c d) code

-- the heartbeat was stored
abbrev pub ConductorBeat : ℕ → ConductorSide → ConductorSide → ℤ → Type 0
ConductorBeat value c d code = (code ≡ DONE) × ByConductor (Beats value) c d

-- Counters -----------------------------------------------------------------------

-- P holds of what its counters reported, and nothing of the conductor changed
abbrev pub AsksIts : {T : Type 0} → (CountersManager → T → T → ℤ → Type 0) → T → T → ConductorSide → ConductorSide → ℤ
    → Type 0
AsksIts P before after c d code = (d ≡ c) × P (manager_in c.end.conductor) before after code
