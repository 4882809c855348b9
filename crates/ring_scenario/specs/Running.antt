-- The effect of a run on the lines of a text, and all text that it prints.
use Rattle.std.specs.Prelude.{◌≡◌, ◌⊎◌, ◌↔◌, ℕ, ◌+◌, List, [], ◌∷◌, ◌++◌, IfSome, IsSome, IsTrue, Option, None, Some, codes, decimal, length}
use Rattle.std.specs.Io.KnownBytes.{Appends}
use Rattle.ring_board.specs.{Runs.AreAllRuns, Board.transmitted, Seats.view_of}
use Rattle.ring_counters.specs.{Manager.registry_of, Registry.live_of}
use Rattle.ring_scenario.specs.{declared.lines.call.Call.Call, Asking.AsksFor, Asking.AsksForNone}
use Rattle.ring_scenario.specs.Cutting.{AllBlank, IsBlank, IsEnd, lines_of, words_of}
use Rattle.ring_ends.specs.{Held.held_in, Receivers.all_left}
use Rattle.ring_scenario.specs.{Closing.LeavesMessages, Closing.TookAndLeft, Closing.read_count, Keeping.KeepsRest}
use Rattle.ring_scenario.specs.{declared.options.Options.Options, Executing.CannotExecute, Executing.Executes}
use Rattle.ring_scenario.specs.declared.{runner.Ended.Ended, runner.Runner.Runner, service.closing.Served.Served}
use Rattle.ring_scenario.specs.Making.{RunsBy}

-- the words ask for a call, which was executed, and printed this text
pub record MakesCall (words : List (List ℕ)) (old new : Runner) (text : List ℕ) : Type 0 where
  pub call : Call
  pub asks : AsksFor call words
  pub executes : Executes call old new text
  pub rest : KeepsRest call old new

-- A line ran. Either it is blank and did nothing, or its call was made.
abbrev pub RunsLine : List ℕ → Runner → Runner → List ℕ → Type 0
RunsLine line old new text =
    (IsBlank (words_of line) × (new ≡ old) × (text ≡ [])) ⊎ MakesCall (words_of line) old new text

-- lines ran, each once and in order, and this is all text that they printed
abbrev pub RunsLines : List (List ℕ) → Runner → Runner → List ℕ → Type 0
RunsLines [] old new text = (new ≡ old) × (text ≡ [])
RunsLines (line ∷ more) old new text = (between : Runner) × (first rest : List ℕ)
    × RunsLine line old between first × RunsLines more between new rest × (text ≡ first ++ rest)

-- the lines before these ran, and the text that they printed was written
pub record HaveRun (lines left : List (List ℕ)) (old new : Runner) (was now : Option (List ℕ)) : Type 0 where
  pub taken : List (List ℕ)
  pub whole : lines ≡ taken ++ left
  pub printed : List ℕ
  pub runs : RunsLines taken old new printed
  pub written : Appends was now printed

-- The lines before a line that is `end` alone ran. This line, which has this number, was taken.
pub record RunsToEnd (old new : List ℕ) (before after : Runner) (was now : Option (List ℕ)) (number : ℕ)
    : Type 0 where
  pub line : List ℕ
  pub ran : HaveRun (lines_of old) (line ∷ lines_of new) before after was now
  pub end_alone : IsEnd (words_of line)
  pub counted : number ≡ length ran.taken + 1

-- the second line that `end` prints, if a conductor finished
abbrev pub finished_text : Option Served → List ℕ
finished_text None = []
finished_text (Some s) = codes "finished received " ++ (decimal s.received ++ (codes " left " ++ (decimal s.left
    ++ (codes " live " ++ (decimal (length (live_of (registry_of s.counters))) ++ codes "\n")))))

-- the first line that `end` prints
abbrev pub end_text : Ended → List ℕ
end_text e = codes "end messages " ++ (decimal e.messages ++ (codes " left " ++ (decimal e.left ++ codes "\n")))

-- all that `end` prints
abbrev pub ended_text : Ended → List ℕ
ended_text e = end_text e ++ finished_text e.served

-- A runner was closed. The result has the number of messages that the reads took, and the number of messages that are
-- left. Together these are all committed messages. It also has the runs of the broadcast buffer's messages that its
-- receivers copied. If a line used the conductor, it has the conductor's result too.
pub record EndsAs (r : Runner) (e : Ended) : Type 0 where
  pub messages : e.messages ≡ read_count r.ring
  pub left : LeavesMessages r.ring e.left
  pub copies : AreAllRuns (transmitted r.board.transmitter)
      (all_left (held_in r.board.receivers) (view_of r.board.transmitter)).heard
  pub served : IsSome e.served ↔ IsTrue r.serves
  pub finished : IfSome e.served (TookAndLeft r.service)

-- Lines ran up to the first that is `end` alone, each once and in order. Then the runner was closed. The text that was
-- written is what all of these printed. The line of `end` has this number, and these lines are left.
pub record RunsAndEnds (lines left : List (List ℕ)) (r : Runner) (was now : Option (List ℕ)) (number : ℕ)
    : Type 0 where
  pub before : List (List ℕ)
  pub line : List ℕ
  pub whole : lines ≡ before ++ line ∷ left
  pub end_alone : IsEnd (words_of line)
  pub counted : number ≡ length before + 1
  pub last : Runner
  pub printed : List ℕ
  pub runs : RunsLines before r last printed
  pub ended : Ended
  pub ends : EndsAs last ended
  pub written : Appends was now (printed ++ ended_text ended)

-- a text ran up to its line `end`, and the lines after it are blank
abbrev pub RunsText : List ℕ → Runner → Option (List ℕ) → Option (List ℕ) → Type 0
RunsText text r was now = (after : List (List ℕ)) × (number : ℕ) × RunsAndEnds (lines_of text) after r was now number
    × AllBlank after

-- the words ask for no call, or for one that this runner cannot execute
abbrev pub CannotRun : Runner → List (List ℕ) → Type 0
CannotRun r words = AsksForNone words ⊎ ((call : Call) × AsksFor call words × CannotExecute call r)

-- The first of these lines is bad, or there is no line. A bad line is not blank and not `end` alone, and this runner
-- cannot run it.
abbrev pub BeginsBad : Runner → List (List ℕ) → Type 0
BeginsBad r [] = Unit {0}
BeginsBad r (line ∷ more) = ¬ IsBlank (words_of line) × ¬ IsEnd (words_of line) × CannotRun r (words_of line)

-- The lines before the line of this number ran, and the text that they printed was written. The line of this number is
-- missing or bad.
pub record StopsAt (lines : List (List ℕ)) (r : Runner) (was now : Option (List ℕ)) (number : ℕ) : Type 0 where
  pub left : List (List ℕ)
  pub last : Runner
  pub ran : HaveRun lines left r last was now
  pub bad : BeginsBad last left
  pub counted : number ≡ length ran.taken + 1

-- the line of this number is the first of these lines that is not blank, if this many lines came before them
pub record IsNotBlankAt (lines : List (List ℕ)) (taken number : ℕ) : Type 0 where
  pub blanks : List (List ℕ)
  pub line : List ℕ
  pub more : List (List ℕ)
  pub whole : lines ≡ blanks ++ line ∷ more
  pub blank : AllBlank blanks
  pub other : ¬ IsBlank (words_of line)
  pub counted : number ≡ taken + length blanks + 1

-- the line of this number is the one at which a run stopped, or the first line after its line `end` that is not blank
abbrev pub FailsAt : List ℕ → Runner → Option (List ℕ) → Option (List ℕ) → ℕ → Type 0
FailsAt text r was now number = StopsAt (lines_of text) r was now number
    ⊎ ((after : List (List ℕ)) × (taken : ℕ) × RunsAndEnds (lines_of text) after r was now taken
    × IsNotBlankAt after taken number)

-- a runner was made from the options, and the text ran
abbrev pub RunsScenario : Options → List ℕ → Option (List ℕ) → Option (List ℕ) → Type 0
RunsScenario options text was now = (r : Runner) × RunsBy options r × RunsText text r was now

-- a runner was made from the options, and ran up to the line of this number
abbrev pub FailsScenario : Options → List ℕ → Option (List ℕ) → Option (List ℕ) → ℕ → Type 0
FailsScenario options text was now number = (r : Runner) × RunsBy options r × FailsAt text r was now number
