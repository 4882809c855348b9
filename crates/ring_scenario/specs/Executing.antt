-- The effects of lines, with the text that they print.
use Rattle.std.specs.Prelude.{◌≡◌, ◌↔◌, ℕ, List, codes, IfOk, Result, Err}
use Rattle.ring_layout.specs.declared.message.ClaimState.TheVariants.{Aborted, Committed}
use Rattle.ring_table.specs.{ServiceSteps.DrawsId, ServiceSteps.LoadsHeartbeat, Views.with_beat}
use Rattle.ring_protocol.specs.Command.{content_of_owned}
use Rattle.ring_storm.specs.{Storming.IsPlan, Storming.IsReportOf, declared.plan.StormReport.StormReport}
use Rattle.ring_storm.specs.declared.plan.{StormFault.StormFault, StormFault.TheVariants.BadPlan, StormPlan.StormPlan}
use Rattle.ring_scenario.specs.declared.lines.{call.Call.Call, service_call.ServiceCall.ServiceCall}
use Rattle.ring_scenario.specs.declared.lines.call.Call.TheVariants as call
use Rattle.ring_scenario.specs.declared.lines.service_call.ServiceCall.TheVariants as asks
use Rattle.ring_ends.specs.{End.Does, End.LoadsThem, Held.IsFree, Held.held_in}
use Rattle.ring_scenario.specs.declared.{runner.Runner.Runner, service.CommandService.CommandService}
use Rattle.ring_scenario.specs.BoardLines.{LeavesLine, ReceivesLine, SubscribesLine, TransmitsLine}
use Rattle.ring_scenario.specs.{RefusalTexts.storm_refused, RingLines.WritesLine, ServiceTexts.storm_text}
use Rattle.ring_scenario.specs.RingLines.{CallsLine, ClaimsLine, ControlsLine, HasNoClaim, KeepsButReading, PutsLine, ReadsLine, SettlesLine}
use Rattle.ring_scenario.specs.SeatLines.{HearsLine, ListensLine, PeeksLine, UnwatchesLine, WatchesLine}
use Rattle.ring_scenario.specs.ServiceLines.{CountsLine, RequestsLine, SendsLine, WorksLine, owner_text}
use Rattle.ring_scenario.specs.Serving.{FitsRoom}
use Rattle.ring_scenario.specs.Texts.{answer_text, number_text, ok_text, positions_text}

-- a line of the conductor's side made its call, and the text is the result of the call
abbrev pub Serves : ServiceCall → CommandService → CommandService → List ℕ → Type 0
Serves (asks.Send type_id body) old new text = SendsLine type_id body.items old new text
Serves (asks.Request request) old new text = RequestsLine (content_of_owned request) old new text
Serves (asks.Work now limit) old new text = WorksLine now.ms limit old new text
Serves asks.Listen old new text = ListensLine old new text
Serves (asks.Hear number) old new text = HearsLine number old new text
Serves asks.Counters old new text = CountsLine old text × (new ≡ old)
Serves (asks.Owner id) old new text = (text ≡ owner_text id old) × (new ≡ old)
Serves asks.Watch old new text = WatchesLine old new text
Serves (asks.Peek number id) old new text = PeeksLine number id old new text
Serves (asks.Unwatch number) old new text = UnwatchesLine number old new text

-- a line of the conductor's side cannot be executed, because nothing is kept under its number or its command has no
-- room
abbrev pub CannotServe : ServiceCall → CommandService → Type 0
CannotServe (asks.Request request) s = ¬ FitsRoom (content_of_owned request)
CannotServe (asks.Hear number) s = IsFree (held_in s.listeners) number
CannotServe (asks.Peek number id) s = IsFree (held_in s.watchers) number
CannotServe (asks.Unwatch number) s = IsFree (held_in s.watchers) number
CannotServe other s = ⊥

-- the plan of a storm whose ring is as large as the command ring
abbrev pub plan_of : ℕ → ℕ → Runner → StormPlan
plan_of clients commands r =
    record { clients = clients; commands = commands; ring = r.commands; turns = 50000000 }

-- a storm was run, or refused
pub record StormsLine (plan : StormPlan) (text : List ℕ) : Type 0 where
  pub ran : Result StormReport StormFault
  pub bad_plan : (ran ≡ Err BadPlan) ↔ (IsPlan plan → ⊥)
  pub report : IfOk ran (IsReportOf plan)
  pub prints : text ≡ answer_text storm_text storm_refused ran

-- a line made its call, and the text is the result of the call
abbrev pub Executes : Call → Runner → Runner → List ℕ → Type 0
Executes (call.Write type_id body) old new text = WritesLine type_id body.items old.ring new.ring text
Executes (call.Claim type_id len) old new text = ClaimsLine type_id len old.ring new.ring text
Executes (call.Put number offset bytes) old new text = PutsLine number offset bytes.items old.ring new.ring text
Executes (call.Commit number) old new text = SettlesLine Committed number old.ring new.ring text
Executes (call.Abort number) old new text = SettlesLine Aborted number old.ring new.ring text
Executes (call.Read limit) old new text = ReadsLine limit old.ring new.ring text
Executes (call.Control limit actions) old new text = ControlsLine limit actions.items old.ring new.ring text
Executes call.Positions old new text =
    CallsLine (Does (LoadsThem old.ring.producer.end.capacity)) positions_text old.ring new.ring text
Executes call.Correlation old new text =
    CallsLine (Does DrawsId) (number_text (codes "correlation")) old.ring new.ring text
Executes (call.Beat value) old new text = Does (λ v (r : Unit {0}) w. w ≡ with_beat value v) old.ring.consumer tt
    new.ring.consumer × KeepsButReading old.ring new.ring × (text ≡ ok_text)
Executes call.Heartbeat old new text = CallsLine (Does (LoadsHeartbeat old.ring.producer.end.capacity))
    (number_text (codes "heartbeat")) old.ring new.ring text
Executes (call.Transmit type_id body) old new text = TransmitsLine type_id body.items old.board new.board text
Executes call.Subscribe old new text = SubscribesLine old.board new.board text
Executes (call.Receive number) old new text = ReceivesLine number old.board new.board text
Executes (call.Leave number) old new text = LeavesLine number old.board new.board text
Executes (call.Storm clients commands) old new text = StormsLine (plan_of clients commands old) text
Executes (call.Service c) old new text = Serves c old.service new.service text

-- a line cannot be executed, because nothing is kept under its number or its command has no room
abbrev pub CannotExecute : Call → Runner → Type 0
CannotExecute (call.Put number offset bytes) r = HasNoClaim r.ring number
CannotExecute (call.Commit number) r = HasNoClaim r.ring number
CannotExecute (call.Abort number) r = HasNoClaim r.ring number
CannotExecute (call.Receive number) r = IsFree (held_in r.board.receivers) number
CannotExecute (call.Leave number) r = IsFree (held_in r.board.receivers) number
CannotExecute (call.Service c) r = CannotServe c r.service
CannotExecute other r = ⊥
