-- The calls that the words of a line ask for.
use Rattle.std.specs.Prelude.{ℕ, List}
use Rattle.ring_protocol.specs.Command.{OwnedRequest}
use Rattle.ring_protocol.specs.declared.command.Request.TheVariants as request
use Rattle.ring_scenario.specs.declared.lines.{call.Call.Call, call.Line.Line, service_call.ServiceCall.ServiceCall}
use Rattle.ring_scenario.specs.declared.lines.call.Call.TheVariants as call
use Rattle.ring_scenario.specs.declared.lines.call.Line.TheVariants as line
use Rattle.ring_scenario.specs.declared.lines.name.Name.TheVariants.{Write, Claim, Put, Commit, Abort, Read, Control, Positions, Correlation, Beat, Heartbeat, Transmit, Subscribe, Receive, Leave, Storm, Send, Allocate, Own, Free, Set, Close, Work, Listen, Hear, Counters, Owner, Watch, Peek, Unwatch}
use Rattle.ring_scenario.specs.declared.lines.service_call.ServiceCall.TheVariants as asks
use Rattle.ring_scenario.specs.{Cutting.IsBlank, Cutting.IsEnd, Forms.Form, Forms.Spell}

-- the form of the line that asks for a command
abbrev pub form_of_request : OwnedRequest → Form
form_of_request (request.Allocate type_id key label) = (Allocate, (type_id, (key.items, (label.items, tt))))
form_of_request (request.Free id) = (Free, (id, tt))
form_of_request (request.Set id value) = (Set, (id, (value, tt)))
form_of_request (request.AllocateOwned type_id owner key label) = (Own, (owner, (type_id, (key.items, (label.items, tt)))))
form_of_request (request.Close owner) = (Close, (owner, tt))

-- the form of the line that asks for a call of the conductor's side
abbrev pub form_of_service : ServiceCall → Form
form_of_service (asks.Send type_id body) = (Send, (type_id, (body.items, tt)))
form_of_service (asks.Request it) = form_of_request it
form_of_service (asks.Work now limit) = (Work, (now, (limit, tt)))
form_of_service asks.Listen = (Listen, tt)
form_of_service (asks.Hear number) = (Hear, (number, tt))
form_of_service asks.Counters = (Counters, tt)
form_of_service (asks.Owner id) = (Owner, (id, tt))
form_of_service asks.Watch = (Watch, tt)
form_of_service (asks.Peek number id) = (Peek, (number, (id, tt)))
form_of_service (asks.Unwatch number) = (Unwatch, (number, tt))

-- the form of the line that asks for a call
abbrev pub form_of : Call → Form
form_of (call.Write type_id body) = (Write, (type_id, (body.items, tt)))
form_of (call.Claim type_id len) = (Claim, (type_id, (len, tt)))
form_of (call.Put number offset bytes) = (Put, (number, (offset, (bytes.items, tt))))
form_of (call.Commit number) = (Commit, (number, tt))
form_of (call.Abort number) = (Abort, (number, tt))
form_of (call.Read limit) = (Read, (limit, tt))
form_of (call.Control limit actions) = (Control, (limit, (actions.items, tt)))
form_of call.Positions = (Positions, tt)
form_of call.Correlation = (Correlation, tt)
form_of (call.Beat value) = (Beat, (value, tt))
form_of call.Heartbeat = (Heartbeat, tt)
form_of (call.Transmit type_id body) = (Transmit, (type_id, (body.items, tt)))
form_of call.Subscribe = (Subscribe, tt)
form_of (call.Receive number) = (Receive, (number, tt))
form_of (call.Leave number) = (Leave, (number, tt))
form_of (call.Storm clients commands) = (Storm, (clients, (commands, tt)))
form_of (call.Service it) = form_of_service it

-- the words ask for this call
abbrev pub AsksFor : Call → List (List ℕ) → Type 0
AsksFor it words = Spell (form_of it) words

-- the words ask for this call of the conductor's side
abbrev pub AsksToServe : ServiceCall → List (List ℕ) → Type 0
AsksToServe it words = Spell (form_of_service it) words

-- the words are this line
abbrev pub IsLine : Line → List (List ℕ) → Type 0
IsLine line.Nothing words = IsBlank words
IsLine (line.Call call) words = AsksFor call words
IsLine line.End words = IsEnd words

-- the words ask for no call
abbrev pub AsksForNone : List (List ℕ) → Type 0
AsksForNone words = (call : Call) → AsksFor call words → ⊥
