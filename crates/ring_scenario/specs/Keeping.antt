-- The parts that lines leave as they were.
use Rattle.std.specs.Prelude.{◌≡◌, true}
use Rattle.ring_scenario.specs.declared.lines.call.Call.{Call}
use Rattle.ring_scenario.specs.declared.lines.call.Call.TheVariants.{Receive, Leave, Service, Storm, Subscribe, Transmit}
use Rattle.ring_scenario.specs.declared.{runner.Runner.Runner, service.CommandService.CommandService}

-- the conductor's side is as it was, and so is the capacity of a storm's ring
abbrev pub KeepsService : Runner → Runner → Type 0
KeepsService old new =
    (new.service ≡ old.service) × (new.serves ≡ old.serves) × (new.commands ≡ old.commands)

-- all parts except the ring are as they were
abbrev pub KeepsButRing : Runner → Runner → Type 0
KeepsButRing old new = (new.board ≡ old.board) × KeepsService old new

-- all parts except the broadcast buffer are as they were
abbrev pub KeepsButBoard : Runner → Runner → Type 0
KeepsButBoard old new = (new.ring ≡ old.ring) × KeepsService old new

-- all parts except those of the conductor are as they were
abbrev pub KeepsOthers : Runner → Runner → Type 0
KeepsOthers old new = (new.ring ≡ old.ring) × (new.board ≡ old.board) × (new.serves ≡ old.serves)
    × (new.commands ≡ old.commands)

-- all parts except those of the conductor are as they were, and it is known that a line used the conductor's side
abbrev pub KeepsButService : Runner → Runner → Type 0
KeepsButService old new =
    (new.ring ≡ old.ring) × (new.board ≡ old.board) × (new.serves ≡ true) × (new.commands ≡ old.commands)

-- the parts that a line does not name are as they were
abbrev pub KeepsRest : Call → Runner → Runner → Type 0
KeepsRest (Transmit type_id body) old new = KeepsButBoard old new
KeepsRest Subscribe old new = KeepsButBoard old new
KeepsRest (Receive number) old new = KeepsButBoard old new
KeepsRest (Leave number) old new = KeepsButBoard old new
KeepsRest (Storm clients commands) old new = new ≡ old
KeepsRest (Service c) old new = KeepsButService old new
KeepsRest other old new = KeepsButRing old new

-- The conductor's side -----------------------------------------------------------

-- the ring, the broadcast buffer and the values of the conductor's side are as they were
abbrev pub KeepsShared : CommandService → CommandService → Type 0
KeepsShared old new = (new.ring ≡ old.ring) × (new.board ≡ old.board) × (new.values ≡ old.values)

-- the command ring and its producer are as they were
abbrev pub KeepsRing : CommandService → CommandService → Type 0
KeepsRing old new = (new.ring ≡ old.ring) × (new.producer ≡ old.producer)

-- all parts except the producer are as they were
abbrev pub KeepsButProducer : CommandService → CommandService → Type 0
KeepsButProducer old new = KeepsShared old new × (new.conductor ≡ old.conductor) × (new.listeners ≡ old.listeners)
    × (new.watchers ≡ old.watchers)

-- all parts except the conductor are as they were
abbrev pub KeepsButConductor : CommandService → CommandService → Type 0
KeepsButConductor old new = KeepsShared old new × (new.producer ≡ old.producer) × (new.listeners ≡ old.listeners)
    × (new.watchers ≡ old.watchers)

-- all parts except the conductor and the listeners are as they were
abbrev pub KeepsButListeners : CommandService → CommandService → Type 0
KeepsButListeners old new =
    KeepsShared old new × (new.producer ≡ old.producer) × (new.watchers ≡ old.watchers)

-- all parts except the conductor and the watchers are as they were
abbrev pub KeepsButWatchers : CommandService → CommandService → Type 0
KeepsButWatchers old new =
    KeepsShared old new × (new.producer ≡ old.producer) × (new.listeners ≡ old.listeners)
