-- A ring that was closed.
use Rattle.std.specs.Prelude.{◌≡◌, List}
use Rattle.ring_layout.specs.declared.message.Message.{Message}
use Rattle.ring_rings.specs.Ring.{IsWhole}
use Rattle.ring_ends.specs.{End.received, End.sent, End.End, Ending.both, Ending.Last}
use Rattle.ring_uses.specs.declared.closing.Closed.{Closed}

-- the messages that the ring's producers sent
abbrev pub sent_in : Closed Last → List Message
sent_in closed = sent closed.ends.value.producer

-- the messages that the ring's consumer received
abbrev pub received_in : Closed Last → List Message
received_in closed = received closed.ends.value.consumer

-- the received messages, followed by the unread ones, are the messages that were sent
abbrev pub IsWholeIn : Closed Last → Type 0
IsWholeIn closed = IsWhole (sent_in closed) (received_in closed) closed.rest

-- the ring was closed with this producer and this consumer
pub record IsClosedWith (producer consumer : End) (closed : Closed Last) : Type 0 where
  pub ends : closed.ends.value ≡ both producer consumer
  pub whole : IsWhole (sent producer) (received consumer) closed.rest
