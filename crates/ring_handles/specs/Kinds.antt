-- What a handle holds, if it is of one kind.
use Rattle.std.specs.Prelude.{ℕ, MatchOption}
use Rattle.std.specs.declared.option.Option.{Option, TheVariants.None, TheVariants.Some}
use Rattle.ring_handles.specs.declared.{adders.AdderSide.AdderSide, held.Held.Held, client.ClientSide.ClientSide}
use Rattle.ring_handles.specs.{Side.Reading, Side.Side, Boards.Listening, Boards.Watching}
use Rattle.ring_handles.specs.declared.{conductor.ConductorSide.ConductorSide, boards.TransmitterSide.TransmitterSide}
use Rattle.ring_handles.specs.declared.counters.{CountersSide.CountersSide, ReaderSide.ReaderSide}
use Rattle.ring_handles.specs.declared.held.Held.TheVariants.{Producer, Consumer, Transmitter, Receiver, RawReceiver, Counters, Reader, Adder, Conductor, Client}

abbrev pub a_producer : Held → Option Side
a_producer (Producer p) = Some p
a_producer _ = None

abbrev pub a_consumer : Held → Option Reading
a_consumer (Consumer c) = Some c
a_consumer _ = None

abbrev pub a_transmitter : Held → Option TransmitterSide
a_transmitter (Transmitter t) = Some t
a_transmitter _ = None

abbrev pub a_receiver : Held → Option Listening
a_receiver (Receiver r) = Some r
a_receiver _ = None

abbrev pub a_raw_receiver : Held → Option Watching
a_raw_receiver (RawReceiver r) = Some r
a_raw_receiver _ = None

abbrev pub some_counters : Held → Option CountersSide
some_counters (Counters c) = Some c
some_counters _ = None

abbrev pub a_reader : Held → Option ReaderSide
a_reader (Reader r) = Some r
a_reader _ = None

abbrev pub an_adder : Held → Option AdderSide
an_adder (Adder a) = Some a
an_adder _ = None

abbrev pub a_conductor : Held → Option ConductorSide
a_conductor (Conductor c) = Some c
a_conductor _ = None

abbrev pub a_client : Held → Option ClientSide
a_client (Client c) = Some c
a_client _ = None

-- the handle holds one of this kind, of which P holds
abbrev pub HoldsOne : {S : Type 0} → (Held → Option S) → (S → Type 0) → Option Held → Type 0
HoldsOne kind P held = MatchOption held ⊥ (λ h. MatchOption (kind h) ⊥ P)

-- the bytes of the ring's or the board's buffer
abbrev pub capacity_held : Held → Option ℕ
capacity_held (Producer p) = Some p.capacity
capacity_held (Consumer c) = Some c.end.capacity
capacity_held (Transmitter t) = Some t.end.capacity
capacity_held (Receiver r) = Some r.end.capacity
capacity_held (RawReceiver r) = Some r.end.capacity
capacity_held _ = None
