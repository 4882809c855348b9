-- The effect of one message on the counters, and its one reply.
use Rattle.std.specs.Prelude.{ℕ, ◌==◌, ℤ, pos, List, [], ◌∷◌, length, Option, Some, None, Result, Ok, Err, if◌then◌else◌}
use Rattle.ring_layout.specs.declared.message.Message.{Message}
use Rattle.ring_counters.specs.{declared.values.view.ValueWrite.ValueWrite, Codes.allocate_code, Codes.id_code}
use Rattle.ring_counters.specs.declared.fault.{AllocateRefused.AllocateRefused, IdFault.IdFault}
use Rattle.ring_counters.specs.{Counter.Counter, Views.value_write}
use Rattle.ring_counters.specs.Registry.{Registry, new_counter, allocation_of, allocated_in, id_refusal_of, reclaimed_in, with_value, owned_ids, closed_in}
use Rattle.ring_protocol.specs.declared.{fault.Bad.Bad, reply.Reply.Reply, command.Request.Request}
use Rattle.ring_protocol.specs.declared.reply.Reply.TheVariants.{Allocated, Done, Refused, Closed}
use Rattle.ring_protocol.specs.declared.command.Request.TheVariants.{Allocate, Free, Set, AllocateOwned, Close}
use Rattle.ring_protocol.specs.{Command.Instruction, Codes.bad_code, Codes.bad_correlation, Codes.bad_owner_code}
use Rattle.ring_protocol.specs.Reading.{command_of}

-- the counters afterwards, the values that were written, and the reply
pub record Outcome : Type 0 where
  pub registry : Registry
  pub writes : List ValueWrite
  pub reply : Reply

-- nothing is changed, and the reply gives the reason
abbrev pub refused : Registry → ℕ → ℤ → Outcome
refused r correlation code = record { registry = r; writes = []; reply = Refused correlation code }

-- a counter gets this id, or the allocation is refused
abbrev pub allocated : Registry → ℕ → Counter → Result ℕ AllocateRefused → Outcome
allocated r correlation c (Ok id) =
    record { registry = allocated_in r id c; writes = value_write id (pos 0) ∷ []; reply = Allocated correlation id }
allocated r correlation c (Err fault) = refused r correlation (allocate_code fault)

-- the counters become these, unless there is a refusal
abbrev pub done_unless : Option IdFault → Registry → ℕ → Registry → List ValueWrite → Outcome
done_unless None r correlation new writes = record { registry = new; writes = writes; reply = Done correlation }
done_unless (Some fault) r correlation new writes = refused r correlation (id_code fault)

-- The effect of a request at a moment. The registration id of a counter is the correlation id of its command.
abbrev pub obeyed : ℕ → Registry → ℕ → Request (List ℕ) → Outcome
obeyed now r correlation (Allocate type_id key label) =
    allocated r correlation (new_counter type_id key label correlation 0) (allocation_of r now key label)
obeyed now r correlation (AllocateOwned type_id owner key label) =
    allocated r correlation (new_counter type_id key label correlation owner) (allocation_of r now key label)
obeyed now r correlation (Free id) = done_unless (id_refusal_of r id) r correlation (reclaimed_in r now id) []
obeyed now r correlation (Set id value) =
    done_unless (id_refusal_of r id) r correlation (with_value r id value) (value_write id value ∷ [])
obeyed now r correlation (Close owner) =
    if owner == 0 then refused r correlation bad_owner_code
    else record {
      registry = closed_in r now owner;
      writes = [];
      reply =
          Closed correlation (length (owned_ids r owner));
    }

-- A message that can be read is obeyed. A message that cannot be read is refused.
abbrev pub obeyed_if_read : ℕ → Registry → Result Instruction Bad → Outcome
obeyed_if_read now r (Ok command) = obeyed now r command.correlation command.request
obeyed_if_read now r (Err bad) = refused r (bad_correlation bad) (bad_code bad)

-- the effect of a message at a moment
abbrev pub applied : ℕ → Registry → Message → Outcome
applied now r m = obeyed_if_read now r (command_of m.type_id m.body)
