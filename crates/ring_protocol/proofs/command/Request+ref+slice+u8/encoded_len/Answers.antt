use Rattle.std.proofs.Common.{arith}
use Rattle.ring_protocol.specs.Command.{Allocate, AllocateOwned, Close, Free, Set, with_id}
use Rattle.ring_protocol.proofs.Lengths.{spelled_length, free_length, set_length, close_length, allocate_length, allocate_owned_length}
use Rattle.ring_protocol.proofs.command.Request+ref+slice+u8.encoded_len.Goals as goal

pub returns-in_ok-sized_len-in-Allocate-2-clause-len : goal.returns-in_ok-sized_len-in-Allocate-2-clause-len
returns-in_ok-sized_len-in-Allocate-2-clause-len c =
    let a = c.in-Allocate in λ correlation.
    rw a.is (omega (
      arith,
      c.in_ok-sized_len-in-Allocate.ensures.len,
      c.in_ok-sized_len-in-Allocate-2.ensures.len,
      spelled_length (with_id correlation (Allocate a.type_id a.key.now a.label.now)),
      allocate_length a.type_id a.key.now a.label.now,
    ))

pub returns-in-Free-clause-len : goal.returns-in-Free-clause-len
returns-in-Free-clause-len c =
    let a = c.in-Free in λ correlation.
    rw a.is (omega (arith, spelled_length (with_id correlation (Free a.id)), free_length a.id))

pub returns-in-Set-clause-len : goal.returns-in-Set-clause-len
returns-in-Set-clause-len c =
    let a = c.in-Set in λ correlation.
    rw a.is (omega (arith, spelled_length (with_id correlation (Set a.id a.value)), set_length a.id a.value))

pub returns-in_ok-sized_len-in-AllocateOwned-2-clause-len : goal.returns-in_ok-sized_len-in-AllocateOwned-2-clause-len
returns-in_ok-sized_len-in-AllocateOwned-2-clause-len c =
    let a = c.in-AllocateOwned in λ correlation.
    rw a.is (omega (
      arith,
      c.in_ok-sized_len-in-AllocateOwned.ensures.len,
      c.in_ok-sized_len-in-AllocateOwned-2.ensures.len,
      spelled_length (with_id correlation (AllocateOwned a.type_id a.owner a.key.now a.label.now)),
      allocate_owned_length a.type_id a.owner a.key.now a.label.now,
    ))

pub returns-in-Close-clause-len : goal.returns-in-Close-clause-len
returns-in-Close-clause-len c =
    let a = c.in-Close in λ correlation.
    rw a.is (omega (arith, spelled_length (with_id correlation (Close a.owner)), close_length a.owner))
