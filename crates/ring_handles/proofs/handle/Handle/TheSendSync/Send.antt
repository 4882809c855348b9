-- A handle may cross threads, as what it owns may.
use mir.Raw.{raw}
use base.Fraction.{full_share}
use base.Shift.{Keyless}
use denote.Memory.{lone}
use denote.RawPtr.{Ptr, block_ptr, null_ptr}
use denote.Builtin.{RawPtr}
use denote.Param.Send.{IsSend, part_keyless, owning_send, struct_send, sendable}
use denote.Struct.{Struct.exits_of, Owning.shape, Owning.fields, Owning.to}
use Rattle.std_alloc.proofs.SendSync.{quiet}
use Rattle.std.{specs.declared.option.Option.Option, specs.declared.alloc.Global.Global, proofs.Crossing.frees}
use Rattle.std.proofs.alloc.Global.TheSendSync as heap
use Rattle.ring_handles.specs.Owned.{boxed, handle_owns}
use Rattle.ring_handles.specs.contracts.held.Held.{the_row as R}
use Rattle.ring_handles.proofs.held.Held.TheSendSync as held
use Rattle.ring_handles.specs.contracts.handle.Handle.{the_row, the_type}

boxed_keyless : (a : Global) (b o : Prim.Native.Nat.ℕ) (x : R.Denot) → Keyless (boxed R a (block_ptr b o) x)
boxed_keyless a b o x =
    (part_keyless R held.the_send full_share x b o, frees.frees a (raw (lone R.mir)) (block_ptr b o))

owned_keyless : (a : Global) (p : Ptr) (m : Option R.Denot) → Keyless (handle_owns R a p m)
owned_keyless a null_ptr m = λ _. tt
owned_keyless a (block_ptr b o) m = λ x. ((λ _. tt), boxed_keyless a b o x)

pub send : IsSend the_row
send = let ps : IsSend RawPtr = search sendable in
    owning_send the_type (ps, (heap.the_field_send, tt)) (λ d. owned_keyless d.alloc d.at d.held)
    (λ k. quiet (to the_type) (exits_of k (fields the_type))
    ((struct_send (shape the_type) (ps, (heap.the_field_send, tt))).leaving k))
