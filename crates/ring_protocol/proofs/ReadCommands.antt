-- Each command is read from its encoding, and from no other bytes.
use Rattle.std.proofs.Common.{◌≡◌, ◌≢◌, ℕ, ℤ, pos, ◌^◌, ◌<◌, List, [], ◌++◌, cond, Result, Ok, Err, FitsSigned, refl, sym, subst, ◌∙◌, w32, w64, IfOk, IfErr, IsOkAnd, int_eq}
use Rattle.ring_protocol.specs.declared.{fault.Bad.Bad, fault.Bad.TheVariants.UnknownType, command.Command.Command}
use Rattle.std.specs.Result.{result_map_both}
use Rattle.ring_protocol.specs.Field.{AreBytes, IsSized, Reader, ◌⊗◌, u32_field, u64_field, i32_field, i64_field, sized_field, u32_at, u64_at, i32_at, i64_at, sized_at}
use Rattle.ring_protocol.specs.Bad.{correlation_of, or_malformed, IsFaultOf}
use Rattle.ring_protocol.specs.Command.{Instruction, Request, Allocate, Free, Set, AllocateOwned, Close, content_of, fields_of, request_type_id, type_id_of, spelling_of, HasFields, HasSpelling, Spells, IsCommandType, with_id}
use Rattle.ring_protocol.specs.Reading.{allocate_of, free_of, set_of, allocate_owned_of, close_of, asking, command_of}
use Rattle.ring_protocol.proofs.Readers.{IsReaderOf, u32_reader, u64_reader, i32_reader, i64_reader, sized_reader, both_readers, whole_again}
use Rattle.ring_protocol.proofs.Dispatch.{takes_at, fault_at}

-- ---- the fields of each command

set_reader : IsReaderOf (λ (v : ℕ × ℤ). (v.0 < 2 ^ 32) × FitsSigned w64 v.1) (λ v. u32_field v.0 ++ i64_field v.1)
    (u32_at ⊗ i64_at)
set_reader = both_readers _ _ _ _ _ _ u32_reader i64_reader

-- a key and a label after other fields
texts_reader : {A : Type 0} (P : A → Type 0) (f : A → List ℕ) (first : Reader A) → IsReaderOf P f first
    → IsReaderOf (λ (v : (A × List ℕ) × List ℕ). (P v.0.0 × IsSized v.0.1) × IsSized v.1)
    (λ v. f v.0.0 ++ sized_field v.0.1 ++ sized_field v.1) (first ⊗ sized_at ⊗ sized_at)
texts_reader {A} P f first is =
    both_readers _ _ _ _ _ _ (both_readers P IsSized f sized_field first sized_at is sized_reader) sized_reader

allocate_reader : IsReaderOf (λ (v : (ℤ × List ℕ) × List ℕ). (FitsSigned w32 v.0.0 × IsSized v.0.1) × IsSized v.1)
    (λ v. i32_field v.0.0 ++ sized_field v.0.1 ++ sized_field v.1) (i32_at ⊗ sized_at ⊗ sized_at)
allocate_reader = texts_reader _ _ _ i32_reader

owned_reader : IsReaderOf (λ (v : ℤ × ℕ). FitsSigned w32 v.0 × (v.1 < 2 ^ 64)) (λ v. i32_field v.0 ++ u64_field v.1)
    (i32_at ⊗ u64_at)
owned_reader = both_readers _ _ _ _ _ _ i32_reader u64_reader

allocate_owned_reader : IsReaderOf (λ (v : ((ℤ × ℕ) × List ℕ) × List ℕ).
    ((FitsSigned w32 v.0.0.0 × (v.0.0.1 < 2 ^ 64)) × IsSized v.0.1) × IsSized v.1)
    (λ v. i32_field v.0.0.0 ++ u64_field v.0.0.1 ++ sized_field v.0.1 ++ sized_field v.1)
    (i32_at ⊗ u64_at ⊗ sized_at ⊗ sized_at)
allocate_owned_reader = texts_reader _ _ _ owned_reader

-- these fields after a correlation id
command_reader : {V : Type 0} {P : V → Type 0} {field : V → List ℕ} {reader : Reader V} → IsReaderOf P field reader
    → IsReaderOf (λ (v : ℕ × V). (v.0 < 2 ^ 64) × P v.1) (λ v. u64_field v.0 ++ field v.1) (u64_at ⊗ reader)
command_reader is = both_readers _ _ _ _ _ _ u64_reader is

-- ---- what is read is spelled so

is_spelled : (c : Instruction) → HasSpelling c → Spells (type_id_of c) (spelling_of c) c
is_spelled c h = record { has_spelling = h; of_type = refl; spelled = refl }

-- a request of these fields at its type id, or what is read at the others
fields_take : {V : Type 0} {P : V → Type 0} {field : V → List ℕ} {reader : Reader V} → IsReaderOf P field reader
    → (made : V → Request (List ℕ)) (n : ℤ)
    → ((k : ℕ) (v : V) → k < 2 ^ 64 → P v → Spells n (u64_field k ++ field v) (with_id k (made v)))
    → (t : ℤ) (body : List ℕ) (others : Result Instruction Bad) (c : Instruction) → AreBytes body
    → cond (int_eq t n) (or_malformed body (asking made reader body)) others ≡ Ok c
    → (others ≡ Ok c → Spells t body c) → Spells t body c
fields_take is made n spelled t body others c fit e there =
    takes_at (command_reader is) (λ v. with_id v.0 (made v.1)) n Spells
    (λ v h. spelled v.0 v.1 h.0 h.1) t body others c fit e there

command_takes : (t : ℤ) (body : List ℕ) (c : Instruction) → AreBytes body → command_of t body ≡ Ok c → Spells t body c
unfolding command_of allocate_of free_of set_of allocate_owned_of close_of
command_takes t body c fit e =
    fields_take allocate_reader (λ v. Allocate v.0.0 v.0.1 v.1) (pos 1)
    (λ k v low h. is_spelled _ (low, (h.0.0, h.0.1, h.1))) t body _ c fit e (λ e2.
    fields_take u32_reader (λ id. Free id) (pos 2) (λ k v low h. is_spelled _ (low, h)) t body _ c fit e2 (λ e3.
    fields_take set_reader (λ v. Set v.0 v.1) (pos 3) (λ k v low h. is_spelled _ (low, h)) t body _ c fit e3 (λ e4.
    fields_take allocate_owned_reader (λ v. AllocateOwned v.0.0.0 v.0.0.1 v.0.1 v.1) (pos 4)
    (λ k v low h. is_spelled _ (low, (h.0.0.0, h.0.0.1, h.0.1, h.1))) t body _ c fit e4 (λ e5.
    fields_take u64_reader (λ owner. Close owner) (pos 5) (λ k v low h. is_spelled _ (low, h)) t body _ c fit e5 (λ e6.
    absurd cc)))))

-- ---- what is spelled so is read

fields_again : (k : ℕ) (r : Request (List ℕ)) → k < 2 ^ 64 → HasFields r
    → command_of (request_type_id r) (u64_field k ++ fields_of r) ≡ Ok (with_id k r)
unfolding command_of allocate_of free_of set_of allocate_owned_of close_of
fields_again k (Allocate type_id key label) low h =
    whole_again (command_reader allocate_reader)
    (λ v. with_id v.0 (Allocate v.1.0.0 v.1.0.1 v.1.1)) (k, ((type_id, key), label))
    (low, ((h.0, h.1), h.2))
fields_again k (Free id) low h =
    whole_again (command_reader u32_reader) (λ v. with_id v.0 (Free v.1)) (k, id) (low, h)
fields_again k (Set id value) low h =
    whole_again (command_reader set_reader) (λ v. with_id v.0 (Set v.1.0 v.1.1))
    (k, (id, value)) (low, h)
fields_again k (AllocateOwned type_id owner key label) low h =
    whole_again (command_reader allocate_owned_reader)
    (λ v. with_id v.0 (AllocateOwned v.1.0.0.0 v.1.0.0.1 v.1.0.1 v.1.1))
    (k, (((type_id, owner), key), label)) (low, (((h.0, h.1), h.2), h.3))
fields_again k (Close owner) low h =
    whole_again (command_reader u64_reader) (λ v. with_id v.0 (Close v.1)) (k, owner) (low, h)

pub command_again : (c : Instruction) → HasSpelling c → command_of (type_id_of c) (spelling_of c) ≡ Ok c
command_again c h = fields_again c.correlation c.request h.0 h.1

pub spelled_again : (t : ℤ) (body : List ℕ) (c : Instruction) → Spells t body c → command_of t body ≡ Ok c
spelled_again t body c s = rw (← s.of_type, ← s.spelled) (command_again c s.has_spelling)

-- ---- why nothing is read

other_type : (t : ℤ) → (t ≢ pos 1) × (t ≢ pos 2) × (t ≢ pos 3) × (t ≢ pos 4) × (t ≢ pos 5)
    → (r : Request (List ℕ)) → request_type_id r ≡ t → ⊥
other_type t none (Allocate type_id key label) e = none.0 (sym e)
other_type t none (Free id) e = none.1 (sym e)
other_type t none (Set id value) e = none.2 (sym e)
other_type t none (AllocateOwned type_id owner key label) e = none.3 (sym e)
other_type t none (Close owner) e = none.4 (sym e)

command_fault : (t : ℤ) (body : List ℕ) (bad : Bad) → command_of t body ≡ Err bad
    → IsFaultOf (IsCommandType t) body bad
unfolding command_of
command_fault t body bad e =
    fault_at type_id_of (with_id 0 (Allocate (pos 0) [] [])) t body _ _ bad e (λ n1 e2.
    fault_at type_id_of (with_id 0 (Free 0)) t body _ _ bad e2 (λ n2 e3.
    fault_at type_id_of (with_id 0 (Set 0 (pos 0))) t body _ _ bad e3 (λ n3 e4.
    fault_at type_id_of (with_id 0 (AllocateOwned (pos 0) 0 [] [])) t body _ _ bad e4 (λ n4 e5.
    fault_at type_id_of (with_id 0 (Close 0)) t body _ _ bad e5 (λ n5 e6.
    let unknown : UnknownType (correlation_of body) ≡ bad = cc in
    subst (IsFaultOf (IsCommandType t) body) unknown
    ((λ known. other_type t (n1, n2, n3, n4, n5) known.0.request known.1), refl))))))

-- ---- the same of what decode_command returns

pub found : (t : ℤ) (body : List ℕ) (r : Result Command Bad) → AreBytes body
    → result_map_both content_of (λ e. e) r ≡ command_of t body → IfOk r (λ c. Spells t body (content_of c))
found t body (Ok c) fit e = command_takes t body (content_of c) fit (sym e)
found t body (Err bad) fit e = tt

same_ok : (r : Result Command Bad) (c : Instruction) → result_map_both content_of (λ e. e) r ≡ Ok c
    → IsOkAnd r (λ d. content_of d ≡ c)
same_ok (Ok d) c e = cc
same_ok (Err bad) c e = absurd cc

pub only : (t : ℤ) (body : List ℕ) (r : Result Command Bad) → result_map_both content_of (λ e. e) r ≡ command_of t body
    → (c : Instruction) → Spells t body c → IsOkAnd r (λ d. content_of d ≡ c)
only t body r e c s = same_ok r c (e ∙ spelled_again t body c s)

pub bad_is : (t : ℤ) (body : List ℕ) (r : Result Command Bad)
    → result_map_both content_of (λ e. e) r ≡ command_of t body → IfErr r (IsFaultOf (IsCommandType t) body)
bad_is t body (Ok c) e = tt
bad_is t body (Err bad) e = command_fault t body bad (sym e)

-- ---- a type id and a body spell one command at most

pub one : (t : ℤ) (body : List ℕ) (c d : Instruction) → Spells t body c → Spells t body d → c ≡ d
one t body c d p q = cc (spelled_again t body c p, spelled_again t body d q)
