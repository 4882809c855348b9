-- The length of each encoding.
use Rattle.std.proofs.Common.{◌≡◌, ℕ, ℤ, ◌+◌, ◌≤◌, List, ◌++◌, length, refl, sym, ◌∙◌, arith, length-append}
use Rattle.ring_protocol.specs.Field.{u32_field, u64_field, i32_field, i64_field, sized_field}
use Rattle.ring_protocol.specs.Command.{Instruction, Request, Allocate, Free, Set, AllocateOwned, Close, fields_of, spelling_of, with_id, HasLawfulTexts}

pub spelled_length : (c : Instruction) → length (spelling_of c) ≡ 8 + length (fields_of c.request)
unfolding u64_field
spelled_length c = omega (arith, length-append (u64_field c.correlation) (fields_of c.request))

-- it does not depend on the correlation id
pub same_length : (a b : ℕ) (r : Request (List ℕ))
    → length (spelling_of (with_id a r)) ≡ length (spelling_of (with_id b r))
same_length a b r = spelled_length (with_id a r) ∙ sym (spelled_length (with_id b r))

pub free_length : (id : ℕ) → length (fields_of (Free id)) ≡ 4
unfolding u32_field
free_length id = refl

pub set_length : (id : ℕ) (value : ℤ) → length (fields_of (Set id value)) ≡ 12
unfolding u64_field u32_field i64_field
set_length id value = refl

pub close_length : (owner : ℕ) → length (fields_of (Close owner)) ≡ 8
unfolding u64_field
close_length owner = refl

sized_length : (bytes : List ℕ) → length (sized_field bytes) ≡ 4 + length bytes
unfolding sized_field u32_field
sized_length bytes = omega (arith, length-append (u32_field (length bytes)) bytes)

-- a front of this many bytes, with a key and a label after it
with_texts : (n : ℕ) (front key label : List ℕ) → length front ≡ n
    → length (front ++ sized_field key ++ sized_field label) ≡ n + (4 + length key) + (4 + length label)
with_texts n front key label is =
    omega (
      arith,
      is,
      sized_length key,
      sized_length label,
      length-append (front ++ sized_field key)
          (sized_field label),
      length-append front (sized_field key),
    )

pub allocate_length : (type_id : ℤ) (key label : List ℕ)
    → length (fields_of (Allocate type_id key label)) ≡ 4 + (4 + length key) + (4 + length label)
unfolding i32_field u32_field
allocate_length type_id key label = with_texts 4 (i32_field type_id) key label refl

pub allocate_owned_length : (type_id : ℤ) (owner : ℕ) (key label : List ℕ)
    → length (fields_of (AllocateOwned type_id owner key label)) ≡ 12 + (4 + length key) + (4 + length label)
unfolding u64_field i32_field u32_field
allocate_owned_length type_id owner key label = with_texts 12 (i32_field type_id ++ u64_field owner) key label refl

longest_fields : (r : Request (List ℕ)) → HasLawfulTexts r → length (fields_of r) ≤ 512
longest_fields (Allocate type_id key label) h = omega (arith, allocate_length type_id key label, h.0, h.1)
longest_fields (Free id) h = omega (arith, free_length id)
longest_fields (Set id value) h = omega (arith, set_length id value)
longest_fields (AllocateOwned type_id owner key label) h =
    omega (arith, allocate_owned_length type_id owner key label, h.0, h.1)
longest_fields (Close owner) h = omega (arith, close_length owner)

pub longest : (c : Instruction) → HasLawfulTexts c.request → length (spelling_of c) ≤ 520
longest c h = omega (arith, spelled_length c, longest_fields c.request h)
