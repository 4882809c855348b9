-- What is written is the spelling of a command.
use Rattle.std.proofs.Common.{◌≡◌, ℕ, ℤ, ◌<◌, List, [], ◌++◌, length, get_or, take, drop, Option, None, Some, Ok, sym, FitsSigned, to_z, of_z, w32, w64, refl, ap, subst, ◌∙◌, append_assoc, IfSome, append-nil, take_at}
use Rattle.std.specs.Int.{Width, to_le_bytes}
use Rattle.std.proofs.lemmas.{Int.to_z-of_z, List.Elements.All-from_get_or}
use Rattle.ring_protocol.specs.Field.{AreBytes, u32_field, u64_field, i32_field, i64_field, sized_field}
use Rattle.ring_protocol.specs.{declared.reply.Reply.Reply, Reading.command_of, Reading.reply_of}
use Rattle.ring_protocol.specs.Reply as reply
use Rattle.ring_protocol.specs.Command.{Instruction, Allocate, Free, Set, AllocateOwned, Close, fields_of, type_id_of, spelling_of, HasSpelling, HasTextLengths}
use Rattle.ring_protocol.specs.Writing.{WritesText, Encodes, EncodesReply, over_start}
use Rattle.ring_protocol.proofs.ReadCommands as commands
use Rattle.ring_protocol.proofs.ReadReplies as replies

if_some : {A : Type 0} (o : Option A) (P : Type 0) → P → IfSome o (λ n. P)
if_some None P p = tt
if_some (Some x) P p = p

pub encodes : (c : Instruction) (text old new : List ℕ) (result : Option ℕ) → HasTextLengths c.request → HasSpelling c
    → text ≡ spelling_of c → WritesText text old new result → Encodes c old new result
encodes c text old new result short has e w =
    let written : WritesText (spelling_of c) old new result = subst (λ (t : List ℕ). WritesText t old new result) e w in
    record {
      fits = (λ some. (short, written.fits.0 some), λ h. written.fits.1 h.1);
      spelled = if_some result (HasSpelling c) has;
      len = written.len;
      some = written.some;
      none = written.none;
    }

pub are_bytes : (xs : List ℕ) → ((i : ℕ) → get_or xs i 0 < 256) → AreBytes xs
are_bytes xs fit = All-from_get_or (λ b. b < 256) xs 0 (λ i _. fit i)

-- ---- what to_le_bytes gives is a field

pub is_u32 : (field : List ℕ) (n : ℕ) → field ≡ to_le_bytes w32 n → field ≡ u32_field n
unfolding u32_field
is_u32 field n e = e

pub is_u64 : (field : List ℕ) (n : ℕ) → field ≡ to_le_bytes w64 n → field ≡ u64_field n
unfolding u64_field
is_u64 field n e = e

cast_is : (w : Width) (field : List ℕ) (z : ℤ) → FitsSigned w z → field ≡ to_le_bytes w (of_z w (to_z w (of_z w z)))
    → field ≡ to_le_bytes w (of_z w z)
cast_is w field z fits e = e ∙ ap (λ (x : ℤ). to_le_bytes w (of_z w x)) (to_z-of_z w z fits)

pub is_i32 : (field : List ℕ) (z : ℤ) → FitsSigned w32 z → field ≡ to_le_bytes w32 (of_z w32 (to_z w32 (of_z w32 z)))
    → field ≡ i32_field z
unfolding u32_field i32_field
is_i32 field z fits e = cast_is w32 field z fits e

pub is_i64 : (field : List ℕ) (z : ℤ) → FitsSigned w64 z → field ≡ to_le_bytes w64 (of_z w64 (to_z w64 (of_z w64 z)))
    → field ≡ i64_field z
unfolding u64_field i64_field
is_i64 field z fits e = cast_is w64 field z fits e

-- ---- the fields of a command, joined

pub one_field : (x a : List ℕ) → a ≡ x → a ++ [] ≡ x
one_field x a p = append-nil a ∙ p

pub two_fields : (x y a b : List ℕ) → a ≡ x → b ≡ y → a ++ (b ++ []) ≡ x ++ y
two_fields x y a b p q = rw (p, q) (simp append-nil)

pub free_text : (correlation id : ℕ) (a b : List ℕ) → a ≡ u64_field correlation → b ≡ u32_field id
    → a ++ (b ++ []) ≡ u64_field correlation ++ fields_of (Free id)
free_text correlation id a b p q = two_fields (u64_field correlation) (u32_field id) a b p q

pub set_text : (correlation id : ℕ) (value : ℤ) (a b d : List ℕ) → a ≡ u64_field correlation → b ≡ u32_field id
    → d ≡ i64_field value → a ++ (b ++ (d ++ [])) ≡ u64_field correlation ++ fields_of (Set id value)
set_text correlation id value a b d p q r = rw (p, q, r) (simp append-nil)

pub close_text : (correlation owner : ℕ) (a b : List ℕ) → a ≡ u64_field correlation → b ≡ u64_field owner
    → a ++ (b ++ []) ≡ u64_field correlation ++ fields_of (Close owner)
close_text correlation owner a b p q = two_fields (u64_field correlation) (u64_field owner) a b p q

pub allocate_text : (correlation : ℕ) (type_id : ℤ) (key label a b n m : List ℕ) → a ≡ u64_field correlation
    → b ≡ i32_field type_id → n ≡ u32_field (length key) → m ≡ u32_field (length label)
    → a ++ (b ++ (n ++ (key ++ (m ++ (label ++ [])))))
    ≡ u64_field correlation ++ fields_of (Allocate type_id key label)
unfolding sized_field
allocate_text correlation type_id key label a b n m p q r s = rw (p, q, r, s) (simp (append_assoc, append-nil))

pub allocate_owned_text : (correlation : ℕ) (type_id : ℤ) (owner : ℕ) (key label a b d n m : List ℕ)
    → a ≡ u64_field correlation → b ≡ i32_field type_id → d ≡ u64_field owner → n ≡ u32_field (length key)
    → m ≡ u32_field (length label)
    → a ++ (b ++ (d ++ (n ++ (key ++ (m ++ (label ++ []))))))
    ≡ u64_field correlation ++ fields_of (AllocateOwned type_id owner key label)
unfolding sized_field
allocate_owned_text correlation type_id owner key label a b d n m p q t r s =
    rw (p, q, t, r, s) (simp (append_assoc, append-nil))

-- ---- replies

pub encodes_reply : (r : Reply) (text old new : List ℕ) (result : Option ℕ) (len : ℕ) → reply.HasSpelling r
    → text ≡ reply.spelling_of r → result ≡ Some len → WritesText text old new result → EncodesReply r old new len
encodes_reply r text old new result len has e is w =
    let spelled : WritesText (reply.spelling_of r) old new (Some len) =
    subst (λ (t : List ℕ). WritesText t old new (Some len)) e (subst
    (λ (o : Option ℕ). WritesText text old new o) is w) in
    record { has_spelling = has; len = spelled.len; written = spelled.some }

-- ---- what was written is read again

start_of : (text old new : List ℕ) (n : ℕ) → n ≡ length text → new ≡ over_start text old → take n new ≡ text
start_of text old new n len written = rw written (take_at text (drop (length text) old) n (sym len))

pub command_bytes : (c : Instruction) (old new : List ℕ) (n : ℕ) → Encodes c old new (Some n)
    → take n new ≡ spelling_of c
command_bytes c old new n w = start_of (spelling_of c) old new n w.len w.some

pub command_read_again : (c : Instruction) (old new : List ℕ) (n : ℕ) → Encodes c old new (Some n)
    → command_of (type_id_of c) (take n new) ≡ Ok c
command_read_again c old new n w =
    commands.spelled_again (type_id_of c) (take n new) c
    (record { has_spelling = w.spelled; of_type = refl; spelled = sym (command_bytes c old new n w) })

pub reply_bytes : (r : Reply) (old new : List ℕ) (n : ℕ) → EncodesReply r old new n → take n new ≡ reply.spelling_of r
reply_bytes r old new n w = start_of (reply.spelling_of r) old new n w.len w.written

pub reply_read_again : (r : Reply) (old new : List ℕ) (n : ℕ) → EncodesReply r old new n
    → reply_of (reply.type_id_of r) (take n new) ≡ Ok r
reply_read_again r old new n w =
    replies.spelled_again (reply.type_id_of r) (take n new) r
    (record { has_spelling = w.has_spelling; of_type = refl; spelled = sym (reply_bytes r old new n w) })
