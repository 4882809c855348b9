-- The bytes that the slots of a record have.
use Rattle.std.proofs.Common.{◌≡◌, ℕ, suc, ◌+◌, ◌^◌, ◌<◌, List, [], ◌∷◌, ◌++◌, All, take, drop, append_assoc, length, length-append, sym, refl, ap, ◌∙◌, arith, w64}
use Rattle.std.{specs.Int.from_le_bytes, specs.Int.to_le_bytes, proofs.lemmas.Nat.from_le_bytes-to_le_bytes_8}
use Rattle.std.proofs.lemmas.List.{get_or_append_left, Elements.All-append, Elements.All-from_get_or}
use Rattle.ring_layout.specs.{declared.message.Message.Message, Headers.committed_header, History.overwritten}
use Rattle.ring_layout.proofs.WordBytes.{from_le_bytes-same, byte_of_bytes}
use Rattle.ring_table.specs.Staged.{body_word, headed, slot_bytes}

pub length_headed : (h : ℕ) (body : List ℕ) → length (headed h body) ≡ 8 + length body
unfolding headed
length_headed h body = length-append (to_le_bytes w64 h) body

pub small_headed : (h : ℕ) (body : List ℕ) → All (λ b. b < 256) body → All (λ b. b < 256) (headed h body)
unfolding headed
small_headed h body small = All-append (λ b. b < 256) (to_le_bytes w64 h) body
    (All-from_get_or (λ b. b < 256) (to_le_bytes w64 h) 0 (λ i lt. let byte = byte_of_bytes h i lt in omega arith)) small

-- the first word is the header
pub first_word_of : (h : ℕ) (body : List ℕ) → h < 2 ^ 64 → body_word (headed h body) 0 ≡ h
unfolding headed body_word
first_word_of h body small =
    from_le_bytes-same (to_le_bytes w64 h ++ body) (to_le_bytes w64 h)
    (λ i lt. get_or_append_left (to_le_bytes w64 h) body 0 i lt) ∙ from_le_bytes-to_le_bytes_8 h small

drop_past : (l : List ℕ) (at n : ℕ) (xs : List ℕ) → length xs ≡ n → drop (n + at) (xs ++ l) ≡ drop at l
drop_past l at n [] is = let e : n + at ≡ at = omega arith in ap (λ k. drop k l) e
drop_past l at n (x ∷ xs) is =
    let e : n + at ≡ suc (length xs + at) = omega arith in
    ap (λ k. drop k (x ∷ xs ++ l)) e ∙ drop_past l at (length xs) xs refl

take_past : (l : List ℕ) (at n : ℕ) (xs : List ℕ) → length xs ≡ n → take (n + at) (xs ++ l) ≡ xs ++ take at l
take_past l at n [] is = let e : n + at ≡ at = omega arith in ap (λ k. take k l) e
take_past l at n (x ∷ xs) is =
    let e : n + at ≡ suc (length xs + at) = omega arith in
    ap (λ k. take k (x ∷ xs ++ l)) e ∙ ap (λ z. x ∷ z) (take_past l at (length xs) xs refl)

-- the others are those of the body
pub later_word : (h : ℕ) (body : List ℕ) (at : ℕ) → body_word (headed h body) (8 + at) ≡ body_word body at
unfolding headed body_word
later_word h body at = ap (from_le_bytes w64) (drop_past body at 8 (to_le_bytes w64 h) refl)

-- one list of bytes is of one body
pub one_headed : (h g : ℕ) (a b : List ℕ) → headed h a ≡ headed g b → a ≡ b
unfolding headed
one_headed h g a b same =
    sym (drop_past a 0 8 (to_le_bytes w64 h) refl) ∙ ap (drop 8) same ∙ drop_past b 0 8 (to_le_bytes w64 g) refl

-- bytes put over those of the body
pub headed_put : (h at : ℕ) (bytes body : List ℕ)
    → overwritten (8 + at) bytes (headed h body) ≡ headed h (overwritten at bytes body)
unfolding headed
headed_put h at bytes body =
    let xs : List ℕ = to_le_bytes w64 h in
    let on : 8 + at + length bytes ≡ 8 + (at + length bytes) = omega arith in
    (λ i. take_past body at 8 xs refl i ++ (bytes ++ (ap (λ k. drop k (xs ++ body)) on
    ∙ drop_past body (at + length bytes) 8 xs refl) i))
    ∙ append_assoc xs (take at body) (bytes ++ drop (at + length bytes) body)

pub length_slot : (m : Message) → length (slot_bytes m) ≡ 8 + length m.body
length_slot m = length_headed (committed_header m.type_id (length m.body)) m.body

pub small_slot : (m : Message) → All (λ b. b < 256) m.body → All (λ b. b < 256) (slot_bytes m)
small_slot m small = small_headed (committed_header m.type_id (length m.body)) m.body small

pub slot_later : (m : Message) (at : ℕ) → body_word (slot_bytes m) (8 + at) ≡ body_word m.body at
slot_later m at = later_word (committed_header m.type_id (length m.body)) m.body at

pub slot_one : (a b : Message) → slot_bytes a ≡ slot_bytes b → a.body ≡ b.body
slot_one a b same = one_headed (committed_header a.type_id (length a.body)) (committed_header b.type_id (length b.body)) a.body b.body same
