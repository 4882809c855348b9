-- A message is known by its type id and the words of its body.
use Rattle.std.proofs.Common.{◌≡◌, ℕ, ◌+◌, ◌-◌, ◌*◌, ◌/◌, ◌%◌, ◌^◌, ◌<◌, List, length, drop, slice_index, ap, sym, ◌∙◌, arith, inl, inr, All, w64, ext_get_or, get_or-drop}
use Rattle.std.specs.Int.{from_le_bytes}
use Rattle.std.proofs.lemmas.{Bool.cases_lt, List.get_or_past, List.Elements.All-get_or}
use Rattle.ring_layout.{specs.declared.message.Message.Message, proofs.WordBytes.byte_of_word}

-- the bytes of a body from its words
byte_small : (bs : List ℕ) → All (λ b. b < 256) bs → (j : ℕ) → slice_index bs j < 256
byte_small bs small j =
    elim (cases_lt j (length bs)) as (λ _. slice_index bs j < 256) [
      | inl h ↦ All-get_or (λ (b : ℕ). b < 256) bs j 0 h small
      | inr h ↦ omega (arith, get_or_past bs j 0 h)
    ]

byte_from_word : (bs : List ℕ) → All (λ b. b < 256) bs → (k : ℕ)
    → from_le_bytes w64 (drop (8 * (k / 8)) bs) / 2 ^ (8 * (k % 8)) % 256 ≡ slice_index bs k
byte_from_word bs small k =
    byte_of_word (drop (8 * (k / 8)) bs) (λ j. let e =
    get_or-drop (8 * (k / 8)) bs j 0 in omega (arith, e, byte_small bs small (8 * (k / 8) + j))) (k % 8)
    (omega arith)
    ∙ get_or-drop (8 * (k / 8)) bs (k % 8) 0
    ∙ ap (slice_index bs) (omega arith)

pub same_body : (xs ys : List ℕ) → All (λ b. b < 256) xs → All (λ b. b < 256) ys → length xs ≡ length ys
    → ((j : ℕ) → 8 * j < length xs → from_le_bytes w64 (drop (8 * j) xs) ≡ from_le_bytes w64 (drop (8 * j) ys))
    → xs ≡ ys
same_body xs ys small small' len words =
    ext_get_or 0 xs ys len (λ k lt.
    sym (byte_from_word xs small k) ∙ ap (λ w. w / 2 ^ (8 * (k % 8)) % 256) (words (k / 8) (omega arith))
    ∙ byte_from_word ys small' k)

pub message_same : (m n : Message) → m.type_id ≡ n.type_id → m.body ≡ n.body → m ≡ n
message_same m n p q = λ i. record { type_id = p i; body = q i }
