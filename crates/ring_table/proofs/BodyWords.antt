-- A word stored into a body.
use Rattle.std.proofs.Common.{◌≡◌, ◌≢◌, ℕ, zero, suc, ◌+◌, ◌-◌, ◌%◌, ◌^◌, ◌≤◌, ◌<◌, List, ◌++◌, refl, take, drop, length, slice_index, sym, ap, ◌∙◌, arith, inl, inr, replicate, min, All, w64, length-take, length-drop, length-append, get_or-take, get_or-drop}
use Rattle.std.{specs.Int.to_le_bytes, proofs.lemmas.Nat.from_le_bytes-to_le_bytes_8}
use Rattle.std.proofs.lemmas.{Bool.cases_lt, List.Elements.All-append, List.Elements.All-take, List.Elements.All-drop}
use Rattle.std.proofs.lemmas.List.{get_or_append_left, get_or-append_right, get_or-replicate, get_or_past, length-replicate}
use Rattle.ring_layout.proofs.WordBytes.{from_le_bytes-same}
use Rattle.ring_table.specs.{Staged.body_word, Changes.with_word}

-- the bytes of the word, as far as the body goes
part : ℕ → ℕ → List ℕ → List ℕ
part at word body = take (length body - at) (to_le_bytes w64 word)

length-part : (at word : ℕ) (body : List ℕ) → length (part at word body) ≡ min (length body - at) 8
unfolding part
length-part at word body = length-take (length body - at) (to_le_bytes w64 word)

-- the three parts of the new body
in_parts : (at word : ℕ) (body : List ℕ)
    → with_word at word body ≡ take at body ++ (part at word body ++ drop (at + length (part at word body)) body)
unfolding part
in_parts at word body = refl

pub length-with_word : (at word : ℕ) (body : List ℕ) → at ≤ length body → length (with_word at word body) ≡ length body
unfolding part
length-with_word at word body le =
    let p : ℕ = length (part at word body) in
    let p_is : p ≡ min (length body - at) 8 = length-part at word body in
    let front : length (take at body) ≡ min at (length body) = length-take at body in
    let back : length (drop (at + p) body) ≡ length body - (at + p) = length-drop (at + p) body in
    let one : length (part at word body ++ drop (at + p) body) ≡ p + length (drop (at + p) body) =
    length-append (part at word body) (drop (at + p) body) in
    let two : length (with_word at word body)
    ≡ length (take at body) + length (part at word body ++ drop (at + p) body) = ap length (in_parts at word body)
    ∙ length-append (take at body) (part at word body ++ drop (at + p) body) in
    omega arith

-- the bytes before, inside and after
pub before : (at word : ℕ) (body : List ℕ) (j : ℕ) → at ≤ length body → j < at
    → slice_index (with_word at word body) j ≡ slice_index body j
unfolding part
before at word body j le lt =
    let p : ℕ = length (part at word body) in
    let front : length (take at body) ≡ min at (length body) = length-take at body in
    ap (λ l. slice_index l j) (in_parts at word body)
    ∙ get_or_append_left (take at body) (part at word body ++ drop (at + p) body) 0 j (omega arith)
    ∙ get_or-take at body j 0 lt

from_there : (at word : ℕ) (body : List ℕ) (j : ℕ) → at ≤ length body → at ≤ j
    → slice_index (with_word at word body) j
    ≡ slice_index (part at word body ++ drop (at + length (part at word body)) body) (j - at)
unfolding part
from_there at word body j le ge =
    let p : ℕ = length (part at word body) in
    let front : length (take at body) ≡ min at (length body) = length-take at body in
    ap (λ l. slice_index l j) (in_parts at word body)
    ∙ get_or-append_right (take at body) (part at word body ++ drop (at + p) body) at j 0 (omega arith) ge

pub inside : (at word : ℕ) (body : List ℕ) (i : ℕ) → at + i < length body → i < 8
    → slice_index (with_word at word body) (at + i) ≡ slice_index (to_le_bytes w64 word) i
unfolding part
inside at word body i lt small =
    let p : ℕ = length (part at word body) in
    let p_is : p ≡ min (length body - at) 8 = length-part at word body in
    let back : at + i - at ≡ i = omega arith in
    from_there at word body (at + i) (omega arith) (omega arith)
    ∙ ap (λ k. slice_index (part at word body ++ drop (at + p) body) k) back
    ∙ get_or_append_left (part at word body) (drop (at + p) body) 0 i (omega arith)
    ∙ get_or-take (length body - at) (to_le_bytes w64 word) i 0 (omega arith)

pub behind : (at word : ℕ) (body : List ℕ) (j : ℕ) → at ≤ length body → at + 8 ≤ j
    → slice_index (with_word at word body) j ≡ slice_index body j
unfolding part
behind at word body j le ge =
    let p : ℕ = length (part at word body) in
    let p_is : p ≡ min (length body - at) 8 = length-part at word body in
    let there : at + p + (j - at - p) ≡ j = omega arith in
    from_there at word body j le (omega arith)
    ∙ get_or-append_right (part at word body) (drop (at + p) body) p (j - at) 0 (omega arith) (omega arith)
    ∙ get_or-drop (at + p) body (j - at - p) 0
    ∙ ap (λ k. slice_index body k) there

-- a word that is stored leaves the others
pub body_word-with_word_other : (body : List ℕ) (at other word : ℕ) → at ≤ length body → at % 8 ≡ 0 → other % 8 ≡ 0
    → other ≢ at → body_word (with_word at word body) other ≡ body_word body other
unfolding body_word
body_word-with_word_other body at other word le a8 o8 ne =
    from_le_bytes-same (drop other (with_word at word body)) (drop other body) (λ i lt.
    get_or-drop other (with_word at word body) i 0
    ∙ elim (cases_lt other at) as (λ _. slice_index (with_word at word body) (other + i)
    ≡ slice_index body (other + i)) [
      | inl low ↦ before at word body (other + i) le (omega arith)
      | inr high ↦ behind at word body (other + i) le (omega arith)
    ]
    ∙ sym (get_or-drop other body i 0))

-- and is read back
pub body_word-with_word : (body : List ℕ) (at word : ℕ) → at < length body → word < 2 ^ 64
    → ((i : ℕ) → i < 8 → length body ≤ at + i → slice_index (to_le_bytes w64 word) i ≡ 0)
    → body_word (with_word at word body) at ≡ word
unfolding body_word
body_word-with_word body at word lt small zeros =
    let long : length (with_word at word body) ≡ length body = length-with_word at word body (omega arith) in
    from_le_bytes-same (drop at (with_word at word body)) (to_le_bytes w64 word) (λ i i8.
    get_or-drop at (with_word at word body) i 0
    ∙ elim (cases_lt (at + i) (length body)) as (λ _. slice_index (with_word at word body) (at + i)
    ≡ slice_index (to_le_bytes w64 word) i) [
      | inl near ↦ inside at word body i near i8
      | inr far ↦ get_or_past (with_word at word body) (at + i) 0 (omega arith) ∙ sym (zeros i i8 far)
    ])
    ∙ from_le_bytes-to_le_bytes_8 word small

bytes_of_word : (word : ℕ) → All (λ b. b < 256) (to_le_bytes w64 word)
bytes_of_word word zero d lt = omega arith
bytes_of_word word (suc zero) d lt = omega arith
bytes_of_word word (suc (suc zero)) d lt = omega arith
bytes_of_word word (suc (suc (suc zero))) d lt = omega arith
bytes_of_word word (suc (suc (suc (suc zero)))) d lt = omega arith
bytes_of_word word (suc (suc (suc (suc (suc zero))))) d lt = omega arith
bytes_of_word word (suc (suc (suc (suc (suc (suc zero)))))) d lt = omega arith
bytes_of_word word (suc (suc (suc (suc (suc (suc (suc zero))))))) d lt = omega arith
bytes_of_word word (suc (suc (suc (suc (suc (suc (suc (suc k)))))))) d lt = absurd (omega arith)

pub bytes_of-with_word : (body : List ℕ) (at word : ℕ) → All (λ b. b < 256) body
    → All (λ b. b < 256) (with_word at word body)
unfolding part
bytes_of-with_word body at word bytes =
    All-append (λ b. b < 256) (take at body) _ (All-take (λ b. b < 256) at body bytes)
    (All-append (λ b. b < 256) (part at word body) _
    (All-take (λ b. b < 256) (length body - at) (to_le_bytes w64 word) (bytes_of_word word))
    (All-drop (λ b. b < 256) (at + length (part at word body)) body bytes))

-- zeros
pub body_word-zeros : (n at : ℕ) → body_word (replicate n 0) at ≡ 0
unfolding body_word
body_word-zeros n at = from_le_bytes-same (drop at (replicate n 0)) (replicate 8 0) (λ i lt.
    get_or-drop at (replicate n 0) i 0
    ∙ elim (cases_lt (at + i) n) as (λ _. slice_index (replicate n 0) (at + i) ≡ slice_index (replicate 8 0) i) [
      | inl near ↦ get_or-replicate n (at + i) 0 0 near ∙ sym (get_or-replicate 8 i 0 0 lt)
      | inr far ↦ get_or_past (replicate n 0) (at + i) 0 (omega (arith, length-replicate {A = ℕ} n 0))
          ∙ sym (get_or-replicate 8 i 0 0 lt)
    ])
