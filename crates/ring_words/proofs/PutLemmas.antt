-- Bytes put into a body that is in words.
use Rattle.std.proofs.Common.{◌≡◌, ◌⊎◌, ℕ, ◌+◌, ◌-◌, ◌*◌, ◌/◌, ◌%◌, ◌<◌, ◌≤◌, List, length, take, drop, slice_index, slice_set, ap, sym, ◌∙◌, subst, arith, inl, inr, All, get_or-set_other, get_or-set_same, w64, ext_get_or, get_or-take, length-take-le}
use Rattle.std.specs.Int.{from_le_bytes, to_le_bytes}
use Rattle.std.proofs.lemmas.Bool.{cases_lt, cases_eq}
use Rattle.std.proofs.lemmas.List.{get_or_past, Elements.All-get_or, Elements.All-from_get_or}
use Rattle.ring_layout.specs.{History.overwritten, Bytes.HoldsBytes}
use Rattle.ring_layout.proofs.WordBytes.{length-overwritten, overwritten_before, overwritten_inside, overwritten_behind, overwritten_word, overwritten_word_apart, overwritten_more}

pub overwritten_small : (at : ℕ) (bs xs : List ℕ) → at + length bs ≤ length xs → All (λ b. b < 256) xs
    → All (λ b. b < 256) bs → All (λ b. b < 256) (overwritten at bs xs)
overwritten_small at bs xs le old new =
    let P : ℕ → Type 0 = λ b. b < 256 in
    let size = length-overwritten at bs xs le in
    All-from_get_or P (overwritten at bs xs) 0 (λ i lt.
    elim (cases_lt i at) as (λ _. P (slice_index (overwritten at bs xs) i)) [
      | inl before ↦ rw (overwritten_before at bs xs i le before) (All-get_or P xs i 0 (omega arith) old)
      | inr from ↦ elim (cases_lt i (at + length bs)) as (λ _. P (slice_index (overwritten at bs xs) i)) [
        | inl inside ↦ rw (overwritten_inside at bs xs i le from inside) (All-get_or P bs (i - at) 0 (omega arith) new)
        | inr behind ↦ rw (overwritten_behind at bs xs i le behind) (All-get_or P xs i 0 (omega arith) old)
      ]
    ])

pub small_at : (bs : List ℕ) → All (λ b. b < 256) bs → (j : ℕ) → slice_index bs j < 256
small_at bs small j =
    elim (cases_lt j (length bs)) as (λ _. slice_index bs j < 256) [
      | inl h ↦ All-get_or (λ (b : ℕ). b < 256) bs j 0 h small
      | inr h ↦ omega (arith, get_or_past bs j 0 h)
    ]

small_front : (n : ℕ) (bs : List ℕ) → n ≤ length bs → ((j : ℕ) → slice_index bs j < 256)
    → All (λ b. b < 256) (take n bs)
small_front n bs le small =
    let size = length-take-le n bs le in
    All-from_get_or (λ (b : ℕ). b < 256) (take n bs) 0
    (λ i lt. let e = get_or-take n bs i 0 (omega arith) in omega (arith, e, small i))

-- no byte is put
pub overwritten_none : (at : ℕ) (bs xs : List ℕ) → at ≤ length xs → length bs ≡ 0 → overwritten at bs xs ≡ xs
overwritten_none at bs xs le none =
    let size = length-overwritten at bs xs (omega arith) in
    ext_get_or 0 (overwritten at bs xs) xs size (λ i lt.
    elim (cases_lt i at) as (λ _. slice_index (overwritten at bs xs) i ≡ slice_index xs i) [
      | inl before ↦ overwritten_before at bs xs i (omega arith) before
      | inr behind ↦ overwritten_behind at bs xs i (omega arith) (omega arith)
    ])

-- bytes are inside a body
pub record LieInBody (offset : ℕ) (bytes body : List ℕ) : Type 0 where
  pub old : All (λ b. b < 256) body
  pub new : (j : ℕ) → slice_index bytes j < 256
  pub fits : offset + length bytes ≤ length body

-- the chunk is the n bytes after those that were put, which are in one word
pub record IsChunk (offset done n : ℕ) (bytes chunk : List ℕ) : Type 0 where
  pub some : 0 < n
  pub more : done + n ≤ length bytes
  pub size : length chunk ≡ n
  pub bytes_are : chunk ≡ take n (drop done bytes)
  pub in_word : (offset + done) % 8 + n ≤ 8

-- n bytes more are put, into one word
pub holds_more : (at offset done n word : ℕ) (bytes chunk words body : List ℕ) → LieInBody offset bytes body
    → IsChunk offset done n bytes chunk → at + (offset + done) / 8 < length words
    → word ≡ from_le_bytes w64 (overwritten ((offset + done) % 8) chunk
    (to_le_bytes w64 (slice_index words (at + (offset + done) / 8))))
    → HoldsBytes words at (overwritten offset (take done bytes) body)
    → HoldsBytes (slice_set words (at + (offset + done) / 8) word) at (overwritten offset (take (done + n) bytes) body)
holds_more at offset done n word bytes chunk words body lie part room stored held =
    let small = lie.old in
    let small' = lie.new in
    let fits = lie.fits in
    let some = part.some in
    let more = part.more in
    let size = part.size in
    let is = part.bytes_are in
    let in_word = part.in_word in
    let k : ℕ = (offset + done) / 8 in
    let b : ℕ = (offset + done) % 8 in
    let there : 8 * k + b ≡ offset + done = omega arith in
    let front : length (take done bytes) ≡ done = length-take-le done bytes (omega arith) in
    let mid : List ℕ = overwritten offset (take done bytes) body in
    let size_mid : length mid ≡ length body = length-overwritten offset (take done bytes) body (omega arith) in
    let is' : chunk ≡ take (length chunk) (drop done bytes) = is ∙ ap (λ m. take m (drop done bytes)) (sym size) in
    let whole : overwritten (8 * k + b) chunk mid ≡ overwritten offset (take (done + n) bytes) body =
    ap (λ p. overwritten p chunk mid) there ∙ overwritten_more offset done chunk bytes body fits (omega arith) is'
    ∙ ap (λ m. overwritten offset (take (done + m) bytes) body) size in
    let in_mid : 8 * k + b + length chunk ≤ length mid = omega arith in
    let small_mid =
    small_at mid (overwritten_small offset (take done bytes) body (omega arith) small
    (small_front done bytes (omega arith) small')) in
    subst (λ (l : List ℕ). HoldsBytes (slice_set words (at + k) word) at l) whole (λ j lt.
    let size_new : length (overwritten (8 * k + b) chunk mid) ≡ length mid =
    length-overwritten (8 * k + b) chunk mid in_mid in
    elim (cases_eq j k) as (λ _. slice_index (slice_set words (at + k) word) (at + j)
    ≡ from_le_bytes w64 (drop (8 * j) (overwritten (8 * k + b) chunk mid))) [
      | inl here ↦
          ap (λ m. slice_index (slice_set words (at + k) word) (at + m)) here
          ∙ get_or-set_same words (at + k) word 0 room ∙ stored
          ∙ ap (λ w. from_le_bytes w64 (overwritten b chunk (to_le_bytes w64 w))) (held k (omega arith))
          ∙ overwritten_word mid k b chunk small_mid (omega arith) in_mid
          ∙ ap (λ m. from_le_bytes w64 (drop (8 * m) (overwritten (8 * k + b) chunk mid))) (sym here)
      | inr other ↦
          get_or-set_other words (at + k) (at + j) word 0 (λ e. other (omega arith))
          ∙ held j (omega arith)
          ∙ sym (overwritten_word_apart mid j (8 * k + b) chunk in_mid
          (elim (cases_lt j k) as (λ _. (8 * j + 8 ≤ 8 * k + b) ⊎ (8 * k + b + length chunk ≤ 8 * j))
          [ inl l ↦ inl (omega arith) | inr l ↦ inr (omega arith) ]))
    ])
