-- A message, and the words that hold it.
use Rattle.std.proofs.Common.{◌≡◌, ℕ, zero, suc, ◌+◌, ◌-◌, ◌*◌, ◌/◌, ◌^◌, ◌<◌, ◌≤◌, List, [], ◌∷◌, ◌++◌, length, take, drop, get_or, refl, sym, ap, ◌∙◌, arith, ⊎_elim, ℤ, pos, negsuc, ◌≤ℤ◌, FitsSigned, replicate, length-append, w32, w64, length-take-le, length-drop, take-append-drop, get_or-drop, get_or-take, drop-drop}
use Rattle.std.specs.Int.{from_le_bytes, to_le_bytes, cast_unsigned}
use Rattle.std.proofs.lemmas.{Bool.cases_lt, Nat.mod_low, Nat.shr_high, Nat.le_bytes_8, List.Elements.All-get_or}
use Rattle.std.proofs.lemmas.List.{take-append-le, get_or-replicate, length-replicate, get_or_append_left, get_or-append_right, get_or_past}
use Rattle.std.proofs.{Math.Seq.take-append_seam, Math.Seq.take-append-add, lemmas.Int.ints}
use Rattle.ring_layout.specs.{declared.message.Message.Message, Headers.padding_header, Headers.padding_type}
use Rattle.ring_layout.specs.History.{IsMessage}
use Rattle.ring_layout.proofs.{HeaderLemmas.type_of-header, HeaderLemmas.fits_pos, WordBytes.from_le_bytes-same}
use Rattle.ring_board.specs.Records.{first_words, words_of_body, word_count, bytes_of, announced, body_len, message_in, message_of, header_of}

-- Words --------------------------------------------------------------------

pub first_words_snoc : (k : ℕ) (bytes : List ℕ)
    → first_words (suc k) bytes ≡ first_words k bytes ++ from_le_bytes w64 (drop (8 * k) bytes) ∷ []
first_words_snoc zero bytes = refl
first_words_snoc (suc k) bytes = ap (λ l. from_le_bytes w64 bytes ∷ l) (first_words_snoc k (drop 8 bytes)
    ∙ ap (λ l. first_words k (drop 8 bytes) ++ from_le_bytes w64 l ∷ [])
    (drop-drop (8 * k) 8 bytes ∙ ap (λ n. drop n bytes) (let e : 8 + 8 * k ≡ 8 * suc k = omega arith in
    e)))

module _ (bytes : List ℕ) (small : (i : ℕ) → get_or bytes i 0 < 256) where
  -- at most eight bytes, with zeros after them
  abbrev padded : List ℕ
  padded = bytes ++ replicate (8 - length bytes) 0

  padded_at : length bytes ≤ 8 → (i : ℕ) → i < 8 → get_or padded i 0 ≡ get_or bytes i 0
  padded_at le i lt = ⊎_elim (λ h. get_or_append_left bytes (replicate (8 - length bytes) 0) 0 i h)
      (λ h. get_or-append_right bytes (replicate (8 - length bytes) 0) (length bytes) i 0 refl h
      ∙ (get_or-replicate (8 - length bytes) (i - length bytes) 0 0 (omega arith) ∙ sym (get_or_past bytes i 0 h)))
      (cases_lt i (length bytes))

  word_of_few : length bytes ≤ 8 → to_le_bytes w64 (from_le_bytes w64 bytes) ≡ padded
  word_of_few le = let r : length (replicate {A = ℕ} (8 - length bytes) 0) ≡ 8 - length bytes =
      length-replicate (8 - length bytes) 0 in
      let long : length padded ≡ 8 = length-append bytes (replicate (8 - length bytes) 0) ∙ omega arith in
      le_bytes_8 padded (from_le_bytes w64 bytes) long
      (λ i. ⊎_elim (λ h. let same = padded_at le i h in let s = small i in omega arith)
      (λ h. let past = get_or_past padded i 0 (omega arith) in
      omega arith) (cases_lt i 8))
      (from_le_bytes-same bytes padded (λ i lt. sym (padded_at le i lt)))

  word_of_more : 8 ≤ length bytes → to_le_bytes w64 (from_le_bytes w64 bytes) ≡ take 8 bytes
  word_of_more le = let long = length-take-le 8 bytes le in le_bytes_8 (take 8 bytes) (from_le_bytes w64 bytes) long
      (λ i. ⊎_elim (λ h. let same = get_or-take 8 bytes i 0 h in let s = small i in
      omega arith) (λ h. let past = get_or_past (take 8 bytes) i 0 (omega arith) in omega arith) (cases_lt i 8))
      (from_le_bytes-same bytes (take 8 bytes) (λ i lt. sym (get_or-take 8 bytes i 0 lt)))

-- the bytes of the words of bytes
pub words_back : (k : ℕ) (bytes : List ℕ) → ((i : ℕ) → get_or bytes i 0 < 256) → length bytes ≤ 8 * k
    → take (length bytes) (bytes_of (first_words k bytes)) ≡ bytes
words_back zero [] small le = refl
words_back zero (x ∷ xs) small le = absurd (omega arith)
words_back (suc k) bytes small le = ⊎_elim
    (λ few. ap (λ l. take (length bytes) (l ++ bytes_of (first_words k (drop 8 bytes))))
    (word_of_few bytes small (omega arith))
    ∙ (take-append-le (length bytes) (padded bytes small) (bytes_of (first_words k (drop 8 bytes)))
    (let l = length-append bytes (replicate (8 - length bytes) 0) in
    omega arith)
    ∙ take-append_seam bytes (replicate (8 - length bytes) 0)))
    (λ more. let rest : List ℕ = drop 8 bytes in let long = length-drop 8 bytes in let front =
    length-take-le 8 bytes more in
    ap (λ l. take (length bytes) (l ++ bytes_of (first_words k rest))) (word_of_more bytes small more)
    ∙ (ap (λ n. take n (take 8 bytes ++ bytes_of (first_words k rest)))
    (let e : length bytes ≡ length (take 8 bytes) + length rest = omega arith in
    e)
    ∙ (take-append-add (take 8 bytes) (bytes_of (first_words k rest)) (length rest)
    ∙ (ap (λ l. take 8 bytes ++ l) (words_back k rest (λ i. let d = get_or-drop 8 bytes i 0 in let s = small (8 + i) in
    omega arith) (omega arith)) ∙ take-append-drop 8 bytes))))
    (cases_lt (length bytes) 8)

-- Headers ------------------------------------------------------------------

small_pattern : (t : ℤ) → pos 1 ≤ℤ t → FitsSigned w32 t → cast_unsigned w32 t < 2 ^ 31
small_pattern (pos n) low f = omega (arith, f.sfits)
small_pattern (negsuc n) low f = absurd (omega (arith, ints))

module _ (C : ℕ) (m : Message) (narrow : C ≤ 2 ^ 24) (lawful : IsMessage C m) where
  pub announced_header : announced (header_of m) ≡ 8 + length m.body
  announced_header = let s = lawful.short in mod_low (cast_unsigned w32 m.type_id) 32 (8 + length m.body) (omega arith)

  pub header_not_padding : header_of m / 2 ^ 32 < 2 ^ 31
  header_not_padding =
      let s = lawful.short in let h = shr_high (cast_unsigned w32 m.type_id) 32 (8 + length m.body) (omega arith) in
      let t = small_pattern m.type_id lawful.type_id lawful.type_fits in omega arith

  -- the body of its words
  pub body_back : take (length m.body) (bytes_of (words_of_body m.body)) ≡ m.body
  body_back = words_back (word_count (length m.body)) m.body
      (λ i. ⊎_elim (λ h. All-get_or (λ (b : ℕ). b < 256) m.body i 0 h lawful.bytes)
      (λ h. let past = get_or_past m.body i 0 h in
      omega arith) (cases_lt i (length m.body))) (omega arith)

  bytes_back : take (body_len (header_of m)) (bytes_of (words_of_body m.body)) ≡ m.body
  bytes_back = let a = announced_header in
      ap (λ n. take n (bytes_of (words_of_body m.body))) (let e : body_len (header_of m)
      ≡ length m.body = omega arith in e)
      ∙ body_back

  -- a message is the one that its header announces, with its body
  pub message_whole : message_of (header_of m) m.body ≡ m
  message_whole = let s = lawful.short in
      let t = type_of-header (pos (8 + length m.body)) m.type_id
      (fits_pos (8 + length m.body) (omega arith)) lawful.type_fits in
      λ i. record { type_id = t i; body = m.body }

  -- a message is the one that its header and words hold
  pub message_back : message_in (header_of m) (words_of_body m.body) ≡ m
  message_back = ap (message_of (header_of m)) bytes_back ∙ message_whole

pub announced_padding : (n : ℕ) → n < 2 ^ 31 → announced (padding_header n) ≡ n
announced_padding n lt = mod_low (cast_unsigned w32 padding_type) 32 n (omega arith)

pub padding_kind : (n : ℕ) → n < 2 ^ 31 → padding_header n / 2 ^ 32 ≡ 0xffff_ffff
padding_kind n lt = shr_high (cast_unsigned w32 padding_type) 32 n (omega arith)
