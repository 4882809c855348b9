-- The words of a record say what the record is.
use Rattle.std.proofs.Common.{◌≡◌, ℕ, zero, suc, ◌+◌, ◌-◌, ◌*◌, ◌/◌, ◌%◌, ◌^◌, ◌<◌, ◌≤◌, ℤ, pos, negsuc, FitsSigned, List, [], length, drop, set, replicate, slice_index, refl, sym, ap, subst, ◌∙◌, arith, inl, inr, get_or-set_other, get_or-set_same, All, length-set, min, w32, w64, lt-ltb, le-ltb, ne_eqb, ext_get_or, length-append, get_or-drop}
use Rattle.std.specs.Int.{Width, from_le_bytes, cast_signed, cast_unsigned}
use Rattle.std.proofs.lemmas.Bool.{cases_lt, cond-true, cond-false}
use Rattle.std.proofs.lemmas.{Int.to_z-of_z, Nat.mod_low, Nat.shr_high, Nat.from_le_bytes-to_le_bytes_4}
use Rattle.std.proofs.lemmas.List.{length-replicate, get_or_past, get_or_append_left, get_or-append_right}
use Rattle.std.proofs.lemmas.List.Elements.{All-get_or, All-from_get_or}
use Rattle.std.proofs.lemmas.List.FromFn.{length-map-range_with_len, get_or-map-range_with_len}
use Rattle.ring_counters.specs.Counter.{Status, Unused, Allocated, Reclaimed, Metadata, Values, zero_padded, unused_metadata, state_of, deadline_of, state_word, label_text, metadata_word, value_word}
use Rattle.ring_counters.specs.Records.{byte_at, bytes_at, status_from, metadata_of, IsMetadata, SomeMetadata, IsValues}
use Rattle.ring_layout.specs.Bytes.{word_of_bytes}
use Rattle.ring_layout.proofs.{HeaderLemmas.pattern_below, WordBytes.byte_of_word, WordBytes.from_le_bytes-same}

-- ---- bytes in words

unfoldable pub AreSmall : List ℕ → Type 0
AreSmall bytes = (j : ℕ) → slice_index bytes j < 256

small_from_all : (bytes : List ℕ) → All (λ b. b < 256) bytes → AreSmall bytes
unfolding AreSmall
small_from_all bytes all j =
    elim (cases_lt j (length bytes)) as (λ _. slice_index bytes j < 256) [
      | inl h ↦ All-get_or (λ (b : ℕ). b < 256) bytes j 0 h all
      | inr h ↦ omega (arith, get_or_past bytes j 0 h)
    ]

byte_from_word : (bytes : List ℕ) → AreSmall bytes → (k : ℕ)
    → word_of_bytes bytes (k / 8) / 2 ^ (8 * (k % 8)) % 256 ≡ slice_index bytes k
unfolding AreSmall
byte_from_word bytes small k =
    byte_of_word (drop (8 * (k / 8)) bytes) (λ j. let e =
    get_or-drop (8 * (k / 8)) bytes j 0 in omega (arith, e, small (8 * (k / 8) + j))) (k % 8) (omega arith)
    ∙ get_or-drop (8 * (k / 8)) bytes (k % 8) 0
    ∙ ap (slice_index bytes) (omega arith)

-- a byte of the words is that of the bytes that they show from the word `at` on
shown_byte : (words bytes : List ℕ) (at i k : ℕ) → AreSmall bytes → i ≡ 8 * at + k
    → slice_index words (at + k / 8) ≡ word_of_bytes bytes (k / 8) → byte_at words i ≡ slice_index bytes k
shown_byte words bytes at i k small e shows =
    let word : i / 8 ≡ at + k / 8 = omega arith in
    let rest : i % 8 ≡ k % 8 = omega arith in
    (λ j. slice_index words (word j) / 2 ^ (8 * rest j) % 256)
    ∙ ap (λ w. w / 2 ^ (8 * (k % 8)) % 256) shows
    ∙ byte_from_word bytes small k

zero_past : (m i : ℕ) → slice_index (replicate m 0) i ≡ 0
zero_past zero i = refl
zero_past (suc m) zero = refl
zero_past (suc m) (suc i) = zero_past m i

-- zeros after the bytes change no byte, and no word
pub slice_index-padded : (n : ℕ) (bytes : List ℕ) (i : ℕ) → slice_index bytes i ≡ slice_index (zero_padded n bytes) i
slice_index-padded n bytes i =
    elim (cases_lt i (length bytes)) as (λ _. slice_index bytes i ≡ slice_index (zero_padded n bytes) i) [
      | inl h ↦ sym (get_or_append_left bytes (replicate (n - length bytes) 0) 0 i h)
      | inr h ↦
          get_or_past bytes i 0 h
          ∙ sym (zero_past (n - length bytes) (i - length bytes))
          ∙ sym (get_or-append_right bytes (replicate (n - length bytes) 0) (length bytes) i 0 refl h)
    ]

-- a word depends on the bytes alone
pub word_of-same : (xs ys : List ℕ) → ((i : ℕ) → slice_index xs i ≡ slice_index ys i) → (k : ℕ)
    → word_of_bytes xs k ≡ word_of_bytes ys k
word_of-same xs ys same k =
    from_le_bytes-same (drop (8 * k) xs) (drop (8 * k) ys)
    (λ i h. get_or-drop (8 * k) xs i 0 ∙ same (8 * k + i) ∙ sym (get_or-drop (8 * k) ys i 0))

pub word_of-padded : (n : ℕ) (bytes : List ℕ) (k : ℕ) → word_of_bytes bytes k ≡ word_of_bytes (zero_padded n bytes) k
word_of-padded n bytes = word_of-same bytes (zero_padded n bytes) (slice_index-padded n bytes)

no_word : (k : ℕ) → word_of_bytes [] k ≡ 0
no_word zero = refl
no_word (suc k) = word_of-same [] [] (λ i. refl) (suc k)
    ∙ from_le_bytes-same (drop (8 * suc k) []) [] (λ i h. get_or-drop (8 * suc k) [] i 0)

pub word_of-zeros : (bytes : List ℕ) → ((i : ℕ) → slice_index bytes i ≡ 0) → (k : ℕ) → word_of_bytes bytes k ≡ 0
word_of-zeros bytes zeros k = word_of-same bytes [] zeros k ∙ no_word k

-- after the bytes the words are 0
pub word_of-past : (bytes : List ℕ) (k : ℕ) → length bytes ≤ 8 * k → word_of_bytes bytes k ≡ 0
word_of-past bytes k h = from_le_bytes-same (drop (8 * k) bytes) []
    (λ i less. get_or-drop (8 * k) bytes i 0 ∙ get_or_past bytes (8 * k + i) 0 (omega arith))

-- ---- a label after its length

module _ (label : List ℕ) (short : length label ≤ 380) where
  -- its first 4 bytes are in one word with its length
  pub first_of_text : AreSmall label → from_le_bytes w64 label * 2 ^ 32 % 2 ^ 64 + length label
      ≡ word_of_bytes (label_text label) 0
  unfolding AreSmall
  first_of_text small =
      omega (
        arith,
        from_le_bytes-to_le_bytes_4 (length label)
            (omega arith),
        small 0,
        small 1,
        small 2,
        small 3,
        small 4,
        small 5,
        small 6,
        small 7,
      )

  -- the words after it are those of the bytes from the fifth on
  pub rest_of_text : (n k : ℕ) → n ≡ min (length label) 4
      → word_of_bytes (drop n label) k ≡ word_of_bytes (label_text label) (suc k)
  rest_of_text n k is =
      from_le_bytes-same (drop (8 * k) (drop n label)) (drop (8 * suc k) (label_text label))
      (λ i h. get_or-drop (8 * k) (drop n label) i 0 ∙ get_or-drop n label (8 * k + i) 0 ∙ behind (8 * k + i)
      ∙ (let at : suc (suc (suc (suc (4 + (8 * k + i))))) ≡ 8 * suc k + i =
      omega arith in ap (slice_index (label_text label)) at) ∙ sym (get_or-drop (8 * suc k) (label_text label) i 0))
    where
      behind : (i : ℕ) → slice_index label (n + i) ≡ slice_index (label_text label) (suc (suc (suc (suc (4 + i)))))
      behind i =
          elim (cases_lt (length label) 4) as (λ _. slice_index label (n + i)
          ≡ slice_index (label_text label) (suc (suc (suc (suc (4 + i)))))) [
            | inl less ↦ get_or_past label (n + i) 0 (omega arith) ∙ sym (get_or_past label (4 + i) 0 (omega arith))
            | inr more ↦ ap (slice_index label) (omega arith)
          ]

-- ---- words of a metadata record

pub state_fits : (s : Status) → FitsSigned w32 (state_of s)
state_fits Unused = record { sfits = omega arith }
state_fits Allocated = record { sfits = omega arith }
state_fits (Reclaimed d) = record { sfits = omega arith }

low_of-state_word : (s : Status) (type_id : ℤ)
    → state_word (state_of s) type_id % 2 ^ 32 ≡ cast_unsigned w32 (state_of s)
low_of-state_word s type_id =
    mod_low (cast_unsigned w32 type_id) 32 (cast_unsigned w32 (state_of s)) (pattern_below (state_of s) (state_fits s))

high_of-state_word : (s : Status) (type_id : ℤ) → state_word (state_of s) type_id / 2 ^ 32 ≡ cast_unsigned w32 type_id
high_of-state_word s type_id = shr_high (cast_unsigned w32 type_id) 32 (cast_unsigned w32 (state_of s))
    (pattern_below (state_of s) (state_fits s))

status_from-state : (s : Status) → status_from (cast_unsigned w32 (state_of s)) (deadline_of s) ≡ s
status_from-state Unused = refl
status_from-state Allocated = refl
status_from-state (Reclaimed d) = refl

pub metadata_word-key : (m : Metadata) (k : ℕ) → 2 ≤ k → k < 16 → metadata_word m k ≡ word_of_bytes m.key (k - 2)
unfolding metadata_word
metadata_word-key m k lo hi =
    cond-false _ _ _ (ne_eqb k 0 (λ e. omega arith)) ∙ cond-false _ _ _ (ne_eqb k 1 (λ e. omega arith))
    ∙ cond-true _ _ _ (lt-ltb k 16 hi)

pub metadata_word-label : (m : Metadata) (k : ℕ) → 16 ≤ k
    → metadata_word m k ≡ word_of_bytes (label_text m.label) (k - 16)
unfolding metadata_word
metadata_word-label m k lo =
    cond-false _ _ _ (ne_eqb k 0 (λ e. omega arith)) ∙ cond-false _ _ _ (ne_eqb k 1 (λ e. omega arith))
    ∙ cond-false _ _ _ (le-ltb k 16 lo)

module _ (words : List ℕ) (m : Metadata) (h : IsMetadata words m) where
  pub state_shown : slice_index words 0 ≡ state_word (state_of m.status) m.type_id
  unfolding metadata_word
  state_shown = h.shows 0 (omega arith)

  pub deadline_shown : slice_index words 1 ≡ deadline_of m.status
  unfolding metadata_word
  deadline_shown = h.shows 1 (omega arith)

  status_decoded : status_from (slice_index words 0 % 2 ^ 32) (slice_index words 1) ≡ m.status
  status_decoded =
      (λ i. status_from (state_shown i % 2 ^ 32) (deadline_shown i))
      ∙ ap (λ state. status_from state (deadline_of m.status)) (low_of-state_word m.status m.type_id)
      ∙ status_from-state m.status

  pub type_decoded : cast_signed w32 (slice_index words 0 / 2 ^ 32) ≡ m.type_id
  type_decoded =
      ap (λ w. cast_signed w32 (w / 2 ^ 32)) state_shown
      ∙ ap (cast_signed w32) (high_of-state_word m.status m.type_id)
      ∙ to_z-of_z w32 m.type_id h.lawful.type_id

  pub state_decoded : cast_signed w32 (slice_index words 0 % 2 ^ 32) ≡ state_of m.status
  state_decoded =
      ap (λ w. cast_signed w32 (w % 2 ^ 32)) state_shown
      ∙ ap (cast_signed w32) (low_of-state_word m.status m.type_id)
      ∙ to_z-of_z w32 (state_of m.status) (state_fits m.status)

  pub key_byte : (k : ℕ) → k < 112 → byte_at words (16 + k) ≡ slice_index m.key k
  key_byte k lt =
      let at : 2 + k / 8 - 2 ≡ k / 8 = omega arith in
      shown_byte words m.key 2 (16 + k) k (small_from_all m.key h.lawful.key) (omega arith)
      (h.shows (2 + k / 8) (omega arith) ∙ metadata_word-key m (2 + k / 8) (omega arith) (omega arith)
      ∙ ap (word_of_bytes m.key) at)

  text_word : (k : ℕ) → k < 48 → slice_index words (16 + k) ≡ word_of_bytes (label_text m.label) k
  text_word k lt =
      let at : 16 + k - 16 ≡ k = omega arith in
      h.shows (16 + k) (omega arith) ∙ metadata_word-label m (16 + k) (omega arith)
      ∙ ap (word_of_bytes (label_text m.label)) at

  text_small : AreSmall (label_text m.label)
  unfolding AreSmall
  text_small zero = omega arith
  text_small (suc zero) = omega arith
  text_small (suc (suc zero)) = omega arith
  text_small (suc (suc (suc zero))) = omega arith
  text_small (suc (suc (suc (suc j)))) = small_from_all m.label h.lawful.label j

  pub label_byte : (k : ℕ) → k < 380 → byte_at words (132 + k) ≡ slice_index m.label k
  label_byte k lt = shown_byte words (label_text m.label) 16 (132 + k) (suc (suc (suc (suc k)))) text_small
      (omega arith) (text_word (suc (suc (suc (suc k))) / 8) (omega arith))

  pub length_decoded : slice_index words 16 % 2 ^ 32 ≡ length m.label
  length_decoded =
      let n = length m.label in
      let few : n ≤ 380 = h.lawful.label_length in
      ap (λ w. w % 2 ^ 32) (text_word 0 (omega arith)) ∙ omega (arith, from_le_bytes-to_le_bytes_4 n (omega arith))

  pub metadata_decoded : metadata_of words ≡ m
  unfolding metadata_of
  metadata_decoded =
      let key : bytes_at words 16 112 ≡ m.key =
      ext_get_or 0 (bytes_at words 16 112) m.key
      (length-map-range_with_len (byte_at words) 16 112 ∙ sym h.lawful.key_length)
      (λ k lt. let lt' : k < 112 = omega (arith, length-map-range_with_len (byte_at words) 16 112) in
      get_or-map-range_with_len (byte_at words) 16 112 k (16 + k) 0 lt' refl ∙ key_byte k lt') in
      let n = length m.label in
      let few : n ≤ 380 = h.lawful.label_length in
      let label : bytes_at words 132 n ≡ m.label =
      ext_get_or 0 (bytes_at words 132 n) m.label (length-map-range_with_len (byte_at words) 132 n)
      (λ k lt. let lt' : k < n = omega (arith, length-map-range_with_len (byte_at words) 132 n) in
      get_or-map-range_with_len (byte_at words) 132 n k (132 + k) 0 lt' refl ∙ label_byte k (omega arith)) in
      λ i. record {
        status = status_decoded i;
        type_id = type_decoded i;
        key = key i;
        label = (ap (bytes_at words 132) length_decoded ∙ label) i;
      }

-- the words that say m are those of m
pub metadata_known : (words : List ℕ) (m : Metadata) → metadata_of words ≡ m → SomeMetadata words → IsMetadata words m
metadata_known words m e h = subst (IsMetadata words) (sym (metadata_decoded words h.0 h.1) ∙ e) h.1

-- ---- words of a value record

module _ (words : List ℕ) (v : Values) (h : IsValues words v) where
  pub value_decoded : cast_signed w64 (slice_index words 0) ≡ v.value
  unfolding value_word
  value_decoded = ap (cast_signed w64) (h.shows 0 (omega arith)) ∙ to_z-of_z w64 v.value h.value

  pub registration_shown : slice_index words 1 ≡ v.registration
  unfolding value_word
  registration_shown = h.shows 1 (omega arith)

  pub owner_shown : slice_index words 2 ≡ v.owner
  unfolding value_word
  owner_shown = h.shows 2 (omega arith)

-- a number that a signed type holds, as a call gives it
pub signed : (w : Width) (z y : ℤ) → z ≡ y → FitsSigned w y → cast_signed w (cast_unsigned w z) ≡ y
signed w z y e f = ap (λ x. cast_signed w (cast_unsigned w x)) e ∙ to_z-of_z w y f

-- ---- words that a call stores

shows_from : (words : List ℕ) (m : Metadata) → slice_index words 0 ≡ state_word (state_of m.status) m.type_id
    → slice_index words 1 ≡ deadline_of m.status
    → ((k : ℕ) → 2 ≤ k → k < 16 → slice_index words k ≡ word_of_bytes m.key (k - 2))
    → ((k : ℕ) → 16 ≤ k → k < 64 → slice_index words k ≡ word_of_bytes (label_text m.label) (k - 16))
    → (k : ℕ) → k < 64 → slice_index words k ≡ metadata_word m k
unfolding metadata_word
shows_from words m state deadline key label zero h = state
shows_from words m state deadline key label (suc zero) h = deadline
shows_from words m state deadline key label (suc (suc k)) h =
    elim (cases_lt (suc (suc k)) 16) as (λ _. slice_index words (suc (suc k)) ≡ metadata_word m (suc (suc k))) [
      | inl less ↦ key (suc (suc k)) (omega arith) less ∙ sym (metadata_word-key m (suc (suc k)) (omega arith) less)
      | inr more ↦ label (suc (suc k)) more h ∙ sym (metadata_word-label m (suc (suc k)) more)
    ]

pub unused_metadata_shown : IsMetadata (replicate 64 0) unused_metadata
unused_metadata_shown = record {
  lawful = record {
    type_id = record { sfits = omega arith };
    key_length = refl;
    key = All-from_get_or (λ (b : ℕ). b < 256) (replicate 112 0) 0 (λ i h. omega (arith, zero_past 112 i));
    label_length = omega arith;
    label = All-from_get_or (λ (b : ℕ). b < 256) [] 0 (λ i h. absurd (omega arith));
  };
  shows = shows_from (replicate 64 0) unused_metadata refl refl
      (λ k lo hi. zero_past 64 k ∙ sym (word_of-zeros (replicate 112 0) (zero_past 112) (k - 2)))
      (λ k lo hi. zero_past 64 k ∙ sym (word_of-zeros (label_text []) (zero_past 4) (k - 16)));
}

-- a record after its state and its deadline were stored
pub reclaimed_shown : (words : List ℕ) (m : Metadata) (state deadline : ℕ) → IsMetadata words m → length words ≡ 64
    → state ≡ state_word (negsuc 0) m.type_id
    → IsMetadata (set (set words 0 state) 1 deadline) (record m { status = Reclaimed deadline })
reclaimed_shown words m state deadline h len is = record {
  lawful = record {
    type_id = h.lawful.type_id;
    key_length = h.lawful.key_length;
    key = h.lawful.key;
    label_length =
        h.lawful.label_length;
    label = h.lawful.label;
  };
  shows =
      let first : (k : ℕ) → 2 ≤ k → slice_index (set (set words 0 state) 1 deadline) k ≡ slice_index words k =
      λ k lo. get_or-set_other (set words 0 state) 1 k deadline 0 (λ e. omega arith)
      ∙ get_or-set_other words 0 k state 0 (λ e. omega arith) in
      shows_from (set (set words 0 state) 1 deadline) (record m { status = Reclaimed deadline })
      (get_or-set_other (set words 0 state) 1 0 deadline 0 (λ e. omega arith)
      ∙ get_or-set_same words 0 state 0 (omega arith) ∙ is)
      (get_or-set_same (set words 0 state) 1 deadline 0 (omega (arith, length-set {A = ℕ})))
      (λ k lo hi. first k lo ∙ h.shows k (omega arith) ∙ metadata_word-key m k lo hi)
      (λ k lo hi. first k (omega arith) ∙ h.shows k hi ∙ metadata_word-label m k lo);
}

-- n bytes of a text were stored as words from the index `at` on, and no others
pub record StoresText (at n : ℕ) (text old new : List ℕ) : Type 0 where
  pub inside : (k : ℕ) → 8 * k < n → slice_index new (at + k) ≡ word_of_bytes text k
  pub below : (i : ℕ) → i < at → slice_index new i ≡ slice_index old i
  pub above : (i : ℕ) → at + (n + 7) / 8 ≤ i → slice_index new i ≡ slice_index old i

-- type id, key and label have room in a record
pub record FitRecord (type_id : ℤ) (key label : List ℕ) : Type 0 where
  pub type_fits : FitsSigned w32 type_id
  pub small_key : AreSmall key
  pub small_label : AreSmall label
  pub few_key : length key ≤ 112
  pub few_label : length label ≤ 380

-- a record of zeros after all of an allocated counter was stored
pub allocated_shown : (type_id : ℤ) (key label w0 w1 w2 : List ℕ) (state : ℕ) → FitRecord type_id key label
    → state ≡ state_word (pos 1) type_id
    → w0 ≡ set (set (replicate 64 0) 0 state) 1 (2 ^ 63 - 1)
    → StoresText 2 (length key) key w0 w1 → StoresText 16 (length label + 4) (label_text label) w1 w2
    → IsMetadata w2 record { status = Allocated; type_id = type_id; key = zero_padded 112 key; label = label }
unfolding AreSmall
allocated_shown type_id key label w0 w1 w2 state fit is_state is_w0 of_key of_label =
    let few_key = fit.few_key in
    let few_label = fit.few_label in
    let below = of_key.below in
    let text_below = of_label.below in
    let m : Metadata = record { status = Allocated; type_id = type_id; key = zero_padded 112 key; label = label } in
    record {
      lawful = record {
        type_id = fit.type_fits;
        key_length = omega (
          arith,
          length-append key (replicate (112 - length key) 0),
          length-replicate {A = ℕ}
              (112 - length key) 0,
        );
        key = All-from_get_or (λ (b : ℕ). b < 256) (zero_padded 112 key) 0
            (λ i h. omega (arith, slice_index-padded 112 key i, fit.small_key i));
        label_length = few_label;
        label = All-from_get_or (λ (b : ℕ). b < 256) label 0 (λ i h. fit.small_label i);
      };
      shows = shows_from w2 m
          (text_below 0 (omega arith) ∙ below 0 (omega arith) ∙ ap (λ l. slice_index l 0) is_w0 ∙ is_state)
          (text_below 1 (omega arith) ∙ below 1 (omega arith) ∙ ap (λ l. slice_index l 1) is_w0)
          (λ k lo hi. text_below k hi ∙ key_word k lo hi ∙ word_of-padded 112 key (k - 2))
          (λ k lo hi. label_word k lo);
    }
  where
    blank : (k : ℕ) → 2 ≤ k → slice_index w0 k ≡ 0
    blank k lo =
        ap (λ l. slice_index l k) is_w0
        ∙ get_or-set_other (set (replicate 64 0) 0 state) 1 k (2 ^ 63 - 1) 0 (λ e. omega arith)
        ∙ get_or-set_other (replicate 64 0) 0 k state 0 (λ e. omega arith)
        ∙ zero_past 64 k

    key_word : (k : ℕ) → 2 ≤ k → k < 16 → slice_index w1 k ≡ word_of_bytes key (k - 2)
    key_word k lo hi =
        elim (cases_lt (8 * (k - 2)) (length key)) as (λ _. slice_index w1 k ≡ word_of_bytes key (k - 2)) [
          | inl less ↦ (let at : 2 + (k - 2) ≡ k = omega arith in sym (ap (slice_index w1) at) ∙ of_key.inside
              (k - 2) less)
          | inr more ↦ of_key.above k (omega (arith, fit.few_key)) ∙ blank k lo ∙ sym (word_of-past key (k - 2) more)
        ]

    label_word : (k : ℕ) → 16 ≤ k → slice_index w2 k ≡ word_of_bytes (label_text label) (k - 16)
    label_word k lo =
        elim (cases_lt (8 * (k - 16)) (length label + 4)) as (λ _. slice_index w2 k
        ≡ word_of_bytes (label_text label) (k - 16)) [
          | inl less ↦ (let at : 16 + (k - 16) ≡ k = omega arith in sym (ap (slice_index w2) at)
              ∙ of_label.inside (k - 16) less)
          | inr more ↦ of_label.above k (omega (arith, fit.few_label)) ∙ of_key.above k (omega (arith, fit.few_key))
              ∙ blank k (omega arith)
              ∙ sym (word_of-past (label_text label) (k - 16) (omega arith))
        ]
