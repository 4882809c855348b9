-- The words that the slots of a run have.
use Rattle.std.proofs.Common.{◌≡◌, ℕ, zero, suc, ◌+◌, ◌-◌, ◌%◌, ◌^◌, ◌≤◌, ◌<◌, List, [], ◌∷◌, ◌++◌, All, drop, replicate, get_or, sym, refl, ap, ◌∙◌, subst, ⊎_elim, length, length-append, arith, get_or-append-add, get_or-drop}
use Rattle.std.proofs.Math.{Option.some, Option.some-injective, Option.some-ne-none, ListN.get_elem?}
use Rattle.std.proofs.lemmas.{Bool.cases_lt, List.Elements.All-append, List.Elements.All-replicate}
use Rattle.std.proofs.lemmas.List.{get_or-append_right, get_or-replicate, get_or_append_left, get_or_past, length-replicate}
use Rattle.ring_layout.specs.{declared.message.Message.Message, Headers.committed_header, History.span}
use Rattle.ring_layout.proofs.WordBytes.{from_le_bytes-same}
use Rattle.ring_table.specs.{Staged.StagedClaim, Staged.body_word, Staged.slot_bytes, Ranges.values_of}
use Rattle.ring_table.specs.SlotSteps.{HasBody, AreWordsOf}
use Rattle.ring_table.specs.Runs.{padded_bytes, run_bytes, run_claims, run_slots, AreMessages}
use Rattle.ring_table.proofs.{FillLemmas.same_body, HeaderWords.one_committed, MarkWords.committed_small}
use Rattle.ring_table.proofs.{RangeLemmas.values_numbered, RunClaims.run_whole, RunClaims.some_span}
use Rattle.ring_table.proofs.SlotBytes.{first_word_of, length_slot, small_slot, slot_one}

pub length_padded : (m : Message) → length (padded_bytes m) ≡ span (length m.body)
length_padded m =
    let zeros : ℕ = span (length m.body) - (8 + length m.body) in
    let slot = length_slot m in
    let long = length-replicate {A = ℕ} zeros 0 in
    length-append (slot_bytes m) (replicate zeros 0) ∙ omega arith

pub length_run : (ms : List Message) → length (run_slots ms) ≡ run_bytes ms
length_run [] = refl
length_run (m ∷ ms) =
    let here = length_padded m in
    let rest = length_run ms in
    length-append (padded_bytes m) (run_slots ms) ∙ omega arith

-- ---- words of bytes one after another

word_front : (xs ys : List ℕ) (at : ℕ) → at + 8 ≤ length xs → body_word (xs ++ ys) at ≡ body_word xs at
unfolding body_word
word_front xs ys at low = from_le_bytes-same (drop at (xs ++ ys)) (drop at xs) (λ i lt.
    get_or-drop at (xs ++ ys) i 0 ∙ get_or_append_left xs ys 0 (at + i) (omega arith) ∙ sym (get_or-drop at xs i 0))

word_back : (xs ys : List ℕ) (n at : ℕ) → length xs ≡ n → body_word (xs ++ ys) (n + at) ≡ body_word ys at
unfolding body_word
word_back xs ys n at is = from_le_bytes-same (drop (n + at) (xs ++ ys)) (drop at ys) (λ i lt.
    let there : n + at + i ≡ length xs + (at + i) = omega arith in
    get_or-drop (n + at) (xs ++ ys) i 0 ∙ ap (λ k. get_or (xs ++ ys) k 0) there ∙ get_or-append-add xs ys (at + i) 0
    ∙ sym (get_or-drop at ys i 0))

get_zeros : (xs : List ℕ) (n i : ℕ) → get_or (xs ++ replicate n 0) i 0 ≡ get_or xs i 0
get_zeros xs n i = ⊎_elim (λ (low : i < length xs). get_or_append_left xs (replicate n 0) 0 i low)
    (λ (far : length xs ≤ i).
    get_or-append_right xs (replicate n 0) (length xs) i 0 refl far
    ∙ ⊎_elim (λ (in_zeros : i - length xs < n). get_or-replicate n (i - length xs) 0 0 in_zeros)
    (λ (past : n ≤ i - length xs).
    let long = length-replicate {A = ℕ} n 0 in get_or_past (replicate n 0) (i - length xs) 0 (omega arith))
    (cases_lt (i - length xs) n)
    ∙ sym (get_or_past xs i 0 far)) (cases_lt i (length xs))

word_zeros : (xs : List ℕ) (n at : ℕ) → body_word (xs ++ replicate n 0) at ≡ body_word xs at
unfolding body_word
word_zeros xs n at = from_le_bytes-same (drop at (xs ++ replicate n 0)) (drop at xs) (λ i lt.
    get_or-drop at (xs ++ replicate n 0) i 0 ∙ get_zeros xs n (at + i) ∙ sym (get_or-drop at xs i 0))

-- a word of the first record
pub first_record_word : (m : Message) (ms : List Message) (at : ℕ) → at % 8 ≡ 0 → at < 8 + length m.body
    → body_word (run_slots (m ∷ ms)) at ≡ body_word (slot_bytes m) at
first_record_word m ms at a8 less =
    let long = length_padded m in
    word_front (padded_bytes m) (run_slots ms) at (omega arith)
    ∙ word_zeros (slot_bytes m) (span (length m.body) - (8 + length m.body)) at

-- and of the others
pub next_record_word : (m : Message) (ms : List Message) (at : ℕ)
    → body_word (run_slots (m ∷ ms)) (span (length m.body) + at) ≡ body_word (run_slots ms) at
next_record_word m ms at = word_back (padded_bytes m) (run_slots ms) (span (length m.body)) at (length_padded m)

-- a record of a run, o bytes from its start
pub record RecordAt (p : ℕ) (ms : List Message) (d : StagedClaim) : Type 0 where
  pub off : ℕ
  pub whole : off % 8 ≡ 0
  pub place : d.place ≡ p + off
  pub inside : off + span (length d.message.body) ≤ run_bytes ms
  pub words : (at : ℕ) → at % 8 ≡ 0 → at < 8 + length d.message.body
      → body_word (run_slots ms) (off + at) ≡ body_word (slot_bytes d.message) at

pub record_at : (p : ℕ) (ms : List Message) (k : ℕ) (d : StagedClaim) → get_elem? (run_claims p ms) k ≡ some d → RecordAt p ms d
record_at p [] k d there = absurd (some-ne-none d (sym there))
record_at p (m ∷ ms) zero d there =
    let is = some-injective _ d there in
    subst (RecordAt p (m ∷ ms)) is (record {
      off = 0;
      whole = refl;
      place = omega arith;
      inside = omega arith;
      words = λ at a8 less.
          let none : 0 + at ≡ at = omega arith in
          ap (body_word (run_slots (m ∷ ms))) none ∙ first_record_word m ms at a8 less;
    })
record_at p (m ∷ ms) (suc k) d there =
    let t = record_at (p + span (length m.body)) ms k d there in
    let a : ℕ = span (length m.body) in
    let place = t.place in
    let inside = t.inside in
    let whole = t.whole in
    record {
      off = a + t.off;
      whole = omega arith;
      place = omega arith;
      inside = omega arith;
      words = λ at a8 less.
          let sum : a + t.off + at ≡ a + (t.off + at) = omega arith in
          ap (body_word (run_slots (m ∷ ms))) sum ∙ next_record_word m ms (t.off + at) ∙ t.words at a8 less;
    }

-- ---- the slots have one run

two_parts : {A : Type 0} (xs ys us vs : List A) → length xs ≡ length ys → xs ++ us ≡ ys ++ vs → (xs ≡ ys) × (us ≡ vs)
two_parts [] [] us vs long e = (refl, e)
two_parts [] (y ∷ ys) us vs long e = absurd (omega arith)
two_parts (x ∷ xs) [] us vs long e = absurd (omega arith)
two_parts {A} (x ∷ xs) (y ∷ ys) us vs long e =
    let first : x ≡ y = some-injective x y (ap (λ (l : List A). get_elem? l 0) e) in
    let t = two_parts xs ys us vs (omega arith) (ap (drop 1) e) in
    ((λ i. first i ∷ t.0 i), t.1)

run_small : (C : ℕ) (ms : List Message) → AreMessages C ms → All (λ b. b < 256) (run_slots ms)
run_small C [] are = λ k d lt. absurd (omega arith)
run_small C (m ∷ ms) are = All-append (λ b. b < 256) (padded_bytes m) (run_slots ms)
    (All-append (λ b. b < 256) (slot_bytes m) (replicate (span (length m.body) - (8 + length m.body)) 0)
    (small_slot m are.0.bytes) (All-replicate (λ b. b < 256) (span (length m.body) - (8 + length m.body)) 0 (omega arith)))
    (run_small C ms are.1)

one_run : (C : ℕ) → C ≤ 2 ^ 24 → (ms ns : List Message) → AreMessages C ms → AreMessages C ns → run_slots ms ≡ run_slots ns
    → ms ≡ ns
one_run C most [] [] are are' e = refl
one_run C most [] (n ∷ ns) are are' e =
    let some_bytes = some_span n in
    let long = length_run (n ∷ ns) in
    let same = ap length e in absurd (omega arith)
one_run C most (m ∷ ms) [] are are' e =
    let some_bytes = some_span m in
    let long = length_run (m ∷ ms) in
    let same = ap length e in absurd (omega arith)
one_run C most (m ∷ ms) (n ∷ ns) are are' e =
    let is = are.0 in
    let is' = are'.0 in
    let short = is.short in
    let short' = is'.short in
    let header : committed_header m.type_id (length m.body) ≡ committed_header n.type_id (length n.body) =
    sym (first_record_word m ms 0 refl (omega arith)
    ∙ first_word_of (committed_header m.type_id (length m.body)) m.body (committed_small C m most is))
    ∙ ap (λ l. body_word l 0) e
    ∙ first_record_word n ns 0 refl (omega arith)
    ∙ first_word_of (committed_header n.type_id (length n.body)) n.body (committed_small C n most is') in
    let one = one_committed m.type_id (length m.body) n.type_id (length n.body) is.type_fits (omega arith) is'.type_fits
    (omega arith) header in
    let lengths : length m.body ≡ length n.body = one.1 in
    let long = length_padded m in
    let long' = length_padded n in
    let parts = two_parts (padded_bytes m) (padded_bytes n) (run_slots ms) (run_slots ns)
    (long ∙ ap span lengths ∙ sym long') e in
    let slot = length_slot m in
    let slot' = length_slot n in
    let bytes = two_parts (slot_bytes m) (slot_bytes n) _ _ (slot ∙ ap (λ z. 8 + z) lengths ∙ sym slot') parts.0 in
    let body : m.body ≡ n.body = slot_one m n bytes.0 in
    let rest = one_run C most ms ns are.1 are'.1 parts.1 in
    λ i. (record { type_id = one.0 i; body = body i }) ∷ rest i

pub one_held : (C : ℕ) → C ≤ 2 ^ 24 → (ms ns : List Message) (i j : ℕ) (held : List (ℕ × ℕ)) → AreMessages C ms → AreMessages C ns
    → HasBody i (run_slots ms) held → HasBody j (run_slots ns) held → ms ≡ ns
one_held C most ms ns i j held are are' has has' =
    let values : has.values ≡ has'.values = sym (values_numbered i has.values)
    ∙ ap values_of (sym has.held_is ∙ has'.held_is) ∙ values_numbered j has'.values in
    let long = length_run ms in
    let long' = length_run ns in
    let whole = run_whole ms in
    let whole' = run_whole ns in
    let count = has.count in
    let count' = has'.count in
    let same_count = ap length values in
    one_run C most ms ns are are'
    (same_body (run_slots ms) (run_slots ns) has.values (omega arith) (run_small C ms are) (run_small C ns are') has.words
    (subst (AreWordsOf (run_slots ns)) (sym values) has'.words) has.count)
