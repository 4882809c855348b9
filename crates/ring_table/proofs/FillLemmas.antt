-- The loop that fills the slots of a body.
use Rattle.std.proofs.Common.{◌≡◌, ℕ, zero, suc, ◌+◌, ◌*◌, ◌/◌, ◌%◌, ◌^◌, ◌-◌, subst, ◌<◌, ◌≤◌, ◌⊎◌, inl, inr, ⊎_elim, List, [], ◌∷◌, ◌++◌, All, drop, take, get_or, slice_index, length, length-append, sym, refl, ap, ◌∙◌, append-nil, arith, slice_range, w64, ext_get_or, get_or-drop, get_or-take}
use Rattle.std.proofs.Math.{Option.some, Option.some-injective, Option.some-ne-none, ListN.get_elem?}
use Rattle.std.specs.Int.{from_le_bytes, to_le_bytes}
use Rattle.std.proofs.lemmas.{List.Elements.All-get_or, Bool.cases_lt, List.take_rest}
use Rattle.ring_layout.proofs.WordBytes.{from_le_bytes-same, byte_of_word, byte_of_bytes, overwritten_before, overwritten_inside}
use Rattle.ring_table.specs.{Ranges.numbered, Ranges.values_of, Filling.Begins, Filling.Copying, Filling.Filling}
use Rattle.ring_table.proofs.RangeLemmas.{first_of_some, turned_on, values_numbered}
use Rattle.ring_table.specs.Staged.{body_word, headed}
use Rattle.ring_table.proofs.SlotBytes.{later_word, length_headed}
use Rattle.ring_table.specs.SlotSteps.{AreWordsOf, HasBody, HasSlots, words_of}
use Rattle.ring_layout.specs.History.{overwritten}
use Rattle.std.proofs.Common.{append_assoc}

pub none_of : (l : List ℕ) → length l ≡ 0 → l ≡ []
none_of [] e = refl
none_of (x ∷ xs) e = absurd (omega arith)

pub fill_start : (first n : ℕ) (body : List ℕ) (held : List (ℕ × ℕ)) → HasSlots first n held → Filling first 0 n body held
fill_start first n body held has =
    let count = has.count in
    let e : first ≡ first + 0 = omega arith in
    record {
      left = has.values;
      done = [];
      held_is = has.held_is ∙ ap (λ k. numbered k has.values) e ∙ sym (append-nil (numbered (first + 0) has.values));
      gone = refl;
      count = omega arith;
      words = λ i y e'. absurd (some-ne-none y (sym e'));
    }

pub fill_end : (first k n : ℕ) (body : List ℕ) (held : List (ℕ × ℕ)) → k ≡ n → n ≡ words_of (length body) → Filling first k n body held
    → HasBody first body held
fill_end first k n body held is count t =
    record {
      values = t.done;
      held_is = t.held_is ∙ ap (λ l. numbered (first + k) l ++ numbered first t.done) (none_of t.left (omega arith));
      words = t.words;
      count = omega arith;
    }

pub fill_front : (first k n : ℕ) (body : List ℕ) (held : List (ℕ × ℕ)) → k < n → Filling first k n body held
    → (old : ℕ) × (rest : List (ℕ × ℕ)) × (held ≡ (first + k, old) ∷ rest)
fill_front first k n body held less t =
    let some = first_of_some t.left (omega arith) in (
      some.0,
      numbered (suc (first + k)) some.1 ++ numbered first t.done,
      t.held_is ∙ ap (λ l. numbered (first + k) l ++ numbered first t.done) some.2,
    )

get_more : (l : List ℕ) (a : ℕ) (i y : ℕ) → get_elem? (l ++ a ∷ []) i ≡ some y → (get_elem? l i ≡ some y) ⊎ ((i ≡ length l) × (a ≡ y))
get_more [] a zero y e = inr (refl, some-injective a y e)
get_more [] a (suc i) y e = absurd (some-ne-none y (sym e))
get_more (x ∷ xs) a zero y e = inl e
get_more (x ∷ xs) a (suc i) y e = ⊎_elim (λ t. inl t) (λ (t : (i ≡ length xs) × (a ≡ y)). inr (omega arith, t.1)) (get_more xs a i y e)

pub words_more : (body done : List ℕ) (w : ℕ) → AreWordsOf body done → w ≡ body_word body (8 * length done) → AreWordsOf body (done ++ w ∷ [])
words_more body done w each last i y e = ⊎_elim (λ t. each i y t)
    (λ (t : (i ≡ length done) × (w ≡ y)). ap (λ z. body_word body (8 * z)) t.0 ∙ sym last ∙ t.1) (get_more done w i y e)

pub fill_more : (first k n w : ℕ) (body : List ℕ) (held held' : List (ℕ × ℕ)) → k < n → Filling first k n body held → w ≡ body_word body (8 * k)
    → ((old : ℕ) (rest : List (ℕ × ℕ)) → held ≡ (first + k, old) ∷ rest → held' ≡ rest ++ (first + k, w) ∷ [])
    → Filling first (k + 1) n body held'
fill_more first k n w body held held' less t w_is told =
    let gone = t.gone in
    let some = first_of_some t.left (omega arith) in
    let long : length t.left ≡ suc (length some.1) = ap length some.2 in
    let more : length (t.done ++ w ∷ []) ≡ length t.done + 1 = length-append t.done (w ∷ []) in
    record {
      left = some.1;
      done = t.done ++ w ∷ [];
      held_is = told some.0 (numbered (suc (first + k)) some.1 ++ numbered first t.done)
          (t.held_is ∙ ap (λ l. numbered (first + k) l ++ numbered first t.done) some.2)
          ∙ turned_on first k some.1 t.done w t.gone;
      gone = omega arith;
      count = omega arith;
      words = words_more body t.done w t.words (w_is ∙ ap (λ z. body_word body (8 * z)) (sym t.gone));
    }

pub all_small : (xs : List ℕ) → All (λ b. b < 256) xs → (j : ℕ) → slice_index xs j < 256
all_small xs k j = ⊎_elim (λ (h : j < length xs). All-get_or (λ b. b < 256) xs j 0 h k)
    (λ (h : length xs ≤ j). let none = get_or-past xs j h in omega arith) (cases_lt j (length xs))
  where
    get_or-past : (xs : List ℕ) (j : ℕ) → length xs ≤ j → get_or xs j 0 ≡ 0
    get_or-past [] j h = refl
    get_or-past (x ∷ xs) zero h = absurd (omega arith)
    get_or-past (x ∷ xs) (suc j) h = get_or-past xs j (omega arith)

pub word_there : (l : List ℕ) (i : ℕ) → i < length l → (y : ℕ) × (get_elem? l i ≡ some y)
word_there [] i h = absurd (omega arith)
word_there (x ∷ xs) zero h = (x, refl)
word_there (x ∷ xs) (suc i) h = word_there xs i (omega arith)

byte_of_body : (xs : List ℕ) → All (λ b. b < 256) xs → (i o : ℕ) → o < 8 → body_word xs (8 * i) / 2 ^ (8 * o) % 256 ≡ get_or xs (8 * i + o) 0
unfolding body_word
byte_of_body xs small i o h =
    byte_of_word (drop (8 * i) xs) (λ j. subst (λ z. z < 256) (sym (get_or-drop (8 * i) xs j 0)) (all_small xs small (8 * i + j))) o h
    ∙ get_or-drop (8 * i) xs o 0

-- one body has these words
pub same_body : (xs ys ws : List ℕ) → length xs ≡ length ys → All (λ b. b < 256) xs → All (λ b. b < 256) ys → AreWordsOf xs ws → AreWordsOf ys ws
    → length ws ≡ words_of (length xs) → xs ≡ ys
same_body xs ys ws len small_xs small_ys of_xs of_ys count = ext_get_or 0 xs ys len (λ j lt.
    let i : ℕ = j / 8 in
    let o : ℕ = j % 8 in
    let at : j ≡ 8 * i + o = omega arith in
    let y = word_there ws i (omega arith) in
    let same : body_word xs (8 * i) ≡ body_word ys (8 * i) = of_xs i y.0 y.1 ∙ sym (of_ys i y.0 y.1) in
    ap (λ z. get_or xs z 0) at ∙ sym (byte_of_body xs small_xs i o (omega arith))
    ∙ ap (λ z. z / 2 ^ (8 * o) % 256) same ∙ byte_of_body ys small_ys i o (omega arith) ∙ ap (λ z. get_or ys z 0) (sym at))

-- the first 8 bytes from `at` on are the word there
pub word_of_slice : (body : List ℕ) (at end : ℕ) → end ≡ at + 8 → from_le_bytes w64 (slice_range body at end) ≡ body_word body at
unfolding body_word
word_of_slice body at end is =
    let eight : end - at ≡ 8 = omega arith in
    ap (λ n. from_le_bytes w64 (take n (drop at body))) eight
    ∙ from_le_bytes-same (take 8 (drop at body)) (drop at body) (λ i h. get_or-take 8 (drop at body) i 0 h)

pub word_of_rest : (body : List ℕ) (at : ℕ) → from_le_bytes w64 (slice_range body at (length body)) ≡ body_word body at
unfolding body_word
word_of_rest body at = ap (from_le_bytes w64) (take_rest body at)

-- ---- the loop that copies them

pub copy_front : (first k n : ℕ) (scratch : List ℕ) (before held : List (ℕ × ℕ)) → k < n → Copying first k n scratch before held
    → (old : ℕ) × (rest : List (ℕ × ℕ)) × (held ≡ (first + 1 + k, old) ∷ rest)
copy_front first k n scratch before held less t =
    let some = first_of_some t.left (omega arith) in
    let here : first + (k + 1) ≡ first + 1 + k = omega arith in (
      some.0,
      numbered (suc (first + (k + 1))) some.1 ++ numbered first t.done,
      t.held_is ∙ ap (λ l. numbered (first + (k + 1)) l ++ numbered first t.done) some.2
          ∙ ap (λ i. (i, some.0) ∷ numbered (suc (first + (k + 1))) some.1 ++ numbered first t.done) here,
    )

-- the header goes after the others
pub copy_start : (first n : ℕ) (scratch : List ℕ) (before held : List (ℕ × ℕ)) → HasSlots first (n + 1) before
    → ((old : ℕ) (rest : List (ℕ × ℕ)) → before ≡ (first, old) ∷ rest → held ≡ rest ++ (first, old) ∷ [])
    → Copying first 0 n scratch before held
copy_start first n scratch before held has told =
    let count = has.count in
    let some = first_of_some has.values (omega arith) in
    let long : length has.values ≡ suc (length some.1) = ap length some.2 in
    let on : suc first ≡ first + (0 + 1) = omega arith in
    record {
      left = some.1;
      done = some.0 ∷ [];
      held_is = told some.0 (numbered (suc first) some.1) (has.held_is ∙ ap (numbered first) some.2)
          ∙ ap (λ i. numbered i some.1 ++ (first, some.0) ∷ []) on;
      before_is = has.held_is ∙ ap (numbered first) some.2;
      gone = refl;
      count = omega arith;
      copies = λ h body words small j inside lt. absurd (omega arith);
    }

pub copy_first : (first n : ℕ) (held : List (ℕ × ℕ)) → HasSlots first (n + 1) held
    → (old : ℕ) × (rest : List (ℕ × ℕ)) × (held ≡ (first, old) ∷ rest)
copy_first first n held has =
    let count = has.count in
    let some = first_of_some has.values (omega arith) in
    (some.0, numbered (suc first) some.1, has.held_is ∙ ap (numbered first) some.2)

get_next : (done : List ℕ) (y : ℕ) (more : List ℕ) → get_elem? (done ++ y ∷ more) (length done) ≡ some y
get_next [] y more = refl
get_next (x ∷ xs) y more = get_next xs y more

pub copy_more : (first k n w : ℕ) (scratch : List ℕ) (before held held' : List (ℕ × ℕ)) → k < n → 8 * k + 8 ≤ length scratch
    → Copying first k n scratch before held
    → ((old : ℕ) (rest : List (ℕ × ℕ)) → held ≡ (first + 1 + k, old) ∷ rest
    → (w ≡ old) × (held' ≡ rest ++ (first + 1 + k, old) ∷ []))
    → Copying first (k + 1) n (overwritten (8 * k) (to_le_bytes w64 w) scratch) before held'
copy_more first k n w scratch before held held' less room t told =
    let gone = t.gone in
    let some = first_of_some t.left (omega arith) in
    let y : ℕ = some.0 in
    let here : first + (k + 1) ≡ first + 1 + k = omega arith in
    let tail : List (ℕ × ℕ) = numbered (suc (first + (k + 1))) some.1 ++ numbered first t.done in
    let heard = told y tail (t.held_is ∙ ap (λ l. numbered (first + (k + 1)) l ++ numbered first t.done) some.2
    ∙ ap (λ i. (i, y) ∷ tail) here) in
    let long : length t.left ≡ suc (length some.1) = ap length some.2 in
    let more : length (t.done ++ y ∷ []) ≡ length t.done + 1 = length-append t.done (y ∷ []) in
    let parts : (t.done ++ y ∷ []) ++ some.1 ≡ t.done ++ t.left = append_assoc t.done (y ∷ []) some.1 ∙ ap (λ l. t.done ++ l) (sym some.2) in
    let eight : length (to_le_bytes w64 w) ≡ 8 = refl in
    record {
      left = some.1;
      done = t.done ++ y ∷ [];
      held_is = heard.1 ∙ ap (λ i. tail ++ (i, y) ∷ []) (sym here) ∙ turned_on first (k + 1) some.1 t.done y t.gone;
      before_is = t.before_is ∙ ap (numbered first) (sym parts);
      gone = omega arith;
      count = omega arith;
      copies = λ head body words small j inside lt. ⊎_elim
          (λ (h : j < 8 * k). overwritten_before (8 * k) (to_le_bytes w64 w) scratch j (omega arith) h
          ∙ t.copies head body (subst (AreWordsOf (headed head body)) parts words) small j inside h)
          (λ (h : 8 * k ≤ j).
          let o : ℕ = j - 8 * k in
          let there : j ≡ 8 * k + o = omega arith in
          let on : 8 + 8 * k ≡ 8 * length t.done = omega arith in
          let word : body_word body (8 * k) ≡ w = sym (later_word head body (8 * k))
          ∙ ap (body_word (headed head body)) on
          ∙ words (length t.done) y (ap (λ l. get_elem? l (length t.done)) (append_assoc t.done (y ∷ []) some.1) ∙ get_next t.done y some.1) ∙ sym heard.0 in
          overwritten_inside (8 * k) (to_le_bytes w64 w) scratch j (omega arith) h (omega arith)
          ∙ byte_of_bytes w o (omega arith) ∙ ap (λ z. z / 2 ^ (8 * o) % 256) (sym word) ∙ byte_of_body body small k o (omega arith)
          ∙ ap (λ z. get_or body z 0) (sym there))
          (cases_lt j (8 * k));
    }

pub copy_end : (first k n : ℕ) (scratch : List ℕ) (before held : List (ℕ × ℕ)) → k ≡ n → Copying first k n scratch before held
    → (held ≡ before) × ((h : ℕ) (body : List ℕ) → HasBody first (headed h body) before → All (λ b. b < 256) body
    → Begins body scratch)
copy_end first k n scratch before held is t =
    let none = none_of t.left (omega arith) in (
      t.held_is ∙ ap (λ l. numbered (first + (k + 1)) l ++ numbered first t.done) none
          ∙ ap (numbered first) (sym (append-nil t.done)) ∙ ap (λ l. numbered first (t.done ++ l)) (sym none) ∙ sym t.before_is,
      λ h body has small j inside.
          let long = length_headed h body in
          let many = has.count in
          let values : has.values ≡ t.done ++ t.left = sym (values_numbered first has.values) ∙ ap values_of (sym has.held_is ∙ t.before_is)
          ∙ values_numbered first (t.done ++ t.left) in
          let all : length has.values ≡ length t.done + length t.left = ap length values ∙ length-append t.done t.left in
          t.copies h body (subst (AreWordsOf (headed h body)) values has.words) small j inside (omega arith),
    )
