-- How lines and words are cut.
use Rattle.std.proofs.Common.{◌≡◌, ℕ, suc, ◌+◌, ◌<◌, ◌≤◌, Bool, true, false, cond, not, ◌==◌, nat_lt, List, [], ◌∷◌, ◌++◌, length, take, drop, filter, get_or, refl, sym, ◌∙◌, ap, subst, arith, inl, inr, Option, Some, None, unwrap_or, drop_of_length-le, length-drop, length-take-le, get_or-drop, append_assoc, position}
use Rattle.std.proofs.Math.Seq.{take-length, drop-length}
use Rattle.std.proofs.lemmas.{List.drop_more, Bool.cases_lt, List.Sums.fails_before_first, List.Sums.passes_at_first}
use Rattle.std.specs.List.{slice_split, onto_first, position_or_len}
use Rattle.std.proofs.lemmas.List.Splits.{slice_split_first, slice_split_none, slice_split-cons_yes}
use Rattle.ring_scenario.specs.Cutting.{lines_of, without_empty_end, words_of}

abbrev is_line_feed : ℕ → Bool
is_line_feed byte = byte == 10

abbrev is_space : ℕ → Bool
is_space byte = byte == 32

abbrev is_other : ℕ → Bool
is_other byte = not (byte == 32)

abbrev is_word : List ℕ → Bool
is_word word = nat_lt 0 (length word)

-- a split has a first part
onto_first_parts : {X : Type 0} (x : X) (parts : List (List X))
    → (part : List X) × (more : List (List X)) × (onto_first x parts ≡ part ∷ more)
onto_first_parts x [] = (x ∷ [], [], refl)
onto_first_parts x (part ∷ more) = (x ∷ part, more, refl)

first_part : {X : Type 0} (p : X → Bool) (xs : List X)
    → (part : List X) × (more : List (List X)) × (slice_split p xs ≡ part ∷ more)
first_part p [] = ([], [], refl)
first_part {X} p (x ∷ xs) =
    elim (p x) as (λ b. (part : List X) × (more : List (List X))
    × (cond b ([] ∷ slice_split p xs) (onto_first x (slice_split p xs)) ≡ part ∷ more)) [
      | true ↦ ([], slice_split p xs, refl)
      | false ↦ onto_first_parts x (slice_split p xs)
    ]

-- if `position` finds nothing, no element passes
position_none : {X : Type 0} (p : X → Bool) (xs : List X) → position p xs ≡ None → length xs ≤ position_or_len p xs
position_none {X} p xs none =
    elim (cases_lt (position_or_len p xs) (length xs)) as (λ _. length xs ≤ position_or_len p xs) [
      | inl within ↦
          let yes : nat_lt (position_or_len p xs) (length xs) ≡ true = grind (arith, within) in
          let found : position p xs ≡ Some (position_or_len p xs) = rw yes refl in
          let clash : Some (position_or_len p xs) ≡ None = sym found ∙ none in absurd (cc)
      | inr past ↦ past
    ]

-- if it finds an index, that is the first one that passes
position_some : {X : Type 0} (p : X → Bool) (xs : List X) (i : ℕ) → position p xs ≡ Some i
    → (position_or_len p xs ≡ i) × (i < length xs)
position_some {X} p xs i some =
    elim (cases_lt (position_or_len p xs) (length xs)) as (λ _. (position_or_len p xs ≡ i) × (i < length xs)) [
      | inl within ↦
          let yes : nat_lt (position_or_len p xs) (length xs) ≡ true = grind (arith, within) in
          let found : position p xs ≡ Some (position_or_len p xs) = rw yes refl in
          let both : Some (position_or_len p xs) ≡ Some i = sym found ∙ some in
          let same : position_or_len p xs ≡ i = cc in (same, omega (arith, same, within))
      | inr past ↦
          let no_index : nat_lt (position_or_len p xs) (length xs) ≡ false = grind (arith, past) in
          let nothing : position p xs ≡ None = rw no_index refl in
          let clash : Some i ≡ None = sym some ∙ nothing in absurd cc
    ]

-- a line feed ends the first line
pub lines_of-cut : (text : List ℕ) (end : ℕ) → position (λ b. b == 10) text ≡ Some end
    → lines_of text ≡ take end text ∷ lines_of (drop (end + 1) text)
lines_of-cut text end found =
    let at = position_some is_line_feed text end found in
    let rest = first_part is_line_feed (drop (end + 1) text) in
    let parts : slice_split is_line_feed text ≡ take end text ∷ slice_split is_line_feed (drop (end + 1) text) =
    subst (λ n. slice_split is_line_feed text ≡ take n text ∷ slice_split is_line_feed (drop (n + 1) text)) at.0
    (slice_split_first is_line_feed text 0 (omega (arith, at.0, at.1))) in
    ap without_empty_end (parts ∙ ap (λ more. take end text ∷ more) rest.2)
    ∙ sym (ap (λ more. take end text ∷ without_empty_end more) rest.2)

-- without one the text is one line
pub lines_of-last : (text : List ℕ) → position (λ b. b == 10) text ≡ None → 0 < length text → lines_of text ≡ text ∷ []
lines_of-last text none some =
    let past = position_none is_line_feed text none in
    ap without_empty_end (slice_split_none is_line_feed text
    (λ k d within. fails_before_first is_line_feed text k d (omega (arith, past, within))))
    ∙ (let not_empty : (length text == 0) ≡ false = grind (arith, some) in rw not_empty refl)

-- spaces at the front are not seen
words_of-skip : (text : List ℕ) → words_of text ≡ words_of (drop (position_or_len is_other text) text)
words_of-skip [] = refl
words_of-skip (byte ∷ text) = first (byte == 32) refl (words_of-skip text)
  where
    first : (b : Bool) → (byte == 32) ≡ b → words_of text ≡ words_of (drop (position_or_len is_other text) text)
        → words_of (byte ∷ text) ≡ words_of (drop (position_or_len is_other (byte ∷ text)) (byte ∷ text))
    first true e more =
        let n : ℕ = position_or_len is_other text in
        let next : 1 + n ≡ suc n = omega arith in
        ap (filter is_word) (slice_split-cons_yes is_space byte text e) ∙ more
        ∙ subst (λ b. words_of (drop n text) ≡ words_of (drop (cond (not (not b)) (1 + n) 0) (byte ∷ text))) (sym e)
        (ap (λ k. words_of (drop k (byte ∷ text))) (sym next))
    first false e more =
        subst (λ b. words_of (byte ∷ text) ≡ words_of
        (drop (cond (not (not b)) (1 + position_or_len is_other text) 0) (byte ∷ text))) (sym e) refl

-- a line of spaces has no words
pub words_of-none : (text : List ℕ) → position (λ b. not (b == 32)) text ≡ None → words_of text ≡ []
words_of-none text none =
    let past = position_none is_other text none in
    words_of-skip text ∙ ap words_of (drop_of_length-le text past)

-- a word that begins the text goes to the next space
words_of-cut : (text : List ℕ) (end : ℕ) → position_or_len is_space text ≡ end → end < length text → 0 < end
    → words_of text ≡ take end text ∷ words_of (drop end text)
words_of-cut text end at within some =
    let parts : slice_split is_space text ≡ take end text ∷ slice_split is_space (drop (end + 1) text) =
    subst (λ n. slice_split is_space text ≡ take n text ∷ slice_split is_space (drop (n + 1) text)) at
    (slice_split_first is_space text 0 (omega (arith, at, within))) in
    let long : nat_lt 0 (length (take end text)) ≡ true = let n : length (take end text) ≡ end =
    length-take-le end text (omega (arith, within)) in grind (arith, n, some) in
    let space : is_space (get_or text end 0) ≡ true =
    subst (λ n. is_space (get_or text n 0) ≡ true) at (passes_at_first is_space text 0 (omega (arith, at, within))) in
    let rest : words_of (drop end text) ≡ words_of (drop (end + 1) text) =
    ap words_of (drop_more text end 0 within)
    ∙ ap (filter is_word) (slice_split-cons_yes is_space (get_or text end 0) (drop (end + 1) text) space) in
    let kept : filter is_word (take end text ∷ slice_split is_space (drop (end + 1) text)) ≡ take end text
    ∷ words_of (drop (end + 1) text) = rw long refl in
    ap (filter is_word) parts ∙ kept ∙ sym (ap (λ words. take end text ∷ words) rest)

-- or to the end
words_of-last : (text : List ℕ) → length text ≤ position_or_len is_space text → 0 < length text
    → words_of text ≡ text ∷ []
words_of-last text past some =
    let long : nat_lt 0 (length text) ≡ true = grind (arith, some) in
    let kept : filter is_word (text ∷ []) ≡ text ∷ [] = rw long refl in
    ap (filter is_word) (slice_split_none is_space text
    (λ k d within. fails_before_first is_space text k d (omega (arith, past, within)))) ∙ kept

-- the first word of a text without spaces at its front
words_of-front : (text : List ℕ) (end : ℕ) → unwrap_or (position (λ b. b == 32) text) (length text) ≡ end
    → 0 < length text → is_other (get_or text 0 0) ≡ true
    → words_of text ≡ take end text ∷ words_of (drop end text)
words_of-front text end is_end some starts = by_position (position is_space text) refl
  where
    by_position : (found : Option ℕ) → position is_space text ≡ found
        → words_of text ≡ take end text ∷ words_of (drop end text)
    by_position None e =
        let all : length text ≡ end = subst (λ o. unwrap_or o (length text) ≡ end) e is_end in
        words_of-last text (position_none is_space text e) some
        ∙ subst (λ n. text ∷ [] ≡ take n text ∷ words_of (drop n text)) all
        (rw (take-length text) (rw (drop-length text) refl))
    by_position (Some n) e =
        let same : n ≡ end = subst (λ o. unwrap_or o (length text) ≡ end) e is_end in
        let at = position_some is_space text n e in
        let not_first : 0 < n =
        elim (cases_lt 0 n) as (λ _. 0 < n) [
          | inl h ↦ h
          | inr h ↦
              let zero_at : position_or_len is_space text ≡ 0 = omega (arith, h, at.0) in
              let space : is_space (get_or text 0 0) ≡ true =
              subst (λ k. is_space (get_or text k 0) ≡ true) zero_at
              (passes_at_first is_space text 0 (omega (arith, zero_at, some))) in
              let clash : not true ≡ true = subst (λ b. not b ≡ true) space starts in absurd (cc)
        ] in
        subst (λ k. words_of text ≡ take k text ∷ words_of (drop k text)) same (words_of-cut text n at.0 at.1 not_first)

-- the first word
pub words_of-next : (text : List ℕ) (start end : ℕ) → position (λ b. not (b == 32)) text ≡ Some start
    → end ≡ unwrap_or (position (λ b. b == 32) (drop start text)) (length (drop start text))
    → words_of text ≡ take end (drop start text) ∷ words_of (drop end (drop start text))
words_of-next text start end found is_end =
    let at = position_some is_other text start found in
    let skip : words_of text ≡ words_of (drop start text) =
    words_of-skip text ∙ ap (λ n. words_of (drop n text)) at.0 in
    let some : 0 < length (drop start text) = let n = length-drop start text in omega (arith, n, at.1) in
    let starts : is_other (get_or (drop start text) 0 0) ≡ true =
    rw (get_or-drop start text 0 0)
    (let here : start + 0 ≡ position_or_len is_other text = omega (arith, at.0) in
    subst (λ n. is_other (get_or text n 0) ≡ true) (sym here)
    (passes_at_first is_other text 0 (omega (arith, at.0, at.1)))) in
    skip ∙ words_of-front (drop start text) end (sym is_end) some starts

-- one more was taken
pub one_more : {X : Type 0} (all taken left : List X) (x : X) (next : List X) → all ≡ taken ++ left → left ≡ x ∷ next
    → all ≡ (taken ++ x ∷ []) ++ next
one_more all taken left x next so_far cut =
    so_far ∙ ap (λ more. taken ++ more) cut ∙ sym (append_assoc taken (x ∷ []) next)
