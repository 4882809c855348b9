-- The loops that put bytes into the slots of a body.
use Rattle.std.proofs.Common.{◌≡◌, ℕ, suc, ◌+◌, ◌-◌, ◌*◌, ◌<◌, ◌≤◌, ◌⊎◌, inl, inr, List, [], ◌∷◌, ◌++◌, All, drop, slice_index, length, length-append, sym, refl, ap, ◌∙◌, append-nil, arith, slice_range, w64, get_or-drop, get_or-take, length-drop, length-take-le}
use Rattle.std.proofs.Math.{Option.some-ne-none, ListN.get_elem?}
use Rattle.std.specs.Int.{from_le_bytes, to_le_bytes}
use Rattle.std.proofs.lemmas.{Bool.cases_lt, List.Elements.All-from_get_or}
use Rattle.ring_layout.specs.History.{overwritten}
use Rattle.ring_layout.proofs.WordBytes.{from_le_bytes-same, overwritten_before, overwritten_behind, overwritten_inside, overwritten_word, overwritten_word_apart}
use Rattle.ring_table.specs.{Filling.Putting, Filling.Takes, SlotSteps.HasBody, SlotSteps.words_of, Staged.body_word}
use Rattle.ring_table.{specs.Ranges.numbered, proofs.RangeLemmas.first_of_some, proofs.RangeLemmas.turned_on}
use Rattle.ring_table.proofs.FillLemmas.{all_small, none_of, words_more}

module _ (first n : ℕ) (old new : List ℕ) where
  pub put_start : (held : List (ℕ × ℕ)) → Takes first n old held → Putting first 0 (words_of n) old new held
  put_start held t =
      let h = t.has in
      let count = h.count in
      let long : words_of (length old) ≡ words_of n = ap words_of t.long in
      let e : first ≡ first + 0 = omega arith in
      record {
        left = h.values;
        done = [];
        held_is = h.held_is ∙ ap (λ k. numbered k h.values) e ∙ sym (append-nil (numbered (first + 0) h.values));
        gone = refl;
        count = omega arith;
        rest = λ i y e'. let at : 0 + i ≡ i = omega arith in ap (λ k. body_word old (8 * k)) at ∙ h.words i y e';
        words = λ i y e'. absurd (some-ne-none y (sym e'));
      }

  module _ (k : ℕ) (held : List (ℕ × ℕ)) (less : k < n) (t : Putting first k n old new held) where
    -- the slot in front has the old word
    pub put_front : (rest : List (ℕ × ℕ)) × (held ≡ (first + k, body_word old (8 * k)) ∷ rest)
    put_front =
        let c = t.count in
        let some = first_of_some t.left (omega arith) in
        let at : k ≡ k + 0 = omega arith in
        let word : some.0 ≡ body_word old (8 * k) =
        sym (ap (λ z. body_word old (8 * z)) at ∙ t.rest 0 some.0 (ap (λ l. get_elem? l 0) some.2)) in (
          numbered (suc (first + k)) some.1 ++ numbered first t.done,
          t.held_is ∙ ap (λ l. numbered (first + k) l ++ numbered first t.done) some.2
              ∙ ap (λ w. (first + k, w) ∷ numbered (suc (first + k)) some.1 ++ numbered first t.done) word,
        )

    pub put_more : (w : ℕ) (held' : List (ℕ × ℕ)) → w ≡ body_word new (8 * k)
        → ((rest : List (ℕ × ℕ)) → held ≡ (first + k, body_word old (8 * k)) ∷ rest
        → held' ≡ rest ++ (first + k, w) ∷ []) → Putting first (k + 1) n old new held'
    put_more w held' w_is told =
        let c = t.count in
        let gone = t.gone in
        let some = first_of_some t.left (omega arith) in
        let long : length t.left ≡ suc (length some.1) = ap length some.2 in
        let more : length (t.done ++ w ∷ []) ≡ length t.done + 1 = length-append t.done (w ∷ []) in
        let here : k ≡ k + 0 = omega arith in
        let word : some.0 ≡ body_word old (8 * k) =
        sym (ap (λ z. body_word old (8 * z)) here ∙ t.rest 0 some.0 (ap (λ l. get_elem? l 0) some.2)) in
        record {
          left = some.1;
          done = t.done ++ w ∷ [];
          held_is = told (numbered (suc (first + k)) some.1 ++ numbered first t.done)
              (t.held_is ∙ ap (λ l. numbered (first + k) l ++ numbered first t.done) some.2
              ∙ ap (λ y. (first + k, y) ∷ numbered (suc (first + k)) some.1 ++ numbered first t.done) word)
              ∙ turned_on first k some.1 t.done w t.gone;
          gone = omega arith;
          count = omega arith;
          rest = λ i y e.
              let at : k + 1 + i ≡ k + suc i = omega arith in
              ap (λ z. body_word old (8 * z)) at ∙ t.rest (suc i) y (ap (λ l. get_elem? l (suc i)) some.2 ∙ e);
          words = words_more new t.done w t.words (w_is ∙ ap (λ z. body_word new (8 * z)) (sym t.gone));
        }

    -- it stays
    pub put_same : (held' : List (ℕ × ℕ)) → body_word new (8 * k) ≡ body_word old (8 * k)
        → ((y : ℕ) (rest : List (ℕ × ℕ)) → held ≡ (first + k, y) ∷ rest → held' ≡ rest ++ (first + k, y) ∷ [])
        → Putting first (k + 1) n old new held'
    put_same held' same told = put_more (body_word old (8 * k)) held' (sym same) (λ rest e. told _ rest e)

  pub put_end : (k : ℕ) (held : List (ℕ × ℕ)) → k ≡ n → n ≡ words_of (length new)
      → Putting first k n old new held → HasBody first new held
  put_end k held is count t =
      record {
        values = t.done;
        held_is = t.held_is
            ∙ ap (λ l. numbered (first + k) l ++ numbered first t.done) (none_of t.left (omega arith));
        words = t.words;
        count = omega arith;
      }

-- bytes put over a body from `offset` on, and a word of it
module _ (offset : ℕ) (bytes old : List ℕ) (room : offset + length bytes ≤ length old) (k : ℕ) where
  -- they do not touch it
  pub word_kept : (8 * k + 8 ≤ offset) ⊎ (offset + length bytes ≤ 8 * k)
      → body_word (overwritten offset bytes old) (8 * k) ≡ body_word old (8 * k)
  unfolding body_word
  word_kept out = overwritten_word_apart old k offset bytes room out

  -- those from `from` up to `to` lie in it
  module _ (small : All (λ b. b < 256) old) (from to : ℕ) (on : offset ≤ from) (order : from ≤ to)
      (low : 8 * k ≤ from) (high : to ≤ 8 * k + 8) (end : to ≤ offset + length bytes)
      (before : (j : ℕ) → 8 * k ≤ j → j < from → j < offset)
      (behind : (j : ℕ) → j < 8 * k + 8 → to ≤ j → offset + length bytes ≤ j) where
    chunk : List ℕ
    chunk = slice_range bytes (from - offset) (to - offset)

    size : length chunk ≡ to - from
    unfolding chunk
    size =
        let left = length-drop (from - offset) bytes in
        let some = length-take-le (to - offset - (from - offset)) (drop (from - offset) bytes) (omega arith) in
        omega arith

    byte : (i : ℕ) → i < to - from → slice_index chunk i ≡ slice_index bytes (from - offset + i)
    unfolding chunk
    byte i lt = get_or-take (to - offset - (from - offset)) (drop (from - offset) bytes) i 0 (omega arith)
        ∙ get_or-drop (from - offset) bytes i 0

    same_byte : (at : ℕ) → at + 8 * k ≡ from → (i : ℕ) → i < 8
        → slice_index (overwritten (8 * k + at) chunk old) (8 * k + i)
        ≡ slice_index (overwritten offset bytes old) (8 * k + i)
    same_byte at at_is i lt =
        let long = size in
        let fits : 8 * k + at + length chunk ≤ length old = omega arith in
        let A : List ℕ = overwritten (8 * k + at) chunk old in
        let B : List ℕ = overwritten offset bytes old in
        elim (cases_lt (8 * k + i) from) as (λ _. slice_index A (8 * k + i) ≡ slice_index B (8 * k + i)) [
          | inl less ↦
              let first = before (8 * k + i) (omega arith) less in
              overwritten_before (8 * k + at) chunk old (8 * k + i) fits (omega arith)
              ∙ sym (overwritten_before offset bytes old (8 * k + i) room first)
          | inr more ↦ elim (cases_lt (8 * k + i) to) as (λ _. slice_index A (8 * k + i) ≡ slice_index B (8 * k + i)) [
            | inl inside ↦
                let there : from - offset + (8 * k + i - (8 * k + at)) ≡ 8 * k + i - offset = omega arith in
                overwritten_inside (8 * k + at) chunk old (8 * k + i) fits (omega arith) (omega arith)
                ∙ byte (8 * k + i - (8 * k + at)) (omega arith) ∙ ap (slice_index bytes) there
                ∙ sym (overwritten_inside offset bytes old (8 * k + i) room (omega arith) (omega arith))
            | inr past ↦
                let last = behind (8 * k + i) (omega arith) past in
                overwritten_behind (8 * k + at) chunk old (8 * k + i) fits (omega arith)
                ∙ sym (overwritten_behind offset bytes old (8 * k + i) room last)
          ]
        ]

    pub word_put : (at : ℕ) → at + 8 * k ≡ from
        → from_le_bytes w64 (overwritten at (slice_range bytes (from - offset) (to - offset))
        (to_le_bytes w64 (body_word old (8 * k)))) ≡ body_word (overwritten offset bytes old) (8 * k)
    unfolding body_word chunk
    word_put at at_is =
        let long = size in
        overwritten_word old k at chunk (all_small old small) (omega arith) (omega arith)
        ∙ from_le_bytes-same (drop (8 * k) (overwritten (8 * k + at) chunk old))
        (drop (8 * k) (overwritten offset bytes old))
        (λ i lt. get_or-drop (8 * k) (overwritten (8 * k + at) chunk old) i 0 ∙ same_byte at at_is i lt
        ∙ sym (get_or-drop (8 * k) (overwritten offset bytes old) i 0))

-- and they are bytes
pub small_put : (offset : ℕ) (bytes old : List ℕ) → offset + length bytes ≤ length old
    → ((j : ℕ) → slice_index bytes j < 256) → All (λ b. b < 256) old → All (λ b. b < 256) (overwritten offset bytes old)
small_put offset bytes old room small_bytes small =
    All-from_get_or (λ b. b < 256) (overwritten offset bytes old) 0 (λ j _.
    let P : Type 0 = slice_index (overwritten offset bytes old) j < 256 in
    let byte = all_small old small j in
    elim (cases_lt j offset) as (λ _. P) [
      | inl before ↦ (let e = overwritten_before offset bytes old j room before in omega arith)
      | inr from ↦ elim (cases_lt j (offset + length bytes)) as (λ _. P) [
        | inl inside ↦ (let e = overwritten_inside offset bytes old j room from inside in
            let b = small_bytes (j - offset) in omega arith)
        | inr behind ↦ (let e = overwritten_behind offset bytes old j room behind in omega arith)
      ]
    ])
