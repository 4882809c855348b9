use Rattle.std.proofs.Common.{◌≡◌, ℕ, ◌+◌, ◌-◌, ◌/◌, ◌%◌, ◌^◌, ◌≤◌, ◌<◌, List, length, slice_index, sym, ap, ◌∙◌, subst, inr, arith, vec_len}
use Rattle.std.{specs.Slots.slots_items, specs.Slots.slots_len, proofs.lemmas.Nat.mod_below}
use Rattle.atomic_table.proofs.Lists.{at_index}
use Rattle.ring_layout.specs.{Layout.ring_words, Places.IsCapacity, Places.index, Places.rounded}
use Rattle.ring_table.specs.{Refilling.FillsTo, Staged.StagedClaim, Staged.staged_end, Walk.IsCopied}
use Rattle.ring_table.proofs.PictureWords.{read_at}
use Rattle.ring_table.proofs.{RefillLemmas.FillStep, RefillLemmas.fill_step, StagedPlaces.capacity_aligned}
use Rattle.ring_table.proofs.rescue.add_body.Goals as goal
use Rattle.ring_table.proofs.rescue.add_body.Goals.{then-word-lt2147483648, else-word-lt2147483648}

-- what the code read at the position `at`: its word w, and the bytes of what is there
record Read (C at i w n : ℕ) (made : List ℕ) : Type 0 where
  pub capacity : IsCapacity C
  pub i_is : i ≡ index C at
  pub wide : length made ≡ ring_words C
  pub word : w ≡ slice_index made i
  pub bytes : n ≡ rounded (w % 2 ^ 32)

step : {C head at i w n : ℕ} {slots made : List ℕ} {F : ℕ → List ℕ} {now : List StagedClaim}
    → FillsTo C head slots F now at made → at < staged_end head now → Read C at i w n made
    → FillStep C head slots F now at made w n
step {C} {head} {at} {i} {w} {n} {slots} {made} {F} {now} walk lt r =
    subst (λ k. FillStep C head slots F now at made w k) (sym r.bytes)
    (fill_step C head r.capacity slots F now at made w (r.word ∙ ap (slice_index made) r.i_is) lt walk)

pub overflow_sub-bytes : goal.overflow_sub-bytes
overflow_sub-bytes c =
    let k = c.requires.walk in
    let made : List ℕ = c.args.words.now.items in
    let wide : length made ≡ ring_words c.args.capacity = sym c.args.words.now.ok.0 ∙ c.requires.words in
    let least = c.requires.capacity.least in
    let c8 = capacity_aligned c.args.capacity c.requires.capacity in
    let low = mod_below c.args.at c.args.capacity (omega arith) in
    let i_is = c.word_index-index.ensures in
    let g = step k.3 k.4 (record {
      capacity = c.requires.capacity;
      i_is = c.word_index-index.ensures;
      wide = wide;
      word = sym (read_at made c.word_index-index.result c.index-word.result.now
          (at_index made c.word_index-index.result c.index-word.result.now (omega arith) c.index-word.ensures));
      bytes = c.align8-bytes.ensures;
    }) in
    let some = g.some in
    omega arith

pub copy_range-requires-clause-slots : goal.copy_range-requires-clause-slots
copy_range-requires-clause-slots c =
    let k = c.requires.walk in
    let made : List ℕ = c.args.words.now.items in
    let wide : length made ≡ ring_words c.args.capacity = sym c.args.words.now.ok.0 ∙ c.requires.words in
    let least = c.requires.capacity.least in
    let c8 = capacity_aligned c.args.capacity c.requires.capacity in
    let low = mod_below c.args.at c.args.capacity (omega arith) in
    let i_is = c.word_index-index.ensures in
    let g = step k.3 k.4 (record {
      capacity = c.requires.capacity;
      i_is = c.word_index-index.ensures;
      wide = wide;
      word = sym (read_at made c.word_index-index.result c.index-word.result.now
          (at_index made c.word_index-index.result c.index-word.result.now (omega arith) c.index-word.ensures));
      bytes = c.align8-bytes.ensures;
    }) in
    let some = g.some in
    let within = g.within in
    let many : slots_len c.args.closed.now.slots ≡ c.args.capacity / 8 = c.requires.slots.1 in
    omega arith

pub copy_range-requires-clause-words : goal.copy_range-requires-clause-words
copy_range-requires-clause-words c =
    let inside : c.word_index-index.result + 1 + (c.align8-bytes.result / 8 - 1) ≤ slots_len c.args.closed.now.slots =
    copy_range-requires-clause-slots c in
    let many : slots_len c.args.closed.now.slots ≡ c.args.capacity / 8 = c.requires.slots.1 in
    let words : vec_len c.args.words.now ≡ ring_words c.args.capacity = c.requires.words in
    omega arith

pub returns-clause-rises : goal.returns-clause-rises
returns-clause-rises c =
    let k = c.requires.walk in
    let made : List ℕ = c.args.words.now.items in
    let wide : length made ≡ ring_words c.args.capacity = sym c.args.words.now.ok.0 ∙ c.requires.words in
    let least = c.requires.capacity.least in
    let c8 = capacity_aligned c.args.capacity c.requires.capacity in
    let low = mod_below c.args.at c.args.capacity (omega arith) in
    let i_is = c.word_index-index.ensures in
    let g = step k.3 k.4 (record {
      capacity = c.requires.capacity;
      i_is = c.word_index-index.ensures;
      wide = wide;
      word = sym (read_at made c.word_index-index.result c.index-word.result.now
          (at_index made c.word_index-index.result c.index-word.result.now (omega arith) c.index-word.ensures));
      bytes = c.align8-bytes.ensures;
    }) in
    let some = g.some in
    omega arith

pub returns-clause-trailer : goal.returns-clause-trailer
returns-clause-trailer c = λ i far.
    let k = c.requires.walk in
    let made : List ℕ = c.args.words.now.items in
    let wide : length made ≡ ring_words c.args.capacity = sym c.args.words.now.ok.0 ∙ c.requires.words in
    let least = c.requires.capacity.least in
    let c8 = capacity_aligned c.args.capacity c.requires.capacity in
    let low = mod_below c.args.at c.args.capacity (omega arith) in
    let i_is = c.word_index-index.ensures in
    let g = step k.3 k.4 (record {
      capacity = c.requires.capacity;
      i_is = c.word_index-index.ensures;
      wide = wide;
      word = sym (read_at made c.word_index-index.result c.index-word.result.now
          (at_index made c.word_index-index.result c.index-word.result.now (omega arith) c.index-word.ensures));
      bytes = c.align8-bytes.ensures;
    }) in
    let some = g.some in
    let within = g.within in
    elim c.if-word-lt2147483648.branch [
      | then-word-lt2147483648 w ↦ ap (λ l. slice_index l i) (λ j. (w.words-is j).items)
          ∙ w.copy_range.ensures.outside i (inr (omega arith))
      | else-word-lt2147483648 w ↦ ap (λ l. slice_index l i) (λ j. (w.words-is j).items)
    ]

pub returns-clause-walks : goal.returns-clause-walks
returns-clause-walks c = λ head F now walk lt.
    let made : List ℕ = c.args.words.now.items in
    let wide : length made ≡ ring_words c.args.capacity = sym c.args.words.now.ok.0 ∙ c.requires.words in
    let least = c.requires.capacity.least in
    let c8 = capacity_aligned c.args.capacity c.requires.capacity in
    let low = mod_below c.args.at c.args.capacity (omega arith) in
    let i_is = c.word_index-index.ensures in
    let g = step walk lt (record {
      capacity = c.requires.capacity;
      i_is = c.word_index-index.ensures;
      wide = wide;
      word = sym (read_at made c.word_index-index.result c.index-word.result.now
          (at_index made c.word_index-index.result c.index-word.result.now (omega arith) c.index-word.ensures));
      bytes = c.align8-bytes.ensures;
    }) in
    let n : ℕ = c.align8-bytes.result in
    let slots : List ℕ = slots_items c.args.closed.now.slots in
    elim c.if-word-lt2147483648.branch [
      | then-word-lt2147483648 w ↦
          subst (λ (l : List ℕ). FillsTo c.args.capacity head slots F now (c.args.at + n) l)
          (λ j. (sym w.words-is j).items)
          (g.copied w.if-word-lt2147483648.true w.copy_range.new.words.items
          (subst (λ k. IsCopied (k + 1) (n / 8 - 1) slots c.args.words.now.items w.copy_range.new.words.items)
          c.word_index-index.ensures w.copy_range.ensures))
      | else-word-lt2147483648 w ↦
          subst (λ (l : List ℕ). FillsTo c.args.capacity head slots F now (c.args.at + n) l)
          (λ j. (sym w.words-is j).items) (g.kept w.if-word-lt2147483648.false)
    ]
