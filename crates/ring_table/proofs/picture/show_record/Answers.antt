use Rattle.std.proofs.Common.{◌≡◌, ℕ, ◌+◌, ◌-◌, ◌*◌, ◌/◌, ◌%◌, ◌^◌, ◌≤◌, ◌<◌, List, length, set, slice_index, get_or, sym, ap, ◌∙◌, subst, arith}
use Rattle.std.specs.Slots.{slots_items, slots_len}
use Rattle.atomic_table.proofs.Lists.{at_index}
use Rattle.ring_layout.specs.{Layout.ring_words, Places.index}
use Rattle.ring_table.specs.{Owners.all_of, Staged.elsewhere, Staged.shown_header, Staged.staged_end}
use Rattle.ring_table.specs.Walk.{IsCopied, Parts, Walked}
use Rattle.ring_table.proofs.{PictureWords.read_at, StagedPlaces.capacity_aligned, WalkLemmas.Goes, WalkLemmas.goes}
use Rattle.ring_table.proofs.picture.show_record.Goals as goal
use Rattle.ring_table.proofs.picture.show_record.Goals.{then-shown-header, else-shown-header}

step : {C at i w u n : ℕ} {words slots made : List ℕ} (t : Parts C words slots) → Walked C t at made
    → at < staged_end t.start (all_of t.hist) → i ≡ index C at → length made ≡ ring_words C → w ≡ get_or made i w
    → u ≡ shown_header elsewhere w → n ≡ (u % 2 ^ 32 + 7) / 8 * 8 → Goes C t at made w u n
step {C} {at} {i} {w} {u} {n} {words} {slots} {made} t walked lt i_is wide word shown bytes =
    let inside : i < length made = omega (arith, capacity_aligned C t.lawful.capacity) in
    goes C words slots t at made walked lt w u n
    (ap (slice_index made) (sym i_is) ∙ read_at made i w (at_index made i w inside word)) shown bytes

pub overflow_sub-bytes : goal.overflow_sub-bytes
overflow_sub-bytes c =
    let k = c.requires.walk in
    let g = step k.1 k.2 k.3 c.word_index-index.ensures (sym c.args.words.now.ok.0 ∙ c.requires.words)
    c.index-header.ensures c.formatted-shown.ensures c.align8-bytes.ensures in
    omega arith

pub copy_range-requires-clause-slots : goal.copy_range-requires-clause-slots
copy_range-requires-clause-slots c =
    let k = c.requires.walk in
    let g = step k.1 k.2 k.3 c.word_index-index.ensures (sym c.args.words.now.ok.0 ∙ c.requires.words)
    c.index-header.ensures c.formatted-shown.ensures c.align8-bytes.ensures in
    let c8 = capacity_aligned c.args.capacity k.1.lawful.capacity in
    omega arith

pub copy_range-requires-clause-words : goal.copy_range-requires-clause-words
copy_range-requires-clause-words c =
    let inside : c.word_index-index.result + 1 + (c.align8-bytes.result / 8 - 1) ≤ slots_len c.args.closed.now.slots =
    copy_range-requires-clause-slots c in
    omega arith

pub returns-clause-rises : goal.returns-clause-rises
returns-clause-rises c =
    let k = c.requires.walk in
    let g = step k.1 k.2 k.3 c.word_index-index.ensures (sym c.args.words.now.ok.0 ∙ c.requires.words)
    c.index-header.ensures c.formatted-shown.ensures c.align8-bytes.ensures in
    omega arith

pub returns-clause-walks : goal.returns-clause-walks
returns-clause-walks c = λ heads t walked lt.
    let made : List ℕ = c.args.words.now.items in
    let i_is = c.word_index-index.ensures in
    let n : ℕ = c.align8-bytes.result in
    let g = step t walked lt i_is (sym c.args.words.now.ok.0 ∙ c.requires.words) c.index-header.ensures
    c.formatted-shown.ensures c.align8-bytes.ensures in
    elim c.if-shown-header.branch [
      | then-shown-header w ↦
          subst (λ (l : List ℕ). Walked c.args.capacity t (c.args.at + n) l) (λ j. (sym w.words-is j).items)
          (g.recorded w.if-shown-header.true w.copy_range.new.words.items
          (subst (λ k. IsCopied (k + 1) (n / 8 - 1) (slots_items c.args.closed.now.slots) made w.copy_range.new.words.items)
          i_is w.copy_range.ensures))
      | else-shown-header w ↦
          subst (λ (l : List ℕ). Walked c.args.capacity t (c.args.at + n) l)
          ((λ j. set made (sym i_is j) c.formatted-shown.result) ∙ λ j. (sym w.words-is j).items)
          (g.padding w.if-shown-header.false)
    ]
