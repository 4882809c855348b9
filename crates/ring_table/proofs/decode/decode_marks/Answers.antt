use Rattle.std.proofs.Common.{◌≡◌, ◌≢◌, ℕ, ◌+◌, ◌*◌, ◌%◌, ◌≤◌, ◌<◌, List, set, slice_index, get_or, get_or-set_other, get_or-set_same, sym, ap, ◌∙◌, subst, arith}
use Rattle.std.{proofs.Math.Logic.dite, proofs.Math.Decide.ℕ_discrete, specs.Slots.slots_items, specs.Slots.slots_len}
use Rattle.ring_layout.{specs.Layout.head_index, specs.Places.index, proofs.Laps.apart}
use Rattle.ring_table.specs.Marks.{decoded, MayDecode}
use Rattle.ring_table.proofs.{PictureWords.value_at, StagedPlaces.capacity_aligned, StagedPlaces.inside_buffer}
use Rattle.ring_table.proofs.decode.decode_marks.Goals as goal

pub get-slot-requires : goal.get-slot-requires
get-slot-requires c =
    let full = c.requires.slots in
    let low = inside_buffer c.args.capacity (c.index-head.result.now + 8 * c.loop-k.k) c.requires.capacity in
    let at = c.word_index-index.ensures in
    let long = full.1 in
    let lt : c.word_index-index.result < slots_len c.args.closed.now.slots = omega arith in
    (lt, full.0 c.word_index-index.result (omega arith) lt)

pub decode_mark-requires : goal.decode_mark-requires
decode_mark-requires c =
    let cap = c.requires.capacity in
    let head : ℕ = c.index-head.result.now in
    let p : ℕ = head + 8 * c.loop-k.k in
    let low = inside_buffer c.args.capacity p cap in
    let c8 = capacity_aligned c.args.capacity cap in
    let at = c.word_index-index.ensures in
    let wide = c.requires.words in
    let head8 = c.requires.head.0 in
    let old : List ℕ = c.args.words.now.items in
    let head_is : slice_index old (head_index c.args.capacity) ≡ head = value_at old _ head (omega arith) c.index-head.ensures in
    let more = c.loop-k-test.true in
    let len = c.loop-k.invariant.len in
    let mark : slice_index c.loop-k.words.items c.word_index-index.result ≡ c.index-mark.result.now =
    value_at c.loop-k.words.items _ _ (omega arith) c.index-mark.ensures in
    let was = c.loop-k.invariant.ahead p (omega arith) (omega arith) (omega arith) in
    subst (MayDecode p) (sym was ∙ ap (slice_index c.loop-k.words.items) (sym at) ∙ mark)
    (c.requires.marks p (omega arith) (omega arith) (omega arith))

pub loop-k-preserved : goal.loop-k-preserved
loop-k-preserved c =
    let C : ℕ = c.args.capacity in
    let cap = c.requires.capacity in
    let least = cap.least in
    let c8 = capacity_aligned C cap in
    let head : ℕ = c.index-head.result.now in
    let q : ℕ = head + 8 * c.loop-k.k in
    let i : ℕ = c.word_index-index.result in
    let at : i ≡ index C q = c.word_index-index.ensures in
    let low = inside_buffer C q cap in
    let wide = c.requires.words in
    let head8 = c.requires.head.0 in
    let old : List ℕ = c.args.words.now.items in
    let head_is : slice_index old (head_index C) ≡ head = value_at old _ head (omega arith) c.index-head.ensures in
    let more = c.loop-k-test.true in
    let inv = c.loop-k.invariant in
    let len = inv.len in
    let now : List ℕ = c.loop-k.words.items in
    let xs : List ℕ = slots_items c.args.closed.now.slots in
    let long = c.requires.slots.1 in
    let mark : slice_index now i ≡ c.index-mark.result.now = value_at now i _ (omega arith) c.index-mark.ensures in
    let slot : slice_index xs i ≡ c.get-slot.result.now = value_at xs i _ (omega arith) c.get-slot.ensures in
    let was : slice_index now (index C q) ≡ slice_index old (index C q) = inv.ahead q (omega arith) (omega arith) (omega arith) in
    let header : c.decode_mark.result ≡ decoded q (slice_index old (index C q)) (slice_index xs (index C q)) =
    c.decode_mark.ensures
    ∙ (λ j. decoded q ((sym mark ∙ ap (slice_index now) at ∙ was) j) ((sym slot ∙ ap (slice_index xs) at) j)) in
    let away = λ (p : ℕ) (p8 : p % 8 ≡ 0) (from : head ≤ p) (below : p < head + C) (ne : p ≢ q) (same : index C p ≡ i).
    ne (apart C head p q (record { some = omega arith; whole = c8 }) (record { whole = p8; from = from; below = below })
    (record { whole = omega arith; from = omega arith; below = omega arith }) (same ∙ at)) in
    record {
      len = inv.len;
      done = λ p p8 from below. dite (ℕ_discrete p q)
          (λ e. subst (λ z. slice_index (set now i c.decode_mark.result) (index C z)
          ≡ decoded z (slice_index old (index C z)) (slice_index xs (index C z))) (sym e)
          (ap (λ z. get_or (set now i c.decode_mark.result) z 0) (sym at)
          ∙ get_or-set_same now i c.decode_mark.result 0 (omega arith) ∙ header))
          (λ ne. get_or-set_other now i (index C p) c.decode_mark.result 0
          (away p p8 from (omega arith) ne) ∙ inv.done p p8 from (omega arith));
      ahead = λ p p8 from below. get_or-set_other now i (index C p) c.decode_mark.result 0
          (away p p8 (omega arith) below (λ e. omega arith)) ∙ inv.ahead p p8 (omega arith) below;
      trailer = λ j far. get_or-set_other now i j c.decode_mark.result 0 (λ e. omega arith) ∙ inv.trailer j far;
    }

pub returns-clause-headers : goal.returns-clause-headers
returns-clause-headers c p p8 from below =
    let C : ℕ = c.args.capacity in
    let cap = c.requires.capacity in
    let least = cap.least in
    let c8 = capacity_aligned C cap in
    let wide = c.requires.words in
    let old : List ℕ = c.args.words.now.items in
    let head_is : slice_index old (head_index C) ≡ c.index-head.result.now = value_at old _ _ (omega arith) c.index-head.ensures
    in
    let end = c.loop-k-test.false in
    c.loop-k.invariant.done p p8 (omega arith) (omega arith)
