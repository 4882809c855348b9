use Rattle.std.proofs.Common.{rules, ◌≡◌, ◌+◌, ◌-◌, ◌/◌, length, slice_index, ap, sym, subst, ◌∙◌, false, true, is_none}
use Rattle.ring_layout.specs.Layout.{head_index, tail_index}
use Rattle.ring_snapshot.specs.PlainWords.{joined, joined_between, joined_from, with_zeros}
use Rattle.ring_snapshot.specs.{RingRecords.positions_finding, PlainRecords.LiesBetween}
use Rattle.std.proofs.lemmas.Bool.{cond-false, cond-true}
use Rattle.ring_snapshot.proofs.{JoinLemmas.same_capacity, PlainLemmas.joined_lies}
use Rattle.ring_snapshot.proofs.ring.plain.join_bodies.Goals as goal

pub returns-then-is_ordered-clause-joined : goal.returns-then-is_ordered-clause-joined
returns-then-is_ordered-clause-joined c = λ C ok size.
    let ring = c.in_ok-ring.ring in
    let D = c.capacity-capacity.result in
    let words = c.args.words.now in
    let slots = c.args.slots.now in
    let h = c.head-head.result in
    let t = c.tail-tail.result in
    let ordered : is_none (positions_finding D h t) ≡ true = search rules in
    let head : h ≡ slice_index words (head_index D) = search rules in
    let tail : t ≡ slice_index words (tail_index D) = search rules in
    let long : length words ≡ D / 8 + 96 = search rules in
    let wide : c.from.result ≡ D = search rules in
    let same : D ≡ C = same_capacity D C (length words) c.capacity-capacity.ensures.lawful ok long size in
    c.join_records.ensures.joined
    ∙ ap (joined_from D slots t ((t - h) / 8) 0 h)
    (c.clear_words.ensures.words ∙ ap (λ K. with_zeros D t ((K - (t - h)) / 8) words) wide)
    ∙ sym (cond-true _ (joined_from D slots t ((t - h) / 8) 0 h (with_zeros D t ((D - (t - h)) / 8) words)) words
    ordered)
    ∙ (λ i. joined_between D slots (head i) (tail i) words)
    ∙ ap (λ K. joined K slots words) same

pub returns-else-is_ordered-clause-joined : goal.returns-else-is_ordered-clause-joined
returns-else-is_ordered-clause-joined c = λ C ok size.
    let ring = c.in_ok-ring.ring in
    let D = c.capacity-capacity.result in
    let words = c.args.words.now in
    let slots = c.args.slots.now in
    let h = c.head-head.result in
    let t = c.tail-tail.result in
    let unordered : is_none (positions_finding D h t) ≡ false = search rules in
    let head : h ≡ slice_index words (head_index D) = search rules in
    let tail : t ≡ slice_index words (tail_index D) = search rules in
    let long : length words ≡ D / 8 + 96 = search rules in
    let same : D ≡ C = same_capacity D C (length words) c.capacity-capacity.ensures.lawful ok long size in
    sym (cond-false _ (joined_from D slots t ((t - h) / 8) 0 h (with_zeros D t ((D - (t - h)) / 8) words)) words
    unordered)
    ∙ (λ i. joined_between D slots (head i) (tail i) words)
    ∙ ap (λ K. joined K slots words) same

pub returns-then-is_ordered-clause-history : goal.returns-then-is_ordered-clause-history
returns-then-is_ordered-clause-history c = λ C h ok size plain.
    let D = c.capacity-capacity.result in
    let words = c.args.words.now in
    let long : length words ≡ D / 8 + 96 = search rules in
    let slots : length c.args.slots.now ≡ D / 8 = search rules in
    let same : D ≡ C = same_capacity D C (length words) c.capacity-capacity.ensures.lawful ok long size in
    subst (λ w. LiesBetween C words w h) (sym (returns-then-is_ordered-clause-joined c C ok size))
    (joined_lies C words c.args.slots.now (slice_index words (tail_index C)) (slice_index words (head_index C)) h ok
    size (slots ∙ ap (λ K. K / 8) same) plain)

pub returns-else-is_ordered-clause-history : goal.returns-else-is_ordered-clause-history
returns-else-is_ordered-clause-history c = λ C h ok size plain.
    let D = c.capacity-capacity.result in
    let words = c.args.words.now in
    let long : length words ≡ D / 8 + 96 = search rules in
    let slots : length c.args.slots.now ≡ D / 8 = search rules in
    let same : D ≡ C = same_capacity D C (length words) c.capacity-capacity.ensures.lawful ok long size in
    subst (λ w. LiesBetween C words w h) (sym (returns-else-is_ordered-clause-joined c C ok size))
    (joined_lies C words c.args.slots.now (slice_index words (tail_index C)) (slice_index words (head_index C)) h ok
    size (slots ∙ ap (λ K. K / 8) same) plain)
