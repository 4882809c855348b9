use Rattle.std.proofs.Common.{◌≡◌, ℕ, ◌+◌, ◌*◌, ◌/◌, List, length, sym, ap, refl, ◌∙◌, subst, arith}
use Rattle.ring_table.specs.{Filling.Filling, SlotSteps.words_of, SlotSteps.HasSlots, Staged.body_word, Staged.headed}
use Rattle.ring_table.proofs.FillLemmas.{fill_end, word_of_slice, word_of_rest}
use Rattle.ring_table.proofs.SlotBytes.{later_word, length_headed}
use Rattle.ring_table.proofs.bodies.fill_slots.Goals as goal

-- the word of the body k words from its start is that of the bytes one later
one_on : (h : ℕ) (body : List ℕ) (k : ℕ) → body_word body (8 * k) ≡ body_word (headed h body) (8 * (k + 1))
one_on h body k =
    let on : 8 + 8 * k ≡ 8 * (k + 1) = omega arith in
    sym (later_word h body (8 * k)) ∙ ap (body_word (headed h body)) on

pub fill_header-requires-clause-has : goal.fill_header-requires-clause-has
fill_header-requires-clause-has c =
    let same : words_of (8 + length c.args.body.now) ≡ c.div_ceil-count.result + 1 = omega arith in
    subst (λ n. HasSlots c.args.first n c.args.seat.now.me.1) same c.requires.has

pub loop-k-init : goal.loop-k-init
loop-k-init c =
    let same : c.div_ceil-count.result + 1 ≡ words_of (8 + length c.args.body.now) = omega arith in (
      subst (λ n. Filling c.args.first 1 n (headed c.args.header c.args.body.now) c.fill_header.new.seat.me.1) same
          (c.fill_header.ensures.filling c.args.body.now),
      c.fill_header.ensures.seat,
    )

pub put_slot-requires-clause-filling : goal.put_slot-requires-clause-filling
put_slot-requires-clause-filling c =
    let bytes : List ℕ = headed c.args.header c.args.body.now in
    let same : c.div_ceil-count.result + 1 ≡ words_of (8 + length c.args.body.now) = omega arith in
    (bytes, subst (λ n. Filling c.args.first (c.loop-k.k + 1) n bytes c.loop-k.seat.me.1) (sym same) c.loop-k.invariant.0)

pub loop-k-preserved : goal.loop-k-preserved
loop-k-preserved c =
    let body : List ℕ = c.args.body.now in
    let bytes : List ℕ = headed c.args.header body in
    let k : ℕ = c.loop-k.k in
    let same : c.div_ceil-count.result + 1 ≡ words_of (8 + length body) = omega arith in
    let s = c.put_slot.ensures.seat in
    let inv = c.loop-k.invariant in (
      subst (λ n. Filling c.args.first (k + 1 + 1) n bytes c.put_slot.new.seat.me.1) same
          (c.put_slot.ensures.filling bytes
          (subst (λ n. Filling c.args.first (k + 1) n bytes c.loop-k.seat.me.1) (sym same) inv.0)
          (c.first_word-word.ensures ∙ word_of_slice body (8 * k) (8 * k + 8) refl ∙ one_on c.args.header body k)),
      record { table = s.table ∙ inv.1.table; id = s.id ∙ inv.1.id; view = s.view ∙ inv.1.view },
    )

pub put_slot-requires-then-whole-body-clause-filling : goal.put_slot-requires-then-whole-body-clause-filling
put_slot-requires-then-whole-body-clause-filling c =
    let body : List ℕ = c.args.body.now in
    let bytes : List ℕ = headed c.args.header body in
    let same : c.div_ceil-count.result + 1 ≡ words_of (8 + length body) = omega arith in
    let last : c.loop-k.k ≡ length body / 8 = omega arith in (
      bytes,
      subst (λ (z : ℕ × ℕ). Filling c.args.first (z.0 + 1) z.1 bytes c.loop-k.seat.me.1) (λ i. (last i, sym same i))
          c.loop-k.invariant.0,
    )

pub returns-then-whole-body-clause-has : goal.returns-then-whole-body-clause-has
returns-then-whole-body-clause-has c =
    let body : List ℕ = c.args.body.now in
    let bytes : List ℕ = headed c.args.header body in
    let k : ℕ = length body / 8 in
    let long = length_headed c.args.header body in
    let same : c.div_ceil-count.result + 1 ≡ words_of (8 + length body) = omega arith in
    let last : c.loop-k.k ≡ length body / 8 = omega arith in
    fill_end c.args.first (k + 1 + 1) (c.div_ceil-count.result + 1) bytes c.put_slot-then-whole-body.new.seat.me.1
    (omega arith) (omega arith)
    (c.put_slot-then-whole-body.ensures.filling bytes
    (subst (λ (z : ℕ × ℕ). Filling c.args.first (z.0 + 1) z.1 bytes c.loop-k.seat.me.1) (λ i. (last i, sym same i))
    c.loop-k.invariant.0)
    (c.first_word-word-then-whole-body.ensures ∙ word_of_rest body (8 * k) ∙ one_on c.args.header body k))

pub returns-else-whole-body-clause-has : goal.returns-else-whole-body-clause-has
returns-else-whole-body-clause-has c =
    let body : List ℕ = c.args.body.now in
    let long = length_headed c.args.header body in
    fill_end c.args.first (c.loop-k.k + 1) (words_of (8 + length body)) (headed c.args.header body) c.loop-k.seat.me.1
    (omega arith) (omega arith) c.loop-k.invariant.0
