use Rattle.std.proofs.Common.{◌≡◌, ℕ, ◌+◌, ◌*◌, List, length, replicate, sym, ap, ◌∙◌, subst, arith}
use Rattle.std.proofs.lemmas.List.{length-replicate}
use Rattle.ring_table.specs.{Filling.Filling, SlotSteps.words_of, SlotSteps.HasSlots, Staged.body_word, Staged.headed}
use Rattle.ring_table.proofs.{BodyWords.body_word-zeros, SlotBytes.later_word, SlotBytes.length_headed}
use Rattle.ring_table.proofs.FillLemmas.{fill_end}
use Rattle.ring_table.proofs.bodies.fill_zeros.Goals as goal

pub fill_header-requires-clause-has : goal.fill_header-requires-clause-has
fill_header-requires-clause-has c =
    let same : words_of (8 + c.args.len) ≡ c.div_ceil-count.result + 1 = omega arith in
    subst (λ n. HasSlots c.args.first n c.args.seat.now.me.1) same c.requires.has

pub loop-k-init : goal.loop-k-init
loop-k-init c =
    let zeros : List ℕ = replicate c.args.len 0 in
    let same : c.div_ceil-count.result + 1 ≡ words_of (8 + c.args.len) = omega arith in (
      subst (λ n. Filling c.args.first 1 n (headed c.args.header zeros) c.fill_header.new.seat.me.1) same
          (c.fill_header.ensures.filling zeros),
      c.fill_header.ensures.seat,
    )

pub put_slot-requires-clause-filling : goal.put_slot-requires-clause-filling
put_slot-requires-clause-filling c =
    let bytes : List ℕ = headed c.args.header (replicate c.args.len 0) in
    let same : c.div_ceil-count.result + 1 ≡ words_of (8 + c.args.len) = omega arith in
    (bytes, subst (λ n. Filling c.args.first (c.loop-k.k + 1) n bytes c.loop-k.seat.me.1) (sym same) c.loop-k.invariant.0)

pub loop-k-preserved : goal.loop-k-preserved
loop-k-preserved c =
    let zeros : List ℕ = replicate c.args.len 0 in
    let bytes : List ℕ = headed c.args.header zeros in
    let k : ℕ = c.loop-k.k in
    let same : c.div_ceil-count.result + 1 ≡ words_of (8 + c.args.len) = omega arith in
    let on : 8 + 8 * k ≡ 8 * (k + 1) = omega arith in
    let s = c.put_slot.ensures.seat in
    let inv = c.loop-k.invariant in (
      subst (λ n. Filling c.args.first (k + 1 + 1) n bytes c.put_slot.new.seat.me.1) same
          (c.put_slot.ensures.filling bytes
          (subst (λ n. Filling c.args.first (k + 1) n bytes c.loop-k.seat.me.1) (sym same) inv.0)
          (sym (body_word-zeros c.args.len (8 * k)) ∙ sym (later_word c.args.header zeros (8 * k)) ∙ ap (body_word bytes) on)),
      record { table = s.table ∙ inv.1.table; id = s.id ∙ inv.1.id; view = s.view ∙ inv.1.view },
    )

pub returns-clause-has : goal.returns-clause-has
returns-clause-has c =
    let zeros : List ℕ = replicate c.args.len 0 in
    let long = length_headed c.args.header zeros in
    let many : length zeros ≡ c.args.len = length-replicate c.args.len 0 in
    fill_end c.args.first (c.loop-k.k + 1) (words_of (8 + c.args.len)) (headed c.args.header zeros) c.loop-k.seat.me.1
    (omega arith) (omega arith) c.loop-k.invariant.0
