use Rattle.std.proofs.Common.{◌≡◌, ℕ, ◌+◌, ◌*◌, ◌/◌, ◌<◌, List, length, refl, ◌∙◌, subst, arith}
use Rattle.std.proofs.lemmas.List.Elements.{All-from_get_or}
use Rattle.ring_table.{specs.Filling.Filling, proofs.FillLemmas.word_of_slice, proofs.FillLemmas.word_of_rest}
use Rattle.ring_table.proofs.RunFill.{record_head, record_next}
use Rattle.ring_table.proofs.runs.fill_record.Goals as goal

pub loop-i-init : goal.loop-i-init
loop-i-init c =
    let none : c.args.k + 1 ≡ c.args.k + 1 + 0 = omega arith in (
      λ run lies filling.
          subst (λ n. Filling c.args.first n c.args.count run c.put_slot.new.seat.me.1) none
          (c.put_slot.ensures.filling run filling
          (record_head c.args.header c.args.body.now run c.args.k (omega (arith, c.ranges.header.fits)) lies)),
      c.put_slot.ensures.seat,
    )

pub loop-i-preserved : goal.loop-i-preserved
loop-i-preserved c =
    let body : List ℕ = c.args.body.now in
    let k : ℕ = c.args.k in
    let i : ℕ = c.loop-i.i in
    let s = c.put_slot-in-loop-i.ensures.seat in
    let inv = c.loop-i.invariant in
    let on : k + 1 + i + 1 ≡ k + 1 + (i + 1) = omega arith in (
      λ run lies filling.
          subst (λ n. Filling c.args.first n c.args.count run c.put_slot-in-loop-i.new.seat.me.1) on
          (c.put_slot-in-loop-i.ensures.filling run (inv.0 run lies filling)
          (c.first_word-word.ensures ∙ word_of_slice body (8 * i) (8 * i + 8) refl
          ∙ record_next c.args.header body run k i (omega arith) lies)),
      record { table = s.table ∙ inv.1.table; id = s.id ∙ inv.1.id; view = s.view ∙ inv.1.view },
    )

pub returns-then-whole-body-clause-bytes : goal.returns-then-whole-body-clause-bytes
returns-then-whole-body-clause-bytes c =
    All-from_get_or (λ b. b < 256) c.args.body.now 0 (λ i _. omega (arith, c.type_inv.body i))

pub returns-else-whole-body-clause-bytes : goal.returns-else-whole-body-clause-bytes
returns-else-whole-body-clause-bytes c =
    All-from_get_or (λ b. b < 256) c.args.body.now 0 (λ i _. omega (arith, c.type_inv.body i))

pub returns-then-whole-body-clause-filling : goal.returns-then-whole-body-clause-filling
returns-then-whole-body-clause-filling c = λ run lies filling.
    let body : List ℕ = c.args.body.now in
    let k : ℕ = c.args.k in
    let whole : ℕ = length body / 8 in
    let last : c.loop-i.i ≡ whole = omega arith in
    let on : k + 1 + whole + 1 ≡ k + (8 + length body + 7) / 8 = omega arith in
    let before = subst (λ n. Filling c.args.first (k + 1 + n) c.args.count run c.loop-i.seat.me.1) last
    (c.loop-i.invariant.0 run lies filling) in
    subst (λ n. Filling c.args.first n c.args.count run c.put_slot-then-whole-body.new.seat.me.1) on
    (c.put_slot-then-whole-body.ensures.filling run before
    (c.first_word-word-then-whole-body.ensures ∙ word_of_rest body (8 * whole)
    ∙ record_next c.args.header body run k whole (omega arith) lies))
