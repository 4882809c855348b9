use Rattle.std.proofs.Common.{ℕ, ◌+◌, ◌*◌, ◌<◌, length, subst, arith}
use Rattle.ring_layout.proofs.CapacityLemmas.{capacity_blocks}
use Rattle.ring_table.specs.declared.view.View.{View}
use Rattle.ring_rings.specs.ReadingSteps.{CopiesWords}
use Rattle.ring_rings.proofs.{ReadingCopies.copies_all, ReadingSeats.loads_more, ReadingSeats.same_more}
use Rattle.ring_rings.proofs.words.InWordsBodies.load_body.Goals as goal

pub load_word-requires-in-loop-k-3-clause-room : goal.load_word-requires-in-loop-k-3-clause-room
load_word-requires-in-loop-k-3-clause-room c =
    let blocks = capacity_blocks c.args.capacity c.requires.seat.seat.lawful in
    omega (
      arith,
      blocks,
      c.loop-k-test.true,
      c.requires.room,
      c.requires.body.few,
      c.load_word-in-loop-k-2.auto.scratch,
      c.load_word-in-loop-k.auto.scratch,
      c.load_word.auto.scratch,
      c.loop-k.auto.scratch,
      c.div_ceil-count.ensures,
    )

pub loop-k-preserved : goal.loop-k-preserved
loop-k-preserved c =
    let inv = c.loop-k.invariant in
    let one = c.load_word.ensures in
    let two = c.load_word-in-loop-k.ensures in
    let three = c.load_word-in-loop-k-2.ensures in
    let four = c.load_word-in-loop-k-3.ensures in
    let k : ℕ = c.loop-k.k in
    let v : View = c.args.seat.now.me.0 in
    record {
      seat = same_more _ _ _ (same_more _ _ _ (same_more _ _ _ (same_more _ _ _ inv.seat one.seat) two.seat) three.seat)
          four.seat;
      rest = loads_more v _ _ (loads_more v _ _
          (loads_more v _ _ (loads_more v _ _ inv.rest one.rest) two.rest) three.rest) four.rest;
      copied = λ m last at len.
          let inside : 8 * (4 * k + 3) < length m.message.body =
          omega (arith, c.loop-k-test.true, c.div_ceil-count.ensures, len) in
          let first = one.copies m v last at (omega (arith, inside)) (inv.copied m last at len) in
          let second = two.copies m v last at (omega (arith, inside)) first in
          let third = three.copies m v last at (omega (arith, inside))
          (subst (λ (n : ℕ). CopiesWords c.args.capacity m n v c.load_word-in-loop-k.new.scratch
          c.load_word-in-loop-k.new.seat.me.0) (omega arith) second) in
          let fourth = four.copies m v last at inside
          (subst (λ (n : ℕ). CopiesWords c.args.capacity m n v c.load_word-in-loop-k-2.new.scratch
          c.load_word-in-loop-k-2.new.seat.me.0) (omega arith) third) in
          subst (λ (n : ℕ). CopiesWords c.args.capacity m n v c.load_word-in-loop-k-3.new.scratch
          c.load_word-in-loop-k-3.new.seat.me.0) (omega arith) fourth;
    }

pub load_word-requires-in-loop-j-clause-room : goal.load_word-requires-in-loop-j-clause-room
load_word-requires-in-loop-j-clause-room c =
    let blocks = capacity_blocks c.args.capacity c.requires.seat.seat.lawful in
    omega (
      arith,
      blocks,
      c.loop-j-test.true,
      c.requires.room,
      c.requires.body.few,
      c.loop-j.auto.scratch,
      c.loop-k.auto.scratch,
      c.div_ceil-count.ensures,
    )

pub returns-clause-copies : goal.returns-clause-copies
returns-clause-copies c = λ m last at len.
    copies_all c.args.capacity m c.loop-j.j c.args.seat.now.me.0 c.loop-j.seat.me.0 c.loop-j.scratch
    (omega (arith, c.loop-j-test.false, c.div_ceil-count.ensures, c.loop-j.auto.j-end, c.loop-j.auto.j, len))
    (omega (arith, c.requires.room, c.requires.body.few, c.loop-j.auto.scratch, c.loop-k.auto.scratch, len))
    (c.loop-j.invariant.copied m last at len)
