use Rattle.std.proofs.Common.{◌≡◌, ℕ, ◌+◌, ◌*◌, ◌/◌, ◌%◌, List, length, sym, ap, ◌∙◌, arith}
use Rattle.ring_layout.{specs.Places.index, proofs.Laps.index_step}
use Rattle.ring_board.{specs.Views.Sat, proofs.FoundLemmas.copied_on}
use Rattle.ring_board.proofs.board.Board.copy_body.Goals as goal

pub load_word-word-requires-clause-stage : goal.load_word-word-requires-clause-stage
load_word-word-requires-clause-stage c = let q = c.requires.stage in let w : ℕ = q.0 in let inv =
    c.loop-k.invariant.copied w q.1 in let ws : List ℕ = inv.0 in let k : ℕ = c.loop-k.k in let n : ℕ =
    c.args.self.now.capacity in let p : ℕ = c.args.place in
    let lawful = c.args.self.now.lawful in let lt = c.loop-k-test.true in let long = inv.3 in let count =
    q.2 in let inside = c.requires.inside.1 in let first = c.index-first.ensures.0 in
    let there : c.loop-k.seat.me.0.at ≡ p = ap (λ (m : Sat). m.0.at) inv.2
    ∙ q.3 in let on = index_step n p (k + 1) (omega arith) c.requires.inside.0 (omega arith) in (
      w,
      ws,
      ap (λ (m : Sat). m.0.stage) inv.2,
      omega arith,
      (let g : c.index-first.result + 1 + k ≡ p % n / 8 + (k + 1) = omega arith in g)
          ∙ (sym on ∙ ap (index n) (let g : p + 8 * (k + 1) ≡ c.loop-k.seat.me.0.at + 8 + 8 * length ws =
          omega arith in g)),
    )

pub loop-k-preserved : goal.loop-k-preserved
loop-k-preserved c =
    let room = c.requires.room in let same = c.loop-k.auto.scratch in let lt = c.loop-k-test.true in record {
      table = c.load_word-word.ensures.same.0 ∙ c.loop-k.invariant.table;
      id = c.load_word-word.ensures.same.1 ∙ c.loop-k.invariant.id;
      copied = λ w eq. copied_on w c.loop-k.k _ c.load_word-word.result c.loop-k.scratch _ c.args.seat.now.me _ _
          (omega arith) (c.loop-k.invariant.copied w eq) c.load_word-word.ensures.read c.put_word.ensures;
    }
