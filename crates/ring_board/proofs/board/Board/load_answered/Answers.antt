use Rattle.std.proofs.Common.{◌≡◌, ℕ, ◌+◌, ◌*◌, ◌/◌, ◌%◌, ◌≤◌, sym, ◌∙◌, subst, arith}
use Rattle.ring_layout.{specs.History.span, specs.Places.index, proofs.Laps.index_step, proofs.PlaceLemmas.span_bounds}
use Rattle.ring_board.specs.declared.shared.view.Taken.{Taken}
use Rattle.ring_board.proofs.BodyLemmas.{copies_kept, loaded_on, loaded_all}
use Rattle.ring_board.proofs.board.Board.load_answered.Goals as goal

pub loop-k-preserved : goal.loop-k-preserved
loop-k-preserved c = let k : ℕ = c.loop-k.k in let n : ℕ = c.args.self.now.capacity in let raw =
    c.args.raw.now in let p : ℕ = raw.place in let h = c.requires.raw.0 in let inside = h.inside in let a = inside.0 in
    let lawful = c.args.self.now.lawful in let whole = lawful.2 in let same = c.loop-k.auto.out in let lt =
    c.loop-k-test.true in let ends = c.loop-k.auto.k-end in let ceil = c.div_ceil-k-end.ensures in let long =
    c.requires.raw.1 in let size = c.requires.stage.1 in
    let b = subst (λ (y : ℕ). p % y + span raw.len ≤ y) size inside.1 in
    let bounds = span_bounds raw.len in let low = bounds.1 in let seen = c.load_unread-word.ensures.seen in let inv =
    c.loop-k.invariant.loaded in
    let q = h.copy in let taken : Taken = q.1 in let place = q.3 in let len = q.5 in
    let far = seen.3 q.0 taken (copies_kept _ _ inv.1 q.0 taken inv.2 q.2) in
    let on = index_step n p (k + 1) (omega arith) a (omega arith) in let first = c.index-first.ensures.0 in
    let shift : p + 8 * (k + 1) ≡ p + 8 + 8 * k = omega arith in
    let there : c.index-first.result + 1 + k ≡ index c.args.seat.now.me.0.capacity (p + 8 + 8 * k) =
    (let g : c.index-first.result + 1 + k ≡ p % n / 8 + (k + 1) = omega arith in g)
    ∙ (sym on ∙ (λ i. index (sym size i) (shift i))) in record {
      table = c.load_unread-word.ensures.same.0 ∙ c.loop-k.invariant.table;
      id = c.load_unread-word.ensures.same.1 ∙ c.loop-k.invariant.id;
      loaded = loaded_on p k (c.index-first.result + 1 + k) c.load_unread-word.result seen.0 c.loop-k.out _
          c.args.seat.now.me _ _ inv seen.1 (record { index_is = there; below = omega arith; room = omega arith })
          c.put_part.ensures c.put_part.auto.bytes;
    }

pub returns-clause-gave : goal.returns-clause-gave
returns-clause-gave c = let same = c.loop-k.auto.out in let ends = c.loop-k.auto.k-end in let ceil =
    c.div_ceil-k-end.ensures in let f = c.loop-k-test.false in
    loaded_all c.args.raw.now.place c.loop-k.k c.loop-k.out c.args.seat.now.me _ c.loop-k.invariant.loaded (omega arith)
