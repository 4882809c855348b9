use Rattle.std.proofs.Common.{◌≡◌, ◌-◌, ◌*◌, length, refl, sym, ◌∙◌, subst, arith, true, false}
use Rattle.ring_layout.specs.Places.{IsBoardCapacity}
use Rattle.ring_board.proofs.OpeningLemmas.{capacity_whole}
use Rattle.ring_snapshot.proofs.board.BoardSnapshot.new.Goals as goal

pub returns-then-not-is_board_capacity-clause-refused : goal.returns-then-not-is_board_capacity-clause-refused
returns-then-not-is_board_capacity-clause-refused c = (
  refl,
  λ C ok e.
      let same : (length c.args.words.now - 16) * 8 ≡ C = omega (arith, e, capacity_whole C ok) in
      let yes : c.is_board_capacity.result ≡ true =
      c.is_board_capacity.ensures.lawful.1 (subst IsBoardCapacity (sym same) ok) in
      let clash : false ≡ true = sym c.if-not-is_board_capacity.true ∙ yes in absurd cc,
)
