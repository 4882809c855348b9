use Rattle.std.proofs.Common.{List, ℕ, sym, ◌∙◌, subst}
use Rattle.ring_table.{specs.Closed.IsClosed, specs.Staged.in_words, proofs.LawLemmas.none_open}
use Rattle.ring_table.proofs.CloseLemmas.{closed_words, closes, leaves_rest}
use Rattle.ring_rings.proofs.words.InWordsBodies.show.Goals as goal

pub returns : goal.returns
returns c = λ k v left.
    let final = left.final in
    let closed : IsClosed k.capacity k.start c.copy_words.new.words.items v =
    subst (λ (ws : List ℕ). IsClosed k.capacity k.start ws v) (final.2 ∙ sym c.copy_words.ensures)
    (closed_words k.capacity k.start final.0.words v (closes in_words k.capacity k.start final.0.words final.0.views
    final.1.0.0 _ _ final.1.1 left.last.all left.last.consumes)) in (
      closed,
      leaves_rest k.capacity k.start _ _ closed
          (none_open v.producer.claims left.last.none_open).1 left.last.none_cleared,
    )
