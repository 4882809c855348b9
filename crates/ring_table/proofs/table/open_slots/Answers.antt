use Rattle.std.proofs.Common.{refl, sym, subst}
use Rattle.ring_table.{specs.Closed.IsFresh, proofs.OpenLemmas.fresh_shelf, proofs.SeatMarks.fresh_marks}
use Rattle.ring_table.proofs.table.open_slots.Goals as goal

pub new-requires : goal.new-requires
new-requires c = fresh_marks c.args.key.capacity c.args.key.start _ _ c.requires.lawful c.requires.limit
    (subst (IsFresh c.args.key.capacity c.args.key.start) (sym c.as_slice.ensures.value) c.in_ok-words.ensures)
    (fresh_shelf c.args.key.capacity c.args.key.start _ c.in_ok-slots.slots.items refl c.in_ok-slots.ensures)
