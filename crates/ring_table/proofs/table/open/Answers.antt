use Rattle.std.proofs.Common.{sym, subst}
use Rattle.ring_table.{specs.Staged.in_words, specs.Closed.IsFresh, proofs.OpenLemmas.fresh_keeps}
use Rattle.ring_table.proofs.table.open.Goals as goal

pub of_words-requires : goal.of_words-requires
of_words-requires c = (
  fresh_keeps in_words c.args.key.capacity c.args.key.start _ c.requires.lawful c.requires.limit
      (subst (IsFresh c.args.key.capacity c.args.key.start) (sym c.as_slice.ensures.value) c.in_ok-words.ensures),
  tt,
)
