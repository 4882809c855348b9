use Rattle.std.proofs.Common.{refl}
use Rattle.ring_layout.specs.declared.message.ClaimState.TheVariants.{Aborted}
use Rattle.ring_table.proofs.Calls.{same_seat, settled_step, settled_view, of_as}
use Rattle.ring_table.proofs.HeaderCalls.{packs_aborted}
use Rattle.ring_table.proofs.steps.producer.store_aborted_word.Goals as goal

pub store-requires : goal.store-requires
store-requires c = let h = c.requires.claim in
    settled_step c.requires.seat Aborted h c.word_index.ensures c.aborted_header-header.result
    (packs_aborted c.aborted_header-header.result c.args.wanted.len c.args.wanted.type_id h.claim h.holds
    c.aborted_header-header.ensures)

pub returns-clause-view : goal.returns-clause-view
returns-clause-view c =
    settled_view c.requires.seat Aborted c.requires.claim c.word_index.ensures _ c.store.ensures.2.1

pub returns-clause-seat : goal.returns-clause-seat
returns-clause-seat c =
    let h = c.store.ensures in
    same_seat h.0 h.1 h.2.0 (of_as (returns-clause-view c) refl refl)
