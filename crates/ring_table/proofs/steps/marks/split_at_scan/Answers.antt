use Rattle.std.proofs.Common.{◌≡◌, refl}
use Rattle.ring_table.specs.Marks.{SplitsAtScan}
use Rattle.ring_table.proofs.{Calls.same_seat, Calls.of_as, SplitMarks.splits_at_scan, SlotCalls.mark_step}
use Rattle.ring_table.proofs.steps.marks.split_at_scan.Goals as goal

pub store-requires : goal.store-requires
store-requires c =
    let s = c.requires.seat in
    mark_step s.table_is s.words_are s.key_is s.lawful _ c.args.scan _ c.word_index.ensures refl (λ _. c.args.end)
    (λ _ _ me'. (me'.1 ≡ c.args.consumer.now.me.1) × SplitsAtScan c.args.consumer.now.me.0 me'.0)
    (splits_at_scan c.args.capacity c.args.ring.now.key.start _ _ c.args.consumer.now.me c.args.scan c.args.end
    c.requires.consumes s.home c.requires.scan c.requires.run c.requires.more)

pub returns-clause-seat : goal.returns-clause-seat
returns-clause-seat c = let h = c.store.ensures in same_seat h.0 h.1 h.2.0 (of_as h.2.1 refl refl)
