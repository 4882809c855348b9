use Rattle.ring_table.specs.Staged.{in_words}
use Rattle.std.proofs.Common.{◌≡◌, ℕ, subst, arith}
use Rattle.ring_table.specs.{Views.Logs, Views.no_run, Views.with_run, ProducerSteps.Mine, ConsumerSteps.LoadsHeader}
use Rattle.ring_table.proofs.{Calls.same_seat, Calls.record_step, Calls.leaves_at, ConsumeLemmas.loads_next}
use Rattle.ring_table.proofs.steps.consumer.load_next_word.Goals as goal

pub load-requires : goal.load-requires
load-requires c =
    let s = c.requires.seat in
    let at = c.requires.scan in
    record_step s _ c.args.scan _ c.word_index.ensures at (λ n. n)
    (λ k me n me'. (me'.1 ≡ me.1)
    × LoadsHeader me.0.capacity me.0.consumer.scan me.0.consumer.got (with_run (no_run me.0.consumer.scan) me.0) n me'.0
    × Logs k n me.0 me'.0)
    (λ _ _ t _ _ _. (t.0, leaves_at t.1.stays.out))
    (loads_next in_words c.args.capacity c.args.ring.now.key.start _ _ c.args.consumer.now.me s.view_is c.requires.consumes
    (omega arith))

pub returns-clause-told : goal.returns-clause-told
returns-clause-told c =
    let me : Mine = c.args.consumer.now.me in
    subst (λ (z : ℕ × ℕ × ℕ). LoadsHeader z.0 z.1 me.0.consumer.got (with_run (no_run z.1) me.0) z.2 c.load.new.seat.me.0)
    (λ i. (c.requires.seat.view_is i, c.requires.scan i, c.load.result)) c.load.ensures.2.1

pub returns-clause-seat : goal.returns-clause-seat
returns-clause-seat c = let h = c.load.ensures in same_seat h.0 h.1 h.2.0
    (record { capacity = h.2.1.capacity; out = h.2.1.stays.out })
