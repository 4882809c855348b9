use Rattle.std.proofs.Common.{ℕ, List, ap, sym, ◌∙◌, subst}
use Rattle.ring_layout.specs.{declared.message.Message.Message, Places.index}
use Rattle.ring_table.specs.{Runs.run_bytes, Runs.run_slots, Runs.AreMessages, Runs.StoresRun, ProducerSteps.Mine}
use Rattle.ring_table.specs.{SlotSteps.HasBody, Staged.AreRising, Views.View}
use Rattle.atomic_table.specs.Table.{Allows}
use Rattle.ring_table.proofs.{MarkSteps.Marked, CommitRun.commits_run, SlotCalls.holder, SlotCalls.mark_step}
use Rattle.ring_table.proofs.steps.slots.commit_run.Goals as goal

pub store-requires : goal.store-requires
store-requires c =
    let s = c.requires.seat in
    let t = c.requires.run.1 in
    let me : Mine = c.args.producer.now.me in
    mark_step s.table_is s.words_are s.key_is s.lawful _ c.args.place _ c.word_index.ensures t.at_place (λ _. c.args.end)
    (λ _ _ me'. StoresRun me me' × AreRising me.0.producer.claims)
    (subst (λ e. Allows (Marked c.args.capacity c.args.ring.now.key.start) c.args.ring.now.table_id.slots
    c.args.producer.now.id me (index c.args.capacity t.claim.place) (λ _. e)
    (λ _ me'. StoresRun me me' × AreRising me.0.producer.claims)) (sym t.end_is)
    (commits_run c.args.capacity c.args.ring.now.key.start _ _ me s.view_is t.others t.claim t.first t.rest
    (record {
      claims = t.claims;
      padded = t.stage;
      plain = t.plain;
      are = subst (AreMessages c.args.capacity) t.messages t.are;
      bytes = ap run_bytes (sym t.messages) ∙ t.bytes;
    })
    t.out_is
    (subst (λ (z : ℕ × List Message). HasBody (index c.args.capacity z.0) (run_slots z.1) me.1)
    (λ i. (sym t.at_place i, t.messages i)) t.slots)))

pub returns-clause-seat : goal.returns-clause-seat
returns-clause-seat c =
    let e = c.store.ensures in
    let s = c.requires.seat in
    let t = c.requires.run.1 in
    holder e.0 e.1 (ap (λ (v : View). v.capacity) (e.2.0.1 t.others t.claim (index c.args.capacity c.args.place)
    c.requires.run.0 t.claims t.out_is (subst (λ z. AreMessages z c.requires.run.0) (sym s.view_is) t.are) t.slots))
