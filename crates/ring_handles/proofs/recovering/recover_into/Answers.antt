use Rattle.std.proofs.Common.{◌*◌, ◌≤◌, w32, sym, subst}
use Rattle.std.proofs.lemmas.Int.{to_z-of_z}
use Rattle.ring_recovery.specs.Recovered.{all_placed}
use Rattle.ring_rings.specs.Reading.{messages_of}
use Rattle.ring_handles.specs.Batch.{batch, laid_end}
use Rattle.ring_handles.specs.Recovering.{Recovers, Recovery, recovery}
use Rattle.ring_handles.proofs.RecoveringLemmas.{found_as, laid_as, not_refused, within}
use Rattle.ring_handles.proofs.recovering.recover_into.Goals as goal

pub lay_recovered-requires : goal.lay_recovered-requires
lay_recovered-requires c =
    let r = c.in-Ok.recovered in
    let size = c.in-Ok.ensures.ring in
    let reads = c.in-Ok.ensures.reads r.capacity r.lawful size in
    let none = not_refused _ r (c.in-Ok.ensures.refused r.capacity r.lawful size) in
    subst (λ ms. laid_end 0 (messages_of (all_placed ms)) ≤ 2 * r.capacity) (sym reads.messages)
    (within r.capacity c.args.words.now c.args.slots.now none)

pub returns-in-Ok : goal.returns-in-Ok
returns-in-Ok c =
    let r = c.in-Ok.recovered in
    let words = c.args.words.now in
    let slots = c.args.slots.now in
    let before : Recovery = recovery c.args.open_claims.now
    (batch c.args.count.now c.args.used.now c.args.buffer.now) c.args.place.now c.args.found.now in
    let after : Recovery = recovery c.lay_recovered.new.open_claims
    (batch c.lay_recovered.new.count c.lay_recovered.new.used c.lay_recovered.new.buffer) c.args.place.now
    c.args.found.now in
    let t = c.lay_recovered.type_inv in
    let same = to_z-of_z w32 c.lay_recovered.result (record { sfits = t }) in
    subst (Recovers words slots before after) (sym same)
    (laid_as words slots r before after c.lay_recovered.result (λ C start m. c.in-Ok.ensures.recovered C start m)
    (λ C ok size. c.in-Ok.ensures.refused C ok size) (λ C ok size. c.in-Ok.ensures.reads C ok size) r.lawful
    c.in-Ok.ensures.ring (c.lay_recovered.ensures c.args.place.now c.args.found.now))

pub returns-in-Err : goal.returns-in-Err
returns-in-Err c =
    let f = c.in-Err.finding in
    let words = c.args.words.now in
    let slots = c.args.slots.now in
    let before : Recovery = recovery c.args.open_claims.now
    (batch c.args.count.now c.args.used.now c.args.buffer.now) c.args.place.now c.args.found.now in
    let after : Recovery = recovery c.args.open_claims.now
    (batch c.args.count.now c.args.used.now c.args.buffer.now) c.report.new.place c.report.new.found in
    let t = c.report.type_inv in
    let same = to_z-of_z w32 c.report.result (record { sfits = t }) in
    subst (Recovers words slots before after) (sym same)
    (found_as words slots f before after c.report.result (λ C start m. c.in-Err.ensures.recovered C start m)
    (λ none. c.in-Err.ensures.no_ring none) (λ C ok size. c.in-Err.ensures.refused C ok size)
    (c.report.ensures c.args.open_claims.now (batch c.args.count.now c.args.used.now c.args.buffer.now)))
