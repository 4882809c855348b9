use Rattle.std.proofs.Common.{rules, ◌≡◌, ◌+◌, List, ℕ, ℤ, arith, sym, ◌∙◌, subst, w32, to_z, of_z, take}
use Rattle.std.proofs.lemmas.{Int.to_z-of_z, List.length-take-le}
use Rattle.ring_table.specs.{RunBodies.messages_of, declared.runs.Outgoing.Outgoing}
use Rattle.ring_ends.{specs.Claiming.NumberedClaims, specs.End.End, proofs.EndLemmas.keeps_on}
use Rattle.ring_handles.specs.WritingBatch.{StopsAt, WritesSome}
use Rattle.ring_handles.proofs.WritingLemmas.{messages_length, stops_within, wrote_all, wrote_more, wrote_part}
use Rattle.ring_handles.proofs.writing_batch.write_chunks.Goals as goal

pub overflow_add-written : goal.overflow_add-written
overflow_add-written g c =
    let inv = c.loop-at.invariant in
    let n : ℕ = c.gather-gathered.result.count in
    let chunk : List Outgoing = c.gather-gathered.new.chunk in
    let few = c.gather-gathered.ensures.count.1 in
    let size = c.gather-gathered.ensures.size in
    let room = inv.2 in
    let low = inv.3 in
    let most = inv.4 in
    let was : End = c.loop-at.end.end in
    let within = stops_within was.many was.capacity (messages_of (take n chunk)) c.in-Err.some c.in-Err.code was.view
    c.write_messages.new.end.end.view c.in-Err.ensures.stops in
    let long = messages_length (take n chunk) ∙ length-take-le n chunk few in
    omega arith

pub overflow_cast-written : goal.overflow_cast-written
overflow_cast-written g c =
    let inv = c.loop-at.invariant in
    let n : ℕ = c.gather-gathered.result.count in
    let chunk : List Outgoing = c.gather-gathered.new.chunk in
    let few = c.gather-gathered.ensures.count.1 in
    let size = c.gather-gathered.ensures.size in
    let room = inv.2 in
    let low = inv.3 in
    let most = inv.4 in
    let was : End = c.loop-at.end.end in
    let within = stops_within was.many was.capacity (messages_of (take n chunk)) c.in-Err.some c.in-Err.code was.view
    c.write_messages.new.end.end.view c.in-Err.ensures.stops in
    let long = messages_length (take n chunk) ∙ length-take-le n chunk few in
    omega arith

pub returns-in-Err-clause-written : goal.returns-in-Err-clause-written
returns-in-Err-clause-written g c = λ ms batch.
    let p : End = c.args.end.now.end in
    let was : End = c.loop-at.end.end in
    let q : End = c.write_messages.new.end.end in
    let inv = c.loop-at.invariant in
    let n : ℕ = c.gather-gathered.result.count in
    let chunk : List Outgoing = c.gather-gathered.new.chunk in
    let same : to_z w32 (of_z w32 c.in-Err.code) ≡ c.in-Err.code = search (rules, to_z-of_z) in
    let stops = subst (λ (e : End). StopsAt e.many e.capacity (messages_of (take n chunk)) c.in-Err.some c.in-Err.code
    was.view q.view) inv.1.1.0 c.in-Err.ensures.stops in
    let wrote = wrote_part p.many p.capacity c.args.records.now c.loop-at.at c.loop-at.count n
    c.gather-gathered.result.end c.in-Err.some c.in-Err.code chunk ms p.view was.view q.view inv.0
    c.gather-gathered.ensures.gathers stops batch in
    subst (λ (z : ℤ). WritesSome p.many p.capacity ms (c.loop-at.count + c.in-Err.some) z p.view q.view) (sym same) wrote

pub returns-in-Err-clause-keeps : goal.returns-in-Err-clause-keeps
returns-in-Err-clause-keeps g c = keeps_on c.args.end.now c.loop-at.end c.write_messages.new.end c.loop-at.invariant.1
    c.write_messages.ensures.keeps

pub loop-at-preserved : goal.loop-at-preserved
loop-at-preserved g c =
    let inv = c.loop-at.invariant in
    let n : ℕ = c.gather-gathered.result.count in
    let p : NumberedClaims = c.args.end.now in
    let was : NumberedClaims = c.loop-at.end in
    let q : NumberedClaims = c.write_messages.new.end in
    let is = c.in_default.ensures.sent in
    let low = inv.3 in
    let few = c.gather-gathered.ensures.count.1 in
    let bounds = c.gather-gathered.ensures.end in
    let size = c.gather-gathered.ensures.size in (
      wrote_more c.args.records.now c.loop-at.at c.loop-at.count n c.gather-gathered.result.end c.gather-gathered.new.chunk
          p.end.view was.end.view q.end.view few inv.0 c.gather-gathered.ensures.gathers is,
      keeps_on p was q inv.1 c.write_messages.ensures.keeps,
      size ∙ inv.2,
      omega arith,
      bounds.1,
      inv.5,
    )

pub returns-clause-written : goal.returns-clause-written
returns-clause-written g c = λ ms batch.
    let p : End = c.args.end.now.end in
    wrote_all p.many p.capacity c.args.records.now c.loop-at.at c.loop-at.count ms p.view c.loop-at.end.end.view
    c.loop-at-test.false c.loop-at.invariant.0 batch
