use Rattle.std.proofs.Common.{◌≡◌, ℕ, ◌+◌, ◌-◌, ◌*◌, ◌/◌, ◌%◌, ◌≤◌, List, [], ◌++◌, length, take, drop, refl, sym, ap, ◌∙◌, append_assoc, arith, append-nil, length-drop, length-take-le}
use Rattle.ring_table.specs.{declared.claim.StagedClaim.StagedClaim, declared.view.View.View, Views.with_claims}
use Rattle.ring_table.specs.{Changes.changed, Changes.with_body_word, Staged.AreRising}
use Rattle.ring_table.specs.ProducerSteps.{HasClaimAt, IsWordOfBody, with_changed}
use Rattle.ring_rings.specs.Bodies.{loaded, put_at}
use Rattle.ring_rings.proofs.BodyLemmas.{turn_stores, turn_takes}
use Rattle.ring_rings.proofs.{MergeLemmas.merged, MergeLemmas.overwritten_nothing, PutLemmas.changed_same}
use Rattle.ring_rings.proofs.words.InWordsBodies.put_bytes.Goals.{After-merged_word-word}
use Rattle.ring_rings.proofs.words.InWordsBodies.put_bytes.Goals as goal

pub loop-done-init : goal.loop-done-init
loop-done-init c =
    let v0 : View = c.args.seat.now.me.0 in
    let same = changed_same c.args.place (put_at c.args.offset []) v0.producer.claims
    (λ d. ap (λ (b : List ℕ). record {
      from = d.from;
      place = d.place;
      message =
          record { type_id = d.message.type_id; body = b };
      stage = d.stage;
    })
    (overwritten_nothing c.args.offset d.message.body)) in
    record {
      most = omega arith;
      seat = record { table = refl; id = refl; slots = refl; capacity = refl; out = refl };
      loads = [];
      view = sym (ap (λ (l : List StagedClaim). with_claims l (loaded [] v0)) same
          ∙ ap (λ (l : List (ℕ × ℕ)). record v0 { log = l }) (append-nil v0.log));
    }

-- The word of one turn may be stored, and with it the bytes of one chunk more are put. The claim is that of the seat
-- before the loop, with the loads so far
turn : (c : After-merged_word-word) → let base : View =
    loaded c.merged_word-word.ensures.view.0 (loaded c.loop-done.invariant.loads c.args.seat.now.me.0) in let at : ℕ =
    8 * ((c.args.offset + c.loop-done.done) / 8) in
    HasClaimAt c.merged_word-word.new.seat.me.0 c.args.place (IsWordOfBody at c.merged_word-word.result)
    × ((w : View) → w ≡ with_changed c.args.place
    (with_body_word at c.merged_word-word.result) c.merged_word-word.new.seat.me.0
    → AreRising c.merged_word-word.new.seat.me.0.producer.claims
    → w ≡ with_changed c.args.place (put_at c.args.offset
    (take (c.loop-done.done + c.min-count.result) c.args.bytes.now)) base)
turn c =
    let h = c.requires.claim in
    let inv = c.loop-done.invariant in
    let mw = c.merged_word-word.ensures in
    let v0 : View = c.args.seat.now.me.0 in
    let base : View = loaded mw.view.0 (loaded inv.loads v0) in
    let done : ℕ = c.loop-done.done in
    let count : ℕ = c.min-count.result in
    let k : ℕ = (c.args.offset + done) / 8 in
    let bytes : List ℕ = c.args.bytes.now in
    let b0 : List ℕ = h.claim.message.body in
    let chunk : List ℕ = take (done + count - done) (drop done bytes) in
    let lt = c.loop-done-test.true in
    let least = c.min-count.ensures in
    let most = inv.most in
    let short = c.requires.short in
    let room : c.args.offset + length bytes ≤ length b0 = omega (arith, h.holds.len_is, short.0) in
    let few : c.args.offset + length bytes ≤ c.args.capacity = omega (arith, short) in
    let left : length (drop done bytes) ≡ length bytes - done = length-drop done bytes in
    let counted : done + count - done ≡ count = omega arith in
    let is : chunk ≡ take count (drop done bytes) = ap (λ n. take n (drop done bytes)) counted in
    let size : length chunk ≡ count = ap length is ∙ length-take-le count (drop done bytes) (omega arith) in
    let front : length (take (done + count) bytes) ≡ done + count = length-take-le (done + count) bytes (omega arith) in
    let before : c.merged_word-word.new.seat.me.0
    ≡ with_claims (changed c.args.place (put_at c.args.offset (take done bytes)) base.producer.claims) base =
    mw.view.1 ∙ ap (loaded mw.view.0) inv.view in
    let claims = ap (λ (u : View). u.producer.claims) inv.view in
    let cap = inv.seat.capacity ∙ c.requires.seat.view_is in
    let m = merged c.args.capacity c.args.place c.args.offset done count k
    ((c.args.offset + done) % 8) h.nth v0 c.loop-done.seat.me.0 h.claim h.there h.at_place h.holds.stage bytes chunk
    claims cap (omega arith) (omega arith) (omega arith) size is c.merged_word-word.result mw.word in (
      turn_takes h.claim h.holds.stage c.args.offset done (done + count) k bytes
          (omega arith) (omega arith) (omega arith) (omega arith) (omega arith) (omega arith) m.1
          c.merged_word-word.result m.0 base c.merged_word-word.new.seat.me.0 c.args.place h.nth h.there h.at_place
          before,
      turn_stores h.claim h.holds.stage c.args.offset done (done + count) k bytes
          (omega arith) (omega arith) (omega arith) (omega arith) (omega arith) (omega arith) m.1
          c.merged_word-word.result m.0 base c.merged_word-word.new.seat.me.0 c.args.place h.nth h.there h.at_place
          before,
    )

pub store_body_word-requires-clause-claim : goal.store_body_word-requires-clause-claim
store_body_word-requires-clause-claim c =
    (turn (goal.at.store_body_word-requires-clause-claim c).After-merged_word-word).0

pub loop-done-preserved : goal.loop-done-preserved
loop-done-preserved c =
    let inv = c.loop-done.invariant in
    let mw = c.merged_word-word.ensures in
    let v0 : View = c.args.seat.now.me.0 in
    let count : ℕ = c.min-count.result in
    let was = inv.seat in
    let e = c.store_body_word.ensures in
    let r = mw.seat in
    let joined : loaded mw.view.0 (loaded inv.loads v0) ≡ loaded (inv.loads ++ mw.view.0) v0 =
    ap (λ (l : List (ℕ × ℕ)). record v0 { log = l }) (append_assoc v0.log inv.loads mw.view.0) in
    record {
      most = omega arith;
      seat = record {
        table = e.seat.table ∙ r.table ∙ was.table;
        id = e.seat.id ∙ r.id ∙ was.id;
        slots = e.seat.slots
            ∙ r.slots ∙ was.slots;
        out = e.seat.out ∙ r.out ∙ was.out;
        capacity = e.seat.capacity ∙ r.capacity ∙ was.capacity;
      };
      loads = inv.loads ++ mw.view.0;
      view = (turn (goal.at.loop-done-preserved c).After-merged_word-word).1 c.store_body_word.new.producer.me.0 e.view
          e.rising
          ∙ ap (with_claims
          (changed c.args.place (put_at c.args.offset (take (c.loop-done.done + count) c.args.bytes.now))
          v0.producer.claims)) joined;
    }
