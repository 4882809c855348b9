use Rattle.std.proofs.Common.{rules, ◌≡◌, ◌-◌, length, FitsSigned, to_z, of_z, arith, sym, ◌∙◌, w32, length-take-le}
use Rattle.std.proofs.lemmas.Int.{to_z-of_z}
use Rattle.ring_words.{specs.Ring.ring, proofs.TakeLemmas.message_of, proofs.BodyLemmas.message_ext}
use Rattle.ring_words.proofs.read.head.show_at_head.Goals as goal

pub slice_bounds-body-end : goal.slice_bounds-body-end
slice_bounds-body-end g c =
    let ok = c.requires.ring.ring in
    let told = message_of (ring c.args.capacity c.args.words.now) ok.history.0 c.args.settled ok ok.history.1
    (c.requires.seen ok.history.0 ok.history.1) c.requires.message in
    omega (arith, told.short, c.requires.room)

pub slice_bounds-body-end-2 : goal.slice_bounds-body-end-2
slice_bounds-body-end-2 g c =
    let ok = c.requires.ring.ring in
    let told = message_of (ring c.args.capacity c.args.words.now) ok.history.0 c.args.settled ok ok.history.1
    (c.requires.seen ok.history.0 ok.history.1) c.requires.message in
    sym (length-take-le (c.args.settled.len - 8) c.args.scratch.now (omega (arith, told.short, c.requires.room)))

pub load_at_head-requires-clause-within : goal.load_at_head-requires-clause-within
load_at_head-requires-clause-within g c =
    let ok = c.requires.ring.ring in
    let told = message_of (ring c.args.capacity c.args.words.now) ok.history.0 c.args.settled ok ok.history.1
    (c.requires.seen ok.history.0 ok.history.1) c.requires.message in
    rw (length-take-le (c.args.settled.len - 8) c.args.scratch.now (omega (arith, told.short, c.requires.room)))
    told.within

pub returns-clause-shown : goal.returns-clause-shown
returns-clause-shown g c =
    let ok = c.requires.ring.ring in
    let told = message_of (ring c.args.capacity c.args.words.now) ok.history.0 c.args.settled ok ok.history.1
    (c.requires.seen ok.history.0 ok.history.1) c.requires.message in
    let len = length-take-le (c.args.settled.len - 8) c.args.scratch.now (omega (arith, told.short, c.requires.room)) in
    let fits : FitsSigned w32 c.args.settled.type_id = search rules in
    let type_id = to_z-of_z w32 c.args.settled.type_id fits in (
      record { type_id = to_z w32 (of_z w32 c.args.settled.type_id); body = c.load_at_head.new.body },
      c.on_message.ensures.step,
      λ claim rest has sees. message_ext claim.message
          (to_z w32 (of_z w32 c.args.settled.type_id)) c.load_at_head.new.body (type_id ∙ sees.type_id)
          (c.load_at_head.ensures claim rest has sees.at_head
          (let l : length claim.message.body ≡ length c.load_at_head.new.body =
          omega (arith, sees.len, len, c.load_at_head.auto.body) in l)),
    )
