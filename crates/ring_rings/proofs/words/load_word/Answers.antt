use Rattle.std.proofs.Common.{ℕ, ◌+◌, ◌*◌, ◌≤◌, ap, ◌∙◌, arith}
use Rattle.ring_layout.specs.Places.{index}
use Rattle.ring_table.specs.{declared.view.View.View, Views.logged}
use Rattle.ring_rings.proofs.{IndexLemmas.index_of_body, ReadingSeats.log_is}
use Rattle.ring_rings.proofs.ReadingCopies.{copies_more, loads_only, word_is}
use Rattle.ring_rings.proofs.words.load_word.Goals as goal

pub load_body_word-word-requires-clause-target : goal.load_body_word-word-requires-clause-target
load_body_word-word-requires-clause-target c =
    ap (λ (n : ℕ). n + c.args.k) c.requires.first
    ∙ index_of_body c.args.capacity c.args.place c.args.k c.requires.place.2

pub returns-clause-rest : goal.returns-clause-rest
returns-clause-rest c = log_is c.args.seat.now.me.0 _ _ _ c.load_body_word-word.ensures.view

pub returns-clause-copies : goal.returns-clause-copies
returns-clause-copies c = λ m u last at inside so.
    let load = c.load_body_word-word.ensures in
    let C : ℕ = c.args.capacity in
    let k : ℕ = c.args.k in
    let v : View = c.args.seat.now.me.0 in
    let p : ℕ = c.args.place + 8 + 8 * k in
    let low : v.consumer.cleared ≤ m.place = omega (arith, c.requires.place.0, at) in
    let rest = loads_only C m k u v so.view in
    let is = word_is C p k c.load_body_word-word.result m u v rest last (c.requires.seat.seat.view_is, low)
    (omega (arith, at), inside) load.told in
    copies_more C m k c.load_body_word-word.result u v c.load_body_word-word.new.consumer.me.0 c.args.scratch.now
    c.put_word.new.bytes last.2 c.requires.room so is (
      load.view ∙ ap (λ (n : ℕ). logged (index C n) c.load_body_word-word.result v) (omega (arith, at)),
      c.put_word.ensures,
    )
