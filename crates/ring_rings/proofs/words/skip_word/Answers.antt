use Rattle.std.proofs.Common.{ℕ, ◌+◌, ◌*◌, ◌≤◌, ap, ◌∙◌, arith}
use Rattle.ring_layout.specs.Places.{index}
use Rattle.ring_table.specs.{declared.view.View.View, Views.logged}
use Rattle.ring_rings.proofs.{IndexLemmas.index_of_body, ReadingSeats.log_is}
use Rattle.ring_rings.proofs.ReadingCopies.{loads_next, loads_only, word_is}
use Rattle.ring_rings.proofs.words.skip_word.Goals as goal

pub load_body_word-requires-clause-target : goal.load_body_word-requires-clause-target
load_body_word-requires-clause-target c =
    ap (λ (n : ℕ). n + c.args.k) c.requires.first
    ∙ index_of_body c.args.capacity c.args.place c.args.k c.requires.place.2

pub returns-clause-rest : goal.returns-clause-rest
returns-clause-rest c = log_is c.args.seat.now.me.0 _ _ _ c.load_body_word.ensures.view

pub returns-clause-loads : goal.returns-clause-loads
returns-clause-loads c = λ m u last at inside so.
    let load = c.load_body_word.ensures in
    let C : ℕ = c.args.capacity in
    let k : ℕ = c.args.k in
    let v : View = c.args.seat.now.me.0 in
    let p : ℕ = c.args.place + 8 + 8 * k in
    let low : v.consumer.cleared ≤ m.place = omega (arith, c.requires.place.0, at) in
    let is = word_is C p k c.load_body_word.result m u v (loads_only C m k u v so) last
    (c.requires.seat.seat.view_is, low) (omega (arith, at), inside) load.told in
    loads_next C m k c.load_body_word.result u v c.load_body_word.new.consumer.me.0 so is
    (load.view ∙ ap (λ (n : ℕ). logged (index C n) c.load_body_word.result v) (omega (arith, at)))
