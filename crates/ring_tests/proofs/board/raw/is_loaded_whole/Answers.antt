use Rattle.std.proofs.Common.{◌≤◌, ℕ, List, length, take, subst, arith, Bool, length-take-le}
use Rattle.ring_board.{specs.Views.Sat, specs.Bodies.Validated, proofs.BodyLemmas.loaded_whole}
use Rattle.ring_tests.proofs.board.raw.is_loaded_whole.Goals as goal

pub returns-clause-whole : goal.returns-clause-whole
returns-clause-whole c = let raw = c.args.raw.now in let m : Sat = c.load_body.new.self.seat.me in let m' : Sat =
    c.validate.new.self.seat.me in let out : List ℕ = c.load_body.new.out in
    let same = c.load_body.auto.out in let room = c.requires.room in let fits : raw.len ≤ length out = omega arith in
    λ valid. loaded_whole c.args.receiver.now.seat.me m m' raw (take raw.len out)
    (c.load_body.ensures.kept raw c.requires.raw) c.load_body.ensures.gave (c.validate.ensures.right valid)
    (subst (λ (b : Bool). Validated raw b m m') valid c.validate.ensures.validated) (length-take-le raw.len out fits)
