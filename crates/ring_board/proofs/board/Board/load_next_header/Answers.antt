use Rattle.std.proofs.Common.{◌≡◌, ℕ, ◌+◌, ◌<◌, ◌≤◌, true, ap, sym, ◌∙◌, arith, leb-false}
use Rattle.ring_board.specs.Records.{announced, is_padding}
use Rattle.ring_layout.specs.Places.{index, max_position}
use Rattle.ring_board.proofs.FoundLemmas.{padding_loads, padded_as, padding_seen, padding_low, near_behind, heard_sure}
use Rattle.ring_board.proofs.board.Board.load_next_header.Goals as goal

pub returns-clause-near : goal.returns-clause-near
returns-clause-near c = let m = c.args.seat.now.me in let w : ℕ = c.load_header-header.result in let t : ℕ =
    c.load_tail-tail.result in let x : ℕ = c.load_intent-intent.result in let n : ℕ =
    c.args.self.now.capacity in let p : ℕ = c.args.place in
    let at = c.requires.stage.1 in let size = c.requires.stage.2 in let f = c.if-tail-place.false in let test =
    leb-false (p + n) x (sym c.is_lapped.ensures ∙ c.if-is_lapped.false) in let below : x < m.0.at + m.0.capacity =
    omega arith in
    let pads : is_padding w ≡ true = sym c.is_padding.ensures
    ∙ c.if-not-is_padding.false in let behind : ℕ = p + c.announced.result in let far = c.announced.ensures.0 in
    let one = heard_sure m _ _ t (index n p) w c.load_tail-tail.ensures.seen.0 c.load_header-header.ensures.heard
    (omega arith) in
    let low = padding_low m _ _ t (index n p) w x c.load_tail-tail.ensures.seen.0 one
    c.load_intent-intent.ensures.seen.1 below pads in
    near_behind m _ _ (padding_loads m.0 t (index n p) w x) (index n behind) w c.load_header.result behind
    (padded_as m _ _ _ t (index n p) w x c.load_tail-tail.ensures.seen.0 one c.load_intent-intent.ensures.seen.0
    (omega arith, below) pads)
    c.load_header.ensures.heard (let g : m.0.at + announced w ≡ behind = omega arith in g)
    (padding_seen m.0 n p t w x behind size at pads (ap (λ (y : ℕ). p + y) far))
    (let g : behind ≤ max_position = omega arith in g)
