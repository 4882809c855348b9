use Rattle.std.proofs.Common.{rules, ◌≡◌, ℕ, ◌+◌, ◌/◌, set, sym, ap, ◌∙◌, arith}
use Rattle.ring_board.specs.{declared.shared.view.Shape.Shape, Records.end_of, Layout.tail_index, Layout.latest_index}
use Rattle.ring_board.specs.Views.{Sat}
use Rattle.ring_board.proofs.OpeningLemmas.{opened_as, capacity_whole, multiple}
use Rattle.ring_board.proofs.board.Board.make.Goals as goal

pub of_words-requires : goal.of_words-requires
of_words-requires c = let h = c.requires.capacity in let s = c.requires.start in let n : ℕ =
    c.args.capacity in let start : ℕ = c.args.start in let vs = c.in_ok-words.words.items in
    opened_as n start h.least h.most (capacity_whole n h) s.0 s.1 vs c.as_slice.result.now (search rules)
    (c.as_slice.ensures.value ∙ ap (λ (j : ℕ). set (set (set vs j start) (tail_index n) start) (latest_index n) start)
    (let e : n / 8 + 0 ≡ n / 8 = omega arith in e))

pub invariant_of-board : goal.invariant_of-board
invariant_of-board c = let h = c.requires.capacity in let t = c.in_ok-table.ensures in let n : ℕ =
    c.args.capacity in let long = c.as_slice.ensures.len in let made = c.in_ok-words.ensures.len in let count =
    t.0 in record {
      key = ap (λ (k : Shape). k.capacity) t.5;
      wide = (
        (let g : c.in_ok-table.table.shared.table_id.words ≡ n / 8 + 16 = omega arith in g),
        t.1,
        (let g : c.in_ok-words.words.len ≡ n / 8 + 16 = omega arith in g),
      );
      lawful = (h.least, h.most, capacity_whole n h);
      power = h.power;
    }

pub invariant_of-transmitter : goal.invariant_of-transmitter
invariant_of-transmitter c = let h = c.requires.capacity in let me = c.in_ok-table.ensures.4 in let whole =
    capacity_whole c.args.capacity h in record {
      idle = (ap (λ (m : Sat). m.0.stage) me, ap (λ (m : Sat). m.1) me);
      ends = (ap (λ (m : Sat). m.0.at) me, sym (ap (λ (m : Sat). end_of m.0.start m.0.sent) me));
      whole = (multiple c.args.capacity c.args.start whole c.requires.start.0, c.requires.start.1);
      held = (ap (λ (m : Sat). m.0.shares) me, omega arith, omega arith);
    }
