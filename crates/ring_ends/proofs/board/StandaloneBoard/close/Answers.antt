use Rattle.std.proofs.Common.{◌∙◌, ap, subst}
use Rattle.ring_board.specs.{declared.board.Board.Board, declared.shared.view.View.View, Board.transmitted}
use Rattle.ring_board.specs.{Closing.IsClosed, Closing.closed_words, Seats.capacity_of, Seats.start_of, Seats.view_of}
use Rattle.ring_board.specs.Runs.{AreAllRuns}
use Rattle.ring_ends.{specs.Held.held_in, specs.Receivers.all_left, proofs.LeavingLemmas.sent_stays}
use Rattle.ring_ends.proofs.board.StandaloneBoard.close.Goals as goal

pub returns-clause-closed : goal.returns-clause-closed
returns-clause-closed c =
    let old = c.args.self in
    let words = closed_words c.in-Ok.closed in
    let same = ap (λ (v : View). v.sent) c.join_all.ensures.left
    ∙ sent_stays (held_in old.receivers) (view_of old.transmitter) in
    subst (λ (b : Board). IsClosed (capacity_of b) (start_of b) (transmitted old.transmitter) words)
    c.join_all.ensures.board (subst (λ sent. IsClosed (capacity_of c.join_all.new.self.board)
    (start_of c.join_all.new.self.board) sent words) same c.in-Ok.ensures.closed.1)

pub returns-clause-runs : goal.returns-clause-runs
returns-clause-runs c =
    let old = c.args.self in
    let left = c.join_all.ensures.left in
    let same = ap (λ (v : View). v.sent) left ∙ sent_stays (held_in old.receivers) (view_of old.transmitter) in
    subst (λ sent. AreAllRuns sent (all_left (held_in old.receivers) (view_of old.transmitter)).heard) same
    (subst (λ (v : View). AreAllRuns (transmitted c.join_all.new.self.transmitter) v.heard) left c.in-Ok.ensures.runs)
