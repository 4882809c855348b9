use Rattle.std.proofs.Common.{rules, ◌≡◌, ℕ, ◌+◌, ◌-◌, ◌/◌, ◌%◌, sym, ap, ◌∙◌, arith, le-leb}
use Rattle.std.proofs.lemmas.Bool.{cond-true, cond-false}
use Rattle.ring_snapshot.specs.BoardRecords.{intent_in, latest_in, lap_of, first_whole, listing, listed_from}
use Rattle.ring_snapshot.proofs.ClosedLemmas.{never_refused, closed_listing, at_rest, lap_near, lap_begins}
use Rattle.ring_board.proofs.OpeningLemmas.{capacity_whole}
use Rattle.ring_layout.proofs.Laps.{mod_aligned}
use Rattle.ring_snapshot.proofs.board.BoardSnapshot.records.Goals as goal
use Rattle.ring_snapshot.proofs.board.BoardSnapshot.records.Goals.{then-whole, else-whole}

pub new-requires-clause-aligned : goal.new-requires-clause-aligned
new-requires-clause-aligned c =
    let board = c.args.self.now in
    let C = board.capacity in
    let latest = c.latest-latest.result in
    let tail8 : c.tail-tail.result % 8 ≡ 0 = search rules in
    let latest8 : latest % 8 ≡ 0 = search rules in
    let rest8 : latest % C % 8 ≡ 0 = mod_aligned C latest (omega (arith, capacity_whole C board.lawful)) latest8 in
    elim c.if-whole.branch as (λ _. (c.if-whole.first % 8 ≡ 0) × (c.tail-tail.result % 8 ≡ 0)) [
      | then-whole w ↦ (omega (arith, w.first-is, c.byte_index.ensures, rest8, latest8), tail8)
      | else-whole w ↦ (omega (arith, w.first-is, latest8), tail8)
    ]

pub returns-in_err-check_positions-clause-exact : goal.returns-in_err-check_positions-clause-exact
returns-in_err-check_positions-clause-exact c = λ sent h.
    let b = c.args.self.now in
    absurd (never_refused b.capacity b.lawful b.words.now sent h _ _ _ c.intent-intent.ensures c.tail-tail.ensures
    c.latest-latest.ensures c.in_err-check_positions.field-0.0 c.in_err-check_positions.ensures)

pub returns-clause-listed : goal.returns-clause-listed
returns-clause-listed c =
    let b = c.args.self.now in
    let C = b.capacity in
    let la = c.latest-latest.ensures in
    let bi = c.byte_index.ensures in
    let m : c.latest-latest.result % C ≡ latest_in b % C = ap (λ x. x % C) la in
    let is = c.is_lap_whole-whole.ensures in
    let first : c.if-whole.first ≡ first_whole C (intent_in b) (latest_in b) =
    elim c.if-whole.branch as (λ _. c.if-whole.first ≡ first_whole C (intent_in b) (latest_in b)) [
      | then-whole w ↦ (let e : c.if-whole.first ≡ lap_of C (latest_in b) = omega (arith, w.first-is, bi, la, m) in e)
          ∙ sym (cond-true _ _ _ (sym is ∙ w.if-whole.true))
      | else-whole w ↦ (w.first-is ∙ la) ∙ sym (cond-false _ _ _ (sym is ∙ w.if-whole.false))
    ] in
    c.new.ensures
    ∙ (λ i. let t = c.tail-tail.ensures i in
    listing C b.words.now (intent_in b) (latest_in b) t ((t - first i) / 8) (first i))

pub returns-clause-exact : goal.returns-clause-exact
returns-clause-exact c = λ sent h.
    let b = c.args.self.now in
    let C = b.capacity in
    let rest = at_rest C b.lawful b.words.now sent h in
    let near = lap_near C b.lawful b.words.now sent h in
    let L : ℕ = lap_of C (latest_in b) in
    returns-clause-listed c
    ∙ ap (listed_from b) (cond-true _ _ _ (le-leb (intent_in b) (L + C) (omega (arith, rest, near))))
    ∙ closed_listing C b.lawful b.words.now sent h L (lap_begins C b.lawful b.words.now sent h) near
