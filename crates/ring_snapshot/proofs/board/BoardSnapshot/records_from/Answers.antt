use Rattle.std.proofs.Common.{◌≡◌, ◌-◌, ◌/◌, ap, sym, ◌∙◌, ⊎_elim, arith, true, false, eq-eqb, le-leb}
use Rattle.ring_snapshot.specs.BoardRecords.{intent_in, latest_in, listing}
use Rattle.ring_snapshot.proofs.ClosedLemmas.{never_refused, closed_listing, begins_whole, begins_low, at_rest}
use Rattle.ring_snapshot.proofs.board.BoardSnapshot.records_from.Goals as goal
use Rattle.ring_snapshot.proofs.board.BoardSnapshot.records_from.Goals.{then-position-latest, else-position-latest, then-position-ne0-via-then-position-ne0, then-position-ne0-via-else-position-ne0+then-not-begins, then-position-ne0-via-else-position-ne0+else-not-begins+then-intent-position}

pub returns-clause-listed : goal.returns-clause-listed
returns-clause-listed c =
    let b = c.args.self.now in
    let from = c.args.position in
    c.new.ensures
    ∙ ap (λ t. listing b.capacity b.words.now (intent_in b) (latest_in b) t ((t - from) / 8) from) c.tail-tail.ensures

pub returns-in_err-check_positions-clause-exact : goal.returns-in_err-check_positions-clause-exact
returns-in_err-check_positions-clause-exact c = λ sent h begins near.
    let b = c.args.self.now in
    absurd (never_refused b.capacity b.lawful b.words.now sent h _ _ _ c.intent-intent.ensures c.tail-tail.ensures
    c.latest-latest.ensures c.in_err-check_positions.field-0.0 c.in_err-check_positions.ensures)

pub returns-then-position-ne0-clause-exact : goal.returns-then-position-ne0-clause-exact
returns-then-position-ne0-clause-exact c = λ sent h begins near.
    let b = c.args.self.now in
    let p = c.args.position in
    let w8 = begins_whole b.capacity b.lawful b.words.now sent h p begins in
    let low = begins_low b.capacity b.lawful b.words.now sent h p begins in
    let rest = at_rest b.capacity b.lawful b.words.now sent h in
    let it = c.intent-intent.ensures in
    let tl = c.tail-tail.ensures in
    let la = c.latest-latest.ensures in
    absurd (elim c.then-position-ne0.branch as (λ _. ⊥) [
      | then-position-ne0-via-then-position-ne0 w ↦ omega (arith, w8, w.if-position-ne0.true)
      | then-position-ne0-via-else-position-ne0+then-not-begins w ↦ elim c.if-position-latest.branch as (λ _. ⊥) [
        | then-position-latest v ↦
            let clash : false ≡ true = sym w.if-not-begins.true ∙ v.begins-is
            ∙ le-leb p c.latest-latest.result v.if-position-latest.true in absurd cc
        | else-position-latest v ↦
            let far = v.if-position-latest.false in
            let at : p ≡ c.tail-tail.result =
            ⊎_elim (λ le. absurd (omega (arith, far, le, la))) (λ e. e ∙ sym tl) low in
            let clash : false ≡ true = sym w.if-not-begins.true ∙ v.begins-is ∙ eq-eqb p c.tail-tail.result at in
            absurd cc
      ]
      | then-position-ne0-via-else-position-ne0+else-not-begins+then-intent-position w ↦
          omega (arith, w.if-intent-position.true, w.from.ensures, it, tl, rest, near)
    ])

pub returns-clause-exact : goal.returns-clause-exact
returns-clause-exact c = λ sent h begins near.
    let b = c.args.self.now in
    returns-clause-listed c ∙ closed_listing b.capacity b.lawful b.words.now sent h c.args.position begins near
