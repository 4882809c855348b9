use Rattle.std.proofs.Common.{◌≡◌, ℕ, ◌+◌, ◌-◌, ◌*◌, ◌/◌, ◌<◌, List, [], ◌∷◌, ◌++◌, length, take, subst, sym, ap, ◌∙◌, arith, take_all}
use Rattle.ring_table.specs.{declared.claim.StagedClaim.StagedClaim, declared.view.View.View, Views.with_claims}
use Rattle.ring_table.specs.Seats.{IsSameSeat}
use Rattle.ring_rings.specs.Bodies.{put_at}
use Rattle.ring_rings.proofs.BodyLemmas.{keeps_next, stores_next, takes_next}
use Rattle.ring_rings.proofs.{IndexLemmas.index_of_body, ReadingSeats.same_more, ReadingSeats.same_none}
use Rattle.ring_rings.proofs.words.store_body.Goals as goal
use Rattle.ring_rings.proofs.words.store_body.Goals.{then-word-ne0, else-word-ne0}

pub loop-k-init : goal.loop-k-init
loop-k-init c = record {
  seat = same_none c.args.seat.now;
  stored = λ cs d f. ap (λ (l : List StagedClaim). with_claims l c.args.seat.now.me.0) f.last.claims;
}

pub store_body_word-requires-clause-target : goal.store_body_word-requires-clause-target
store_body_word-requires-clause-target c =
    ap (λ (n : ℕ). n + 1 + c.loop-k.k) c.word_index-first.ensures
    ∙ index_of_body c.args.capacity c.args.place c.loop-k.k (omega (arith, c.loop-k-test.true, c.requires.inside))

pub store_body_word-requires-clause-claim : goal.store_body_word-requires-clause-claim
store_body_word-requires-clause-claim c =
    let f = c.requires.fresh in
    let k : ℕ = c.loop-k.k in
    takes_next c.args.seat.now.me.0 c.loop-k.seat.me.0 c.args.place c.args.body.now (λ j. omega (arith, c.type_inv.body j))
    f.0 f.1 f.2 k (omega (arith, c.loop-k-test.true)) (8 * k + 8 - 8 * k) (omega arith) c.first_word-word.result
    c.first_word-word.ensures (c.loop-k.invariant.stored f.0 f.1 f.2)

pub loop-k-preserved : goal.loop-k-preserved
loop-k-preserved c = record {
  seat = elim c.if-word-ne0.branch [
    | then-word-ne0 w ↦
        subst (λ s. IsSameSeat c.args.seat.now s) (sym w.seat-is)
        (same_more _ _ _ c.loop-k.invariant.seat w.store_body_word.ensures.seat)
    | else-word-ne0 w ↦ subst (λ s. IsSameSeat c.args.seat.now s) (sym w.seat-is) c.loop-k.invariant.seat
  ];
  stored = λ cs d f.
      let v0 : View = c.args.seat.now.me.0 in
      let k : ℕ = c.loop-k.k in
      let before = c.loop-k.invariant.stored cs d f in
      let inside : 8 * k < length c.args.body.now = omega (arith, c.loop-k-test.true) in
      elim c.if-word-ne0.branch [
        | then-word-ne0 w ↦
            ap (λ s. s.me.0) w.seat-is
            ∙ stores_next v0 c.loop-k.seat.me.0 c.args.place c.args.body.now (λ j. omega (arith, c.type_inv.body j)) cs d
            f k inside (8 * k + 8 - 8 * k) (omega arith) c.first_word-word.result c.first_word-word.ensures before
            w.store_body_word.new.producer.me.0 w.store_body_word.ensures.view
        | else-word-ne0 w ↦
            ap (λ s. s.me.0) w.seat-is
            ∙ keeps_next v0 c.loop-k.seat.me.0 c.args.place c.args.body.now (λ j. omega (arith, c.type_inv.body j)) cs d
            f k inside (8 * k + 8 - 8 * k) (omega arith) c.first_word-word.result c.first_word-word.ensures before
            (omega (arith, w.if-word-ne0.false))
      ];
}

pub store_body_word-requires-then-word-ne0-2-clause-target :
    goal.store_body_word-requires-then-word-ne0-2-clause-target
store_body_word-requires-then-word-ne0-2-clause-target c =
    let k : ℕ = length c.args.body.now / 8 in
    ap (λ (n : ℕ). n + 1 + k) c.word_index-first.ensures
    ∙ index_of_body c.args.capacity c.args.place k (omega (arith, c.if-whole-body.true, c.requires.inside))

pub store_body_word-requires-then-word-ne0-2-clause-claim : goal.store_body_word-requires-then-word-ne0-2-clause-claim
store_body_word-requires-then-word-ne0-2-clause-claim c =
    let f = c.requires.fresh in
    let body : List ℕ = c.args.body.now in
    let v0 : View = c.args.seat.now.me.0 in
    let v : View = c.loop-k.seat.me.0 in
    let k : ℕ = length body / 8 in
    let all : c.loop-k.k ≡ k = omega (arith, c.loop-k-test.false, c.loop-k.auto.k-end) in
    let before = subst (λ (n : ℕ). v ≡ with_claims (f.0 ++ put_at 0 (take (8 * n) body) f.1 ∷ []) v0) all
    (c.loop-k.invariant.stored f.0 f.1 f.2) in
    takes_next v0 v c.args.place body (λ j. omega (arith, c.type_inv.body j)) f.0 f.1 f.2 k c.if-whole-body.true
    (length body - 8 * k) (omega arith) c.first_word-word-then-whole-body.result
    c.first_word-word-then-whole-body.ensures before

pub returns-then-word-ne0-2-clause-stored : goal.returns-then-word-ne0-2-clause-stored
returns-then-word-ne0-2-clause-stored c cs d f =
    let body : List ℕ = c.args.body.now in
    let v0 : View = c.args.seat.now.me.0 in
    let v : View = c.loop-k.seat.me.0 in
    let k : ℕ = length body / 8 in
    let all : c.loop-k.k ≡ k = omega (arith, c.loop-k-test.false, c.loop-k.auto.k-end) in
    let before = subst (λ (n : ℕ). v ≡ with_claims (cs ++ put_at 0 (take (8 * n) body) d ∷ []) v0) all
    (c.loop-k.invariant.stored cs d f) in
    stores_next v0 v c.args.place body (λ j. omega (arith, c.type_inv.body j)) cs d f k c.if-whole-body.true
    (length body - 8 * k) (omega arith) c.first_word-word-then-whole-body.result
    c.first_word-word-then-whole-body.ensures before c.store_body_word-then-word-ne0-2.new.producer.me.0
    c.store_body_word-then-word-ne0-2.ensures.view
    ∙ ap (λ (l : List ℕ). with_claims (cs ++ put_at 0 l d ∷ []) v0) (take_all (8 * (k + 1)) body (omega arith))

pub returns-else-word-ne0-2-clause-stored : goal.returns-else-word-ne0-2-clause-stored
returns-else-word-ne0-2-clause-stored c cs d f =
    let body : List ℕ = c.args.body.now in
    let v0 : View = c.args.seat.now.me.0 in
    let v : View = c.loop-k.seat.me.0 in
    let k : ℕ = length body / 8 in
    let all : c.loop-k.k ≡ k = omega (arith, c.loop-k-test.false, c.loop-k.auto.k-end) in
    let before = subst (λ (n : ℕ). v ≡ with_claims (cs ++ put_at 0 (take (8 * n) body) d ∷ []) v0) all
    (c.loop-k.invariant.stored cs d f) in
    keeps_next v0 v c.args.place body (λ j. omega (arith, c.type_inv.body j)) cs d f k c.if-whole-body.true
    (length body - 8 * k) (omega arith) c.first_word-word-then-whole-body.result
    c.first_word-word-then-whole-body.ensures before (omega (arith, c.if-word-ne0-2.false))
    ∙ ap (λ (l : List ℕ). with_claims (cs ++ put_at 0 l d ∷ []) v0) (take_all (8 * (k + 1)) body (omega arith))

pub returns-else-whole-body-clause-stored : goal.returns-else-whole-body-clause-stored
returns-else-whole-body-clause-stored c = λ cs d f.
    c.loop-k.invariant.stored cs d f
    ∙ ap (λ (l : List ℕ). with_claims (cs ++ put_at 0 l d ∷ []) c.args.seat.now.me.0)
    (take_all (8 * c.loop-k.k) c.args.body.now (omega (arith, c.loop-k-test.false, c.if-whole-body.false)))
