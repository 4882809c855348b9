use Rattle.std.proofs.Common.{◌≡◌, ℕ, suc, ◌+◌, ◌*◌, ◌/◌, ◌%◌, ◌<◌, List, [], ◌∷◌, ◌++◌, length, sym, ap, ◌∙◌, arith, length-append, w64}
use Rattle.std.{specs.Int.from_le_bytes, proofs.lemmas.List.take_rest}
use Rattle.ring_layout.{proofs.Laps.index_step, specs.Places.index}
use Rattle.ring_board.specs.{declared.shared.view.Draft.Draft, declared.shared.view.Stage.Stage, Records.first_words}
use Rattle.ring_board.specs.{Views.Sat, Views.at_stage, TransmitterSteps.after_words, TransmitterSteps.with_words}
use Rattle.ring_board.proofs.{StoreLemmas.words_long, ByteLemmas.first_words_snoc, CallLemmas.more_words}
use Rattle.ring_board.proofs.board.Board.store_body.Goals as goal

pub store_word-requires-clause-stage : goal.store_word-requires-clause-stage
store_word-requires-clause-stage c = let q = c.requires.stage in let d : Draft = q.0 in let k : ℕ =
    c.loop-k.k in let n : ℕ = c.args.self.now.capacity in let p : ℕ = c.args.place in
    let done : List ℕ = first_words k c.args.body.now in let d' : Draft = with_words d done in let lt =
    c.loop-k-test.true in let ceil = c.div_ceil-k-end.ensures in let lawful = c.args.self.now.lawful in let inside =
    c.requires.inside in
    let none = ap length q.2 in let some_done = words_long k c.args.body.now in let long : length d'.words ≡ k =
    length-append d.words done ∙ omega arith in let there = q.3 in let ends = q.4 in
    let on = index_step n p (k + 1) (omega arith) c.requires.place.0 (omega arith) in let first =
    c.index-first.ensures.0 in (
      d',
      ap (λ (m : Sat). m.0.stage) c.loop-k.invariant.me ∙ ap (λ (st : Stage). after_words st done) q.1,
      (let g : c.index-first.result + 1 + k ≡ p % n / 8 + (k + 1) = omega arith in g)
          ∙ (sym on ∙ ap (index n) (let g : p + 8 * (k + 1) ≡ d'.place + 8 + 8 * length d'.words = omega arith in g)),
      (let g : d'.place + 8 + 8 * length d'.words < d'.end = omega arith in g),
    )

pub loop-k-preserved : goal.loop-k-preserved
loop-k-preserved c = let st0 : Stage = c.args.seat.now.me.0.stage in let q = c.requires.stage in let k : ℕ =
    c.loop-k.k in let w : ℕ = c.first_word.result in let done : List ℕ = first_words k c.args.body.now in record {
      table = c.store_word.ensures.same.0 ∙ c.loop-k.invariant.table;
      id = c.store_word.ensures.same.1 ∙ c.loop-k.invariant.id;
      me = c.store_word.ensures.put
          ∙ (ap (λ (m : Sat). (at_stage m.0 (after_words m.0.stage (w ∷ [])), m.1)) c.loop-k.invariant.me
          ∙ ap (λ (st : Stage). (at_stage c.args.seat.now.me.0 st, c.args.seat.now.me.1))
          (more_words st0 q.0 done (w ∷ []) q.1 ∙ ap (after_words st0)
          (ap (λ (x : ℕ). done ++ x ∷ []) c.first_word.ensures
          ∙ (ap (λ (l : List ℕ). done ++ from_le_bytes w64 l ∷ []) (take_rest c.args.body.now (8 * k))
          ∙ (sym (first_words_snoc k c.args.body.now)
          ∙ ap (λ (m : ℕ). first_words m c.args.body.now) (let g : suc k ≡ k + 1 = omega arith in g))))));
    }
