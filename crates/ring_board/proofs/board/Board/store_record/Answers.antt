use Rattle.std.proofs.Common.{ℕ, ◌+◌, ◌%◌, pos, List, [], length, refl, ap, ◌∙◌, arith, w32}
use Rattle.std.proofs.lemmas.Int.{to_z-of_z}
use Rattle.ring_layout.specs.{Headers.header, declared.message.Message.Message, History.span}
use Rattle.ring_layout.proofs.PlaceLemmas.{next_aligned, next_within, span_bounds}
use Rattle.ring_board.specs.declared.shared.view.{Draft.Draft, Record.Record, Stage.TheVariants.Written}
use Rattle.ring_board.specs.{Records.words_of_body, Views.Sat, Views.at_stage}
use Rattle.ring_board.specs.TransmitterSteps.{draft, with_words, after_words, after_header}
use Rattle.ring_board.proofs.{TransmitLemmas.written_as, CallLemmas.lawful_message}
use Rattle.ring_board.proofs.board.Board.store_record.Goals as goal

pub store_body-requires-clause-place : goal.store_body-requires-clause-place
store_body-requires-clause-place c = let lawful = c.args.self.now.lawful in let n : ℕ = c.args.self.now.capacity in (
  ap (λ (p : ℕ). p % 8) c.requires.place ∙ next_aligned n c.args.tail (span (length c.args.body.now)) (omega arith)
      (omega arith) c.requires.whole.0,
  c.requires.whole.1,
)

pub store_body-requires-clause-inside : goal.store_body-requires-clause-inside
store_body-requires-clause-inside c = let lawful = c.args.self.now.lawful in let n : ℕ =
    c.args.self.now.capacity in let a : ℕ = span (length c.args.body.now) in let b =
    span_bounds (length c.args.body.now) in
    let high = b.2 in let short = c.requires.lawful.1 in let w =
    next_within n c.args.tail a (omega arith) (omega arith) in let m =
    ap (λ (p : ℕ). p % n) c.requires.place in omega arith

pub store_header-requires-clause-stage : goal.store_header-requires-clause-stage
store_header-requires-clause-stage c = let body : List ℕ = c.args.body.now in let d : Draft =
    draft c.args.tail c.args.place (c.args.place + span (length body)) [] in (
      with_words d (words_of_body body),
      record { type_id = c.args.type_id; body = body },
      ap (λ (m : Sat). m.0.stage) c.store_body.ensures.put
          ∙ ap (λ (m : Sat). after_words m.0.stage (words_of_body body))
          (c.store_gap.ensures.padded (c.args.place + span (length body)) c.requires.stage),
      refl,
      lawful_message c.args.self.now.capacity c.args.type_id body c.requires.lawful.0 c.ranges.type_id
          c.requires.lawful.1
          (λ i _. (c.type_inv.body i).fits),
      refl,
      refl,
      c.committed_header-header.ensures ∙ ap (header (pos (8 + length body)))
          (to_z-of_z w32 c.args.type_id c.ranges.type_id),
    )

pub returns-clause-written : goal.returns-clause-written
returns-clause-written c = let body : List ℕ = c.args.body.now in let n : ℕ = c.args.self.now.capacity in let z : ℕ =
    c.args.place + span (length body) in let d : Draft = draft c.args.tail c.args.place z [] in
    let m : Message = record { type_id = c.args.type_id; body = body } in let w : ℕ =
    c.committed_header-header.result in let d' : Draft = with_words d (words_of_body body) in
    let lawful = lawful_message n c.args.type_id body c.requires.lawful.0 c.ranges.type_id c.requires.lawful.1
    (λ i _. (c.type_inv.body i).fits) in
    let F : ℕ → Record = λ (p : ℕ). record { before = c.args.tail; place = p; message = m } in
    c.store_header.ensures.written
    ∙ (ap (λ (x : Sat). (at_stage x.0 (after_header x.0.stage w), x.1))
    (c.store_body.ensures.put ∙ ap (λ (x : Sat). (at_stage x.0 (after_words x.0.stage (words_of_body body)), x.1))
    (c.store_gap.ensures.padded z c.requires.stage))
    ∙ ap (λ (r : Record). (at_stage c.args.seat.now.me.0 (Written r), c.args.seat.now.me.1))
    (written_as n d' m w c.args.self.now.lawful.1 lawful refl
    (c.committed_header-header.ensures ∙ ap (header (pos (8 + length body)))
    (to_z-of_z w32 c.args.type_id c.ranges.type_id)) ∙ ap F c.requires.place))
