use Rattle.std.proofs.Common.{rules, ◌≡◌, ℕ, ℤ, List, ap, sym, subst, refl, inl, inr, w32, to_z, of_z}
use Rattle.std.proofs.lemmas.Int.{to_z-of_z}
use Rattle.ring_layout.specs.declared.message.Message.{Message}
use Rattle.ring_ends.specs.{Claiming.NumberedClaims, End.End}
use Rattle.ring_handles.specs.WritingBatch.{IsBatch, IsNoBatch, WritesSome}
use Rattle.ring_handles.proofs.ProducerLemmas.{side_is}
use Rattle.ring_handles.proofs.writing_batch.write_batch_in.Goals as goal

pub returns-in-Err-clause-code : goal.returns-in-Err-clause-code
returns-in-Err-clause-code g c = λ i.
    let same : to_z w32 (of_z w32 c.in-Err.code) ≡ c.in-Err.code = search (rules, to_z-of_z) in
    let refused = subst (λ (C : ℕ). IsNoBatch C c.args.records.now c.in-Err.code) c.capacity.ensures
    c.in-Err.ensures.refused in
    inr (subst (λ (z : ℤ). IsNoBatch c.args.end.now.end.capacity c.args.records.now z) (sym same) refused, refl, refl)

pub returns-clause-kind : goal.returns-clause-kind
returns-clause-kind g c = ap (λ (e : End). e.many) c.write_chunks.ensures.keeps.1.0

pub returns-clause-code : goal.returns-clause-code
returns-clause-code g c = λ i.
    let p : NumberedClaims = c.args.end.now in
    let q : NumberedClaims = c.write_chunks.new.end in
    let keeps = c.write_chunks.ensures.keeps in
    let tested = c.in_default.ensures.batch in
    let ms : List Message = tested.0 in
    let batch = subst (λ (C : ℕ). IsBatch C c.args.records.now ms) c.capacity.ensures tested.1 in
    let same : to_z w32 (of_z w32 c.write_chunks.result) ≡ c.write_chunks.result = search (rules, to_z-of_z) in
    inl (record {
      messages = ms;
      batch = batch;
      side = side_is i p q p.claims keeps.1.0 keeps.0;
      keeps = keeps.1.1;
      written = subst (λ (z : ℤ). WritesSome p.end.many p.end.capacity ms c.write_chunks.new.written z p.end.view q.end.view)
          (sym same) (c.write_chunks.ensures.written ms batch);
    })
