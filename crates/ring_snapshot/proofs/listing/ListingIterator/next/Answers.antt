use Rattle.std.proofs.Common.{rules, ◌<◌, ◌∷◌, length, ap, sym, ◌∙◌, arith}
use Rattle.ring_snapshot.{specs.Listing.left_of, proofs.StepLemmas.next_ok, proofs.StepLemmas.next_err}
use Rattle.ring_snapshot.proofs.listing.ListingIterator.next.Goals as goal
use Rattle.ring_snapshot.proofs.listing.ListingIterator.next.Goals.{in-Ok, in-Err}

pub returns-clause-steps : goal.returns-clause-steps
returns-clause-steps g c =
    let old = c.args.self.now in
    let x = c.entry_at-entry.result in
    let size = g.B.Buffer.size in
    let entry = g.B.Buffer.entry old.buffer old.tail in
    let left = left_of size g.B.Buffer.entry in
    let some : 0 < old.most = search rules in
    let before : old.at < old.tail = search rules in
    elim c.match-entry.branch [
      | in-Ok w ↦
          next_ok size entry old.tail old.most old.at x w.in-Ok.record _ _ (some, before) c.entry_at-entry.ensures.entry
          w.in-Ok.is (w.from.ensures ∙ w.length_of.ensures) w.align8.ensures
          ∙ ap (λ s. x ∷ left s) (sym w.self-is)
      | in-Err w ↦
          next_err size entry old.tail old.most old.at x w.in-Err._finding some before c.entry_at-entry.ensures.entry
          w.in-Err.is
          ∙ ap (λ s. x ∷ left s) (sym w.self-is)
    ]

pub returns-clause-goes : goal.returns-clause-goes
returns-clause-goes g c =
    let left = left_of g.B.Buffer.size g.B.Buffer.entry in
    let less : length (left c.match-entry.self) < length (left c.args.self.now) =
    omega (arith, ap length (returns-clause-steps g c)) in
    search (rules, less)
