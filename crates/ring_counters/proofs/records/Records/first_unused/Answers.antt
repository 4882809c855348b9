use Rattle.std.proofs.Common.{◌∙◌, arith, sym, lt-ltb, le-ltb}
use Rattle.std.proofs.lemmas.Bool.{cond-true, cond-false}
use Rattle.ring_counters.{specs.Registry.count_of, proofs.KeptLemmas.unused_id-kept}
use Rattle.ring_counters.proofs.ShownLemmas.{shows, shown_size, shown_kept}
use Rattle.ring_counters.proofs.records.Records.first_unused.Goals as goal

pub returns-then-self-len-clause-id : goal.returns-then-self-len-clause-id
returns-then-self-len-clause-id c =
    let s = shows c.self.view_is c.self.invariant in
    let kept = shown_kept s in
    let size = shown_size s in
    sym (unused_id-kept _ _ _ _ kept ∙ cond-true _ _ _
    (lt-ltb c.self.inside.used (count_of c.args.self.now)
    (omega (arith, size, c.self.inside.metadata.ok.0, c.len.ensures))))

pub returns-else-self-len-clause-id : goal.returns-else-self-len-clause-id
returns-else-self-len-clause-id c =
    let s = shows c.self.view_is c.self.invariant in
    let kept = shown_kept s in
    let size = shown_size s in
    sym (unused_id-kept _ _ _ _ kept ∙ cond-false _ _ _
    (le-ltb c.self.inside.used (count_of c.args.self.now)
    (omega (arith, size, c.self.inside.metadata.ok.0, c.len.ensures))))

pub returns-then-self-len-clause-inside : goal.returns-then-self-len-clause-inside
returns-then-self-len-clause-inside c =
    let s = shows c.self.view_is c.self.invariant in
    let size = shown_size s in
    omega (arith, size, c.self.inside.metadata.ok.0, c.len.ensures)
