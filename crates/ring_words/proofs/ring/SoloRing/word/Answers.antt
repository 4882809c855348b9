use Rattle.std.proofs.Common.{rules, ◌≡◌, ◌∙◌, ap, sym}
use Rattle.std.proofs.lemmas.Option.{gets}
use Rattle.ring_words.specs.Ring.{Ring}
use Rattle.ring_words.proofs.ring.SoloRing.word.Goals as goal

pub returns : goal.returns
returns c =
    let same : c.deref.result.now ≡ c.args.self.now.words =
    c.deref.ensures.value ∙ ap (λ (r : Ring). r.words) c.self.view_is in
    rw (sym same) (search (rules, gets))
