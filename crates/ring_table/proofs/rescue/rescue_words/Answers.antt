use Rattle.std.proofs.Common.{◌≡◌, ℕ, List, sym, ◌∙◌, subst}
use Rattle.ring_table.specs.{Owners.OwnedHistory, Rescued.KeptWith, Rescued.Rescues, Rule.Kept, Staged.in_words}
use Rattle.ring_table.proofs.RescueLemmas.{left, rescues, shows_left}
use Rattle.ring_table.proofs.rescue.rescue_words.Goals as goal

pub settle_words-unsettled-requires-clause-claims : goal.settle_words-unsettled-requires-clause-claims
settle_words-unsettled-requires-clause-claims c =
    let key = c.requires.left.0 in
    let v = c.requires.left.1 in
    let saved = c.requires.left.2 in
    let final = saved.final in
    let e : final.0.words ≡ c.copy_words.new.words.items = final.2 ∙ sym c.copy_words.ensures in
    let kept : Kept in_words c.args.capacity key.start c.copy_words.new.words.items final.0.views =
    subst (λ (z : ℕ × List ℕ). Kept in_words z.0 key.start z.1 final.0.views)
    (λ i. (c.requires.left.4 i, e i)) final.1.0.0 in (
      left in_words c.args.capacity key.start c.copy_words.new.words.items final.0.views kept saved.id v final.1.1
          saved.consumes saved.rests,
      shows_left in_words c.args.capacity key.start c.copy_words.new.words.items final.0.views kept saved.id v
          final.1.1 saved.consumes saved.rests,
    )

pub returns : goal.returns
returns c = λ key v hist drawn saved had same.
    let final = had.final in
    let C : ℕ = c.args.capacity in
    let words : List ℕ = c.copy_words.new.words.items in
    let e : final.0.words ≡ words = final.2 ∙ sym c.copy_words.ensures in
    let kept : KeptWith in_words C key.start hist drawn words final.0.homes final.0.views =
    subst (λ (z : ℕ × List ℕ). KeptWith in_words z.0 key.start hist drawn z.1 final.0.homes final.0.views) (λ i. (same i, e i))
    final.1.0 in
    let made : List ℕ = c.settle_words-unsettled.new.words.items in
    let claims : ℕ = c.settle_words-unsettled.result.claims in
    let silent : ℕ = c.settle_words-unsettled.result.silent in
    subst (λ (z : OwnedHistory × ℕ). Rescues C key.start v z.0 z.1 made claims silent) (λ i. (kept.1 i, kept.2 i))
    (rescues in_words C key.start words final.0.views kept.0 had.id v final.1.1 saved.consumes saved.rests made claims
    silent
    (sym c.settle_words-unsettled.new.words.ok.0 ∙ c.settle_words-unsettled.ensures.long
    ∙ c.copy_words.new.words.ok.0)
    c.settle_words-unsettled.ensures.trailer
    (c.settle_words-unsettled.ensures.settles _ (shows_left in_words C key.start words final.0.views kept.0 had.id v
    final.1.1 saved.consumes saved.rests)))
