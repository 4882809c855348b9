use Rattle.std.proofs.Common.{◌≡◌, ◌-◌, ◌++◌, ℕ, List, length, take, drop, sym, ap, ◌∙◌, append_assoc, arith}
use Rattle.std.proofs.lemmas.List.{length-drop, take_rest}
use Rattle.ring_layout.specs.declared.message.Message.{Message}
use Rattle.ring_table.{specs.declared.runs.Outgoing.Outgoing, specs.RunBodies.messages_of, proofs.RunFill.messages_on}
use Rattle.ring_rings.specs.Ring.{sent}
use Rattle.ring_rings.proofs.producer.batch.Ring+K+InSlots.write_batch.Goals as goal

pub loop-written-preserved : goal.loop-written-preserved
loop-written-preserved g c =
    let inv = c.loop-written.invariant in
    let e = c.in-Ok.ensures in
    let os : List Outgoing = c.args.messages.now in
    let a : ℕ = c.loop-written.written in
    let b : ℕ = c.in-Ok.count in
    let old : List Message = sent c.args.producer.now in
    let rest : take (length os - a) (drop a os) ≡ drop a os = take_rest os a in
    let most = e.count.1 in
    let left = ap length rest ∙ length-drop a os in
    let low = inv.2 in
    let was = inv.3 in (
      e.producer,
      e.sent.0 ∙ (λ i. inv.1 i ++ messages_of (take b (rest i)))
          ∙ append_assoc old (messages_of (take a os)) (messages_of (take b (drop a os)))
          ∙ ap (λ l. old ++ l) (sym (messages_on os a b)),
      omega arith,
      record {
        holdings = record {
          claims = λ t h. e.keeps.holdings.claims t (was.holdings.claims t h);
          shares = e.keeps.holdings.shares ∙ was.holdings.shares;
        };
        open_claims = e.keeps.open_claims ∙ was.open_claims;
      },
      inv.4,
      inv.5,
    )
