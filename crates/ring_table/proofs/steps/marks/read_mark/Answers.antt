use Rattle.std.proofs.Common.{◌≡◌, ℕ, ◌-◌, ◌%◌, sym, ap, ◌∙◌, subst, arith}
use Rattle.ring_table.specs.{ConsumerSteps.LoadsHeader, SlotSteps.with_out, Views.Run, Views.View, Views.with_run}
use Rattle.ring_table.proofs.steps.marks.read_mark.Goals as goal

pub returns-clause-told : goal.returns-clause-told
returns-clause-told c got me bare empty read =
    let t = read.message c.if-mark-scan.false c.if-kind-ne-COMMITTED_KIND.false in
    let kind = c.if-kind-ne-COMMITTED_KIND.false in
    let whole : c.args.mark ≡ c.args.mark - c.args.mark % 8 = omega arith in
    let run : c.args.consumer.now.me.0.consumer.run ≡ record { from = c.args.scan; to = c.args.mark - c.args.mark % 8 } =
    t.1 ∙ λ k. record { from = c.args.scan; to = whole k } in
    let value : c.take_header.result ≡ read.header = c.take_header.ensures.header read.header t.0 in
    let back : c.take_header.new.consumer.me.0 ≡ with_out me.0.out c.args.consumer.now.me.0 =
    c.take_header.ensures.view ∙ ap (λ l. with_out l c.args.consumer.now.me.0) (sym bare) in
    subst (λ (z : Run × ℕ × View). LoadsHeader c.args.capacity c.args.scan got (with_run z.0 me.0) z.1 z.2)
    (λ i. (run i, sym value i, sym back i)) read.loads
