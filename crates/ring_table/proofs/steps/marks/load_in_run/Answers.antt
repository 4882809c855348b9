use Rattle.std.proofs.Common.{◌≡◌, ℕ, refl, sym, ap, ◌∙◌, subst, arith}
use Rattle.ring_table.specs.{ConsumerSteps.LoadsHeader, SlotSteps.with_out, Views.Run, Views.View, Views.with_run}
use Rattle.ring_table.{specs.Marks.LoadsInRun, proofs.ReadMarks.reads_inner, proofs.SlotCalls.mark_step}
use Rattle.ring_table.proofs.steps.marks.load_in_run.Goals.{After-load}
use Rattle.ring_table.proofs.steps.marks.load_in_run.Goals as goal

pub load-requires : goal.load-requires
load-requires c =
    let s = c.requires.seat in
    let scan = c.requires.scan in
    let run = c.requires.run in
    let more = c.requires.more in
    let to = ap (λ (z : Run). z.to) run in
    mark_step s.table_is s.words_are s.key_is s.lawful _ c.args.run.from _ c.word_index.ensures refl (λ n. n)
    (λ _ _ me'. LoadsInRun c.args.consumer.now.me.0.capacity c.args.consumer.now.me.0.consumer.scan
    c.args.consumer.now.me.0.consumer.got c.args.consumer.now.me me')
    (reads_inner c.args.capacity c.args.ring.now.key.start _ _ c.args.consumer.now.me _ s.view_is c.requires.consumes s.home
    s.none (omega arith))

shows : (c : After-load) → LoadsInRun c.args.capacity c.args.scan c.args.consumer.now.me.0.consumer.got
    c.args.consumer.now.me c.load.new.seat.me
shows c = subst (λ (z : ℕ × ℕ). LoadsInRun z.0 z.1 c.args.consumer.now.me.0.consumer.got c.args.consumer.now.me
    c.load.new.seat.me) (λ i. (c.requires.seat.view_is i, c.requires.scan i)) c.load.ensures.2

pub take_header-requires-clause-taken : goal.take_header-requires-clause-taken
take_header-requires-clause-taken c =
    let t = shows (goal.at.take_header-requires-clause-taken c).After-load in (t.header, t.message)

pub returns-clause-told : goal.returns-clause-told
returns-clause-told c =
    let t = shows (goal.at.returns-clause-told c).After-load in
    let home = c.requires.seat.home in
    let value : c.take_header.result ≡ t.header = c.take_header.ensures.header t.header t.message in
    let back : c.take_header.new.consumer.me.0 ≡ with_out c.args.consumer.now.me.0.out c.load.new.seat.me.0 =
    c.take_header.ensures.view ∙ ap (λ l. with_out l c.load.new.seat.me.0) (sym home) in
    let run = t.run ∙ c.requires.run in
    subst (λ (z : Run × ℕ × View). LoadsHeader c.args.capacity c.args.scan c.args.consumer.now.me.0.consumer.got
    (with_run z.0 c.args.consumer.now.me.0) z.1 z.2) (λ i. (run i, sym value i, sym back i)) t.loads

pub returns-clause-seat : goal.returns-clause-seat
returns-clause-seat c =
    let e = c.load.ensures in
    let r = c.take_header.ensures in
    let told = returns-clause-told c in
    record {
      table = r.seat.table ∙ e.0;
      id = r.seat.id ∙ e.1;
      slots = r.slots ∙ sym c.requires.seat.none;
      capacity = told.capacity;
      out = told.stays.out;
    }
