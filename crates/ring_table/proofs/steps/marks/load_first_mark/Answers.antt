use Rattle.std.proofs.Common.{ℕ, sym, ◌∙◌, subst}
use Rattle.ring_table.{specs.Marks.LoadsMark, proofs.ReadMarks.reads_first, proofs.SlotCalls.mark_step}
use Rattle.ring_table.proofs.steps.marks.load_first_mark.Goals.{After-load-mark}
use Rattle.ring_table.proofs.steps.marks.load_first_mark.Goals as goal

pub load-mark-requires : goal.load-mark-requires
load-mark-requires c =
    let s = c.requires.seat in
    let at = c.requires.head in
    mark_step s.table_is s.words_are s.key_is s.lawful _ c.args.head c.args.consumer.now.me.0.consumer.head c.word_index.ensures at
    (λ n. n)
    (λ _ n me'. LoadsMark c.args.consumer.now.me.0.capacity c.args.consumer.now.me.0.consumer.head
    c.args.consumer.now.me.0.consumer.taken c.args.consumer.now.me n me')
    (reads_first c.args.capacity c.args.ring.now.key.start _ _ c.args.consumer.now.me s.view_is c.requires.consumes
    s.home s.none)

-- what the mark shows, in the words of the code
shows : (c : After-load-mark) → LoadsMark c.args.capacity c.args.head c.args.consumer.now.me.0.consumer.taken
    c.args.consumer.now.me c.load-mark.result c.load-mark.new.seat.me
shows c = subst (λ (z : ℕ × ℕ). LoadsMark z.0 z.1 c.args.consumer.now.me.0.consumer.taken c.args.consumer.now.me
    c.load-mark.result c.load-mark.new.seat.me) (λ i. (c.requires.seat.view_is i, c.requires.head i)) c.load-mark.ensures.2

pub read_mark-requires-clause-loaded : goal.read_mark-requires-clause-loaded
read_mark-requires-clause-loaded c = (
  c.args.consumer.now.me.0.consumer.taken,
  c.args.consumer.now.me,
  c.requires.seat.home,
  c.requires.seat.none,
  shows (goal.at.read_mark-requires-clause-loaded c).After-load-mark,
)

pub returns-clause-told : goal.returns-clause-told
returns-clause-told c = c.read_mark.ensures.told c.args.consumer.now.me.0.consumer.taken c.args.consumer.now.me
    c.requires.seat.home c.requires.seat.none (shows (goal.at.returns-clause-told c).After-load-mark)

pub returns-clause-seat : goal.returns-clause-seat
returns-clause-seat c =
    let e = c.load-mark.ensures in
    let r = c.read_mark.ensures in
    let told = returns-clause-told c in
    record {
      table = r.seat.table ∙ e.0;
      id = r.seat.id ∙ e.1;
      slots = r.slots ∙ sym c.requires.seat.none;
      capacity = told.capacity;
      out = told.stays.out;
    }
