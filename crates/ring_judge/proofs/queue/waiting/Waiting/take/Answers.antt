use Rattle.std.proofs.Common.{◌<◌, ◌+◌, ◌-◌, ℕ, List, ◌∙◌, sym, subst, arith, set, length}
use Rattle.std.proofs.lemmas.{Bool.iff_false, Option.slice_get_within}
use Rattle.ring_judge.specs.{declared.message.Message.Message, declared.queue.QueueLine.TheVariants.Got, Lists.lists_of}
use Rattle.ring_judge.specs.Queue.{AreWaiting, Follows}
use Rattle.ring_judge.proofs.WaitingLemmas.{read_next, read_number, refuses_other, takes_next, some_waits}
use Rattle.ring_judge.proofs.queue.waiting.Waiting.take.Goals as goal

pub returns-then-not-is_next-clause-answer : goal.returns-then-not-is_next-clause-answer
returns-then-not-is_next-clause-answer c = λ w waiting.
    let its = c.args.self.now in let m = c.args.message.now in
    let lt : m.producer < length its.taken.items = omega (arith, its.taken.ok.0) in
    let read = read_next its.sent.items its.taken.items m.producer c.index-2.result.now c.index.result.now c.deref.result.now
    lt waiting.same c.index.ensures c.deref.ensures.value c.index-2.ensures in
    refuses_other (lists_of its.sent.items) its.taken.items its.left m lt
    (λ e. iff_false c.is_next.ensures c.if-not-is_next.true (sym read ∙ e)) w waiting

pub overflow_add-index_mut : goal.overflow_add-index_mut
overflow_add-index_mut c =
    let its = c.args.self.now in let m = c.args.message.now in
    let lt : m.producer < length its.taken.items = omega (arith, its.taken.ok.0) in
    let a = read_number its.taken.items m.producer c.index_mut.result.now lt c.index_mut.ensures.value in
    let b = read_number its.taken.items m.producer c.index-2.result.now lt c.index-2.ensures in
    let within = slice_get_within c.deref.result.now c.index-2.result.now m (c.is_next.ensures.0 c.if-not-is_next.false) in
    let s = c.index.result.now.small in let o = c.index.result.now.ok in
    omega (arith, a, b, within, c.deref.ensures.len, s, o.0)

pub overflow_sub-self : goal.overflow_sub-self
overflow_sub-self c =
    let its = c.args.self.now in let m = c.args.message.now in let waiting = c.requires.waiting.1 in
    let lt : m.producer < length its.taken.items = omega (arith, its.taken.ok.0) in
    let read = read_next its.sent.items its.taken.items m.producer c.index-2.result.now c.index.result.now c.deref.result.now
    lt waiting.same c.index.ensures c.deref.ensures.value c.index-2.ensures in
    some_waits (lists_of its.sent.items) its.taken.items its.left m lt (read ∙ c.is_next.ensures.0 c.if-not-is_next.false)
    c.requires.waiting.0 waiting

pub returns-clause-answer : goal.returns-clause-answer
returns-clause-answer c = λ w waiting.
    let its = c.args.self.now in let m = c.args.message.now in
    let lt : m.producer < length its.taken.items = omega (arith, its.taken.ok.0) in
    let read = read_next its.sent.items its.taken.items m.producer c.index-2.result.now c.index.result.now c.deref.result.now
    lt waiting.same c.index.ensures c.deref.ensures.value c.index-2.ensures in
    let number = read_number its.taken.items m.producer c.index_mut.result.now lt c.index_mut.ensures.value in
    subst (λ (n : ℕ). (v : List Message) × AreWaiting (lists_of its.sent.items)
    (set its.taken.items m.producer (n + 1)) (its.left - 1) v × Follows w (Got m) v) (sym number)
    (takes_next (lists_of its.sent.items) its.taken.items its.left m lt
    (read ∙ c.is_next.ensures.0 c.if-not-is_next.false) w waiting)
