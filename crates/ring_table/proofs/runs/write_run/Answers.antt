use Rattle.std.proofs.Common.{◌≡◌, List, [], ◌++◌, sym, ap, ◌∙◌, subst, arith}
use Rattle.ring_layout.specs.{declared.message.Message.Message, Places.index}
use Rattle.ring_table.specs.{Ranges.numbered, RunBodies.messages_of, Views.View, Views.with_claims}
use Rattle.ring_table.specs.{Runs.run_claims, Runs.run_slots, Runs.AreMessages, SlotSteps.with_out, SlotSteps.HasBody}
use Rattle.ring_table.proofs.{CommitRun.last_one, RunClaims.run_whole, RunFill.first_message}
use Rattle.ring_table.proofs.runs.write_run.Goals as goal

pub reserve_body-requires-clause-newest : goal.reserve_body-requires-clause-newest
reserve_body-requires-clause-newest c = let h = c.requires.newest in (
  c.args.place,
  record {
    others = h.others;
    claim = h.claim;
    claims_are = h.claims_are;
    at_place = h.at_place;
    holds = h.holds.stage;
  },
)

pub fill_run-requires-clause-count : goal.fill_run-requires-clause-count
fill_run-requires-clause-count c =
    let whole = run_whole (messages_of c.args.messages.now) in
    let all = c.requires.bytes in omega arith

pub fill_run-requires-clause-has : goal.fill_run-requires-clause-has
fill_run-requires-clause-has c =
    let h = c.requires.newest in
    let t = (c.reserve_body.ensures.reserves h.others h.claim h.claims_are h.holds.stage).1 in
    let here : index c.args.producer.now.me.0.capacity h.claim.place ≡ index c.args.capacity c.args.place =
    λ i. index (c.requires.seat.view_is i) (h.at_place i) in
    let span_is = h.holds.span_is in
    let count = t.count in
    record {
      values = t.values;
      held_is = t.held_is ∙ ap (λ i. numbered i t.values) (here ∙ sym c.word_index-first.ensures);
      count = omega arith;
    }

pub commit_run-requires-clause-run : goal.commit_run-requires-clause-run
commit_run-requires-clause-run c =
    let h = c.requires.newest in
    let ms : List Message = messages_of c.args.messages.now in
    let first = first_message c.args.messages.now c.requires.some in
    let same = c.fill_run.ensures.seat.view
    ∙ (c.reserve_body.ensures.reserves h.others h.claim h.claims_are h.holds.stage).0 in
    let at_place = h.at_place in
    let span_is = h.holds.span_is in (
      ms,
      record {
        others = h.others;
        claim = h.claim;
        claims = ap (λ (v : View). v.producer.claims) same ∙ h.claims_are;
        stage = h.holds.stage;
        plain = h.holds.plain;
        at_place = h.at_place;
        out_is = ap (λ (v : View). v.out) same;
        first = first.0;
        rest = first.1;
        messages = first.2;
        are = c.fill_run.ensures.messages;
        bytes = c.requires.bytes ∙ sym h.holds.span_is;
        end_is = omega arith;
        slots = subst (λ i. HasBody i (run_slots ms) c.fill_run.new.seat.me.1) c.word_index-first.ensures
            c.fill_run.ensures.has;
      },
    )

pub returns-clause-view : goal.returns-clause-view
returns-clause-view c others d claims_are =
    let h = c.requires.newest in
    let v : View = c.args.producer.now.me.0 in
    let ms : List Message = messages_of c.args.messages.now in
    let same = c.fill_run.ensures.seat.view
    ∙ (c.reserve_body.ensures.reserves h.others h.claim h.claims_are h.holds.stage).0 in
    let cap : c.args.capacity ≡ c.fill_run.new.seat.me.0.capacity =
    sym c.requires.seat.view_is ∙ sym (ap (λ (z : View). z.capacity) same) in
    let stored = c.commit_run.ensures.stores.1 h.others h.claim c.word_index-first.result ms
    (ap (λ (z : View). z.producer.claims) same ∙ h.claims_are) (ap (λ (z : View). z.out) same)
    (subst (λ z. AreMessages z ms) cap c.fill_run.ensures.messages) c.fill_run.ensures.has in
    let one = last_one h.others others h.claim d (sym h.claims_are ∙ claims_are) in
    stored
    ∙ (λ i. with_out [] (with_claims (one.0 i ++ run_claims (h.at_place i) ms) (same i)))
    ∙ (λ i. record (with_claims (others ++ run_claims c.args.place ms) v) { out = sym c.requires.seat.home i })

pub returns-clause-seat : goal.returns-clause-seat
returns-clause-seat c =
    let g = c.commit_run.ensures in
    let f = c.fill_run.ensures.seat in
    let t = c.reserve_body.ensures.seat in
    let h = c.requires.newest in
    let view = returns-clause-view c h.others h.claim h.claims_are in
    record {
      table = g.seat.table ∙ f.table ∙ t.table;
      id = g.seat.id ∙ f.id ∙ t.id;
      slots = g.stores.0 ∙ sym c.requires.seat.none;
      capacity = g.seat.capacity ∙ ap (λ (v : View). v.capacity) f.view ∙ t.capacity;
      out = ap (λ (v : View). v.out) view;
    }
