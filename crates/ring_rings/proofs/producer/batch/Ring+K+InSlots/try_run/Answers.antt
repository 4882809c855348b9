use Rattle.std.proofs.Common.{◌<◌, ◌++◌, List, sym, ap, ◌∙◌, arith}
use Rattle.ring_layout.specs.declared.message.Message.{Message}
use Rattle.ring_table.specs.{RunBodies.messages_of as batch_of, declared.view.View.View, OpenClaims.open_count}
use Rattle.ring_table.{specs.Runs.run_claims, proofs.RunClaims.run_whole, proofs.RunFill.least_bytes}
use Rattle.ring_rings.proofs.RunMade.{keeps_run, knows_claims, knows_consumes, knows_shares, open_run, run_consumes, run_kept, run_matches, run_newest, run_shares}
use Rattle.ring_rings.proofs.SentLemmas.{run_sends}
use Rattle.ring_rings.proofs.producer.batch.Ring+K+InSlots.try_run.Goals as goal

pub overflow_sub-wanted : goal.overflow_sub-wanted
overflow_sub-wanted g c =
    let least = least_bytes c.args.messages.now c.requires.some in
    let all = c.requires.bytes in omega arith

pub write_run-requires-clause-newest : goal.write_run-requires-clause-newest
write_run-requires-clause-newest g c =
    let k = c.requires.known in
    let lawful = c.args.self.now.lawful in
    let size = c.requires.bytes in
    let least = least_bytes c.args.messages.now c.requires.some in
    let whole = run_whole (batch_of c.args.messages.now) in
    run_newest (c.in_ok-admission.ensures.told k.0 k.1).0 (omega (arith, lawful.least)) c.in_ok-admission.ensures.from
    (omega arith) (omega arith) c.requires.inside

pub invariant_of-producer-2 : goal.invariant_of-producer-2
invariant_of-producer-2 g c =
    let k = c.requires.known in
    let p = c.args.producer.now in
    let lawful = c.args.self.now.lawful in
    let size = c.requires.bytes in
    let least = least_bytes c.args.messages.now c.requires.some in
    let whole = run_whole (batch_of c.args.messages.now) in
    let m = (c.in_ok-admission.ensures.told k.0 k.1).0 in
    let ms : List Message = batch_of c.args.messages.now in
    let u : View = c.write_run.new.producer.me.0 in
    let positive : 0 < c.args.self.now.capacity = omega (arith, lawful.least) in
    let known = run_matches m positive c.in_ok-admission.ensures.from (omega arith) (omega arith) c.requires.inside ms u
    c.write_run.ensures.view p.seat.me.0 (knows_claims _ _ _ _ _ k.1) (knows_shares _ _ _ _ _ k.1) p.known in
    let consumes = run_consumes m positive c.in_ok-admission.ensures.from (omega arith) (omega arith) c.requires.inside ms
    u c.write_run.ensures.view in
    record {
      known = known;
      produces = (
        consumes ∙ sym (knows_consumes _ _ _ _ _ k.1) ∙ p.produces.0,
        c.write_run.ensures.seat.slots ∙ c.in_ok-admission.ensures.seat.slots ∙ p.produces.1,
      );
      home = c.write_run.ensures.seat.out ∙ c.in_ok-admission.ensures.seat.out ∙ p.home;
    }

pub returns-clause-sent : goal.returns-clause-sent
returns-clause-sent g c =
    let k = c.requires.known in
    let lawful = c.args.self.now.lawful in
    let size = c.requires.bytes in
    let least = least_bytes c.args.messages.now c.requires.some in
    let whole = run_whole (batch_of c.args.messages.now) in
    let m = (c.in_ok-admission.ensures.told k.0 k.1).0 in
    let ms : List Message = batch_of c.args.messages.now in
    let u : View = c.write_run.new.producer.me.0 in
    let kept = run_kept m (omega (arith, lawful.least)) c.in_ok-admission.ensures.from (omega arith) (omega arith)
    c.requires.inside ms u c.write_run.ensures.view in
    (run_sends c.args.tail ms _ _ (kept ∙ ap (λ l. l ++ run_claims c.args.tail ms) (sym (knows_claims _ _ _ _ _ k.1))), tt)

pub returns-clause-keeps : goal.returns-clause-keeps
returns-clause-keeps g c =
    let k = c.requires.known in
    let lawful = c.args.self.now.lawful in
    let size = c.requires.bytes in
    let least = least_bytes c.args.messages.now c.requires.some in
    let whole = run_whole (batch_of c.args.messages.now) in
    let m = (c.in_ok-admission.ensures.told k.0 k.1).0 in
    let ms : List Message = batch_of c.args.messages.now in
    let u : View = c.write_run.new.producer.me.0 in
    let positive : 0 < c.args.self.now.capacity = omega (arith, lawful.least) in
    let kept = run_kept m positive c.in_ok-admission.ensures.from (omega arith) (omega arith)
    c.requires.inside ms u c.write_run.ensures.view
    ∙ ap (λ l. l ++ run_claims c.args.tail ms) (sym (knows_claims _ _ _ _ _ k.1)) in
    let shares = run_shares m positive c.in_ok-admission.ensures.from (omega arith) (omega arith)
    c.requires.inside ms u c.write_run.ensures.view in
    record {
      holdings = record { claims = keeps_run _ kept; shares = shares ∙ sym (knows_shares _ _ _ _ _ k.1) };
      open_claims = ap open_count kept ∙ open_run c.args.tail ms _;
    }
