use Rattle.std.proofs.Common.{◌≡◌, ◌∙◌, ◌<◌, not, length, refl, sym, ap, arith}
use Rattle.ring_storm.specs.Storming.{SentAtMost, history_of}
use Rattle.ring_storm.proofs.TurnLemmas.{next_turn, no_turn, of_some, same_history, turns_as}
use Rattle.ring_storm.proofs.shared.Shared.run_client.Given.{Over}
use Rattle.ring_storm.proofs.shared.Shared.run_client.Goals.{After-is_none}
use Rattle.ring_storm.proofs.shared.Shared.run_client.Goals as goal

pub loop-number-init : goal.loop-number-init
loop-number-init g c =
    let client = c.args.client in
    let new = c.requires.new in
    let drawn = ap length new.2 in
    record {
      client = c.requires.client;
      sent = omega (arith, new.0);
      drawn = omega (arith, drawn);
      seen = omega (arith, new.1);
      index = refl;
      turns = no_turn client.index client.seen (history_of client) new.1 new.0 new.2 new.3;
      within = omega arith;
    }

pub loop-number-preserved : goal.loop-number-preserved
loop-number-preserved g c =
    let e = c.command.ensures in
    let was = c.loop-number.invariant in
    record {
      client = e.client;
      sent = (let few = e.sent in let before = was.sent in omega arith);
      drawn = (let few = e.drawn in let before = was.drawn in omega arith);
      seen = (let same = e.same.1 in let before = was.seen in omega arith);
      index = e.same.0 ∙ was.index;
      turns = next_turn _ _ _ _ _ _ _ e.same.0 e.same.1 (sym was.seen)
          (of_some c.command.result _ (c.is_none.ensures ∙ ap not c.if-is_none.false) e.turn) was.turns;
      within = omega arith;
    }

-- one command more is sent, one number more drawn, and no more counted, by the same client
turned : (g : Over) (c : After-is_none g) → SentAtMost c.args.self.now.plan.commands c.command.new.client
    × (c.command.new.client.seen < c.args.self.now.plan.commands)
    × (c.command.new.client.index ≡ c.args.client.index)
turned g c =
    let e = c.command.ensures in
    let was = c.loop-number.invariant in
    let few = e.sent in
    let drew = e.drawn in
    let before = was.sent in
    let draws = was.drawn in
    let same = e.same.1 in
    let seen = was.seen in
    ((omega arith, omega arith), omega arith, e.same.0 ∙ was.index)

pub returns-else-is_none-clause-worked : goal.returns-else-is_none-clause-worked
returns-else-is_none-clause-worked g c =
    let e = c.command.ensures in
    let was = c.loop-number.invariant in
    let is = turned g (goal.at.returns-else-is_none-clause-worked g c).After-is_none in
    record {
      sent = is.0;
      seen = omega (arith, is.1);
      index = is.2;
      answered =
          record {
            before = history_of c.command.new.client;
            turns = next_turn _ _ _ _ _ _ _ e.same.0 e.same.1 (sym was.seen)
                (of_some c.command.result _ (c.is_none.ensures ∙ ap not c.if-is_none.false) e.turn) was.turns;
            more = same_history _;
          };
    }

pub returns-then-is_none-clause-worked : goal.returns-then-is_none-clause-worked
returns-then-is_none-clause-worked g c =
    let e = c.command.ensures in
    let is = turned g (goal.at.returns-then-is_none-clause-worked g c).After-is_none in
    record {
      sent = is.0;
      seen = omega (arith, is.1);
      index = is.2;
      answered =
          record {
            before = history_of c.loop-number.client;
            turns = turns_as _ _ _ _ _ e.same.0 e.same.1 c.loop-number.invariant.turns;
            more = e.grows;
          };
    }
