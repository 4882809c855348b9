use Rattle.std.proofs.Common.{rules, subst}
use Rattle.ring_handles.specs.Counting.{TellsAvailable}
use Rattle.ring_c.proofs.exports.counting.felter_counters_available.Goals.{in-Counters, in_default}
use Rattle.ring_c.proofs.exports.counting.felter_counters_available.Goals as goal

pub returns-after-deref_mut : goal.returns-after-deref_mut
returns-after-deref_mut c = elim c.match-deref_mut.branch [
  | in-Counters w ↦ (let told = subst (λ m. TellsAvailable c.args.now m c.args.available.now w.available-code.new.available
      w.available-code.result) w.counters.ensures w.available-code.ensures in search (rules, told))
  | in_default w ↦ search rules
]
