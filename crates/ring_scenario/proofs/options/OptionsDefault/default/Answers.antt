use Rattle.std.proofs.Common.{refl}
use Rattle.ring_scenario.proofs.options.OptionsDefault.default.Goals as goal

pub returns : goal.returns
unfolding lib.Count.ones
returns c = refl
