use Rattle.std.proofs.Common.{◌≡◌, flat_map, string_bytes, take}
use Rattle.ring_scenario.specs.ServiceTexts.{counter_text}
use Rattle.ring_scenario.proofs.runner.serving.counters_text.Given as goal

-- the first counters were listed
abbrev pub invariant-loop-info : goal.invariant-loop-info
invariant-loop-info l = string_bytes l.text ≡ flat_map counter_text (take l.info-index l.infos)
