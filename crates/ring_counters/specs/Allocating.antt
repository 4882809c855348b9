-- The counter that the owner of the records allocates.
use Rattle.ring_counters.specs.{declared.records.wanted.Wanted.Wanted, Registry.AreShort, Registry.new_counter}
use Rattle.ring_counters.specs.Counter.{Counter}

-- the key and the label keep their limits
abbrev pub HasShortTexts : Wanted → Type 0
HasShortTexts w = AreShort w.key.now w.label.now

-- the counter that is to be allocated
abbrev pub counter_wanted : Wanted → Counter
counter_wanted w = new_counter w.type_id w.key.now w.label.now w.registration w.owner
