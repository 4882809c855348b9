-- The values after writes, and the loads of readers.
use Rattle.std.specs.Prelude.{◌≡◌, ℕ, ◌==◌, ℤ, pos, if◌then◌else◌, List, [], ◌∷◌}
use Rattle.ring_layout.specs.Lists.{Begins}
use Rattle.ring_counters.specs.declared.values.view.{ValueWrite.ValueWrite, ValueLoad.ValueLoad}

-- the value of an id after these writes, if it was this one before them
abbrev pub value_from : ℤ → ℕ → List ValueWrite → ℤ
value_from before id [] = before
value_from before id (w ∷ ws) = value_from (if w.id == id then w.value else before) id ws

-- the value of an id after these writes, which is the last one written, or 0 if there is none
abbrev pub value_after : ℕ → List ValueWrite → ℤ
value_after id writes = value_from (pos 0) id writes

-- Each of these loads returned its id's value after some first part of all writes. No part is shorter than the one
-- before.
abbrev pub AreLoads : List ValueWrite → List ValueLoad → List ValueWrite → Type 0
AreLoads made [] all = Begins made all
AreLoads made (l ∷ ls) all = Begins made l.after × (l.value ≡ value_after l.id l.after) × AreLoads l.after ls all
