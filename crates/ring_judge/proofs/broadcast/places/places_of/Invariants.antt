use Rattle.std.proofs.Common.{◌≡◌, ℕ, vec_len}
use Rattle.ring_judge.specs.Broadcast.{anywhere, place_of}
use Rattle.ring_judge.proofs.broadcast.places.places_of.Given as goal

abbrev pub invariant-loop-made : goal.invariant-loop-made
invariant-loop-made l = record {
  same : vec_len l.places ≡ l.made;
  places : (r : ℕ) → place_of l.places.items r ≡ anywhere;
}
