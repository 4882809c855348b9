-- The view of an adder.
use Rattle.std.specs.Prelude.{ℕ, ℤ, List}
use Rattle.ring_adders.specs.declared.view.AdderView.{AdderView}

abbrev pub adder_view : ℕ → List ℤ → List ℤ → AdderView
adder_view shares added seen = record { shares = shares; added = added; seen = seen }
