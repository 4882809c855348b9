-- Lists of lists.
use Rattle.std.specs.Prelude.{List, Vec, map}
use Rattle.std.specs.declared.alloc.Global.{Global}

-- the lists that vectors contain
abbrev pub lists_of : {A : Type 0} → List (Vec A Global) → List (List A)
lists_of vectors = map (λ v. v.items) vectors
