-- The records of counters in a listing.
use Rattle.std.specs.Prelude.{◌≡◌, ℕ, List, [], ◌∷◌}
use Rattle.ring_counters.specs.{declared.info.CounterInfo.CounterInfo, Counter.Counter}

-- the record of the counter c with this id
pub record IsInfoOf (id : ℕ) (c : Counter) (info : CounterInfo) : Type 0 where
  pub same_id : info.id ≡ id
  pub type_id : info.type_id ≡ c.metadata.type_id
  pub value : info.value ≡ c.values.value
  pub registration : info.registration ≡ c.values.registration
  pub owner_id : info.owner ≡ c.values.owner
  pub key_bytes : info.key ≡ c.metadata.key
  pub label_bytes : info.label.items ≡ c.metadata.label

-- one record for each of these counters, in order
abbrev pub AreInfos : List CounterInfo → List (ℕ × Counter) → Type 0
AreInfos [] [] = Unit {0}
AreInfos [] (x ∷ xs) = ⊥
AreInfos (i ∷ is) [] = ⊥
AreInfos (i ∷ is) (x ∷ xs) = IsInfoOf x.0 x.1 i × AreInfos is xs
