-- The flags that say which counters are in use.
use Rattle.std.proofs.Common.{◌≡◌, ℕ, zero, suc, Bool, false, List, [], ◌∷◌, length, set, replicate, refl, sym, ap, ◌∙◌, get_or}
use Rattle.ring_counters.specs.{Counter.Metadata, Counter.unused_metadata, Registry.is_allocated, Kept.live_flags}

length-flags : (ms : List Metadata) → length (live_flags ms) ≡ length ms
length-flags [] = refl
length-flags (m ∷ ms) = ap suc (length-flags ms)

flags-set : (ms : List Metadata) (id : ℕ) (m : Metadata)
    → live_flags (set ms id m) ≡ set (live_flags ms) id (is_allocated m.status)
flags-set [] id m = refl
flags-set (x ∷ ms) zero m = refl
flags-set (x ∷ ms) (suc id) m = ap (λ l. is_allocated x.status ∷ l) (flags-set ms id m)

flags-at : (ms : List Metadata) (id : ℕ)
    → get_or (live_flags ms) id false ≡ is_allocated (get_or ms id unused_metadata).status
flags-at [] id = refl
flags-at (m ∷ ms) zero = refl
flags-at (m ∷ ms) (suc id) = flags-at ms id

pub flags_fresh : (n : ℕ) → replicate n false ≡ live_flags (replicate n unused_metadata)
flags_fresh zero = refl
flags_fresh (suc n) = ap (λ l. false ∷ l) (flags_fresh n)

module _ (ms : List Metadata) (flags : List Bool) (h : flags ≡ live_flags ms) where
  pub flags_size : length flags ≡ length ms
  flags_size = ap length h ∙ length-flags ms

  pub flags_stored : (id : ℕ) (m : Metadata) (b : Bool) → b ≡ is_allocated m.status
      → set flags id b ≡ live_flags (set ms id m)
  flags_stored id m b is = (λ i. set (h i) id (is i)) ∙ sym (flags-set ms id m)

  pub flag_at : (id : ℕ) → get_or flags id false ≡ is_allocated (get_or ms id unused_metadata).status
  flag_at id = ap (λ l. get_or l id false) h ∙ flags-at ms id
