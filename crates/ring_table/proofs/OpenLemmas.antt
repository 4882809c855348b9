-- A fresh ring meets the rule.
use Rattle.ring_table.specs.{Staged.Bodies, Staged.StagedClaim, ProducerSteps.HasClaim, Shelf.IsOneOut, Shelf.IsShelf}
use Rattle.std.proofs.Common.{◌≡◌, ℕ, zero, suc, ◌/◌, ◌≤◌, ◌<◌, List, [], ◌∷◌, Bool, true, false, cond, ltb, sym, refl, ap, ◌∙◌, subst, inl, length, map, replicate, le-ltb, arith}
use Rattle.std.proofs.Math.{Option.some, Option.some-injective, Option.some-ne-none, ListN.get_elem?}
use Rattle.ring_layout.specs.Places.{index, max_position}
use Rattle.std.proofs.lemmas.List.{length-map, length-replicate}
use Rattle.atomic_table.proofs.Lists.{at_map}
use Rattle.ring_table.specs.{Services.once_below, Closed.IsFresh}
use Rattle.ring_table.specs.{Views.View, Views.first_view, Views.consumer_from, Rule.IsLawful, Rule.Knows, Rule.Kept}
use Rattle.ring_table.proofs.{StagedPlaces.start_aligned, MemoryLemmas.index_inside}

pub fresh_keeps : (B : Bodies) (C start : ℕ) (words : List ℕ) → IsLawful C start → start ≤ max_position → IsFresh C start words
    → Kept B C start words (first_view (record { capacity = C; start = start }) ∷ [])
fresh_keeps B C start words law limit is_fresh =
    let v : View = first_view (record { capacity = C; start = start }) in
    let cache = is_fresh.cache in
    record {
      lawful = law;
      hist = [];
      reader = 0;
      consumer = consumer_from start;
      drawn = 0;
      memory = record {
        wide = is_fresh.wide;
        placed = tt;
        tail_is = is_fresh.tail;
        limit = limit;
        room = omega arith;
        head_is = is_fresh.head;
        took = (refl, refl);
        passed = (refl, refl);
        clears_from = omega arith;
        clears_to = omega arith;
        clears_words = start_aligned C start law;
        shows = λ p p8 p0 p1. is_fresh.records (index C p) (index_inside B C start law p) ∙ sym (nothing (ltb p start));
      };
      service = record {
        cache = omega arith;
        correlation = is_fresh.correlation;
        heartbeat =
            ap some (sym is_fresh.heartbeat);
        unnamed = is_fresh.unnamed;
      };
      seated = record {
        each = one v (record {
          claims = refl;
          tail_seen = omega arith;
          head_seen = omega arith;
          idle = λ none. record { claims = refl; draws = λ x. refl };
          served = (record { draws = omega arith; heartbeats = omega arith }, tt);
          consumes = λ _. (refl, refl);
        });
        nobody = λ j past. refl;
        shares = refl;
        latest = record { seat = 0; view = v; there = refl; rich = omega arith; sees = refl };
        once = λ x. sym (none_below x);
      };
    }
  where
    nothing : (b : Bool) → ◌≡◌ {A = ℕ} (cond b 0 0) 0
    nothing true = refl
    nothing false = refl

    none_below : (x : ℕ) → once_below x 0 ≡ 0
    none_below x = ap (λ (b : Bool). let n : ℕ = cond b 1 0 in n) (le-ltb x 0 (omega arith))

    one : (v : View) → Knows start [] 0 (consumer_from start) 0 0 v → (j : ℕ) (u : View) → get_elem? (v ∷ []) j ≡ some u
        → Knows start [] 0 (consumer_from start) 0 j u
    one v f zero u e = subst (Knows start [] 0 (consumer_from start) 0 0) (some-injective v u e) f
    one v f (suc j) u e = absurd (some-ne-none u (sym e))

-- and slots that are all at home with 0 are a shelf
pub fresh_shelf : (C start n : ℕ) (items : List ℕ) → n ≡ C / 8 → items ≡ replicate n 0
    → IsShelf C (map some items) (first_view (record { capacity = C; start = start }) ∷ [])
fresh_shelf C start n items count is =
    let v : View = first_view (record { capacity = C; start = start }) in
    let long : length items ≡ n = ap length is ∙ length-replicate n 0 in
    record {
      wide = length-map items (λ (z : ℕ). some z) ∙ long ∙ count;
      home = λ i inside _.
          let t = there items i (omega arith) in
          (t.0, at_map some items i t.0 t.1);
      exact = λ c of _. absurd (no_claim v of.seat of.view of.nth c of.there of.has refl);
      outs = λ id u at. one v u id at (inl refl);
      reader = record { seat = 0; view = v; there = refl; consumes = refl };
    }
  where
    there : (l : List ℕ) (i : ℕ) → i < length l → (y : ℕ) × (get_elem? l i ≡ some y)
    there [] i h = absurd (omega arith)
    there (x ∷ xs) zero h = (x, refl)
    there (x ∷ xs) (suc i) h = there xs i (omega arith)

    one : (v u : View) (id : ℕ) → get_elem? (v ∷ []) id ≡ some u → IsOneOut v → IsOneOut u
    one v u zero at out = subst IsOneOut (some-injective v u at) out
    one v u (suc id) at out = absurd (some-ne-none u (sym at))

    no_claim : (v : View) (id : ℕ) (u : View) (k : ℕ) (c : StagedClaim) → get_elem? (v ∷ []) id ≡ some u
        → HasClaim u k c → v.producer.claims ≡ [] → ⊥
    no_claim v zero u k c at has none = some-ne-none c (sym has
        ∙ ap (λ (z : View). get_elem? z.producer.claims k) (sym (some-injective v u at))
        ∙ ap (λ (l : List StagedClaim). get_elem? l k) none)
    no_claim v (suc id) u k c at has none = absurd (some-ne-none u (sym at))
