-- A new broadcast buffer keeps the rule.
use Rattle.std.proofs.Common.{◌≡◌, ◌≢◌, ℕ, ◌+◌, zero, suc, ◌/◌, ◌%◌, ◌^◌, ◌<◌, ◌≤◌, List, [], ◌∷◌, length, get_or, set, refl, sym, ap, ◌∙◌, subst, arith, replicate, length-set, get_or-set_other, get_or-set_same}
use Rattle.std.proofs.{lemmas.List.length-replicate, lemmas.Nat.Gcd.dvd_of_mod-eq-zero, Math.ListN.get_elem?}
use Rattle.std.proofs.Math.{Nat.mod-mod_of_dvd, Option.some, Option.some-injective, Option.some-ne-none}
use Rattle.atomic_table.specs.Table.{opening}
use Rattle.ring_layout.{specs.Places.max_position, specs.Places.IsBoardCapacity, proofs.CapacityLemmas.capacity_blocks}
use Rattle.ring_board.specs.declared.shared.view.{Record.Record, View.View, Stage.Stage, Stage.TheVariants.Idle}
use Rattle.ring_board.specs.Layout.{intent_index, tail_index, latest_index, board_words, IsUnnamed}
use Rattle.ring_board.specs.{Runs.AreRuns, Rule.IsSeat, Rule.Logged, Rule.Holds, Rule.opening_view}

pub capacity_whole : (C : ℕ) → IsBoardCapacity C → C % 64 ≡ 0
capacity_whole C h = let low = h.least in let b =
    capacity_blocks C (record { power = h.power; least = omega arith; most = h.most }) in omega arith

-- a multiple of the capacity is one of 8
pub multiple : (C e : ℕ) → C % 64 ≡ 0 → e % C ≡ 0 → e % 8 ≡ 0
multiple C e whole h =
    let m : e % C % 8 ≡ e % 8 = mod-mod_of_dvd 8 {b = C} e (dvd_of_mod-eq-zero 8 {n = C} (omega arith)) in omega arith

pub no_copies : (sent : List Record) (from : ℕ) → AreRuns sent from []
no_copies sent from = record {
  entries = λ i c g. absurd (some-ne-none c (sym g));
  follow = λ i a b g _. absurd
      (some-ne-none a (sym g));
  first = λ c g _. absurd (some-ne-none c (sym g));
}

pub no_log : (C e : ℕ) (sent : List Record) (st : Stage) → Logged C e sent st []
no_log C e sent st i l g = absurd (some-ne-none l (sym g))

zeros_at : (k i : ℕ) → ◌≡◌ {A = ℕ} (get_or (replicate k 0) i 0) 0
zeros_at zero i = refl
zeros_at (suc k) zero = refl
zeros_at (suc k) (suc i) = zeros_at k i

module _ (C e : ℕ) (roomy : 256 ≤ C) (narrow : C ≤ 2 ^ 24) (whole : C % 64 ≡ 0) (aligned : e % C ≡ 0)
    (low : e ≤ max_position) where
  opened : (ws : List ℕ) → length ws ≡ board_words C → ((i : ℕ) → i < C / 8 → get_or ws i 0 ≡ 0)
      → get_or ws (intent_index C) 0 ≡ e
      → get_or ws (tail_index C) 0 ≡ e → get_or ws (latest_index C) 0 ≡ e
      → ((i : ℕ) → IsUnnamed C i → get_or ws i 0 ≡ 0) → Holds C e (opening ws [] (opening_view C e))
  opened ws wide zeros a b c unnamed = (
    0,
    opening_view C e,
    record {
      lawful = record { roomy = roomy; narrow = narrow; whole = whole; aligned = aligned };
      memory = record {
        wide = wide;
        chain = tt;
        low = low;
        intent_is = a;
        tail_is = b;
        latest_is = c;
        unnamed = unnamed;
        valid = λ k r g. absurd (some-ne-none r (sym g));
        running = tt;
        exact = zeros;
      };
      seated = record {
        here = refl;
        capacity = refl;
        started = refl;
        behind = refl;
        each = one (IsSeat C e 0 (opening_view C e))
            (record { knows = refl; copies = no_copies [] e; log = no_log C e [] Idle });
        joined = λ i j g. absurd (some-ne-none j (sym g));
        shares = refl;
      };
    },
  )
    where
      one : (F : ℕ → View → Type 0) → F 0 (opening_view C e) → (j : ℕ) (v : View)
          → get_elem? (opening_view C e ∷ []) j ≡ some v → F j v
      one F f zero v g = subst (F 0) (some-injective (opening_view C e) v g) f
      one F f (suc j) v g = absurd (some-ne-none v (sym g))

  -- three words of a row of zeros are the start
  pub opened_as : (vs ws : List ℕ) → vs ≡ replicate (board_words C) 0
      → ws ≡ set (set (set vs (intent_index C) e) (tail_index C) e) (latest_index C) e
      → Holds C e (opening ws [] (opening_view C e))
  opened_as vs ws zeros is = let a : List ℕ = set vs (intent_index C) e in let b : List ℕ = set a (tail_index C) e in
      let row : length (replicate {A = ℕ} (board_words C) 0) ≡ board_words C = length-replicate (board_words C) 0 in
      let long : length vs ≡ board_words C = ap length zeros ∙ row in
      let long_a : length a ≡ board_words C = length-set vs (intent_index C) e ∙ long in
      let long_b : length b ≡ board_words C = length-set a (tail_index C) e ∙ long_a in
      let others : (i : ℕ) → ((k : ℕ) → k < 3 → i ≢ C / 8 + k) → get_or (set b (latest_index C) e) i 0 ≡ 0 =
      λ i ne. get_or-set_other b (latest_index C) i e 0 (λ g. ne 2 (omega arith) (omega arith))
      ∙ (get_or-set_other a (tail_index C) i e 0 (λ g. ne 1 (omega arith) (omega arith))
      ∙ (get_or-set_other vs (intent_index C) i e 0 (λ g. ne 0 (omega arith) (omega arith))
      ∙ (ap (λ (l : List ℕ). get_or l i 0) zeros ∙ zeros_at (board_words C) i))) in
      subst (λ (l : List ℕ). Holds C e (opening l [] (opening_view C e))) (sym is)
      (opened (set b (latest_index C) e) (length-set b (latest_index C) e ∙ long_b)
      (λ i lt. others i (λ k few g. omega arith))
      (get_or-set_other b (latest_index C) (intent_index C) e 0 (λ g. omega arith)
      ∙ (get_or-set_other a (tail_index C) (intent_index C) e 0 (λ g. omega arith)
      ∙ get_or-set_same vs (intent_index C) e 0 (omega arith)))
      (get_or-set_other b (latest_index C) (tail_index C) e 0 (λ g. omega arith)
      ∙ get_or-set_same a (tail_index C) e 0 (omega arith))
      (get_or-set_same b (latest_index C) e 0 (omega arith))
      (λ i is. others i (λ k few g. let behind = is.0 in omega arith)))
