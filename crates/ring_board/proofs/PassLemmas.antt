-- A receiver comes, and goes.
use Rattle.std.proofs.Common.{◌≡◌, ℕ, ◌-◌, ◌%◌, ◌<◌, ◌≤◌, List, [], ◌∷◌, length, get_or, set, refl, sym, ap, ◌∙◌, subst, inl, inr, ⊎_elim, arith, le_refl}
use Rattle.std.proofs.Math.{Option.some, Option.some-ne-none, ListN.get_elem?, Seq.set-get_or}
use Rattle.atomic_table.specs.Table.{keeps, stepped, Allows, Splits, Joins}
use Rattle.atomic_table.proofs.Lists.{set_here, set_again, at_longer, at_snoc, set_else}
use Rattle.ring_board.specs.declared.shared.view.{Record.Record, View.View, Joined.Joined}
use Rattle.ring_board.specs.declared.shared.view.Stage.{Stage, TheVariants.Idle, TheVariants.Resting}
use Rattle.ring_board.specs.{Layout.latest_index, Records.Chain, Records.last_of, Runs.AreRuns, TransmitterSteps.Learns}
use Rattle.ring_layout.proofs.Sums.{total-set, total-append, total-least}
use Rattle.ring_board.specs.Rule.{IsSeat, intent, latest, with_latest, Before, Fresh, Receives, Knows, Holds}
use Rattle.ring_board.specs.Views.{Sat, as_joined, fewer, newcomer, joined, spent, view_shares}
use Rattle.ring_board.proofs.PlaceLemmas.{chain_last, last_low}
use Rattle.ring_board.proofs.{OpeningLemmas.no_copies, OpeningLemmas.no_log, SeatLemmas.knows_moves, SeatLemmas.owner}
use Rattle.ring_layout.proofs.ListLemmas.{at_below, each_set}

-- the last of a list that is not empty
last_entry : (x : Record) (l : List Record) → (q : Record) × (get_elem? (x ∷ l) (length l) ≡ some q)
last_entry x [] = (x, refl)
last_entry x (y ∷ l) = let t = last_entry y l in (t.0, t.1)

module _ (C e : ℕ) where
  -- at latest the last entry comes next, or all is empty
  comes : (roomy : 256 ≤ C) (whole : C % 64 ≡ 0) (sent : List Record) → Chain C e sent
      → Before e sent (last_of e sent) (length sent - 1) × Fresh e sent (last_of e sent) (length sent - 1)
  comes roomy whole [] c = (inr (refl, refl), inr (refl, refl, refl))
  comes roomy whole (x ∷ xs) c = let q = last_entry x xs in
      let is : last_of e (x ∷ xs) ≡ q.0.place = (chain_last C roomy whole e (x ∷ xs) c (length xs) q.0 q.1 refl).1 in
      let k : length (x ∷ xs) - 1 ≡ length xs = omega arith in
      let on = ap (get_elem? (x ∷ xs)) k ∙ q.1 in (inl (q.0, on, inl is), inl (q.0, on, is))

  pub splits_off : (id : ℕ) (v : View) → v.stage ≡ Idle → 0 < v.shares → Splits (Holds C e) id v (fewer v) (newcomer v)
  splits_off id v eq some_share s b at =
      let h = owner C e s b id v Idle (λ by mine k. k) at eq in let w : View = fewer v in
      let u : View = newcomer v in let start = h.seated.started in
      let here : get_elem? (set s.views id w) id ≡ some w =
      set_here s.views id w (at_below s.views id v h.seated.here) in
      let keep : (j : ℕ) (x : View) (st : Stage) → Knows C e id v j x st
      → Knows C e id w j x st =
      λ j x st. knows_moves C e id v w (λ y k. k) (λ k r g. g) (le_refl (intent e v.sent v.stage)) j x st in
      let c = comes h.lawful.roomy h.lawful.whole v.sent h.memory.chain in
      let place : last_of v.start v.sent ≡ last_of e v.sent = ap (λ (y : ℕ). last_of y v.sent) start in
      let knows : Knows C e id w id u Resting = (
        h.seated.capacity,
        subst (λ (l : List Record). Receives e v.sent l u) (ap (with_latest v.sent) (sym eq)) (record {
          before = subst (λ (p : ℕ). Before e v.sent p (length v.sent - 1)) (sym place) c.0;
          climbs = omega arith;
          past = λ i y g _. absurd (some-ne-none y (sym g));
          fresh = λ _ _. (refl, subst (λ (p : ℕ). Fresh e v.sent p (length v.sent - 1)) (sym place) c.1);
        }),
        tt,
      ) in (
        id,
        w,
        record {
          lawful = h.lawful;
          memory = h.memory;
          seated = let seats = h.seated in record {
            here = at_longer (set s.views id w) (u ∷ []) id w here;
            capacity = seats.capacity;
            started = seats.started;
            behind = seats.behind;
            each = λ j x g. ⊎_elim (λ old. each_set (IsSeat C e id w) s.views id w (let a = seats.each id v at in
                record { knows = subst (Knows C e id w id w) (sym eq) refl; copies = a.copies; log = a.log })
                (λ j y _ on. let a = seats.each j y on in record {
                  knows = keep j y y.stage a.knows;
                  copies =
                      a.copies;
                  log = a.log;
                }) j x old)
                (λ (is : u ≡ x). subst (IsSeat C e id w j) is
                (record { knows = knows; copies = no_copies v.sent u.from; log = no_log C e v.sent v.stage }))
                (at_snoc (set s.views id w) u x j g);
            joined = seats.joined;
            shares =
                (let a = total-set view_shares s.views id v w at in
                let t = total-append view_shares (set s.views id w) (u ∷ []) in
                let f = seats.shares in
                omega arith);
          };
        },
      )

  pub takes_in : (id : ℕ) (v : View) (other : ℕ) (w : View) → v.stage ≡ Idle
      → Joins (Holds C e) id v other w (joined v w) spent
  takes_in id v other w eq s b at ne there =
      let h = owner C e s b id v Idle (λ by mine k. k) at eq in let u : View = joined v w in
      let was : get_elem? s.views other ≡ some w = sym (set_else s.views id other u ne) ∙ there in
      let here : get_elem? (set s.views id u) id ≡ some u =
      set_here s.views id u (at_below s.views id v h.seated.here) in
      let keep : (j : ℕ) (x : View) (st : Stage) → Knows C e id v j x st
      → Knows C e id u j x st =
      λ j x st. knows_moves C e id v u (λ y k. k) (λ k r g. g) (le_refl (intent e v.sent v.stage)) j x st in (
        id,
        u,
        record {
          lawful = h.lawful;
          memory = h.memory;
          seated = let seats = h.seated in record {
            here = set_else (set s.views id u) other id spent (λ g. ne (sym g)) ∙ here;
            capacity = seats.capacity;
            started = seats.started;
            behind = seats.behind;
            each = each_set (IsSeat C e id u) (set s.views id u) other spent
                (record { knows = tt; copies = no_copies v.sent 0; log = no_log C e v.sent v.stage })
                (λ j x _ on. each_set (IsSeat C e id u) s.views id u
                (record {
                  knows = subst (Knows C e id u id u) (sym eq) refl;
                  copies =
                      (seats.each other w was).copies;
                  log = (seats.each id v at).log;
                })
                (λ j y _ on. let a = seats.each j y on in record {
                  knows = keep j y y.stage a.knows;
                  copies =
                      a.copies;
                  log = a.log;
                }) j x on);
            joined = λ j x g. ⊎_elim (λ old. seats.joined j x old)
                (λ (is : as_joined w ≡ x). subst (λ (y : Joined). AreRuns v.sent y.from y.copies) is
                (seats.each other w was).copies)
                (at_snoc v.heard (as_joined w) x j g);
            shares =
                (let a = total-set view_shares s.views id v u at in
                let d = total-set view_shares (set s.views id u) other w spent there in
                let f = seats.shares in
                omega arith);
          };
        },
      )

  pub learns : (slots id : ℕ) (me : Sat) (i : ℕ) → me.0.stage ≡ Idle → i ≡ latest_index C
      → Allows (Holds C e) slots id me i (λ y. y) (λ x m'. Learns me x m' × (i ≡ latest_index me.0.capacity))
  learns slots id me i eq is s b _ at _ = let h = owner C e s b id me.0 Idle (λ by mine k. k) at eq in
      let same : Holds C e (stepped s i (get_or s.words i 0) id me.1 me.0 keeps) = subst
      (λ (q : List ℕ × List View). Holds C e record { words = q.0; homes = s.homes; views = q.1 })
      (λ k. (sym (set-get_or s.words i 0) k, sym (set_again s.views id me.0 at) k)) b in
      let t = total-least view_shares s.views id me.0 at in let f = h.seated.shares in
      let found = ap (λ (j : ℕ). get_or s.words j 0) is ∙ (h.memory.latest_is
      ∙ (ap (λ (st : Stage). latest e me.0.sent st) eq
      ∙ ap (λ (y : ℕ). last_of y me.0.sent) (sym h.seated.started))) in (
        me.0,
        keeps,
        tt,
        same,
        (
          (
            refl,
            found,
            (h.seated.each id me.0 at).copies,
            omega arith,
            (let y = h.memory.latest_is in
                let z = last_low C h.lawful.roomy h.lawful.whole e me.0.sent h.memory.chain in let l =
                h.memory.low in let w = ap (λ (st : Stage). latest e me.0.sent st) eq in
                let v = ap (λ (st : Stage). intent e me.0.sent st) eq in let u =
                ap (λ (j : ℕ). get_or s.words j 0) is in omega arith),
          ),
          is ∙ sym (ap latest_index h.seated.capacity),
        ),
      )
