-- The consumer's loads keep the rule, and what a step of it owes.
use Rattle.ring_table.specs.Staged.{in_words, Bodies, shown_header, PlacedMessage, staged_end, staged_word_at}
use Rattle.std.proofs.Common.{◌≡◌, ℕ, ◌+◌, ◌-◌, ◌/◌, ◌%◌, ◌^◌, ◌≤◌, ◌<◌, ℤ, pos, negsuc, ◌≤ℤ◌, FitsSigned, List, [], ◌∷◌, ◌++◌, cond, true, set, get_or, slice_index, sym, refl, ap, ◌∙◌, subst, ⊎_elim, le-ltb, arith, w32}
use Rattle.std.proofs.Math.{Option.some, Logic.dite, Decide.ℕ_discrete, ListN.get_elem?}
use Rattle.std.specs.Int.{cast_signed, cast_unsigned}
use Rattle.std.proofs.lemmas.{Bool.cases_lt, Int.to_z-of_z, Int.ints, List.set-get_or}
use Rattle.atomic_table.specs.Table.{State, keeps, Allows}
use Rattle.ring_layout.specs.{History.IsMessage, Places.index, Places.rounded, Headers.header, Headers.padding_type}
use Rattle.ring_table.specs.{Owners.OwnedHistory, Owners.all_of, Passing.Reaches, Rule.IsMemory, Rule.Knows, Rule.Kept}
use Rattle.ring_table.specs.{Services.AreServed, ProducerSteps.Mine}
use Rattle.ring_table.specs.Views.{Logs, ConsumerView, Run, View, logged, no_run, with_run, scanned}
use Rattle.ring_table.specs.ConsumerSteps.{with_scan, IsInside, LoadsHeader, LoadsBody}
use Rattle.ring_table.proofs.{StagedPlaces.capacity_aligned, StagedPlaces.start_aligned, KnowLemmas.knows_on}
use Rattle.ring_table.proofs.ReachLemmas.{reach_bounds, reach_aligned, shows_body}
use Rattle.ring_table.proofs.HeaderReads.{low_half, halves, shown_low, Leads, leads}
use Rattle.ring_table.proofs.StepLemmas.{sees_top_after, becomes}
use Rattle.ring_table.proofs.MemoryLemmas.{GoesOn, IsNoService, index_inside, not_inside, service_elsewhere}
use Rattle.ring_table.proofs.LoadLemmas.{Ok, May, sees}

-- ---- headers

pub padding_bits : (type_id : ℤ) → FitsSigned w32 type_id → cast_unsigned w32 type_id ≡ 2 ^ 32 - 1 → type_id ≡ padding_type
padding_bits type_id fits e = sym (to_z-of_z w32 type_id fits) ∙ ap (cast_signed w32) e

pub one_type_id : (a b : ℤ) → FitsSigned w32 a → FitsSigned w32 b → cast_unsigned w32 a ≡ cast_unsigned w32 b → a ≡ b
one_type_id a b fits_a fits_b e = sym (to_z-of_z w32 a fits_a) ∙ ap (cast_signed w32) e ∙ to_z-of_z w32 b fits_b

-- a length of 0 or less as bits
pub not_positive : (len : ℤ) → FitsSigned w32 len → len ≤ℤ pos 0
    → ¬ ((0 < cast_unsigned w32 len) × (cast_unsigned w32 len < 2 ^ 31))
not_positive (pos n) fits le t = omega (arith, ints)
not_positive (negsuc n) fits le t = omega (arith, fits.sfits)

module _ (B : Bodies) (C start : ℕ) where
  -- the consumer steps: one word changes, and the consumer is at `now`
  pub consumed : (words : List ℕ) (views : List View) (r : Kept B C start words views) (id : ℕ) (v : View)
      → get_elem? views id ≡ some v → v.consumes ≡ true → (i value : ℕ) (now : ConsumerView) (log : List (ℕ × ℕ))
      → IsMemory B C start (set words i value) (all_of r.hist) now → IsNoService C i → GoesOn r.consumer now
      → Kept B C start (set words i value) (set views id (record v { consumer = now; log = log }))
  consumed words views r id v at consumes i value now log m away on =
      let rises = on.rises in
      let top : ℕ = staged_end start (all_of r.hist) in
      let own = r.seated.each id v at in
      let mine = own.consumes consumes in
      let w : View = record v { consumer = now; log = log } in
      let served = λ (j : ℕ) (u : View) (k : Knows top r.hist r.reader r.consumer r.drawn j u).
      subst (λ l. AreServed r.drawn l (u.producer.service ∷ u.producer.joined)) (sym on.same) k.served in
      becomes B C start words views r id v at (set words i value) r.hist now r.drawn w (record {
        memory = m;
        service = service_elsewhere B C start r.lawful words r.consumer r.drawn r.service i value away now on;
        steps = record {
          own = knows_on own refl rises (served id v own) (λ _. (mine.0, refl));
          others = λ j u ne k.
              knows_on k refl rises (served j u k) (λ z. absurd (ne ((k.consumes z).0 ∙ sym mine.0)));
          shares = refl;
          outside = λ j ne. refl;
          latest = sees_top_after views id v w top top at (λ rich. rich) refl
              (λ e. e) r.seated.latest;
          drawn = λ x. refl;
        };
      })

  -- the read comes to q, in this run
  comes : (s : State ℕ View) (r : Ok B C start s) (id : ℕ) (v : View) → get_elem? s.views id ≡ some v
      → v.consumes ≡ true → (q : ℕ) (got : List PlacedMessage) → Reaches q start (all_of r.hist) got
      → r.consumer.cleared ≤ q → (run : Run) (log : List (ℕ × ℕ))
      → Kept B C start s.words
      (set s.views id (record v { consumer = record (scanned q got v.consumer) { run = run }; log = log }))
  comes s r id v at consumes q got reaches le run log =
      let m = r.memory in
      let mine = ((r.seated.each id v at).consumes consumes).1 in
      let inside = index_inside B C start r.lawful q in
      let i : ℕ = index C q in
      let come : ConsumerView → ConsumerView = λ c. record (scanned q got c) { run = run } in
      let now : ConsumerView = come r.consumer in
      subst (λ (z : List ℕ × ConsumerView). Kept B C start z.0 (set s.views id (record v { consumer = z.1; log = log })))
      (λ k. (set-get_or s.words i 0 k, come (sym mine k)))
      (consumed s.words s.views r id v at consumes i (slice_index s.words i) now log
      (subst (λ l. IsMemory B C start l (all_of r.hist) now) (sym (set-get_or s.words i 0)) (record {
        wide = m.wide;
        placed = m.placed;
        tail_is = m.tail_is;
        limit = m.limit;
        room = m.room;
        head_is = m.head_is;
        took = m.took;
        passed = reaches;
        clears_from = m.clears_from;
        clears_to = le;
        clears_words = m.clears_words;
        shows = m.shows;
      }))
      (record {
        cache = λ e. omega arith;
        correlation = λ e. omega arith;
        heartbeat = λ e. omega arith;
        unnamed = λ j un. not_inside B C start r.lawful q j un.behind;
      })
      (record { rises = omega arith; same = refl }))

  -- the same as a word is loaded
  pub scans : (s : State ℕ View) (r : Ok B C start s) (id : ℕ) (v : View) → get_elem? s.views id ≡ some v
      → v.consumes ≡ true → (q : ℕ) (got : List PlacedMessage) → Reaches q start (all_of r.hist) got
      → r.consumer.cleared ≤ q → (p n : ℕ) (run : Run)
      → Kept B C start (set s.words (index C p) (slice_index s.words (index C p)))
      (set s.views id (with_run run (with_scan (index C p) n q got v)))
  scans s r id v at consumes q got reaches le p n run =
      subst (λ l. Kept B C start l (set s.views id (with_run run (with_scan (index C p) n q got v))))
      (sym (set-get_or s.words (index C p) 0))
      (comes s r id v at consumes q got reaches le run (v.log ++ (index C p, n) ∷ []))

  -- the read comes to another run
  pub reruns : (s : State ℕ View) (r : Ok B C start s) (id : ℕ) (v : View) → get_elem? s.views id ≡ some v
      → v.consumes ≡ true → (run : Run) → Kept B C start s.words (set s.views id (with_run run v))
  reruns s r id v at consumes run =
      let mine = ((r.seated.each id v at).consumes consumes).1 in
      let to = r.memory.clears_to in
      let scan : v.consumer.scan ≡ r.consumer.scan = ap (λ (z : ConsumerView). z.scan) mine in
      comes s r id v at consumes v.consumer.scan v.consumer.got
      (subst (λ (z : ConsumerView). Reaches z.scan start (all_of r.hist) z.got) (sym mine) r.memory.passed)
      (omega arith) run v.log

  -- a load of a header at the position q, which the head or the read has reached with the messages got
  loads_header : (q : ℕ) (got : List PlacedMessage) (slots id : ℕ) (me : Mine) → me.0.capacity ≡ C
      → me.0.consumes ≡ true → (s : State ℕ View) (r : Ok B C start s) → get_elem? s.views id ≡ some me.0
      → Reaches q start (all_of r.hist) got → (r.consumer.cleared ≤ q) × (q < r.consumer.head + C)
      → May B C start s (index C q) id me (λ me'. (me'.1 ≡ me.1)
      × LoadsHeader me.0.capacity q got (with_run (no_run q) me.0) (shown_header B (slice_index s.words (index C q))) me'.0
      × Logs (index C q) (shown_header B (slice_index s.words (index C q))) me.0 me'.0) (slice_index s.words (index C q))
  loads_header q got slots id me cap consumes s r at reaches ahead =
      let le = ahead.0 in
      let near = ahead.1 in
      let v : View = me.0 in
      let w : ℕ = slice_index s.words (index C q) in
      let n : ℕ = shown_header B w in
      let low : ℕ = n % 2 ^ 32 in
      let low_is : low ≡ w % 2 ^ 32 = shown_low B w in
      let high : ℕ = n / 2 ^ 32 in
      let h : OwnedHistory = r.hist in
      let m = r.memory in
      let law = r.lawful in
      let least = law.capacity.least in
      let limit = m.limit in
      let start8 = start_aligned C start law in
      let q8 : q % 8 ≡ 0 = reach_aligned C q start (all_of h) got (omega arith)
      (capacity_aligned C law.capacity) start8 m.placed reaches in
      let is : staged_word_at B (all_of h) q ≡ w =
      sym (m.shows q q8 (omega arith) near ∙ ap (λ b. cond b 0 (staged_word_at B (all_of h) q))
      (le-ltb q r.consumer.cleared le)) in
      let u : View = with_run (no_run q) v in
      let now = λ (to : ℕ) (g : List PlacedMessage). with_scan (index C q) n to g u in
      let Told : View → Type 0 = LoadsHeader me.0.capacity q got u n in
      let no_length = λ (none : ¬ ((0 < low) × (low < 2 ^ 31))).
      let told : Told (now q got) = record {
        capacity = refl;
        stays = record { producer = refl; out = refl; consumes = refl; head = refl; run = refl };
        padding = λ len some small e. let t = halves len padding_type small e in let len_is =
            t.0 in absurd (none (omega arith, omega arith));
        message = λ len type_id some small fits other e. let t = halves len type_id small e in let len_is =
            t.0 in absurd (none (omega arith, omega arith));
        unpublished = λ len type_id _ _ _ _. ap (λ c. with_scan (index c q) n q got u) (sym cap);
      } in
      let step : May B C start s (index C q) id me
      (λ me'. (me'.1 ≡ me.1) × Told me'.0 × Logs (index C q) n me.0 me'.0) w =
      (now q got, keeps, tt, scans s r id v at consumes q got reaches le q n (no_run q), (refl, told, refl)) in step in
      ⊎_elim (λ (lo : 0 < low). ⊎_elim (λ (hi : low < 2 ^ 31).
      let t : Leads C q start (all_of h) got n =
      leads B C q start (all_of h) got w law.capacity (record { whole = start8; placed = m.placed }) reaches is
      (record { above = omega arith; below = omega arith }) in
      let far : ℕ = q + rounded low in
      let positive = λ (len type_id : ℤ) (fits : FitsSigned w32 len) (le : len ≤ℤ pos 0) (e : n ≡ header len type_id).
      let bits : low ≡ cast_unsigned w32 len = ap (λ k. k % 2 ^ 32) e ∙ low_half len type_id fits in
      let none = not_positive len fits le in
      let no : ⊥ = none (omega arith, omega arith) in no in
      dite (ℕ_discrete high (2 ^ 32 - 1))
      (λ pad.
      let on = t.padding pad in
      let bounds = reach_bounds C far start (all_of h) got m.placed on in
      let below = bounds.1 in
      let told : Told (now far got) = record {
        capacity = refl;
        stays = record { producer = refl; out = refl; consumes = refl; head = refl; run = refl };
        padding = λ len some small e.
            let halves_are = halves len padding_type small e in
            record {
              view = λ i. with_scan (index (sym cap i) q) n (q + rounded (halves_are.0 i)) got u;
              inside = subst (λ (z : ℕ × ℕ). IsInside z.0 q (rounded z.1)) (λ i. (sym cap i, halves_are.0 i))
                  (record { limit = omega arith; within = t.within });
            };
        message = λ len type_id some small fits other e. let halves_are =
            halves len type_id small e in absurd (other (padding_bits type_id fits (sym halves_are.1 ∙ pad)));
        unpublished = λ len type_id fits _ le e. absurd (positive len type_id fits le e);
      } in
      (now far got, keeps, tt, scans s r id v at consumes far got on (omega arith) q n (no_run q), (refl, told, refl)))
      (λ other.
      let found = t.message other in
      let all : List PlacedMessage = got ++ (record { place = q; message = found.message }) ∷ [] in
      let bounds = reach_bounds C far start (all_of h) all m.placed found.reaches in
      let told : Told (now far all) = record {
        capacity = refl;
        stays = record { producer = refl; out = refl; consumes = refl; head = refl; run = refl };
        padding = λ len some small e. let halves_are = halves len padding_type small e in absurd (other halves_are.1);
        message = λ len type_id some small fits not_pad e.
            let halves_are = halves len type_id small e in
            let types : found.message.type_id ≡ type_id =
            one_type_id found.message.type_id type_id found.lawful.type_fits fits (found.type_is ∙ halves_are.1) in
            record {
              body = found.message.body;
              len_is = found.len_is ∙ halves_are.0;
              message = subst (λ (z : ℕ × ℤ). IsMessage z.0 (record { type_id = z.1; body = found.message.body }))
                  (λ i. (sym cap i, types i)) found.lawful;
              view = λ i. with_scan (index (sym cap i) q) n (q + rounded (halves_are.0 i))
                  (got ++ (record { place = q; message = record { type_id = types i; body = found.message.body } })
                  ∷ []) u;
              inside = subst (λ (z : ℕ × ℕ). IsInside z.0 q (rounded z.1)) (λ i. (sym cap i, halves_are.0 i))
                  (record { limit = omega arith; within = t.within });
            };
        unpublished = λ len type_id fits _ le e. absurd (positive len type_id fits le e);
      } in
      (now far all, keeps, tt, scans s r id v at consumes far all found.reaches (omega arith) q n (no_run q), (refl, told, refl))))
      (λ (hi : 2 ^ 31 ≤ low). no_length (λ t. let above = t.1 in omega arith)) (cases_lt low (2 ^ 31)))
      (λ (lo : low ≤ 0). no_length (λ t. omega arith)) (cases_lt 0 low)

  pub loads_first : (slots id : ℕ) (me : Mine) → me.0.capacity ≡ C → me.0.consumes ≡ true
      → me.0.consumer.cleared ≡ me.0.consumer.head
      → Allows (Ok B C start) slots id me (index C me.0.consumer.head) (λ n. n)
      (λ n me'. (me'.1 ≡ me.1)
      × LoadsHeader me.0.capacity me.0.consumer.head me.0.consumer.taken
      (with_run (no_run me.0.consumer.head) me.0) (shown_header B n) me'.0
      × Logs (index C me.0.consumer.head) (shown_header B n) me.0 me'.0)
  loads_first slots id me cap consumes none_cleared s r wide at small =
      let mine = ((r.seated.each id me.0 at).consumes consumes).1 in
      let heads : me.0.consumer.head ≡ r.consumer.head = ap (λ (z : ConsumerView). z.head) mine in
      let cleared : me.0.consumer.cleared ≡ r.consumer.cleared = ap (λ (z : ConsumerView). z.cleared) mine in
      loads_header me.0.consumer.head me.0.consumer.taken slots id me cap consumes s r at
      (subst (λ (z : ConsumerView). Reaches z.head start (all_of r.hist) z.taken) (sym mine) r.memory.took)
      (omega arith, omega arith)

  pub loads_next : (slots id : ℕ) (me : Mine) → me.0.capacity ≡ C → me.0.consumes ≡ true
      → me.0.consumer.scan < me.0.consumer.head + C
      → Allows (Ok B C start) slots id me (index C me.0.consumer.scan) (λ n. n)
      (λ n me'. (me'.1 ≡ me.1)
      × LoadsHeader me.0.capacity me.0.consumer.scan me.0.consumer.got
      (with_run (no_run me.0.consumer.scan) me.0) (shown_header B n) me'.0
      × Logs (index C me.0.consumer.scan) (shown_header B n) me.0 me'.0)
  loads_next slots id me cap consumes near s r wide at small =
      let mine = ((r.seated.each id me.0 at).consumes consumes).1 in
      let heads : me.0.consumer.head ≡ r.consumer.head = ap (λ (z : ConsumerView). z.head) mine in
      let scan : me.0.consumer.scan ≡ r.consumer.scan = ap (λ (z : ConsumerView). z.scan) mine in
      loads_header me.0.consumer.scan me.0.consumer.got slots id me cap consumes s r at
      (subst (λ (z : ConsumerView). Reaches z.scan start (all_of r.hist) z.got) (sym mine) r.memory.passed)
      (omega arith, omega arith)

module _ (C start : ℕ) where
  pub loads_body : (slots id i : ℕ) (me : Mine) → me.0.capacity ≡ C → me.0.consumes ≡ true
      → Allows (Ok in_words C start) slots id me i (λ n. n)
      (λ n me'. (me'.1 ≡ me.1) × (me'.0 ≡ logged i n me.0) × LoadsBody i me.0 n)
  loads_body slots id i me cap consumes s r wide at small =
      let v : View = me.0 in
      let n : ℕ = slice_index s.words i in
      let own = r.seated.each id v at in
      let mine = (own.consumes consumes).1 in
      let h : OwnedHistory = r.hist in
      let law = r.lawful in
      let m = r.memory in
      let cleared : v.consumer.cleared ≡ r.consumer.cleared = ap (λ (z : ConsumerView). z.cleared) mine in
      let reaches = subst (λ (z : ConsumerView). Reaches z.scan start (all_of h) z.got) (sym mine) m.passed in
      let bounds = reach_bounds C v.consumer.scan start (all_of h) v.consumer.got m.placed reaches in (
        logged i n v,
        keeps,
        tt,
        sees in_words C start s.words s.views r id i v at v.producer.seen_tail v.producer.seen_head _
            (omega arith) own.tail_seen own.head_seen,
        (
          refl,
          refl,
          λ k msg o has le o8 lt same.
              let p : ℕ = msg.place + 8 + o in
              let b = shows_body C v.consumer.scan start (all_of h) v.consumer.got k msg o
              (record { some = omega arith; whole = capacity_aligned C law.capacity })
              (record { whole = start_aligned C start law; placed = m.placed }) reaches has lt in
              ap (λ z. get_or s.words z 0) (sym same ∙ ap (λ z. index z p) cap)
              ∙ m.shows p (omega arith) (omega arith) (omega arith)
              ∙ ap (λ z. cond z 0 (staged_word_at in_words (all_of h) p)) (le-ltb p r.consumer.cleared (omega arith))
              ∙ b.word,
        ),
      )
