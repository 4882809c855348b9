-- The consumer's loads of marks keep the rule.
use Rattle.std.proofs.Common.{◌≡◌, ◌≢◌, ◌⊎◌, ℕ, suc, ◌+◌, ◌-◌, ◌/◌, ◌%◌, ◌^◌, ◌≤◌, ◌<◌, List, [], ◌∷◌, ◌++◌, true, set, slice_index, sym, refl, ap, ◌∙◌, subst, inl, inr, ⊎_elim, length, eq-eqb, arith, w32}
use Rattle.std.{specs.Int.cast_unsigned, proofs.lemmas.Bool.cond-true, proofs.lemmas.List.set-get_or}
use Rattle.std.proofs.Math.{Option.Option, Option.some, Logic.dite, Decide.ℕ_discrete, ListN.get_elem?}
use Rattle.atomic_table.specs.Table.{State, Act, Allows, Valid, keeps, carried_after, homes_after}
use Rattle.atomic_table.proofs.Lists.{set_here}
use Rattle.ring_layout.specs.Marks.{committed_kind, open_kind, padding_kind, aborted_kind}
use Rattle.ring_layout.{specs.History.IsMessage, proofs.ListLemmas.at_below}
use Rattle.ring_layout.specs.{Places.index, Places.rounded, Headers.padding_header, Headers.committed_header}
use Rattle.ring_table.specs.Staged.{elsewhere, slot_bytes, PlacedMessage, shown_header, staged_word_at}
use Rattle.ring_table.specs.{Owners.all_of, ConsumerSteps.with_scan, ConsumerSteps.IsInside, ConsumerSteps.LoadsHeader}
use Rattle.ring_table.specs.{Passing.Reaches, Rule.Kept, Ranges.numbered}
use Rattle.ring_table.specs.Views.{ConsumerView, Logs, Run, View, no_run, with_run}
use Rattle.ring_table.specs.{Shelf.IsShelf, ProducerSteps.Mine, SlotSteps.with_out, SlotSteps.HasBody, SlotSteps.IsLent}
use Rattle.ring_table.proofs.{RangeLemmas.first_of_some, StagedPlaces.start_aligned, ShelfLemmas.stepped_shelf}
use Rattle.ring_table.proofs.{SlotBytes.first_word_of, SlotBytes.length_slot, OutLemmas.lends_body, OutLemmas.set_twice}
use Rattle.ring_table.specs.Marks.{bytes_of, kind_of, IsCommitted, KeepsMarks, LoadsInRun, LoadsMark, ReadsRun, TakesRecord}
use Rattle.ring_table.proofs.{ReachLemmas.reach_bounds, ConsumeLemmas.scans, CarryLemmas.carries_same}
use Rattle.ring_table.proofs.HeaderReads.{shown_low, shown_other, Leads, leads}
use Rattle.ring_table.proofs.MarkWords.{bytes_plain, whole_bytes, kind_aborted, kind_committed, kind_open, kind_padding}
use Rattle.ring_table.proofs.MarkSteps.{Marked, header_near, remarked_by, with_headers}
use Rattle.ring_table.proofs.RunLemmas.{above_at, begins_at, begins_head, full_at, head_now, header_at, mark_at, reads_nothing, reads_on, reads_past, shown_at, whole_at}
use Rattle.ring_table.proofs.LoadsHeaders.{told_none, told_padding, told_message}

-- a header of padding as the formats have it
padding_shown : (h : ℕ) → h / 2 ^ 32 ≡ 2 ^ 32 - 2 → shown_header elsewhere h / 2 ^ 32 ≡ 2 ^ 32 - 1
padding_shown h pad =
    ap (λ k. k / 2 ^ 32) (cond-true _ (h + 2 ^ 32) h (eq-eqb (h / 2 ^ 32) (2 ^ 32 - 2) pad)) ∙ omega arith

-- ---- steps

module _ (C start : ℕ) (s : State ℕ View) (m : KeepsMarks C start s.words s.homes s.views) (id : ℕ) (v : View)
    (at : get_elem? s.views id ≡ some v) (consumes : v.consumes ≡ true) (bare : v.out ≡ []) where
  -- the words stay as the seat gets the view w
  kept_words : (w : View) (homes : List (Option ℕ)) (j : ℕ) → w.consumes ≡ true → w.consumer.head ≡ v.consumer.head
      → w.consumer.cleared ≡ v.consumer.cleared → Kept elsewhere C start m.headers (set s.views id w)
      → IsShelf C homes (set s.views id w)
      → ReadsRun C (head_now C start s m) w.consumer.scan w.consumer.run (header_at C start s m) m.ends (mark_at C start s m)
      → KeepsMarks C start (set s.words j (slice_index s.words j)) homes (set s.views id w)
  kept_words w homes j still head cleared kept shelf reads =
      let mine = ((m.kept.seated.each id v at).consumes consumes).1 in
      let heads : v.consumer.head ≡ m.kept.consumer.head = ap (λ (z : ConsumerView). z.head) mine in
      let clears : v.consumer.cleared ≡ m.kept.consumer.cleared = ap (λ (z : ConsumerView). z.cleared) mine in
      subst (λ z. KeepsMarks C start z homes (set s.views id w)) (sym (set-get_or s.words j 0))
      (remarked_by C start s.words m.headers m.ends homes (set s.views id w) id w (head_now C start s m) kept shelf
      (set_here s.views id w (at_below s.views id v at)) still
      (head ∙ heads, cleared ∙ clears ∙ m.none_cleared) m.encodes reads)

  -- the read comes to a position, in this run
  module _ (far : ℕ) (all : List PlacedMessage) (reaches : Reaches far start (all_of m.kept.hist) all)
      (le : m.kept.consumer.cleared ≤ far) (run : Run) (p n : ℕ) where
    abbrev come : View
    come = with_run run (with_scan (index C p) n far all v)

    come_kept : Kept elsewhere C start m.headers (set s.views id come)
    come_kept = subst (λ l. Kept elsewhere C start l (set s.views id come)) (set-get_or m.headers (index C p) 0)
        (scans elsewhere C start (with_headers C start s m.headers) m.kept id v at consumes far all reaches le p n run)

    come_shelf : IsShelf C s.homes (set s.views id come)
    come_shelf = stepped_shelf C s.homes s.views m.shelf id v at bare come bare (carries_same refl refl refl)

    comes : (j : ℕ) → ReadsRun C (head_now C start s m) far run (header_at C start s m) m.ends (mark_at C start s m)
        → KeepsMarks C start (set s.words j (slice_index s.words j)) s.homes (set s.views id come)
    comes j reads = kept_words come s.homes j consumes refl refl come_kept come_shelf reads

-- what a step may do with the mark at the position q
abbrev pub MayReadAs : ℕ → ℕ → ℕ → State ℕ View → ℕ → List PlacedMessage → ℕ → Mine → Type 0
MayReadAs C start D s q got id me = (w : View) × (a : Act ℕ) × Valid s.homes me.1 a
    × KeepsMarks C start (set s.words (index C q) (slice_index s.words (index C q))) (homes_after s.homes me.1 a)
    (set s.views id w) × LoadsMark D q got me (slice_index s.words (index C q)) (w, carried_after me.1 a)

abbrev pub MayRead : ℕ → ℕ → State ℕ View → ℕ → List PlacedMessage → ℕ → Mine → Type 0
MayRead C start = MayReadAs C start C

module _ (C start slots : ℕ) (q : ℕ) (got : List PlacedMessage) (id : ℕ) (me : Mine) (cap : me.0.capacity ≡ C)
    (consumes : me.0.consumes ≡ true) (bare : me.0.out ≡ []) (empty : me.1 ≡ []) (s : State ℕ View)
    (m : KeepsMarks C start s.words s.homes s.views) (wide : length s.homes ≡ slots)
    (at : get_elem? s.views id ≡ some me.0)
    (reaches : Reaches q start (all_of m.kept.hist) got)
    (ahead : (m.kept.consumer.cleared ≤ q) × (q < m.kept.consumer.head + C)) where
  -- the header there
  abbrev header_here : ℕ
  header_here = header_at C start s m q

  on_head : m.kept.consumer.head ≤ q
  on_head = let none = m.none_cleared in let low = ahead.0 in omega arith

  -- nothing is settled there
  reads_none : (n : ℕ) → mark_at C start s m q ≡ n → begins_at C start s m q → (n ≤ q) ⊎ (n % 8 ≡ open_kind)
      → MayRead C start s q got id me
  reads_none n is begins quiet =
      let v : View = me.0 in
      let run : Run = no_run q in
      let w : View = with_run run (with_scan (index C q) 0 q got v) in
      let read : LoadsMark C q got me n (w, me.1) = record {
        header = 0;
        loads = subst (λ c. LoadsHeader c q got (with_run run v) 0 w) cap (told_none C q got (with_run run v) cap);
        logs = refl;
        quiet = λ _. (refl, refl, refl, refl);
        passes = λ above no_open no_commit. ⊎_elim (λ (le : n ≤ q). absurd (omega arith))
            (λ (kind : n % 8 ≡ open_kind). absurd (no_open kind)) quiet;
        message = λ above kind. ⊎_elim (λ (le : n ≤ q). absurd (omega arith))
            (λ (other : n % 8 ≡ open_kind). absurd (omega arith)) quiet;
      } in (
        w,
        keeps,
        tt,
        comes C start s m id v at consumes bare q got reaches ahead.0 run q 0 (index C q)
            (reads_nothing C start s m q got reaches on_head begins),
        subst (λ z. LoadsMark C q got me z (w, me.1)) (sym is) read,
      )

  -- padding, or an aborted record, of b bytes
  reads_padding : (n b kind : ℕ) → mark_at C start s m q ≡ n → n ≡ q + b + kind → q % 8 ≡ 0 → 0 < b → b < 2 ^ 31
      → b % 8 ≡ 0 → (kind < 8) × (kind ≢ open_kind) × (kind ≢ committed_kind) → IsInside C q b
      → Reaches (q + b) start (all_of m.kept.hist) got
      → ReadsRun C (head_now C start s m) (q + b) (record { from = q; to = q + b }) (header_at C start s m) m.ends
      (mark_at C start s m) → MayRead C start s q got id me
  reads_padding n b kind is n_is q8 full small b8 kinds inside on reads =
      let v : View = me.0 in
      let below = kinds.0 in
      let kind_is : n % 8 ≡ kind = omega arith in
      let back : q + b ≡ n - n % 8 = omega arith in
      let run : Run = record { from = q; to = q + b } in
      let w : View = with_run run (with_scan (index C q) (padding_header b) (q + b) got v) in
      let size : b ≡ n - n % 8 - q = omega arith in
      let low = ahead.0 in
      let read : LoadsMark C q got me n (w, me.1) = record {
        header = padding_header b;
        loads = subst (λ c. LoadsHeader c q got (with_run run v) (padding_header b) w) cap
            (told_padding C q got (with_run run v) cap b full small b8 inside);
        logs = refl;
        quiet = λ quiet. ⊎_elim (λ (le : n ≤ q). absurd (omega arith))
            (λ (other : n % 8 ≡ open_kind). absurd (kinds.1 (sym kind_is ∙ other))) quiet;
        passes = λ _ _ _. (
          ap padding_header size,
          refl,
          refl,
          omega arith,
          omega arith,
          λ k. record { from = q; to = back k },
        );
        message = λ above other. absurd (kinds.2 (sym kind_is ∙ other));
      } in (
        w,
        keeps,
        tt,
        comes C start s m id v at consumes bare (q + b) got on (omega arith) run q (padding_header b) (index C q) reads,
        subst (λ z. LoadsMark C q got me z (w, me.1)) (sym is) read,
      )

  -- ---- the message pm, whose record has b bytes and the header h; the read is in this run then
  module _ (b h : ℕ) (pm : PlacedMessage) (run : Run) (b_is : b ≡ rounded (8 + length pm.message.body)) (place : pm.place ≡ q)
      (h_is : h ≡ committed_header pm.message.type_id (length pm.message.body)) (fits : h < 18446744073709551616)
      (lawful : IsMessage C pm.message) (small : 8 + length pm.message.body < 2 ^ 31) (inside : IsInside C q b)
      (on : Reaches (q + b) start (all_of m.kept.hist) (got ++ pm ∷ []))
      (reads : ReadsRun C (head_now C start s m) (q + b) run (header_at C start s m) m.ends (mark_at C start s m)) where
    -- what the step does, at any word
    record TakesIt (j : ℕ) : Type 0 where
      pub view : View
      pub act : Act ℕ
      pub valid : Valid s.homes me.1 act
      pub kept : KeepsMarks C start (set s.words j (slice_index s.words j)) (homes_after s.homes me.1 act)
          (set s.views id view)
      pub loads : LoadsHeader C q got (with_run run me.0) h (with_out me.0.out view)
      pub logs : Logs (index C q) h me.0 view
      pub takes : TakesRecord C q h (view, carried_after me.1 act)
      pub in_run : view.consumer.run ≡ run

    takes_it : (j : ℕ) → TakesIt j
    takes_it j =
        let v : View = me.0 in
        let r = m.kept in
        let low = ahead.0 in
        let q8 : q % 8 ≡ 0 = whole_at C start s m q got reaches on_head in
        let mine = ((r.seated.each id v at).consumes consumes).1 in
        let cleared : v.consumer.cleared ≡ r.consumer.cleared = ap (λ (z : ConsumerView). z.cleared) mine in
        let all : List PlacedMessage = got ++ pm ∷ [] in
        let w1 : View = with_run run (with_scan (index C q) h (q + b) all v) in
        let kept1 = come_kept C start s m id v at consumes bare (q + b) all on (omega arith) run q h in
        let shelf1 = come_shelf C start s m id v at consumes bare (q + b) all on (omega arith) run q h in
        let s1 : State ℕ View = record { words = m.headers; homes = s.homes; views = set s.views id w1 } in
        let q_small = (header_near C start m.headers s.views r q q8 on_head ahead.1).small in
        let t = lends_body C start slots id (w1, me.1) cap bare empty consumes got pm refl (omega arith) s1 (kept1, shelf1)
        wide (set_here s.views id w1 (at_below s.views id v at))
        (subst (λ z. slice_index m.headers (index C z) < 18446744073709551616) (sym place) q_small) in
        let w2 : View = t.0 in
        let told = t.4 got pm refl in
        let views_are : set (set s.views id w1) id w2 ≡ set s.views id w2 = set_twice s.views id w1 w2 in
        let kept2 : Kept elsewhere C start m.headers (set s.views id w2) =
        subst (λ (z : List ℕ × List View). Kept elsewhere C start z.0 z.1)
        (λ i. (set-get_or m.headers (index C pm.place) 0 i, views_are i)) t.3.0 in
        let shelf2 : IsShelf C (homes_after s.homes me.1 t.1) (set s.views id w2) =
        subst (IsShelf C (homes_after s.homes me.1 t.1)) views_are t.3.1 in
        record {
          view = w2;
          act = t.1;
          valid = t.2;
          kept = kept_words C start s m id v at consumes bare w2 (homes_after s.homes me.1 t.1) j
              (ap (λ (z : View). z.consumes) told.0 ∙ consumes) (ap (λ (z : View). z.consumer.head) told.0)
              (ap (λ (z : View). z.consumer.cleared) told.0) kept2 shelf2
              (subst (λ (z : View). ReadsRun C (head_now C start s m) z.consumer.scan z.consumer.run (header_at C start s m)
              m.ends (mark_at C start s m)) (sym told.0) reads);
          loads = subst (λ (z : View). LoadsHeader C q got (with_run run v) h (with_out v.out z)) (sym told.0)
              (subst (λ c. LoadsHeader c q got (with_run run v) h w1) cap
              (told_message C q got (with_run run v) cap pm h b place h_is lawful small b_is inside));
          logs = ap (λ (z : View). z.log) told.0;
          takes = (
            record {
              last = record {
                front = got;
                message = pm;
                got = ap (λ (z : View). z.consumer.got) told.0;
                place_is = place;
                ahead = subst (λ (z : View). z.consumer.cleared ≤ pm.place) (sym told.0) (omega arith);
              };
              out_is = ap (λ (z : View). z.out) told.0;
              slots = subst (λ z. HasBody (index C z) (slot_bytes pm.message) (carried_after me.1 t.1)) place told.1;
            },
            h_is,
            fits,
          );
          in_run = ap (λ (z : View). z.consumer.run) told.0;
        }

  -- what a committed record there is
  record IsMessageHere : Type 0 where
    pub message : PlacedMessage
    pub bytes_are : bytes_of header_here ≡ rounded (8 + length message.message.body)
    pub place : message.place ≡ q
    pub header_is : header_here ≡ committed_header message.message.type_id (length message.message.body)
    pub fits : header_here < 18446744073709551616
    pub lawful : IsMessage C message.message
    pub small : 8 + length message.message.body < 2 ^ 31
    pub inside : IsInside C q (bytes_of header_here)
    pub on : Reaches (q + bytes_of header_here) start (all_of m.kept.hist) (got ++ message ∷ [])

  -- what is there
  data Here : Type 0 where
    nothing : (header_here ≡ 0) ⊎ ((header_here ≢ 0) × (kind_of header_here ≡ open_kind)) → Here
    passed : (kind : ℕ) → kind_of header_here ≡ kind → (kind < 8) × (kind ≢ open_kind) × (kind ≢ committed_kind)
        → header_here ≢ 0 → (0 < bytes_of header_here) × (bytes_of header_here < 2 ^ 31)
        → IsInside C q (bytes_of header_here) → Reaches (q + bytes_of header_here) start (all_of m.kept.hist) got → Here
    message : IsCommitted header_here → IsMessageHere → Here

  here : Here
  here =
      let r = m.kept in
      let h : ℕ = header_here in
      let law = r.lawful in
      let least = law.capacity.least in
      let mem = r.memory in
      let limit = mem.limit in
      let near = ahead.1 in
      let start8 = start_aligned C start law in
      let q8 : q % 8 ≡ 0 = whole_at C start s m q got reaches on_head in
      let is : staged_word_at elsewhere (all_of r.hist) q ≡ h = sym (shown_at C start s m q q8 on_head near) in
      let seen = header_near C start m.headers s.views r q q8 on_head near in
      ⊎_elim
      (λ (zero : h ≡ 0). nothing (inl zero))
      (λ t. ⊎_elim
      (λ (plus : (0 < h % 2 ^ 32) × (h % 2 ^ 32 < 2 ^ 31)).
      let low : ℕ = h % 2 ^ 32 in
      let more = plus.0 in
      let less = plus.1 in
      let bytes : bytes_of h ≡ rounded low = bytes_plain h (omega arith) in
      let u : ℕ = shown_header elsewhere h in
      let u_low : u % 2 ^ 32 ≡ low = shown_low elsewhere h in
      let full : h ≢ 0 = λ z. omega arith in
      let led : Leads C q start (all_of r.hist) got u =
      leads elsewhere C q start (all_of r.hist) got h law.capacity (record { whole = start8; placed = mem.placed }) reaches is
      (record { above = more; below = less }) in
      let b_is : rounded (u % 2 ^ 32) ≡ bytes_of h = ap rounded u_low ∙ sym bytes in
      let within : q % C + bytes_of h ≤ C = subst (λ z. q % C + z ≤ C) b_is led.within in
      let inside = λ (on : (gs : List PlacedMessage) × Reaches (q + bytes_of h) start (all_of r.hist) gs).
      let bounds = reach_bounds C (q + bytes_of h) start (all_of r.hist) on.0 mem.placed on.1 in
      let top = bounds.1 in
      let it : IsInside C q (bytes_of h) = record { limit = omega arith; within = within } in it in
      let pads = λ (kind : ℕ) (kind_is : kind_of h ≡ kind) (few : (kind < 8) × (kind ≢ open_kind) × (kind ≢ committed_kind))
      (high : u / 2 ^ 32 ≡ 2 ^ 32 - 1).
      let on : Reaches (q + bytes_of h) start (all_of r.hist) got =
      subst (λ z. Reaches (q + z) start (all_of r.hist) got) b_is (led.padding high) in
      passed kind kind_is few full (omega arith, omega arith) (inside (got, on)) on in
      dite (ℕ_discrete (h / 2 ^ 32) (2 ^ 32 - 2))
      (λ pad. pads padding_kind (kind_padding h (omega arith) pad) (omega arith, (λ e. omega arith), (λ e. omega arith))
      (padding_shown h pad))
      (λ no_pad.
      let same : u ≡ h = shown_other elsewhere h no_pad in
      dite (ℕ_discrete (h / 2 ^ 32) (2 ^ 32 - 1))
      (λ aborted. pads aborted_kind (kind_aborted h (omega arith) aborted)
      (omega arith, (λ e. omega arith), (λ e. omega arith)) (ap (λ z. z / 2 ^ 32) same ∙ aborted))
      (λ other.
      let found = led.message (λ e. other (ap (λ z. z / 2 ^ 32) (sym same) ∙ e)) in
      let pm : PlacedMessage = record { place = q; message = found.message } in
      let len_is : 8 + length found.message.body ≡ low = found.len_is ∙ u_low in
      let type_is : cast_unsigned w32 found.message.type_id ≡ h / 2 ^ 32 = found.type_is ∙ ap (λ z. z / 2 ^ 32) same in
      let on : Reaches (q + bytes_of h) start (all_of r.hist) (got ++ pm ∷ []) =
      subst (λ z. Reaches (q + z) start (all_of r.hist) (got ++ pm ∷ [])) b_is found.reaches in
      message (full, kind_committed h (omega arith) no_pad other) (record {
        message = pm;
        bytes_are = bytes ∙ ap rounded (sym len_is);
        place = refl;
        header_is = omega arith;
        fits = seen.small;
        lawful = found.lawful;
        small = omega arith;
        inside = inside (got ++ pm ∷ [], on);
        on = on;
      }))))
      (λ (negative : 2 ^ 31 < h % 2 ^ 32). nothing (inr ((λ z. omega arith), kind_open h negative)))
      t)
      seen.length_is

  pub reads_mark : begins_at C start s m q → MayRead C start s q got id me
  reads_mark begins = by_case here
    where
      by_case : Here → MayRead C start s q got id me
      by_case (nothing none) =
          let q8 : q % 8 ≡ 0 = whole_at C start s m q got reaches on_head in
          reads_none (mark_at C start s m q) refl begins (⊎_elim
          (λ (zero : header_here ≡ 0). inl (m.encodes.none q q8 on_head ahead.1 zero))
          (λ (is : (header_here ≢ 0) × (kind_of header_here ≡ open_kind)).
          let kind = is.1 in
          let mark = m.encodes.marks q q8 on_head ahead.1 is.0 (λ e. omega arith) in
          let eight = whole_bytes header_here in
          inr (omega arith)) none)
      by_case (passed kind kind_is few full sizes inside on) =
          let q8 : q % 8 ≡ 0 = whole_at C start s m q got reaches on_head in
          let eight = whole_bytes header_here in
          let not_committed : kind_of header_here ≢ committed_kind = λ e. few.2 (sym kind_is ∙ e) in
          let mark = m.encodes.marks q q8 on_head ahead.1 full not_committed in
          let top = (reach_bounds C (q + bytes_of header_here) start (all_of m.kept.hist) got m.kept.memory.placed on).1 in
          let room = m.kept.memory.room in
          reads_padding (mark_at C start s m q) (bytes_of header_here) kind refl
          (mark ∙ ap (λ z. q + bytes_of header_here + z) kind_is) q8 sizes.0 sizes.1 eight few inside on
          (reads_past C start s m q got reaches on_head ahead.1 full (λ is. not_committed is.1) (omega arith))
      by_case (message is found) =
          let q8 : q % 8 ≡ 0 = whole_at C start s m q got reaches on_head in
          let n : ℕ = mark_at C start s m q in
          let marked : n ≡ m.ends q = begins ahead.1 is in
          let o = m.encodes.runs q q8 on_head ahead.1 is in
          let whole = o.whole in
          let above = above_at C start s m q q8 on_head ahead.1 is in
          let full = full_at C start s m q q8 on_head ahead.1 is.0 in
          let run : Run = record { from = q; to = m.ends q } in
          let reads = reads_on C start s m q got reaches on_head q ahead.1 is (on_head, omega arith, q8)
          (λ p p8 p0 p1 _. absurd (omega arith)) begins in
          let t = takes_it (bytes_of header_here) header_here found.message run found.bytes_are found.place found.header_is
          found.fits found.lawful found.small found.inside found.on reads (index C q) in
          let me' : Mine = (t.view, carried_after me.1 t.act) in
          let read : LoadsMark C q got me n me' = record {
            header = header_here;
            loads = subst (λ z. LoadsHeader C q got (with_run z me.0) header_here (with_out me.0.out t.view)) (sym t.in_run) t.loads;
            logs = t.logs;
            quiet = λ quiet. ⊎_elim (λ (le : n ≤ q). absurd (omega arith))
                (λ (other : n % 8 ≡ open_kind). absurd (omega arith)) quiet;
            passes = λ above' no_open no_commit. absurd (no_commit (omega arith));
            message = λ _ _. (t.takes, t.in_run ∙ λ k. record { from = q; to = sym marked k });
          } in
          (t.view, t.act, t.valid, t.kept, read)

  -- inside of a run
  pub reads_in_run : (j : ℕ) → (me.0.consumer.scan ≡ q) × (me.0.consumer.got ≡ got) → q < me.0.consumer.run.to
      → (w : View) × (a : Act ℕ) × Valid s.homes me.1 a
      × KeepsMarks C start (set s.words j (slice_index s.words j)) (homes_after s.homes me.1 a) (set s.views id w)
      × LoadsInRun C q got me (w, carried_after me.1 a)
  reads_in_run j scan more = by_case here
    where
      mine : me.0.consumer ≡ m.kept.consumer
      mine = ((m.kept.seated.each id me.0 at).consumes consumes).1

      knows : ReadsRun C (head_now C start s m) q me.0.consumer.run (header_at C start s m) m.ends (mark_at C start s m)
      knows = subst (λ z. ReadsRun C (head_now C start s m) z me.0.consumer.run (header_at C start s m) m.ends
          (mark_at C start s m)) scan.0
          (subst (λ (z : ConsumerView). ReadsRun C (head_now C start s m) z.scan z.run (header_at C start s m) m.ends
          (mark_at C start s m)) (sym mine) m.reads)

      by_case : Here → (w : View) × (a : Act ℕ) × Valid s.homes me.1 a
          × KeepsMarks C start (set s.words j (slice_index s.words j)) (homes_after s.homes me.1 a) (set s.views id w)
          × LoadsInRun C q got me (w, carried_after me.1 a)
      by_case (nothing none) = let a = knows.ahead more in ⊎_elim (λ (zero : header_here ≡ 0). absurd (a.0.0 zero))
          (λ (is : (header_here ≢ 0) × (kind_of header_here ≡ open_kind)).
          let kind = is.1 in
          let other = a.0.1 in absurd (omega arith)) none
      by_case (passed kind kind_is few full sizes inside on) =
          let a = knows.ahead more in absurd (few.2 (sym kind_is ∙ a.0.1))
      by_case (message is found) =
          let a = knows.ahead more in
          let end : m.ends q ≡ me.0.consumer.run.to = a.1 in
          let reads = reads_on C start s m q got reaches on_head me.0.consumer.run.from ahead.1 is
          (knows.from, knows.passed, knows.whole.0) (λ p p8 p0 p1 is_p. knows.one p p8 p0 p1 is_p ∙ sym end) knows.begins in
          let run : Run = record { from = me.0.consumer.run.from; to = m.ends q } in
          let t = takes_it (bytes_of header_here) header_here found.message run found.bytes_are found.place found.header_is
          found.fits found.lawful found.small found.inside found.on reads j in
          let me' : Mine = (t.view, carried_after me.1 t.act) in
          let read : LoadsInRun C q got me me' = record {
            header = header_here;
            loads = subst (λ z. LoadsHeader C q got (with_run z me.0) header_here (with_out me.0.out t.view)) (sym t.in_run)
                t.loads;
            logs = t.logs;
            message = t.takes;
            run = t.in_run ∙ λ k. record { from = me.0.consumer.run.from; to = end k };
          } in
          (t.view, t.act, t.valid, t.kept, read)

module _ (C start : ℕ) where
  -- at the head, as a read begins
  pub reads_first : (slots id : ℕ) (me : Mine) → me.0.capacity ≡ C → me.0.consumes ≡ true → me.0.out ≡ [] → me.1 ≡ []
      → Allows (Marked C start) slots id me (index C me.0.consumer.head) (λ n. n)
      (λ n me'. LoadsMark me.0.capacity me.0.consumer.head me.0.consumer.taken me n me')
  reads_first slots id me cap consumes bare empty s m wide at small =
      let r = m.kept in
      let mine = ((r.seated.each id me.0 at).consumes consumes).1 in
      let heads : me.0.consumer.head ≡ r.consumer.head = ap (λ (z : ConsumerView). z.head) mine in
      let none_cleared = m.none_cleared in
      let least = r.lawful.capacity.least in
      subst (λ c. MayReadAs C start c s me.0.consumer.head me.0.consumer.taken id me) (sym cap)
      (reads_mark C start slots me.0.consumer.head me.0.consumer.taken id me cap consumes bare empty s m wide at
      (subst (λ (z : ConsumerView). Reaches z.head start (all_of r.hist) z.taken) (sym mine) r.memory.took)
      (omega arith, omega arith) (subst (begins_at C start s m) (sym heads) (begins_head C start s m)))

  -- at the position that the running read has reached, at the end of a run
  pub reads_next : (slots id : ℕ) (me : Mine) → me.0.capacity ≡ C → me.0.consumes ≡ true → me.0.out ≡ [] → me.1 ≡ []
      → me.0.consumer.scan < me.0.consumer.head + C → me.0.consumer.run.to ≤ me.0.consumer.scan
      → Allows (Marked C start) slots id me (index C me.0.consumer.scan) (λ n. n)
      (λ n me'. LoadsMark me.0.capacity me.0.consumer.scan me.0.consumer.got me n me')
  reads_next slots id me cap consumes bare empty near done s m wide at small =
      let r = m.kept in
      let mine = ((r.seated.each id me.0 at).consumes consumes).1 in
      let heads : me.0.consumer.head ≡ r.consumer.head = ap (λ (z : ConsumerView). z.head) mine in
      let scan : me.0.consumer.scan ≡ r.consumer.scan = ap (λ (z : ConsumerView). z.scan) mine in
      let ends : me.0.consumer.run.to ≡ r.consumer.run.to = ap (λ (z : ConsumerView). z.run.to) mine in
      let to = r.memory.clears_to in
      let upto = m.reads.to in
      subst (λ c. MayReadAs C start c s me.0.consumer.scan me.0.consumer.got id me) (sym cap)
      (reads_mark C start slots me.0.consumer.scan me.0.consumer.got id me cap consumes bare empty s m wide at
      (subst (λ (z : ConsumerView). Reaches z.scan start (all_of r.hist) z.got) (sym mine) r.memory.passed)
      (omega arith, omega arith) (subst (begins_at C start s m) (sym scan) (m.reads.stops (omega arith))))

  -- inside of a run, at any word
  pub reads_inner : (slots id : ℕ) (me : Mine) (j : ℕ) → me.0.capacity ≡ C → me.0.consumes ≡ true → me.0.out ≡ []
      → me.1 ≡ [] → me.0.consumer.scan < me.0.consumer.run.to
      → Allows (Marked C start) slots id me j (λ n. n)
      (λ _ me'. LoadsInRun me.0.capacity me.0.consumer.scan me.0.consumer.got me me')
  reads_inner slots id me j cap consumes bare empty more s m wide at small =
      let r = m.kept in
      let mine = ((r.seated.each id me.0 at).consumes consumes).1 in
      let heads : me.0.consumer.head ≡ r.consumer.head = ap (λ (z : ConsumerView). z.head) mine in
      let scan : me.0.consumer.scan ≡ r.consumer.scan = ap (λ (z : ConsumerView). z.scan) mine in
      let ends : me.0.consumer.run.to ≡ r.consumer.run.to = ap (λ (z : ConsumerView). z.run.to) mine in
      let to = r.memory.clears_to in
      let near = m.reads.near in
      let t = reads_in_run C start slots me.0.consumer.scan me.0.consumer.got id me cap consumes bare empty s m wide at
      (subst (λ (z : ConsumerView). Reaches z.scan start (all_of r.hist) z.got) (sym mine) r.memory.passed)
      (omega arith, omega arith) j (refl, refl) more in (
        t.0,
        t.1,
        t.2,
        t.3,
        subst (λ c. LoadsInRun c me.0.consumer.scan me.0.consumer.got me (t.0, carried_after me.1 t.1))
            (sym cap) t.4,
      )

-- the slot in front has the header
pub lent_front : (C place : ℕ) (me : Mine) (l : IsLent C place me)
    → committed_header l.last.message.message.type_id (length l.last.message.message.body) < 2 ^ 64
    → (rest : List (ℕ × ℕ)) × (me.1 ≡ (
      index C place,
      committed_header l.last.message.message.type_id (length l.last.message.message.body),
    ) ∷ rest)
lent_front C place me l small =
    let m = l.last.message.message in
    let long = length_slot m in
    let count = l.slots.count in
    let f = first_of_some l.slots.values (omega arith) in
    let word : f.0 ≡ committed_header m.type_id (length m.body) =
    sym (l.slots.words 0 f.0 (ap (λ z. get_elem? z 0) f.2))
    ∙ first_word_of (committed_header m.type_id (length m.body)) m.body small in (
      numbered (suc (index C place)) f.1,
      l.slots.held_is ∙ ap (numbered (index C place)) f.2
          ∙ ap (λ z. (index C place, z) ∷ numbered (suc (index C place)) f.1) word,
    )
