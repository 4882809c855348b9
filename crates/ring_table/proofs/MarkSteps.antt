-- A step of the rule with headers is one of the rule with marks.
use Rattle.std.proofs.Common.{◌≡◌, ◌≢◌, ℕ, ◌+◌, ◌-◌, ◌*◌, ◌/◌, ◌%◌, ◌≤◌, ◌<◌, List, [], cond, true, set, slice_index, sym, ap, ◌∙◌, subst, ⊎_elim, lt-ltb, le-ltb, arith}
use Rattle.std.proofs.Math.{Option.Option, Option.some, Logic.dite, Decide.ℕ_discrete, ListN.get_elem?}
use Rattle.std.proofs.lemmas.{Bool.cases_lt, List.set-get_or, Nat.mod_below}
use Rattle.atomic_table.specs.Table.{State, Allows, carried_after, homes_after}
use Rattle.atomic_table.proofs.Lists.{set_here, set_else}
use Rattle.ring_layout.specs.{Places.index, Layout.ring_words}
use Rattle.ring_layout.proofs.{Laps.mod_step, Laps.mod_room, Laps.mod_aligned, ListLemmas.at_below}
use Rattle.ring_table.specs.{Staged.Bodies, Staged.in_words, Staged.elsewhere, Staged.staged_word_at, Owners.all_of}
use Rattle.ring_table.specs.{Views.ConsumerView, Views.Run, Views.View, Rule.Kept, Shelf.IsShelf, ProducerSteps.Mine}
use Rattle.std.specs.Prelude.{⊤}
use Rattle.ring_table.specs.Marks.{at_position, bytes_of, mark_of, Encodes, IsCommitted, KeepsIn, KeepsMarks, ReadsRun}
use Rattle.ring_table.proofs.{StagedPlaces.capacity_aligned, ShelfLemmas.CarriesIn, CarryLemmas.Holds, CarryLemmas.lift}
use Rattle.ring_table.proofs.{StepLemmas.one_view, LoadLemmas.Ok}
use Rattle.ring_table.proofs.{MemoryLemmas.index_inside, MemoryLemmas.head_bounds, MarkWords.IsNear, MarkWords.near_all}
use Rattle.ring_table.proofs.EncodeLemmas.{encodes_trailer, reads_trailer, encodes_mark, mark_end, rewrites_mark, reads_beside}

-- each index of the buffer is that of a position in the lap from the head on
pub record HasIndex (C head i : ℕ) : Type 0 where
  pub at : ℕ
  pub whole : at % 8 ≡ 0
  pub from : head ≤ at
  pub below : at < head + C
  pub is : index C at ≡ i

pub position_of : (C head i : ℕ) → 0 < C → C % 8 ≡ 0 → head % 8 ≡ 0 → i < C / 8 → HasIndex C head i
position_of C head i pos c8 head8 inside =
    let x : ℕ = head % C in
    let x_low : x < C = mod_below head C pos in
    let x8 : x % 8 ≡ 0 = mod_aligned C head c8 head8 in
    ⊎_elim
    (λ (before : 8 * i < x).
    let base : ℕ = head + (C - x) in
    let zero_there : base % C ≡ 0 = mod_room C head pos in
    let step : (base + 8 * i) % C ≡ base % C + 8 * i = mod_step C base (8 * i) (omega arith) in
    record {
      at = base + 8 * i;
      whole = omega arith;
      from = omega arith;
      below = omega arith;
      is = omega arith;
    })
    (λ (behind : x ≤ 8 * i).
    let step : (head + (8 * i - x)) % C ≡ x + (8 * i - x) = mod_step C head (8 * i - x) (omega arith) in
    record {
      at = head + (8 * i - x);
      whole = omega arith;
      from = omega arith;
      below = omega arith;
      is = omega arith;
    })
    (cases_lt (8 * i) x)

-- the reader's part is as it was: what is cleared, the head, how far the read has come, and the run
pub record SameReader (c d : ConsumerView) : Type 0 where
  pub cleared : d.cleared ≡ c.cleared
  pub head : d.head ≡ c.head
  pub scan : d.scan ≡ c.scan
  pub run : d.run ≡ c.run

pub same_reader : {c d : ConsumerView} → d ≡ c → SameReader c d
same_reader same = record {
  cleared = ap (λ (z : ConsumerView). z.cleared) same;
  head = ap (λ (z : ConsumerView). z.head) same;
  scan = ap (λ (z : ConsumerView). z.scan) same;
  run = ap (λ (z : ConsumerView). z.run) same;
}

-- what a step leaves of the consumer's part
pub record Rests (v w : View) : Type 0 where
  pub stays : v.consumes ≡ true → w.consumes ≡ true
  pub same : v.consumes ≡ true → SameReader v.consumer w.consumer

pub rests_same : {v w : View} → w.consumes ≡ v.consumes → w.consumer ≡ v.consumer → Rests v w
rests_same kind same = record { stays = λ consumes. kind ∙ consumes; same = λ _. same_reader same }

-- what a seat's view is after a step, whose consumer's part stays
pub rests_as : {v w x : View} → w ≡ x → x.consumes ≡ v.consumes → x.consumer ≡ v.consumer → Rests v w
rests_as {v} {w} {x} is kind same = rests_same {v = v} {w = w} (ap (λ (z : View). z.consumes) is ∙ kind)
    (ap (λ (z : View). z.consumer) is ∙ same)

-- a header h that is to be stored at q, with this mark: no read has passed it, and no record is committed there
pub record LiesAhead (C : ℕ) (headers : List ℕ) (c : ConsumerView) (q h mark : ℕ) : Type 0 where
  pub whole : q % 8 ≡ 0
  pub from : c.scan ≤ q
  pub below : q < c.head + C
  pub mark_is : mark ≡ mark_of q h
  pub near : q + bytes_of h ≤ c.head + C
  pub none : IsCommitted (at_position C headers q) → ⊥

module _ (C start : ℕ) where
  abbrev pub Marked : State ℕ View → Type 0
  Marked s = KeepsMarks C start s.words s.homes s.views

  -- the state that the rule with headers speaks of
  abbrev pub with_headers : State ℕ View → List ℕ → State ℕ View
  with_headers s headers = record { words = headers; homes = s.homes; views = s.views }

  -- a header in the lap from the head on is a word, and shows less than a lap
  pub header_near : (headers : List ℕ) (views : List View) (r : Kept elsewhere C start headers views) (p : ℕ)
      → p % 8 ≡ 0 → r.consumer.head ≤ p → p < r.consumer.head + C → IsNear C (slice_index headers (index C p))
  header_near headers views r p p8 p0 p1 =
      let m = r.memory in
      let cap = r.lawful.capacity in
      let word : ℕ = staged_word_at elsewhere (all_of r.hist) p in
      let near = near_all C start (all_of r.hist) p cap.least cap.most m.placed in
      subst (IsNear C) (sym (m.shows p p8 p0 p1)) (⊎_elim
      (λ (low : p < r.consumer.cleared). subst (IsNear C) (sym (ap (λ b. cond b 0 word) (lt-ltb p r.consumer.cleared low)))
      (near_all C start [] p cap.least cap.most tt))
      (λ (high : r.consumer.cleared ≤ p). subst (IsNear C) (sym (ap (λ b. cond b 0 word) (le-ltb p r.consumer.cleared high)))
      near) (cases_lt p r.consumer.cleared))

  pub header_small : (headers : List ℕ) (views : List View) (r : Kept elsewhere C start headers views) (i : ℕ) → i < C / 8
      → slice_index headers i < 18446744073709551616
  header_small headers views r i inside =
      let cap = r.lawful.capacity in
      let least = cap.least in
      let m = r.memory in
      let bounds = head_bounds elsewhere C start r.lawful headers r.consumer (all_of r.hist) m in
      let p = position_of C r.consumer.head i (omega arith) (capacity_aligned C cap) bounds.2 inside in
      subst (λ z. slice_index headers z < 18446744073709551616) p.is
      (header_near headers views r p.at p.whole p.from p.below).small

  -- the consumer of the rule after a step of the seat id
  pub rests_after : (headers headers' : List ℕ) (homes : List (Option ℕ)) (views : List View)
      (r : Kept elsewhere C start headers views) → IsShelf C homes views → (id : ℕ) (v w : View)
      → get_elem? views id ≡ some v → Rests v w → (r' : Kept elsewhere C start headers' (set views id w))
      → SameReader r.consumer r'.consumer
  rests_after headers headers' homes views r s id v w at rests r' =
      let d = s.reader in
      let was : d.view.consumer ≡ r.consumer = ((r.seated.each d.seat d.view d.there).consumes d.consumes).1 in
      dite (ℕ_discrete d.seat id)
      (λ same.
      let one : d.view ≡ v = one_view views d.seat id d.view v d.there at same in
      let old : v.consumer ≡ r.consumer = ap (λ (z : View). z.consumer) (sym one) ∙ was in
      let consumes : v.consumes ≡ true = ap (λ (z : View). z.consumes) (sym one) ∙ d.consumes in
      let new : w.consumer ≡ r'.consumer =
      ((r'.seated.each id w (set_here views id w (at_below views id v at))).consumes (rests.stays consumes)).1 in
      subst (λ (z : ConsumerView × ConsumerView). SameReader z.0 z.1) (λ k. (old k, new k)) (rests.same consumes))
      (λ other.
      let new : d.view.consumer ≡ r'.consumer = ((r'.seated.each d.seat d.view
      (set_else views id d.seat w other ∙ d.there)).consumes d.consumes).1 in
      same_reader (sym new ∙ was))

  -- the rule, if the reader's part is as this one
  pub remarked : (words headers : List ℕ) (ends : ℕ → ℕ) (homes : List (Option ℕ)) (views : List View) (c : ConsumerView)
      (r : Kept elsewhere C start headers views) → IsShelf C homes views → c.cleared ≡ c.head → SameReader c r.consumer
      → Encodes C c.head headers ends words
      → ReadsRun C c.head c.scan c.run (at_position C headers) ends (at_position C words)
      → KeepsMarks C start words homes views
  remarked words headers ends homes views c r shelf none same encodes reads = record {
    headers = headers;
    ends = ends;
    kept = r;
    shelf = shelf;
    none_cleared = same.cleared ∙ none ∙ sym same.head;
    encodes = subst (λ z. Encodes C z headers ends words) (sym same.head) encodes;
    reads = subst (λ (z : ℕ × ℕ × Run). ReadsRun C z.0 z.1 z.2 (at_position C headers) ends (at_position C words))
        (λ k. (sym same.head k, sym same.scan k, sym same.run k)) reads;
  }

  -- the same after a step of the consumer, whose view is w
  pub remarked_by : (words headers : List ℕ) (ends : ℕ → ℕ) (homes : List (Option ℕ)) (views : List View) (id : ℕ)
      (w : View) (head : ℕ) (r : Kept elsewhere C start headers views) → IsShelf C homes views
      → get_elem? views id ≡ some w → w.consumes ≡ true → (w.consumer.head ≡ head) × (w.consumer.cleared ≡ head)
      → Encodes C head headers ends words
      → ReadsRun C head w.consumer.scan w.consumer.run (at_position C headers) ends (at_position C words)
      → KeepsMarks C start words homes views
  remarked_by words headers ends homes views id w head r shelf there consumes at encodes reads =
      remarked words headers ends homes views w.consumer r shelf (at.1 ∙ sym at.0)
      (same_reader (sym ((r.seated.each id w there).consumes consumes).1))
      (subst (λ z. Encodes C z headers ends words) (sym at.0) encodes)
      (subst (λ z. ReadsRun C z w.consumer.scan w.consumer.run (at_position C headers) ends (at_position C words))
      (sym at.0) reads)

  -- ---- steps

  -- at a word of the trailer, which is the same in both
  pub lift_trailer : (slots id : ℕ) (me : Mine) (i : ℕ) (f : ℕ → ℕ) (told : ℕ → Mine → Type 0) → C / 8 ≤ i
      → i < ring_words C
      → ((n : ℕ) (me' : Mine) → told n me' → (s : State ℕ View) → Kept elsewhere C start s.words s.views
      → get_elem? s.views id ≡ some me.0 → Rests me.0 me'.0)
      → Allows (Holds elsewhere C start) slots id me i f told → Allows Marked slots id me i f told
  lift_trailer slots id me i f told far inside rests allows s m wide at small =
      let r = m.kept in
      let n : ℕ = slice_index m.headers i in
      let same : slice_index s.words i ≡ n = m.encodes.trailer i far in
      let t = allows (with_headers s m.headers) (r, m.shelf) wide at (subst (λ z. z < 18446744073709551616) same small) in
      let long = r.memory.wide in
      let headers' : List ℕ = set m.headers i (f n) in
      let homes' : List (Option ℕ) = homes_after s.homes me.1 t.1 in
      let views' : List View = set s.views id t.0 in
      let after = rests_after m.headers headers' s.homes s.views r m.shelf id me.0 t.0 at
      (rests n (t.0, carried_after me.1 t.1) t.4 (with_headers s m.headers) r at) t.3.0 in (
        t.0,
        t.1,
        t.2,
        subst (λ z. KeepsMarks C start (set s.words i (f z)) homes' views') (sym same)
            (remarked (set s.words i (f n)) headers' m.ends homes' views' r.consumer t.3.0 t.3.1 m.none_cleared after
            (encodes_trailer C start r.lawful r.consumer.head m.headers m.ends s.words m.encodes i (f n) far (omega arith))
            (reads_trailer C start r.lawful r.consumer.head m.headers m.ends s.words m.encodes i (f n) (f n) far
            r.consumer.scan r.consumer.run m.reads)),
        subst (λ z. told z (t.0, carried_after me.1 t.1)) (sym same) t.4,
      )

  -- a load whose number says nothing, at any two words
  pub lift_load : (slots id : ℕ) (me : Mine) (i j : ℕ) (told : Mine → Type 0) → i < C / 8
      → ((me' : Mine) → told me' → Rests me.0 me'.0)
      → Allows (Holds elsewhere C start) slots id me i (λ n. n) (λ _. told)
      → Allows Marked slots id me j (λ n. n) (λ _. told)
  lift_load slots id me i j told inside rests allows s m wide at small =
      let r = m.kept in
      let t = allows (with_headers s m.headers) (r, m.shelf) wide at (header_small m.headers s.views r i inside) in
      let headers_are : set m.headers i (slice_index m.headers i) ≡ m.headers = set-get_or m.headers i 0 in
      let words_are : set s.words j (slice_index s.words j) ≡ s.words = set-get_or s.words j 0 in
      let homes' : List (Option ℕ) = homes_after s.homes me.1 t.1 in
      let views' : List View = set s.views id t.0 in
      let r' : Kept elsewhere C start m.headers views' = subst (λ l. Kept elsewhere C start l views') headers_are t.3.0 in
      let after = rests_after m.headers m.headers s.homes s.views r m.shelf id me.0 t.0 at
      (rests (t.0, carried_after me.1 t.1) t.4) r' in (
        t.0,
        t.1,
        t.2,
        subst (λ z. KeepsMarks C start z homes' views') (sym words_are)
            (remarked s.words m.headers m.ends homes' views' r.consumer r' t.3.1 m.none_cleared after m.encodes m.reads),
        t.4,
      )

  -- a header of a record in the lap, which is not cleared, is stored, and its mark in the words
  pub lift_mark : (slots id : ℕ) (me : Mine) (q h mark : ℕ) (told : Mine → Type 0)
      → ((s : State ℕ View) (r : Kept elsewhere C start s.words s.views) → get_elem? s.views id ≡ some me.0
      → LiesAhead C s.words r.consumer q h mark)
      → h ≢ 0
      → ((me' : Mine) → told me' → Rests me.0 me'.0)
      → Allows (Holds elsewhere C start) slots id me (index C q) (λ _. h) (λ _. told)
      → Allows Marked slots id me (index C q) (λ _. mark) (λ _. told)
  lift_mark slots id me q h mark told lies full rests allows s m wide at small =
      let r = m.kept in
      let i : ℕ = index C q in
      let inside = index_inside elsewhere C start r.lawful q in
      let there = lies (with_headers s m.headers) r at in
      let scan = there.from in
      let low = r.memory.clears_to in
      let lower = r.memory.clears_from in
      let t = allows (with_headers s m.headers) (r, m.shelf) wide at (header_small m.headers s.views r i inside) in
      let long = r.memory.wide in
      let from : r.consumer.head ≤ q = omega arith in
      let homes' : List (Option ℕ) = homes_after s.homes me.1 t.1 in
      let views' : List View = set s.views id t.0 in
      let after = rests_after m.headers (set m.headers i h) s.homes s.views r m.shelf id me.0 t.0 at
      (rests (t.0, carried_after me.1 t.1) t.4) t.3.0 in (
        t.0,
        t.1,
        t.2,
        remarked (set s.words i mark) (set m.headers i h)
            (mark_end C start r.lawful r.consumer.head m.headers m.ends s.words m.encodes q h mark there.whole from
            there.below (omega arith) full there.mark_is there.near there.none)
            homes' views' r.consumer t.3.0 t.3.1 m.none_cleared after
            (encodes_mark C start r.lawful r.consumer.head m.headers m.ends s.words m.encodes q h mark there.whole from
            there.below (omega arith) full there.mark_is there.near there.none)
            (reads_beside C r.consumer.head (at_position C m.headers) m.ends (at_position C s.words) _ _ _ q (q + 8)
            (rewrites_mark C start r.lawful r.consumer.head m.headers m.ends s.words m.encodes q h mark there.whole from
            there.below (omega arith) full there.mark_is there.near there.none) r.consumer.scan r.consumer.run there.from
            there.whole m.reads),
        t.4,
      )

-- ---- both rules

abbrev pub Obeys : Bodies → ℕ → ℕ → State ℕ View → Type 0
Obeys B C start s = KeepsIn B C start s.words s.homes s.views

abbrev pub RestsIn : Bodies → View → View → Type 0
RestsIn in_words v w = ⊤
RestsIn elsewhere v w = Rests v w

-- a step that takes and gives no slots, at a word of the trailer
pub lift_any : (B : Bodies) (C start slots id : ℕ) (me : Mine) (i : ℕ) (f : ℕ → ℕ) (told : ℕ → Mine → Type 0) → C / 8 ≤ i
    → i < ring_words C → me.0.out ≡ []
    → ((n : ℕ) (me' : Mine) → told n me' → (s : State ℕ View) → Ok B C start s → get_elem? s.views id ≡ some me.0
    → (me'.1 ≡ me.1) × (me'.0.out ≡ me.0.out) × CarriesIn B me.0 me'.0 × RestsIn B me.0 me'.0)
    → Allows (Ok B C start) slots id me i f told → Allows (Obeys B C start) slots id me i f told
lift_any in_words C start slots id me i f told far inside none carries allows =
    lift in_words C start slots id me i f told none
    (λ n me' t s r at. let c = carries n me' t s r at in (c.0, c.1, tt)) allows
lift_any elsewhere C start slots id me i f told far inside none carries allows =
    lift_trailer C start slots id me i f told far inside (λ n me' t s r at. (carries n me' t s r at).3)
    (lift elsewhere C start slots id me i f told none
    (λ n me' t s r at. let c = carries n me' t s r at in (c.0, c.1, c.2)) allows)
