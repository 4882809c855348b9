use Rattle.std.proofs.Common.{◌≡◌, ℕ, ◌-◌, ◌*◌, ◌/◌, ◌≤◌, List, length, slice_index, sym, ap, ◌∙◌, subst}
use Rattle.std.specs.{Slots.slots_items, declared.alloc.Global.Global}
use Rattle.atomic_table.specs.declared.owned.Closed.{Closed}
use Rattle.ring_table.specs.{declared.view.Key.Key, Marks.AreMarked, Marks.IsDecoded, Marks.KeepsMarks, Marks.ShowsRuns}
use Rattle.ring_table.specs.{Closed.IsClosed, Closed.IsLeft, Staged.elsewhere, Staged.StagedClaim, Views.View}
use Rattle.ring_table.{specs.Rule.Kept, specs.Walk.Parts, proofs.CloseLemmas.leaves_rest, proofs.LawLemmas.none_open}
use Rattle.std.proofs.Math.{Option.some, ListN.get_elem?}
use Rattle.ring_layout.specs.{Headers.committed_header, Places.index, Layout.head_index}
use Rattle.ring_table.proofs.CloseSlots.{capacity_of, closed_slots, heads, hist_settled, parts}
use Rattle.ring_table.proofs.LastMarks.{head_fits, headers_back, may_decode_all, shows_settled, spread_fits}
use Rattle.ring_table.proofs.picture.show_slots.Goals as goal

module _ (key : Key) (v : View) (closed : Closed ℕ Global) (left : IsLeft elsewhere key v closed) (copied : List ℕ)
    (same : copied ≡ slots_items closed.words) (n : ℕ) (long : n ≡ length copied) where
  -- the capacity, as the code computes it
  cap_is : key.capacity ≡ (n - 96) * 8
  cap_is =
      let final = left.final in
      let m = final.1.0 in
      capacity_of key.capacity n m.kept.lawful.capacity
      (long ∙ ap length same ∙ ap length (sym final.2) ∙ m.encodes.wide ∙ m.kept.memory.wide)

  -- the rule of the last state
  kept_marks : KeepsMarks ((n - 96) * 8) key.start copied left.final.0.homes left.final.0.views
  kept_marks = subst (λ (z : ℕ × List ℕ). KeepsMarks z.0 key.start z.1 left.final.0.homes left.final.0.views)
      (λ i. (cap_is i, (left.final.2 ∙ sym same) i)) left.final.1.0

  -- the slots have the headers of the records
  its_heads : (k : ℕ) (x : ℕ × StagedClaim) → get_elem? kept_marks.kept.hist k ≡ some x
      → kept_marks.kept.consumer.head ≤ x.1.place
      → slice_index (slots_items closed.slots) (index ((n - 96) * 8) x.1.place)
      ≡ committed_header x.1.message.type_id (length x.1.message.body)
  its_heads = heads ((n - 96) * 8) key.start kept_marks.headers left.final.0.homes left.final.0.views kept_marks.kept
      kept_marks.shelf left.id v left.final.1.1 left.last (slots_items closed.slots) left.final.4

  its_runs : ShowsRuns ((n - 96) * 8) (slice_index copied (head_index ((n - 96) * 8))) (slots_items closed.slots) copied
      kept_marks.headers
  its_runs = shows_settled ((n - 96) * 8) key.start copied left.final.0.homes left.final.0.views kept_marks
      (slots_items closed.slots) its_heads

  module _ (spread : List ℕ) (as_long : length spread ≡ length copied)
      (still : (i : ℕ) → (n - 96) * 8 / 8 ≤ i → slice_index spread i ≡ slice_index copied i)
      (marked : AreMarked ((n - 96) * 8) (slice_index copied (head_index ((n - 96) * 8))) spread kept_marks.headers)
      (new : List ℕ) (wide : length new ≡ length spread)
      (decodes : IsDecoded ((n - 96) * 8) (slice_index spread (head_index ((n - 96) * 8))) (slots_items closed.slots) spread new)
      (trailer : (i : ℕ) → (n - 96) * 8 / 8 ≤ i → slice_index new i ≡ slice_index spread i) where
    headers_are : kept_marks.headers ≡ new
    headers_are = sym (headers_back ((n - 96) * 8) key.start copied left.final.0.homes left.final.0.views kept_marks
        spread as_long still marked new (slots_items closed.slots)
        (hist_settled ((n - 96) * 8) key.start kept_marks.headers left.final.0.homes left.final.0.views kept_marks.kept
        kept_marks.shelf left.id v left.final.1.1 left.last)
        its_heads wide decodes trailer)

    kept_now : Kept elsewhere ((n - 96) * 8) key.start new left.final.0.views
    kept_now = subst (λ z. Kept elsewhere ((n - 96) * 8) key.start z left.final.0.views) headers_are kept_marks.kept

    abbrev its_parts : Parts ((n - 96) * 8) new (slots_items closed.slots)
    its_parts = parts ((n - 96) * 8) key.start new left.final.0.homes left.final.0.views kept_now kept_marks.shelf left.id v
        left.final.1.1 left.last (slots_items closed.slots) left.final.4

pub spread_runs-requires-clause-head : goal.spread_runs-requires-clause-head
spread_runs-requires-clause-head c =
    let l = c.requires.left in
    head_fits _ _ _ _ _ (kept_marks l.0 l.1 c.args.closed l.2 c.copy_words.new.words.items c.copy_words.ensures c.len.result
    (c.len.ensures ∙ c.copy_words.new.words.ok.0))

pub spread_runs-requires-clause-runs : goal.spread_runs-requires-clause-runs
spread_runs-requires-clause-runs c =
    let l = c.requires.left in
    let long = c.len.ensures ∙ c.copy_words.new.words.ok.0 in
    let m = kept_marks l.0 l.1 c.args.closed l.2 c.copy_words.new.words.items c.copy_words.ensures c.len.result long in
    (m.headers, its_runs l.0 l.1 c.args.closed l.2 c.copy_words.new.words.items c.copy_words.ensures c.len.result long)

pub spread_runs-requires-clause-capacity : goal.spread_runs-requires-clause-capacity
spread_runs-requires-clause-capacity c =
    let l = c.requires.left in
    (kept_marks l.0 l.1 c.args.closed l.2 c.copy_words.new.words.items c.copy_words.ensures c.len.result
    (c.len.ensures ∙ c.copy_words.new.words.ok.0)).kept.lawful.capacity

pub decode_marks-requires-clause-capacity : goal.decode_marks-requires-clause-capacity
decode_marks-requires-clause-capacity c =
    let l = c.requires.left in
    (kept_marks l.0 l.1 c.args.closed l.2 c.copy_words.new.words.items c.copy_words.ensures c.len.result
    (c.len.ensures ∙ c.copy_words.new.words.ok.0)).kept.lawful.capacity

pub decode_marks-requires-clause-head : goal.decode_marks-requires-clause-head
decode_marks-requires-clause-head c =
    let l = c.requires.left in
    let long = c.len.ensures ∙ c.copy_words.new.words.ok.0 in
    let copied : List ℕ = c.copy_words.new.words.items in
    let m = kept_marks l.0 l.1 c.args.closed l.2 copied c.copy_words.ensures c.len.result long in
    let e = c.spread_runs.ensures in
    spread_fits _ _ _ _ _ m c.spread_runs.new.words.items
    (sym c.spread_runs.new.words.ok.0 ∙ e.long ∙ c.copy_words.new.words.ok.0) e.trailer
    (e.marks m.headers (its_runs l.0 l.1 c.args.closed l.2 copied c.copy_words.ensures c.len.result long))

pub decode_marks-requires-clause-marks : goal.decode_marks-requires-clause-marks
decode_marks-requires-clause-marks c =
    let l = c.requires.left in
    let long = c.len.ensures ∙ c.copy_words.new.words.ok.0 in
    let copied : List ℕ = c.copy_words.new.words.items in
    let m = kept_marks l.0 l.1 c.args.closed l.2 copied c.copy_words.ensures c.len.result long in
    let e = c.spread_runs.ensures in
    may_decode_all _ _ _ _ _ m c.spread_runs.new.words.items
    (sym c.spread_runs.new.words.ok.0 ∙ e.long ∙ c.copy_words.new.words.ok.0) e.trailer
    (e.marks m.headers (its_runs l.0 l.1 c.args.closed l.2 copied c.copy_words.ensures c.len.result long))

pub show_bodies-requires-clause-parts : goal.show_bodies-requires-clause-parts
show_bodies-requires-clause-parts c =
    let l = c.requires.left in
    let long = c.len.ensures ∙ c.copy_words.new.words.ok.0 in
    let copied : List ℕ = c.copy_words.new.words.items in
    let m = kept_marks l.0 l.1 c.args.closed l.2 copied c.copy_words.ensures c.len.result long in
    let e = c.spread_runs.ensures in
    its_parts l.0 l.1 c.args.closed l.2 copied c.copy_words.ensures c.len.result long c.spread_runs.new.words.items
    (sym c.spread_runs.new.words.ok.0 ∙ e.long ∙ c.copy_words.new.words.ok.0) e.trailer
    (e.marks m.headers (its_runs l.0 l.1 c.args.closed l.2 copied c.copy_words.ensures c.len.result long))
    c.decode_marks.new.words.items
    (sym c.decode_marks.new.words.ok.0 ∙ c.decode_marks.ensures.long ∙ c.spread_runs.new.words.ok.0)
    c.decode_marks.ensures.headers c.decode_marks.ensures.trailer

pub returns : goal.returns
returns c = λ key v left.
    let n : ℕ = c.len.result in
    let copied : List ℕ = c.copy_words.new.words.items in
    let long = c.len.ensures ∙ c.copy_words.new.words.ok.0 in
    let new : List ℕ = c.decode_marks.new.words.items in
    let spread : List ℕ = c.spread_runs.new.words.items in
    let s = c.spread_runs.ensures in
    let wide = sym c.decode_marks.new.words.ok.0 ∙ c.decode_marks.ensures.long ∙ c.spread_runs.new.words.ok.0 in
    let as_long = sym c.spread_runs.new.words.ok.0 ∙ s.long ∙ c.copy_words.new.words.ok.0 in
    let e = cap_is key v c.args.closed left copied c.copy_words.ensures n long in
    let m = kept_marks key v c.args.closed left copied c.copy_words.ensures n long in
    let marked = s.marks m.headers (its_runs key v c.args.closed left copied c.copy_words.ensures n long) in
    let kept = kept_now key v c.args.closed left copied c.copy_words.ensures n long spread as_long s.trailer marked new wide
    c.decode_marks.ensures.headers c.decode_marks.ensures.trailer in
    let t = its_parts key v c.args.closed left copied c.copy_words.ensures n long spread as_long s.trailer marked new wide
    c.decode_marks.ensures.headers c.decode_marks.ensures.trailer in
    let xs : List ℕ = slots_items c.args.closed.slots in
    let closed : IsClosed key.capacity key.start c.show_bodies.new.words.items v =
    subst (λ (z : ℕ). IsClosed z key.start c.show_bodies.new.words.items v) (sym e)
    (closed_slots ((n - 96) * 8) key.start new left.final.0.homes left.final.0.views kept m.shelf left.id
    v left.final.1.1 left.last xs left.final.4 c.show_bodies.new.words.items (c.show_bodies.ensures t)) in (
      closed,
      leaves_rest key.capacity key.start _ _ closed
          (none_open v.producer.claims left.last.none_open).1 left.last.none_cleared,
    )
