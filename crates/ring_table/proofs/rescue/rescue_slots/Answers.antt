use Rattle.std.proofs.Common.{◌≡◌, ℕ, ◌/◌, ◌≤◌, ◌<◌, List, [], length, slice_index, true, sym, ◌∙◌, subst, arith}
use Rattle.std.proofs.Math.{Option.Option, Option.some, ListN.get_elem?}
use Rattle.std.specs.Slots.{slots_items}
use Rattle.ring_layout.specs.{Layout.head_index, Layout.tail_index, Places.IsCapacity}
use Rattle.ring_table.specs.{Marks.AreMarked, Marks.IsDecoded, Marks.KeepsMarks, Marks.ShowsRuns, Owners.OwnedHistory}
use Rattle.ring_table.specs.Refilling.{MayFill, Filled}
use Rattle.ring_table.specs.Rescued.{KeptWith, Rescues, Settles, ShowsClaims}
use Rattle.ring_table.specs.{Staged.elsewhere, Staged.in_words, Staged.shown_header, Staged.StagedClaim, Views.View}
use Rattle.ring_table.proofs.BlankLemmas.{all_blanked, shows_blanked}
use Rattle.ring_table.proofs.LastMarks.{head_fits, may_decode_all, shows_decoded, shows_runs, spread_fits}
use Rattle.ring_table.proofs.RescueLemmas.{rescues, shows_left}
use Rattle.ring_table.proofs.SlotsRescue.{body_at, heads_it, may_fill_left, settles_left, the_filled}
use Rattle.ring_table.proofs.rescue.rescue_slots.Goals as goal

-- what the consumer's seat knows of the last state
module _ (C start : ℕ) (words : List ℕ) (homes : List (Option ℕ)) (views : List View)
    (m : KeepsMarks C start words homes views) (id : ℕ) (v : View) (at : get_elem? views id ≡ some v)
    (consumes : v.consumes ≡ true) (rests : v.consumer.cleared ≡ v.consumer.head) where
  -- the slots have the headers of the records
  runs_here : (bare : v.out ≡ []) (xs : List ℕ)
      → ((i y : ℕ) → get_elem? homes i ≡ some (some y) → get_elem? xs i ≡ some y)
      → ShowsRuns C (slice_index words (head_index C)) xs words m.headers
  runs_here bare xs values =
      let k = shows_left elsewhere C start m.headers views m.kept id v at consumes rests in
      let head_is = m.kept.memory.head_is in
      shows_runs C start words homes views m xs (slice_index m.headers (head_index C)) _ k.aligned k.placed
      (λ p p8 p0 p1. k.shows p p8 (omega arith) (omega arith))
      (heads_it C start m.headers homes views m.kept m.shelf id v at consumes rests bare xs values)

  module _ (bare : v.out ≡ []) (xs : List ℕ)
      (values : (i y : ℕ) → get_elem? homes i ≡ some (some y) → get_elem? xs i ≡ some y) (spread : List ℕ)
      (long : length spread ≡ length words) (still : (i : ℕ) → C / 8 ≤ i → slice_index spread i ≡ slice_index words i)
      (marked : AreMarked C (slice_index words (head_index C)) spread m.headers) (new one : List ℕ)
      (decodes : IsDecoded C (slice_index spread (head_index C)) xs spread new)
      (trailer : (i : ℕ) → C / 8 ≤ i → slice_index new i ≡ slice_index spread i)
      (formatted : (i : ℕ) → i < C / 8 → slice_index one i ≡ shown_header elsewhere (slice_index new i))
      (same : (i : ℕ) → C / 8 ≤ i → slice_index one i ≡ slice_index new i) where
    abbrev cs : List StagedClaim
    cs = the_filled C start m.headers homes views m.kept m.shelf id v at consumes rests bare xs values

    shows_one : ShowsClaims in_words C one (all_blanked cs)
    shows_one = shows_blanked C new one cs m.kept.lawful.capacity formatted same
        (shows_decoded C start words homes views m spread long still marked new xs _
        (shows_left elsewhere C start m.headers views m.kept id v at consumes rests) decodes trailer
        (heads_it C start m.headers homes views m.kept m.shelf id v at consumes rests bare xs values))

    module _ (two : List ℕ) (claims silent : ℕ) (after : (i : ℕ) → C / 8 ≤ i → slice_index two i ≡ slice_index one i)
        (k : Settles C (slice_index one (head_index C)) (all_blanked cs) two claims silent) where
      e1 : slice_index one (head_index C) ≡ slice_index m.headers (head_index C)
      e1 = same (head_index C) (omega arith) ∙ trailer (head_index C) (omega arith) ∙ still (head_index C) (omega arith)
          ∙ m.encodes.trailer (head_index C) (omega arith)

      t2 : slice_index two (tail_index C) ≡ slice_index m.headers (tail_index C)
      t2 = after (tail_index C) (omega arith) ∙ same (tail_index C) (omega arith) ∙ trailer (tail_index C) (omega arith)
          ∙ still (tail_index C) (omega arith)
          ∙ m.encodes.trailer (tail_index C) (omega arith)

      fills : MayFill C xs (body_at cs) k.now two
      fills = may_fill_left C start m.headers homes views m.kept m.shelf id v at consumes rests bare xs values one two e1
          (after (head_index C) (omega arith)) t2 claims silent k

      rescued : (three : List ℕ) → length three ≡ length words
          → ((i : ℕ) → C / 8 ≤ i → slice_index three i ≡ slice_index two i)
          → Filled C (slice_index two (head_index C)) (body_at cs) k.now three
          → Rescues C start v m.kept.hist m.kept.drawn three claims silent
      rescued three wide last f = rescues elsewhere C start m.headers views m.kept id v at consumes rests three claims silent
          (wide ∙ m.encodes.wide)
          (λ i far. last i far ∙ after i far ∙ same i far ∙ trailer i far ∙ still i far ∙ m.encodes.trailer i far)
          (settles_left C start m.headers homes views m.kept m.shelf id v at consumes rests bare xs values one two e1
          (after (head_index C) (omega arith)) t2 claims silent k three f)

pub decode_marks-requires-clause-capacity : goal.decode_marks-requires-clause-capacity
decode_marks-requires-clause-capacity c =
    let l = c.requires.left in
    subst (λ z. IsCapacity z) l.4 l.2.final.1.0.kept.lawful.capacity

pub decode_marks-requires-clause-head : goal.decode_marks-requires-clause-head
decode_marks-requires-clause-head c =
    let l = c.requires.left in
    let saved = l.2 in
    let final = saved.final in
    let m = subst (λ (z : ℕ × List ℕ). KeepsMarks z.0 l.0.start z.1 final.0.homes final.0.views)
    (λ i. (l.4 i, (final.2 ∙ sym c.copy_words.ensures) i)) final.1.0 in
    let e = c.spread_runs.ensures in
    let long = sym c.spread_runs.new.words.ok.0 ∙ e.long ∙ c.copy_words.new.words.ok.0 in
    let marked = e.marks m.headers (runs_here _ _ _ _ _ m saved.id l.1 final.1.1 saved.consumes saved.rests saved.home
    (slots_items c.args.closed.slots) final.4) in
    spread_fits _ _ _ _ _ m c.spread_runs.new.words.items long e.trailer marked

pub decode_marks-requires-clause-marks : goal.decode_marks-requires-clause-marks
decode_marks-requires-clause-marks c =
    let l = c.requires.left in
    let saved = l.2 in
    let final = saved.final in
    let m = subst (λ (z : ℕ × List ℕ). KeepsMarks z.0 l.0.start z.1 final.0.homes final.0.views)
    (λ i. (l.4 i, (final.2 ∙ sym c.copy_words.ensures) i)) final.1.0 in
    let e = c.spread_runs.ensures in
    let long = sym c.spread_runs.new.words.ok.0 ∙ e.long ∙ c.copy_words.new.words.ok.0 in
    let marked = e.marks m.headers (runs_here _ _ _ _ _ m saved.id l.1 final.1.1 saved.consumes saved.rests saved.home
    (slots_items c.args.closed.slots) final.4) in
    may_decode_all _ _ _ _ _ m c.spread_runs.new.words.items long e.trailer marked

pub spread_runs-requires-clause-capacity : goal.spread_runs-requires-clause-capacity
spread_runs-requires-clause-capacity c =
    let l = c.requires.left in
    subst (λ z. IsCapacity z) l.4 l.2.final.1.0.kept.lawful.capacity

pub spread_runs-requires-clause-head : goal.spread_runs-requires-clause-head
spread_runs-requires-clause-head c =
    let l = c.requires.left in
    let saved = l.2 in
    let final = saved.final in
    let m = subst (λ (z : ℕ × List ℕ). KeepsMarks z.0 l.0.start z.1 final.0.homes final.0.views)
    (λ i. (l.4 i, (final.2 ∙ sym c.copy_words.ensures) i)) final.1.0 in
    head_fits _ _ _ _ _ m

pub spread_runs-requires-clause-runs : goal.spread_runs-requires-clause-runs
spread_runs-requires-clause-runs c =
    let l = c.requires.left in
    let saved = l.2 in
    let final = saved.final in
    let m = subst (λ (z : ℕ × List ℕ). KeepsMarks z.0 l.0.start z.1 final.0.homes final.0.views)
    (λ i. (l.4 i, (final.2 ∙ sym c.copy_words.ensures) i)) final.1.0 in (
      m.headers,
      runs_here _ _ _ _ _ m saved.id l.1 final.1.1 saved.consumes saved.rests saved.home
          (slots_items c.args.closed.slots) final.4,
    )

pub settle_words-unsettled-requires-clause-claims : goal.settle_words-unsettled-requires-clause-claims
settle_words-unsettled-requires-clause-claims c =
    let l = c.requires.left in
    let saved = l.2 in
    let final = saved.final in
    let m = subst (λ (z : ℕ × List ℕ). KeepsMarks z.0 l.0.start z.1 final.0.homes final.0.views)
    (λ i. (l.4 i, (final.2 ∙ sym c.copy_words.ensures) i)) final.1.0 in
    let e = c.spread_runs.ensures in
    let long = sym c.spread_runs.new.words.ok.0 ∙ e.long ∙ c.copy_words.new.words.ok.0 in
    let marked = e.marks m.headers (runs_here _ _ _ _ _ m saved.id l.1 final.1.1 saved.consumes saved.rests saved.home
    (slots_items c.args.closed.slots) final.4) in (
      _,
      shows_one _ _ _ _ _ m saved.id l.1 final.1.1 saved.consumes saved.rests saved.home
          (slots_items c.args.closed.slots) final.4 _ long e.trailer marked _ _ c.decode_marks.ensures.headers c.decode_marks.ensures.trailer
          c.format_headers.ensures.headers c.format_headers.ensures.trailer,
    )

pub add_bodies-requires-clause-claims : goal.add_bodies-requires-clause-claims
add_bodies-requires-clause-claims c =
    let l = c.requires.left in
    let saved = l.2 in
    let final = saved.final in
    let m = subst (λ (z : ℕ × List ℕ). KeepsMarks z.0 l.0.start z.1 final.0.homes final.0.views)
    (λ i. (l.4 i, (final.2 ∙ sym c.copy_words.ensures) i)) final.1.0 in
    let e = c.spread_runs.ensures in
    let long = sym c.spread_runs.new.words.ok.0 ∙ e.long ∙ c.copy_words.new.words.ok.0 in
    let marked = e.marks m.headers (runs_here _ _ _ _ _ m saved.id l.1 final.1.1 saved.consumes saved.rests saved.home
    (slots_items c.args.closed.slots) final.4) in
    let shows = shows_one _ _ _ _ _ m saved.id l.1 final.1.1 saved.consumes saved.rests saved.home
    (slots_items c.args.closed.slots) final.4 _ long e.trailer marked _ _ c.decode_marks.ensures.headers c.decode_marks.ensures.trailer
    c.format_headers.ensures.headers c.format_headers.ensures.trailer in
    let k = c.settle_words-unsettled.ensures.settles _ shows in (
      _,
      k.now,
      fills _ _ _ _ _ m saved.id l.1 final.1.1 saved.consumes saved.rests saved.home
          (slots_items c.args.closed.slots) final.4 _ long e.trailer marked _ _ c.decode_marks.ensures.headers c.decode_marks.ensures.trailer
          c.format_headers.ensures.headers c.format_headers.ensures.trailer _ _ _ c.settle_words-unsettled.ensures.trailer k,
    )

pub returns : goal.returns
returns c = λ key v hist drawn saved had same.
    let final = had.final in
    let C : ℕ = c.args.capacity in
    let words : List ℕ = c.copy_words.new.words.items in
    let keeps : KeptWith elsewhere C key.start hist drawn words final.0.homes final.0.views =
    subst (λ (z : ℕ × List ℕ). KeptWith elsewhere z.0 key.start hist drawn z.1 final.0.homes final.0.views)
    (λ i. (same i, (final.2 ∙ sym c.copy_words.ensures) i)) final.1.0 in
    let m = keeps.0 in
    let e = c.spread_runs.ensures in
    let long = sym c.spread_runs.new.words.ok.0 ∙ e.long ∙ c.copy_words.new.words.ok.0 in
    let marked = e.marks m.headers (runs_here _ _ _ _ _ m had.id v final.1.1 saved.consumes saved.rests saved.home
    (slots_items c.args.closed.slots) final.4) in
    let shows = shows_one _ _ _ _ _ m had.id v final.1.1 saved.consumes saved.rests saved.home
    (slots_items c.args.closed.slots) final.4 _ long e.trailer marked _ _ c.decode_marks.ensures.headers c.decode_marks.ensures.trailer
    c.format_headers.ensures.headers c.format_headers.ensures.trailer in
    let k = c.settle_words-unsettled.ensures.settles _ shows in
    let may = fills _ _ _ _ _ m had.id v final.1.1 saved.consumes saved.rests saved.home
    (slots_items c.args.closed.slots) final.4 _ long e.trailer marked _ _ c.decode_marks.ensures.headers c.decode_marks.ensures.trailer
    c.format_headers.ensures.headers c.format_headers.ensures.trailer _ _ _ c.settle_words-unsettled.ensures.trailer k in
    let three : List ℕ = c.add_bodies.new.words.items in
    let claims : ℕ = c.settle_words-unsettled.result.claims in
    let silent : ℕ = c.settle_words-unsettled.result.silent in
    subst (λ (z : OwnedHistory × ℕ). Rescues C key.start v z.0 z.1 three claims silent) (λ i. (keeps.1 i, keeps.2 i))
    (rescued _ _ _ _ _ m had.id v final.1.1 saved.consumes saved.rests saved.home
    (slots_items c.args.closed.slots) final.4 _ long e.trailer marked _ _ c.decode_marks.ensures.headers c.decode_marks.ensures.trailer
    c.format_headers.ensures.headers c.format_headers.ensures.trailer _ _ _ c.settle_words-unsettled.ensures.trailer k
    three
    (sym c.add_bodies.new.words.ok.0 ∙ c.add_bodies.ensures.long ∙ c.settle_words-unsettled.ensures.long
    ∙ c.format_headers.ensures.long ∙ c.decode_marks.ensures.long ∙ e.long ∙ c.copy_words.new.words.ok.0)
    c.add_bodies.ensures.trailer
    (c.add_bodies.ensures.filled _ k.now may))
