-- The marks that a table left.
use Rattle.std.proofs.Common.{◌≡◌, ◌≢◌, ℕ, suc, ◌+◌, ◌/◌, ◌%◌, ◌≤◌, ◌<◌, List, [], ◌∷◌, ◌++◌, cond, length, slice_index, sym, refl, ap, ◌∙◌, subst, ⊎_elim, le-ltb, arith, ext_get_or}
use Rattle.std.proofs.{Math.Option.Option, Math.Option.some, Math.ListN.get_elem?, lemmas.Bool.cases_lt}
use Rattle.ring_layout.specs.Headers.{committed_header}
use Rattle.ring_layout.specs.{Places.index, Places.max_position, Layout.head_index, Layout.tail_index}
use Rattle.ring_table.specs.{Closed.restarted, Rescued.ShowsClaims}
use Rattle.ring_table.specs.Staged.{elsewhere, StagedClaim, ArePlaced, staged_end, staged_word_at}
use Rattle.ring_table.specs.{Owners.OwnedHistory, Owners.all_of, Passing.AreSettled, Passing.IsSettled, Views.View}
use Rattle.ring_table.specs.Marks.{AreMarked, IsCommitted, IsDecoded, IsMarkOf, KeepsMarks, MayDecode, ShowsRuns, bytes_of, mark_of}
use Rattle.ring_table.proofs.StagedPlaces.{capacity_aligned, start_aligned}
use Rattle.ring_table.proofs.{MemoryLemmas.head_bounds, MarkWords.whole_bytes, MarkWords.few_of, MarkWords.long_bytes}
use Rattle.ring_table.proofs.MarkSteps.{header_near, position_of}
use Rattle.ring_table.proofs.RunPlaces.{head_of_committed, none_inside}
use Rattle.ring_table.proofs.DecodeLemmas.{HeadAt, all_filled_out, decode_all, filled_ends, filled_none, filled_placed}

-- each settled claim of a history has its header there
pub heads_all : (p y : ℕ) (h : OwnedHistory) → ((k : ℕ) (x : ℕ × StagedClaim) → get_elem? h k ≡ some x
    → IsSettled x.1.stage → x.1.place ≡ p → y ≡ committed_header x.1.message.type_id (length x.1.message.body))
    → HeadAt p y (all_of h)
heads_all p y [] each = tt
heads_all p y (x ∷ h) each = (each 0 x refl, heads_all p y h (λ k z e. each (suc k) z e))

module _ (C start : ℕ) (words : List ℕ) (homes : List (Option ℕ)) (views : List View)
    (m : KeepsMarks C start words homes views) where
  words_head : slice_index words (head_index C) ≡ m.kept.consumer.head
  words_head = m.encodes.trailer (head_index C) (omega arith) ∙ m.kept.memory.head_is

  pub head_fits : (slice_index words (head_index C) % 8 ≡ 0) × (slice_index words (head_index C) ≤ max_position)
  head_fits =
      let r = m.kept in
      let bounds = head_bounds elsewhere C start r.lawful m.headers r.consumer (all_of r.hist) r.memory in
      let is = words_head in
      let limit = r.memory.limit in
      let top = bounds.1 in
      (ap (λ k. k % 8) is ∙ bounds.2, omega arith)

  -- the headers are those of these claims, and the slots have the headers of the settled ones
  pub shows_runs : (xs : List ℕ) (e : ℕ) (cs : List StagedClaim) → e % 8 ≡ 0 → ArePlaced C e cs
      → ((p : ℕ) → p % 8 ≡ 0 → m.kept.consumer.head ≤ p → p < m.kept.consumer.head + C
      → slice_index m.headers (index C p) ≡ staged_word_at elsewhere cs p)
      → ((p : ℕ) → m.kept.consumer.head ≤ p → HeadAt p (slice_index xs (index C p)) cs)
      → ShowsRuns C (slice_index words (head_index C)) xs words m.headers
  shows_runs xs e cs e8 placed shown heads =
      let cap = m.kept.lawful.capacity in
      subst (λ z. ShowsRuns C z xs words m.headers) (sym words_head) (record {
        ends = m.ends;
        encodes = m.encodes;
        heads = λ p p8 p0 p1 is.
            let word = shown p p8 p0 p1 in
            head_of_committed C e cs p (slice_index xs (index C p)) cap e8 placed (heads p p0) (subst IsCommitted word is)
            ∙ sym word;
        full = λ p p8 p0 p1 there.
            long_bytes (slice_index m.headers (index C p)) there (header_near C start m.headers views m.kept p p8 p0 p1).length_is;
        alone = λ q p q8 p8 q0 low p1 there less.
            let word = shown q q8 q0 (omega arith) in
            let bytes = ap bytes_of word in
            shown p p8 (omega arith) p1
            ∙ none_inside C e cs q p cap e8 placed (λ none. there (word ∙ none)) low (omega arith);
      })

  -- the same of all claims, which are settled
  pub shows_settled : (xs : List ℕ)
      → ((k : ℕ) (x : ℕ × StagedClaim) → get_elem? m.kept.hist k ≡ some x → m.kept.consumer.head ≤ x.1.place
      → slice_index xs (index C x.1.place) ≡ committed_header x.1.message.type_id (length x.1.message.body))
      → ShowsRuns C (slice_index words (head_index C)) xs words m.headers
  shows_settled xs heads =
      let r = m.kept in
      let none_cleared = m.none_cleared in
      shows_runs xs start (all_of r.hist) (start_aligned C start r.lawful) r.memory.placed
      (λ p p8 p0 p1. r.memory.shows p p8 p0 p1 ∙ ap (λ b. cond b 0 (staged_word_at elsewhere (all_of r.hist) p))
      (le-ltb p r.consumer.cleared (omega arith)))
      (λ p p0. heads_all p (slice_index xs (index C p)) r.hist (λ k x there done place.
      ap (λ z. slice_index xs (index C z)) (sym place) ∙ heads k x there (omega arith)))

  -- ---- once each record has a mark of its own
  module _ (spread : List ℕ) (long : length spread ≡ length words)
      (still : (i : ℕ) → C / 8 ≤ i → slice_index spread i ≡ slice_index words i)
      (marked : AreMarked C (slice_index words (head_index C)) spread m.headers) where
    -- the mark at the position p, from the head on
    marks_at : (p : ℕ) → p % 8 ≡ 0 → m.kept.consumer.head ≤ p → p < m.kept.consumer.head + C
        → IsMarkOf p (slice_index spread (index C p)) (slice_index m.headers (index C p))
    marks_at p p8 lo hi = let is = words_head in marked p p8 (omega arith) (omega arith)

    may_decode : (p : ℕ) → p % 8 ≡ 0 → m.kept.consumer.head ≤ p → p < m.kept.consumer.head + C
        → MayDecode p (slice_index spread (index C p))
    may_decode p p8 lo hi above =
        let h : ℕ = slice_index m.headers (index C p) in
        let w : ℕ = slice_index spread (index C p) in
        let at = marks_at p p8 lo hi in
        let some_mark : h ≢ 0 = λ zero. let none = at.none zero in omega arith in
        let mark : w ≡ mark_of p h = at.mark some_mark in
        let near = header_near C start m.headers views m.kept p p8 lo hi in
        let below = near.below in
        let most = m.kept.lawful.capacity.most in
        let eight = whole_bytes h in
        let few = few_of h in
        let full : 8 ≤ bytes_of h = long_bytes h some_mark near.length_is in
        (omega arith, omega arith)

    spread_head : slice_index spread (head_index C) ≡ m.kept.consumer.head
    spread_head = still (head_index C) (omega arith) ∙ words_head

    pub spread_fits : (slice_index spread (head_index C) % 8 ≡ 0) × (slice_index spread (head_index C) ≤ max_position)
    spread_fits =
        let same = still (head_index C) (omega arith) in
        let fits = head_fits in
        let whole = fits.0 in
        let limit = fits.1 in
        (ap (λ k. k % 8) same ∙ fits.0, omega arith)

    pub may_decode_all : (p : ℕ) → p % 8 ≡ 0 → slice_index spread (head_index C) ≤ p
        → p < slice_index spread (head_index C) + C → MayDecode p (slice_index spread (index C p))
    may_decode_all p p8 lo hi = let is = spread_head in may_decode p p8 (omega arith) (omega arith)

    -- all claims are settled: the headers that are shown are those of the rule
    pub headers_back : (new xs : List ℕ) → AreSettled (all_of m.kept.hist)
        → ((k : ℕ) (x : ℕ × StagedClaim) → get_elem? m.kept.hist k ≡ some x → m.kept.consumer.head ≤ x.1.place
        → slice_index xs (index C x.1.place) ≡ committed_header x.1.message.type_id (length x.1.message.body))
        → length new ≡ length spread → IsDecoded C (slice_index spread (head_index C)) xs spread new
        → ((i : ℕ) → C / 8 ≤ i → slice_index new i ≡ slice_index spread i) → new ≡ m.headers
    headers_back new xs settled heads wide decodes trailer =
        let r = m.kept in
        let law = r.lawful in
        let least = law.capacity.least in
        let c8 = capacity_aligned C law.capacity in
        let start8 = start_aligned C start law in
        let mem = r.memory in
        let head_is = spread_head in
        let none_cleared = m.none_cleared in
        let bounds = head_bounds elsewhere C start law m.headers r.consumer (all_of r.hist) mem in
        ext_get_or 0 new m.headers (wide ∙ long ∙ m.encodes.wide) (λ i lt. ⊎_elim
        (λ (low : i < C / 8).
        let p = position_of C r.consumer.head i (omega arith) c8 bounds.2 low in
        let q : ℕ = p.at in
        let from = p.from in
        let below = p.below in
        let shows : slice_index m.headers (index C q) ≡ staged_word_at elsewhere (all_of r.hist) q =
        mem.shows q p.whole from below ∙ ap (λ b. cond b 0 (staged_word_at elsewhere (all_of r.hist) q))
        (le-ltb q r.consumer.cleared (omega arith)) in
        let back : slice_index new (index C q) ≡ slice_index m.headers (index C q) =
        decodes q p.whole (omega arith) (omega arith)
        ∙ decode_all C start (all_of r.hist) q (slice_index spread (index C q)) (slice_index xs (index C q)) law.capacity start8
        mem.placed p.whole
        (subst (IsMarkOf q (slice_index spread (index C q))) shows (marks_at q p.whole from below))
        (heads_all q (slice_index xs (index C q)) r.hist (λ k x there done place.
        ap (λ z. slice_index xs (index C z)) (sym place) ∙ heads k x there (omega arith)))
        ∙ ap (λ cs. staged_word_at elsewhere cs q) (filled_none (all_of r.hist) settled) ∙ sym shows in
        subst (λ z. slice_index new z ≡ slice_index m.headers z) p.is back)
        (λ (far : C / 8 ≤ i). trailer i far ∙ still i far ∙ m.encodes.trailer i far)
        (cases_lt i (C / 8)))

    -- the words that are decoded show the claims that the headers show
    pub shows_decoded : (new xs : List ℕ) (cs : List StagedClaim) → ShowsClaims elsewhere C m.headers cs
        → IsDecoded C (slice_index spread (head_index C)) xs spread new
        → ((i : ℕ) → C / 8 ≤ i → slice_index new i ≡ slice_index spread i)
        → ((p : ℕ) → m.kept.consumer.head ≤ p → HeadAt p (slice_index xs (index C p)) cs)
        → ShowsClaims elsewhere C new (all_filled_out cs)
    shows_decoded new xs cs k decodes trailer heads =
        let cap = m.kept.lawful.capacity in
        let least = cap.least in
        let head : ℕ = slice_index m.headers (head_index C) in
        let at_words : slice_index spread (head_index C) ≡ head =
        still (head_index C) (omega arith) ∙ m.encodes.trailer (head_index C) (omega arith) in
        let head_is : head ≡ m.kept.consumer.head = m.kept.memory.head_is in
        let here : slice_index new (head_index C) ≡ head = trailer (head_index C) (omega arith) ∙ at_words in
        let tail : slice_index new (tail_index C) ≡ slice_index m.headers (tail_index C) =
        trailer (tail_index C) (omega arith) ∙ still (tail_index C) (omega arith)
        ∙ m.encodes.trailer (tail_index C) (omega arith) in
        let ends : staged_end (slice_index new (head_index C)) (all_filled_out cs) ≡ staged_end head cs =
        ap (λ x. staged_end x (all_filled_out cs)) here ∙ filled_ends head cs in
        let limit = k.limit in
        let room = k.room in
        record {
          aligned = ap (λ x. x % 8) here ∙ k.aligned;
          placed = subst (λ x. ArePlaced C x (all_filled_out cs)) (sym here) (filled_placed C head cs cap k.placed);
          tail_is = tail ∙ k.tail_is ∙ sym ends;
          limit = omega arith;
          room = omega arith;
          shows = λ p p8 lo hi.
              let w : ℕ = slice_index spread (index C p) in
              decodes p p8 (omega arith) (omega arith)
              ∙ decode_all C head cs p w (slice_index xs (index C p)) cap k.aligned k.placed p8
              (subst (IsMarkOf p w) (k.shows p p8 (omega arith) (omega arith)) (marks_at p p8 (omega arith) (omega arith)))
              (heads p (omega arith));
        }

pub heads_rest : (p y : ℕ) (front rest : List StagedClaim) → HeadAt p y (front ++ rest) → HeadAt p y rest
heads_rest p y [] rest all = all
heads_rest p y (c ∷ front) rest all = heads_rest p y front rest all.1

pub heads_restarted : (p y s : ℕ) (rest : List StagedClaim) → HeadAt p y rest → HeadAt p y (restarted s rest)
heads_restarted p y s [] all = tt
heads_restarted p y s (c ∷ rest) all = all
