-- The words as one of them changes.
use Rattle.ring_table.specs.Staged.{Bodies, StagedClaim, claim_end, staged_word, staged_word_at, LiesAfter, staged_end}
use Rattle.std.proofs.Common.{◌≡◌, ◌≢◌, ℕ, ◌+◌, ◌/◌, ◌%◌, ◌≤◌, ◌<◌, List, [], ◌∷◌, ◌++◌, cond, ltb, set, get_or, sym, ap, ◌∙◌, subst, length, le-ltb, length-set, get_or-set_other, get_or-set_same, arith}
use Rattle.std.proofs.Math.{Option.some, Logic.dite, Decide.ℕ_discrete, ListN.get_elem?}
use Rattle.ring_layout.{specs.Places.index, specs.Places.max_position, proofs.Laps.IsInLap, proofs.Laps.apart}
use Rattle.ring_layout.specs.Layout.{tail_index, head_cache_index, head_index, correlation_index, heartbeat_index, IsUnnamed}
use Rattle.ring_table.specs.{Owners.OwnedHistory, Owners.all_of, Owners.edited, Views.ConsumerView}
use Rattle.ring_table.specs.Rule.{IsLawful, IsMemory, IsService}
use Rattle.ring_table.proofs.StagedPlaces.{capacity_aligned, inside_buffer, start_aligned}
use Rattle.ring_table.proofs.HistoryLemmas.{staged_end-append, placed_append, staged_word_at-append, MayReplaceAt, staged_end-edited, placed_edited, staged_word_at-edited}
use Rattle.ring_table.proofs.ReachLemmas.{reach_bounds, reach_aligned, reach_append, Unsettled, reach_edited}

-- the word at i is neither the cached head nor one of ids and heartbeats, nor one without a name
pub record IsNoService (C i : ℕ) : Type 0 where
  pub cache : i ≢ head_cache_index C
  pub correlation : i ≢ correlation_index C
  pub heartbeat : i ≢ heartbeat_index C
  pub unnamed : (j : ℕ) → IsUnnamed C j → j ≢ i

-- the consumer's head does not fall, and it stores no heartbeat
pub record GoesOn (old new : ConsumerView) : Type 0 where
  pub rises : old.head ≤ new.head
  pub same : new.heartbeats ≡ old.heartbeats

-- of the seat's claims at the place p, which are not settled, the word at q is `value` once they are f of themselves
pub record EditsWord (B : Bodies) (C : ℕ) (h : OwnedHistory) (id p : ℕ) (f : StagedClaim → StagedClaim) (q value : ℕ)
    : Type 0 where
  pub may : MayReplaceAt C p f h
  pub unsettled : Unsettled p f h
  pub word : staged_word_at B (all_of (edited id p f h)) q ≡ value
  pub others : (i : ℕ) (x : ℕ × StagedClaim) → get_elem? h i ≡ some x → x.1.place ≡ p → (r : ℕ) → r % 8 ≡ 0 → r ≢ q
      → staged_word B (f x.1) r ≡ staged_word B x.1 r

-- a claim that shows nothing yet is after a history, and ends at `new`
pub record JoinsSilent (B : Bodies) (C start : ℕ) (h : OwnedHistory) (x : ℕ × StagedClaim) (new : ℕ) : Type 0 where
  pub lies : LiesAfter C (staged_end start (all_of h)) x.1
  pub ends : new ≡ claim_end x.1
  pub silent : (p : ℕ) → p % 8 ≡ 0 → staged_word B x.1 p ≡ 0

module _ (B : Bodies) (C start : ℕ) (law : IsLawful C start) where
  pub index_inside : (p : ℕ) → index C p < C / 8
  index_inside p = inside_buffer C p law.capacity

  -- an index of the trailer is no position's
  pub not_inside : (p i : ℕ) → C / 8 ≤ i → i ≢ index C p
  not_inside p i far same = let near = index_inside p in omega arith

  pub one_position : (head p q : ℕ) → IsInLap C head p → IsInLap C head q → index C p ≡ index C q → p ≡ q
  one_position head p q at there same =
      let least = law.capacity.least in
      let c8 = capacity_aligned C law.capacity in
      apart C head p q (record { some = omega arith; whole = c8 }) at there same

  module _ (words : List ℕ) (consumer : ConsumerView) where
    -- bounds of the head
    pub head_bounds : (cs : List StagedClaim) → IsMemory B C start words cs consumer
        → (start ≤ consumer.head) × (consumer.head ≤ staged_end start cs) × (consumer.head % 8 ≡ 0)
    head_bounds cs m =
        let bounds = reach_bounds C consumer.head start cs consumer.taken m.placed m.took in (
          bounds.0,
          bounds.1,
          reach_aligned C consumer.head start cs consumer.taken (omega arith)
              (capacity_aligned C law.capacity) (start_aligned C start law) m.placed m.took,
        )

    -- a word that is neither a record's nor the tail nor the head
    pub memory_elsewhere : (cs : List StagedClaim) → IsMemory B C start words cs consumer → (i value : ℕ) → C / 8 ≤ i
        → i ≢ tail_index C → i ≢ head_index C → (beats : List ℕ)
        → IsMemory B C start (set words i value) cs (record consumer { heartbeats = beats })
    memory_elsewhere cs m i value far not_tail not_head beats = record {
      wide = length-set words i value ∙ m.wide;
      placed = m.placed;
      tail_is = get_or-set_other words i (tail_index C) value 0 (λ e. not_tail (sym e)) ∙ m.tail_is;
      limit = m.limit;
      room = m.room;
      head_is = get_or-set_other words i (head_index C) value 0 (λ e. not_head (sym e)) ∙ m.head_is;
      took = m.took;
      passed = m.passed;
      clears_from = m.clears_from;
      clears_to = m.clears_to;
      clears_words = m.clears_words;
      shows = λ p p8 p0 p1. get_or-set_other words i (index C p) value 0 (λ e. not_inside p i far (sym e))
          ∙ m.shows p p8 p0 p1;
    }

    -- a word other than the cache, the correlation counter and the heartbeat, while the head does not fall
    pub service_elsewhere : (n : ℕ) → IsService C words consumer n → (i value : ℕ) → IsNoService C i
        → (consumer' : ConsumerView) → GoesOn consumer consumer' → IsService C (set words i value) consumer' n
    service_elsewhere n s i value away consumer' on =
        let cached : get_or (set words i value) (head_cache_index C) 0 ≡ get_or words (head_cache_index C) 0 =
        get_or-set_other words i (head_cache_index C) value 0 (λ e. away.cache (sym e)) in
        record {
          cache = omega arith;
          correlation =
              get_or-set_other words i (correlation_index C) value 0 (λ e. away.correlation (sym e)) ∙ s.correlation;
          heartbeat = ap (λ l. get_elem? (0 ∷ l) (length l)) on.same ∙ s.heartbeat
              ∙ ap some (sym (get_or-set_other words i (heartbeat_index C) value 0 (λ e. away.heartbeat (sym e))));
          unnamed = λ j un. get_or-set_other words i j value 0 (away.unnamed j un) ∙ s.unnamed j un;
        }

    -- a store into the claims at the place p, which are not settled, at the position q of their words
    pub memory_edited : (h : OwnedHistory) → IsMemory B C start words (all_of h) consumer
        → (id p : ℕ) (f : StagedClaim → StagedClaim) (q value : ℕ) → q % 8 ≡ 0 → consumer.scan ≤ q
        → q < consumer.head + C → EditsWord B C h id p f q value
        → IsMemory B C start (set words (index C q) value) (all_of (edited id p f h)) consumer
    memory_edited h m id p f q value q8 low near edit =
        let may = edit.may in
        let un = edit.unsettled in
        let h' : OwnedHistory = edited id p f h in
        let top : ℕ = staged_end start (all_of h) in
        let tops : staged_end start (all_of h') ≡ top = staged_end-edited id p f C start h may in
        let head : ℕ = consumer.head in
        let from = m.clears_from in
        let inside = index_inside q in
        let wide = m.wide in
        record {
          wide = length-set words (index C q) value ∙ m.wide;
          placed = placed_edited id p f C start h may m.placed;
          tail_is = get_or-set_other words (index C q) (tail_index C) value 0
              (not_inside q (tail_index C) (omega arith)) ∙ m.tail_is ∙ sym tops;
          limit = subst (λ n. n ≤ max_position) (sym tops) m.limit;
          room = subst (λ n. n ≤ head + C) (sym tops) m.room;
          head_is = get_or-set_other words (index C q) (head_index C) value 0
              (not_inside q (head_index C) (omega arith)) ∙ m.head_is;
          took = reach_edited C id p f head start h consumer.taken may un m.took;
          passed = reach_edited C id p f consumer.scan start h consumer.got may un m.passed;
          clears_from = m.clears_from;
          clears_to = m.clears_to;
          clears_words = m.clears_words;
          shows = λ r r8 r0 r1. dite (ℕ_discrete r q)
              (λ e. ap (λ k. get_or (set words (index C q) value) (index C k) 0) e
              ∙ get_or-set_same words (index C q) value 0 (omega arith)
              ∙ sym (ap (λ t. cond t 0 (staged_word_at B (all_of h') r)) (le-ltb r consumer.cleared (omega arith))
              ∙ ap (staged_word_at B (all_of h')) e ∙ edit.word))
              (λ ne. get_or-set_other words (index C q) (index C r) value 0
              (λ e. ne (one_position head r q (record { whole = r8; from = r0; below = r1 })
              (record { whole = q8; from = omega arith; below = near }) e)) ∙ m.shows r r8 r0 r1
              ∙ sym (ap (λ k. shown_word_of k r) (staged_word_at-edited id p f C B r h may
              (λ i x at e. edit.others i x at e r r8 ne))));
        }
      where
        shown_word_of : ℕ → ℕ → ℕ
        shown_word_of word p = cond (ltb p consumer.cleared) 0 word

    -- the tail moves, and a claim that shows nothing yet joins the history
    pub memory_appended : (h : OwnedHistory) → IsMemory B C start words (all_of h) consumer
        → (x : ℕ × StagedClaim) (new : ℕ) → JoinsSilent B C start h x new → new ≤ max_position → new ≤ consumer.head + C
        → IsMemory B C start (set words (tail_index C) new) (all_of (h ++ x ∷ [])) consumer
    memory_appended h m x new joins limit room =
        let tops : staged_end start (all_of (h ++ x ∷ [])) ≡ new = staged_end-append start h x ∙ sym joins.ends in
        let wide = m.wide in
        let head : ℕ = consumer.head in
        record {
          wide = length-set words (tail_index C) new ∙ m.wide;
          placed = placed_append C start h x m.placed joins.lies;
          tail_is = get_or-set_same words (tail_index C) new 0 (omega arith) ∙ sym tops;
          limit = subst (λ n. n ≤ max_position) (sym tops) limit;
          room = subst (λ n. n ≤ head + C) (sym tops) room;
          head_is = get_or-set_other words (tail_index C) (head_index C) new 0 (omega arith) ∙ m.head_is;
          took = reach_append head start h x consumer.taken m.took;
          passed = reach_append consumer.scan start h x consumer.got m.passed;
          clears_from = m.clears_from;
          clears_to = m.clears_to;
          clears_words = m.clears_words;
          shows = λ p p8 p0 p1. get_or-set_other words (tail_index C) (index C p) new 0
              (λ e. not_inside p (tail_index C) (omega arith) (sym e)) ∙ m.shows p p8 p0 p1
              ∙ ap (λ k. cond (ltb p consumer.cleared) 0 k) (sym (staged_word_at-append B h x p (joins.silent p p8)));
        }
