-- What the consumer's seat alone knows of a table's last state.
use Rattle.std.proofs.Common.{◌≡◌, ℕ, ◌/◌, ◌%◌, ◌≤◌, List, ◌++◌, cond, true, length, slice_index, refl, sym, ap, ◌∙◌, subst, le-ltb, arith}
use Rattle.std.{proofs.Math.Option.some, specs.declared.alloc.Global.Global, proofs.Math.ListN.get_elem?}
use Rattle.atomic_table.specs.declared.owned.Closed.{Closed}
use Rattle.ring_layout.specs.Layout.{correlation_index, head_cache_index, head_index, heartbeat_index, tail_index}
use Rattle.ring_table.specs.{Closed.restarted, Views.ConsumerView, Views.View, declared.view.Key.Key}
use Rattle.ring_table.specs.{Owners.OwnedHistory, Owners.all_of, Rule.IsMemory, Rule.IsService, Rule.Kept}
use Rattle.ring_table.specs.Rescued.{HadHistory, IsSaved, Rescues, Settles, ShowsClaims}
use Rattle.ring_table.specs.Staged.{Bodies, in_words, elsewhere, StagedClaim, ArePlaced, staged_end, staged_word_at}
use Rattle.ring_table.proofs.{MemoryLemmas.head_bounds, RestLemmas.Splits, RestLemmas.splits}

-- a table had the history of its last state
pub had_history : (B : Bodies) (k : Key) (v : View) (closed : Closed ℕ Global) → IsSaved B k v closed
    → (hist : OwnedHistory) × (drawn : ℕ) × HadHistory B k v closed hist drawn
had_history in_words k v closed saved =
    let f = saved.final in (
      f.1.0.0.hist,
      f.1.0.0.drawn,
      record { id = saved.id; final = (f.0, ((f.1.0.0, refl, refl), f.1.1), f.2, f.3, f.4) },
    )
had_history elsewhere k v closed saved =
    let f = saved.final in (
      f.1.0.kept.hist,
      f.1.0.kept.drawn,
      record { id = saved.id; final = (f.0, ((f.1.0, refl, refl), f.1.1), f.2, f.3, f.4) },
    )

module _ (B : Bodies) (C start : ℕ) (words : List ℕ) (views : List View) (r : Kept B C start words views) (id : ℕ)
    (v : View) (at : get_elem? views id ≡ some v) (consumes : v.consumes ≡ true)
    (rests : v.consumer.cleared ≡ v.consumer.head) where
  same : r.consumer ≡ v.consumer
  same = sym ((r.seated.each id v at).consumes consumes).1

  memory : IsMemory B C start words (all_of r.hist) v.consumer
  memory = subst (λ (z : ConsumerView). IsMemory B C start words (all_of r.hist) z) same r.memory

  cut : Splits B C v.consumer.head start (all_of r.hist) v.consumer.taken
  cut = splits B C v.consumer.head start (all_of r.hist) v.consumer.taken r.lawful.capacity.least memory.placed
      memory.took

  pub left : List StagedClaim
  left = restarted v.consumer.head cut.rest

  pub shows_left : ShowsClaims B C words left
  unfolding left
  shows_left =
      let head : ℕ = slice_index words (head_index C) in
      let e : head ≡ v.consumer.head = memory.head_is in
      let bounds = head_bounds B C start r.lawful words v.consumer (all_of r.hist) memory in
      let ends : staged_end head left ≡ staged_end start (all_of r.hist) =
      ap (λ k. staged_end k left) e ∙ cut.ends in
      let limit = memory.limit in
      let room = memory.room in
      record {
        aligned = ap (λ k. k % 8) e ∙ bounds.2;
        placed = subst (λ k. ArePlaced C k left) (sym e) cut.placed;
        tail_is = memory.tail_is ∙ sym ends;
        limit = omega arith;
        room = omega arith;
        shows = λ p p8 lo hi. memory.shows p p8 (omega arith) (omega arith)
            ∙ ap (λ b. cond b 0 (staged_word_at B (all_of r.hist) p)) (le-ltb p v.consumer.cleared (omega arith))
            ∙ cut.words p (omega arith);
      }

  pub rescues : (new : List ℕ) (claims silent : ℕ) → length new ≡ length words
      → ((i : ℕ) → C / 8 ≤ i → slice_index new i ≡ slice_index words i)
      → Settles C (slice_index words (head_index C)) left new claims silent
      → Rescues C start v r.hist r.drawn new claims silent
  unfolding left
  rescues new claims silent long trailer settles =
      let head : ℕ = slice_index words (head_index C) in
      let e : head ≡ v.consumer.head = memory.head_is in
      let bounds = head_bounds B C start r.lawful words v.consumer (all_of r.hist) memory in
      let tail : slice_index new (tail_index C) ≡ slice_index words (tail_index C) = trailer (tail_index C) (omega arith) in
      let tail_is : slice_index words (tail_index C) ≡ staged_end start (all_of r.hist) = memory.tail_is in
      let limit = memory.limit in
      let room = memory.room in
      let below = bounds.1 in
      let service : IsService C words v.consumer r.drawn =
      subst (λ (z : ConsumerView). IsService C words z r.drawn) same r.service in
      let cached = service.cache in
      let cache : slice_index new (head_cache_index C) ≡ slice_index words (head_cache_index C) =
      trailer (head_cache_index C) (omega arith) in
      record {
        lawful = r.lawful;
        id = id;
        placed = memory.placed;
        own = (r.seated.each id v at).claims;
        passed = cut.taken;
        left = cut.rest;
        whole = cut.whole;
        settled = cut.settled;
        messages = cut.messages;
        below = cut.below;
        ahead = cut.placed;
        wide = long ∙ memory.wide;
        head_is = trailer (head_index C) (omega arith) ∙ e;
        tail_is = tail ∙ tail_is ∙ sym cut.ends;
        aligned = bounds.2;
        order = omega arith;
        room = omega arith;
        limit = omega arith;
        settles = subst (λ x. Settles C x left new claims silent) e settles;
        service = record {
          cache = omega arith;
          correlation = trailer (correlation_index C) (omega arith) ∙ service.correlation;
          heartbeat = service.heartbeat ∙ ap some (sym (trailer (heartbeat_index C) (omega arith)));
          unnamed = λ i un. trailer i un.behind ∙ service.unnamed i un;
        };
      }

  -- what is left is the end of the history, from the head on
  pub left_parts : (taken : List StagedClaim) × (rest : List StagedClaim) × (all_of r.hist ≡ taken ++ rest)
      × (left ≡ restarted v.consumer.head rest)
  unfolding left
  left_parts = (cut.taken, cut.rest, cut.whole, refl)

  pub head_there : slice_index words (head_index C) ≡ v.consumer.head
  head_there = memory.head_is

  pub same_head : v.consumer.head ≡ r.consumer.head
  same_head = ap (λ (z : ConsumerView). z.head) (sym same)
