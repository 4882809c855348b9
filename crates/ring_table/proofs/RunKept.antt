-- The claims of a run take the place of the one claim that was made for them: the rule with headers.
use Rattle.std.proofs.Common.{◌≡◌, ◌≢◌, ◌⊎◌, ℕ, ◌+◌, ◌-◌, ◌/◌, ◌%◌, ◌≤◌, ◌<◌, List, [], ◌∷◌, ◌++◌, cond, set, slice_index, sym, refl, ap, ◌∙◌, subst, inl, inr, ⊎_elim, length, append-nil, le-ltb, arith}
use Rattle.std.proofs.Math.{Option.some, Option.some-ne-none, ListN.get_elem?}
use Rattle.std.proofs.lemmas.Bool.{cases_lt, cond-false}
use Rattle.std.proofs.Common.{ne_eqb}
use Rattle.atomic_table.proofs.Lists.{at_last}
use Rattle.ring_layout.specs.{declared.message.Message.Message, Places.index, Places.next_place}
use Rattle.ring_layout.specs.Layout.{tail_index, head_cache_index, head_index, correlation_index, heartbeat_index}
use Rattle.ring_layout.proofs.PlaceLemmas.{next_within}
use Rattle.ring_table.specs.Staged.{elsewhere, StagedClaim, Padded, ArePlaced, LiesAfter, claim_end, staged_end, staged_span, staged_word, staged_word_at, masked_record, record_word, claim_of}
use Rattle.ring_table.specs.{Owners.OwnedHistory, Owners.all_of, Owners.owned_by, Passing.IsSettled, Passing.Reaches}
use Rattle.ring_table.specs.{Views.View, Views.with_claims, Runs.run_bytes, Runs.run_claims, Runs.AreMessages}
use Rattle.ring_table.specs.{Rule.IsMemory, Rule.IsService, Rule.Kept, Marks.at_position}
use Rattle.ring_table.proofs.{LoadLemmas.HasUnsettled, LoadLemmas.stands, StepLemmas.becomes, StepLemmas.sees_top_after}
use Rattle.ring_table.proofs.{KnowLemmas.knows_after, MemoryLemmas.head_bounds, StagedWords.staged_word-record}
use Rattle.ring_table.proofs.RunClaims.{Parted, parted, all_of-both, all_of-tagged, ends_both, owned_by-both, owned_by-tagged, owned_by-tagged_other, placed_back, placed_both, placed_front, reach_replaced, run_ends, run_placed, run_word, tagged, word_after, word_before}

not_none : (others : List StagedClaim) (c : StagedClaim) → others ++ c ∷ [] ≡ [] → ⊥
not_none [] c e = some-ne-none c (ap (λ (l : List StagedClaim). get_elem? l 0) e)
not_none (x ∷ xs) c e = some-ne-none x (ap (λ (l : List StagedClaim). get_elem? l 0) e)

-- the newest claim of a view, which has no padding and no header, and the messages of a run that fills it
pub record FillsRun (C : ℕ) (v : View) (others : List StagedClaim) (c : StagedClaim) (m : Message) (ms : List Message)
    : Type 0 where
  pub claims : v.producer.claims ≡ others ++ c ∷ []
  pub padded : c.stage ≡ Padded
  pub plain : c.from ≡ c.place
  pub are : AreMessages C (m ∷ ms)
  pub bytes : run_bytes (m ∷ ms) ≡ staged_span c

module _ (C start : ℕ) (words : List ℕ) (views : List View) (r : Kept elsewhere C start words views) (id : ℕ) (v : View)
    (at : get_elem? views id ≡ some v) (others : List StagedClaim) (c : StagedClaim) (m : Message) (ms : List Message)
    (f : FillsRun C v others c m ms) where
  abbrev R : List StagedClaim
  R = run_claims c.place (m ∷ ms)

  unsettled : IsSettled c.stage → ⊥
  unsettled z = subst IsSettled f.padded z

  pub its : HasUnsettled elsewhere C start views id v (length others) c
  its = record {
    seat = at;
    claim = ap (λ l. get_elem? l (length others)) f.claims ∙ at_last others c (length others) refl;
    unsettled = unsettled;
  }

  abbrev part : Parted id r.hist others c
  part = parted id r.hist others c (sym (r.seated.each id v at).claims ∙ f.claims)

  abbrev F : List StagedClaim
  F = all_of part.front

  abbrev Bk : List StagedClaim
  Bk = all_of part.back

  abbrev hist_now : OwnedHistory
  hist_now = part.front ++ (tagged id R ++ part.back)

  whole : all_of r.hist ≡ F ++ c ∷ Bk
  whole = ap all_of part.whole ∙ all_of-both part.front ((id, c) ∷ part.back)

  whole_now : all_of hist_now ≡ F ++ (R ++ Bk)
  whole_now = all_of-both part.front (tagged id R ++ part.back)
      ∙ ap (λ l. F ++ l) (all_of-both (tagged id R) part.back ∙ ap (λ l. l ++ Bk) (all_of-tagged id R))

  placed_was : ArePlaced C start (F ++ c ∷ Bk)
  placed_was = subst (ArePlaced C start) whole r.memory.placed

  lies : LiesAfter C (staged_end start F) c
  lies = (placed_back C start F (c ∷ Bk) placed_was).0

  front_ends : staged_end start F ≡ c.place
  front_ends = sym lies.from ∙ f.plain

  run_ends_here : staged_end c.place R ≡ claim_end c
  run_ends_here = run_ends c.place (m ∷ ms) ∙ ap (λ z. c.place + z) f.bytes

  placed_run : ArePlaced C c.place R
  placed_run =
      let least = r.lawful.capacity.least in
      let short = lies.message.short in
      let inside : next_place C (staged_end start F) (staged_span c) % C + staged_span c ≤ C =
      next_within C (staged_end start F) (staged_span c) (omega arith) (omega arith) in
      let within : c.place % C + staged_span c ≤ C = subst (λ z. z % C + staged_span c ≤ C) (sym lies.place) inside in
      let bytes = f.bytes in
      run_placed C c.place (m ∷ ms) (omega arith) (omega arith) f.are

  placed_now : ArePlaced C start (F ++ (R ++ Bk))
  placed_now = placed_both C start F (R ++ Bk) (placed_front C start F (c ∷ Bk) placed_was)
      (subst (λ e. ArePlaced C e (R ++ Bk)) (sym front_ends) (placed_both C c.place R Bk placed_run
      (subst (λ e. ArePlaced C e Bk) (sym run_ends_here) (placed_back C start F (c ∷ Bk) placed_was).1)))

  tops : staged_end start (all_of hist_now) ≡ staged_end start (all_of r.hist)
  tops = ap (staged_end start) whole_now ∙ ends_both start F (R ++ Bk) ∙ ends_both (staged_end start F) R Bk
      ∙ ap (λ e. staged_end (staged_end e R) Bk) front_ends ∙ ap (λ e. staged_end e Bk) run_ends_here
      ∙ sym (ap (staged_end start) whole ∙ ends_both start F (c ∷ Bk))

  reaches_now : (q : ℕ) (got : List _) → Reaches q start (all_of r.hist) got → Reaches q start (all_of hist_now) got
  reaches_now q got reaches = subst (λ l. Reaches q start l got) (sym whole_now)
      (reach_replaced q start F c _ Bk _ got unsettled (refl, (λ e. cc)) (subst (λ l. Reaches q start l got) whole reaches))

  -- the claim shows nothing
  pub blank_there : (p : ℕ) → c.place ≤ p → staged_word elsewhere c p ≡ 0
  blank_there p on = staged_word-record elsewhere c p on
      ∙ ap (λ t. masked_record t (record_word elsewhere (claim_of c) (p - c.place))) f.padded

  -- the new words: those of the run from its place to its end, and elsewhere the old ones
  pub record RunWords (now : List ℕ) : Type 0 where
    pub wide : length now ≡ length words
    pub trailer : (i : ℕ) → C / 8 ≤ i → slice_index now i ≡ slice_index words i
    pub outside : (p : ℕ) → p % 8 ≡ 0 → r.consumer.head ≤ p → p < r.consumer.head + C → (p < c.place) ⊎ (claim_end c ≤ p)
        → at_position C now p ≡ at_position C words p
    pub inside : (p : ℕ) → p % 8 ≡ 0 → c.place ≤ p → p < claim_end c → at_position C now p ≡ run_word c.place (m ∷ ms) p

  module _ (now : List ℕ) (n : RunWords now) where
    start_low : start ≤ r.consumer.head
    start_low = (head_bounds elsewhere C start r.lawful words r.consumer (all_of r.hist) r.memory).0

    shows_now : (p : ℕ) → p % 8 ≡ 0 → r.consumer.head ≤ p → p < r.consumer.head + C
        → slice_index now (index C p) ≡ cond (Rattle.std.specs.Prelude.nat_lt p r.consumer.cleared) 0
        (staged_word_at elsewhere (all_of hist_now) p)
    shows_now p p8 p0 p1 =
        let k = r.memory in
        let low = start_low in
        let st = stands elsewhere C start words views r id v (length others) c its in
        let scan = st.behind_scan in
        let to = k.clears_to in
        let ends = front_ends in
        let run_end = run_ends_here in
        let front = placed_front C start F (c ∷ Bk) placed_was in
        let far = λ (z : c.place ≤ p) (word : ℕ).
        let it : cond (Rattle.std.specs.Prelude.nat_lt p r.consumer.cleared) 0 word ≡ word =
        cond-false _ _ _ (le-ltb p r.consumer.cleared (omega arith)) in it in
        ⊎_elim
        (λ (early : p < c.place).
        n.outside p p8 p0 p1 (inl early) ∙ k.shows p p8 p0 p1
        ∙ ap (λ z. cond (Rattle.std.specs.Prelude.nat_lt p r.consumer.cleared) 0 z)
        (ap (λ l. staged_word_at elsewhere l p) whole ∙ word_before elsewhere start p F (c ∷ Bk) (omega arith) (omega arith)
        ∙ sym (word_before elsewhere start p F (R ++ Bk) (omega arith) (omega arith))
        ∙ ap (λ l. staged_word_at elsewhere l p) (sym whole_now)))
        (λ (on : c.place ≤ p). ⊎_elim
        (λ (less : p < claim_end c).
        n.inside p p8 on less
        ∙ sym (far on (staged_word_at elsewhere (all_of hist_now) p) ∙ ap (λ l. staged_word_at elsewhere l p) whole_now
        ∙ word_after elsewhere C start p F (R ++ Bk) front (omega arith)
        ∙ word_before elsewhere c.place p R Bk on (omega arith)))
        (λ (past : claim_end c ≤ p).
        n.outside p p8 p0 p1 (inr past) ∙ k.shows p p8 p0 p1 ∙ far on (staged_word_at elsewhere (all_of r.hist) p)
        ∙ ap (λ l. staged_word_at elsewhere l p) whole ∙ word_after elsewhere C start p F (c ∷ Bk) front (omega arith)
        ∙ cond-false _ _ _ (le-ltb p (claim_end c) past)
        ∙ sym (far on (staged_word_at elsewhere (all_of hist_now) p) ∙ ap (λ l. staged_word_at elsewhere l p) whole_now
        ∙ word_after elsewhere C start p F (R ++ Bk) front (omega arith)
        ∙ word_after elsewhere C c.place p R Bk placed_run (omega arith)))
        (cases_lt p (claim_end c)))
        (cases_lt p c.place)

    memory_now : IsMemory elsewhere C start now (all_of hist_now) r.consumer
    memory_now =
        let k = r.memory in
        let top = tops in
        let limit = k.limit in
        let room = k.room in
        record {
          wide = n.wide ∙ k.wide;
          placed = subst (ArePlaced C start) (sym whole_now) placed_now;
          tail_is = n.trailer (tail_index C) (omega arith) ∙ k.tail_is ∙ sym tops;
          limit = omega arith;
          room = omega arith;
          head_is = n.trailer (head_index C) (omega arith) ∙ k.head_is;
          took = reaches_now r.consumer.head r.consumer.taken k.took;
          passed = reaches_now r.consumer.scan r.consumer.got k.passed;
          clears_from = k.clears_from;
          clears_to = k.clears_to;
          clears_words = k.clears_words;
          shows = shows_now;
        }

    service_now : IsService C now r.consumer r.drawn
    service_now =
        let s = r.service in
        let cache = s.cache in
        let same = n.trailer (head_cache_index C) (omega arith) in
        record {
          cache = omega arith;
          correlation = n.trailer (correlation_index C) (omega arith) ∙ s.correlation;
          heartbeat = s.heartbeat ∙ ap some (sym (n.trailer (heartbeat_index C) (omega arith)));
          unnamed = λ i un. n.trailer i un.behind ∙ s.unnamed i un;
        }

    -- what the other seats have stays
    others_keep : (j : ℕ) → j ≢ id → owned_by j hist_now ≡ owned_by j r.hist
    others_keep j ne =
        owned_by-both j part.front (tagged id R ++ part.back)
        ∙ ap (λ l. owned_by j part.front ++ l) (owned_by-both j (tagged id R) part.back
        ∙ ap (λ l. l ++ owned_by j part.back) (owned_by-tagged_other j id R ne))
        ∙ sym (ap (owned_by j) part.whole ∙ owned_by-both j part.front ((id, c) ∷ part.back)
        ∙ ap (λ l. owned_by j part.front ++ l) (cond-false _ _ _ (ne_eqb id j (λ e. ne (sym e)))))

    mine_now : owned_by id hist_now ≡ others ++ R
    mine_now =
        owned_by-both id part.front (tagged id R ++ part.back)
        ∙ (λ i. part.before i ++ owned_by-both id (tagged id R) part.back i)
        ∙ ap (λ l. others ++ l) ((λ i. owned_by-tagged id R i ++ part.after i) ∙ append-nil R)

    pub kept_now : Kept elsewhere C start now (set views id (with_claims (others ++ R) v))
    kept_now =
        let own = r.seated.each id v at in
        let w : View = with_claims (others ++ R) v in
        let top = tops in
        let seen = own.tail_seen in
        becomes elsewhere C start words views r id v at now hist_now r.consumer r.drawn w (record {
          memory = memory_now;
          service = service_now;
          steps = record {
            own = record {
              claims = sym mine_now;
              tail_seen = omega arith;
              head_seen = own.head_seen;
              idle = λ none. absurd (not_none others c (sym f.claims ∙ (own.idle none).claims));
              served = own.served;
              consumes = own.consumes;
            };
            others = λ j u ne knows. knows_after knows (omega arith) (others_keep j ne);
            shares = refl;
            outside = others_keep;
            latest = sees_top_after views id v w (staged_end start (all_of r.hist)) (staged_end start (all_of hist_now)) at
                (λ rich. rich) tops (λ e. e ∙ sym tops) r.seated.latest;
            drawn = λ x. refl;
          };
        })
