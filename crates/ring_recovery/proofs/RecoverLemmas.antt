-- What the headers and the slots that a ring left come to.
use Rattle.std.proofs.Common.{◌≡◌, ℕ, ◌+◌, ◌-◌, ◌/◌, ◌%◌, ◌≤◌, ◌<◌, true, false, List, ◌++◌, refl, sym, ap, ◌∙◌, subst, append_assoc, eq-eqb, le-ltb, arith, None, Result, Ok, Err, IfOk, MatchResult, not, ◌||◌}
use Rattle.std.proofs.lemmas.Bool.{cond-false}
use Rattle.ring_layout.specs.{Layout.head_index, Layout.tail_index, Lists.Begins, Refusals.IsRefusedBy}
use Rattle.ring_snapshot.specs.{RingRecords.positions_finding, declared.ring_finding.RingFinding.RingFinding}
use Rattle.ring_table.specs.{Closed.restarted, OpenClaims.AreBelow, Owners.all_of}
use Rattle.ring_table.specs.{Marks.at_position, Marks.ShowsRuns, Passing.placed_committed_of, Rescued.unsettled_count}
use Rattle.ring_table.specs.{Rule.Kept, Staged.ArePlaced, Staged.elsewhere, Staged.staged_end, Staged.staged_word_at}
use Rattle.ring_table.specs.declared.claim.{PlacedMessage.PlacedMessage, StagedClaim.StagedClaim}
use Rattle.ring_table.proofs.DecodeLemmas.{all_filled_out, filled_count, filled_ends, filled_messages, filled_placed}
use Rattle.ring_table.proofs.LastMarks.{shows_runs}
use Rattle.ring_table.proofs.{ReachLemmas.reach_aligned, ReachLemmas.reach_bounds, RestLemmas.Splits, RestLemmas.splits}
use Rattle.ring_table.proofs.StagedPlaces.{capacity_aligned, end_aligned, start_aligned}
use Rattle.ring_recovery.specs.Headers.{finding_of, head_of, headers_between, messages_of, new_walk, open_of, tail_of}
use Rattle.ring_recovery.{specs.Image.Remains, specs.declared.recovered.Recovered.Recovered, proofs.WholeLemmas.gives}
use Rattle.ring_recovery.specs.Recovered.{AreFrom, IsRecoveredOf, Reads, all_placed, messages_left}
use Rattle.ring_recovery.proofs.BodyLemmas.{HaveFrom, have_all, have_records, have_rest, have_restarted}
use Rattle.ring_recovery.proofs.{GivenLemmas.AreShown, GivenLemmas.Gives, WalkLemmas.all_found, StepLemmas.finding_is}
use Rattle.ring_recovery.proofs.{MarkLemmas.HaveRecords, MarkLemmas.have_bodies, MarkLemmas.heads_of, ScanLemmas.listed}
use Rattle.ring_recovery.proofs.SplitLemmas.{all_below, all_from, committed_append, count_restarted, first_below, from_restarted, messages_restarted, placed_front, same_rest}

positions_none : (C head tail : ℕ) → head % 8 ≡ 0 → tail % 8 ≡ 0 → head ≤ tail → tail ≤ head + C
    → positions_finding C head tail ≡ None
positions_none C head tail h8 t8 order room =
    cond-false _ _ _ (λ i. not (eq-eqb (head % 8) 0 h8 i) || not (eq-eqb (tail % 8) 0 t8 i))
    ∙ cond-false _ _ _ (le-ltb tail head order)
    ∙ cond-false _ _ _ (le-ltb (head + C) tail room)

module _ (C start : ℕ) (words slots : List ℕ) (m : Remains C start words slots) where
  abbrev rule : Kept elsewhere C start m.rule.headers m.views
  rule = m.rule.kept

  abbrev claims : List StagedClaim
  claims = all_of rule.hist

  abbrev head : ℕ
  head = rule.consumer.head

  abbrev scan : ℕ
  scan = rule.consumer.scan

  abbrev tail : ℕ
  tail = staged_end start claims

  abbrev headers : List (ℕ × ℕ)
  headers = headers_between C words slots new_walk head tail

  big : 128 ≤ C
  big = rule.lawful.capacity.least

  start8 : start % 8 ≡ 0
  start8 = start_aligned C start rule.lawful

  c8 : C % 8 ≡ 0
  c8 = capacity_aligned C rule.lawful.capacity

  head8 : head % 8 ≡ 0
  head8 = reach_aligned C head start claims rule.consumer.taken (omega (arith, big)) c8 start8 rule.memory.placed
      rule.memory.took

  tail8 : tail % 8 ≡ 0
  tail8 = end_aligned C start claims (omega (arith, big)) c8 start8 rule.memory.placed

  order : head ≤ tail
  order = (reach_bounds C head start claims rule.consumer.taken rule.memory.placed rule.memory.took).1

  -- ---- the headers from the head on

  at_head : Splits elsewhere C head start claims rule.consumer.taken
  at_head = splits elsewhere C head start claims rule.consumer.taken big rule.memory.placed rule.memory.took

  abbrev left : List StagedClaim
  left = restarted head at_head.rest

  left_from : AreFrom head left
  left_from = all_from C head head left at_head.placed (omega arith)

  have : HaveRecords C slots left
  have = have_records C head slots left left_from (have_restarted C head slots head at_head.rest
      (have_rest C head slots at_head.taken at_head.rest (subst (HaveFrom C head slots) at_head.whole
      (have_all C start m.rule.headers m.homes m.views rule m.rule.shelf slots m.image))))

  -- the headers of the rule are those of these claims
  are : (p : ℕ) → p % 8 ≡ 0 → head ≤ p → p < head + C
      → at_position C m.rule.headers p ≡ staged_word_at elsewhere left p
  are p p8 from below =
      let none = m.rule.none_cleared in
      let high : rule.consumer.cleared ≤ p = omega arith in
      rule.memory.shows p p8 from below ∙ cond-false _ _ _ (le-ltb p rule.consumer.cleared high) ∙ at_head.words p from

  head_is : head ≡ head_of C words
  head_is = sym (m.rule.encodes.trailer (head_index C) (omega arith) ∙ rule.memory.head_is)

  tail_is : tail ≡ tail_of C words
  tail_is = sym (m.rule.encodes.trailer (tail_index C) (omega arith) ∙ rule.memory.tail_is)

  runs : ShowsRuns C head slots words m.rule.headers
  runs = subst (λ z. ShowsRuns C z slots words m.rule.headers) (sym head_is)
      (shows_runs C start words m.homes m.views m.rule slots head left head8 at_head.placed are
      (λ p _. heads_of C head p slots left rule.lawful.capacity.most at_head.placed have))

  abbrev shown : ℕ → ℕ
  shown p = staged_word_at elsewhere (all_filled_out left) p

  found : headers ≡ listed shown ((tail - head) / 8) head
  found = all_found C head words slots m.rule.headers runs left rule.lawful.capacity head8 at_head.placed have
      (m.rule.encodes.wide ∙ rule.memory.wide) are ((tail - head) / 8) (omega (arith, rule.memory.room))

  are_shown : AreShown C tail shown head (all_filled_out left)
  are_shown = record {
    capacity = rule.lawful.capacity;
    aligned = head8;
    placed = filled_placed C head left rule.lawful.capacity at_head.placed;
    ends = filled_ends head left ∙ at_head.ends;
    shows = λ p _ _ _. refl;
  }

  given : Gives C tail slots head (all_filled_out left) headers
  given = subst (Gives C tail slots head (all_filled_out left)) (sym found)
      (gives C tail slots shown head ((tail - head) / 8) (all_filled_out left) are_shown
      (have_bodies C slots left have) (omega (arith, order, head8, tail8)))

  messages_are : all_placed (messages_of C slots tail headers) ≡ placed_committed_of at_head.rest
  messages_are = given.messages ∙ filled_messages left ∙ messages_restarted head at_head.rest

  claims_are : open_of headers ≡ unsettled_count at_head.rest
  claims_are = given.claims ∙ filled_count left ∙ count_restarted head at_head.rest

  taken_below : AreBelow head at_head.taken
  taken_below = all_below C start head at_head.taken
      (placed_front C start at_head.taken at_head.rest
      (subst (ArePlaced C start) at_head.whole rule.memory.placed)) at_head.below

  -- ---- what the consumer got and had not taken

  at_scan : Splits elsewhere C scan start claims rule.consumer.got
  at_scan = splits elsewhere C scan start claims rule.consumer.got big rule.memory.placed rule.memory.passed

  later : Begins at_head.taken at_scan.taken
  later = first_below head at_head.taken at_head.rest at_scan.taken at_scan.rest (sym at_head.whole ∙ at_scan.whole)
      taken_below (from_restarted head scan at_scan.rest (all_from C scan head (restarted scan at_scan.rest)
      at_scan.placed (omega (arith, rule.memory.clears_from, rule.memory.clears_to))))

  rest_is : at_head.rest ≡ later.0 ++ at_scan.rest
  rest_is = same_rest at_head.taken at_head.rest (later.0 ++ at_scan.rest)
      (sym at_head.whole ∙ at_scan.whole ∙ ap (λ l. l ++ at_scan.rest) later.1
      ∙ append_assoc at_head.taken later.0 at_scan.rest)

  abbrev again : List PlacedMessage
  again = placed_committed_of later.0

  got_is : rule.consumer.got ≡ rule.consumer.taken ++ again
  got_is = at_scan.messages ∙ ap placed_committed_of later.1 ∙ committed_append at_head.taken later.0
      ∙ ap (λ l. l ++ again) (sym at_head.messages)

  -- ---- what is recovered

  pub no_finding : finding_of C words slots ≡ None
  no_finding = finding_is C head tail words slots None m.image.wide head_is tail_is
      (positions_none C head tail head8 tail8 order rule.memory.room) (given.none head (omega arith))

  recovered : (r : Recovered) → Reads C words slots r → IsRecoveredOf rule.hist rule.consumer r
  recovered r reads =
      let read : all_placed (messages_left r) ≡ placed_committed_of at_head.rest =
      ap all_placed reads.messages
      ∙ (λ i. all_placed (messages_of C slots (sym tail_is i)
      (headers_between C words slots new_walk (sym head_is i) (sym tail_is i))))
      ∙ messages_are in
      record {
        passed = at_head.taken;
        left = at_head.rest;
        whole = at_head.whole;
        below = taken_below;
        from = from_restarted head head at_head.rest left_from;
        messages = read;
        settled = at_head.settled;
        taken = at_head.messages;
        again = again;
        got = got_is;
        first = (
          placed_committed_of at_scan.rest,
          read ∙ ap placed_committed_of rest_is
              ∙ committed_append later.0 at_scan.rest,
        );
        open_claims = reads.open_claims
            ∙ (λ i. open_of (headers_between C words slots new_walk (sym head_is i) (sym tail_is i))) ∙ claims_are;
      }

  pub is_recovered : (r : Result Recovered RingFinding) → IsRefusedBy (finding_of C words slots) r
      → IfOk r (λ x. Reads C words slots x)
      → MatchResult r (λ x. IsRecoveredOf rule.hist rule.consumer x) (λ _. ⊥)
  is_recovered (Ok x) refused reads = recovered x reads
  is_recovered (Err f) refused reads =
      let clash : false ≡ true = subst (λ o. IsRefusedBy {T = Recovered} o (Err f)) no_finding refused in absurd cc
