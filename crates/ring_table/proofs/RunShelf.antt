-- The shelf as the slots of a run go home.
use Rattle.std.proofs.Common.{◌≡◌, ◌≢◌, ◌⊎◌, ℕ, zero, suc, ◌+◌, ◌-◌, ◌*◌, ◌/◌, ◌%◌, ◌≤◌, ◌<◌, List, [], ◌∷◌, ◌++◌, map, set, sym, refl, ap, ◌∙◌, subst, inl, inr, ⊎_elim, length, append-nil, arith}
use Rattle.std.proofs.Math.{Option.Option, Option.some, Logic.dite, Decide.ℕ_discrete, ListN.get_elem?}
use Rattle.std.proofs.lemmas.List.{length-map}
use Rattle.atomic_table.specs.Table.{homes_after}
use Rattle.atomic_table.proofs.Lists.{at_set, at_map, at_longer, set_else}
use Rattle.ring_layout.specs.{declared.message.Message.Message, Places.index}
use Rattle.ring_table.specs.Staged.{elsewhere, StagedClaim, PlacedMessage, IsStored, body_word, slot_bytes}
use Rattle.ring_table.specs.{Passing.IsSettled, Passing.placed_message, Shelf.IsOneOut, Shelf.IsClaimOf, Shelf.IsShelf}
use Rattle.ring_table.specs.{Views.View, Views.with_claims, Rule.Kept, Ranges.numbered, Ranges.laid, Ranges.gives_first}
use Rattle.ring_table.{specs.ProducerSteps.HasClaim, proofs.StepLemmas.one_view}
use Rattle.ring_table.specs.{SlotSteps.words_of, SlotSteps.with_out, SlotSteps.HasBody, Runs.run_claims, Runs.run_slots}
use Rattle.ring_table.proofs.BodyPlaces.{Lies, body_below, body_index, claim_lies, in_or_out, not_outside, one_slot}
use Rattle.ring_table.proofs.{FillLemmas.word_there, StagedPlaces.one_at_place, RunKept.FillsRun, RunKept.its}
use Rattle.ring_table.proofs.OutPlaces.{in_history, one_out, own_lies, reads_above, same_value}
use Rattle.ring_table.proofs.RangeLemmas.{Outside, homes_gives, laid_else, laid_here, length_laid}
use Rattle.ring_table.proofs.{SlotLemmas.reader_now, SlotLemmas.reads_before, RunSlots.length_run, RunSlots.record_at}

-- the record of a claim is one of those in the slots ws, which begin at the position p
pub record InRun (p : ℕ) (ws : List ℕ) (c : StagedClaim) : Type 0 where
  pub off : ℕ
  pub place : c.place ≡ p + 8 * off
  pub inside : off + words_of (8 + length c.message.body) ≤ length ws
  pub words : (i y : ℕ) → i < words_of (8 + length c.message.body) → get_elem? ws (off + i) ≡ some y
      → y ≡ body_word (slot_bytes c.message) (8 * i)

-- an element of two lists is one of the first or of the second
of_both : (xs ys : List StagedClaim) (k : ℕ) (d : StagedClaim) → get_elem? (xs ++ ys) k ≡ some d
    → (get_elem? xs k ≡ some d) ⊎ ((j : ℕ) × (get_elem? ys j ≡ some d))
of_both [] ys k d e = inr (k, e)
of_both (x ∷ xs) ys zero d e = inl e
of_both (x ∷ xs) ys (suc k) d e = of_both xs ys k d e

module _ (C start : ℕ) (words : List ℕ) (homes : List (Option ℕ)) (views : List View)
    (r : Kept elsewhere C start words views) (s : IsShelf C homes views) (id : ℕ) (v : View)
    (at : get_elem? views id ≡ some v) (others : List StagedClaim) (c : StagedClaim) (m : Message) (ms : List Message)
    (f : FillsRun C v others c m ms) (out : v.out ≡ placed_message c ∷ []) (held : List (ℕ × ℕ))
    (has : HasBody (index C c.place) (run_slots (m ∷ ms)) held) where
  abbrev R : List StagedClaim
  R = run_claims c.place (m ∷ ms)

  abbrev w : View
  w = with_out [] (with_claims (others ++ R) v)

  abbrev ws : List ℕ
  ws = has.values

  k : ℕ
  k = index C c.place

  has_c : HasClaim v (length others) c
  has_c = (its C start words views r id v at others c m ms f).claim

  lies : Lies C r.consumer.head r.hist c.place (length c.message.body)
  lies = own_lies C start words homes views r s id v (length others) c at has_c (λ z. subst IsSettled f.padded z)

  count : length ws ≡ words_of (8 + length c.message.body)
  count =
      let long = length_run (m ∷ ms) in
      let bytes = f.bytes in
      let many = has.count in omega arith

  -- a claim of the view after the step was there before, or is one of the run
  claim_now : (j : ℕ) (d : StagedClaim) → HasClaim w j d → (HasClaim v j d) ⊎ InRun c.place ws d
  claim_now j d e = ⊎_elim
      (λ (old : get_elem? others j ≡ some d).
      inl (ap (λ l. get_elem? l j) f.claims ∙ at_longer others (c ∷ []) j d old))
      (λ (new : (i : ℕ) × (get_elem? R i ≡ some d)).
      let t = record_at c.place (m ∷ ms) new.0 d new.1 in
      let whole = t.whole in
      let inside = t.inside in
      let many = count in
      let bytes = f.bytes in
      let off : t.off ≡ 8 * (t.off / 8) = omega arith in
      inr (record {
        off = t.off / 8;
        place = t.place ∙ ap (λ z. c.place + z) off;
        inside = omega arith;
        words = λ i y less e'.
            let there : 8 * (t.off / 8 + i) ≡ t.off + 8 * i = omega arith in
            sym (has.words (t.off / 8 + i) y e') ∙ ap (body_word (run_slots (m ∷ ms))) there ∙ t.words (8 * i) (omega arith) (omega arith);
      }))
      (of_both others R j d e)

  abbrev homes_now : List (Option ℕ)
  homes_now = laid (index C c.place) (map some has.values) homes

  here : (i : ℕ) → i < length ws → (y : ℕ) × (get_elem? ws i ≡ some y) × (get_elem? homes_now (index C c.place + i) ≡ some (some y))
  here i less =
      let many : length (map some ws) ≡ length ws = length-map ws (λ (z : ℕ). some z) in
      let y = word_there ws i less in
      let all = count in
      let b = body_below C r.consumer.head c.place (length c.message.body) (length ws - 1) lies.body (omega arith) in
      let wide = s.wide in
      let fits : index C c.place + length (map some ws) ≤ length homes = omega arith in
      (y.0, y.1, laid_here (index C c.place) (map some ws) homes fits i (some y.0) (at_map some ws i y.0 y.1) (index C c.place + i) refl)

  -- a stored claim of the old views does not lie there
  apart_from : (d : StagedClaim) (of : IsClaimOf views d) → d.place ≢ c.place
  apart_from d of same =
      let h = in_history C start words homes views r s of.seat of.view of.nth d of.there of.has in
      let mine = in_history C start words homes views r s id v (length others) c at has_c in
      let one : (of.seat, d) ≡ (id, c) = one_at_place C start r.hist h.nth mine.nth (of.seat, d) (id, c) r.memory.placed
      h.there mine.there same in
      subst IsStored (ap (λ (z : ℕ × StagedClaim). z.1.stage) one ∙ f.padded) of.stored

  -- a slot of such a claim is another one
  slot_apart : (d : StagedClaim) (of : IsClaimOf views d) → r.consumer.head ≤ d.place → (a : ℕ) → a % 8 ≡ 0
      → a < 8 + length d.message.body → Outside (index C c.place) (length ws) (index C (d.place + a))
  slot_apart d of above a a8 less =
      let h = in_history C start words homes views r s of.seat of.view of.nth d of.there of.has in
      let theirs = claim_lies elsewhere C start words views r h.nth (of.seat, d) h.there above in
      let many = count in
      ⊎_elim
      (λ (z : (j : ℕ) × (j < length ws) × (index C (d.place + a) ≡ index C c.place + j)).
      let one = one_slot C start r.consumer.head r.hist r.memory.placed d.place (length d.message.body)
      c.place (length c.message.body) theirs lies a (8 * z.0) (a8, less) (omega arith, omega arith)
      (z.2 ∙ sym (body_index C r.consumer.head c.place (length c.message.body) z.0 lies.body (omega arith))) in
      absurd (apart_from d of one.0))
      (λ (z : Outside (index C c.place) (length ws) (index C (d.place + a))). z)
      (in_or_out (index C c.place) (length ws) (index C (d.place + a)))

  laid_apart : (i : ℕ) → Outside (index C c.place) (length ws) i → get_elem? homes_now i ≡ get_elem? homes i
  laid_apart i o = laid_else (index C c.place) (map some ws) homes i
      (subst (λ z. Outside (index C c.place) z i) (sym (length-map ws (λ (z : ℕ). some z))) o)

  old_right : (d : StagedClaim) → IsClaimOf views d → (p : ℕ) → (a y : ℕ) → r.consumer.head ≤ d.place → a % 8 ≡ 0
      → a < 8 + length d.message.body → get_elem? homes_now (index C (d.place + a)) ≡ some (some y)
      → y ≡ body_word (slot_bytes d.message) a
  old_right d of p a y above a8 less e =
      s.exact d of (Rattle.ring_table.proofs.OutPlaces.reads_from C start words homes views r s d.place above) a y a8 less
      (sym (laid_apart (index C (d.place + a)) (slot_apart d of above a a8 less)) ∙ e)

  pub run_shelf : IsShelf C homes_now (set views id w)
  run_shelf =
      let many = count in
      let n : ℕ = length c.message.body in
      record {
        wide = length_laid (index C c.place) (map some ws) homes ∙ s.wide;
        home = λ i inside free. ⊎_elim
            (λ (h : (j : ℕ) × (j < length ws) × (i ≡ index C c.place + j)).
            let y = here h.0 h.1 in
            (y.0, ap (get_elem? homes_now) h.2 ∙ y.2))
            (λ (h : Outside (index C c.place) (length ws) i).
            let b = s.home i inside (λ j u there o. dite (ℕ_discrete j id)
            (λ same.
            let is : o.message ≡ placed_message c = one_out o.message (placed_message c) u.out o.out_is
            (ap (λ (z : View). z.out) (one_view views j id u v there at same) ∙ out) in
            let q : ℕ = o.at / 8 in
            let a8 = o.aligned in
            let whole : o.at ≡ 8 * q = omega arith in
            let lt : o.at < 8 + n = subst (λ (z : PlacedMessage). o.at < 8 + length z.message.body) is o.inside in
            let slot : i ≡ index C c.place + q = sym o.slot_is ∙ (λ x. index C ((is x).place + whole x))
            ∙ body_index C r.consumer.head c.place n q lies.body (omega arith) in
            not_outside (index C c.place) (length ws) i q (omega arith) slot h)
            (λ other. free j u (set_else views id j w other ∙ there) o)) in
            (b.0, laid_apart i h ∙ b.1))
            (in_or_out (index C c.place) (length ws) i);
        exact = λ d of reads a y a8 less e.
            let reads' = reads_before C start words homes views r s id v w at refl refl d.place reads in
            let above = reads_above C start words homes views r s d.place reads' in
            ⊎_elim
            (λ (z : (of.seat ≡ id) × (w ≡ of.view)). ⊎_elim
            (λ (old : HasClaim v of.nth d).
            old_right d (record { seat = id; view = v; nth = of.nth; there = at; has = old; stored = of.stored }) 0 a y above a8
            less e)
            (λ (new : InRun c.place ws d).
            let i : ℕ = a / 8 in
            let whole : a ≡ 8 * i = omega arith in
            let inside = new.inside in
            let sum : c.place + 8 * new.off + 8 * i ≡ c.place + 8 * (new.off + i) = omega arith in
            let slot : index C (d.place + a) ≡ index C c.place + (new.off + i) =
            (λ x. index C (new.place x + whole x)) ∙ ap (index C) sum
            ∙ body_index C r.consumer.head c.place n (new.off + i) lies.body (omega arith) in
            let b = here (new.off + i) (omega arith) in
            let value : y ≡ b.0 = same_value (get_elem? homes_now (index C c.place + (new.off + i))) y b.0
            (ap (get_elem? homes_now) (sym slot) ∙ e) b.2 in
            value ∙ new.words i b.0 (omega arith) b.1 ∙ ap (body_word (slot_bytes d.message)) (sym whole))
            (claim_now of.nth d (subst (λ (x : View). HasClaim x of.nth d) (sym z.1) of.has)))
            (λ (z : (of.seat ≢ id) × (get_elem? views of.seat ≡ some of.view)).
            old_right d (record {
              seat = of.seat;
              view = of.view;
              nth = of.nth;
              there = z.1;
              has = of.has;
              stored = of.stored;
            }) 0 a y above a8 less e)
            (at_set views id of.seat w of.view of.there);
        outs = λ j u there. ⊎_elim
            (λ (z : (j ≡ id) × (w ≡ u)). subst IsOneOut z.1 (inl refl))
            (λ (z : (j ≢ id) × (get_elem? views j ≡ some u)). s.outs j u z.1)
            (at_set views id j w u there);
        reader = reader_now C start words homes views r s id v w at refl refl;
      }

  pub homes_are : homes_after homes held (gives_first has.values) ≡ homes_now
  homes_are =
      ap (λ h. homes_after homes h (gives_first has.values)) (has.held_is ∙ sym (append-nil (numbered (index C c.place) has.values)))
      ∙ homes_gives homes (index C c.place) has.values []
