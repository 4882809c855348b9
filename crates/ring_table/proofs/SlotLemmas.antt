-- The shelf as a body's slots are taken, or given back.
use Rattle.std.proofs.Common.{◌≡◌, ◌≢◌, ℕ, zero, suc, ◌+◌, ◌-◌, ◌*◌, ◌/◌, ◌≤◌, ◌<◌, ◌⊎◌, List, [], ◌∷◌, set, map, sym, refl, ap, ◌∙◌, subst, inl, inr, ⊎_elim, length, arith}
use Rattle.std.proofs.Math.{Option.Option, Option.none, Option.some, Option.some-ne-none, Logic.dite, Decide.ℕ_discrete}
use Rattle.std.proofs.{Math.ListN.get_elem?, lemmas.List.length-map}
use Rattle.atomic_table.specs.Table.{homes_after}
use Rattle.atomic_table.proofs.Lists.{at_set, at_map, set_here, set_else}
use Rattle.ring_layout.{proofs.ListLemmas.at_below, specs.Places.index}
use Rattle.ring_table.specs.Staged.{elsewhere, StagedClaim, PlacedMessage, IsStored, body_word, slot_bytes}
use Rattle.ring_table.specs.{Views.ConsumerView, Views.View, ProducerSteps.HasClaim}
use Rattle.ring_table.specs.{Rule.Kept, Ranges.laid, Ranges.takes_from, SlotSteps.words_of, SlotSteps.AreWordsOf}
use Rattle.ring_table.specs.Shelf.{IsOut, IsOwnOut, IsGotOut, IsOneOut, IsClaimOf, ReadsFrom, HasReader, IsShelf}
use Rattle.ring_table.proofs.RangeLemmas.{Outside, takes_else, length_homes, laid_here, laid_else, length_laid}
use Rattle.ring_table.proofs.StepLemmas.{one_view}
use Rattle.ring_table.proofs.BodyPlaces.{BodyIn, Lies, body_index, body_below, in_or_out, not_outside, one_slot, claim_lies}
use Rattle.ring_table.proofs.OutPlaces.{no_out, one_out, same_value, in_history, reads_above}

-- what is at home after a take was at home before
taken_was : (hs : List (Option ℕ)) (c : List (ℕ × ℕ)) (k : ℕ) (ys : List ℕ) (j y : ℕ)
    → get_elem? (homes_after hs c (takes_from k ys)) j ≡ some (some y) → get_elem? hs j ≡ some (some y)
taken_was hs c k [] j y e = e
taken_was hs c k (x ∷ xs) j y e =
    ⊎_elim (λ (t : (j ≡ k) × (none ≡ some y)). absurd (some-ne-none y (sym t.1)))
    (λ (t : (j ≢ k) × (get_elem? (homes_after hs c (takes_from (suc k) xs)) j ≡ some (some y))).
    taken_was hs c (suc k) xs j y t.1)
    (at_set (homes_after hs c (takes_from (suc k) xs)) k j none (some y) e)

-- nothing that was taken is at home
taken_gone : (hs : List (Option ℕ)) (c : List (ℕ × ℕ)) (k : ℕ) (ys : List ℕ) (i j y : ℕ) → i < length ys → j ≡ k + i
    → get_elem? (homes_after hs c (takes_from k ys)) j ≡ some (some y) → ⊥
taken_gone hs c k [] i j y less is e = omega arith
taken_gone hs c k (x ∷ xs) i j y less is e =
    ⊎_elim (λ (t : (j ≡ k) × (none ≡ some y)). some-ne-none y (sym t.1))
    (λ (t : (j ≢ k) × (get_elem? (homes_after hs c (takes_from (suc k) xs)) j ≡ some (some y))).
    not_first i less is t.0 (λ n less' is'. taken_gone hs c (suc k) xs n j y less' is' t.1))
    (at_set (homes_after hs c (takes_from (suc k) xs)) k j none (some y) e)
  where
    not_first : (i : ℕ) → i < suc (length xs) → j ≡ k + i → j ≢ k
        → ((n : ℕ) → n < length xs → j ≡ suc k + n → ⊥) → ⊥
    not_first zero less is ne more = ne (omega arith)
    not_first (suc i) less is ne more = more i (omega arith) (omega arith)

word_there : (l : List ℕ) (i : ℕ) → i < length l → (y : ℕ) × (get_elem? l i ≡ some y)
word_there [] i h = absurd (omega arith)
word_there (x ∷ xs) zero h = (x, refl)
word_there (x ∷ xs) (suc i) h = word_there xs i (omega arith)

module _ (C start : ℕ) (words : List ℕ) (homes : List (Option ℕ)) (views : List View)
    (r : Kept elsewhere C start words views) (s : IsShelf C homes views) where
  module _ (id : ℕ) (v w : View) (at : get_elem? views id ≡ some v)
      (consumes : w.consumes ≡ v.consumes) (consumer : w.consumer ≡ v.consumer) where
    pub reads_before : (p : ℕ) → ReadsFrom (set views id w) p → ReadsFrom views p
    reads_before p d = ⊎_elim
        (λ (t : (d.seat ≡ id) × (w ≡ d.view)).
        let heads : v.consumer.head ≡ d.view.consumer.head =
        ap (λ (z : ConsumerView). z.head) (sym consumer) ∙ ap (λ (z : View). z.consumer.head) t.1 in
        let head = d.head in
        record {
          seat = id;
          view = v;
          there = at;
          consumes = sym consumes ∙ ap (λ (z : View). z.consumes) t.1 ∙ d.consumes;
          head = omega arith;
        })
        (λ (t : (d.seat ≢ id) × (get_elem? views d.seat ≡ some d.view)).
        record { seat = d.seat; view = d.view; there = t.1; consumes = d.consumes; head = d.head })
        (at_set views id d.seat w d.view d.there)

    pub reader_now : HasReader (set views id w)
    reader_now =
        let d = s.reader in
        dite (ℕ_discrete d.seat id)
        (λ same.
        let one : d.view ≡ v = one_view views d.seat id d.view v d.there at same in
        record {
          seat = id;
          view = w;
          there = set_here views id w (at_below views id v at);
          consumes = consumes ∙ ap (λ (z : View). z.consumes) (sym one) ∙ d.consumes;
        })
        (λ other. record {
          seat = d.seat;
          view = d.view;
          there = set_else views id d.seat w other ∙ d.there;
          consumes = d.consumes;
        })

    -- ---- a take

    -- the seat has this body out, and of stored claims none but one at its place is new
    pub record TakesOut (m : PlacedMessage) : Type 0 where
      pub was : v.out ≡ []
      pub now : w.out ≡ m ∷ []
      pub kind : IsOwnOut w m ⊎ IsGotOut w m
      pub claims : (k : ℕ) (c : StagedClaim) → HasClaim w k c → IsStored c.stage
          → ((c.place ≡ m.place) × (length c.message.body ≡ length m.message.body)) ⊎ HasClaim v k c

    pub takes_shelf : (m : PlacedMessage) (carried : List (ℕ × ℕ)) (ys : List ℕ) → TakesOut m
        → BodyIn C r.consumer.head m.place (length m.message.body) → length ys ≡ words_of (8 + length m.message.body)
        → IsShelf C (homes_after homes carried (takes_from (index C m.place) ys)) (set views id w)
    takes_shelf m carried ys t b_in count =
        let k : ℕ = index C m.place in
        let n : ℕ = length m.message.body in
        let homes' : List (Option ℕ) = homes_after homes carried (takes_from k ys) in
        record {
          wide = length_homes homes carried (takes_from k ys) ∙ s.wide;
          home = λ i inside free. ⊎_elim
              (λ (h : (j : ℕ) × (j < length ys) × (i ≡ k + j)).
              let less = h.1 in
              let o : IsOut C i w = record {
                message = m;
                at = 8 * h.0;
                out_is = t.now;
                aligned = omega arith;
                inside = omega arith;
                slot_is = body_index C r.consumer.head m.place n h.0 b_in (omega arith) ∙ sym h.2;
              } in absurd (free id w (set_here views id w (at_below views id v at)) o))
              (λ (h : Outside k (length ys) i).
              let b = s.home i inside (λ j u there o. free j u (set_else views id j w
              (λ same. no_out o.message u.out
              (ap (λ (z : View). z.out) (one_view views j id u v there at same) ∙ t.was) o.out_is) ∙ there) o) in
              (b.0, takes_else homes carried k ys i h ∙ b.1))
              (in_or_out k (length ys) i);
          exact = λ c of reads at_byte y a8 inside e.
              let reads' = reads_before c.place reads in
              let old = λ (have : IsClaimOf views c). s.exact c have reads' at_byte y a8 inside
              (taken_was homes carried k ys (index C (c.place + at_byte)) y e) in
              ⊎_elim
              (λ (z : (of.seat ≡ id) × (w ≡ of.view)). ⊎_elim
              (λ (new : (c.place ≡ m.place) × (length c.message.body ≡ n)).
              let i : ℕ = at_byte / 8 in
              let whole : at_byte ≡ 8 * i = omega arith in
              let long = new.1 in
              let slot : index C (c.place + at_byte) ≡ k + i =
              (λ x. index C (new.0 x + whole x))
              ∙ body_index C r.consumer.head m.place n i b_in (omega arith) in
              absurd (taken_gone homes carried k ys i (index C (c.place + at_byte)) y (omega arith) slot e))
              (λ (has : HasClaim v of.nth c).
              old (record { seat = id; view = v; nth = of.nth; there = at; has = has; stored = of.stored }))
              (t.claims of.nth c (subst (λ (x : View). HasClaim x of.nth c) (sym z.1) of.has) of.stored))
              (λ (z : (of.seat ≢ id) × (get_elem? views of.seat ≡ some of.view)).
              old (record {
                seat = of.seat;
                view = of.view;
                nth = of.nth;
                there = z.1;
                has = of.has;
                stored = of.stored;
              }))
              (at_set views id of.seat w of.view of.there);
          outs = λ j u there. ⊎_elim
              (λ (z : (j ≡ id) × (w ≡ u)). subst IsOneOut z.1 (inr (m, t.now, t.kind)))
              (λ (z : (j ≢ id) × (get_elem? views j ≡ some u)). s.outs j u z.1)
              (at_set views id j w u there);
          reader = reader_now;
        }

    -- ---- a give

    -- the seat has nothing out any more, and a stored claim at the place has the words that go home
    pub record GivesOut (m : PlacedMessage) (ws : List ℕ) : Type 0 where
      pub was : v.out ≡ m ∷ []
      pub now : w.out ≡ []
      pub old : (k : ℕ) (c : StagedClaim) → HasClaim w k c → IsStored c.stage → c.place ≢ m.place → HasClaim v k c
      pub right : (c : StagedClaim) → IsClaimOf (set views id w) c → c.place ≡ m.place
          → AreWordsOf (slot_bytes c.message) ws
          × (words_of (8 + length c.message.body) ≡ words_of (8 + length m.message.body))

    claim_was : (m : PlacedMessage) (ws : List ℕ) → GivesOut m ws → (c : StagedClaim) → IsClaimOf (set views id w) c
        → c.place ≢ m.place → IsClaimOf views c
    claim_was m ws g c of ne = ⊎_elim
        (λ (z : (of.seat ≡ id) × (w ≡ of.view)). record {
          seat = id;
          view = v;
          nth = of.nth;
          there = at;
          has = g.old of.nth c (subst (λ (x : View). HasClaim x of.nth c) (sym z.1) of.has) of.stored ne;
          stored = of.stored;
        })
        (λ (z : (of.seat ≢ id) × (get_elem? views of.seat ≡ some of.view)). record {
          seat = of.seat;
          view = of.view;
          nth = of.nth;
          there = z.1;
          has = of.has;
          stored = of.stored;
        })
        (at_set views id of.seat w of.view of.there)

    pub gives_shelf : (m : PlacedMessage) (ws : List ℕ) → GivesOut m ws
        → Lies C r.consumer.head r.hist m.place (length m.message.body) → length ws ≡ words_of (8 + length m.message.body)
        → IsShelf C (laid (index C m.place) (map some ws) homes) (set views id w)
    gives_shelf m ws g l count =
        let k : ℕ = index C m.place in
        let n : ℕ = length m.message.body in
        let many : length (map some ws) ≡ length ws = length-map ws (λ (z : ℕ). some z) in
        let homes' : List (Option ℕ) = laid k (map some ws) homes in
        let here : (i : ℕ) → i < length ws → (y : ℕ) × (get_elem? ws i ≡ some y) × (get_elem? homes' (k + i) ≡ some
        (some y)) = λ i less.
        let y = word_there ws i less in
        let b = body_below C r.consumer.head m.place n (length ws - 1) l.body (omega arith) in
        let wide = s.wide in
        let fits : k + length (map some ws) ≤ length homes = omega arith in
        (y.0, y.1, laid_here k (map some ws) homes fits i (some y.0) (at_map some ws i y.0 y.1) (k + i) refl) in
        record {
          wide = length_laid k (map some ws) homes ∙ s.wide;
          home = λ i inside free. ⊎_elim
              (λ (h : (j : ℕ) × (j < length ws) × (i ≡ k + j)).
              let y = here h.0 h.1 in
              (y.0, ap (get_elem? homes') h.2 ∙ y.2))
              (λ (h : Outside k (length ws) i).
              let b = s.home i inside (λ j u there o. dite (ℕ_discrete j id)
              (λ same.
              let is : o.message ≡ m = one_out o.message m u.out o.out_is
              (ap (λ (z : View). z.out) (one_view views j id u v there at same) ∙ g.was) in
              let q : ℕ = o.at / 8 in
              let a8 = o.aligned in
              let whole : o.at ≡ 8 * q = omega arith in
              let lt : o.at < 8 + n = subst (λ (z : PlacedMessage). o.at < 8 + length z.message.body) is o.inside in
              let slot : i ≡ k + q = sym o.slot_is ∙ (λ x. index C ((is x).place + whole x))
              ∙ body_index C r.consumer.head m.place n q l.body (omega arith) in
              not_outside k (length ws) i q (omega arith) slot h)
              (λ other. free j u (set_else views id j w other ∙ there) o)) in
              (b.0, laid_else k (map some ws) homes i (subst (λ z. Outside k z i) (sym many) h) ∙ b.1))
              (in_or_out k (length ws) i);
          exact = λ c of reads at_byte y a8 inside e.
              let reads' = reads_before c.place reads in
              let i : ℕ = at_byte / 8 in
              let whole : at_byte ≡ 8 * i = omega arith in
              dite (ℕ_discrete c.place m.place)
              (λ same.
              let right = g.right c of same in
              let slot : index C (c.place + at_byte) ≡ k + i = (λ x. index C (same x + whole x))
              ∙ body_index C r.consumer.head m.place n i l.body (omega arith) in
              let b = here i (omega arith) in
              let value : y ≡ b.0 = same_value (get_elem? homes' (k + i)) y b.0
              (ap (get_elem? homes') (sym slot) ∙ e) b.2 in
              value ∙ sym (right.0 i b.0 b.1) ∙ ap (body_word (slot_bytes c.message)) (sym whole))
              (λ other.
              let have = claim_was m ws g c of other in
              let h = in_history C start words homes views r s have.seat have.view have.nth c have.there have.has in
              let lies = claim_lies elsewhere C start words views r h.nth (have.seat, c) h.there
              (reads_above C start words homes views r s c.place reads') in
              s.exact c have reads' at_byte y a8 inside (sym (laid_else k (map some ws) homes
              (index C (c.place + at_byte)) (⊎_elim
              (λ (z : (j : ℕ) × (j < length (map some ws)) × (index C (c.place + at_byte) ≡ k + j)).
              let one = one_slot C start r.consumer.head r.hist r.memory.placed c.place (length c.message.body)
              m.place n lies l at_byte (8 * z.0) (a8, inside) (omega arith, omega arith)
              (z.2 ∙ sym (body_index C r.consumer.head m.place n z.0 l.body (omega arith))) in
              absurd (other one.0))
              (λ (z : Outside k (length (map some ws)) (index C (c.place + at_byte))). z)
              (in_or_out k (length (map some ws)) (index C (c.place + at_byte))))) ∙ e));
          outs = λ j u there. ⊎_elim
              (λ (z : (j ≡ id) × (w ≡ u)). subst IsOneOut z.1 (inl g.now))
              (λ (z : (j ≢ id) × (get_elem? views j ≡ some u)). s.outs j u z.1)
              (at_set views id j w u there);
          reader = reader_now;
        }
