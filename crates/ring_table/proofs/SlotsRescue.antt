-- What the consumer's seat alone knows of a table with slots: which bodies are at home, and what the words become.
use Rattle.std.proofs.Common.{◌≡◌, ℕ, zero, suc, ◌+◌, ◌*◌, ◌/◌, ◌%◌, ◌≤◌, ◌<◌, List, [], ◌∷◌, ◌++◌, cond, true, length, slice_index, sym, refl, ap, ◌∙◌, subst, ⊎_elim, eq-eqb, ne_eqb, eqb, arith, All}
use Rattle.std.specs.Prelude.{⊤}
use Rattle.std.proofs.{lemmas.Bool.cond-true, lemmas.Bool.cond-false, Math.Logic.dite, Math.ListN.get_elem?}
use Rattle.std.proofs.Math.{Option.Option, Option.some, Option.some-injective, Option.some-ne-none, Decide.ℕ_discrete}
use Rattle.ring_layout.specs.{declared.message.Message.Message, Headers.committed_header}
use Rattle.ring_layout.specs.declared.message.ClaimState.TheVariants.{Open, Committed, Aborted}
use Rattle.ring_layout.specs.{Layout.head_index, Layout.tail_index, Places.index, Places.max_position}
use Rattle.ring_layout.proofs.PlaceLemmas.{next_le}
use Rattle.ring_table.specs.{Closed.restarted, Shelf.IsClaimOf, Shelf.IsShelf, SlotSteps.words_of, Views.View}
use Rattle.ring_table.specs.{Owners.OwnedHistory, Owners.all_of, Owners.owned_by, Rescued.AreTight, Rescued.Settles}
use Rattle.ring_table.specs.Passing.{IsSettled, AreSettled, placed_message, shown_at, placed_committed_of}
use Rattle.ring_table.specs.Refilling.{FillsTo, Filled, FitAll, FitsBody, MayFill, all_filled, filled_message}
use Rattle.ring_table.{specs.Rule.Kept, proofs.StagedPlaces.lies_in}
use Rattle.ring_table.specs.Staged.{elsewhere, StagedClaim, PlacedMessage, Stage, Moved, Padded, Stored, ArePlaced, body_word, claim_end, staged_end, staged_span}
use Rattle.ring_table.proofs.BlankLemmas.{all_blanked, as_long, blank_count, blank_end, blank_silent, blanked}
use Rattle.ring_table.proofs.{BodyPlaces.body_index, BodyPlaces.claim_lies, MarkWords.committed_small}
use Rattle.ring_table.proofs.{ListLemmas.there_or_past, OutPlaces.all_home, OutPlaces.none_at_got, OutPlaces.reads_from}
use Rattle.ring_table.proofs.{PictureWords.read_at, ReachLemmas.stored_of, SettleLemmas.are_stored}
use Rattle.ring_table.proofs.RescueLemmas.{head_there, left, left_parts, same_head, shows_left}
use Rattle.ring_table.proofs.{RestLemmas.staged_word_at-claims_of, SlotBytes.first_word_of, SlotBytes.slot_later}
use Rattle.ring_table.proofs.DecodeLemmas.{HeadAt, all_filled_out, filled_ends, filled_placed, filled_settled_one, settles_as}
use Rattle.ring_table.proofs.LastMarks.{heads_all, heads_rest, heads_restarted}

-- ---- which bodies are at home

-- the slots have this body at this place
abbrev SlotsHave : ℕ → List ℕ → ℕ → List ℕ → Type 0
SlotsHave C xs place body = (at : ℕ) → at % 8 ≡ 0 → at < length body
    → slice_index xs (index C (place + 8 + at)) ≡ body_word body at

-- and those of the settled claims from the head on
abbrev pub AllHave : ℕ → ℕ → List ℕ → List StagedClaim → Type 0
AllHave C head xs [] = ⊤
AllHave C head xs (c ∷ cs) = (IsSettled c.stage → head ≤ c.place → SlotsHave C xs c.place c.message.body)
    × AllHave C head xs cs

have_all : (C head : ℕ) (xs : List ℕ) (h : OwnedHistory)
    → ((k : ℕ) (x : ℕ × StagedClaim) → get_elem? h k ≡ some x → IsSettled x.1.stage → head ≤ x.1.place
    → SlotsHave C xs x.1.place x.1.message.body) → AllHave C head xs (all_of h)
have_all C head xs [] each = tt
have_all C head xs (x ∷ h) each = (each 0 x refl, have_all C head xs h (λ k y e. each (suc k) y e))

have_rest : (C head : ℕ) (xs : List ℕ) (front rest : List StagedClaim) → AllHave C head xs (front ++ rest)
    → AllHave C head xs rest
have_rest C head xs [] rest all = all
have_rest C head xs (c ∷ front) rest all = have_rest C head xs front rest all.1

have_restarted : (C head : ℕ) (xs : List ℕ) (s : ℕ) (rest : List StagedClaim) → AllHave C head xs rest
    → AllHave C head xs (restarted s rest)
have_restarted C head xs s [] all = tt
have_restarted C head xs s (c ∷ rest) all = all

-- those of settled claims stay as open ones are filled
have_filled : (C head : ℕ) (xs : List ℕ) (cs : List StagedClaim) → AllHave C head xs cs
    → AllHave C head xs (all_filled_out cs)
have_filled C head xs [] all = tt
have_filled C head xs (c ∷ cs) all = (
  λ done above. subst (λ (m : Message). SlotsHave C xs c.place m.body)
      (sym (filled_settled_one c.stage c.message done)) (all.0 done above),
  have_filled C head xs cs all.1,
)

-- a claim of the history is one of its owner's
owned_in : (id : ℕ) (h : OwnedHistory) (k : ℕ) (x : ℕ × StagedClaim) → get_elem? h k ≡ some x → x.0 ≡ id
    → (j : ℕ) × (get_elem? (owned_by id h) j ≡ some x.1)
owned_in id [] k x e own = absurd (some-ne-none x (sym e))
owned_in id (y ∷ ys) zero x e own =
    let same : y ≡ x = some-injective y x e in
    let mine : y.0 ≡ id = ap (λ (z : ℕ × StagedClaim). z.0) same ∙ own in (
      0,
      ap (λ b. get_elem? (cond b (y.1 ∷ owned_by id ys) (owned_by id ys)) 0) (eq-eqb y.0 id mine)
          ∙ ap (λ (z : ℕ × StagedClaim). some z.1) same,
    )
owned_in id (y ∷ ys) (suc k) x e own =
    let t = owned_in id ys k x e own in
    dite (ℕ_discrete y.0 id)
    (λ mine. (
      suc t.0,
      ap (λ b. get_elem? (cond b (y.1 ∷ owned_by id ys) (owned_by id ys)) (suc t.0)) (eq-eqb y.0 id mine) ∙ t.1,
    ))
    (λ other. (
      t.0,
      ap (λ b. get_elem? (cond b (y.1 ∷ owned_by id ys) (owned_by id ys)) t.0) (ne_eqb y.0 id other) ∙ t.1,
    ))

module _ (C start : ℕ) (words : List ℕ) (homes : List (Option ℕ)) (views : List View)
    (r : Kept elsewhere C start words views) (s : IsShelf C homes views) (id : ℕ) (v : View)
    (at_id : get_elem? views id ≡ some v) (consumes : v.consumes ≡ true) (bare : v.out ≡ []) (xs : List ℕ)
    (values : (i y : ℕ) → get_elem? homes i ≡ some (some y) → get_elem? xs i ≡ some y) where
  claim_of_view : (k : ℕ) (x : ℕ × StagedClaim) → get_elem? r.hist k ≡ some x → IsSettled x.1.stage
      → IsClaimOf views x.1
  claim_of_view k x there done =
      let own = owned_in x.0 r.hist k x there refl in
      ⊎_elim
      (λ (t : (u : View) × (get_elem? views x.0 ≡ some u)). record {
        seat = x.0;
        view = t.0;
        nth = own.0;
        there = t.1;
        has = subst (λ l. get_elem? l own.0 ≡ some x.1) (sym (r.seated.each x.0 t.0 t.1).claims) own.1;
        stored = stored_of x.1.stage done;
      })
      (λ (past : length views ≤ x.0). absurd (some-ne-none x.1
      (sym own.1 ∙ ap (λ (l : List StagedClaim). get_elem? l own.0) (r.seated.nobody x.0 past))))
      (there_or_past views x.0)

  slot_right : (k : ℕ) (x : ℕ × StagedClaim) → get_elem? r.hist k ≡ some x → IsSettled x.1.stage
      → r.consumer.head ≤ x.1.place → SlotsHave C xs x.1.place x.1.message.body
  slot_right k x there done above off off8 less =
      let n : ℕ = length x.1.message.body in
      let place : ℕ = x.1.place in
      let i : ℕ = off / 8 + 1 in
      let lies = claim_lies elsewhere C start words views r k x there above in
      let none = none_at_got C start words homes views r s id v (placed_message x.1) at_id bare consumes
      (record { nth = k; owned = x; there = there; settled = done; is = refl }) in
      let inside : i < words_of (8 + n) = omega arith in
      let home = all_home C start words homes views r s place n lies none i inside in
      let off_is : place + 8 + off ≡ place + 8 * i = omega arith in
      let whole : place + (8 + off) ≡ place + 8 + off = omega arith in
      let slot : index C (place + 8 + off) ≡ index C place + i =
      ap (index C) off_is ∙ body_index C r.consumer.head place n i lies.body inside in
      let at_home : get_elem? homes (index C (place + 8 + off)) ≡ some (some home.0) =
      ap (get_elem? homes) slot ∙ home.1 in
      read_at xs (index C (place + 8 + off)) home.0 (values (index C (place + 8 + off)) home.0 at_home)
      ∙ s.exact x.1 (claim_of_view k x there done) (reads_from C start words homes views r s place above) (8 + off) home.0
      (omega arith) (omega arith) (ap (λ z. get_elem? homes (index C z)) whole ∙ at_home)
      ∙ slot_later x.1.message off

  -- the first slot of such a claim has its header
  slot_head : (k : ℕ) (x : ℕ × StagedClaim) → get_elem? r.hist k ≡ some x → IsSettled x.1.stage
      → r.consumer.head ≤ x.1.place
      → slice_index xs (index C x.1.place) ≡ committed_header x.1.message.type_id (length x.1.message.body)
  slot_head k x there done above =
      let n : ℕ = length x.1.message.body in
      let place : ℕ = x.1.place in
      let lies = claim_lies elsewhere C start words views r k x there above in
      let none = none_at_got C start words homes views r s id v (placed_message x.1) at_id bare consumes
      (record { nth = k; owned = x; there = there; settled = done; is = refl }) in
      let home = all_home C start words homes views r s place n lies none 0 (omega arith) in
      let slot : index C place + 0 ≡ index C place = omega arith in
      let whole : place + 0 ≡ place = omega arith in
      let at_home : get_elem? homes (index C place) ≡ some (some home.0) =
      ap (get_elem? homes) (sym slot) ∙ home.1 in
      let message = (lies_in C start r.hist k x r.memory.placed there).message in
      read_at xs (index C place) home.0 (values (index C place) home.0 at_home)
      ∙ s.exact x.1 (claim_of_view k x there done) (reads_from C start words homes views r s place above) 0 home.0
      refl (omega arith) (ap (λ z. get_elem? homes (index C z)) whole ∙ at_home)
      ∙ first_word_of (committed_header x.1.message.type_id n) x.1.message.body
      (committed_small C x.1.message r.lawful.capacity.most message)

  pub heads_left : (taken rest : List StagedClaim) → all_of r.hist ≡ taken ++ rest → (head : ℕ) → (p : ℕ)
      → r.consumer.head ≤ p → HeadAt p (slice_index xs (index C p)) (restarted head rest)
  heads_left taken rest whole head p from = heads_restarted p (slice_index xs (index C p)) head rest
      (heads_rest p (slice_index xs (index C p)) taken rest (subst (HeadAt p (slice_index xs (index C p))) whole
      (heads_all p (slice_index xs (index C p)) r.hist (λ k x there done place.
      ap (λ z. slice_index xs (index C z)) (sym place) ∙ slot_head k x there done (omega arith)))))

  pub have_left : (taken rest : List StagedClaim) → all_of r.hist ≡ taken ++ rest → (head : ℕ)
      → head ≡ r.consumer.head → AllHave C head xs (restarted head rest)
  have_left taken rest whole head is = have_restarted C head xs head rest (have_rest C head xs taken rest
      (subst (AllHave C head xs) whole (have_all C head xs r.hist
      (λ k x e done above. slot_right k x e done (subst (λ z. z ≤ x.1.place) is above)))))

-- ---- bodies by place

abbrev pub body_at : List StagedClaim → ℕ → List ℕ
body_at [] p = []
body_at (c ∷ cs) p = cond (eqb c.place p) c.message.body (body_at cs p)

-- F has the bodies of the claims from e on
abbrev Agrees : (ℕ → List ℕ) → ℕ → List StagedClaim → Type 0
Agrees F e cs = (p : ℕ) → e ≤ p → F p ≡ body_at cs p

agrees_here : (C e : ℕ) (c : StagedClaim) (cs : List StagedClaim) (F : ℕ → List ℕ) → ArePlaced C e (c ∷ cs)
    → Agrees F e (c ∷ cs) → F c.place ≡ c.message.body
agrees_here C e c cs F placed agree =
    let on = next_le C e (staged_span c) in
    let place = placed.0.place in
    agree c.place (omega arith) ∙ cond-true _ _ _ (eq-eqb c.place c.place refl)

agrees_later : (C e : ℕ) (c : StagedClaim) (cs : List StagedClaim) (F : ℕ → List ℕ) → ArePlaced C e (c ∷ cs)
    → Agrees F e (c ∷ cs) → Agrees F (claim_end c) cs
agrees_later C e c cs F placed agree p far =
    let on = next_le C e (staged_span c) in
    let place = placed.0.place in
    agree p (omega arith) ∙ cond-false _ _ _ (ne_eqb c.place p (λ same. omega arith))

module _ (C head : ℕ) (xs : List ℕ) (F : ℕ → List ℕ) where
  fit_more : (t : Stage) (m : PlacedMessage) (ms : List PlacedMessage) → (IsSettled t → FitsBody C xs F m)
      → FitAll C xs F ms → FitAll C xs F (shown_at t m ++ ms)
  fit_more Moved m ms fit fits = fits
  fit_more Padded m ms fit fits = fits
  fit_more (Stored Open) m ms fit fits = fits
  fit_more (Stored Committed) m ms fit fits = (fit tt, fits)
  fit_more (Stored Aborted) m ms fit fits = fits

  fit_all : (e : ℕ) (cs : List StagedClaim) → ArePlaced C e cs → head ≤ e → AllHave C head xs cs → Agrees F e cs
      → FitAll C xs F (placed_committed_of (all_blanked cs))
  fit_all e [] placed le have agree = tt
  fit_all e (c ∷ cs) placed le have agree =
      let on = next_le C e (staged_span c) in
      let place = placed.0.place in
      let body : F c.place ≡ c.message.body = agrees_here C e c cs F placed agree in
      let long = as_long c in
      fit_more c.stage (placed_message (blanked c)) (placed_committed_of (all_blanked cs))
      (λ done. record {
        long = ap length body ∙ sym long;
        bytes = subst (λ l. All (λ b. b < 256) l) (sym body) placed.0.message.bytes;
        there = λ off off8 less. have.0 done (omega arith) off off8 (omega arith)
            ∙ ap (λ l. body_word l off) (sym body);
      })
      (fit_all (claim_end c) cs placed.1 (omega arith) have.1 (agrees_later C e c cs F placed agree))

  -- the messages with the bodies of F
  abbrev refill : List PlacedMessage → List PlacedMessage
  refill [] = []
  refill (m ∷ ms) =
      (record { place = m.place; message = record { type_id = m.message.type_id; body = F m.place } }) ∷ refill ms

  refill_one : (t : Stage) (place : ℕ) (m : Message) (ms ns : List PlacedMessage) → ms ≡ refill ns
      → shown_at t (record { place = place; message = filled_message t (F place) m }) ++ ms
      ≡ refill (shown_at t (record { place = place; message = m }) ++ ns)
  refill_one Moved place m ms ns e = e
  refill_one Padded place m ms ns e = e
  refill_one (Stored Open) place m ms ns e = e
  refill_one (Stored Committed) place m ms ns e =
      ap (λ l. (record { place = place; message = record { type_id = m.type_id; body = F place } }) ∷ l) e
  refill_one (Stored Aborted) place m ms ns e = e

  refill_filled : (now : List StagedClaim) → placed_committed_of (all_filled F now) ≡ refill (placed_committed_of now)
  refill_filled [] = refl
  refill_filled (c ∷ cs) = refill_one c.stage c.place c.message (placed_committed_of (all_filled F cs))
      (placed_committed_of cs) (refill_filled cs)

  refill_back : (t : Stage) (c : StagedClaim) (ms ns : List PlacedMessage) → F c.place ≡ c.message.body
      → refill ms ≡ ns → refill (shown_at t (placed_message (blanked c)) ++ ms) ≡ shown_at t (placed_message c) ++ ns
  refill_back Moved c ms ns body e = e
  refill_back Padded c ms ns body e = e
  refill_back (Stored Open) c ms ns body e = e
  refill_back (Stored Committed) c ms ns body e = λ i.
      (record { place = c.place; message = record { type_id = c.message.type_id; body = body i } }) ∷ e i
  refill_back (Stored Aborted) c ms ns body e = e

  refill_blanked : (e : ℕ) (cs : List StagedClaim) → ArePlaced C e cs → Agrees F e cs
      → refill (placed_committed_of (all_blanked cs)) ≡ placed_committed_of cs
  refill_blanked e [] placed agree = refl
  refill_blanked e (c ∷ cs) placed agree =
      refill_back c.stage c (placed_committed_of (all_blanked cs)) (placed_committed_of cs)
      (agrees_here C e c cs F placed agree)
      (refill_blanked (claim_end c) cs placed.1 (agrees_later C e c cs F placed agree))

  filled_settled : (now : List StagedClaim) → AreSettled now → AreSettled (all_filled F now)
  filled_settled [] all = tt
  filled_settled (c ∷ cs) all = (all.0, filled_settled cs all.1)

  filled_tight : (now : List StagedClaim) → AreTight now → AreTight (all_filled F now)
  filled_tight [] all = tt
  filled_tight (c ∷ cs) all = (all.0, filled_tight cs all.1)

  -- the walk over what was settled may begin
  pub may_fill : (words : List ℕ) (cs : List StagedClaim) (claims silent : ℕ)
      → head ≡ slice_index words (head_index C) → slice_index words (tail_index C) ≡ staged_end head cs
      → head % 8 ≡ 0 → staged_end head cs ≤ head + C → staged_end head cs ≤ max_position → ArePlaced C head cs
      → AllHave C head xs cs → Agrees F head cs
      → (k : Settles C head (all_blanked cs) words claims silent) → MayFill C xs F k.now words
  may_fill words cs claims silent at_head tail_is aligned room limit placed have agree k =
      let ends : staged_end head k.now ≡ staged_end head cs = k.ends ∙ blank_end head cs in
      let begins : FillsTo C head xs F k.now head words = record {
        done = [];
        ahead = k.now;
        over = record {
          whole = refl;
          done_placed = tt;
          done_ends = refl;
          placed = k.placed;
          settled = k.settled;
          tight = k.tight;
          ends = refl;
          limit = omega arith;
          room = omega arith;
          aligned = aligned;
          from = omega arith;
          fits = subst (FitAll C xs F) (sym k.messages) (fit_all head cs placed (omega arith) have agree);
          shown = λ p p8 lo hi. absurd (omega arith);
          shows = λ p p8 lo hi. k.picture p p8 lo hi
              ∙ sym (staged_word_at-claims_of C head k.now p k.placed (are_stored k.now k.settled));
        };
      } in
      record {
        tail_is = tail_is ∙ sym ends ∙ ap (λ z. staged_end z k.now) at_head;
        begins = subst (λ z. FillsTo C z xs F k.now z words) at_head begins;
      }

  -- and what it comes to
  pub settles_filled : (old new : List ℕ) (cs : List StagedClaim) (claims silent : ℕ) → ArePlaced C head cs
      → Agrees F head cs → (k : Settles C head (all_blanked cs) old claims silent)
      → Filled C head F k.now new → Settles C head cs new claims silent
  settles_filled old new cs claims silent placed agree k f = record {
    now = all_filled F k.now;
    placed = f.placed;
    settled = filled_settled k.now k.settled;
    tight = filled_tight k.now k.tight;
    messages = refill_filled k.now ∙ ap refill k.messages ∙ refill_blanked head cs placed agree;
    ends = f.ends ∙ k.ends ∙ blank_end head cs;
    picture = λ p p8 lo hi. f.shows p p8 lo hi ∙ staged_word_at-claims_of C head (all_filled F k.now) p f.placed
        (are_stored (all_filled F k.now) (filled_settled k.now k.settled));
    claims_is = k.claims_is ∙ blank_count cs;
    silent_is = k.silent_is ∙ blank_silent cs;
  }

-- ---- the whole

module _ (C start : ℕ) (words : List ℕ) (homes : List (Option ℕ)) (views : List View)
    (r : Kept elsewhere C start words views) (s : IsShelf C homes views) (id : ℕ) (v : View)
    (at_id : get_elem? views id ≡ some v) (consumes : v.consumes ≡ true)
    (rests : v.consumer.cleared ≡ v.consumer.head) (bare : v.out ≡ []) (xs : List ℕ)
    (values : (i y : ℕ) → get_elem? homes i ≡ some (some y) → get_elem? xs i ≡ some y) where
  abbrev pub the_left : List StagedClaim
  the_left = left elsewhere C start words views r id v at_id consumes rests

  -- with open claims that fill their records
  abbrev pub the_filled : List StagedClaim
  the_filled = all_filled_out the_left

  pub heads_it : (p : ℕ) → r.consumer.head ≤ p → HeadAt p (slice_index xs (index C p)) the_left
  heads_it p from =
      let q = left_parts elsewhere C start words views r id v at_id consumes rests in
      subst (HeadAt p (slice_index xs (index C p))) (sym q.3)
      (heads_left C start words homes views r s id v at_id consumes bare xs values q.0 q.1 q.2 v.consumer.head p from)

  have_it : AllHave C v.consumer.head xs the_filled
  have_it =
      let p = left_parts elsewhere C start words views r id v at_id consumes rests in
      have_filled C v.consumer.head xs the_left (subst (AllHave C v.consumer.head xs) (sym p.3)
      (have_left C start words homes views r s id v at_id consumes bare xs values p.0 p.1 p.2 v.consumer.head
      (same_head elsewhere C start words views r id v at_id consumes rests)))

  module _ (one two : List ℕ) (e1 : slice_index one (head_index C) ≡ slice_index words (head_index C))
      (e2 : slice_index two (head_index C) ≡ slice_index one (head_index C))
      (t2 : slice_index two (tail_index C) ≡ slice_index words (tail_index C)) (claims silent : ℕ)
      (k : Settles C (slice_index one (head_index C)) (all_blanked the_filled) two claims silent) where
    placed_one : ArePlaced C (slice_index one (head_index C)) the_filled
    placed_one = subst (λ z. ArePlaced C z the_filled) (sym e1)
        (filled_placed C (slice_index words (head_index C)) the_left r.lawful.capacity
        (shows_left elsewhere C start words views r id v at_id consumes rests).placed)

    pub may_fill_left : MayFill C xs (body_at the_filled) k.now two
    may_fill_left =
        let q = shows_left elsewhere C start words views r id v at_id consumes rests in
        let head_is = head_there elsewhere C start words views r id v at_id consumes rests in
        let head : ℕ = slice_index words (head_index C) in
        let ends : staged_end head the_filled ≡ staged_end head the_left = filled_ends head the_left in
        let room = q.room in
        let limit = q.limit in
        let room_now : staged_end head the_filled ≤ head + C = omega arith in
        let limit_now : staged_end head the_filled ≤ max_position = omega arith in
        may_fill C (slice_index one (head_index C)) xs (body_at the_filled) two the_filled claims silent (sym e2)
        (t2 ∙ q.tail_is ∙ sym ends ∙ ap (λ z. staged_end z the_filled) (sym e1))
        (ap (λ z. z % 8) e1 ∙ q.aligned)
        (subst (λ z. staged_end z the_filled ≤ z + C) (sym e1) room_now)
        (subst (λ z. staged_end z the_filled ≤ max_position) (sym e1) limit_now) placed_one
        (subst (λ z. AllHave C z xs the_filled) (sym (e1 ∙ head_is)) have_it) (λ p le. refl) k

    pub settles_left : (three : List ℕ) → Filled C (slice_index two (head_index C)) (body_at the_filled) k.now three
        → Settles C (slice_index words (head_index C)) the_left three claims silent
    settles_left three f =
        settles_as C (slice_index words (head_index C)) the_left three claims silent
        (subst (λ z. Settles C z the_filled three claims silent) e1
        (settles_filled C (slice_index one (head_index C)) xs (body_at the_filled) two three the_filled claims silent
        placed_one (λ p le. refl) k
        (subst (λ z. Filled C z (body_at the_filled) k.now three) e2 f)))
