-- The slots that a ring left have the records of the claims from the head on that were settled.
use Rattle.std.specs.Prelude.{⊤}
use Rattle.std.proofs.Common.{◌≡◌, ◌≢◌, ℕ, zero, suc, ◌+◌, ◌*◌, ◌/◌, ◌≤◌, ◌<◌, ◌⊎◌, List, [], ◌∷◌, ◌++◌, cond, true, length, sym, refl, ap, ◌∙◌, subst, ⊎_elim, eq-eqb, ne_eqb, arith}
use Rattle.std.proofs.Math.{Logic.dite, ListN.get_elem?}
use Rattle.std.proofs.Math.{Option.Option, Option.some, Option.some-injective, Option.some-ne-none, Decide.ℕ_discrete}
use Rattle.ring_layout.specs.Places.{index}
use Rattle.ring_table.specs.{Closed.restarted, Owners.OwnedHistory, Owners.all_of, Owners.owned_by, Staged.elsewhere}
use Rattle.ring_table.specs.{Passing.IsSettled, Passing.placed_message, Rule.Kept}
use Rattle.ring_table.specs.{Shelf.IsClaimOf, Shelf.IsGotOut, Shelf.IsOwnOut, Shelf.IsShelf, SlotSteps.words_of}
use Rattle.ring_table.specs.declared.{claim.PlacedMessage.PlacedMessage, claim.StagedClaim.StagedClaim, view.View.View}
use Rattle.ring_table.proofs.{BodyPlaces.WasPassed, BodyPlaces.body_index, BodyPlaces.claim_lies, ReachLemmas.stored_of}
use Rattle.ring_table.proofs.{ListLemmas.there_or_past, PictureWords.read_at, StagedPlaces.one_at_place}
use Rattle.ring_table.proofs.OutPlaces.{NoneAt, all_home, got_lies, in_history, no_out, none_at_got, one_out, reads_from}
use Rattle.ring_table.proofs.StepLemmas.{one_view}
use Rattle.ring_recovery.specs.{Image.HaveRecord, Image.IsImage, Recovered.AreFrom}
use Rattle.ring_recovery.proofs.MarkLemmas.{HaveRecords}

-- a claim of the history is one of its owner's
owned_in : (id : ℕ) (h : OwnedHistory) (k : ℕ) (x : ℕ × StagedClaim) → get_elem? h k ≡ some x → x.0 ≡ id
    → (j : ℕ) × (get_elem? (owned_by id h) j ≡ some x.1)
owned_in id [] k x e own = absurd (some-ne-none x (sym e))
owned_in id (y ∷ ys) zero x e own =
    let same : y ≡ x = some-injective y x e in
    let mine : y.0 ≡ id = ap (λ (z : ℕ × StagedClaim). z.0) same ∙ own in (
      0,
      ap (λ b. get_elem? (cond b (y.1 ∷ owned_by id ys) (owned_by id ys)) 0) (eq-eqb y.0 id mine)
          ∙ ap (λ (z : ℕ × StagedClaim). some z.1) same,
    )
owned_in id (y ∷ ys) (suc k) x e own =
    let t = owned_in id ys k x e own in
    dite (ℕ_discrete y.0 id)
    (λ mine. (
      suc t.0,
      ap (λ b. get_elem? (cond b (y.1 ∷ owned_by id ys) (owned_by id ys)) (suc t.0)) (eq-eqb y.0 id mine) ∙ t.1,
    ))
    (λ other. (
      t.0,
      ap (λ b. get_elem? (cond b (y.1 ∷ owned_by id ys) (owned_by id ys)) t.0) (ne_eqb y.0 id other) ∙ t.1,
    ))

-- the slots have the records of the settled claims that begin at k or above
abbrev pub HaveFrom : ℕ → ℕ → List ℕ → List StagedClaim → Type 0
HaveFrom C k slots [] = ⊤
HaveFrom C k slots (c ∷ cs) = (IsSettled c.stage → k ≤ c.place → HaveRecord C slots c.place c.message)
    × HaveFrom C k slots cs

have_from : (C k : ℕ) (slots : List ℕ) (h : OwnedHistory)
    → ((j : ℕ) (x : ℕ × StagedClaim) → get_elem? h j ≡ some x → IsSettled x.1.stage → k ≤ x.1.place
    → HaveRecord C slots x.1.place x.1.message) → HaveFrom C k slots (all_of h)
have_from C k slots [] each = tt
have_from C k slots (x ∷ h) each = (each 0 x refl, have_from C k slots h (λ j y e. each (suc j) y e))

pub have_rest : (C k : ℕ) (slots : List ℕ) (front rest : List StagedClaim) → HaveFrom C k slots (front ++ rest)
    → HaveFrom C k slots rest
have_rest C k slots [] rest all = all
have_rest C k slots (c ∷ front) rest all = have_rest C k slots front rest all.1

pub have_restarted : (C k : ℕ) (slots : List ℕ) (s : ℕ) (rest : List StagedClaim) → HaveFrom C k slots rest
    → HaveFrom C k slots (restarted s rest)
have_restarted C k slots s [] all = tt
have_restarted C k slots s (c ∷ rest) all = all

pub have_records : (C k : ℕ) (slots : List ℕ) (cs : List StagedClaim) → AreFrom k cs → HaveFrom C k slots cs
    → HaveRecords C slots cs
have_records C k slots [] from all = tt
have_records C k slots (c ∷ cs) from all = (λ done. all.0 done from.0, have_records C k slots cs from.1 all.1)

module _ (C start : ℕ) (words : List ℕ) (homes : List (Option ℕ)) (views : List View)
    (r : Kept elsewhere C start words views) (s : IsShelf C homes views) (slots : List ℕ)
    (image : IsImage C homes views slots) where
  claim_of_view : (k : ℕ) (x : ℕ × StagedClaim) → get_elem? r.hist k ≡ some x → IsSettled x.1.stage
      → IsClaimOf views x.1
  claim_of_view k x there done =
      let own = owned_in x.0 r.hist k x there refl in
      ⊎_elim
      (λ (t : (u : View) × (get_elem? views x.0 ≡ some u)). record {
        seat = x.0;
        view = t.0;
        nth = own.0;
        there = t.1;
        has = subst (λ l. get_elem? l own.0 ≡ some x.1) (sym (r.seated.each x.0 t.0 t.1).claims) own.1;
        stored = stored_of x.1.stage done;
      })
      (λ (past : length views ≤ x.0). absurd (some-ne-none x.1
      (sym own.1 ∙ ap (λ (l : List StagedClaim). get_elem? l own.0) (r.seated.nobody x.0 past))))
      (there_or_past views x.0)

  module _ (k : ℕ) (x : ℕ × StagedClaim) (there : get_elem? r.hist k ≡ some x) (done : IsSettled x.1.stage)
      (from_head : r.consumer.head ≤ x.1.place) where
    passed : WasPassed r.hist (placed_message x.1)
    passed = record { nth = k; owned = x; there = there; settled = done; is = refl }

    -- a record that no seat has out is at home
    if_home : NoneAt C start words homes views r s x.1.place → HaveRecord C slots x.1.place x.1.message
    if_home none off off8 less =
        let n : ℕ = length x.1.message.body in
        let place : ℕ = x.1.place in
        let i : ℕ = off / 8 in
        let lies = claim_lies elsewhere C start words views r k x there from_head in
        let inside : i < words_of (8 + n) = omega arith in
        let home = all_home C start words homes views r s place n lies none i inside in
        let off_is : place + off ≡ place + 8 * i = omega arith in
        let slot : index C (place + off) ≡ index C place + i =
        ap (index C) off_is ∙ body_index C r.consumer.head place n i lies.body inside in
        let at_home : get_elem? homes (index C (place + off)) ≡ some (some home.0) =
        ap (get_elem? homes) slot ∙ home.1 in
        read_at slots (index C (place + off)) home.0 (image.home (index C (place + off)) home.0 at_home)
        ∙ s.exact x.1 (claim_of_view k x there done) (reads_from C start words homes views r s place from_head) off
        home.0 off8 less at_home

    -- what a seat has out of its own claims is not settled
    not_own : (id : ℕ) (v : View) (m : PlacedMessage) → get_elem? views id ≡ some v → IsOwnOut v m
        → m.place ≢ x.1.place
    not_own id v m at o same =
        let h = in_history C start words homes views r s id v o.nth o.claim at o.there in
        let one : (id, o.claim) ≡ x =
        one_at_place C start r.hist h.nth k (id, o.claim) x r.memory.placed h.there there (o.place ∙ same) in
        o.unsettled (subst (λ (z : ℕ × StagedClaim). IsSettled z.1.stage) (sym one) done)

    -- only the reader may have it out
    none_but : (id : ℕ) (v : View) (m : PlacedMessage) → get_elem? views id ≡ some v → v.consumes ≡ true
        → v.out ≡ m ∷ [] → m.place ≢ x.1.place → NoneAt C start words homes views r s x.1.place
    none_but id v m at consumes out other j u m' there' out' same = ⊎_elim
        (λ (bare : u.out ≡ []). no_out m' u.out bare out')
        (λ (t : (m'' : PlacedMessage) × (u.out ≡ m'' ∷ []) × (IsOwnOut u m'' ⊎ IsGotOut u m'')).
        let place : t.0.place ≡ x.1.place =
        ap (λ (z : PlacedMessage). z.place) (one_out t.0 m' u.out t.1 out') ∙ same in
        ⊎_elim
        (λ (o : IsOwnOut u t.0). not_own j u t.0 there' o place)
        (λ (o : IsGotOut u t.0).
        let seats : j ≡ id =
        ((r.seated.each j u there').consumes o.consumes).0 ∙ sym ((r.seated.each id v at).consumes consumes).0 in
        let is : u ≡ v = one_view views j id u v there' at seats in
        let messages : t.0 ≡ m = one_out t.0 m u.out t.1 (ap (λ (z : View). z.out) is ∙ out) in
        other (sym (ap (λ (z : PlacedMessage). z.place) messages) ∙ place)) t.2)
        (s.outs j u there')

    -- what the reader has out to read it is as it was
    if_read : (id : ℕ) (v : View) (m : PlacedMessage) → get_elem? views id ≡ some v → v.out ≡ m ∷ [] → IsGotOut v m
        → m.place ≡ x.1.place → HaveRecord C slots x.1.place x.1.message
    if_read id v m at out o same =
        let g = got_lies C start words homes views r s id v o.front m at o.consumes o.got o.ahead in
        let place : g.passed.owned.1.place ≡ m.place = ap (λ (z : PlacedMessage). z.place) g.passed.is in
        let one : g.passed.owned ≡ x =
        one_at_place C start r.hist g.passed.nth k g.passed.owned x r.memory.placed g.passed.there there
        (place ∙ same) in
        let is : m ≡ placed_message x.1 =
        sym g.passed.is ∙ ap (λ (z : ℕ × StagedClaim). placed_message z.1) one in
        subst (λ (z : PlacedMessage). HaveRecord C slots z.place z.message) is (image.read id v m at out o)

    has_record : HaveRecord C slots x.1.place x.1.message
    has_record =
        let d = s.reader in
        ⊎_elim
        (λ (bare : d.view.out ≡ []). if_home (none_at_got C start words homes views r s d.seat d.view
        (placed_message x.1) d.there bare d.consumes passed))
        (λ (t : (m : PlacedMessage) × (d.view.out ≡ m ∷ []) × (IsOwnOut d.view m ⊎ IsGotOut d.view m)). ⊎_elim
        (λ (o : IsOwnOut d.view t.0).
        if_home (none_but d.seat d.view t.0 d.there d.consumes t.1 (not_own d.seat d.view t.0 d.there o)))
        (λ (o : IsGotOut d.view t.0). dite (ℕ_discrete t.0.place x.1.place)
        (λ same. if_read d.seat d.view t.0 d.there t.1 o same)
        (λ other. if_home (none_but d.seat d.view t.0 d.there d.consumes t.1 other)))
        t.2)
        (s.outs d.seat d.view d.there)

  pub have_all : HaveFrom C r.consumer.head slots (all_of r.hist)
  have_all = have_from C r.consumer.head slots r.hist has_record
