-- What follows from a claim that was made.
use Rattle.std.proofs.Common.{◌≡◌, ◌≢◌, ℕ, ◌+◌, ◌%◌, ◌^◌, ◌<◌, ◌≤◌, ℤ, List, [], ◌∷◌, ◌++◌, false, length, replicate, None, refl, sym, ap, ◌∙◌, ◌==◌, subst, arith}
use Rattle.std.proofs.{lemmas.List.length-replicate, Math.ListN.get_elem?}
use Rattle.atomic_table.proofs.Lists.{at_longer}
use Rattle.ring_table.specs.declared.claim.{StagedClaim.StagedClaim, Stage.TheVariants.Padded, Stage.TheVariants.Stored}
use Rattle.ring_layout.specs.declared.message.ClaimState.TheVariants.{Committed, Open}
use Rattle.ring_table.specs.declared.view.View.{View}
use Rattle.ring_layout.specs.{History.span, Places.end_after, Places.next_place, declared.admission.Admission.Admission}
use Rattle.ring_layout.proofs.PlaceLemmas.{next_le}
use Rattle.ring_table.specs.{OpenClaims.one_if_open, OpenClaims.open_count, Views.with_claim, Views.with_claims}
use Rattle.ring_table.specs.Changes.{blank, fresh_stage, recorded, staged, with_header}
use Rattle.ring_table.specs.Staged.{AreRising, AreStored, IsStored, stage_state, staged_span}
use Rattle.ring_table.specs.ProducerSteps.{EndBelow, HasClaimAt, IsStagedOpen}
use Rattle.ring_words.specs.Open.{ClaimAt}
use Rattle.ring_rings.specs.{Bodies.HasPaddedLast, Bodies.IsPaddedLast, Seats.IsOpenAt, Seats.KeepsOpen, Seats.OpensAt}
use Rattle.ring_rings.specs.Claiming.{claim_behind, looked, record_behind, tail_refusal_of, SeesRoom}
use Rattle.ring_rings.specs.{Making.GoesBehind, Making.IsNewest, Making.Moves, Matching.Matches, Ring.message}
use Rattle.ring_rings.proofs.CountLemmas.{open_count-more, open_few, stored_more}
use Rattle.ring_rings.proofs.{LeavingLemmas.AsManyOpen, LeavingLemmas.as_many_open, RisingLemmas.rising_more}
use Rattle.ring_rings.proofs.NewestLemmas.{has_last, is_padded, is_recorded, rising_few}

-- a claim stays if others come after it
has_more : (v w : View) (c : StagedClaim) (place : ℕ) (P : StagedClaim → Type 0)
    → w.producer.claims ≡ v.producer.claims ++ c ∷ [] → HasClaimAt v place P → HasClaimAt w place P
has_more v w c place P more h = record {
  nth = h.nth;
  claim = h.claim;
  there = ap (λ l. get_elem? l h.nth) more ∙ at_longer v.producer.claims (c ∷ []) h.nth h.claim h.there;
  at_place = h.at_place;
  holds = h.holds;
}

-- an open claim is still one, if it is as before
pub still_open : {C : ℕ} {v w : View} {t : ClaimAt} → IsOpenAt C v t
    → HasClaimAt w t.place (IsStagedOpen t.type_id t.len) → IsOpenAt C w t
still_open h claim = record { index = h.index; message = h.message; limit = h.limit; claim = claim }

pub keeps_claims : {C : ℕ} {v w : View} (c : StagedClaim)
    → w.producer.claims ≡ v.producer.claims ++ c ∷ [] → KeepsOpen C v w
keeps_claims {C} {v} {w} c more t h =
    still_open h (has_more v w c t.place (IsStagedOpen t.type_id t.len) more h.claim)

-- the claim is made after the tail, after these loads and others
pub record Makes (C tail : ℕ) (type_id : ℤ) (len : ℕ) (front : List (ℕ × ℕ)) (v : View) (a : Admission)
    (w : View) : Type 0 where
  pub refusal : tail_refusal_of C tail type_id len ≡ None
  pub admitted : GoesBehind C tail type_id len a
  pub whole : a.end % 8 ≡ 0
  pub loads : List (ℕ × ℕ)
  pub room : SeesRoom C tail (end_after C tail (span len)) loads
  pub head : ℕ
  pub view : w ≡ with_claim (claim_behind C tail type_id len) (end_after C tail (span len))
      (looked (front ++ loads) tail head v)
  pub few : length v.producer.claims ≤ a.place
  pub behind : EndBelow tail v.producer.claims

module _ {C tail : ℕ} {type_id : ℤ} {len : ℕ} {front : List (ℕ × ℕ)} {v : View} {a : Admission} {w : View}
    (made : Makes C tail type_id len front v a w) where
  pub made_claims : w.producer.claims ≡ v.producer.claims ++ claim_behind C tail type_id len ∷ []
  made_claims = ap (λ (u : View). u.producer.claims) made.view

  -- what the seat is for stays
  pub made_consumes : w.consumes ≡ v.consumes
  made_consumes = ap (λ (u : View). u.consumes) made.view

  -- the claim is open
  pub made_open : HasClaimAt w a.place (IsStagedOpen type_id len)
  made_open = has_last w v.producer.claims (claim_behind C tail type_id len) made_claims a.place
      (sym made.admitted.place) (IsStagedOpen type_id len)
      (record { stage = refl; type_is = refl; len_is = length-replicate len 0 })

  -- what the producer keeps if one more claim comes after its own, and this many are open then
  matches_more : {shares open_claims own_tail : ℕ} (u : View) (c : StagedClaim) (open_then : ℕ)
      → u.producer.shares ≡ v.producer.shares → u.producer.claims ≡ v.producer.claims ++ c ∷ []
      → u.producer.seen_tail ≡ a.end → tail ≤ c.place → IsStored c.stage
      → open_claims + one_if_open (stage_state c.stage) ≡ open_then → Matches v shares open_claims own_tail
      → Matches u shares open_then a.end
  matches_more {shares} {open_claims} {own_tail} u c open_then shares_are more seen behind stored opens known =
      let counted = known.counted in
      let count : open_count u.producer.claims ≡ open_count v.producer.claims + one_if_open (stage_state c.stage) =
      ap open_count more ∙ open_count-more v.producer.claims c in
      let end = made.admitted.end in
      let limit = made.admitted.limit in
      record {
        shares_are = shares_are ∙ known.shares_are;
        some = known.some;
        most = known.most;
        counted = omega arith;
        rising = subst AreRising (sym more) (rising_more tail v.producer.claims c known.rising made.behind behind);
        stored = subst AreStored (sym more) (stored_more v.producer.claims c known.stored stored);
        own = λ all. seen;
        whole = made.whole;
        limit = rw end limit;
      }

  module _ {shares open_claims own_tail : ℕ} (known : Matches v shares open_claims own_tail) where
    pub made_few : open_claims + 1 < 2 ^ 64
    made_few =
        let few = made.few in
        let lies = made.admitted.place in
        let ends = made.admitted.end in
        let limit = made.admitted.limit in
        let counted = known.counted in
        let least = open_few v.producer.claims in
        omega arith

    pub made_matches : Matches w shares (open_claims + 1) a.end
    made_matches = matches_more w (claim_behind C tail type_id len) (open_claims + 1)
        (ap (λ (u : View). u.producer.shares) made.view) made_claims
        (ap (λ (u : View). u.producer.seen_tail) made.view ∙ sym made.admitted.end) (next_le C tail (span len)) tt refl
        known

  -- with zeros for its bytes
  pub made_message : HasClaimAt w a.place (λ c. c.message ≡ message type_id (replicate len 0))
  made_message = has_last w v.producer.claims (claim_behind C tail type_id len) made_claims a.place
      (sym made.admitted.place) (λ c. c.message ≡ message type_id (replicate len 0)) refl

  -- after all claims that the producer had
  pub made_apart : (place : ℕ) (P : StagedClaim → Type 0) → HasClaimAt v place P → place ≢ a.place
  made_apart place P h same =
      let ends = made.behind h.nth h.claim h.there in
      let at = h.at_place in
      let lies = made.admitted.place in
      let on = next_le C tail (span len) in
      omega arith

  -- its body is stored, and it is committed
  module _ (body : List ℕ) (len_is : length body ≡ len) (u : View)
      (stored : u ≡ with_claims (v.producer.claims ++ record_behind C tail type_id body ∷ []) w) where
    pub written_claims : u.producer.claims ≡ v.producer.claims ++ record_behind C tail type_id body ∷ []
    written_claims = ap (λ (z : View). z.producer.claims) stored

    pub written_consumes : u.consumes ≡ v.consumes
    written_consumes = ap (λ (z : View). z.consumes) stored ∙ made_consumes

    pub written_view : u ≡ with_claim (record_behind C tail type_id body) (end_after C tail (span (length body)))
        (looked (front ++ made.loads) tail made.head v)
    written_view =
        let same = sym len_is in
        stored
        ∙ ap (with_claims (v.producer.claims ++ record_behind C tail type_id body ∷ [])) made.view
        ∙ ap (λ (n : ℕ). with_claim (record_behind C tail type_id body) (end_after C tail (span n))
        (looked (front ++ made.loads) tail made.head v)) same

    -- the claim that came is not open
    pub written_leaves : AsManyOpen v u
    written_leaves = as_many_open v u (record_behind C tail type_id body) refl
        (record { shares = ap (λ (z : View). z.producer.shares) written_view; claims = written_claims })

    pub written_matches : {shares open_claims own_tail : ℕ} → Matches v shares open_claims own_tail
        → Matches u shares open_claims a.end
    written_matches {shares} {open_claims} known = matches_more u (record_behind C tail type_id body) open_claims
        (ap (λ (z : View). z.producer.shares) written_view) written_claims
        (ap (λ (z : View). z.producer.seen_tail)
        (stored ∙ ap (with_claims (v.producer.claims ++ record_behind C tail type_id body ∷ [])) made.view)
        ∙ sym made.admitted.end)
        (next_le C tail (span (length body))) tt (omega arith) known

    -- what the producer knows of its seat, and what the seat is for
    pub written_seat : {shares open_claims own_tail : ℕ} {A : Type 0} {slots slots' : List A}
        → Matches v shares open_claims own_tail → (v.consumes ≡ false) × (slots ≡ []) → slots' ≡ slots
        → Matches u shares open_claims a.end × ((u.consumes ≡ false) × (slots' ≡ []))
    written_seat known produces same =
        (written_matches known, (written_consumes ∙ produces.0, same ∙ produces.1))

-- the tail is moved, and no header is stored yet
module _ {C tail : ℕ} {type_id : ℤ} {len : ℕ} {front : List (ℕ × ℕ)} {v : View} {a : Admission} {w : View}
    (m : Moves C tail type_id len front v a w) where
  pub moved_newest : IsNewest a.tail a.place len v.producer.claims m.claim w
  moved_newest =
      let is = m.is_moved in
      let place : next_place C tail (span is.some_len) ≡ a.place =
      ap (next_place C tail) is.same ∙ sym m.admitted.place in
      subst (λ (t : ℕ). IsNewest t a.place len v.producer.claims m.claim w) (sym m.admitted.tail_is)
      (record {
        claims = ap (λ (u : View). u.producer.claims) m.view;
        behind = m.behind;
        from_is = ap (λ (c : StagedClaim). c.from) is.is;
        place_is = ap (λ (c : StagedClaim). c.place) is.is ∙ place;
        stage_is = ap (λ (c : StagedClaim). c.stage) is.is ∙ ap (λ (p : ℕ). fresh_stage (tail == p)) place;
        span_is = sym is.same ∙ ap span (sym (length-replicate is.some_len 0))
            ∙ ap staged_span (sym is.is);
      })

  -- once its header and its body are stored, it is the record after the tail
  moved_recorded : (body : List ℕ) → length body ≡ len → (u : View)
      → u ≡ with_claims (v.producer.claims ++ recorded type_id body m.claim ∷ []) w
      → u ≡ with_claims (v.producer.claims ++ record_behind C tail type_id body ∷ []) w
  moved_recorded body long u stored =
      let is = m.is_moved in
      let same : recorded type_id body m.claim ≡ record_behind C tail type_id body =
      ap (recorded type_id body) is.is
      ∙ ap (λ (n : ℕ). record {
        from = tail;
        place = next_place C tail n;
        message = record { type_id = type_id; body = body };
        stage = Stored Committed;
      }) (is.same ∙ ap span (sym long)) in
      stored ∙ ap (λ (c : StagedClaim). with_claims (v.producer.claims ++ c ∷ []) w) same

  after_tail : a.tail ≤ a.place
  after_tail = let on = next_le C tail (span len) in let at = m.admitted in omega (arith, on, at.place, at.tail_is)

  -- its padding is stored
  module _ (x : View) (padded : x ≡ with_claims (v.producer.claims ++ staged Padded m.claim ∷ []) w) where
    pub moved_padded : HasPaddedLast a.place len x
    moved_padded = record {
      others = v.producer.claims;
      claim = staged Padded m.claim;
      is = is_padded moved_newest after_tail padded;
    }

    -- and its record
    pub moved_written : (body : List ℕ) → length body ≡ len → (u : View)
        → ((ds : List StagedClaim) (d : StagedClaim) → IsPaddedLast a.place len ds d x
        → u ≡ with_claims (ds ++ recorded type_id body d ∷ []) x)
        → u ≡ with_claims (v.producer.claims ++ record_behind C tail type_id body ∷ []) w
    moved_written body long u stored =
        moved_recorded body long u (is_recorded moved_newest after_tail padded stored)

  -- what is known once its header is
  pub moved_made : AreRising v.producer.claims
      → Makes C tail type_id len front v a (with_claims (v.producer.claims ++ claim_behind C tail type_id len ∷ []) w)
  moved_made rising = record {
    refusal = m.refusal;
    admitted = m.admitted;
    whole = m.whole;
    loads = m.loads;
    room = m.room;
    head = m.head;
    view = ap (with_claims (v.producer.claims ++ claim_behind C tail type_id len ∷ [])) m.view;
    few = (let at = m.admitted.place in
        let few = rising_few v.producer.claims (claim_behind C tail type_id len)
        (rising_more tail v.producer.claims (claim_behind C tail type_id len) rising m.behind
        (next_le C tail (span len))) in
        omega arith);
    behind = m.behind;
  }

  -- or its header alone: it is the claim after the tail
  pub moved_opened : AreRising v.producer.claims → (u : View)
      → u ≡ with_claims (v.producer.claims ++ with_header type_id len m.claim ∷ []) w
      → Makes C tail type_id len front v a u
  moved_opened rising u opened =
      let is = m.is_moved in
      let same : with_header type_id len m.claim ≡ claim_behind C tail type_id len =
      ap (with_header type_id len) is.is
      ∙ ap (λ (n : ℕ). record {
        from = tail;
        place = next_place C tail n;
        message = blank type_id len;
        stage = Stored Open;
      }) is.same in
      subst (Makes C tail type_id len front v a)
      (sym (opened ∙ ap (λ (c : StagedClaim). with_claims (v.producer.claims ++ c ∷ []) w) same)) (moved_made rising)

-- the claim is open in the hands of the producer that made it, and new
pub made_new : {C : ℕ} {v w : View} {tail : ℕ} {type_id : ℤ} {len : ℕ} {front : List (ℕ × ℕ)}
    {a : Admission} → Makes C tail type_id len front v a w
    → OpensAt C v w (record { place = a.place; index = a.place % C + 8; type_id = type_id; len = len })
made_new made = record {
  is_open = record {
    index = refl;
    message = made.admitted.message;
    limit = (omega arith);
    claim = made_open made;
  };
  apart = λ t h. made_apart made t.place (IsStagedOpen t.type_id t.len) h.claim;
}
