use Rattle.std.proofs.Common.{◌≡◌, ℕ, ℤ, List, [], ◌∷◌, ◌++◌, length, replicate, refl, sym, ap, ◌∙◌, arith}
use Rattle.std.proofs.lemmas.List.{length-replicate}
use Rattle.ring_layout.specs.declared.message.ClaimState.TheVariants.{Committed}
use Rattle.ring_table.specs.declared.{claim.StagedClaim.StagedClaim, claim.Stage.TheVariants.Stored, view.View.View}
use Rattle.ring_table.specs.{Changes.recorded, Changes.staged, Changes.with_header, Views.with_claims}
use Rattle.ring_table.specs.ProducerSteps.{IsStagedOpen, NeedsHeader, with_changed}
use Rattle.ring_rings.specs.Bodies.{put_at, IsFreshClaim, IsPaddedLast}
use Rattle.ring_rings.proofs.{BodyLemmas.overwritten_all, NewestLemmas.changes_last, NewestLemmas.has_last}
use Rattle.ring_rings.proofs.words.InWordsBodies.store_record.Goals as goal

module _ (place : ℕ) (type_id : ℤ) (len : ℕ) (body : List ℕ) (same : length body ≡ len) (cs : List StagedClaim)
    (c : StagedClaim) (v w : View) (is : IsPaddedLast place len cs c v)
    (headed : w ≡ with_changed place (with_header type_id len) v) where
  opened : w ≡ with_claims (cs ++ with_header type_id len c ∷ []) v
  opened = headed ∙ ap (λ (l : List StagedClaim). with_claims l v)
      (changes_last v cs c is.last.claims place is.last.place_is place is.last.behind (omega arith)
      (with_header type_id len))

  fresh : IsFreshClaim place (length body) cs (with_header type_id len c) w
  fresh = record {
    last = record {
      claims = ap (λ (z : View). z.producer.claims) opened;
      behind = is.last.behind;
      place_is = is.last.place_is;
    };
    blank = record { stage = refl; zeros = ap (λ (n : ℕ). replicate n 0) (sym same) };
  }

pub store_claimed_header-requires-clause-claim : goal.store_claimed_header-requires-clause-claim
store_claimed_header-requires-clause-claim c =
    let h = c.requires.last in
    has_last c.args.seat.now.me.0 h.others h.claim h.is.last.claims c.args.place h.is.last.place_is
    (NeedsHeader c.args.wanted.len) (record { stage = h.is.stage; same_span = h.is.same_span })

pub store_body-requires-clause-fresh : goal.store_body-requires-clause-fresh
store_body-requires-clause-fresh c =
    let h = c.requires.last in (
      h.others,
      with_header c.args.wanted.type_id c.args.wanted.len h.claim,
      fresh c.args.place c.args.wanted.type_id c.args.wanted.len c.args.body.now c.requires.len h.others h.claim
          c.args.seat.now.me.0 c.store_claimed_header.new.producer.me.0 h.is c.store_claimed_header.ensures.view,
    )

pub store_committed_header-requires-clause-claim : goal.store_committed_header-requires-clause-claim
store_committed_header-requires-clause-claim c =
    let h = c.requires.last in
    let body : List ℕ = c.args.body.now in
    let len : ℕ = c.args.wanted.len in
    let made : StagedClaim = with_header c.args.wanted.type_id len h.claim in
    let same : length body ≡ length (replicate {A = ℕ} len 0) = c.requires.len ∙ sym (length-replicate len 0) in
    let is_fresh = fresh c.args.place c.args.wanted.type_id len body c.requires.len h.others h.claim
    c.args.seat.now.me.0 c.store_claimed_header.new.producer.me.0 h.is c.store_claimed_header.ensures.view in
    let last = ap (λ (v : View). v.producer.claims) (c.store_body.ensures.stored h.others made is_fresh) in
    has_last c.store_body.new.seat.me.0 h.others (put_at 0 body made) last c.args.place
    h.is.last.place_is (IsStagedOpen c.args.wanted.type_id len)
    (record {
      stage = refl;
      type_is = refl;
      len_is = ap length (overwritten_all body (replicate len 0) same)
          ∙ c.requires.len;
    })

pub returns-clause-stored : goal.returns-clause-stored
returns-clause-stored c cs d is =
    let body : List ℕ = c.args.body.now in
    let len : ℕ = c.args.wanted.len in
    let v : View = c.args.seat.now.me.0 in
    let w : View = c.store_body.new.seat.me.0 in
    let u : View = c.store_claimed_header.new.producer.me.0 in
    let made : StagedClaim = with_header c.args.wanted.type_id len d in
    let same : length body ≡ length (replicate {A = ℕ} len 0) = c.requires.len ∙ sym (length-replicate len 0) in
    let headed = c.store_claimed_header.ensures.view in
    let first = opened c.args.place c.args.wanted.type_id len body c.requires.len cs d v u is headed in
    let stored = c.store_body.ensures.stored cs made
    (fresh c.args.place c.args.wanted.type_id len body c.requires.len cs d v u is headed) in
    let last = ap (λ (z : View). z.producer.claims) stored in
    let commits = changes_last w cs (put_at 0 body made) last c.args.place is.last.place_is c.args.place is.last.behind
    (omega arith) (staged (Stored Committed)) in
    let whole : staged (Stored Committed) (put_at 0 body made) ≡ recorded c.args.wanted.type_id body d =
    λ i. record {
      from = d.from;
      place = d.place;
      message =
          record { type_id = c.args.wanted.type_id; body = overwritten_all body (replicate len 0) same i };
      stage =
          Stored Committed;
    } in
    c.store_committed_header.ensures.view
    ∙ ap (λ (l : List StagedClaim). with_claims l w) commits
    ∙ ap (with_claims (cs ++ staged (Stored Committed) (put_at 0 body made) ∷ [])) stored
    ∙ ap (with_claims (cs ++ staged (Stored Committed) (put_at 0 body made) ∷ [])) first
    ∙ ap (λ (e : StagedClaim). with_claims (cs ++ e ∷ []) v) whole
