-- What the words of a closed broadcast buffer list from a position on.
use Rattle.std.proofs.Common.{◌≡◌, ℕ, zero, suc, ◌+◌, ◌-◌, ◌*◌, ◌/◌, ◌%◌, ◌≤◌, ◌⊎◌, List, [], ◌∷◌, slice_index, refl, ap, sym, ◌∙◌, subst, inl, inr, ⊎_elim, arith, true, false, Err, eq-eqb, not, ◌||◌, None, le-ltb, div-add-mod'}
use Rattle.std.proofs.lemmas.{Bool.cases_lt, Bool.cond-false, Nat.mod_below}
use Rattle.std.proofs.Math.{Nat.mul-mod_left, Option.some, Option.some-injective, Option.some-ne-none, ListN.get_elem?}
use Rattle.ring_layout.{specs.Places.IsBoardCapacity, specs.Places.room, proofs.Laps.mod_step}
use Rattle.ring_board.specs.declared.shared.view.Record.{Record}
use Rattle.ring_board.specs.{Layout.intent_index, Layout.tail_index, Layout.latest_index, Refusals.IsRefusedBy}
use Rattle.ring_board.specs.{Records.Chain, Records.end, Records.end_of, Records.last_of, Closing.IsClosed}
use Rattle.ring_board.proofs.PlaceLemmas.{chain_at, lies_after, lies_whole}
use Rattle.ring_board.proofs.OpeningLemmas.{capacity_whole, multiple}
use Rattle.ring_snapshot.specs.declared.{board_record.BoardRecord.BoardRecord, board_finding.BoardFinding.BoardFinding}
use Rattle.ring_snapshot.{specs.Listing.ok_records, proofs.StepLemmas.listing_ends}
use Rattle.ring_snapshot.specs.BoardRecords.{BoardEntry, entry_at, listing, records_of, from_on, HaveTransmitted, BeginsAt, lap_of, positions_finding}
use Rattle.ring_snapshot.proofs.StoredLemmas.{padding_stands, header_stands, body_stands}
use Rattle.ring_snapshot.proofs.BoardLemmas.{Fit, last_fits, last_high, lap_in, from_on_none, AreKept, from_one}

positions_none : (C intent tail latest : ℕ) → (intent % 8 ≡ 0) × (tail % 8 ≡ 0) × (latest % 8 ≡ 0) → latest ≤ tail
    → tail ≤ intent → tail ≤ latest + room C latest → intent ≤ latest + C
    → positions_finding C intent tail latest ≡ None
positions_none C intent tail latest whole d e f g =
    let x = eq-eqb (intent % 8) 0 whole.0 in let y = eq-eqb (tail % 8) 0 whole.1 in
    let z = eq-eqb (latest % 8) 0 whole.2 in
    cond-false _ _ _ (λ i. not (x i) || not (y i) || not (z i))
    ∙ cond-false _ _ _ (le-ltb tail latest d)
    ∙ cond-false _ _ _ (le-ltb intent tail e)
    ∙ cond-false _ _ _ (le-ltb (latest + room C latest) tail f)
    ∙ cond-false _ _ _ (le-ltb (latest + C) intent g)

module _ (C : ℕ) (ok : IsBoardCapacity C) (words : List ℕ) (sent : List Record) (h : HaveTransmitted C words sent) where
  abbrev intent : ℕ
  intent = slice_index words (intent_index C)

  abbrev tail : ℕ
  tail = slice_index words (tail_index C)

  abbrev latest : ℕ
  latest = slice_index words (latest_index C)

  abbrev start : ℕ
  start = h.0

  closed : IsClosed C start sent words
  closed = h.2

  whole : C % 64 ≡ 0
  whole = capacity_whole C ok

  fit : Fit C (last_of start sent) (end_of start sent)
  fit = let e8 = multiple C start whole h.1 in let at = h.1 in
      last_fits C ok.least whole start start sent closed.places
      (omega arith, omega (arith, at), e8, e8)

  closed_positions : positions_finding C intent tail latest ≡ None
  closed_positions =
      let f = fit in let la = closed.latest in let en = closed.tail in let it = closed.intent in
      let low = f.0 in let inside = f.1 in let l8 = f.2 in let e8 = f.3 in let least = ok.least in
      let in_buffer = mod_below (last_of start sent) C (omega (arith, least)) in
      let far : end_of start sent ≤ last_of start sent + room C (last_of start sent) =
      omega (arith, low, inside, in_buffer) in
      positions_none C intent tail latest (omega (arith, it, e8), omega (arith, en, e8), omega (arith, la, l8))
      (omega (arith, la, en, low)) (omega (arith, it, en))
      (far_at far)
      (omega (arith, it, la, low, inside))
    where
      far_at : end_of start sent ≤ last_of start sent + room C (last_of start sent) → tail ≤ latest + room C latest
      far_at far = subst (λ x. tail ≤ x + room C x) (sym closed.latest)
          (let en = closed.tail in omega (arith, en, far))

  -- positions that were read there are not refused
  pub never_refused : (i t l : ℕ) → i ≡ intent → t ≡ tail → l ≡ latest → (f : BoardFinding)
      → IsRefusedBy {T = Unit {0}} (positions_finding C i t l) (Err f) → ⊥
  never_refused i t l it tl la f refused =
      let none = (λ j. positions_finding C (it j) (tl j) (la j)) ∙ closed_positions in
      let clash : false ≡ true = subst (λ o. IsRefusedBy {T = Unit {0}} o (Err f)) none refused in absurd cc

  -- the transmission that was begun last is done
  pub at_rest : intent ≡ tail
  at_rest = closed.intent ∙ sym closed.tail

  kept : AreKept C words tail sent
  kept k r on = let en = closed.tail in record {
    padding = λ lt near. padding_stands C ok.least whole start sent words closed k r on lt (omega (arith, en, near));
    header = λ near. header_stands C ok.least whole start sent words closed k r on (omega (arith, en, near));
    body = λ near. body_stands C ok.least whole start sent words closed k r on (omega (arith, en, near));
  }

  -- the start of a transmission
  module _ (p : ℕ) (begins : BeginsAt sent tail p) where
    pub begins_whole : p % 8 ≡ 0
    begins_whole = ⊎_elim (λ at. let e8 = fit.3 in let en = closed.tail in omega (arith, at, e8, en))
        (λ t. let f = (chain_at C ok.least whole start sent closed.places t.0 t.1 t.2).0.fits in
        let b8 = f.begins_whole in
        let p8 = lies_whole C t.1.before t.1.before t.1.place (end t.1) f ok.least whole in
        ⊎_elim (λ is. omega (arith, is, b8)) (λ is. omega (arith, is, p8)) t.3)
        begins

    pub begins_low : (p ≤ latest) ⊎ (p ≡ tail)
    begins_low = ⊎_elim (λ at. inr at)
        (λ t. let f = (chain_at C ok.least whole start sent closed.places t.0 t.1 t.2).0.fits in
        let a = lies_after C t.1.before t.1.before t.1.place (end t.1) f ok.least whole in
        let up = place_low start start sent closed.places t.0 t.1 t.2 in let la = closed.latest in
        inl (⊎_elim (λ is. let z : p ≤ latest = omega (arith, is, a, up, la) in z)
        (λ is. let z : p ≤ latest = omega (arith, is, up, la) in z) t.3))
        begins
      where
        place_low : (d e : ℕ) (l : List Record) → Chain C e l → (k : ℕ) (r : Record) → get_elem? l k ≡ some r
            → r.place ≤ last_of d l
        place_low d e [] c k r on = absurd (some-ne-none r (sym on))
        place_low d e (q ∷ qs) c zero r on =
            let so = c.0.fits.some_room in
            let up = last_high C ok.least whole q.place (end q) qs c.1 (omega (arith, so)) in
            subst (λ (x : Record). x.place ≤ last_of q.place qs) (some-injective q r on) up
        place_low d e (q ∷ qs) c (suc k) r on = place_low q.place (end q) qs c.1 k r on

    closed_listed : (m : ℕ) → tail ≤ p + C → tail ≤ p + 8 * m
        → listing C words intent latest tail m p ≡ ok_records (from_on p (records_of C intent sent))
    closed_listed m near enough =
        let told : List BoardRecord → List BoardEntry = λ rs. ok_records rs in
        ⊎_elim (λ at. listing_ends (λ (x : BoardRecord). x.length) (entry_at C words intent latest tail) tail m p
        (omega (arith, at))
        ∙ sym (ap told (from_on_none C intent ok.least whole p start sent closed.places
        (let en = closed.tail in omega (arith, at, en)))))
        (λ t. from_one C ok.least ok.most whole words intent latest tail p start start sent closed.places kept
        (record { last = sym closed.latest; ends = sym closed.tail }) t.0 t.1 (t.2, t.3) m (near, enough))
        begins

    pub closed_listing : tail ≤ p + C
        → listing C words intent latest tail ((tail - p) / 8) p ≡ ok_records (from_on p (records_of C intent sent))
    closed_listing near =
        let w8 = begins_whole in let e8 = fit.3 in let en = closed.tail in
        closed_listed ((tail - p) / 8) near (omega (arith, w8, e8, en))

  -- the running lap
  pub lap_begins : BeginsAt sent tail (lap_of C latest)
  lap_begins = begins_in sent closed.places closed.latest closed.tail
    where
      lap_whole : (x : ℕ) → (x - x % C) % C ≡ 0
      lap_whole x = ap (λ y. y % C) (let d = div-add-mod' x C in
          let e : x - x % C ≡ x / C * C = omega (arith, d) in e) ∙ mul-mod_left (x / C) C

      -- a multiple of the capacity that is not above a position is not above its lap's begin
      lap_reaches : (s x : ℕ) → s % C ≡ 0 → s ≤ x → s ≤ x - x % C
      lap_reaches s x at le = ⊎_elim (λ lt. let least = ok.least in
          let L : ℕ = x - x % C in let below = mod_below x C (omega (arith, least)) in
          let L0 : L % C ≡ 0 = lap_whole x in
          let step = mod_step C L (s - L) (omega (arith, L0, le, below, lt)) in
          let same : L + (s - L) ≡ s = omega (arith, lt) in
          let far : s % C ≡ L % C + (s - L) = ap (λ y. y % C) (sym same) ∙ step in
          absurd (omega (arith, far, at, L0, lt))) (λ ok'. ok') (cases_lt (x - x % C) s)

      begins_in : (l : List Record) → Chain C start l → latest ≡ last_of start l → tail ≡ end_of start l
          → BeginsAt l tail (lap_of C latest)
      begins_in [] c la en =
          inl (let at = h.1 in let same : latest % C ≡ start % C = ap (λ x. x % C) la in
          omega (arith, la, en, at, same))
      begins_in (r ∷ rs) c la en =
          let low = last_high C ok.least whole start start (r ∷ rs) c (omega arith) in
          let reaches : start ≤ lap_of C latest = lap_reaches start latest h.1 (omega (arith, la, low)) in
          let b = c.0.fits.begins in
          ⊎_elim (λ lt. inr (lap_in C ok.least whole (lap_of C latest) (lap_whole latest) start start (r ∷ rs) c
          (lt, reaches, omega (arith, la))))
          (λ le. inr (0, r, refl, inl (omega (arith, le, reaches, b))))
          (cases_lt start (lap_of C latest))

  pub lap_near : tail ≤ lap_of C latest + C
  lap_near = let f = fit in let low = f.0 in let inside = f.1 in let la = closed.latest in let en = closed.tail in
      let same : latest % C ≡ last_of start sent % C = ap (λ x. x % C) la in
      omega (arith, low, inside, la, en, same)
