-- The steps of a listing, of a ring or of a broadcast buffer.
use Rattle.std.proofs.Common.{◌≡◌, ℕ, zero, suc, ◌+◌, ◌-◌, ◌*◌, ◌<◌, ◌≤◌, List, [], ◌∷◌, ◌++◌, refl, ap, sym, ◌∙◌, ⊎_elim, arith, Ok, Err, Result, le-leb, lt-ltb, le-ltb}
use Rattle.std.proofs.lemmas.Bool.{cases_lt, lt-leb, cond-true, cond-false}
use Rattle.ring_layout.specs.Places.{rounded}
use Rattle.ring_snapshot.specs.Listing.{followed, listed_by, after_padding, ok_records}

-- nothing is after the tail
pub listing_ends : {R F : Type 0} (length_of : R → ℕ) (entry : ℕ → Result R F) (tail m at : ℕ) → tail ≤ at
    → listed_by length_of entry tail m at ≡ []
listing_ends length_of entry tail zero at le = refl
listing_ends length_of entry tail (suc m) at le = cond-true _ _ _ (le-leb tail at le)

-- one step of a listing
listing_step : {R F : Type 0} (length_of : R → ℕ) (entry : ℕ → Result R F) (tail m at : ℕ) → at < tail
    → listed_by length_of entry tail (suc m) at
    ≡ followed length_of (listed_by length_of entry tail m) at (entry at)
listing_step length_of entry tail m at lt = cond-false _ _ _ (lt-leb tail at lt)

pub next_ok : {R F : Type 0} (length_of : R → ℕ) (entry : ℕ → Result R F) (tail m at : ℕ) (x : Result R F) (r : R)
    (n span : ℕ) → (0 < m) × (at < tail) → x ≡ entry at → x ≡ Ok r → n ≡ length_of r → span ≡ rounded n
    → listed_by length_of entry tail m at ≡ x ∷ listed_by length_of entry tail (m - 1) (at + span)
next_ok length_of entry tail zero at x r n span before is ok long wide = absurd (omega (arith, before.0))
next_ok length_of entry tail (suc m) at x r n span before is ok long wide =
    listing_step length_of entry tail m at before.1
    ∙ ap (followed length_of (listed_by length_of entry tail m) at) (sym is ∙ ok)
    ∙ ap (λ k. Ok r ∷ listed_by length_of entry tail k (at + rounded (length_of r)))
    (let e : m ≡ suc m - 1 = omega arith in e)
    ∙ ap (λ y. y ∷ listed_by length_of entry tail (suc m - 1) (at + rounded (length_of r))) (sym ok)
    ∙ ap (λ k. x ∷ listed_by length_of entry tail (suc m - 1) (at + k)) (sym (wide ∙ ap rounded long))

pub next_err : {R F : Type 0} (length_of : R → ℕ) (entry : ℕ → Result R F) (tail m at : ℕ) (x : Result R F) (f : F)
    → 0 < m → at < tail → x ≡ entry at → x ≡ Err f
    → listed_by length_of entry tail m at ≡ x ∷ []
next_err length_of entry tail zero at x f some lt is err = absurd (omega (arith, some))
next_err length_of entry tail (suc m) at x f some lt is err =
    listing_step length_of entry tail m at lt
    ∙ ap (followed length_of (listed_by length_of entry tail m) at) (sym is ∙ err)
    ∙ ap (λ y. y ∷ []) (sym err)

-- ---- records and the padding before them

pub padded : {R : Type 0} (before place : ℕ) (pad r : R) (rest : List R) → before < place
    → after_padding before place pad r rest ≡ pad ∷ r ∷ rest
padded before place pad r rest lt =
    ap (λ l. l ++ r ∷ rest) (cond-true _ (pad ∷ []) [] (lt-ltb before place lt))

pub plain : {R : Type 0} (before place : ℕ) (pad r : R) (rest : List R) → place ≤ before
    → after_padding before place pad r rest ≡ r ∷ rest
plain before place pad r rest le = ap (λ l. l ++ r ∷ rest) (cond-false _ (pad ∷ []) [] (le-ltb before place le))

-- this record is from a place up to its end
pub record IsThere {R F : Type 0} (length_of : R → ℕ) (entry : ℕ → Result R F) (tail place end : ℕ) (r : R) : Type 0 where
  pub some_room : place + 8 ≤ end
  pub inside : end ≤ tail
  pub ends : place + rounded (length_of r) ≡ end
  pub there : entry place ≡ Ok r

module _ {R F : Type 0} (length_of : R → ℕ) (entry : ℕ → Result R F) (tail : ℕ) where
  -- it is listed, and what is listed from its end on
  pub from_place : (place end : ℕ) (r : R) (rest : List R) → IsThere length_of entry tail place end r
      → ((m : ℕ) → tail ≤ end + 8 * m → listed_by length_of entry tail m end ≡ ok_records rest)
      → (m : ℕ) → tail ≤ place + 8 * m → listed_by length_of entry tail m place ≡ ok_records (r ∷ rest)
  from_place place end r rest is behind m enough =
      let so = is.some_room in let inside = is.inside in
      next_ok length_of entry tail m place (Ok r) r _ _ (omega (arith, so, inside, enough), omega (arith, so, inside))
      (sym is.there) refl refl refl
      ∙ ap (λ k. Ok r ∷ listed_by length_of entry tail (m - 1) k) is.ends
      ∙ ap (λ xs. Ok r ∷ xs) (behind (m - 1) (omega (arith, so, inside, enough)))

  -- the same from its padding on, if there is any
  pub from_before : (before place end : ℕ) (pad r : R) (rest : List R) → before ≤ place
      → (before < place → IsThere length_of entry tail before place pad) → IsThere length_of entry tail place end r
      → ((m : ℕ) → tail ≤ end + 8 * m → listed_by length_of entry tail m end ≡ ok_records rest)
      → (m : ℕ) → tail ≤ before + 8 * m
      → listed_by length_of entry tail m before ≡ ok_records (after_padding before place pad r rest)
  from_before before place end pad r rest le pads is behind m enough =
      ⊎_elim (λ lt. from_place before place pad (r ∷ rest) (pads lt) (from_place place end r rest is behind) m enough
      ∙ sym (ap (ok_records {R = R} {F = F}) (padded before place pad r rest lt)))
      (λ ge. let at : before ≡ place = omega (arith, le, ge) in
      ap (listed_by length_of entry tail m) at ∙ from_place place end r rest is behind m (omega (arith, enough, at))
      ∙ sym (ap (ok_records {R = R} {F = F}) (plain before place pad r rest ge)))
      (cases_lt before place)
