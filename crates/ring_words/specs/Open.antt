-- Open claims of a ring.
use Rattle.std.specs.Prelude.{◌≡◌, ◌⊎◌, ℕ, ◌+◌, ◌%◌, ℤ, List, [], ◌∷◌, length}
use Rattle.ring_layout.specs.declared.message.{Claim.Claim, ClaimState.TheVariants.Open}
use Rattle.ring_layout.specs.{History.span, History.span_of, Places.next_place, Places.end_after}
use Rattle.ring_words.specs.Ring.{Ring, Has, head_of, tail_of}

-- a claim in the hands of its owner: its place, the byte index of its body, the type id, and the bytes of its body
pub record ClaimAt : Type 0 where
  pub place : ℕ
  pub index : ℕ
  pub type_id : ℤ
  pub len : ℕ

-- the claim of this type id and length that comes next
abbrev pub fresh_claim : Ring → ℤ → ℕ → ClaimAt
fresh_claim r type_id len =
    let place = next_place r.capacity (tail_of r) (span len) in
    record { place = place; index = place % r.capacity + 8; type_id = type_id; len = len }

-- of claims that come after e, c is this one and open
pub record IsOpenClaim (C e : ℕ) (c : Claim) (t : ClaimAt) : Type 0 where
  pub at_place : next_place C e (span_of c) ≡ t.place
  pub is_open : c.state ≡ Open
  pub type_id : c.message.type_id ≡ t.type_id
  pub len : length c.message.body ≡ t.len

-- it is an open one of the claims that come after e
abbrev pub IsOpenIn : ℕ → ℕ → List Claim → ClaimAt → Type 0
IsOpenIn C e [] t = ⊥
IsOpenIn C e (c ∷ h) t = IsOpenClaim C e c t ⊎ IsOpenIn C (end_after C e (span_of c)) h t

-- it is an open one of the ring's claims
pub record IsOpen (r : Ring) (t : ClaimAt) : Type 0 where
  pub index : t.index ≡ t.place % r.capacity + 8
  pub history : List Claim
  pub has : Has r history
  pub is_open : IsOpenIn r.capacity (head_of r) history t
