-- What a call changes: the events of a ring.
use Rattle.std.specs.Prelude.{◌≡◌, ◌≢◌, ℕ, ◌/◌, ◌≤◌, ℤ, List, [], ◌∷◌, ◌++◌, length, replicate, slice_index, if◌then◌else◌, ◌==◌}
use Rattle.ring_layout.specs.{declared.message.Claim.Claim, Layout.tail_index}
use Rattle.ring_layout.specs.declared.message.ClaimState.{ClaimState, TheVariants.Open, TheVariants.Committed}
use Rattle.ring_layout.specs.{History.span_of, History.overwritten, Places.next_place, Places.end_after}
use Rattle.ring_words.specs.Ring.{Ring, Has, head_of, tail_of}

-- a fresh claim with this type id and length: its body is zeros
abbrev pub opened : ℤ → ℕ → Claim
opened type_id len = record { message = record { type_id = type_id; body = replicate len 0 }; state = Open }

-- a claim with a message of this type id and body, committed
abbrev pub written : ℤ → List ℕ → Claim
written type_id body = record { message = record { type_id = type_id; body = body }; state = Committed }

-- the claim with this state
abbrev pub settled_as : ClaimState → Claim → Claim
settled_as state c = record { message = c.message; state = state }

-- the claim with these bytes in its body from the offset on
abbrev pub put_into : ℕ → List ℕ → Claim → Claim
put_into offset bytes c = record {
  message =
      record { type_id = c.message.type_id; body = overwritten offset bytes c.message.body };
  state = c.state;
}

-- of claims that come after e the one at this place is changed
abbrev pub changed_at : ℕ → ℕ → ℕ → (Claim → Claim) → List Claim → List Claim
changed_at C e place change [] = []
changed_at C e place change (c ∷ h) =
    (if next_place C e (span_of c) == place then change c else c)
    ∷ changed_at C (end_after C e (span_of c)) place change h

-- the claim comes to the end of each history that the ring has; of the trailer only the tail changes
pub record AppendsClaim (old : Ring) (c : Claim) (new : Ring) : Type 0 where
  pub capacity : new.capacity ≡ old.capacity
  pub length : length new.words ≡ length old.words
  pub head : head_of new ≡ head_of old
  pub tail : tail_of new ≡ end_after old.capacity (tail_of old) (span_of c)
  pub trailer : (i : ℕ) → old.capacity / 8 ≤ i → i ≢ tail_index old.capacity
      → slice_index new.words i ≡ slice_index old.words i
  pub history : (h : List Claim) → Has old h → Has new (h ++ c ∷ [])

-- the claim at this place is changed in each history that the ring has; the trailer stays, and with it head and tail
pub record ChangesClaim (old : Ring) (place : ℕ) (change : Claim → Claim) (new : Ring) : Type 0 where
  pub capacity : new.capacity ≡ old.capacity
  pub length : length new.words ≡ length old.words
  pub trailer : (i : ℕ) → old.capacity / 8 ≤ i → slice_index new.words i ≡ slice_index old.words i
  pub history : (h : List Claim) → Has old h → Has new (changed_at old.capacity (head_of old) place change h)

-- bytes are put into the claim at this place
abbrev pub PutsInto : Ring → ℕ → ℕ → List ℕ → Ring → Type 0
PutsInto old place offset bytes new = ChangesClaim old place (put_into offset bytes) new

-- the claim at this place is settled
abbrev pub Settles : Ring → ℕ → ClaimState → Ring → Type 0
Settles old place state new = ChangesClaim old place (settled_as state) new
