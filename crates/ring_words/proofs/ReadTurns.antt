-- Turns of a controlled read, at a head where a record or padding is.
use Rattle.std.proofs.Common.{◌≡◌, ◌≢◌, ℕ, ◌+◌, ◌%◌, ◌<◌, ◌≤◌, List, ◌∷◌, ap, sym, ◌∙◌, subst, arith, of_z, Bool, nat_lt, ◌&&◌, ◌==◌, false, Some, w32}
use Rattle.ring_layout.specs.{declared.message.Claim.Claim, declared.message.Message.Message, Headers.padding_type}
use Rattle.ring_words.specs.declared.read.action.Action.{Action, TheVariants.Abort, TheVariants.Break}
use Rattle.ring_words.specs.declared.read.{end.ReadEnd.ReadEnd, end.Stop.Stop, head.Settled.Settled}
use Rattle.ring_words.specs.{Ring.Ring, Ring.Has, Ring.IsRing, Ring.head_of, Read.Broke, Read.Aborts}
use Rattle.ring_words.specs.{Reading.Sees, Reading.SeesCommitted, Reading.Leaves, Reading.MovesHead, Controlled.GoesOn}
use Rattle.ring_words.proofs.ReadLemmas.{ReadsOn, aborts, broke, next_is, reads_on_message, reads_on_quiet}
use Rattle.ring_words.proofs.ReadBranches.{inside_from}

-- neither the limit nor the end of the buffer is reached
pub record GoesTo {S : Type 0} (step : S → Message → S → Action → Type 0) (limit : ℕ) (old mid : Ring) (s t : S)
    (count : ℕ) : Type 0 where
  pub ring : IsRing mid
  pub reads : ReadsOn step limit old mid s t count
  pub below : count < limit
  pub inside : head_of old < head_of mid → head_of mid % old.capacity ≢ 0

pub goes_to : {S : Type 0} {step : S → Message → S → Action → Type 0} {limit start : ℕ} {old mid : Ring} {s t : S}
    {count : ℕ} {at_end : Bool} → IsRing mid → ReadsOn step limit old mid s t count → start ≡ head_of old
    → count ≤ limit → count ≢ limit → at_end ≡ (nat_lt start (head_of mid) && (head_of mid % mid.capacity == 0))
    → at_end ≡ false → GoesTo step limit old mid s t count
goes_to {S} {step} {limit} {start} {old} {mid} ok on from few below test before = record {
  ring = ok;
  reads = on;
  below = omega (arith, few, below);
  inside = λ lt. subst (λ (k : ℕ). head_of mid % k ≢ 0) on.0.moves.capacity
      (inside_from mid.capacity start (head_of mid) (sym test ∙ before) (omega (arith, from, lt)));
}

module _ {S : Type 0} {step : S → Message → S → Action → Type 0} {limit : ℕ} {old mid : Ring} {s t : S} {count : ℕ}
    (q : GoesTo step limit old mid s t count) where
  apart : count ≢ limit
  apart = λ e. omega (arith, q.below, e)

  -- padding or an aborted record is passed
  pub goes_past : {new : Ring} {settled : Settled} → MovesHead mid new
      → ((h : List Claim) → Has mid h → Leaves mid h settled new) → settled.type_id ≡ padding_type
      → ReadsOn step limit old new s t count
  goes_past {new} {settled} moved left quiet =
      reads_on_quiet step limit old mid new s t count settled q.ring q.reads apart q.inside moved left quiet

  -- a message is shown, and the handler gives the ring back as it was
  module _ {settled : Settled} {lent : Ring} {u : S} {a : Action} (loud : of_z w32 settled.type_id ≢ 4294967295)
      (same : lent ≡ mid)
      (e : (m : Message) × step t m u a
      × ((x : Claim) (r : List Claim) → Has mid (x ∷ r) → SeesCommitted mid x settled → x.message ≡ m)) where
    is_message : settled.type_id ≢ padding_type
    is_message = λ p. loud (ap (of_z w32) p)

    module _ {new : Ring} (moves : MovesHead lent new)
        (leaves : (h : List Claim) → Has lent h → Leaves lent h settled new) where
      moved : MovesHead mid new
      moved = subst (λ (r : Ring). MovesHead r new) same moves

      left : (h : List Claim) → Has mid h → Leaves mid h settled new
      left = subst (λ (r : Ring). (h : List Claim) → Has r h → Leaves r h settled new) same leaves

      pub goes_on_past : GoesOn a → ReadsOn step limit old new s u (count + 1)
      goes_on_past goes = reads_on_message step limit old mid new s t count settled q.ring q.reads apart q.inside moved
          left e.0 a u is_message e.1 e.2 goes

      pub breaks : {end : ReadEnd} → a ≡ Break → end.messages ≡ count + 1 → end.stopped ≡ Stop.Action
          → Broke step limit old new s u end
      breaks {end} is n stop = broke step limit old mid new s t count settled q.ring q.reads apart q.inside moved left
          e.0 a u is_message e.1 e.2 end is n stop

    -- and it is left
    pub leaves_it : {end : ReadEnd} → ((h : List Claim) → Has mid h → Sees mid h (Some settled)) → a ≡ Abort
        → end.messages ≡ count → end.stopped ≡ Stop.Action → Aborts step limit old lent s u end
    leaves_it {end} sees is n stop =
        let next = next_is mid e.0 settled is_message sees e.2 in
        let inside : head_of old < head_of mid → head_of mid % mid.capacity ≢ 0 =
        λ lt. subst (λ (k : ℕ). head_of mid % k ≢ 0) (sym q.reads.0.moves.capacity) (q.inside lt) in
        subst (λ (r : Ring). Aborts step limit old r s u end) (sym same)
        (aborts q.reads n is e.1 next q.below inside stop)
